-- Counts of set flags, and of the bytes of their chunks.
use Rattle.std.proofs.Common.{◌≡◌, ℕ, zero, suc, ◌+◌, ◌-◌, ◌*◌, ◌<◌, ◌≤◌, min, Bool, true, false, List, [], ◌∷◌, length, set, replicate, refl, ap, arith}
use Rattle.copy_model.specs.Job.{chunk_len, chunk_size, chunks_of}
use Rattle.job_log.specs.Bits.{flag}
use Rattle.job_log.specs.Kept.{count_set, bytes_set}

pub count_set-le-length : (fs : List Bool) → count_set fs ≤ length fs
count_set-le-length [] = omega arith
count_set-le-length (true ∷ fs) = let h = count_set-le-length fs in omega arith
count_set-le-length (false ∷ fs) = let h = count_set-le-length fs in omega arith

pub count_set-set : (fs : List Bool) (at : ℕ) → at < length fs → flag fs at ≡ false → count_set (set fs at true) ≡ count_set fs + 1
count_set-set [] at lt e = absurd (omega arith)
count_set-set (true ∷ fs) zero lt e = absurd (cc)
count_set-set (false ∷ fs) zero lt e = omega arith
count_set-set (true ∷ fs) (suc at) lt e = let h = count_set-set fs at (omega arith) e in omega arith
count_set-set (false ∷ fs) (suc at) lt e = count_set-set fs at (omega arith) e

pub bytes_set-bound : (total i : ℕ) (fs : List Bool) → bytes_set total i fs ≤ total - min total (i * chunk_size)
bytes_set-bound total i [] = omega arith
bytes_set-bound total i (true ∷ fs) = let h = bytes_set-bound total (i + 1) fs in omega arith
bytes_set-bound total i (false ∷ fs) = let h = bytes_set-bound total (i + 1) fs in omega arith

pub bytes_set-set : (total i : ℕ) (fs : List Bool) (at off : ℕ) → at < length fs → flag fs at ≡ false → off ≡ (i + at) * chunk_size
    → bytes_set total i (set fs at true) ≡ bytes_set total i fs + chunk_len total off
bytes_set-set total i [] at off lt e s = absurd (omega arith)
bytes_set-set total i (true ∷ fs) zero off lt e s = absurd (cc)
bytes_set-set total i (false ∷ fs) zero off lt e s = let o : off ≡ i * chunk_size = omega arith in rw o (omega arith)
bytes_set-set total i (true ∷ fs) (suc at) off lt e s =
    let h = bytes_set-set total (i + 1) fs at off (omega arith) e (omega arith) in omega arith
bytes_set-set total i (false ∷ fs) (suc at) off lt e s = bytes_set-set total (i + 1) fs at off (omega arith) e (omega arith)

-- where the flags of all chunks are set, their bytes are those of the range
pub bytes_of_all : (total i : ℕ) (fs : List Bool) → i + length fs ≡ chunks_of total → ((j : ℕ) → j < length fs → flag fs j ≡ true) → bytes_set total i fs ≡ total - i * chunk_size
bytes_of_all total i [] n all = omega arith
bytes_of_all total i (true ∷ fs) n all =
    let h = bytes_of_all total (i + 1) fs (omega arith) (λ j lt. all (suc j) (omega arith)) in omega arith
bytes_of_all total i (false ∷ fs) n all = absurd (let e : false ≡ true = all 0 (omega arith) in cc)

-- and where the bytes are, each flag is set
pub all_of_bytes : (total i : ℕ) (fs : List Bool) → i + length fs ≡ chunks_of total → bytes_set total i fs ≡ total - i * chunk_size → (j : ℕ) → j < length fs → flag fs j ≡ true
all_of_bytes total i [] n is j lt = absurd (omega arith)
all_of_bytes total i (true ∷ fs) n is zero lt = refl
all_of_bytes total i (true ∷ fs) n is (suc j) lt =
    let h = bytes_set-bound total (i + 1) fs in
    all_of_bytes total (i + 1) fs (omega arith) (omega arith) j (omega arith)
all_of_bytes total i (false ∷ fs) n is j lt =
    let h = bytes_set-bound total (i + 1) fs in absurd (omega arith)

pub count_none : (n : ℕ) → count_set (replicate n false) ≡ 0
count_none zero = refl
count_none (suc n) = count_none n

pub bytes_none : (total i n : ℕ) → bytes_set total i (replicate n false) ≡ 0
bytes_none total i zero = refl
bytes_none total i (suc n) = bytes_none total (i + 1) n

pub flag_none : (n i : ℕ) → flag (replicate n false) i ≡ false
flag_none zero zero = refl
flag_none zero (suc i) = refl
flag_none (suc n) zero = refl
flag_none (suc n) (suc i) = flag_none n i

pub length_none : (n : ℕ) → length (replicate n false) ≡ n
length_none zero = refl
length_none (suc n) = ap (λ (k : ℕ). suc k) (length_none n)
