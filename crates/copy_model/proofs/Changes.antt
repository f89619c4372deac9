-- A change attribute names the contents of its file. What a volume reads and what a crash may leave are pairs of
-- an attribute and bytes; a step leaves the pairs that were there, and that of the write it makes, whose
-- attribute is above all others.
use Rattle.std.proofs.Common.{◌≡◌, ◌⊎◌, inl, inr, ⊎_elim, ℕ, zero, suc, ◌+◌, ◌^◌, ◌<◌, ◌≤◌, Option, None, Some, List, [], ◌∷◌, length, get_or, replicate, refl, sym, ◌∙◌, ap, subst, arith}
use Rattle.std.proofs.lemmas.Bool.{cases_eq, cases_lt}
use Rattle.std.proofs.lemmas.List.{length-replicate, get_or-replicate, get_or_past, get_or-set_same, get_or-set_other, set_past}
use Rattle.copy_model.specs.Volume.{File, Doubt, Volume, Kept, Old, New, no_file, formatted, file_at, byte_at, change_of, written, write, committed, commit, fail_commit, settled, crash}
use Rattle.copy_model.specs.Effect.{Effect, Rests, Writes, Commits, WriteFails, CommitFails, Crashes, after, IsAllowed, IsVolumeRun}
use Rattle.copy_model.proofs.Bytes.{file_at-write, file_at-write_other, file_at-commit, file_at-commit_other, file_at-crash}
use Rattle.copy_model.proofs.Later.{at_or_before, from_on}

-- a change attribute and the bytes that go with it: those now, those that are safe, or those in doubt
abbrev Read : File → ℕ → List ℕ → Type 0
Read f c bs = (f.change ≡ c) × (f.now ≡ bs)

abbrev Left : File → ℕ → List ℕ → Type 0
Left f c bs = (f.safe_change ≡ c) × (f.safe ≡ bs)

abbrev InDoubt : Volume → ℕ → ℕ → List ℕ → Type 0
InDoubt v file c bs = (d : Doubt) × (v.doubt ≡ Some d) × (d.file ≡ file) × (d.change ≡ c) × (d.bytes ≡ bs)

abbrev HasPair : Volume → ℕ → ℕ → List ℕ → Type 0
HasPair v file c bs = Read (file_at v file) c bs ⊎ (Left (file_at v file) c bs ⊎ InDoubt v file c bs)

-- the attribute of the latest write
abbrev stamp : Volume → ℕ
stamp v = change_of v.boot v.writes

-- a pair of the write that a step makes
abbrev IsNewPair : Volume → Volume → ℕ → ℕ → List ℕ → Type 0
IsNewPair v w file c bs = (stamp v < c) × (c ≤ stamp w) × ((file_at w file).now ≡ bs)

abbrev OldOrNew : Volume → Volume → ℕ → ℕ → List ℕ → Type 0
OldOrNew v w file c bs = HasPair v file c bs ⊎ IsNewPair v w file c bs

written_pair : (v : Volume) (at off b : ℕ) (bs' : List ℕ) (file c : ℕ) (bs : List ℕ) → at < length v.files
    → HasPair (write v at off (b ∷ bs')) file c bs → OldOrNew v (write v at off (b ∷ bs')) file c bs
written_pair v at off b bs' file c bs there (inl read) =
    ⊎_elim
    (λ (same : at ≡ file).
    let f = subst (λ i. file_at (write v at off (b ∷ bs')) i ≡ written (file_at v at) off (b ∷ bs') (change_of v.boot (v.writes + 1))) same (file_at-write v at off b bs' there) in
    let new : c ≡ change_of v.boot (v.writes + 1) = sym read.0 ∙ ap (λ (x : File). x.change) f in
    inr (omega arith, omega arith, read.1))
    (λ (apart : at ≡ file → ⊥).
    let f = file_at-write_other v at off (b ∷ bs') file (λ e. apart (sym e)) in
    inl (inl (subst (λ (x : File). Read x c bs) f read)))
    (cases_eq at file)
written_pair v at off b bs' file c bs there (inr (inl left)) =
    ⊎_elim
    (λ (same : at ≡ file).
    let f = subst (λ i. file_at (write v at off (b ∷ bs')) i ≡ written (file_at v i) off (b ∷ bs') (change_of v.boot (v.writes + 1))) same (file_at-write v at off b bs' there) in
    inl (inr (inl (subst (λ (x : File). Left x c bs) f left))))
    (λ (apart : at ≡ file → ⊥).
    let f = file_at-write_other v at off (b ∷ bs') file (λ e. apart (sym e)) in
    inl (inr (inl (subst (λ (x : File). Left x c bs) f left))))
    (cases_eq at file)
written_pair v at off b bs' file c bs there (inr (inr doubt)) = inl (inr (inr doubt))

committed_pair : (v : Volume) (at file c : ℕ) (bs : List ℕ) → HasPair (commit v at) file c bs → HasPair v file c bs
committed_pair v at file c bs (inl read) =
    ⊎_elim
    (λ (same : at ≡ file).
    inl (subst (λ (x : File). Read x c bs) (subst (λ i. file_at (commit v at) i ≡ committed (file_at v i)) same (file_at-commit v at)) read))
    (λ (apart : at ≡ file → ⊥). inl (subst (λ (x : File). Read x c bs) (file_at-commit_other v at file (λ e. apart (sym e))) read))
    (cases_eq at file)
committed_pair v at file c bs (inr (inl left)) =
    ⊎_elim
    (λ (same : at ≡ file).
    inl (subst (λ (x : File). Left x c bs) (subst (λ i. file_at (commit v at) i ≡ committed (file_at v i)) same (file_at-commit v at)) left))
    (λ (apart : at ≡ file → ⊥). inr (inl (subst (λ (x : File). Left x c bs) (file_at-commit_other v at file (λ e. apart (sym e))) left)))
    (cases_eq at file)
committed_pair v at file c bs (inr (inr doubt)) = inr (inr doubt)

-- what a failed commit was making safe is what was read
doubted_pair : (v : Volume) (at file c : ℕ) (bs : List ℕ) → InDoubt (fail_commit v at) file c bs → Read (file_at v file) c bs
doubted_pair v at file c bs doubt =
    let d = doubt.0 in
    let own : Some (record { file = at; bytes = (file_at v at).now; change = (file_at v at).change }) ≡ Some d = doubt.1 in
    let same : at ≡ file = ap file_of own ∙ doubt.2 in
    subst (λ i. Read (file_at v i) c bs) same (ap change_in own ∙ doubt.3, ap bytes_of own ∙ doubt.4)
  where
    file_of : Option Doubt → ℕ
    file_of None = 0
    file_of (Some x) = x.file

    change_in : Option Doubt → ℕ
    change_in None = 0
    change_in (Some x) = x.change

    bytes_of : Option Doubt → List ℕ
    bytes_of None = []
    bytes_of (Some x) = x.bytes

failed_pair : (v : Volume) (at file c : ℕ) (bs : List ℕ) → HasPair (fail_commit v at) file c bs → HasPair v file c bs
failed_pair v at file c bs (inl read) = inl read
failed_pair v at file c bs (inr (inl left)) = inr (inl left)
failed_pair v at file c bs (inr (inr doubt)) = inl (doubted_pair v at file c bs doubt)

-- what a crash leaves was safe or in doubt
settled_pair : (files : List File) (doubt : Option Doubt) (kept : Kept) (file c : ℕ) (bs : List ℕ)
    → Left (get_or (settled files doubt kept) file no_file) c bs
    → Left (get_or files file no_file) c bs ⊎ ((d : Doubt) × (doubt ≡ Some d) × (d.file ≡ file) × (d.change ≡ c) × (d.bytes ≡ bs))
settled_pair files None kept file c bs left = inl left
settled_pair files (Some d) Old file c bs left = inl left
settled_pair files (Some d) New file c bs left =
    ⊎_elim
    (λ (there : d.file < length files). ⊎_elim
    (λ (same : d.file ≡ file).
    let f = subst (λ i. get_or (settled files (Some d) New) i no_file ≡ record (get_or files d.file no_file) { safe = d.bytes; safe_change = d.change }) same (get_or-set_same files d.file _ no_file there) in
    let is = subst (λ (x : File). Left x c bs) f left in
    inr (d, refl, same, is.0, is.1))
    (λ (apart : d.file ≡ file → ⊥).
    inl (subst (λ (x : File). Left x c bs) (get_or-set_other files d.file file _ no_file (λ e. apart (sym e))) left))
    (cases_eq d.file file))
    (λ (missing : length files ≤ d.file). inl (subst (λ (l : List File). Left (get_or l file no_file) c bs) (set_past files d.file _ missing) left))
    (cases_lt d.file (length files))

crashed_pair : (v : Volume) (kept : Kept) (file c : ℕ) (bs : List ℕ) → HasPair (crash v kept) file c bs → HasPair v file c bs
crashed_pair v kept file c bs (inl read) =
    inr (settled_pair v.files v.doubt kept file c bs (subst (λ (x : File). Read x c bs) (file_at-crash v kept file) read))
crashed_pair v kept file c bs (inr (inl left)) =
    inr (settled_pair v.files v.doubt kept file c bs (subst (λ (x : File). Left x c bs) (file_at-crash v kept file) left))
crashed_pair v kept file c bs (inr (inr doubt)) = absurd (let none = doubt.1 in cc)

pair_after : (v : Volume) (e : Effect) (file c : ℕ) (bs : List ℕ) → IsAllowed v e → HasPair (after v e) file c bs → OldOrNew v (after v e) file c bs
pair_after v Rests file c bs allowed pair = inl pair
pair_after v (Writes at off []) file c bs allowed pair = inl pair
pair_after v (Writes at off (b ∷ bs')) file c bs allowed pair = written_pair v at off b bs' file c bs allowed.0.1 pair
pair_after v (Commits at) file c bs allowed pair = inl (committed_pair v at file c bs pair)
pair_after v WriteFails file c bs allowed pair = inl pair
pair_after v (CommitFails at) file c bs allowed pair = inl (failed_pair v at file c bs pair)
pair_after v (Crashes None kept) file c bs allowed pair = inl (crashed_pair v kept file c bs pair)
pair_after v (Crashes (Some at) kept) file c bs allowed pair =
    inl (failed_pair v at file c bs (crashed_pair (fail_commit v at) kept file c bs pair))

-- the count of writes fits its part of an attribute
count_after : (v : Volume) (e : Effect) → IsAllowed v e → v.writes < 2 ^ 32 → (after v e).writes < 2 ^ 32
count_after v Rests allowed few = few
count_after v (Writes at off []) allowed few = few
count_after v (Writes at off (b ∷ bs)) allowed few = let room = allowed.1 in omega arith
count_after v (Commits at) allowed few = few
count_after v WriteFails allowed few = few
count_after v (CommitFails at) allowed few = few
count_after v (Crashes under kept) allowed few = omega arith

stamp_rises : (v : Volume) (e : Effect) → v.writes < 2 ^ 32 → stamp v ≤ stamp (after v e)
stamp_rises v Rests few = omega arith
stamp_rises v (Writes at off []) few = omega arith
stamp_rises v (Writes at off (b ∷ bs)) few = omega arith
stamp_rises v (Commits at) few = omega arith
stamp_rises v WriteFails few = omega arith
stamp_rises v (CommitFails at) few = omega arith
stamp_rises v (Crashes None kept) few = omega arith
stamp_rises v (Crashes (Some at) kept) few = omega arith

boot_after : (v : Volume) (e : Effect) → v.boot ≤ (after v e).boot
boot_after v Rests = omega arith
boot_after v (Writes at off []) = omega arith
boot_after v (Writes at off (b ∷ bs)) = omega arith
boot_after v (Commits at) = omega arith
boot_after v WriteFails = omega arith
boot_after v (CommitFails at) = omega arith
boot_after v (Crashes None kept) = omega arith
boot_after v (Crashes (Some at) kept) = omega arith

-- within an opening the attribute of a file never falls
change_after : (v : Volume) (e : Effect) (file : ℕ) → IsAllowed v e → (file_at v file).change ≤ stamp v → (after v e).boot ≡ v.boot
    → (file_at v file).change ≤ (file_at (after v e) file).change
change_after v Rests file allowed below same = omega arith
change_after v (Writes at off []) file allowed below same = omega arith
change_after v (Writes at off (b ∷ bs)) file allowed below same =
    ⊎_elim
    (λ (here : at ≡ file).
    let f = subst (λ i. file_at (write v at off (b ∷ bs)) i ≡ written (file_at v at) off (b ∷ bs) (change_of v.boot (v.writes + 1))) here (file_at-write v at off b bs allowed.0.1) in
    let is = ap (λ (x : File). x.change) f in
    omega arith)
    (λ (apart : at ≡ file → ⊥).
    let is = ap (λ (x : File). x.change) (file_at-write_other v at off (b ∷ bs) file (λ e. apart (sym e))) in
    omega arith)
    (cases_eq at file)
change_after v (Commits at) file allowed below same =
    ⊎_elim
    (λ (here : at ≡ file).
    let is = ap (λ (x : File). x.change) (subst (λ i. file_at (commit v at) i ≡ committed (file_at v i)) here (file_at-commit v at)) in
    omega arith)
    (λ (apart : at ≡ file → ⊥).
    let is = ap (λ (x : File). x.change) (file_at-commit_other v at file (λ e. apart (sym e))) in
    omega arith)
    (cases_eq at file)
change_after v WriteFails file allowed below same = omega arith
change_after v (CommitFails at) file allowed below same = omega arith
change_after v (Crashes None kept) file allowed below same = absurd (omega arith)
change_after v (Crashes (Some at) kept) file allowed below same = absurd (omega arith)

empty_at : (files capacity file : ℕ) → file_at (formatted files capacity) file ≡ no_file
empty_at files capacity file =
    ⊎_elim
    (λ (there : file < files + 1). get_or-replicate (files + 1) file no_file no_file there)
    (λ (missing : files + 1 ≤ file). get_or_past (replicate (files + 1) no_file) file no_file (omega (arith, length-replicate (files + 1) no_file)))
    (cases_lt file (files + 1))

-- all pairs of a formatted volume are one
first_pair : (files capacity file c : ℕ) (bs : List ℕ) → HasPair (formatted files capacity) file c bs → (c ≡ 0) × (bs ≡ [])
first_pair files capacity file c bs (inl read) =
    let is = subst (λ (x : File). Read x c bs) (empty_at files capacity file) read in
    (sym is.0, sym is.1)
first_pair files capacity file c bs (inr (inl left)) =
    let is = subst (λ (x : File). Left x c bs) (empty_at files capacity file) left in
    (sym is.0, sym is.1)
first_pair files capacity file c bs (inr (inr doubt)) = absurd (let none = doubt.1 in cc)

module _ (volume : ℕ → Volume) (effect : ℕ → Effect) (run : IsVolumeRun volume effect) where
  few_writes : (k : ℕ) → (volume k).writes < 2 ^ 32
  few_writes zero = let start = ap (λ (v : Volume). v.writes) run.start in omega arith
  few_writes (suc k) =
      subst (λ (v : Volume). v.writes < 2 ^ 32) (sym (run.goes_on k)) (count_after (volume k) (effect k) (run.allowed k) (few_writes k))

  stamps_rise : (i k : ℕ) → i ≤ k → stamp (volume i) ≤ stamp (volume k)
  stamps_rise i k le =
      from_on
      (λ n. stamp (volume i) ≤ stamp (volume n))
      i
      (omega arith)
      (λ n after_ so_far.
      let rises = subst (λ (v : Volume). stamp (volume n) ≤ stamp v) (sym (run.goes_on n)) (stamp_rises (volume n) (effect n) (few_writes n)) in
      omega arith)
      k
      le

  pair_at : (k file c : ℕ) (bs : List ℕ) → HasPair (volume (suc k)) file c bs → OldOrNew (volume k) (volume (suc k)) file c bs
  pair_at k file c bs =
      subst
      (λ (v : Volume). HasPair v file c bs → OldOrNew (volume k) v file c bs)
      (sym (run.goes_on k))
      (pair_after (volume k) (effect k) file c bs (run.allowed k))

  bounded : (k file c : ℕ) (bs : List ℕ) → HasPair (volume k) file c bs → c ≤ stamp (volume k)
  bounded zero file c bs pair =
      let first = (first_pair run.files run.capacity file c bs (subst (λ (v : Volume). HasPair v file c bs) run.start pair)).0 in
      omega arith
  bounded (suc k) file c bs pair =
      ⊎_elim
      (λ (old : HasPair (volume k) file c bs). let low = bounded k file c bs old in let rises = stamps_rise k (suc k) (omega arith) in omega arith)
      (λ (new : IsNewPair (volume k) (volume (suc k)) file c bs). new.1)
      (pair_at k file c bs pair)

  one_contents : (k i file c : ℕ) (bs bs' : List ℕ) → i ≤ k → HasPair (volume i) file c bs → HasPair (volume k) file c bs' → bs ≡ bs'
  one_contents zero i file c bs bs' le first then_ =
      let here = subst (λ n. HasPair (volume n) file c bs) (let none : i ≡ 0 = omega arith in none) first in
      let a = first_pair run.files run.capacity file c bs (subst (λ (v : Volume). HasPair v file c bs) run.start here) in
      let b = first_pair run.files run.capacity file c bs' (subst (λ (v : Volume). HasPair v file c bs') run.start then_) in
      a.1 ∙ sym b.1
  one_contents (suc k) i file c bs bs' le first then_ =
      ⊎_elim
      (λ (before : i ≤ k). ⊎_elim
      (λ (old : HasPair (volume k) file c bs'). one_contents k i file c bs bs' before first old)
      (λ (new : IsNewPair (volume k) (volume (suc k)) file c bs').
      let low = bounded i file c bs first in
      let rises = stamps_rise i k before in
      let high = new.0 in
      absurd (omega arith))
      (pair_at k file c bs' then_))
      (λ (now : i ≡ suc k).
      let here = subst (λ n. HasPair (volume n) file c bs) now first in
      ⊎_elim
      (λ (old : HasPair (volume k) file c bs). ⊎_elim
      (λ (old' : HasPair (volume k) file c bs'). one_contents k k file c bs bs' (omega arith) old old')
      (λ (new' : IsNewPair (volume k) (volume (suc k)) file c bs').
      let low = bounded k file c bs old in
      let high = new'.0 in
      absurd (omega arith))
      (pair_at k file c bs' then_))
      (λ (new : IsNewPair (volume k) (volume (suc k)) file c bs). ⊎_elim
      (λ (old' : HasPair (volume k) file c bs').
      let low = bounded k file c bs' old' in
      let high = new.0 in
      absurd (omega arith))
      (λ (new' : IsNewPair (volume k) (volume (suc k)) file c bs'). sym new.2 ∙ new'.2)
      (pair_at k file c bs' then_))
      (pair_at k file c bs here))
      (at_or_before i k le)

  either_order : (i k : ℕ) → (i ≤ k) ⊎ (k ≤ i)
  either_order i k = grind arith

  pub same_contents : (i k file place : ℕ) → (file_at (volume i) file).change ≡ (file_at (volume k) file).change
      → byte_at (file_at (volume i) file).now place ≡ byte_at (file_at (volume k) file).now place
  same_contents i k file place same =
      let c = (file_at (volume k) file).change in
      let first : HasPair (volume i) file c (file_at (volume i) file).now = inl (same, refl) in
      let then_ : HasPair (volume k) file c (file_at (volume k) file).now = inl (refl, refl) in
      ap
      (λ (l : List ℕ). byte_at l place)
      (⊎_elim
      (λ (before : i ≤ k). one_contents k i file c _ _ before first then_)
      (λ (after_ : k ≤ i). sym (one_contents i k file c _ _ after_ then_ first))
      (either_order i k))

  pub boots_rise : (i k : ℕ) → i ≤ k → (volume i).boot ≤ (volume k).boot
  boots_rise i k le =
      from_on
      (λ n. (volume i).boot ≤ (volume n).boot)
      i
      (omega arith)
      (λ n after_ so_far.
      let rises = subst (λ (v : Volume). (volume n).boot ≤ v.boot) (sym (run.goes_on n)) (boot_after (volume n) (effect n)) in
      omega arith)
      k
      le

  pub changes_rise : (i k file : ℕ) → i ≤ k → (volume i).boot ≡ (volume k).boot → (file_at (volume i) file).change ≤ (file_at (volume k) file).change
  changes_rise i k file le =
      from_on
      (λ n. (volume i).boot ≡ (volume n).boot → (file_at (volume i) file).change ≤ (file_at (volume n) file).change)
      i
      (λ same. omega arith)
      (λ n after_ so_far same.
      let low = boots_rise i n after_ in
      let high = boots_rise n (suc n) (omega arith) in
      let early = so_far (omega arith) in
      let below = bounded n file (file_at (volume n) file).change (file_at (volume n) file).now (inl (refl, refl)) in
      let rises = subst (λ (v : Volume). v.boot ≡ (volume n).boot → (file_at (volume n) file).change ≤ (file_at v file).change) (sym (run.goes_on n)) (change_after (volume n) (effect n) file (run.allowed n) below) in
      let now = rises (omega arith) in
      omega arith)
      k
      le
