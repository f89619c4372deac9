-- Bytes of lists that volumes write and read, and files after writes, commits and crashes.
use Rattle.std.proofs.Common.{◌≡◌, ⊎_elim, ℕ, ◌+◌, ◌-◌, ◌<◌, ◌≤◌, max, Option, None, Some, List, [], ◌∷◌, ◌++◌, length, get_or, set, take, drop, map, replicate, refl, sym, ◌∙◌, ap, arith, length-append, length-drop}
use Rattle.std.proofs.lemmas.Bool.{cases_lt}
use Rattle.std.proofs.lemmas.List.{length-take-le, get_or_append_left, get_or-append_right, get_or-take, get_or-drop, get_or-replicate, get_or_past, get_or-set_same, get_or-set_other, get_or-map, set_past, length-map, length-replicate, ext_get_or}
use Rattle.copy_model.specs.Volume.{File, Doubt, Volume, no_file, file_at, byte_at, bytes_at, with_bytes_at, change_of, written, write, committed, commit, fail_commit, Kept, Old, New, settled, recovered, crash}

byte_at-zeros : (n place : ℕ) → byte_at (replicate n 0) place ≡ 0
byte_at-zeros n place =
    ⊎_elim
    (λ (inside : place < n). get_or-replicate n place 0 0 inside)
    (λ (past : n ≤ place). get_or_past (replicate n 0) place 0 (omega (arith, length-replicate {A = ℕ} n 0)))
    (cases_lt place n)

-- zeros at the end change no byte
pub byte_at-padded : (bytes : List ℕ) (n place : ℕ) → byte_at (bytes ++ replicate n 0) place ≡ byte_at bytes place
byte_at-padded bytes n place =
    ⊎_elim
    (λ (inside : place < length bytes). get_or_append_left bytes (replicate n 0) 0 place inside)
    (λ (past : length bytes ≤ place). get_or-append_right bytes (replicate n 0) (length bytes) place 0 refl past ∙ byte_at-zeros n (place - length bytes) ∙ sym (get_or_past bytes place 0 past))
    (cases_lt place (length bytes))

-- what stands before a piece that is written at off
abbrev front : List ℕ → ℕ → List ℕ
front bytes off = take off (bytes ++ replicate off 0)

length-front : (bytes : List ℕ) (off : ℕ) → length (front bytes off) ≡ off
length-front bytes off =
    length-take-le off (bytes ++ replicate off 0) (omega (arith, length-append bytes (replicate off 0), length-replicate {A = ℕ} off 0))

pub length-with_bytes_at : (bytes : List ℕ) (off : ℕ) (piece : List ℕ) → length (with_bytes_at bytes off piece) ≡ max (length bytes) (off + length piece)
length-with_bytes_at bytes off piece =
    omega (arith, length-append (front bytes off) (piece ++ drop (off + length piece) bytes), length-front bytes off, length-append piece (drop (off + length piece) bytes), length-drop (off + length piece) bytes)

pub byte_at-with_bytes_at_before : (bytes : List ℕ) (off : ℕ) (piece : List ℕ) (place : ℕ) → place < off → byte_at (with_bytes_at bytes off piece) place ≡ byte_at bytes place
byte_at-with_bytes_at_before bytes off piece place before =
    get_or_append_left (front bytes off) (piece ++ drop (off + length piece) bytes) 0 place (omega (arith, length-front bytes off)) ∙ get_or-take off (bytes ++ replicate off 0) place 0 before ∙ byte_at-padded bytes off place

pub byte_at-with_bytes_at_within : (bytes : List ℕ) (off : ℕ) (piece : List ℕ) (k : ℕ) → k < length piece → byte_at (with_bytes_at bytes off piece) (off + k) ≡ byte_at piece k
byte_at-with_bytes_at_within bytes off piece k within =
    let rest = drop (off + length piece) bytes in
    let there : off + k - off ≡ k = omega arith in
    get_or-append_right (front bytes off) (piece ++ rest) off (off + k) 0 (length-front bytes off) (omega arith) ∙ ap (λ i. byte_at (piece ++ rest) i) there ∙ get_or_append_left piece rest 0 k within

pub byte_at-with_bytes_at_behind : (bytes : List ℕ) (off : ℕ) (piece : List ℕ) (place : ℕ) → off + length piece ≤ place → byte_at (with_bytes_at bytes off piece) place ≡ byte_at bytes place
byte_at-with_bytes_at_behind bytes off piece place behind =
    let rest = drop (off + length piece) bytes in
    let there : (off + length piece) + (place - off - length piece) ≡ place = omega arith in
    get_or-append_right (front bytes off) (piece ++ rest) off place 0 (length-front bytes off) (omega arith) ∙ get_or-append_right piece rest (length piece) (place - off) 0 refl (omega arith) ∙ get_or-drop (off + length piece) bytes (place - off - length piece) 0 ∙ ap (λ i. byte_at bytes i) there

pub length-bytes_at : (bytes : List ℕ) (off len : ℕ) → length (bytes_at bytes off len) ≡ len
length-bytes_at bytes off len =
    length-take-le len (drop off bytes ++ replicate len 0) (omega (arith, length-append (drop off bytes) (replicate len 0), length-replicate {A = ℕ} len 0))

pub byte_at-bytes_at : (bytes : List ℕ) (off len k : ℕ) → k < len → byte_at (bytes_at bytes off len) k ≡ byte_at bytes (off + k)
byte_at-bytes_at bytes off len k within =
    get_or-take len (drop off bytes ++ replicate len 0) k 0 within ∙ byte_at-padded (drop off bytes) len k ∙ get_or-drop off bytes k 0

-- a piece that was written reads back
pub bytes_at-with_bytes_at : (bytes : List ℕ) (off : ℕ) (piece : List ℕ) → bytes_at (with_bytes_at bytes off piece) off (length piece) ≡ piece
bytes_at-with_bytes_at bytes off piece =
    let read = bytes_at (with_bytes_at bytes off piece) off (length piece) in
    let long = length-bytes_at (with_bytes_at bytes off piece) off (length piece) in
    ext_get_or 0 read piece long (λ k within.
    let inside : k < length piece = omega arith in
    byte_at-bytes_at (with_bytes_at bytes off piece) off (length piece) k inside ∙ byte_at-with_bytes_at_within bytes off piece k inside)

-- a write replaces the bytes now of its file, if the volume has it, and no other file
pub file_at-write : (v : Volume) (file off b : ℕ) (bs : List ℕ) → file < length v.files
    → file_at (write v file off (b ∷ bs)) file ≡ written (file_at v file) off (b ∷ bs) (change_of v.boot (v.writes + 1))
file_at-write v file off b bs there = get_or-set_same v.files file _ no_file there

pub file_at-write_other : (v : Volume) (file off : ℕ) (piece : List ℕ) (other : ℕ) → (other ≡ file → ⊥) → file_at (write v file off piece) other ≡ file_at v other
file_at-write_other v file off [] other apart = refl
file_at-write_other v file off (b ∷ bs) other apart = get_or-set_other v.files file other _ no_file apart

-- a change of one file that leaves a missing one missing
get_or-set_own : (files : List File) (file : ℕ) (f : File → File) → f no_file ≡ no_file
    → get_or (set files file (f (get_or files file no_file))) file no_file ≡ f (get_or files file no_file)
get_or-set_own files file f none =
    ⊎_elim
    (λ (there : file < length files). get_or-set_same files file (f (get_or files file no_file)) no_file there)
    (λ (missing : length files ≤ file). ap (λ l. get_or l file no_file) (set_past files file (f (get_or files file no_file)) missing) ∙ get_or_past files file no_file missing ∙ sym none ∙ ap f (sym (get_or_past files file no_file missing)))
    (cases_lt file (length files))

pub file_at-commit : (v : Volume) (file : ℕ) → file_at (commit v file) file ≡ committed (file_at v file)
file_at-commit v file = get_or-set_own v.files file committed refl

pub file_at-commit_other : (v : Volume) (file other : ℕ) → (other ≡ file → ⊥) → file_at (commit v file) other ≡ file_at v other
file_at-commit_other v file other apart = get_or-set_other v.files file other _ no_file apart

-- each file is recovered by itself
get_or-recovered : (files : List File) (file : ℕ) → get_or (map recovered files) file no_file ≡ recovered (get_or files file no_file)
get_or-recovered files file =
    ⊎_elim
    (λ (there : file < length files). get_or-map recovered files file no_file no_file there)
    (λ (missing : length files ≤ file). get_or_past (map recovered files) file no_file (omega (arith, length-map files recovered)) ∙ ap recovered (sym (get_or_past files file no_file missing)))
    (cases_lt file (length files))

pub file_at-crash : (v : Volume) (kept : Kept) (file : ℕ) → file_at (crash v kept) file ≡ recovered (get_or (settled v.files v.doubt kept) file no_file)
file_at-crash v kept file = get_or-recovered (settled v.files v.doubt kept) file

settled-old : (files : List File) (doubt : Option Doubt) → settled files doubt Old ≡ files
settled-old files None = refl
settled-old files (Some d) = refl

settled-none : (files : List File) (doubt : Option Doubt) (kept : Kept) → doubt ≡ None → settled files doubt kept ≡ files
settled-none files doubt kept none = ap (λ (d : Option Doubt). settled files d kept) none

pub file_at-crash_old : (v : Volume) (file : ℕ) → file_at (crash v Old) file ≡ recovered (file_at v file)
file_at-crash_old v file =
    file_at-crash v Old file ∙ ap (λ (l : List File). recovered (get_or l file no_file)) (settled-old v.files v.doubt)

pub file_at-crash_certain : (v : Volume) (kept : Kept) (file : ℕ) → v.doubt ≡ None → file_at (crash v kept) file ≡ recovered (file_at v file)
file_at-crash_certain v kept file none =
    file_at-crash v kept file ∙ ap (λ (l : List File). recovered (get_or l file no_file)) (settled-none v.files v.doubt kept none)

-- what was committed is there after a crash
pub file_at-crash_commit : (v : Volume) (file : ℕ) (kept : Kept) → v.doubt ≡ None → file_at (crash (commit v file) kept) file ≡ committed (file_at v file)
file_at-crash_commit v file kept none = file_at-crash_certain (commit v file) kept file none ∙ ap recovered (file_at-commit v file)

-- after a commit that failed a crash may leave what it was making safe
pub file_at-crash_new : (v : Volume) (file : ℕ) → file_at (crash (fail_commit v file) New) file ≡ committed (file_at v file)
file_at-crash_new v file =
    file_at-crash (fail_commit v file) New file ∙ ap recovered (get_or-set_own v.files file committed refl)

pub file_at-crash_other : (v : Volume) (file : ℕ) (kept : Kept) (other : ℕ) → (other ≡ file → ⊥) → file_at (crash (fail_commit v file) kept) other ≡ recovered (file_at v other)
file_at-crash_other v file Old other apart = file_at-crash_old (fail_commit v file) other
file_at-crash_other v file New other apart =
    file_at-crash (fail_commit v file) New other ∙ ap recovered (get_or-set_other v.files file other _ no_file apart)
