-- What the promise says that a crash may leave, against what crashes leave.
use Rattle.std.proofs.Common.{◌≡◌, ◌⊎◌, inl, inr, ⊎_elim, ℕ, ◌<◌, ◌≤◌, Option, None, Some, List, length, get_or, eqb, refl, sym, ◌∙◌, ap}
use Rattle.std.proofs.lemmas.Bool.{cases_lt, cases_eq, eq-eqb, ne_eqb, cond-true, cond-false}
use Rattle.std.proofs.lemmas.List.{get_or-set_same, get_or-set_other, set_past}
use Rattle.copy_model.specs.Volume.{File, Doubt, Volume, Kept, Old, New, no_file, file_at, byte_at, settled, crash}
use Rattle.copy_model.specs.Moment.{seen_dest, doubted}
use Rattle.copy_model.specs.Promise.{MayLeave}
use Rattle.copy_model.proofs.Bytes.{file_at-crash, file_at-crash_old}

-- the byte that a crash leaves of these files
abbrev pub left_of : List File → ℕ → ℕ → ℕ
left_of files file place = byte_at (get_or files file no_file).safe place

pub doubted-same : (d : Doubt) (file place : ℕ) → d.file ≡ file → doubted (Some d) file place ≡ Some (byte_at d.bytes place)
doubted-same d file place same = cond-true (eqb d.file file) (Some (byte_at d.bytes place)) None (eq-eqb d.file file same)

pub doubted-other : (d : Doubt) (file place : ℕ) → (d.file ≡ file → ⊥) → doubted (Some d) file place ≡ None
doubted-other d file place other = cond-false (eqb d.file file) (Some (byte_at d.bytes place)) None (ne_eqb d.file file other)

pub left_new : (files : List File) (d : Doubt) (file place : ℕ) → d.file ≡ file → d.file < length files → left_of (settled files (Some d) New) file place ≡ byte_at d.bytes place
left_new files d file place same there =
    ap (λ n. left_of (settled files (Some d) New) n place) (sym same) ∙ ap (λ (f : File). byte_at f.safe place) (get_or-set_same files d.file _ no_file there)

pub left_other : (files : List File) (d : Doubt) (file place : ℕ) → (d.file ≡ file → ⊥) → left_of (settled files (Some d) New) file place ≡ left_of files file place
left_other files d file place other =
    ap (λ (f : File). byte_at f.safe place) (get_or-set_other files d.file file _ no_file (λ same. other (sym same)))

left_missing : (files : List File) (d : Doubt) (file place : ℕ) → length files ≤ d.file → left_of (settled files (Some d) New) file place ≡ left_of files file place
left_missing files d file place missing = ap (λ (l : List File). left_of l file place) (set_past files d.file _ missing)

old_or_new : (files : List File) (doubt : Option Doubt) (file place : ℕ)
    → (left_of files file place ≡ left_of (settled files doubt New) file place)
    ⊎ (doubted doubt file place ≡ Some (left_of (settled files doubt New) file place))
old_or_new files None file place = inl refl
old_or_new files (Some d) file place =
    ⊎_elim
    (λ (same : d.file ≡ file). ⊎_elim
    (λ (there : d.file < length files). inr (doubted-same d file place same ∙ ap Some (sym (left_new files d file place same there))))
    (λ (missing : length files ≤ d.file). inl (sym (left_missing files d file place missing)))
    (cases_lt d.file (length files)))
    (λ (other : d.file ≡ file → ⊥). inl (sym (left_other files d file place other)))
    (cases_eq d.file file)

pub left_may_be : (v : Volume) (kept : Kept) (file place value : ℕ) → byte_at (file_at (crash v kept) file).now place ≡ value → MayLeave (seen_dest v) file place value
left_may_be v Old file place value left =
    inl (sym (ap (λ (f : File). byte_at f.now place) (file_at-crash_old v file)) ∙ left)
left_may_be v New file place value left =
    let here = sym (ap (λ (f : File). byte_at f.now place) (file_at-crash v New file)) ∙ left in
    ⊎_elim (λ old. inl (old ∙ here)) (λ new. inr (new ∙ ap Some here)) (old_or_new v.files v.doubt file place)

new_left : (files : List File) (doubt : Option Doubt) (file place value : ℕ) → ((d : Doubt) → doubt ≡ Some d → d.file < length files)
    → doubted doubt file place ≡ Some value → left_of (settled files doubt New) file place ≡ value
new_left files None file place value there doubt_is = cc
new_left files (Some d) file place value there doubt_is =
    ⊎_elim
    (λ (same : d.file ≡ file).
    let e = sym (doubted-same d file place same) ∙ doubt_is in
    left_new files d file place same (there d refl) ∙ cc)
    (λ (other : d.file ≡ file → ⊥). let e = sym (doubted-other d file place other) ∙ doubt_is in cc)
    (cases_eq d.file file)

pub may_be_left : (v : Volume) (file place value : ℕ) → ((d : Doubt) → v.doubt ≡ Some d → d.file < length v.files)
    → MayLeave (seen_dest v) file place value → (kept : Kept) × (byte_at (file_at (crash v kept) file).now place ≡ value)
may_be_left v file place value there (inl old) =
    (Old, ap (λ (f : File). byte_at f.now place) (file_at-crash_old v file) ∙ old)
may_be_left v file place value there (inr new) =
    (New, ap (λ (f : File). byte_at f.now place) (file_at-crash v New file) ∙ new_left v.files v.doubt file place value there new)
