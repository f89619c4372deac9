-- The change attribute and the size of a file, as GETATTR spells them and as they are read back.
use Rattle.std.proofs.Common.{◌≡◌, ◌⊎◌, inl, inr, ℕ, ◌<◌, ◌≤◌, ◌^◌, Bool, true, false, List, ◌++◌, length, Some, None, refl, sym, ap, ◌∙◌, append-nil, length-append, eqb-true, arith}
use Rattle.std.specs.Prelude.{◌==◌, if◌then◌else◌}
use Rattle.std.proofs.lemmas.Nat.{from_be_bytes-to_be_bytes_8}
use Rattle.call_results.specs.Results.{size_word, word_of}
use Rattle.copy_model.specs.Volume.{Volume, file_at}
use Rattle.file_ops.specs.declared.files.TheConstants.{ATTR_CHANGE}
use Rattle.file_server.specs.Attributes.{attributes_at, values_of}
use Rattle.file_server.specs.declared.attributes.FileAttributes.{FileAttributes}
use Rattle.file_server.specs.declared.attributes.TheConstants.{TYPE_FILE, TYPE_DIRECTORY}
use Rattle.wire_xdr.specs.LengthLaws.{hyper_length}
use Rattle.wire_xdr.specs.Words.{hyper_bytes}
use Rattle.tell_laws.specs.Telling.{FitsWords}
use Rattle.tell_laws.proofs.Asked.{CHANGE_AND_SIZE}

-- ---- what is spelled

change_values : (a : FileAttributes) → values_of ATTR_CHANGE a ≡ hyper_bytes a.change
change_values a = append-nil (hyper_bytes a.change)

both_values : (a : FileAttributes) → values_of CHANGE_AND_SIZE a ≡ hyper_bytes a.change ++ hyper_bytes a.size
both_values a = ap (λ (bytes : List ℕ). hyper_bytes a.change ++ bytes) (append-nil (hyper_bytes a.size))

pub change_short : (a : FileAttributes) → length (values_of ATTR_CHANGE a) ≤ 4294967295
change_short a = omega (arith, ap (λ (bytes : List ℕ). length bytes) (change_values a), hyper_length a.change)

pub both_short : (a : FileAttributes) → length (values_of CHANGE_AND_SIZE a) ≤ 4294967295
both_short a =
    omega (
      arith,
      ap (λ (bytes : List ℕ). length bytes) (both_values a),
      length-append (hyper_bytes a.change) (hyper_bytes a.size),
      hyper_length a.change,
      hyper_length a.size,
    )

-- ---- what is read back

word_back : (n : ℕ) → n < 2 ^ 64 → word_of (hyper_bytes n) ≡ Some n
unfolding hyper_bytes
word_back n small = ap (λ (m : ℕ). Some m) (from_be_bytes-to_be_bytes_8 n small)

size_back : (m n : ℕ) → n < 2 ^ 64 → size_word (hyper_bytes m ++ hyper_bytes n) ≡ Some n
unfolding hyper_bytes
size_back m n small = ap (λ (k : ℕ). Some k) (from_be_bytes-to_be_bytes_8 n small)

none_alone : (n : ℕ) → size_word (hyper_bytes n) ≡ None
unfolding hyper_bytes
none_alone n = refl

none_of_both : (m n : ℕ) → word_of (hyper_bytes m ++ hyper_bytes n) ≡ None
unfolding hyper_bytes
none_of_both m n = refl

some_is : (m n : ℕ) → Some m ≡ Some n → m ≡ n
some_is m n same = cc

-- ---- they are those of the file

abbrev told_by : Volume → ℕ → Bool → FileAttributes
told_by v file root = if root
    then record { kind = TYPE_DIRECTORY; change = 0; size = 0 }
    else record { kind = TYPE_FILE; change = (file_at v file).change; size = length (file_at v file).now }

by_root : (v : Volume) (file : ℕ) → FitsWords v → (root : Bool) → (file == 0) ≡ root
    → ((told_by v file root).size ≡ length (file_at v file).now) × ((told_by v file root).change ≡ (file_at v file).change)
by_root v file fits true is =
    let root_is : file ≡ 0 = eqb-true file 0 is in (
      sym (ap (λ (f : ℕ). length (file_at v f).now) root_is ∙ fits.no_size),
      sym (ap (λ (f : ℕ). (file_at v f).change) root_is ∙ fits.no_change),
    )
by_root v file fits false is = (refl, refl)

pub size_told : (v : Volume) (file : ℕ) → FitsWords v → (attributes_at v file).size ≡ length (file_at v file).now
size_told v file fits = (by_root v file fits (file == 0) refl).0

pub change_told : (v : Volume) (file : ℕ) → FitsWords v → (attributes_at v file).change ≡ (file_at v file).change
change_told v file fits = (by_root v file fits (file == 0) refl).1

-- ---- what is read back is that of the file

abbrev pub IsKnown : ℕ → Type 0
IsKnown word = (word ≡ ATTR_CHANGE) ⊎ (word ≡ CHANGE_AND_SIZE)

pub size_read : (v : Volume) (file word : ℕ) → FitsWords v → IsKnown word → (size : ℕ) → size_word (values_of word (attributes_at v file)) ≡ Some size
    → size ≡ length (file_at v file).now
size_read v file word fits (inl is) size h =
    let a = attributes_at v file in
    let none : size_word (values_of word a) ≡ None = ap (λ (w : ℕ). size_word (values_of w a)) is ∙ ap size_word (change_values a) ∙ none_alone a.change in
    absurd (let both = sym none ∙ h in cc)
size_read v file word fits (inr is) size h =
    let a = attributes_at v file in
    let small : a.size < 2 ^ 64 = omega (arith, fits.sizes file, size_told v file fits) in
    let there : size_word (values_of word a) ≡ Some a.size =
    ap (λ (w : ℕ). size_word (values_of w a)) is ∙ ap size_word (both_values a) ∙ size_back a.change a.size small in
    some_is size a.size (sym h ∙ there) ∙ size_told v file fits

pub change_read : (v : Volume) (file word : ℕ) → FitsWords v → IsKnown word → (change : ℕ) → word_of (values_of word (attributes_at v file)) ≡ Some change
    → change ≡ (file_at v file).change
change_read v file word fits (inl is) change h =
    let a = attributes_at v file in
    let small : a.change < 2 ^ 64 = omega (arith, fits.changes file, change_told v file fits) in
    let there : word_of (values_of word a) ≡ Some a.change =
    ap (λ (w : ℕ). word_of (values_of w a)) is ∙ ap word_of (change_values a) ∙ word_back a.change small in
    some_is change a.change (sym h ∙ there) ∙ change_told v file fits
change_read v file word fits (inr is) change h =
    let a = attributes_at v file in
    let none : word_of (values_of word a) ≡ None = ap (λ (w : ℕ). word_of (values_of w a)) is ∙ ap word_of (both_values a) ∙ none_of_both a.change a.size in
    absurd (let both = sym none ∙ h in cc)
