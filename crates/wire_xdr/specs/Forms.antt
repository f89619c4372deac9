-- The forms of XDR (RFC 4506 section 4), a table: how each type is read and spelled, and what has a
-- spelling. Types of a protocol are spelled by combining these.
use Rattle.std.specs.Prelude.{◌≡◌, ℕ, ◌<◌, ◌≤◌, ◌^◌, ℤ, FitsSigned, Bool, List, [], length, Option, false}
use Rattle.std.specs.Int.{w64}
use Rattle.wire_xdr.specs.Words.{word_bytes, hyper_bytes, signed_bytes, flag_bytes, fixed_bytes, opaque_bytes}
use Rattle.wire_xdr.specs.Form.{Form}
use Rattle.wire_xdr.specs.WordReads.{word_read, hyper_read, signed_read, flag_read, count_read, fixed_read, opaque_read, between_read}
use Rattle.wire_xdr.specs.WordLaws.{word_is, hyper_is, signed_is, flag_is, count_is, fixed_is, opaque_is, between_is}
use Rattle.wire_xdr.specs.Parts.{void_read, both_read, both_spell, both_Fits, as_read, tested_read, tested_Fits, list_read, list_spell, list_Fits, option_read, option_spell, option_Fits}
use Rattle.wire_xdr.specs.PartLaws.{void_is, both_is, as_is, tested_is, list_is, option_is}
use Rattle.wire_xdr.specs.Arms.{Case, case_of, ArmOf, IsListed, IsPicked, other_arm, body_spell, chosen_read, chosen_Fits, union_read, union_spell, union_Fits, union_or_read, union_or_Fits}
use Rattle.wire_xdr.specs.ArmLaws.{chosen_is, union_is, union_or_is}

-- an unsigned number of four bytes (section 4.2), and of eight (section 4.5)
abbrev pub word : Form ℕ
word = record { read = word_read; spell = word_bytes; Fits = λ n. n < 2 ^ 32; lawful = word_is }

abbrev pub hyper : Form ℕ
hyper = record { read = hyper_read; spell = hyper_bytes; Fits = λ n. n < 2 ^ 64; lawful = hyper_is }

-- a signed number of eight bytes (section 4.5)
abbrev pub signed : Form ℤ
signed = record { read = signed_read; spell = signed_bytes; Fits = FitsSigned w64; lawful = signed_is }

-- a bool (section 4.4)
abbrev pub flag : Form Bool
flag = record { read = flag_read; spell = flag_bytes; Fits = λ b. Unit {0}; lawful = flag_is }

-- an unsigned number of four bytes, at most max
abbrev pub count : (max : ℕ) → max < 2 ^ 32 → Form ℕ
count max small = record { read = count_read max; spell = word_bytes; Fits = λ n. n ≤ max; lawful = count_is max small }

-- n bytes (section 4.9)
abbrev pub fixed : ℕ → Form (List ℕ)
fixed n = record { read = fixed_read n; spell = fixed_bytes; Fits = λ bytes. length bytes ≡ n; lawful = fixed_is n }

-- at most max bytes behind their length (sections 4.10 and 4.11)
abbrev pub opaque : (max : ℕ) → max < 2 ^ 32 → Form (List ℕ)
opaque max small = record { read = opaque_read max; spell = opaque_bytes; Fits = λ bytes. length bytes ≤ max; lawful = opaque_is max small }

-- at least min and at most max bytes behind their length
abbrev pub opaque_between : (min max : ℕ) → max < 2 ^ 32 → Form (List ℕ)
opaque_between min max small = record { read = between_read min max; spell = opaque_bytes; Fits = λ bytes. (min ≤ length bytes) × (length bytes ≤ max); lawful = between_is min max small }

-- nothing (section 4.16)
abbrev pub void : Form (Unit {0})
void = record { read = void_read; spell = λ v. []; Fits = λ v. Unit {0}; lawful = void_is }

-- one after the other: the fields of a struct (section 4.14)
abbrev pub both : {A B : Type 0} → Form A → Form B → Form (A × B)
both a b = record { read = both_read a b; spell = both_spell a b; Fits = both_Fits a b; lawful = both_is a b }

-- the same bytes, seen as another type: a struct of its fields
abbrev pub seen_as : {A B : Type 0} (to : A → B) (from : B → A) → ((b : B) → to (from b) ≡ b) → ((a : A) → from (to a) ≡ a) → Form A → Form B
seen_as to from to_from from_to a = record { read = as_read to a; spell = λ v. a.spell (from v); Fits = λ v. a.Fits (from v); lawful = as_is to from to_from from_to a }

-- the values that pass a test
abbrev pub such_that : {A : Type 0} → (A → Bool) → Form A → Form A
such_that test a = record { read = tested_read test a; spell = a.spell; Fits = tested_Fits test a; lawful = tested_is test a }

-- at most max values behind their count (section 4.13)
abbrev pub list : {A : Type 0} (max : ℕ) → max < 2 ^ 32 → Form A → Form (List A)
list max small a = record { read = list_read max a; spell = list_spell a; Fits = list_Fits max a; lawful = list_is max small a }

-- a value that may be missing (section 4.19), which is also a list of at most one
abbrev pub option : {A : Type 0} → Form A → Form (Option A)
option a = record { read = option_read a; spell = option_spell a; Fits = option_Fits a; lawful = option_is a }

-- the arm with a number that is given from outside
abbrev pub chosen : {V : Type 0} {case : V → Case V} (arms : List (ArmOf case)) → ((v : V) → IsListed arms v) → ℕ → Form V
chosen {V} {case} arms law n = record { read = chosen_read arms n; spell = body_spell case; Fits = chosen_Fits case n; lawful = chosen_is arms law n }

-- a tag and the arm with that number (section 4.15); no other tag has a spelling
abbrev pub union : {V : Type 0} {case : V → Case V} (arms : List (ArmOf case)) → ((v : V) → IsListed arms v) → Form V
union {V} {case} arms law = record { read = union_read arms; spell = union_spell case; Fits = union_Fits case; lawful = union_is arms law }

-- a tag and the arm with that number, or the default arm (section 4.15)
abbrev pub union_or : {V B : Type 0} {case : V → Case V} (arms : List (ArmOf case)) (form : ℕ → Form B) (make : ℕ → B → V) → ((n : ℕ) (body : B) → case (make n body) ≡ case_of false (other_arm form make n) body) → ((v : V) → IsPicked arms (other_arm form make) v) → Form V
union_or {V} {B} {case} arms form make made law = record { read = union_or_read arms (other_arm form make); spell = union_spell case; Fits = union_or_Fits arms; lawful = union_or_is arms form make made law }
