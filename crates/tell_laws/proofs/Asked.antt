-- The compounds by which a READ of one file and a GETATTR of one file are asked.
use Rattle.std.proofs.Common.{◌≡◌, ◌⊎◌, inl, inr, ℕ, ◌+◌, ◌≤◌, length, arith, Bool, true, false, List, [], ◌∷◌, Some, None, refl, ap, eqb-true}
use Rattle.std.specs.Prelude.{◌==◌, ◌||◌, if◌then◌else◌}
use Rattle.copy_ops.specs.declared.arg.CopyArg.TheVariants as copies
use Rattle.file_ops.specs.declared.args.FileArg.TheVariants as args
use Rattle.file_ops.specs.declared.files.ReadArgs.{ReadArgs}
use Rattle.file_ops.specs.declared.files.TheConstants.{ATTR_CHANGE, ATTR_SIZE}
use Rattle.file_ops.specs.declared.sessions.SequenceArgs.{SequenceArgs}
use Rattle.file_server.specs.Handles.{file_in}
use Rattle.nfs_compound.specs.declared.op.Op.{Op}
use Rattle.nfs_compound.specs.declared.op.Op.TheVariants.{Copy, File}
use Rattle.wire_meaning.specs.Meaning.{file_asked, is_asked, place_read}
use Rattle.wire_model.specs.Meaning.{Place}

-- ---- READ

pub record AsksRead (ops : List Op) (place : Place) : Type 0 where
  pub slot : SequenceArgs
  pub handle : List ℕ
  pub args_are : ReadArgs
  pub ops_are : ops ≡ File (args.Sequence slot) ∷ File (args.PutFh handle) ∷ File (args.Read args_are) ∷ []
  pub place_is : record { file = file_in handle; off = args_are.offset } ≡ place

some_place : (p q : Place) → Some p ≡ Some q → p ≡ q
some_place p q same = cc

pub asks_read : (ops : List Op) (place : Place) → place_read ops ≡ Some place → AsksRead ops place
asks_read (File (args.Sequence slot) ∷ File (args.PutFh handle) ∷ File (args.Read a) ∷ []) place h =
    record { slot = slot; handle = handle; args_are = a; ops_are = refl; place_is = some_place _ place h }
asks_read ops place h = absurd cc

-- ---- GETATTR

-- the bits of the change attribute and of the size
abbrev pub CHANGE_AND_SIZE : ℕ
CHANGE_AND_SIZE = ATTR_CHANGE + ATTR_SIZE

-- one word asks for the change attribute, alone or with the size
pub record AsksWord (mask : List ℕ) : Type 0 where
  pub word : ℕ
  pub is : mask ≡ word ∷ []
  pub known : (word ≡ ATTR_CHANGE) ⊎ (word ≡ CHANGE_AND_SIZE)

either_word : (word : ℕ) (change both : Bool) → (word == ATTR_CHANGE) ≡ change → (word == CHANGE_AND_SIZE) ≡ both → (change || both) ≡ true
    → (word ≡ ATTR_CHANGE) ⊎ (word ≡ CHANGE_AND_SIZE)
either_word word true both is same h = inl (eqb-true word ATTR_CHANGE is)
either_word word false true is same h = inr (eqb-true word CHANGE_AND_SIZE same)
either_word word false false is same h = absurd cc

asks_word : (mask : List ℕ) → is_asked mask ≡ true → AsksWord mask
asks_word [] h = absurd cc
asks_word (word ∷ []) h =
    record { word = word; is = refl; known = either_word word (word == ATTR_CHANGE) (word == CHANGE_AND_SIZE) refl refl h }
asks_word (word ∷ next ∷ more) h = absurd cc

pub record AsksAttributes (ops : List Op) (file : ℕ) : Type 0 where
  pub slot : SequenceArgs
  pub handle : List ℕ
  pub word : ℕ
  pub rest : List Op
  pub ops_are : ops ≡ File (args.Sequence slot) ∷ File (args.PutFh handle) ∷ File (args.GetAttr (word ∷ [])) ∷ rest
  pub few : length rest ≤ 1
  pub known : (word ≡ ATTR_CHANGE) ⊎ (word ≡ CHANGE_AND_SIZE)
  pub file_is : file_in handle ≡ file

asked_if : (test : Bool) (named file : ℕ) → (if test then Some named else None) ≡ Some file → (test ≡ true) × (named ≡ file)
asked_if true named file h = (refl, cc)
asked_if false named file h = absurd cc

asked_so : (slot : SequenceArgs) (handle mask : List ℕ) (rest : List Op) (file : ℕ) → length rest ≤ 1
    → (if is_asked mask then Some (file_in handle) else None) ≡ Some file
    → AsksAttributes (File (args.Sequence slot) ∷ File (args.PutFh handle) ∷ File (args.GetAttr mask) ∷ rest) file
asked_so slot handle mask rest file few h =
    let asked = asked_if (is_asked mask) (file_in handle) file h in
    let one = asks_word mask asked.0 in
    record {
      slot = slot;
      handle = handle;
      word = one.word;
      rest = rest;
      ops_are = ap (λ (m : List ℕ). File (args.Sequence slot) ∷ File (args.PutFh handle) ∷ File (args.GetAttr m) ∷ rest) one.is;
      few = few;
      known = one.known;
      file_is = asked.1;
    }

pub asks_attributes : (ops : List Op) (file : ℕ) → file_asked ops ≡ Some file → AsksAttributes ops file
asks_attributes (File (args.Sequence slot) ∷ File (args.PutFh handle) ∷ File (args.GetAttr mask) ∷ []) file h =
    asked_so slot handle mask [] file (omega arith) h
asks_attributes (File (args.Sequence slot) ∷ File (args.PutFh handle) ∷ File (args.GetAttr mask) ∷ Copy (copies.CopyNotify a) ∷ []) file h =
    asked_so slot handle mask (Copy (copies.CopyNotify a) ∷ []) file (omega arith) h
asks_attributes ops file h = absurd cc
