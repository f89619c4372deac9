-- Bytes and lists with no limit of their own, and a word that is 0.
use Rattle.std.specs.Prelude.{ℕ, List, [], ◌∷◌, refl}
use Rattle.std.proofs.Common.{lit<}
use Rattle.file_ops.specs.declared.zero.TheConstants.{NO_LIMIT}
use Rattle.file_ops.specs.declared.zero.Zero.{Zero}
use Rattle.file_ops.specs.declared.zero.Zero.TheVariants.{Word}
use Rattle.wire_xdr.specs.Form.{Form}
use Rattle.wire_xdr.specs.Arms.{Case, ArmOf, IsListed, arm, holds}
use Rattle.wire_xdr.specs.Forms.{word, opaque, void, list, union}

-- the length and the count are any word
abbrev pub bytes : Form (List ℕ)
bytes = opaque NO_LIMIT (lit< tt)

abbrev pub list_of : {A : Type 0} → Form A → Form (List A)
list_of a = list NO_LIMIT (lit< tt) a

-- the numbers of the attributes of a file (RFC 8881 section 3.3.7)
abbrev pub bitmap : Form (List ℕ)
bitmap = list_of word

abbrev pub zero_case : Zero → Case Zero
zero_case Word = holds 0 void (λ v. Word) tt

abbrev pub zero_arms : List (ArmOf zero_case)
zero_arms = arm 0 void (λ v. Word) (λ v. refl) ∷ []

pub zero_listed : (v : Zero) → IsListed zero_arms v
zero_listed Word = record { reads = λ otherwise c. refl; whole = refl }

unfoldable pub zero_word : Form Zero
zero_word = union zero_arms zero_listed
