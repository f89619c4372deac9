-- Forms of sample types: the file of RFC 4506 section 7, and a few more.
use Rattle.std.specs.Prelude.{◌≡◌, ℕ, List, [], ◌∷◌, refl}
use Rattle.std.proofs.Common.{lit<}
use Rattle.xdr_rows.specs.declared.xdr.sample.FileKind.{FileKind}
use Rattle.xdr_rows.specs.declared.xdr.sample.FileKind.TheVariants.{Text, Data, Exec}
use Rattle.xdr_rows.specs.declared.xdr.sample.File.{File}
use Rattle.xdr_rows.specs.declared.xdr.sample.Folder.{Folder}
use Rattle.xdr_rows.specs.declared.xdr.sample.Outcome.{Outcome}
use Rattle.xdr_rows.specs.declared.xdr.sample.Outcome.TheVariants.{Done, Refused}
use Rattle.xdr_rows.specs.declared.xdr.sample.Request.{Request}
use Rattle.xdr_rows.specs.declared.xdr.sample.Request.TheVariants as requests
use Rattle.wire_xdr.specs.Form.{Form}
use Rattle.wire_xdr.specs.Arms.{Case, ArmOf, IsListed, IsPicked, arm, holds, defaults, number_of, other_arm}
use Rattle.wire_xdr.specs.Forms.{word, hyper, fixed, opaque, void, both, seen_as, list, option, chosen, union, union_or}

-- ---- what a file is: 0, 1 and a creator, or 2 and an interpreter

abbrev pub name : Form (List ℕ)
name = opaque 255 (lit< tt)

abbrev pub kind_case : FileKind → Case FileKind
kind_case Text = holds 0 void (λ v. Text) tt
kind_case (Data creator) = holds 1 name Data creator
kind_case (Exec interpreter) = holds 2 name Exec interpreter

abbrev pub kind_arms : List (ArmOf kind_case)
kind_arms = arm 0 void (λ v. Text) (λ v. refl) ∷ arm 1 name Data (λ v. refl) ∷ arm 2 name Exec (λ v. refl) ∷ []

pub kind_listed : (v : FileKind) → IsListed kind_arms v
kind_listed Text = record { reads = λ otherwise c. refl; whole = refl }
kind_listed _ = record { reads = λ otherwise c. refl; whole = refl }

unfoldable pub file_kind : Form FileKind
file_kind = union kind_arms kind_listed

-- ---- a file

abbrev pub to_file : List ℕ × (FileKind × (List ℕ × List ℕ)) → File
to_file v = record { name = v.0; kind = v.1.0; owner = v.1.1.0; content = v.1.1.1 }

unfoldable pub file : Form File
file = seen_as to_file (λ v. (v.name, (v.kind, (v.owner, v.content)))) (λ v. refl) (λ v. refl) (both name (both file_kind (both (opaque 32 (lit< tt)) (opaque 65535 (lit< tt)))))

-- ---- a folder

unfoldable pub folder : Form Folder
folder = seen_as (λ v. record { id = v.0; files = v.1.0; parent = v.1.1 }) (λ v. (v.id, (v.files, v.parent))) (λ v. refl) (λ v. refl) (both (fixed 8) (both (list 2 (lit< tt) file) (option hyper)))

-- ---- 0 and a folder, or another number

abbrev pub outcome_case : Outcome → Case Outcome
outcome_case (Done v) = holds 0 folder Done v
outcome_case (Refused n) = defaults n void (λ v. Refused n) tt

abbrev pub outcome_arms : List (ArmOf outcome_case)
outcome_arms = arm 0 folder Done (λ v. refl) ∷ []

pub outcome_picked : (v : Outcome) → IsPicked outcome_arms (other_arm (λ n. void) (λ n v. Refused n)) v
outcome_picked (Done v) = record { reads = λ otherwise c. refl; whole = refl }
outcome_picked _ = record { reads = λ otherwise c. refl; whole = refl }

unfoldable pub outcome : Form Outcome
outcome = union_or outcome_arms (λ n. void) (λ n v. Refused n) (λ n v. refl) outcome_picked

-- ---- requests 7 and 9

abbrev pub request_case : Request → Case Request
request_case (requests.Store v) = holds 7 file requests.Store v
request_case (requests.List id at_most) = holds 9 (both hyper word) (λ v. requests.List v.0 v.1) (id, at_most)

abbrev pub request_arms : List (ArmOf request_case)
request_arms = arm 7 file requests.Store (λ v. refl) ∷ arm 9 (both hyper word) (λ v. requests.List v.0 v.1) (λ v. refl) ∷ []

pub request_listed : (v : Request) → IsListed request_arms v
request_listed (requests.Store v) = record { reads = λ otherwise c. refl; whole = refl }
request_listed _ = record { reads = λ otherwise c. refl; whole = refl }

unfoldable pub request : ℕ → Form Request
request = chosen request_arms request_listed

abbrev pub request_number : Request → ℕ
request_number = number_of request_case

pub request_own : (number : ℕ) (v : Request) → (request number).Fits v → request_number v ≡ number
unfolding request
request_own number v fits = fits.0
