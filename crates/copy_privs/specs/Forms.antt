-- The structured privileges of a copy between servers, a table: the name of each, and how it is spelled
-- (RFC 7862 section 4.10.1 under RFC 7861 section 2.7.1; limits of lengths are this profile's).
use Rattle.std.specs.Prelude.{◌≡◌, ℕ, List, [], ◌∷◌, refl, codes, bytes_eq, Option, None, Some, if◌then◌else◌}
use Rattle.std.proofs.Common.{lit<}
use Rattle.nfs_base.specs.declared.net_loc.NetLoc.{NetLoc}
use Rattle.nfs_base.specs.Forms.{net_loc}
use Rattle.wire_xdr.specs.Form.{Form}
use Rattle.wire_xdr.specs.Arms.{Case, ArmOf, IsListed, arm, holds, number_of}
use Rattle.wire_xdr.specs.Forms.{opaque, opaque_between, list, both, chosen}
use Rattle.copy_privs.specs.declared.privilege.Privilege.{Privilege}
use Rattle.copy_privs.specs.declared.privilege.Privilege.TheVariants.{From, To, Confirm}

-- the row of the table that a name names
abbrev pub row_of : List ℕ → Option ℕ
row_of name =
    if bytes_eq name (codes "copy_from_auth") then Some 0
    else (if bytes_eq name (codes "copy_to_auth") then Some 1
    else (if bytes_eq name (codes "copy_confirm_auth") then Some 2 else None))

-- a secret has 16 to 64 bytes; a user's name and the code of a secret have at most 64
abbrev pub secret : Form (List ℕ)
secret = opaque_between 16 64 (lit< tt)

abbrev pub short : Form (List ℕ)
short = opaque 64 (lit< tt)

abbrev pub locations : Form (List NetLoc)
locations = list 8 (lit< tt) net_loc

-- row 0, copy_from_auth: the secret, the destination and the user
abbrev pub from_parts : Form (List ℕ × (NetLoc × List ℕ))
from_parts = both secret (both net_loc short)

abbrev pub from_made : List ℕ × (NetLoc × List ℕ) → Privilege
from_made v = From v.0 v.1.0 v.1.1

-- row 1, copy_to_auth: the secret, the places of the source and the user
abbrev pub to_parts : Form (List ℕ × (List NetLoc × List ℕ))
to_parts = both secret (both locations short)

abbrev pub to_made : List ℕ × (List NetLoc × List ℕ) → Privilege
to_made v = To v.0 v.1.0 v.1.1

-- row 2, copy_confirm_auth: the code of the secret and the user
abbrev pub confirm_parts : Form (List ℕ × List ℕ)
confirm_parts = both short short

abbrev pub confirm_made : List ℕ × List ℕ → Privilege
confirm_made v = Confirm v.0 v.1

abbrev pub privilege_case : Privilege → Case Privilege
privilege_case (From s d u) = holds 0 from_parts from_made (s, (d, u))
privilege_case (To s l u) = holds 1 to_parts to_made (s, (l, u))
privilege_case (Confirm m u) = holds 2 confirm_parts confirm_made (m, u)

abbrev pub privilege_arms : List (ArmOf privilege_case)
privilege_arms = arm 0 from_parts from_made (λ v. refl) ∷ arm 1 to_parts to_made (λ v. refl) ∷ arm 2 confirm_parts confirm_made (λ v. refl) ∷ []

pub privilege_listed : (v : Privilege) → IsListed privilege_arms v
privilege_listed (From s d u) = record { reads = λ otherwise c. refl; whole = refl }
privilege_listed _ = record { reads = λ otherwise c. refl; whole = refl }

-- the privilege of a row
unfoldable pub privilege : ℕ → Form Privilege
privilege = chosen privilege_arms privilege_listed

abbrev pub privilege_row : Privilege → ℕ
privilege_row = number_of privilege_case

pub privilege_own : (row : ℕ) (v : Privilege) → (privilege row).Fits v → privilege_row v ≡ row
unfolding privilege
privilege_own row v fits = fits.0

-- a privilege has a spelling: its strings and lists are within their limits
abbrev pub PrivilegeFits : Privilege → Type 0
PrivilegeFits p = (privilege (privilege_row p)).Fits p

abbrev pub privilege_spell : Privilege → List ℕ
privilege_spell p = (privilege (privilege_row p)).spell p

-- the name of a privilege
abbrev pub privilege_name : Privilege → List ℕ
privilege_name (From s d u) = codes "copy_from_auth"
privilege_name (To s l u) = codes "copy_to_auth"
privilege_name (Confirm m u) = codes "copy_confirm_auth"
