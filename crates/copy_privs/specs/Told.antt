-- What a name and bytes tell: all of the bytes are one privilege of that name.
use Rattle.std.specs.Prelude.{◌≡◌, ◌==◌, ℕ, List, length, Option, None, Some, Result, Ok, Err, if◌then◌else◌}
use Rattle.wire_xdr.specs.Cursor.{Cursor}
use Rattle.copy_privs.specs.declared.privilege.Privilege.{Privilege}
use Rattle.copy_privs.specs.declared.fault.PrivFault.{PrivFault}
use Rattle.copy_privs.specs.declared.fault.PrivFault.TheVariants.{UnknownName, BadXdr}
use Rattle.wire_xdr.specs.Form.{Spells}
use Rattle.copy_privs.specs.Forms.{privilege, row_of, privilege_name, privilege_row, privilege_spell, PrivilegeFits}

-- the privilege, where nothing follows; else the place where more begins
abbrev pub ended : Privilege × Cursor → Result Privilege PrivFault
ended x = if length x.1.rest == 0 then Ok x.0 else Err (BadXdr x.1.at)

abbrev pub told_by : Result (Privilege × Cursor) ℕ → Result Privilege PrivFault
told_by (Ok x) = ended x
told_by (Err at) = Err (BadXdr at)

abbrev pub told_in : Option ℕ → List ℕ → Result Privilege PrivFault
told_in None bytes = Err UnknownName
told_in (Some row) bytes = told_by ((privilege row).read (record { at = 0; rest = bytes }))

-- a name that the table doesn't have is unknown; else its row is read from left to right, to the end
abbrev pub privilege_told : List ℕ → List ℕ → Result Privilege PrivFault
privilege_told name bytes = told_in (row_of name) bytes

-- the name and the spelling are those of the privilege, and it may be written again
pub record IsNamed (name bytes : List ℕ) (p : Privilege) : Type 0 where
  pub named : name ≡ privilege_name p
  pub spelled : bytes ≡ privilege_spell p
  pub fits : PrivilegeFits p

abbrev pub IsFound : List ℕ → List ℕ → Result Privilege PrivFault → Type 0
IsFound name bytes (Ok p) = IsNamed name bytes p
IsFound name bytes (Err fault) = Unit {0}

-- the same of a row alone
abbrev pub IsRow : ℕ → List ℕ → Result Privilege PrivFault → Type 0
IsRow row bytes (Ok p) = (privilege_row p ≡ row) × Spells (privilege row) p bytes
IsRow row bytes (Err fault) = Unit {0}
