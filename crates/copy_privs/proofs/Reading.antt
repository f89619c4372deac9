-- Where all of the bytes spell a privilege, it is read and nothing is left.
use Rattle.std.proofs.Common.{◌≡◌, ℕ, List, [], Result, Ok, sym, ◌∙◌}
use Rattle.std.proofs.lemmas.List.{append-nil}
use Rattle.wire_xdr.specs.Cursor.{Cursor}
use Rattle.wire_xdr.specs.Reads.{IsRead}
use Rattle.wire_xdr.specs.declared.form.bad.BadXdr.{BadXdr}
use Rattle.copy_privs.specs.declared.privilege.Privilege.{Privilege}
use Rattle.copy_privs.specs.Forms.{privilege}

pub only_told : (row : ℕ) (r : Result Privilege BadXdr) (old new : Cursor) (bytes : List ℕ) → old.rest ≡ bytes → IsRead (privilege row) (Ok r) old new → (p : Privilege) → (privilege row).Fits p → bytes ≡ (privilege row).spell p → (r ≡ Ok p) × (new.rest ≡ [])
only_told row r old new bytes starts read p fits is = read.only p [] fits (starts ∙ is ∙ sym (append-nil ((privilege row).spell p)))
