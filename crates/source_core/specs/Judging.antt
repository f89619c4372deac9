-- Which privileges a source takes in CREATE. The causes of a refusal are those of crate copy_privs. RFC 7861 section 2.7
-- and RFC 7862 section 4.10.1.2.
use Rattle.std.specs.Prelude.{ℕ, Option, Some, None, Result, Ok, Err, List, [], ◌∷◌, ◌++◌, if◌then◌else◌}
use Rattle.copy_privs.specs.Create.{location_of, source_refusal}
use Rattle.copy_privs.specs.Told.{privilege_told}
use Rattle.copy_privs.specs.declared.fault.PrivFault.{PrivFault}
use Rattle.copy_privs.specs.declared.fault.PrivFault.TheVariants as faults
use Rattle.copy_privs.specs.declared.peer.Peer.{Peer}
use Rattle.copy_privs.specs.declared.privilege.Privilege.{Privilege}
use Rattle.copy_privs.specs.declared.privilege.Privilege.TheVariants as privileges
use Rattle.gss_ctx.specs.declared.context.Context.{Context}
use Rattle.gss_ctx.specs.declared.context.Entry.{Entry}
use Rattle.gss_ctx.specs.Seals.{Mic}
use Rattle.gss_ctx.specs.Table.{ContextTable, context_of, is_live}
use Rattle.nfs_base.specs.declared.cause.PrivCause.{PrivCause}
use Rattle.nfs_base.specs.declared.cause.PrivCause.TheVariants.{Unknown}
use Rattle.nfs_base.specs.declared.net_loc.NetLoc.{NetLoc}
use Rattle.outbox.specs.declared.note.Note.{Note}
use Rattle.outbox.specs.declared.note.Note.TheVariants as notes
use Rattle.session_server.specs.declared.extending.Judgement.{Judgement}
use Rattle.session_server.specs.declared.extending.Judgement.TheVariants.{Granted, Misspelt, Refused}
use Rattle.source_core.specs.declared.carried.Carried.{Carried}
use Rattle.source_core.specs.declared.carried.Carried.TheVariants.{From, Confirm}
use Rattle.source_core.specs.declared.source.Source.{Source}
use Rattle.nfs_base.specs.declared.cause.Cause.{Cause}

-- ---- what the live children carry

-- the privilege that was asked for
abbrev pub privilege_of : Option Carried → List Privilege
privilege_of (Some (From secret destination user)) = privileges.From secret destination user ∷ []
privilege_of (Some (Confirm code user peer key)) = privileges.Confirm code user ∷ []
privilege_of None = []

unfoldable pub carried_by : (second : ℕ) → List (Entry Carried) → List Privilege
carried_by second [] = []
carried_by second (e ∷ entries) =
    if is_live second e then privilege_of e.context.carry ++ carried_by second entries else carried_by second entries

-- ---- a privilege that was read, under a parent with this key that is found there

abbrev pub granted : Option NetLoc → (key : List ℕ) → Privilege → Judgement Carried
granted peer key (privileges.From secret destination user) = Granted (From secret destination user)
granted peer key (privileges.Confirm code user) = Granted (Confirm code user peer key)
-- it is refused in any case
granted peer key (privileges.To secret sources user) = Refused Unknown

abbrev pub unless_refused : Option PrivCause → Option NetLoc → (key : List ℕ) → Privilege → Judgement Carried
unless_refused (Some cause) peer key privilege = Refused cause
unless_refused None peer key privilege = granted peer key privilege

abbrev pub judged_read : Mic → List Peer → (principal key : List ℕ) → List Privilege → Result Privilege PrivFault → Judgement Carried
judged_read mic peers principal key carried (Err faults.UnknownName) = Refused Unknown
judged_read mic peers principal key carried (Err (faults.BadXdr at)) = Misspelt
judged_read mic peers principal key carried (Ok privilege) =
    unless_refused (source_refusal mic peers principal key carried privilege) (location_of peers principal) key privilege

-- ---- what is said of a privilege by its name, under the context of a number

abbrev pub judged_under : {M : Type 0} → Mic → (second : ℕ) → Option (Context Carried) → List (Entry Carried) → (name privilege : List ℕ) → Source M → Judgement Carried
judged_under mic second None entries name privilege x = Misspelt
judged_under mic second (Some parent) entries name privilege x =
    judged_read mic x.peers parent.principal parent.key (carried_by second entries) (privilege_told name privilege)

abbrev pub judges : {M : Type 0} → Mic → (second : ℕ) → ContextTable Carried → (number : ℕ) → (name privilege : List ℕ) → Source M → Judgement Carried
judges mic second table number name privilege x =
    judged_under mic second (context_of number table.entries) table.entries name privilege x

-- ---- what is told of a step: why a READ under a grant was refused in it

abbrev pub refusal_notes : Option Cause → List Note
refusal_notes None = []
refusal_notes (Some cause) = notes.Permit cause ∷ []

abbrev pub tells : {M : Type 0} → Source M → List Note
tells x = refusal_notes x.refusal

abbrev pub silent : {M : Type 0} → Source M → Source M
silent x = record x { refusal = None }
