-- Which privileges a destination takes in CREATE, and what it tells of a step. The causes of a refusal are those of crate
-- copy_privs. RFC 7861 section 2.7 and RFC 7862 section 4.10.1.2.
use Rattle.std.specs.Prelude.{ℕ, Option, Some, None, Result, Ok, Err, List, []}
use Rattle.copy_privs.specs.Create.{dest_refusal}
use Rattle.copy_privs.specs.Told.{privilege_told}
use Rattle.copy_privs.specs.declared.fault.PrivFault.{PrivFault}
use Rattle.copy_privs.specs.declared.fault.PrivFault.TheVariants as faults
use Rattle.copy_privs.specs.declared.privilege.Privilege.{Privilege}
use Rattle.copy_privs.specs.declared.privilege.Privilege.TheVariants as privileges
use Rattle.gss_ctx.specs.Table.{ContextTable, context_of}
use Rattle.gss_ctx.specs.declared.context.Context.{Context}
use Rattle.nfs_base.specs.declared.cause.PrivCause.{PrivCause}
use Rattle.nfs_base.specs.declared.cause.PrivCause.TheVariants.{Unknown}
use Rattle.nfs_base.specs.declared.net_loc.NetLoc.{NetLoc}
use Rattle.outbox.specs.declared.note.Note.{Note}
use Rattle.session_server.specs.declared.extending.Judgement.{Judgement}
use Rattle.session_server.specs.declared.extending.Judgement.TheVariants.{Granted, Misspelt, Refused}
use Rattle.dest_jobs.specs.declared.carried.Carried.{Carried}
use Rattle.dest_core.specs.declared.destination.Destination.{Destination}

-- a privilege that was read, under a root context with this key
abbrev pub granted : (root : List ℕ) → Privilege → Judgement Carried
granted root (privileges.To secret sources user) = Granted (record { secret = secret; sources = sources; user = user; root = root })
-- these are refused in any case
granted root (privileges.From secret destination user) = Refused Unknown
granted root (privileges.Confirm code user) = Refused Unknown

abbrev pub unless_refused : Option PrivCause → (root : List ℕ) → Privilege → Judgement Carried
unless_refused (Some cause) root privilege = Refused cause
unless_refused None root privilege = granted root privilege

abbrev pub judged_read : NetLoc → Context Carried → Result Privilege PrivFault → Judgement Carried
judged_read source parent (Err faults.UnknownName) = Refused Unknown
judged_read source parent (Err (faults.BadXdr at)) = Misspelt
judged_read source parent (Ok privilege) = unless_refused (dest_refusal source parent.principal privilege) parent.key privilege

-- what is said of a privilege by its name, under the context of a number
abbrev pub judged_under : NetLoc → Option (Context Carried) → (name privilege : List ℕ) → Judgement Carried
judged_under source None name privilege = Misspelt
judged_under source (Some parent) name privilege = judged_read source parent (privilege_told name privilege)

abbrev pub judges : {M : Type 0} → (second : ℕ) → ContextTable Carried → (number : ℕ) → (name privilege : List ℕ) → Destination M → Judgement Carried
judges second table number name privilege x = judged_under x.copier.copies.source.loc (context_of number table.entries) name privilege

-- ---- what is told of a step

abbrev pub tells : {M : Type 0} → Destination M → List Note
tells x = x.copier.copies.told

abbrev pub silent : {M : Type 0} → Destination M → Destination M
silent x = record x { copier = record x.copier { copies = record x.copier.copies { told = [] } } }
