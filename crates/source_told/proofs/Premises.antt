-- A source's own operations make no call on its volume, and it refuses by failures.
use Rattle.std.proofs.Common.{◌≡◌, ℕ, Bool, true, false, Option, Some, None, Result, Ok, Err, refl, sym, subst, arith}
use Rattle.std.specs.Prelude.{◌&&◌, not, if◌then◌else◌}
use Rattle.compound_server.specs.Serves.{Served}
use Rattle.copy_grants.specs.Grants.{GrantTable, notify_answer, notify_table}
use Rattle.copy_grants.specs.Permits.{cause_status, is_shown, permit_of, permit_refusal, permit_table}
use Rattle.nfs_base.specs.declared.cause.Cause.{Cause}
use Rattle.nfs_base.specs.declared.cause.Cause.TheVariants as causes
use Rattle.copy_grants.specs.declared.ask.Permit.{Permit}
use Rattle.copy_grants.specs.declared.ask.Permit.TheVariants.{Permitted, Denied}
use Rattle.copy_grants.specs.declared.grants.Full.{Full}
use Rattle.copy_ops.specs.declared.arg.CopyArg.{CopyArg}
use Rattle.copy_ops.specs.declared.arg.CopyArg.TheVariants as args
use Rattle.copy_ops.specs.declared.args.NotifyArgs.{NotifyArgs}
use Rattle.file_server.specs.Answering.{meant_id, open_refusal}
use Rattle.file_server.specs.Handles.{current_file}
use Rattle.file_server.specs.Machine.{Going}
use Rattle.file_server.specs.declared.extension.Ask.{Ask}
use Rattle.file_server.specs.declared.extension.Ask.TheVariants as asks
use Rattle.file_server.specs.declared.extension.Caller.{Caller}
use Rattle.file_server.specs.declared.extension.Gate.{Gate}
use Rattle.file_server.specs.declared.extension.Gate.TheVariants as gate
use Rattle.gss_ctx.specs.Seals.{Mic}
use Rattle.nfs_base.specs.declared.net_loc.NetLoc.{NetLoc}
use Rattle.nfs_base.specs.declared.state_id.StateId.{StateId}
use Rattle.nfs_base.specs.declared.status.Status.{Status}
use Rattle.nfs_base.specs.declared.status.TheConstants.Status.{ACCESS}
use Rattle.server_volume.specs.Choices.{Choice}
use Rattle.slot_laws.specs.Fronts.{IsFailure}
use Rattle.state_ids.specs.declared.access.Access.TheVariants as access
use Rattle.source_core.specs.Asking.{asked_by, gated, is_confirming, is_free, is_of_grant, no_id, permitted, read_by_grant, read_by_open}
use Rattle.source_core.specs.Core.{source_rules}
use Rattle.source_core.specs.Serving.{allows, notify_allowed, notify_file, notify_told, notify_unless, serves, strings_of, with_grants}
use Rattle.source_core.specs.declared.carried.Carried.{Carried}
use Rattle.source_core.specs.declared.serving.GrantStrings.{GrantStrings}
use Rattle.source_core.specs.declared.source.Source.{Source}
use Rattle.tell_laws.specs.Telling.{RefusesByFailures}
use Rattle.tell_laws.specs.Volumes.{CallsNone}

-- ---- its own operations

-- the calls are those before
abbrev Keeps : {M : Type 0} → Going (Source M) → Served (Source M) → Type 0
Keeps g s = s.going.used ≡ g.used

module _ {M : Type 0} where
  told_keeps : (r : Result StateId Full) (own : NetLoc) (grants : GrantTable) (g : Going (Source M)) → Keeps g (notify_told r own (with_grants grants g))
  told_keeps (Err full) own grants g = refl
  told_keeps (Ok id) own grants g = refl

  unless_keeps : (why : Option Status) (second file : ℕ) (destination : NetLoc) (strings : GrantStrings) (g : Going (Source M))
      → Keeps g (notify_unless why second file destination strings g)
  unless_keeps (Some status) second file destination strings g = refl
  unless_keeps None second file destination strings g =
      let x = g.machine.extra in
      told_keeps (notify_answer x.grants) x.own (notify_table x.grants second file destination strings.user strings.secret) g

  allowed_keeps : (allowed : Bool) (second file : ℕ) (asked : NotifyArgs) (strings : GrantStrings) (g : Going (Source M))
      → Keeps g (notify_allowed allowed second file asked strings g)
  allowed_keeps false second file asked strings g = refl
  allowed_keeps true second file asked strings g =
      unless_keeps (open_refusal g.machine.opens (meant_id g.held.id asked.src_id) file access.Read) second file asked.destination strings g

  file_keeps : (second : ℕ) (carry : Option Carried) (r : Result ℕ Status) (asked : NotifyArgs) (g : Going (Source M)) → Keeps g (notify_file second carry r asked g)
  file_keeps second carry (Err status) asked g = refl
  file_keeps second carry (Ok file) asked g = allowed_keeps (allows carry asked.destination) second file asked (strings_of carry) g

  serves_none : (choice : Choice) (caller : Caller) (carry : Option Carried) (op : CopyArg) (g : Going (Source M)) → Keeps g (serves choice caller carry op g)
  unfolding serves
  serves_none choice caller carry (args.Copy a) g = refl
  serves_none choice caller carry (args.CopyNotify a) g = file_keeps caller.second carry (current_file g.machine.store g.held.current) a g
  serves_none choice caller carry (args.OffloadCancel id) g = refl
  serves_none choice caller carry (args.OffloadStatus id) g = refl
  serves_none choice caller carry (args.Clone a) g = refl

pub calls_none : {M : Type 0} (mic : Mic) → CallsNone (source_rules {M = M} mic)
calls_none {M} mic = serves_none {M = M}

-- ---- what it refuses

-- each refusal is by a failure
abbrev Fails : Gate → Type 0
Fails said = (status : Status) → said ≡ gate.Refuse status → IsFailure status.number

refuses : (cause status : Status) → IsFailure cause.number → gate.Refuse cause ≡ gate.Refuse status → IsFailure status.number
refuses cause status fails same =
    let is : cause ≡ status = cc in
    subst (λ (s : Status). IsFailure s.number) is fails

access_failure : IsFailure ACCESS.number
access_failure = (omega arith, λ e. omega (arith, e))

cause_failure : (cause : Cause) → IsFailure (cause_status cause).number
cause_failure causes.NoPrivilege = access_failure
cause_failure causes.Stale = (omega arith, λ e. omega (arith, e))
cause_failure causes.Unknown = (omega arith, λ e. omega (arith, e))
cause_failure causes.Expired = (omega arith, λ e. omega (arith, e))
cause_failure causes.WrongFile = (omega arith, λ e. omega (arith, e))
cause_failure causes.WrongDestination = access_failure
cause_failure causes.WrongUser = access_failure
cause_failure causes.Unconfirmed = access_failure

serve_fails : Fails gate.Serve
serve_fails status same = absurd cc

usual_fails : Fails gate.Usual
usual_fails status same = absurd cc

access_fails : (b : Bool) → Fails (if b then gate.Refuse ACCESS else gate.Usual)
access_fails true status same = refuses ACCESS status access_failure same
access_fails false status same = usual_fails status same

shown_fails : (confirming shown : Bool) → Fails (if confirming then (if shown then gate.Serve else gate.Refuse ACCESS) else gate.Usual)
shown_fails true true status same = serve_fails status same
shown_fails true false status same = refuses ACCESS status access_failure same
shown_fails false shown status same = usual_fails status same

module _ {M : Type 0} (mic : Mic) where
  permit_fails : (said : Permit) (x : Source M) → Fails (permitted said x).1
  permit_fails Permitted x status same = serve_fails status same
  permit_fails (Denied cause) x status same = refuses (cause_status cause) status (cause_failure cause) same

  by_kind : (second : ℕ) (carry : Option Carried) (file : ℕ) (id : StateId) (x : Source M) (kind : Bool)
      → Fails (if kind then read_by_grant mic second (asked_by carry id file) x else (x, read_by_open carry)).1
  by_kind second carry file id x true =
      let asked = asked_by carry id file in
      permit_fails (permit_of (permit_refusal mic x.grants second asked)) (record x { grants = permit_table mic x.grants second asked })
  by_kind second carry file id x false = access_fails (is_confirming carry)

  gate_fails : (x : Source M) (caller : Caller) (carry : Option Carried) (ask : Ask) → Fails (gated mic x caller carry ask).1
  gate_fails x caller carry (asks.Operation op) = access_fails (is_confirming carry && not (is_free op))
  gate_fails x caller carry (asks.Read file id) = by_kind caller.second carry file id x (is_of_grant id)
  gate_fails x caller carry (asks.Attributes file) =
      shown_fails (is_confirming carry) (is_shown mic x.grants caller.second (asked_by carry no_id file))

pub refuses_by_failures : {M : Type 0} (mic : Mic) → RefusesByFailures (source_rules {M = M} mic)
refuses_by_failures {M} mic x caller carry ask status same = gate_fails {M = M} mic x caller carry ask status same
