-- By its own rules a source keeps its mechanism.
use Rattle.std.specs.Prelude.{◌≡◌, ℕ, Bool, true, false, Option, Some, None, Result, Ok, Err, refl, if◌then◌else◌}
use Rattle.std.proofs.Common.{◌∙◌}
use Rattle.copy_grants.specs.Grants.{GrantTable, notify_answer, notify_table}
use Rattle.copy_grants.specs.Permits.{permit_of, permit_refusal, permit_table}
use Rattle.copy_grants.specs.declared.ask.Permit.{Permit}
use Rattle.copy_grants.specs.declared.ask.Permit.TheVariants.{Denied, Permitted}
use Rattle.copy_grants.specs.declared.grants.Full.{Full}
use Rattle.copy_ops.specs.declared.arg.CopyArg.{CopyArg}
use Rattle.copy_ops.specs.declared.arg.CopyArg.TheVariants as args
use Rattle.copy_ops.specs.declared.args.NotifyArgs.{NotifyArgs}
use Rattle.file_server.specs.Answering.{meant_id, open_refusal}
use Rattle.file_server.specs.Handles.{current_file}
use Rattle.file_server.specs.Machine.{Going}
use Rattle.file_server.specs.declared.extension.Ask.{Ask}
use Rattle.file_server.specs.declared.extension.Ask.TheVariants as asks
use Rattle.file_server.specs.declared.extension.Caller.{Caller}
use Rattle.file_server.specs.declared.extension.Gate.{Gate}
use Rattle.gss_ctx.specs.Seals.{Mic}
use Rattle.nfs_base.specs.declared.net_loc.NetLoc.{NetLoc}
use Rattle.nfs_base.specs.declared.state_id.StateId.{StateId}
use Rattle.nfs_base.specs.declared.status.Status.{Status}
use Rattle.own_laws.specs.Following.{FollowsIn}
use Rattle.run_ends.specs.Mechanisms.Mechanisms.{SameSource}
use Rattle.server_volume.specs.Choices.{Choice}
use Rattle.source_core.specs.Asking.{asked_by, gated, is_of_grant, permitted, read_by_grant, read_by_open}
use Rattle.source_core.specs.Core.{source_rules}
use Rattle.source_core.specs.Serving.{allows, notify_allowed, notify_file, notify_told, notify_unless, serves, strings_of, with_grants}
use Rattle.source_core.specs.declared.carried.Carried.{Carried}
use Rattle.source_core.specs.declared.serving.GrantStrings.{GrantStrings}
use Rattle.source_core.specs.declared.source.Source.{Source}
use Rattle.state_ids.specs.declared.access.Access.TheVariants as access

-- ---- before an operation

permitted_same : {M : Type 0} (permit : Permit) (x : Source M) → SameSource x (permitted permit x).0
permitted_same Permitted x = refl
permitted_same (Denied cause) x = refl

if_same : {M : Type 0} (b : Bool) (x : Source M) (this other : Source M × Gate) → SameSource x this.0 → SameSource x other.0
    → SameSource x (if b then this else other).0
if_same true x this other p q = p
if_same false x this other p q = q

gate_same : {M : Type 0} (mic : Mic) (x : Source M) (caller : Caller) (carry : Option Carried) (ask : Ask) → SameSource x (gated mic x caller carry ask).0
gate_same mic x caller carry (asks.Operation op) = refl
gate_same mic x caller carry (asks.Read file id) =
    let asked = asked_by carry id file in
    if_same (is_of_grant id) x (read_by_grant mic caller.second asked x) (x, read_by_open carry)
    (permitted_same (permit_of (permit_refusal mic x.grants caller.second asked)) (record x { grants = permit_table mic x.grants caller.second asked })) refl
gate_same mic x caller carry (asks.Attributes file) = refl

-- ---- in an operation of its own

abbrev Stays : {M : Type 0} → Going (Source M) → Going (Source M) → Type 0
Stays g h = SameSource g.machine.extra h.machine.extra

told_same : {M : Type 0} (r : Result StateId Full) (own : NetLoc) (grants : GrantTable) (g : Going (Source M)) → Stays g (notify_told r own (with_grants grants g)).going
told_same (Err full) own grants g = refl
told_same (Ok id) own grants g = refl

unless_same : {M : Type 0} (why : Option Status) (second file : ℕ) (destination : NetLoc) (strings : GrantStrings) (g : Going (Source M))
    → Stays g (notify_unless why second file destination strings g).going
unless_same (Some status) second file destination strings g = refl
unless_same None second file destination strings g =
    let x = g.machine.extra in
    told_same (notify_answer x.grants) x.own (notify_table x.grants second file destination strings.user strings.secret) g

allowed_same : {M : Type 0} (allowed : Bool) (second file : ℕ) (asked : NotifyArgs) (strings : GrantStrings) (g : Going (Source M))
    → Stays g (notify_allowed allowed second file asked strings g).going
allowed_same false second file asked strings g = refl
allowed_same true second file asked strings g =
    unless_same (open_refusal g.machine.opens (meant_id g.held.id asked.src_id) file access.Read) second file asked.destination strings g

file_same : {M : Type 0} (second : ℕ) (carry : Option Carried) (r : Result ℕ Status) (asked : NotifyArgs) (g : Going (Source M))
    → Stays g (notify_file second carry r asked g).going
file_same second carry (Err status) asked g = refl
file_same second carry (Ok file) asked g = allowed_same (allows carry asked.destination) second file asked (strings_of carry) g

serve_same : {M : Type 0} (choice : Choice) (caller : Caller) (carry : Option Carried) (op : CopyArg) (g : Going (Source M))
    → Stays g (serves choice caller carry op g).going
unfolding serves
serve_same choice caller carry (args.Copy a) g = refl
serve_same choice caller carry (args.CopyNotify a) g = file_same caller.second carry (current_file g.machine.store g.held.current) a g
serve_same choice caller carry (args.OffloadCancel id) g = refl
serve_same choice caller carry (args.OffloadStatus id) g = refl
serve_same choice caller carry (args.Clone a) g = refl

-- ---- in all of its rules

pub follows : {M : Type 0} (mic : Mic) → FollowsIn {X = Source M} {C = Carried} SameSource (source_rules mic)
follows mic = record {
  same = λ x. refl;
  joins = λ x y z first second. second ∙ first;
  gate = gate_same mic;
  serve = serve_same;
  leave = λ client why x. refl;
  lapse = λ second x. refl;
  silent = λ x. refl;
}
