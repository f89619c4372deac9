-- The operations of a copy at a source: COPY_NOTIFY, and OFFLOAD_CANCEL of what that granted. RFC 7862 sections 15.3 and
-- 15.8.
use Rattle.std.specs.Prelude.{◌≡◌, ℕ, Bool, true, false, if◌then◌else◌, Option, Some, None, Result, Ok, Err, [], ◌∷◌}
use Rattle.std.proofs.Math.IntN.{pos}
use Rattle.copy_grants.specs.Grants.{GrantTable, cancel_refusal, cancelled, expired, notify_answer, notify_table}
use Rattle.copy_grants.specs.declared.grants.Full.{Full}
use Rattle.copy_ops.specs.declared.arg.CopyArg.{CopyArg}
use Rattle.copy_ops.specs.declared.arg.CopyArg.TheVariants as args
use Rattle.copy_ops.specs.declared.args.NotifyArgs.{NotifyArgs}
use Rattle.copy_ops.specs.declared.res.CopyRes.{CopyRes}
use Rattle.copy_ops.specs.declared.res.CopyRes.TheVariants as results
use Rattle.copy_ops.specs.declared.results.CopyAnswer.TheVariants as copied
use Rattle.copy_ops.specs.declared.results.NotifyGrant.{NotifyGrant}
use Rattle.file_server.specs.declared.extension.Caller.{Caller}
use Rattle.file_server.specs.Answering.{meant_id, open_refusal}
use Rattle.file_server.specs.Handles.{current_file}
use Rattle.file_server.specs.Machine.{Going, with_extra}
use Rattle.nfs_base.specs.declared.answer.Answer.TheVariants.{Done, Refused}
use Rattle.nfs_base.specs.declared.limits.TheConstants.{LEASE_SECONDS}
use Rattle.nfs_base.specs.declared.net_loc.NetLoc.{NetLoc}
use Rattle.nfs_base.specs.declared.state_id.StateId.{StateId}
use Rattle.nfs_base.specs.declared.status.Status.{Status}
use Rattle.nfs_base.specs.declared.status.TheConstants.Status.{OK, ACCESS, BAD_STATEID, DELAY, NOTSUPP}
use Rattle.nfs_base.specs.Locations.{same_location}
use Rattle.server_volume.specs.Choices.{Choice}
use Rattle.state_ids.specs.declared.access.Access.TheVariants as access
use Rattle.compound_server.specs.declared.client_end.ClientEnd.{ClientEnd}
use Rattle.compound_server.specs.Serves.{Served, served}
use Rattle.source_core.specs.Asking.{is_of_grant}
use Rattle.source_core.specs.declared.carried.Carried.{Carried}
use Rattle.source_core.specs.declared.carried.Carried.TheVariants.{From, Confirm}
use Rattle.source_core.specs.declared.serving.GrantStrings.{GrantStrings}
use Rattle.source_core.specs.declared.source.Source.{Source}

abbrev pub with_grants : {M : Type 0} → GrantTable → Going (Source M) → Going (Source M)
with_grants grants g = with_extra (record g.machine.extra { grants = grants }) g

-- ---- COPY_NOTIFY. Its tests in their order: the current handle, the context's privilege for this destination, the open
-- with read access, room for a grant.

abbrev pub notify_refused : {X : Type 0} → Going X → Status → Served X
notify_refused g status = served g (results.CopyNotify (Refused status))

-- the context carries copy_from_auth for this destination
abbrev pub allows : Option Carried → NetLoc → Bool
allows (Some (From secret destination user)) asked = same_location destination asked
allows (Some (Confirm code user peer key)) asked = false
allows None asked = false

-- what a grant keeps of that privilege
abbrev pub strings_of : Option Carried → GrantStrings
strings_of (Some (From secret destination user)) = record { secret = secret; user = user }
strings_of (Some (Confirm code user peer key)) = record { secret = []; user = [] }
strings_of None = record { secret = []; user = [] }

-- a lease of 90 seconds, the grant's stateid, and where the source is found
abbrev pub grant_told : StateId → NetLoc → NotifyGrant
grant_told id own = record { lease = record { secs = pos LEASE_SECONDS; nanos = 0 }; id = id; sources = own ∷ [] }

abbrev pub notify_told : {X : Type 0} → Result StateId Full → NetLoc → Going X → Served X
notify_told (Err full) own g = notify_refused g DELAY
notify_told (Ok id) own g = served g (results.CopyNotify (Done (grant_told id own)))

abbrev pub notify_granted : {M : Type 0} → (second file : ℕ) → NetLoc → GrantStrings → Going (Source M) → Served (Source M)
notify_granted second file destination strings g =
    let x = g.machine.extra in
    notify_told (notify_answer x.grants) x.own
    (with_grants (notify_table x.grants second file destination strings.user strings.secret) g)

abbrev pub notify_unless : {M : Type 0} → Option Status → (second file : ℕ) → NetLoc → GrantStrings → Going (Source M) → Served (Source M)
notify_unless (Some status) second file destination strings g = notify_refused g status
notify_unless None second file destination strings g = notify_granted second file destination strings g

abbrev pub notify_allowed : {M : Type 0} → Bool → (second file : ℕ) → NotifyArgs → GrantStrings → Going (Source M) → Served (Source M)
notify_allowed false second file args strings g = notify_refused g ACCESS
notify_allowed true second file args strings g =
    notify_unless (open_refusal g.machine.opens (meant_id g.held.id args.src_id) file access.Read) second file args.destination strings g

abbrev pub notify_file : {M : Type 0} → (second : ℕ) → Option Carried → Result ℕ Status → NotifyArgs → Going (Source M) → Served (Source M)
notify_file second carry (Err status) args g = notify_refused g status
notify_file second carry (Ok file) args g =
    notify_allowed (allows carry args.destination) second file args (strings_of carry) g

abbrev pub notify : {M : Type 0} → (second : ℕ) → Option Carried → NotifyArgs → Going (Source M) → Served (Source M)
notify second carry args g = notify_file second carry (current_file g.machine.store g.held.current) args g

-- ---- OFFLOAD_CANCEL: of a grant alone. It looks at no handle.

abbrev pub grant_refusal : GrantTable → StateId → Option Status
grant_refusal grants id = if is_of_grant id then cancel_refusal grants id else Some BAD_STATEID

abbrev pub cancel_status : Option Status → Status
cancel_status (Some status) = status
cancel_status None = OK

abbrev pub after_cancel : Option Status → StateId → GrantTable → GrantTable
after_cancel (Some status) id grants = grants
after_cancel None id grants = cancelled id.number grants

abbrev pub cancel : {M : Type 0} → StateId → Going (Source M) → Served (Source M)
cancel id g =
    let grants = g.machine.extra.grants in
    let refusal = grant_refusal grants id in
    served (with_grants (after_cancel refusal id grants) g) (results.OffloadCancel (cancel_status refusal))

-- ---- all of them

unfoldable pub serves : {M : Type 0} → Choice → Caller → Option Carried → CopyArg → Going (Source M) → Served (Source M)
serves choice caller carry (args.Copy a) g = served g (results.Copy (copied.Refused NOTSUPP))
serves choice caller carry (args.CopyNotify a) g = notify caller.second carry a g
serves choice caller carry (args.OffloadCancel id) g = cancel id g
serves choice caller carry (args.OffloadStatus id) g = served g (results.OffloadStatus (Refused NOTSUPP))
serves choice caller carry (args.Clone a) g = served g (results.Clone NOTSUPP)

-- the memory that was taken for an operation: COPY_NOTIFY wants what a grant keeps
abbrev pub suits : GrantStrings → Option Carried → CopyArg → Type 0
suits strings carry (args.CopyNotify a) = strings ≡ strings_of carry
suits strings carry _ = Unit {0}

-- ---- time, and clients

-- what a second leaves: the grants that were used in the last 180
abbrev pub lapses : {M : Type 0} → (second : ℕ) → Source M → Source M
lapses second x = record x { grants = expired second x.grants }

-- a grant doesn't end with its client
abbrev pub leaves : {M : Type 0} → (client : ℕ) → ClientEnd → Source M → Source M
leaves client why x = x

abbrev pub given : {M : Type 0} → Source M → ℕ
given x = x.grants.made
