-- Calls that go out to a server, and what they are called.
use Rattle.std.specs.Prelude.{ℕ, nat_le, Bool, true, false, length, List, Option, Some, None}
use Rattle.copy_ops.specs.declared.operation.TheConstants.{OP_COPY, OP_COPY_NOTIFY, OP_OFFLOAD_CANCEL, OP_OFFLOAD_STATUS}
use Rattle.copy_privs.specs.Forms.{privilege_name, privilege_spell}
use Rattle.copy_privs.specs.declared.privilege.Privilege.{Privilege}
use Rattle.file_ops.specs.declared.operation.TheConstants.{OP_CLOSE, OP_COMMIT, OP_CREATE_SESSION, OP_EXCHANGE_ID, OP_GETATTR, OP_GETFH, OP_READ, OP_RECLAIM_COMPLETE, OP_WRITE}
use Rattle.gss_ctx.specs.Seals.{Mic}
use Rattle.nfs_base.specs.declared.limits.TheConstants.{PRIVILEGE_LIMIT}
use Rattle.nfs_base.specs.declared.side.Side.{Side}
use Rattle.client_copies.specs.declared.copy.Query.{Query}
use Rattle.client_copies.specs.declared.copy.Query.TheVariants as queries
use Rattle.client_copies.specs.declared.copy.Step.{Step}
use Rattle.client_copies.specs.declared.copy.Step.TheVariants as steps
use Rattle.client_site.specs.Sending.{again_in, created_in, sent_in, stepped_at, reclaimed_in, begun_in}
use Rattle.mount.specs.declared.calling.Under.{Under}
use Rattle.outbox.specs.declared.label.CallLabel.{CallLabel}
use Rattle.outbox.specs.declared.label.CallLabel.TheVariants as labels
use Rattle.session_calls.specs.declared.slot_call.FileCall.{FileCall}
use Rattle.session_calls.specs.declared.slot_call.FileCall.TheVariants as asks
use Rattle.session_calls.specs.declared.slot_call.SlotCall.{SlotCall}
use Rattle.session_calls.specs.declared.slot_call.SlotCall.TheVariants as calls
use Rattle.session_calls.specs.declared.sole_call.BackChannel.{BackChannel}
use Rattle.session_client.specs.declared.setup.Setup.{Setup}
use Rattle.session_client.specs.declared.setup.Setup.TheVariants as setups
use Rattle.client_steps.specs.Desks.{put_out, send_at, sent_out, site_at, with_site}
use Rattle.client_steps.specs.declared.desk.Desk.{Desk}

-- ---- a call is called by its last operation

abbrev pub file_op : FileCall → ℕ
file_op (asks.Close id) = OP_CLOSE
file_op (asks.Write id offset bytes) = OP_WRITE
file_op asks.Commit = OP_COMMIT
file_op asks.Change = OP_GETATTR
file_op asks.ChangeAndSize = OP_GETATTR
file_op (asks.Read id offset count) = OP_READ
file_op (asks.Status id) = OP_OFFLOAD_STATUS
file_op (asks.Cancel id) = OP_OFFLOAD_CANCEL

abbrev pub slot_op : SlotCall → ℕ
slot_op calls.ReclaimComplete = OP_RECLAIM_COMPLETE
slot_op (calls.Open client owner name) = OP_GETFH
slot_op (calls.OnFile file call) = file_op call
slot_op (calls.Notify file id destination) = OP_COPY_NOTIFY
slot_op (calls.Copy source_file source_id file id range source) = OP_COPY

abbrev pub step_label : Step → CallLabel
step_label steps.OpenSource = labels.Operation OP_GETFH
step_label steps.AllowSource = labels.Create
step_label steps.Notify = labels.Operation OP_COPY_NOTIFY
step_label steps.OpenDest = labels.Operation OP_GETFH
step_label steps.AllowDest = labels.Create
step_label steps.Copy = labels.Operation OP_COPY
step_label steps.OpenAgain = labels.Operation OP_GETFH
step_label steps.Last = labels.Operation OP_GETATTR

abbrev pub query_label : Query → CallLabel
query_label queries.Status = labels.Operation OP_OFFLOAD_STATUS
query_label queries.Cancel = labels.Operation OP_OFFLOAD_CANCEL

-- the call of a setup that is next
abbrev pub setup_label : Setup → CallLabel
setup_label setups.Down = labels.Init
setup_label (setups.Rooted verifier) = labels.Operation OP_EXCHANGE_ID
setup_label (setups.Registered client sequence) = labels.Operation OP_CREATE_SESSION
setup_label (setups.Joined client session) = labels.Operation OP_RECLAIM_COMPLETE
setup_label (setups.Up client session) = labels.Compound

-- ---- calls in slots; none where there is nothing to ask

abbrev pub slot_sent : Mic → Side → ℕ → Under → SlotCall → Desk → Bool × Desk
slot_sent mic side place under call d =
    put_out side (labels.Operation (slot_op call)) (sent_in mic (send_at place d) under call (site_at side d)) d

abbrev pub call_sent : Mic → Side → ℕ → Under → Option SlotCall → Desk → Bool × Desk
call_sent mic side place under None d = (false, d)
call_sent mic side place under (Some call) d = slot_sent mic side place under call d

-- ---- CREATE of a child, by what it carries; a privilege that no server can read isn't sent

abbrev pub create_if : Bool → Mic → Side → ℕ → Privilege → Desk → Bool × Desk
create_if false mic side j privilege d = (false, d)
create_if true mic side j privilege d =
    put_out side labels.Create (created_in mic (send_at j d) j (privilege_name privilege) (privilege_spell privilege) (site_at side d)) d

abbrev pub create_sent : Mic → Side → ℕ → Privilege → Desk → Bool × Desk
create_sent mic side j privilege d = create_if (nat_le (length (privilege_spell privilege)) PRIVILEGE_LIMIT) mic side j privilege d

-- ---- what is awaited goes out again

abbrev pub again_sent : Mic → Side → ℕ → CallLabel → Desk → Desk
again_sent mic side place label d = (put_out side label (again_in mic (send_at place d) (site_at side d)) d).1

-- ---- the setup

abbrev pub step_sent : Mic → List ℕ → Side → Option BackChannel → CallLabel → Desk → Bool × Desk
step_sent mic me side back label d = put_out side label (stepped_at mic (send_at 0 d) me back (site_at side d)) d

abbrev pub reclaim_sent : Mic → Side → Desk → Bool × Desk
reclaim_sent mic side d = put_out side (labels.Operation OP_RECLAIM_COMPLETE) (reclaimed_in mic (send_at 0 d) (site_at side d)) d

abbrev pub begin_sent : List ℕ → Option (List ℕ) → Side → Desk → Bool × Desk
begin_sent nonce token side d = put_out side labels.Init (begun_in (send_at 0 d) nonce token (site_at side d)) d
