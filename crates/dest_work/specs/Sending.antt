-- What a worker sends to the source for a job (RFC 8881 section 2.10, RFC 7862 section 4.10.1.2): a step of the setup, CREATE
-- of the context by which the copy is confirmed, GETATTR of the file's size, or READ of a chunk. Each gives what goes out and
-- the mount afterwards.
use Rattle.std.specs.Prelude.{ℕ, ◌+◌, ◌&&◌, nat_le, Bool, true, false, if◌then◌else◌, is_none, List, length, Option, Some, None}
use Rattle.copy_privs.specs.Forms.{privilege_name, privilege_spell}
use Rattle.copy_privs.specs.declared.privilege.Privilege.{Privilege}
use Rattle.copy_privs.specs.declared.privilege.Privilege.TheVariants.{Confirm}
use Rattle.gss_ctx.specs.Seals.{Mic}
use Rattle.gss_mech.specs.declared.mechanism.TheConstants.{INITIATOR}
use Rattle.job_log.specs.declared.chunk.Chunk.{Chunk}
use Rattle.job_table.specs.declared.job.Plan.{Plan}
use Rattle.mount.specs.declared.calling.Under.TheVariants.{Child}
use Rattle.mount.specs.declared.machine.SendAt.{SendAt}
use Rattle.mount.specs.declared.machine.Sent.{Sent}
use Rattle.mount.specs.declared.state.Aim.TheVariants as aims
use Rattle.mount.specs.declared.state.Context.{Context}
use Rattle.mount.specs.Sending.{begun_anew, child_asked, name_under, slotted, stepped_in}
use Rattle.mount.specs.State.{Mounted, kept_in, root_context, setup_in}
use Rattle.nfs_base.specs.declared.limits.TheConstants.{NAME_LIMIT, PRIVILEGE_LIMIT}
use Rattle.session_calls.specs.declared.slot_call.FileCall.{FileCall}
use Rattle.session_calls.specs.declared.slot_call.FileCall.TheVariants as calls
use Rattle.session_calls.specs.declared.slot_call.SlotCall.TheVariants.{OnFile}
use Rattle.session_client.specs.declared.setup.Setup.{Setup}
use Rattle.session_client.specs.declared.setup.Setup.TheVariants as setups

-- ---- the setup

-- INIT wants a nonce, unless one is kept that goes out anew
abbrev pub is_down : Setup → Bool
is_down setups.Down = true
is_down _ = false

abbrev pub wants_nonce : Mounted → Bool
wants_nonce m = is_down (setup_in m.standing) && is_none (kept_in m.standing)

-- the source has no back channel to this caller
abbrev pub step_by : Setup → Mic → SendAt → (me : List ℕ) → Mounted → Option Sent × Mounted
step_by setups.Down mic at me m = begun_anew at m
step_by _ mic at me m = stepped_in mic at me None m.standing m

abbrev pub setup_sent : Mic → SendAt → (me : List ℕ) → Mounted → Option Sent × Mounted
setup_sent mic at me m = step_by (setup_in m.standing) mic at me m

-- ---- the context of a job, for which it shows by the root's key that it knows the copy's secret

abbrev pub privilege_of : Mic → (key : List ℕ) → Plan → Privilege
privilege_of mic key plan = Confirm (mic key INITIATOR plan.secret) plan.user

abbrev pub created_by : Mic → SendAt → (seat : ℕ) → Privilege → Mounted → Option Sent × Mounted
created_by mic at seat privilege m =
    if nat_le (length (privilege_spell privilege)) PRIVILEGE_LIMIT
    then child_asked mic at seat (privilege_name privilege) (privilege_spell privilege) m
    else (None, m)

abbrev pub confirmed_under : Mic → SendAt → (seat : ℕ) → Plan → Option Context → Mounted → Option Sent × Mounted
confirmed_under mic at seat plan None m = (None, m)
confirmed_under mic at seat plan (Some root) m = created_by mic at seat (privilege_of mic root.key plan) m

-- a user's name that no privilege carries is asked for nowhere
abbrev pub confirm_sent : Mic → SendAt → (seat : ℕ) → Plan → Mounted → Option Sent × Mounted
confirm_sent mic at seat plan m =
    if nat_le (length plan.user) NAME_LIMIT then confirmed_under mic at seat plan (root_context m) m else (None, m)

-- ---- calls under that context, of the source's file

abbrev pub size_call : FileCall
size_call = calls.ChangeAndSize

-- the chunk's offset counts from the start of the range
abbrev pub read_call : Plan → Chunk → FileCall
read_call plan chunk = calls.Read plan.src_id (plan.src_off + chunk.off) chunk.len

abbrev pub call_sent : Mic → SendAt → (seat : ℕ) → Plan → FileCall → Mounted → Option Sent × Mounted
call_sent mic at seat plan call m = slotted mic at (name_under (Child seat) m) aims.Slot (OnFile plan.source call) m
