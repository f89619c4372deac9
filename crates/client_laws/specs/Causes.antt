-- Why something happens to a copy in a turn.
use Rattle.std.specs.Prelude.{ℕ, ◌≡◌, ◌∷◌, true, List, Some, Contains, Ok}
use Rattle.client_copies.specs.Held.{told_for}
use Rattle.client_copies.specs.Table.{copy_at, names}
use Rattle.client_copies.specs.declared.event.Event.{Event}
use Rattle.client_copies.specs.declared.event.Event.TheVariants as events
use Rattle.client_copies.specs.declared.held.HeldOffload.{HeldOffload}
use Rattle.client_site.specs.declared.taking.Found.{Found}
use Rattle.client_steps.specs.Answers.{copy_deed}
use Rattle.client_steps.specs.CopySteps.{copy_in}
use Rattle.client_steps.specs.Replies.{taken, under_seal}
use Rattle.client_steps.specs.declared.deeds.Deed.{Deed}
use Rattle.client_steps.specs.declared.deeds.Deed.TheVariants as deeds
use Rattle.client_steps.specs.declared.desk.Desk.{Desk}
use Rattle.copy_ops.specs.declared.callback.CbOffload.{CbOffload}
use Rattle.copy_ops.specs.declared.callback.OffloadEnd.{OffloadEnd}
use Rattle.file_ops.specs.declared.callbacks.CbSeq.{CbSeq}
use Rattle.nfs_base.specs.declared.side.Side.{Side}
use Rattle.nfs_base.specs.declared.state_id.StateId.{StateId}
use Rattle.nfs_compound.specs.Compounds.{cb_compound_of}
use Rattle.nfs_compound.specs.declared.cb_compound.CbCompound.{CbCompound}
use Rattle.nfs_compound.specs.declared.cb_op.CbOp.{CbOp}
use Rattle.nfs_compound.specs.declared.cb_op.CbOp.TheVariants as ops
use Rattle.rpc_calls.specs.Judging.{judged_of}
use Rattle.rpc_calls.specs.declared.call.Call.{Call}
use Rattle.rpc_calls.specs.declared.call.Judged.TheVariants as judged
use Rattle.rpc_calls.specs.declared.call.TheConstants.Program as programs
use Rattle.rpc_calls.specs.declared.call.Under.{Under}
use Rattle.rpc_calls.specs.declared.call.What.TheVariants as whats
use Rattle.client_core.specs.Endings.{Ways, desk_at}
use Rattle.client_core.specs.State.{ClientState, second_at}
use Rattle.client_laws.specs.Changes.{is_own}
use Rattle.client_laws.specs.Turns.{Turn, Hears}

-- what a client has in hand once the record was taken
abbrev pub desk_heard : {M : Type 0} → Ways → Side → List ℕ → ℕ → Found → ClientState M → Desk
desk_heard ways side message now found c = under_seal found.accepted (taken ways.means message side (desk_at now c)).1

-- The record is a server's reply to what copy j awaits there, and this is what it comes to.
pub record IsAnswered {M : Type 0} (ways : Ways) (side : Side) (message : List ℕ) (now : ℕ) (c : ClientState M) (j : ℕ) (deed : Deed) : Type 0 where
  pub found : Found
  pub found_is : (taken ways.means message side (desk_at now c)).0 ≡ Some found
  pub place : found.place ≡ j
  pub deed_is : copy_deed found.told side (copy_in j (desk_heard ways side message now found c)) found.sent_at (desk_heard ways side message now found c) ≡ deed

-- The record is a call of the callback program under a context, and among the operations of its CB_COMPOUND, behind the CB_SEQUENCE
-- that stands first, is this CB_OFFLOAD.
pub record IsCalledBack {M : Type 0} (ways : Ways) (message : List ℕ) (now : ℕ) (c : ClientState M) (id : StateId) (end : OffloadEnd) : Type 0 where
  pub call : Call
  pub judged_is : judged_of ways.means.mic (second_at now c) programs.CALLBACK message c.back ≡ judged.Call call
  pub args : List ℕ
  pub what : call.what ≡ whats.Compound args
  pub under : Under
  pub under_is : call.under ≡ Some under
  pub compound : CbCompound
  pub read : cb_compound_of args ≡ Ok compound
  pub first : CbSeq
  pub more : List CbOp
  pub ops_are : compound.ops ≡ ops.Sequence first ∷ more
  pub offload : CbOffload
  pub there : Contains more (ops.Offload offload)
  pub id_is : offload.id ≡ id
  pub end_is : offload.end ≡ end

-- In this turn a CB_OFFLOAD came that says what is held.
pub record WasCalledBack {M : Type 0} (ways : Ways) (turn : Turn) (c : ClientState M) (held : HeldOffload) : Type 0 where
  pub side : Side
  pub message : List ℕ
  pub now : ℕ
  pub turn_is : turn ≡ Hears side message now
  pub by : IsCalledBack ways message now c held.id held.end

-- Why this happens to copy j: the client does it of itself; a server's answer comes to it; COPY is answered, and what a
-- CB_OFFLOAD brought before was held for the name that it gives; or a CB_OFFLOAD comes of its name.
pub data Cause {M : Type 0} (ways : Ways) (turn : Turn) (c : ClientState M) (j : ℕ) : Event → Type 0 where
  ByItself : (event : Event) → is_own event ≡ true → Cause ways turn c j event
  ByAnswer : (side : Side) (message : List ℕ) (now : ℕ) (event : Event) → turn ≡ Hears side message now
      → IsAnswered ways side message now c j (deeds.Copy event) → Cause ways turn c j event
  ByAcceptance : (side : Side) (message : List ℕ) (now : ℕ) (id : StateId) (sent_at : ℕ) → turn ≡ Hears side message now
      → IsAnswered ways side message now c j (deeds.Starts id) → Cause ways turn c j (events.Accepted id sent_at)
  ByHeld : (side : Side) (message : List ℕ) (now : ℕ) (id : StateId) (end : OffloadEnd) → turn ≡ Hears side message now
      → IsAnswered ways side message now c j (deeds.Starts id) → told_for id c.copies.held ≡ Some end → Cause ways turn c j (events.Offloaded end)
  ByCallback : (side : Side) (message : List ℕ) (now : ℕ) (id : StateId) (end : OffloadEnd) → turn ≡ Hears side message now
      → names id (copy_at j c.copies) ≡ true → IsCalledBack ways message now c id end → Cause ways turn c j (events.Offloaded end)
