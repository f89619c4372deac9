-- What a client does at one server in a turn, as steps of its mount there (`caller_laws`), each of which it may take.
use Rattle.std.specs.Prelude.{ℕ, ◌≡◌, ◌==◌, ◌&&◌, Bool, true, false, if◌then◌else◌, is_some, List, [], ◌∷◌, Option, Some, None}
use Rattle.std.specs.List.{AllByRecursion, flat_map}
use Rattle.caller_laws.specs.Good.{Identity, IsOwnToken}
use Rattle.caller_laws.specs.Lawful.{GoesOn, May, Obeys}
use Rattle.caller_laws.specs.Moves.{InSlot, Move, Sends, done}
use Rattle.caller_laws.specs.OneStep.Runs.{IsSpelled, MountStep}
use Rattle.caller_laws.specs.View.{Above}
use Rattle.client_copies.specs.Copies.{is_stable}
use Rattle.client_copies.specs.Table.{Copies, copy_at}
use Rattle.client_copies.specs.Words as phases
use Rattle.client_copies.specs.Words.{Phase, phase_of}
use Rattle.client_copies.specs.declared.copy.ClientCopy.{ClientCopy}
use Rattle.client_copies.specs.declared.copy.First.{First}
use Rattle.client_copies.specs.declared.copy.Query.{Query}
use Rattle.client_copies.specs.declared.copy.Query.TheVariants as queries
use Rattle.client_copies.specs.declared.copy.Stage.{Stage}
use Rattle.client_copies.specs.declared.copy.Stage.TheVariants as stages
use Rattle.client_copies.specs.declared.copy.Step.TheVariants as steps
use Rattle.client_core.specs.Endings.{Ways}
use Rattle.client_core.specs.State.{ClientState}
use Rattle.mount.specs.State.{Mounted}
use Rattle.mount.specs.Taking.{Means}
use Rattle.nfs_base.specs.declared.copy_spec.CopySpec.{CopySpec}
use Rattle.nfs_base.specs.declared.seal.End.{End}
use Rattle.nfs_base.specs.declared.seal.End.TheVariants as ends
use Rattle.nfs_base.specs.declared.seal.Seal.{Seal}
use Rattle.nfs_base.specs.declared.side.Side.{Side}
use Rattle.nfs_base.specs.declared.side.Side.TheVariants.{Source, Dest}
use Rattle.nfs_base.specs.declared.state_id.StateId.{StateId}
use Rattle.outbox.specs.declared.label.Label.{Label}
use Rattle.outbox.specs.declared.label.Label.TheVariants as labels
use Rattle.outbox.specs.declared.outgoing.Outgoing.{Outgoing}
use Rattle.outbox.specs.declared.outgoing.To.TheVariants as receivers
use Rattle.outbox.specs.declared.outgoing.To.{To}
use Rattle.session_calls.specs.declared.slot_call.CopyRange.{CopyRange}
use Rattle.session_calls.specs.declared.slot_call.FileCall.TheVariants as asks
use Rattle.session_calls.specs.declared.slot_call.SlotCall.{SlotCall}
use Rattle.session_calls.specs.declared.slot_call.SlotCall.TheVariants as calls
use Rattle.session_client.specs.declared.asked.Asked.{Asked}
use Rattle.streams.specs.declared.draws.Drawn.{Drawn}
use Rattle.streams.specs.declared.draws.Drawn.TheVariants.{Got}
use Rattle.wire_model.specs.Wire.{Acts, ForCopy, ForFirst, ForLast, ForOther, ForStatus, Purpose, Sent}

-- ---- what the client adds to a mount

-- what a call in the slot of a place is for
abbrev pub purpose_for : ℕ → SlotCall → Purpose
purpose_for j (calls.Notify file id destination) = ForFirst j
purpose_for j (calls.Copy source_file source_id file id range source) = ForCopy j
purpose_for j (calls.OnFile file asks.Change) = ForLast j
purpose_for j (calls.OnFile file (asks.Status id)) = ForStatus j
purpose_for j _ = ForOther

-- what COPY waits for: the first change attribute is known
abbrev pub knows_first : Option ClientCopy → Bool
knows_first None = false
knows_first (Some copy) = is_some copy.first

-- what the last GETATTR waits for: the copy was said to be stable, and nothing more yet
abbrev pub is_safe : Phase → Bool
is_safe phases.Safe = true
is_safe _ = false

abbrev pub is_said_stable : Option ClientCopy → Bool
is_said_stable None = false
is_said_stable (Some copy) = is_safe (phase_of copy.stage)

abbrev pub ready_in : Copies → Purpose → Bool
ready_in t (ForCopy j) = knows_first (copy_at j t)
ready_in t (ForLast j) = is_said_stable (copy_at j t)
ready_in t _ = true

-- the number of the opening, the count of calls to both servers, what the calls in the slots are for, and what is ready
abbrev pub above_by : ℕ → ℕ → (ℕ → Purpose) → Copies → Above
above_by boot calls purpose t = record { boot = boot; calls = calls; purpose = purpose; ready = ready_in t }

abbrev pub above_at : {M : Type 0} → ℕ → (ℕ → Purpose) → ClientState M → Above
above_at boot purpose c = above_by boot c.calls purpose c.copies

-- ---- a run of a mount's steps

-- a call in a slot is for what it asks, and what the others are for stays
abbrev pub purpose_after : Move → (ℕ → Purpose) → ℕ → Purpose
purpose_after (Sends at (InSlot under call)) purpose = λ place. if place == at.place then purpose_for at.place call else purpose place
purpose_after _ purpose = purpose

-- A call of a copy asks by what is known of it: COPY names the file and the grant that COPY_NOTIFY told, and its range is the copy's;
-- the last GETATTR is of that file; OFFLOAD_STATUS and OFFLOAD_CANCEL are of its name.
pub record IsOf (copy : Option ClientCopy) (is : ClientCopy → Type 0) : Type 0 where
  pub own : ClientCopy
  pub own_is : copy ≡ Some own
  pub so : is own

abbrev pub range_of : CopySpec → CopyRange
range_of spec = record { src_off = spec.src_off; dst_off = spec.dst_off; count = spec.count; consecutive = spec.consecutive }

pub record AsksCopy (source_file : List ℕ) (source_id : StateId) (range : CopyRange) (copy : ClientCopy) : Type 0 where
  pub first : First
  pub first_is : copy.first ≡ Some first
  pub file : first.file ≡ source_file
  pub grant : first.grant ≡ source_id
  pub range_is : range_of copy.spec ≡ range

pub record AsksLast (file : List ℕ) (copy : ClientCopy) : Type 0 where
  pub first : First
  pub first_is : copy.first ≡ Some first
  pub file_is : first.file ≡ file

abbrev pub AsksName : StateId → ClientCopy → Type 0
AsksName id copy = copy.id ≡ Some id

abbrev pub AsksOf : Option ClientCopy → SlotCall → Type 0
AsksOf copy (calls.Copy source_file source_id file id range source) = IsOf copy (AsksCopy source_file source_id range)
AsksOf copy (calls.OnFile file asks.Change) = IsOf copy (AsksLast file)
AsksOf copy (calls.OnFile file (asks.Status id)) = IsOf copy (AsksName id)
AsksOf copy (calls.OnFile file (asks.Cancel id)) = IsOf copy (AsksName id)
AsksOf copy _ = Unit {0}

-- and what it waits for has come about
abbrev pub AsksIn : Copies → Move → Type 0
AsksIn t (Sends at (InSlot under call)) = (ready_in t (purpose_for at.place call) ≡ true) × AsksOf (copy_at at.place t) call
AsksIn t _ = Unit {0}

abbrev pub AllAsk : Copies → List MountStep → Type 0
AllAsk t steps = AllByRecursion (λ (step : MountStep). AsksIn t step.move) steps

-- From a mount, with what the client adds to it, these steps lead to another, and each of them is one that it may take.
abbrev pub IsMountRun : Identity → Means → List MountStep → Above → Mounted → Above → Mounted → Type 0
IsMountRun who means [] a m b n = (b ≡ a) × (n ≡ m)
IsMountRun who means (step ∷ more) a m b n =
    GoesOn m a step.above
    × (step.above.purpose ≡ purpose_after step.move a.purpose)
    × (IsSpelled means.mic m step.move → May who means.mic a step.above m step.move)
    × IsMountRun who means more step.above (done means step.move m).mount b n

-- what is seen of the steps
abbrev pub acts_in : Means → List MountStep → Mounted → List Acts
acts_in means [] m = []
acts_in means (step ∷ more) m = (done means step.move m).shown ∷ acts_in means more (done means step.move m).mount

-- each of them obeys the laws of its server's wire
abbrev pub AllObey : Identity → Means → List MountStep → Above → Mounted → Type 0
AllObey who means [] a m = Unit {0}
AllObey who means (step ∷ more) a m =
    Obeys who means a step.above m step.move × AllObey who means more step.above (done means step.move m).mount

-- ---- what the client sends to a server, but for answers to its callbacks

abbrev pub is_end : Side → End → Bool
is_end Source ends.Source = true
is_end Dest ends.Dest = true
is_end _ _ = false

abbrev pub goes_to : Side → To → Bool
goes_to side (receivers.Server end) = is_end side end
goes_to side _ = false

abbrev pub is_call : Label → Bool
is_call (labels.Call label) = true
is_call _ = false

abbrev pub call_if : Bool → Outgoing → List Sent
call_if true one = record { bytes = one.bytes; seal = one.seal } ∷ []
call_if false one = []

abbrev pub calls_to : Side → List Outgoing → List Sent
calls_to side sent = flat_map (λ (one : Outgoing). call_if (goes_to side one.to && is_call one.label) one) sent

-- ---- what is taken, each record with the seal under which it is accepted

abbrev pub taken_by : Option (List ℕ) → Option Seal → List (List ℕ × Option Seal)
taken_by None accepted = []
taken_by (Some message) accepted = (message, accepted) ∷ []

abbrev pub taken_in : Acts → List (List ℕ × Option Seal)
taken_in acts = taken_by acts.took acts.accepted

-- ---- what is awaited in a copy's slot is what the copy awaits

-- COPY was answered: what is asked of the copy at the destination is asked from then on
abbrev pub is_past : Stage → Bool
is_past (stages.Due step) = is_stable step
is_past (stages.Asked step) = is_stable step
is_past stages.Accepted = true
is_past (stages.Over verdict) = true

pub record FitsSource (purpose : ℕ → Purpose) (j : ℕ) (copy : ClientCopy) : Type 0 where
  pub first : copy.stage ≡ stages.Asked steps.Notify → purpose j ≡ ForFirst j
  pub last : copy.stage ≡ stages.Asked steps.Last → purpose j ≡ ForLast j

pub record FitsDest (purpose : ℕ → Purpose) (j : ℕ) (copy : ClientCopy) : Type 0 where
  pub copy_is : copy.stage ≡ stages.Asked steps.Copy → purpose j ≡ ForCopy j
  pub status : copy.query ≡ Some queries.Status → purpose j ≡ ForStatus j
  pub past : (query : Query) → copy.query ≡ Some query → is_past copy.stage ≡ true

abbrev pub FitsAt : Side → (ℕ → Purpose) → ℕ → ClientCopy → Type 0
FitsAt Source purpose j copy = FitsSource purpose j copy
FitsAt Dest purpose j copy = FitsDest purpose j copy

-- no copy has the number 0, which is the place of writes and commits
pub record PurposesFit (side : Side) (purpose : ℕ → Purpose) (t : Copies) : Type 0 where
  pub each : (j : ℕ) → (j ≡ 0 → ⊥) → (copy : ClientCopy) → copy_at j t ≡ Some copy → FitsAt side purpose j copy

-- ---- tokens

-- The tokens that the client starts with drawn nonces are its own; `tokens_are_their_senders` of `caller_laws` says so of every
-- mechanism.
abbrev pub StartsOwn : {W : Type 0} → Identity → Ways → (W → Drawn → W → Type 0) → Type 0
StartsOwn {W} who ways gives =
    (v w : W) (nonce token : List ℕ) → gives v (Got nonce) w → ways.started nonce ≡ Some token → IsOwnToken who token
