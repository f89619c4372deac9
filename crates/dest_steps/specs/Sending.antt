-- What goes out by a step: nothing that is longer than a record may be (RFC 5531 section 11), and what is told of a job's end goes to
-- its client, and not to a worker's link.
use Rattle.std.specs.Prelude.{◌≡◌, ℕ, ◌≤◌, List, All, length, Option, Some, None}
use Rattle.outbox.specs.Counting.{records_to}
use Rattle.outbox.specs.declared.outgoing.Outgoing.{Outgoing}
use Rattle.rpc_msg.specs.declared.records.TheConstants.{RECORD_LIMIT}
use Rattle.dest_steps.specs.declared.failing.Failing.{Failing}
use Rattle.dest_steps.specs.declared.failing.Failing.TheVariants as fails
use Rattle.dest_steps.specs.declared.landing.Landing.{Landing}
use Rattle.dest_steps.specs.declared.replying.Effect.{Effect}
use Rattle.dest_steps.specs.declared.replying.Effect.TheVariants as effects
use Rattle.dest_steps.specs.declared.turning.Turn.{Turn}
use Rattle.dest_steps.specs.declared.turning.Turn.TheVariants as turns

abbrev pub AreShort : List Outgoing → Type 0
AreShort sent = All (λ o. length o.bytes ≤ RECORD_LIMIT) sent

-- none of it goes to a worker's link
abbrev pub GoBack : List Outgoing → Type 0
GoBack sent = (worker : ℕ) → records_to worker sent ≡ 0

-- what is sent where a job ends
pub record IsTelling (sent : List Outgoing) : Type 0 where
  pub short : AreShort sent
  pub back : GoBack sent

-- ---- what may be sent by what is due

abbrev pub LandingMaySend : Option Landing → Type 0
LandingMaySend None = Unit {0}
LandingMaySend (Some told) = IsTelling told.fault.sent × IsTelling told.worn.sent

abbrev pub TurnMaySend : Turn → Type 0
TurnMaySend (turns.Sent call) = length call.bytes ≤ RECORD_LIMIT
TurnMaySend (turns.Stops job cause told) = IsTelling told.sent
TurnMaySend (turns.Lands told) = LandingMaySend told
TurnMaySend (turns.Commits job told) = IsTelling told.done.sent × IsTelling told.fault.sent
TurnMaySend _ = Unit {0}

abbrev pub EffectMaySend : Effect → Type 0
EffectMaySend (effects.Stops job cause told m) = IsTelling told.sent
EffectMaySend (effects.Lands job chunk bytes told m) = LandingMaySend told
EffectMaySend _ = Unit {0}

abbrev pub FailingMaySend : Failing → Type 0
FailingMaySend fails.Nothing = Unit {0}
FailingMaySend (fails.Stops job told) = IsTelling told.sent
