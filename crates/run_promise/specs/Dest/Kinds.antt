-- What a moment of a run is to its destination, with all that is known of it. Own definitions.
use Rattle.std.specs.Prelude.{◌≡◌, ◌⊎◌, ℕ, List, [], Option, Some, None}
use Rattle.dest_core.specs.Stepping.{DestState, DestStep, IsRecord, IsReply, IsWork, tick_step}
use Rattle.dest_steps.specs.Copier as steps
use Rattle.server_laws.specs.Acts.{acts_of}
use Rattle.session_server.specs.Host.{Codes}
use Rattle.session_server.specs.Lengths.{AreShort}
use Rattle.session_server.specs.declared.host.TheConstants.{MOST_STEPS}
use Rattle.wire_lines.specs.declared.letters.Speaker.{Speaker}
use Rattle.wire_lines.specs.declared.letters.Speaker.TheVariants as speakers
use Rattle.wire_model.specs.Wire.{Executed}
use Rattle.run_ends.specs.Ends.{Words}
use Rattle.run_ends.specs.Handling.{IsHandled}

-- from this state by that step, in which it took this, who tells of it, and what it executed
module _ {M : Type 0} (words : Words M ℕ) (d : DestState M) (t : DestStep M) (took : Option (List ℕ)) (speaker : Speaker) (executed : Option Executed) where
  abbrev codes : Codes
  codes = record { mic = words.mic; derived = words.derived }

  abbrev own_codes : steps.Codes
  own_codes = record { mic = words.mic; derived = words.derived }

  -- a record comes on a connection
  pub record TakesRecord : Type 0 where
    pub conn : ℕ
    pub bytes : List ℕ
    pub now : ℕ
    pub draws : ℕ
    pub left : ℕ
    pub is : IsRecord codes (words.accepted d.state.machine.extra.mech) words.gives conn bytes now d draws left t
    pub took_is : took ≡ Some bytes
    pub speaker_is : speaker ≡ speakers.Dest
    pub told : executed ≡ (acts_of codes bytes now d t).executed
    pub handled : IsHandled d.steps MOST_STEPS (Some bytes) t.out
    pub short : AreShort t.out.sent

  -- a worker's turn
  pub record TakesTurn : Type 0 where
    pub place : ℕ
    pub now : ℕ
    pub draws : ℕ
    pub left : ℕ
    pub is : IsWork words.gives (words.started d.state.machine.extra.mech) own_codes place now d draws left t
    pub took_is : took ≡ None
    pub speaker_is : speaker ≡ speakers.Dest
    pub none : executed ≡ None
    pub handled : IsHandled d.steps MOST_STEPS None t.out

  -- a record of the source comes to a worker
  pub record TakesReply : Type 0 where
    pub place : ℕ
    pub bytes : List ℕ
    pub now : ℕ
    pub is : IsReply own_codes (words.finished d.state.machine.extra.mech d.state.machine.extra.copier.principal) place bytes now d t
    pub took_is : took ≡ Some bytes
    pub speaker_is : speaker ≡ speakers.Worker
    pub none : executed ≡ None
    pub handled : IsHandled d.steps MOST_STEPS (Some bytes) t.out

  -- a second comes by itself
  pub record TakesSecond : Type 0 where
    pub now : ℕ
    pub is : t ≡ tick_step own_codes now d
    pub took_is : took ≡ None
    pub none : executed ≡ None
    pub handled : IsHandled d.steps MOST_STEPS None t.out

  -- it rests
  pub record TakesNone : Type 0 where
    pub same : t.host ≡ d
    pub used : t.out.used ≡ []
    pub sent : t.out.sent ≡ []
    pub none : executed ≡ None

  abbrev pub Kind : Type 0
  Kind = TakesRecord ⊎ (TakesTurn ⊎ (TakesReply ⊎ (TakesSecond ⊎ TakesNone)))
