-- The client along a run of the three machines: at each moment it rests, or makes a turn that it may make at both servers, and whose
-- calls can be spelled. What its calls in slots are for goes along. Own definitions.
use Rattle.std.specs.Prelude.{◌≡◌, ℕ, suc, ◌<◌, List, slice_get, Option, Some, None}
use Rattle.caller_laws.specs.Good.{Identity}
use Rattle.client_core.specs.State.{ClientState}
use Rattle.client_laws.specs.Bounds.Known.{ClientIsFit}
use Rattle.client_laws.specs.Fits.{TurnIsFit}
use Rattle.client_laws.specs.MountTurns.{TakesBytes}
use Rattle.client_laws.specs.Turns.{MayTurn}
use Rattle.client_laws.specs.WholeTurns.{IsSettled, IsSpelledTurn, Purposes}
use Rattle.nfs_base.specs.declared.seal.End.{End}
use Rattle.nfs_base.specs.declared.seal.End.TheVariants.{Client}
use Rattle.nfs_base.specs.declared.side.Side.{Side}
use Rattle.run_ends.specs.Ends.{RunStep, RunWorld, Words, machines, ways}
use Rattle.run_promise.specs.Client.Turns.{Acted, Rested, act_in, second_in, turn_of}
use Rattle.run_promise.specs.System.Moments.{world_at}
use Rattle.run_promise.specs.System.System.{ClientView, system_of, telling}
use Rattle.session_server.specs.Host.{Codes}
use Rattle.wire_lines.specs.declared.letters.Speaker.TheVariants as speakers
use Rattle.wire_machine.specs.Ends.{ClientAct}
use Rattle.wire_machine.specs.World.{Part, idle}
use Rattle.wire_model.specs.CallerLaws.{CallerLaws}
use Rattle.wire_model.specs.Check.{IsUnmistaken}
use Rattle.wire_model.specs.Meaning.{Meaning}
use Rattle.wire_model.specs.Spelling.{Spelling}
use Rattle.wire_model.specs.System.{System}
use Rattle.wire_model.specs.Told.{opening}
use Rattle.wire_model.specs.Wire.{Wire}

-- what else a client's act owes: the turn is one that may be made, what it is told to do is within bounds, and there is an xid left
pub record MayAct {M : Type 0} (act : ClientAct) (now : ℕ) (c d : ClientState M) : Type 0 where
  pub may : MayTurn (turn_of act now) c
  pub fit : TakesBytes (turn_of act now) → TurnIsFit (turn_of act now)
  pub few : d.calls < 4294967295

-- The client makes a turn, of what its calls in slots were for and what they are for behind it.
pub record Turned {M : Type 0} (words : Words M ℕ) (who : Identity) (before next : Purposes) (act : ClientAct) (now : ℕ) (c d : ClientState M) (part : Part) : Type 0 where
  pub acted : Acted words act now c d part
  pub may : MayTurn (turn_of act now) c
  pub spelled : IsSpelledTurn who (ways words c) 0 before (turn_of act now) c d part.out
  pub after : next ≡ (λ (side : Side). (spelled.turns side).after)

abbrev pub Goes : {M : Type 0} → Words M ℕ → Identity → (before next : Purposes) → Option ClientAct → (now : ℕ) → (c d : ClientState M) → Part → Type 0
Goes words who before next None now c d part = Rested c d part × (next ≡ before)
Goes words who before next (Some act) now c d part = Turned words who before next act now c d part

-- ---- along a run

abbrev pub act_by : {M : Type 0} → Option (RunStep M) → RunWorld M → Option ClientAct
act_by None w = None
act_by (Some s) w = act_in s.event w.log

abbrev pub second_by : {M : Type 0} → Option (RunStep M) → RunWorld M → ℕ
second_by None w = w.clock
second_by (Some s) w = second_in s.event w.clock

abbrev pub part_by : {M : Type 0} → Option (RunStep M) → Part
part_by None = idle speakers.Client
part_by (Some s) = s.parts.client

abbrev pub codes_of : {M : Type 0} → Words M ℕ → Codes
codes_of words = record { mic = words.mic; derived = words.derived }

module _ {M : Type 0} (words : Words M ℕ) (spell : Spelling) (meaning : Meaning) (first : RunWorld M) (steps : List (RunStep M)) where
  abbrev pub run_at : ℕ → RunWorld M
  run_at k = world_at (machines words) (telling (codes_of words)) spell meaning first steps k

  abbrev pub client_at : ℕ → ClientState M
  client_at k = (run_at k).client

  abbrev pub act_at : ℕ → Option ClientAct
  act_at k = act_by (slice_get steps k) (run_at k)

  abbrev pub second_at : ℕ → ℕ
  second_at k = second_by (slice_get steps k) (run_at k)

  -- each of its acts is one that it may make
  abbrev pub MayGo : Type 0
  MayGo = (k : ℕ) (act : ClientAct) → act_at k ≡ Some act → MayAct act (second_at k) (client_at k) (client_at (suc k))

  pub record GoesAlong (who : Identity) : Type 0 where
    pub purposes : ℕ → Purposes
    pub goes : (k : ℕ) → Goes words who (purposes k) (purposes (suc k)) (act_at k) (second_at k) (client_at k) (client_at (suc k)) (part_by (slice_get steps k))
    pub settled : (k : ℕ) → IsSettled who (client_at k)
    pub fit : (k : ℕ) → ClientIsFit (client_at k)
    pub setting : (k : ℕ) → (client_at k).setting ≡ (client_at 0).setting

-- ---- the system of a run, and what the client owes in it

abbrev pub system_by : {M : Type 0} → Words M ℕ → Spelling → Meaning → ClientView M → RunWorld M → List (RunStep M) → (ℕ → Purposes) → System
system_by words spell meaning seen first steps purposes = system_of (machines words) (codes_of words) spell meaning seen first steps purposes

-- in the step from a moment, to a server; it is this end by what is known of its tokens
abbrev pub ClientObeys : Spelling → (own : End) → System → (owner : End) → ℕ → Type 0
ClientObeys spell own s owner k = CallerLaws spell owner own (s.caller owner Client k) (s.caller owner Client (suc k)) (s.acts Client k)

-- no end is mistaken on the wire, each in its opening as a caller
abbrev pub AreUnmistaken : Spelling → Wire → Type 0
AreUnmistaken spell w = IsUnmistaken spell w.acts (opening w)
