-- A turn of the client as both wires see it: all that it took and sent in it, at either server.
use Rattle.std.specs.Prelude.{ℕ, ◌≡◌, List, map, Option, Some, None}
use Rattle.caller_laws.specs.Good.{Identity, IsGood}
use Rattle.caller_laws.specs.OneStep.Runs.{AreSpelled}
use Rattle.caller_laws.specs.View.{caller_of}
use Rattle.client_core.specs.Endings.{Ways}
use Rattle.client_core.specs.State.{ClientState}
use Rattle.client_core.specs.Telling.{mount_at}
use Rattle.client_laws.specs.Bounds.Known.{ClientIsFit}
use Rattle.client_laws.specs.CallerLaws.{above_at}
use Rattle.client_laws.specs.MountTurns.{IsMountTurn}
use Rattle.client_laws.specs.Turns.{Hears, Turn}
use Rattle.client_site.specs.Sites.{end_of}
use Rattle.nfs_base.specs.declared.seal.End.TheVariants as ends
use Rattle.nfs_base.specs.declared.side.Side.{Side}
use Rattle.outbox.specs.declared.outgoing.Outbox.{Outbox}
use Rattle.outbox.specs.declared.outgoing.Outgoing.{Outgoing}
use Rattle.wire_model.specs.CallerLaws.{CallerLaws}
use Rattle.wire_model.specs.Wire.{Acts, Purpose, Sent}
use Rattle.wire_spelling.specs.Spelling.{spelling}

abbrev pub took_in : Turn → Option (List ℕ)
took_in (Hears side message now) = Some message
took_in _ = None

abbrev pub sent_of : Outgoing → Sent
sent_of one = record { bytes = one.bytes; seal = one.seal }

abbrev pub acts_of : Turn → Outbox → Acts
acts_of turn out = record { took = took_in turn; accepted = out.accepted; executed = None; out = map sent_of out.sent }

-- what holds between turns: both mounts are as they should be, each of its server, and callbacks come under contexts of the client's
pub record IsSettled {M : Type 0} (who : Identity) (c : ClientState M) : Type 0 where
  pub good : (side : Side) → IsGood who (mount_at side c)
  pub server : (side : Side) → (mount_at side c).server ≡ end_of side
  pub owner : c.back.owner ≡ ends.Client

-- what its calls in slots are for at each server
abbrev pub Purposes : Type 0
Purposes = Side → ℕ → Purpose

-- a turn, at both servers
abbrev pub IsTurnAtBoth : {M : Type 0} → Identity → Ways → ℕ → Purposes → Turn → ClientState M → ClientState M → Outbox → Type 0
IsTurnAtBoth who ways boot purposes turn c d out = (side : Side) → IsMountTurn who ways boot side (purposes side) turn c d out

-- what it asks can be spelled, at both
abbrev pub IsSpelledAtBoth : {M : Type 0} (who : Identity) (ways : Ways) (boot : ℕ) (purposes : Purposes) (turn : Turn) (c d : ClientState M) (out : Outbox)
    → IsTurnAtBoth who ways boot purposes turn c d out → Type 0
IsSpelledAtBoth who ways boot purposes turn c d out t = (side : Side) → AreSpelled ways.means (t side).steps (mount_at side c)

-- in the turn the client owes the server what every caller owes
abbrev pub IsLawfulTurn : {M : Type 0} (who : Identity) (ways : Ways) (boot : ℕ) (purposes : Purposes) (turn : Turn) (c d : ClientState M) (out : Outbox)
    → IsTurnAtBoth who ways boot purposes turn c d out → Side → Type 0
IsLawfulTurn who ways boot purposes turn c d out t side =
    CallerLaws (spelling who.accepts who.whose) (end_of side) who.own (caller_of (above_at boot (purposes side) c) (mount_at side c))
    (caller_of (above_at boot (t side).after d) (mount_at side d)) (acts_of turn out)

-- it is a turn at both, and what it asks can be spelled
pub record IsSpelledTurn {M : Type 0} (who : Identity) (ways : Ways) (boot : ℕ) (purposes : Purposes) (turn : Turn) (c d : ClientState M) (out : Outbox) : Type 0 where
  pub turns : IsTurnAtBoth who ways boot purposes turn c d out
  pub spelled : IsSpelledAtBoth who ways boot purposes turn c d out turns

-- it is a turn at both, obeys the laws of both wires, and leaves the client as it should be
pub record IsGoodTurn {M : Type 0} (who : Identity) (ways : Ways) (boot : ℕ) (purposes : Purposes) (turn : Turn) (c d : ClientState M) (out : Outbox) : Type 0 where
  pub turns : IsTurnAtBoth who ways boot purposes turn c d out
  pub lawful : (side : Side) → IsLawfulTurn who ways boot purposes turn c d out turns side
  pub settled : IsSettled who d
  pub fit : ClientIsFit d
