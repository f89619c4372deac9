-- A turn of the client at one server: a run of its mount's steps.
use Rattle.std.specs.Prelude.{ℕ, ◌≡◌, ◌⊎◌, ◌||◌, true, false, List, [], ◌∷◌, Option, Some}
use Rattle.std.specs.List.{AllByRecursion, flat_map}
use Rattle.caller_laws.specs.Good.{Identity}
use Rattle.caller_laws.specs.OneStep.Order.{IsOrdered}
use Rattle.caller_laws.specs.OneStep.Runs.{MountStep}
use Rattle.client_core.specs.Endings.{Ways}
use Rattle.client_core.specs.State.{ClientState}
use Rattle.client_core.specs.Telling.{mount_at}
use Rattle.client_laws.specs.CallerLaws.{AllAsk, IsMountRun, PurposesFit, above_at, acts_in, calls_to, goes_to, is_call, taken_in}
use Rattle.client_laws.specs.Order.{NoneBeginsAnew, count_behind, numbers_in, numbers_to}
use Rattle.client_laws.specs.Turns.{Hears, Turn}
use Rattle.gss_ctx.specs.Seals.{Mic}
use Rattle.gss_mech.specs.Tokens.{IsSized}
use Rattle.nfs_base.specs.declared.seal.End.{End}
use Rattle.nfs_base.specs.declared.seal.Seal.{Seal}
use Rattle.nfs_base.specs.declared.side.Side.{Side}
use Rattle.nfs_base.specs.declared.side.Side.TheVariants.{Source, Dest}
use Rattle.outbox.specs.declared.outgoing.Outbox.{Outbox}
use Rattle.outbox.specs.declared.outgoing.Outgoing.{Outgoing}
use Rattle.wire_model.specs.Wire.{Acts, Purpose}
use Rattle.wire_spelling.specs.Replies.{is_reply}
use Rattle.wire_xdr.specs.Cursor.{IsBytes}

-- the record of the turn comes from the other server
pub record HearsElsewhere (side : Side) (turn : Turn) : Type 0 where
  pub there : Side
  pub message : List ℕ
  pub now : ℕ
  pub turn_is : turn ≡ Hears there message now
  pub elsewhere : side ≡ there → ⊥

-- What is accepted isn't the mount's: it is accepted under a context of the client's own, or comes from elsewhere.
abbrev pub IsStrange : End → Side → Turn → Option Seal → Type 0
IsStrange owner side turn accepted = (seal : Seal) → accepted ≡ Some seal → (seal.owner ≡ owner) ⊎ HearsElsewhere side turn

-- The mount takes nothing, or the record that comes from its server, under the seal that the outbox tells.
pub record HearsAt (side : Side) (turn : Turn) (accepted : Option Seal) (taken : List (List ℕ × Option Seal)) : Type 0 where
  pub message : List ℕ
  pub now : ℕ
  pub turn_is : turn ≡ Hears side message now
  pub is : taken ≡ (message, accepted) ∷ []

abbrev pub IsTaken : End → Side → Turn → Option Seal → List (List ℕ × Option Seal) → Type 0
IsTaken owner side turn accepted taken = ((taken ≡ []) × IsStrange owner side turn accepted) ⊎ HearsAt side turn accepted taken

-- what comes is bytes
abbrev pub TakesBytes : Turn → Type 0
TakesBytes (Hears side message now) = IsBytes message
TakesBytes _ = Unit {0}

-- an answer to a call of a server is sealed under a context of the client's own, and is a reply, where codes are as long as they are
-- to be and what comes is bytes
abbrev pub IsOwnAnswer : Mic → Turn → End → Outgoing → Type 0
IsOwnAnswer mic turn owner one =
    ((seal : Seal) → one.seal ≡ Some seal → seal.owner ≡ owner) × (IsSized mic → TakesBytes turn → is_reply one.bytes ≡ true)

-- what goes out is a call to one of the servers, or an answer
abbrev pub IsOut : Mic → Turn → End → Outgoing → Type 0
IsOut mic turn owner one =
    ((is_call one.label ≡ true) × ((goes_to Source one.to || goes_to Dest one.to) ≡ true)) ⊎ ((is_call one.label ≡ false) × IsOwnAnswer mic turn owner one)

-- At this server the turn is a run of the mount's steps: they send what goes out to it, and take what comes from it. Each call in a
-- slot asks by what is known of the copy of its number; while a copy awaits its answer, that call is what its slot is for. What is
-- lost is lost before anything goes out. Each call that goes out, to either server, has the next number; what goes out besides is an
-- answer.
pub record IsMountTurn {M : Type 0} (who : Identity) (ways : Ways) (boot : ℕ) (side : Side) (purpose : ℕ → Purpose) (turn : Turn)
    (c d : ClientState M) (out : Outbox) : Type 0 where
  pub after : ℕ → Purpose
  pub steps : List MountStep
  pub run : IsMountRun who ways.means steps (above_at boot purpose c) (mount_at side c) (above_at boot after d) (mount_at side d)
  pub sent : flat_map (λ (acts : Acts). acts.out) (acts_in ways.means steps (mount_at side c)) ≡ calls_to side out.sent
  pub asks : AllAsk d.copies steps
  pub fits : PurposesFit side purpose c.copies → PurposesFit side after d.copies
  pub taken : IsTaken c.back.owner side turn out.accepted (flat_map taken_in (acts_in ways.means steps (mount_at side c)))
  pub order : IsOrdered ways.means steps (mount_at side c)
  pub none_anew : NoneBeginsAnew steps
  pub numbers : numbers_in ways.means steps (mount_at side c) ≡ numbers_to side c.calls out.sent
  pub counts : d.calls ≡ count_behind c.calls out.sent
  pub goes_out : AllByRecursion (IsOut ways.means.mic turn c.back.owner) out.sent
