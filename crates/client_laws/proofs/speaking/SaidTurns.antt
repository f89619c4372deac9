-- What the laws of other crates say of a turn of the client.
use Rattle.std.proofs.Common.{◌≡◌, ℕ, false, List, Some, sym, subst, ◌⊎◌}
use Rattle.caller_laws.specs.Good.{Identity}
use Rattle.client_copies.specs.Table.{copy_at}
use Rattle.client_copies.specs.declared.copy.ClientCopy.{ClientCopy}
use Rattle.client_copies.specs.declared.copy.First.{First}
use Rattle.client_core.specs.Endings.{Ways, desk_at}
use Rattle.client_core.specs.State.{ClientState}
use Rattle.client_laws.proofs.speaking.Drawing.{turn_drawn}
use Rattle.client_laws.proofs.speaking.Fields.{Coming, Taking}
use Rattle.client_laws.proofs.speaking.Hearing.{Reading}
use Rattle.client_laws.proofs.speaking.Reports.{Sealing}
use Rattle.client_laws.specs.Speaking.SayingLaws.{ExactLaw, StableLaw}
use Rattle.client_laws.proofs.speaking.Seals.{callback_sealed}
use Rattle.client_laws.proofs.speaking.Words.{IsSaidTurn}
use Rattle.client_laws.specs.Answered.{IsAnswerTaken}
use Rattle.client_laws.specs.Causes.{Cause}
use Rattle.client_laws.specs.MountTurns.{TakesBytes}
use Rattle.client_laws.specs.Speaking.Carried.{IsCarried}
use Rattle.client_laws.specs.TurnLaws.{TurnChanges}
use Rattle.client_laws.specs.Turns.{Hears, IsTurn, MayTurn, Turn}
use Rattle.client_laws.specs.WholeTurns.{Purposes}
use Rattle.client_laws.specs.WordLaws.{Happened, IsFirstTold, IsNamed, Knew}
use Rattle.client_site.specs.declared.taking.Found.{Found}
use Rattle.client_steps.specs.Replies.{taken}
use Rattle.mount.specs.declared.taking.Told.TheVariants as tells
use Rattle.nfs_base.specs.declared.side.Side.{Side}
use Rattle.nfs_base.specs.declared.state_id.StateId.{StateId}
use Rattle.nfs_compound.specs.declared.reply.Reply.{Reply}
use Rattle.outbox.specs.declared.outgoing.Outbox.{Outbox}
use Rattle.streams.specs.declared.draws.Drawn.{Drawn}
use Rattle.wire_xdr.specs.Cursor.{IsBytes}

module _ {M W : Type 0} (who : Identity) (boot : ℕ) (purposes : Purposes) (ways : Ways) (gives : W → Drawn → W → Type 0) (turn : Turn) (c d : ClientState M) (v w : W) (out : Outbox) where
  -- a reply is taken, where the turn draws what it wants
  abbrev Takes : Type 0
  Takes =
      (side : Side) (message : List ℕ) (now : ℕ) (found : Found) (reply : Reply) → IsTurn ways gives (Hears side message now) c v w (d, out) → out.undrawn ≡ false → IsBytes message
      → (taken ways.means message side (desk_at now c)).0 ≡ Some found → found.told ≡ tells.Answer reply
      → IsAnswerTaken who boot (purposes side) side (Hears side message now) message c out found.place reply

  taking_of : Takes → TakesBytes turn → IsTurn ways gives turn c v w (d, out) → out.undrawn ≡ false → Taking who boot purposes ways turn c out
  taking_of takes bytes step drawn side message now found reply is found_is told =
      let here = subst (λ (x : Turn). IsTurn ways gives x c v w (d, out)) is step in
      let are = subst TakesBytes is bytes in
      subst (λ (x : Turn). IsAnswerTaken who boot (purposes side) side x message c out found.place reply) (sym is)
      (takes side message now found reply here drawn are found_is told)

  pub said_turn : IsCarried who boot purposes c → Reading → Coming → Takes → MayTurn turn c → TakesBytes turn → IsTurn ways gives turn c v w (d, out)
      → (changes : TurnChanges ways turn c d out)
      → ((j : ℕ) (copy : ClientCopy) (known : First) → copy_at j d.copies ≡ Some copy → copy.first ≡ Some known
      → Knew (λ (x : ClientCopy). x.first) known (copy_at j changes.start) ⊎ Happened (Cause ways turn c j) (IsFirstTold known) (copy_at j changes.start))
      → ((j : ℕ) (copy : ClientCopy) (id : StateId) → copy_at j d.copies ≡ Some copy → copy.id ≡ Some id
      → Knew (λ (x : ClientCopy). x.id) id (copy_at j changes.start) ⊎ Happened (Cause ways turn c j) (IsNamed id) (copy_at j changes.start))
      → ((j : ℕ) (known : First) → Knew (λ (x : ClientCopy). x.first) known (copy_at j c.copies) → Knew (λ (x : ClientCopy). x.first) known (copy_at j d.copies))
      → ((j : ℕ) (id : StateId) → Knew (λ (x : ClientCopy). x.id) id (copy_at j c.copies) → Knew (λ (x : ClientCopy). x.id) id (copy_at j d.copies))
      → StableLaw → ExactLaw → IsSaidTurn who boot purposes ways turn c d out
  said_turn carried reading coming takes may bytes step changes first_told name_told first name stable_law exact_law = record {
    carried = carried;
    reading = reading;
    coming = coming;
    taking = taking_of takes bytes step;
    drawn = turn_drawn ways gives c turn v w (d, out) step;
    may = may;
    changes = changes;
    first_told = first_told;
    name_told = name_told;
    first = first;
    name = name;
    stable_law = stable_law;
    exact_law = exact_law;
  }

  -- a callback goes under the seal of its context
  pub sealing_of : IsTurn ways gives turn c v w (d, out) → Sealing ways turn c out
  sealing_of step side message now call args compound turn_is judged_is what read drawn =
      callback_sealed ways gives c side message now call args compound v w (d, out) judged_is what read (subst (λ (x : Turn). IsTurn ways gives x c v w (d, out)) turn_is step) drawn
