-- What the client owes each server, at a rest and in a turn.
use Rattle.std.proofs.Common.{◌≡◌, ℕ, List, [], map, Option, Some, None, refl, sym, subst, ◌∙◌}
use Rattle.caller_laws.specs.Good.{Identity}
use Rattle.caller_laws.specs.Moves.{nothing_shown}
use Rattle.caller_laws.specs.OneStep.Runs.{IsOneStep}
use Rattle.caller_laws.specs.View.{caller_of}
use Rattle.client_core.specs.State.{ClientState}
use Rattle.client_core.specs.Telling.{mount_at}
use Rattle.client_laws.specs.CallerLaws.{above_at}
use Rattle.client_laws.specs.MountTurns.{TakesBytes}
use Rattle.client_laws.specs.Turns.{Turn}
use Rattle.client_laws.specs.WholeTurns.{IsLawfulTurn, IsSettled, IsSpelledAtBoth, IsTurnAtBoth, Purposes, took_in}
use Rattle.client_site.specs.Sites.{end_of}
use Rattle.client_steps.specs.declared.setting.Setting.{Setting}
use Rattle.nfs_base.specs.declared.seal.End.{End}
use Rattle.nfs_base.specs.declared.side.Side.{Side}
use Rattle.outbox.specs.declared.outgoing.Outbox.{Outbox}
use Rattle.run_ends.specs.Ends.{Words, ways}
use Rattle.run_ends.specs.Handling.{client_took}
use Rattle.run_promise.proofs.client.Turning.{takes_bytes, ways_at}
use Rattle.run_promise.specs.Client.Along.{Goes}
use Rattle.run_promise.specs.Client.Turns.{turn_of}
use Rattle.wire_machine.specs.Ends as acts
use Rattle.wire_machine.specs.Ends.{ClientAct}
use Rattle.wire_machine.specs.History.{part_acts, sent_of}
use Rattle.wire_machine.specs.World.{Part}
use Rattle.wire_model.specs.CallerLaws.{CallerLaws}
use Rattle.wire_model.specs.Wire.{Acts}
use Rattle.wire_spelling.specs.Spelling.{spelling}

took_same : (act : ClientAct) (now : ℕ) → took_in (turn_of act now) ≡ client_took act
took_same (acts.Writes side file off bytes) now = refl
took_same (acts.Commits side file) now = refl
took_same (acts.Begins copy spec) now = refl
took_same (acts.Asks copy) now = refl
took_same (acts.Cancels copy) now = refl
took_same acts.Retries now = refl
took_same (acts.ClientTakes from bytes) now = refl
took_same acts.ClientTicks now = refl

abbrev shown_by : Outbox → Option (List ℕ) → Acts
shown_by out took = record { took = took; accepted = out.accepted; executed = None; out = map sent_of out.sent }

module _ {M : Type 0} (words : Words M ℕ) (who : Identity) where
  -- the laws of its server's wire, from c to d
  abbrev pub Obeys : Side → (before next : Purposes) → (c d : ClientState M) → Acts → Type 0
  Obeys side before next c d shown =
      CallerLaws (spelling who.accepts who.whose) (end_of side) who.own (caller_of (above_at 0 (before side) c) (mount_at side c))
      (caller_of (above_at 0 (next side) d) (mount_at side d)) shown

  pub record WireLaws : Type 0 where
    pub lawful : (s : Setting M) (purposes : Purposes) (turn : Turn) (c d : ClientState M) (out : Outbox) (t : IsTurnAtBoth who (ways_at words s) 0 purposes turn c d out)
        → IsSettled who c → TakesBytes turn → IsSpelledAtBoth who (ways_at words s) 0 purposes turn c d out t
        → (side : Side) → IsLawfulTurn who (ways_at words s) 0 purposes turn c d out t side
    pub rests : (side : Side) (purposes : Purposes) (c : ClientState M) → IsSettled who c → Obeys side purposes purposes c c nothing_shown

  -- a rest is a run of no steps
  pub resting : (side : Side) (purposes : Purposes) (c : ClientState M) → IsSettled who c
      → IsOneStep who (ways words c).means [] (above_at 0 (purposes side) c) (above_at 0 (purposes side) c) (mount_at side c) (mount_at side c)
      → Obeys side purposes purposes c c nothing_shown
  resting side purposes c settled one =
      subst (λ (end : End). CallerLaws (spelling who.accepts who.whose) end who.own (caller_of (above_at 0 (purposes side) c) (mount_at side c))
      (caller_of (above_at 0 (purposes side) c) (mount_at side c)) nothing_shown) (settled.server side) one.laws

  module _ (laws : WireLaws) where
    pub obeys : (o : Option ClientAct) (now : ℕ) (c d : ClientState M) (part : Part) (before next : Purposes) (side : Side) → Goes words who before next o now c d part
        → IsSettled who c → Obeys side before next c d (part_acts part None)
    obeys None now c d part before next side goes settled =
        subst (λ (p : Part). Obeys side before next c d (part_acts p None)) (sym goes.0.idle_is)
        (subst (λ (x : ClientState M). Obeys side before next c x nothing_shown) (sym goes.0.same)
        (subst (λ (p : Purposes). Obeys side before p c c nothing_shown) (sym goes.1) (laws.rests side before c settled)))
    obeys (Some act) now c d part before next side goes settled =
        let bytes : TakesBytes (turn_of act now) = takes_bytes words act now goes.acted.goes.1.taken in
        let law = laws.lawful c.setting before (turn_of act now) c d part.out goes.spelled.turns settled bytes goes.spelled.spelled side in
        subst (λ (took : Option (List ℕ)). Obeys side before next c d (shown_by part.out took)) (took_same act now ∙ sym goes.acted.took)
        (subst (λ (p : Purposes). Obeys side before p c d (shown_by part.out (took_in (turn_of act now)))) (sym goes.after) law)
