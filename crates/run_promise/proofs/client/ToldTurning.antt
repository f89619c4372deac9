-- A run of three machines as a run of its client's turns.
use Rattle.std.proofs.Common.{◌≡◌, ◌∙◌, ℕ, suc, List, [], ◌∷◌, ◌++◌, length, Option, Some, None, refl, sym, ap, subst}
use Rattle.std.specs.Prelude.{slice_get}
use Rattle.caller_laws.specs.Good.{Identity}
use Rattle.client_core.specs.State.{ClientState, new_client}
use Rattle.client_laws.specs.Turns.{IsRun, IsTurn, Turn}
use Rattle.client_laws.specs.WholeTurns.{Purposes}
use Rattle.client_steps.specs.declared.setting.Setting.{Setting}
use Rattle.outbox.specs.declared.note.Note.{Note}
use Rattle.run_ends.specs.Ends.{RunStep, RunWorld, Words}
use Rattle.run_promise.proofs.client.Turning.{is_turn, ways_at}
use Rattle.run_promise.specs.Client.Along.{GoesAlong, Goes, act_at, client_at, part_by, second_at}
use Rattle.run_promise.specs.Client.Told.{IsToldInTurns, notes_along}
use Rattle.run_promise.specs.Client.Turns.{turn_of}
use Rattle.wire_machine.specs.Ends.{ClientAct}
use Rattle.wire_machine.specs.World.{Part}
use Rattle.wire_model.specs.Meaning.{Meaning}
use Rattle.wire_model.specs.Spelling.{Spelling}

module _ {M : Type 0} (words : Words M ℕ) (s : Setting M) (who : Identity) where
  -- turns from c to d, in which this is told
  record Leads (c d : ClientState M) (told : List Note) : Type 0 where
    turns : List Turn
    run : IsRun (ways_at words s) words.gives turns c d told

  -- what the client does in a step, and turns behind it
  behind : (p q : Purposes) (o : Option ClientAct) (now : ℕ) (c d e : ClientState M) (part : Part) (more : List Note) → c.setting ≡ s → Goes words who p q o now c d part
      → Leads d e more → Leads c e (part.out.notes ++ more)
  behind p q None now c d e part more known goes leads =
      subst (λ (x : Part). Leads c e (x.out.notes ++ more)) (sym goes.0.idle_is) (subst (λ (x : ClientState M). Leads x e more) goes.0.same leads)
  behind p q (Some act) now c d e part more known goes leads =
      record {
        turns = turn_of act now ∷ leads.turns;
        run = (
          d,
          part.out,
          goes.acted.draws,
          goes.acted.after,
          more,
          goes.may,
          subst (λ (x : Setting M). IsTurn (ways_at words x) words.gives (turn_of act now) c goes.acted.draws goes.acted.after (d, part.out)) known
              (is_turn words act now c d goes.acted.draws goes.acted.after part.out goes.acted.goes.0),
          refl,
          leads.run,
        );
      }

  leads_on : (steps : List (RunStep M)) (c : ℕ → ClientState M) (p : ℕ → Purposes) (o : ℕ → Option ClientAct) (now : ℕ → ℕ) → ((k : ℕ) → (c k).setting ≡ s)
      → ((k : ℕ) → Goes words who (p k) (p (suc k)) (o k) (now k) (c k) (c (suc k)) (part_by (slice_get steps k))) → Leads (c 0) (c (length steps)) (notes_along steps)
  leads_on [] c p o now known goes = record { turns = []; run = (refl, refl) }
  leads_on (step ∷ steps) c p o now known goes =
      behind (p 0) (p 1) (o 0) (now 0) (c 0) (c 1) (c (suc (length steps))) step.parts.client (notes_along steps) (known 0) (goes 0)
      (leads_on steps (λ k. c (suc k)) (λ k. p (suc k)) (λ k. o (suc k)) (λ k. now (suc k)) (λ k. known (suc k)) (λ k. goes (suc k)))

  pub told_in_turns : (spell : Spelling) (meaning : Meaning) (first : RunWorld M) (steps : List (RunStep M)) → GoesAlong words spell meaning first steps who
      → first.client ≡ new_client s → IsToldInTurns words s (client_at words spell meaning first steps (length steps)) (notes_along steps)
  told_in_turns spell meaning first steps along new =
      let leads = leads_on steps (client_at words spell meaning first steps) along.purposes (act_at words spell meaning first steps) (second_at words spell meaning first steps)
      (λ k. along.setting k ∙ ap (λ (x : ClientState M). x.setting) new) along.goes in
      record {
        turns = leads.turns;
        run = subst (λ (x : ClientState M). IsRun (ways_at words s) words.gives leads.turns x (client_at words spell meaning first steps (length steps)) (notes_along steps)) new leads.run;
      }
