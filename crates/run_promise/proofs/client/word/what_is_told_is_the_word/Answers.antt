use Rattle.std.proofs.Common.{◌≡◌, ◌∙◌, suc, refl, ap}
use Rattle.std.specs.Prelude.{slice_get, Option, Some, None}
use Rattle.client_copies.specs.Table.{copy_at}
use Rattle.client_copies.specs.declared.copy.ClientCopy.{ClientCopy}
use Rattle.client_laws.specs.Speaking.Views.{says_exact, says_stable, word_seen}
use Rattle.client_laws.specs.Telling.{tells_stable}
use Rattle.run_ends.specs.Ends.{count_gives, words_of}
use Rattle.run_promise.proofs.client.Going.{seen_at}
use Rattle.run_promise.proofs.client.Saying.{exact_says, exact_word, said_in_step, says_of, stable_says, stable_word}
use Rattle.run_promise.proofs.client.word.what_is_told_is_the_word.Goals as goal
use Rattle.run_promise.specs.Client.Along.{act_at, client_at, part_by, second_at}
use Rattle.run_promise.specs.Client.Told.{tells_exact}
use Rattle.wire_model.specs.Word.{Word}

stable_seen : (o : Option ClientCopy) → (word_seen o).stable ≡ says_of (λ (c : ClientCopy). says_stable c.stage) o
stable_seen None = refl
stable_seen (Some c) = refl

exact_seen : (o : Option ClientCopy) → (word_seen o).exact ≡ says_of (λ (c : ClientCopy). says_exact c.stage) o
exact_seen None = refl
exact_seen (Some c) = refl

pub returns : goal.returns
returns g c =
    let words = words_of g.M.Mechanism.mic_of g.M.Mechanism.derived g.M.Mechanism.started g.M.Mechanism.accepted g.M.Mechanism.finished count_gives in
    record {
      stable = λ who spell meaning first steps s along k n new e.
          let after = client_at words spell meaning first steps (suc k) in
          ap (λ (w : Word). w.stable) ((seen_at words who spell meaning first steps along (suc k)).word n) ∙ stable_seen (copy_at n after.copies)
          ∙ said_in_step _ _ (stable_says c.only_these_are_stable_and_exact.ensures.stable) words c.copies_change_by_causes.ensures who (along.purposes k) (along.purposes (suc k))
          (act_at words spell meaning first steps k) (second_at words spell meaning first steps k) (client_at words spell meaning first steps k) after (part_by (slice_get steps k))
          (tells_stable n) n (stable_word n) (along.goes k) (c.clients_are_carried.ensures who spell meaning first steps s along k new) e;
      exact = λ who spell meaning first steps s along k n new e.
          let after = client_at words spell meaning first steps (suc k) in
          ap (λ (w : Word). w.exact) ((seen_at words who spell meaning first steps along (suc k)).word n) ∙ exact_seen (copy_at n after.copies)
          ∙ said_in_step _ _ (exact_says c.only_these_are_stable_and_exact.ensures.exact) words c.copies_change_by_causes.ensures who (along.purposes k) (along.purposes (suc k))
          (act_at words spell meaning first steps k) (second_at words spell meaning first steps k) (client_at words spell meaning first steps k) after (part_by (slice_get steps k))
          (tells_exact n) n (exact_word n) (along.goes k) (c.clients_are_carried.ensures who spell meaning first steps s along k new) e;
    }
