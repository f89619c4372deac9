use Rattle.std.proofs.Common.{suc, sym, subst}
use Rattle.std.specs.Prelude.{slice_get}
use Rattle.client_core.specs.Endings.{ways_of}
use Rattle.client_core.specs.State.{ClientState}
use Rattle.client_laws.specs.CallerLaws.{StartsOwn}
use Rattle.client_laws.specs.Speaking.Views.{IsSeenAt}
use Rattle.client_steps.specs.declared.setting.Setting.{Setting}
use Rattle.run_ends.specs.Ends.{count_gives, words_of}
use Rattle.run_promise.proofs.client.Going.{acts_at, seen_at, system, worded}
use Rattle.run_promise.proofs.client.words.runs_keep_the_word.Goals as goal
use Rattle.run_promise.specs.Client.Along.{act_at, client_at, part_by, second_at}
use Rattle.wire_meaning.specs.Meaning.{meaning}
use Rattle.wire_spelling.specs.Spelling.{spelling}

pub returns : goal.returns
returns g c =
    let words = words_of g.M.Mechanism.mic_of g.M.Mechanism.derived g.M.Mechanism.started g.M.Mechanism.accepted g.M.Mechanism.finished count_gives in
    record {
      laws = λ who first steps s along k new own.
          let spell = spelling who.accepts who.whose in
          worded words who (along.purposes k) (along.purposes (suc k)) (client_at words spell meaning first steps k) (client_at words spell meaning first steps (suc k))
          (part_by (slice_get steps k)) (second_at words spell meaning first steps k) c.words_are_lawful.ensures c.words_rest.ensures
          (system words who spell meaning first steps along) k (act_at words spell meaning first steps k) (along.goes k)
          (c.clients_are_carried.ensures who spell meaning first steps s along k new)
          (subst (λ (x : Setting _). StartsOwn who (ways_of words.mic words.derived words.finished words.started words.accepted x) count_gives) (sym (along.setting k)) own)
          (seen_at words who spell meaning first steps along k) (seen_at words who spell meaning first steps along (suc k)) (acts_at words who spell meaning first steps along k);
      start = λ who first steps s along new.
          let spell = spelling who.accepts who.whose in
          c.words_begin.ensures s 0 (along.purposes 0) (system words who spell meaning first steps along)
          (subst (λ (x : ClientState _). IsSeenAt 0 (along.purposes 0) x (system words who spell meaning first steps along) 0) new (seen_at words who spell meaning first steps along 0));
    }
