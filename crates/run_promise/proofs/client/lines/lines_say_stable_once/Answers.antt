use Rattle.std.proofs.Common.{◌∙◌, ◌≤◌, List, sym, subst}
use Rattle.std.specs.Prelude.{count_by}
use Rattle.client_laws.specs.Telling.{tells_stable}
use Rattle.outbox.specs.declared.note.Note.{Note}
use Rattle.run_promise.proofs.client.lines.lines_say_stable_once.Goals as goal

pub returns : goal.returns
returns g c = record {
  once = λ who spell meaning first steps s n are along new.
      subst (λ (told : List Note). count_by (tells_stable n) told ≤ 1) (sym (c.lines_tell_what_is_told.ensures first steps are))
      (c.stable_stands_once.ensures who spell meaning first steps s n along new);
  none_behind = λ who spell meaning first steps s n are along new before after is.
      c.none_is_stable_behind_cancelled.ensures who spell meaning first steps s n along new before after (sym (c.lines_tell_what_is_told.ensures first steps are) ∙ is);
}
