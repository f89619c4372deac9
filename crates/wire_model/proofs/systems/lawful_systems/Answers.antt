-- What the promise's crate says of volumes and logs is passed on once, to all three clauses.
use Rattle.wire_model.proofs.Below.{Below}
use Rattle.wire_model.proofs.Steps.{systems_are_lawful}
use Rattle.wire_model.proofs.Said.{word_kept}
use Rattle.wire_model.specs.System.{history, progress}
use Rattle.wire_model.proofs.systems.lawful_systems.Goals as goal

pub returns : goal.returns
returns c =
    let below : Below = record {
      firm_start = c.volume_effects.ensures.firm_start;
      firm = c.volume_effects.ensures.firm;
      files = c.volume_effects.ensures.files;
      quiet = c.volume_effects.ensures.quiet;
      shown = c.volume_effects.ensures.shown;
      written = c.volume_effects.ensures.written;
      settles = c.volume_effects.ensures.settles;
      zeros = c.volume_effects.ensures.zeros;
      both = c.alike_volumes.ensures.both;
      alone = c.alike_volumes.ensures.one;
      same_change = c.change_names_contents.ensures.same;
      changes_rise = c.change_names_contents.ensures.rises;
      boots_rise = c.change_names_contents.ensures.opened;
      sound_none = c.logs_grow.ensures.sound_none;
      sound = c.logs_grow.ensures.sound;
      grows = c.logs_grow.ensures.grows;
      fixed = c.logs_grow.ensures.fixed;
      len = c.logs_grow.ensures.len;
      sized = c.logs_grow.ensures.sized;
      size = c.logs_grow.ensures.size;
      stays = c.logs_grow.ensures.stays;
      rises = c.logs_grow.ensures.rises;
      adds = c.logs_grow.ensures.adds;
      stopped = c.log_marks.ensures.stopped;
      committed = c.log_marks.ensures.committed;
      landed = c.log_marks.ensures.landed;
    } in
    record {
      kept = λ spell meaning s lawful. c.lawful_runs.ensures.kept (history s) (progress s) (systems_are_lawful spell meaning s lawful below);
      stopped = λ spell meaning s lawful. c.lawful_runs.ensures.stopped (history s) (progress s) (systems_are_lawful spell meaning s lawful below);
      word = λ spell meaning s lawful truthful. word_kept spell meaning s lawful truthful below;
    }
