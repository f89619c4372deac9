use Rattle.run_ends.specs.Ends.{count_gives, words_of}
use Rattle.run_promise.proofs.client.Spoken.{lines_tell}
use Rattle.run_promise.proofs.client.lines.lines_tell_what_is_told.Goals as goal

pub returns : goal.returns
returns g c first steps are =
    lines_tell (words_of g.M.Mechanism.mic_of g.M.Mechanism.derived g.M.Mechanism.started g.M.Mechanism.accepted g.M.Mechanism.finished count_gives) first steps are
