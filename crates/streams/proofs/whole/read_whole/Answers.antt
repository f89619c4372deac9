use Rattle.streams.proofs.Progress.{on_err, takes_front}
use Rattle.streams.proofs.whole.read_whole.Goals as goal

pub returns-in_err-extend_from_slice-in-Took-clause-err :
    goal.returns-in_err-extend_from_slice-in-Took-clause-err
returns-in_err-extend_from_slice-in-Took-clause-err g c =
    on_err _ _ (takes_front _ c.takes.invariant.0 c.in-Took.ensures.bytes)
