use Rattle.dest_laws.proofs.landings.SpelledMoves.{fresh_spelled, move_spelled, run_spelled}
use Rattle.dest_laws.proofs.landings.spelled.moves_keep_calls_spelled.Goals as goal

pub returns : goal.returns
returns c = record { begin = fresh_spelled; move_ = move_spelled; run = run_spelled }
