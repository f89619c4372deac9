-- A run of a mount's steps that keep to the bounds asks what can be spelled, and leaves the mount fit.
use Rattle.std.proofs.Common.{List, [], ◌∷◌, sym, subst}
use Rattle.caller_laws.specs.Fitting.Fitting.{MountIsFit}
use Rattle.caller_laws.specs.Fitting.Moving.{IsSpelledAt, MoveIsFit, SendsFit}
use Rattle.caller_laws.specs.Good.{Identity}
use Rattle.caller_laws.specs.Moves.{Falls, Forgets, GivesUp, Move, Rests, Send, Sends, Takes, done}
use Rattle.caller_laws.specs.OneStep.Runs.{AreSpelled, IsRun, IsSpelled, MountStep}
use Rattle.caller_laws.specs.View.{Above}
use Rattle.dest_laws.specs.Calls.Fits.{MovesAreFit}
use Rattle.mount.specs.State.{Mounted}
use Rattle.mount.specs.Taking.{Means}
use Rattle.mount.specs.declared.machine.SendAt.{SendAt}

module _ (means : Means) (stay : (move : Move) (m : Mounted) → MountIsFit m → MoveIsFit m move → MountIsFit (done means move m).mount)
    (spelled : (at : SendAt) (send : Send) (m : Mounted) → MountIsFit m → SendsFit m at send → IsSpelledAt means.mic m at send) where
  move_spelled : (move : Move) (m : Mounted) → MountIsFit m → MoveIsFit m move → IsSpelled means.mic m move
  move_spelled (Sends at send) m fit moves = let it = spelled at send m fit moves in (it.asked, it.are_bytes)
  move_spelled (Takes place message) m fit moves = moves
  move_spelled (GivesUp place) m fit moves = tt
  move_spelled (Forgets child) m fit moves = tt
  move_spelled Falls m fit moves = tt
  move_spelled Rests m fit moves = tt

  pub run_spelled : (who : Identity) (steps : List MountStep) (a b : Above) (m n : Mounted) → IsRun who means steps a m b n → MountIsFit m → MovesAreFit means steps m
      → AreSpelled means steps m × MountIsFit n
  run_spelled who [] a b m n run fit moves = (tt, subst MountIsFit (sym run.1) fit)
  run_spelled who (step ∷ more) a b m n run fit moves =
      let rest = run_spelled who more step.above b (done means step.move m).mount n run.3 (stay step.move m fit moves.0) moves.1 in
      ((move_spelled step.move m fit moves.0, rest.0), rest.1)
