-- Operations whose memory was taken.
use Rattle.std.proofs.Common.{Option, List, [], ◌∷◌, ◌++◌}
use Rattle.copy_ops.specs.declared.arg.CopyArg.{CopyArg}
use Rattle.compound_server.specs.declared.preparing.Prepared.{Prepared}
use Rattle.compound_server.specs.Preparing.{IsSuited, AreSuited}

-- one more behind them
pub suited_behind : {R C : Type 0} (suits : R → Option C → CopyArg → Type 0) (carry : Option C) (ps : List (Prepared R)) (p : Prepared R)
    → AreSuited suits carry ps → IsSuited suits carry p → AreSuited suits carry (ps ++ p ∷ [])
suited_behind suits carry [] p are is = (is, tt)
suited_behind suits carry (q ∷ ps) p are is = (are.0, suited_behind suits carry ps p are.1 is)
