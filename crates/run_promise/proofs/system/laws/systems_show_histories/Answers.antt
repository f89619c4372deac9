use Rattle.std.proofs.Common.{◌≡◌, ℕ, List, refl, suc, zero}
use Rattle.client_laws.specs.WholeTurns.{Purposes}
use Rattle.run_ends.specs.Ends.{RunMachines, RunStep, RunWorld}
use Rattle.run_promise.proofs.system.laws.systems_show_histories.Goals as goal
use Rattle.run_promise.specs.System.System.{ClientView, system_of, telling}
use Rattle.session_server.specs.Host.{Codes}
use Rattle.wire_machine.specs.History.{history as run_history}
use Rattle.wire_model.specs.Meaning.{Meaning}
use Rattle.wire_model.specs.Spelling.{Spelling}
use Rattle.wire_model.specs.System.{history}

alike : {M : Type 0} (m : RunMachines M) (codes : Codes) (spell : Spelling) (meaning : Meaning) (seen : ClientView M) (first : RunWorld M)
    (steps : List (RunStep M)) (purposes : ℕ → Purposes) (k : ℕ)
    → history (system_of m codes spell meaning seen first steps purposes) k ≡ run_history m (telling codes) spell meaning first steps k
unfolding system_of
alike m codes spell meaning seen first steps purposes zero = refl
alike m codes spell meaning seen first steps purposes (suc k) = refl

pub returns : goal.returns
returns g c spell meaning seen first steps purposes k = alike _ _ spell meaning seen first steps purposes k
