use Rattle.mount.proofs.WentLemmas.{begun_went, anew_went, step_went, slot_went, child_went, end_went, again_went}
use Rattle.mount.proofs.laws.what_goes_out_is_counted.Goals as goal

pub returns-clause-begin : goal.returns-clause-begin
returns-clause-begin c = begun_went c.calls_go_out_as_calls.ensures.init

pub returns-clause-anew : goal.returns-clause-anew
returns-clause-anew c = anew_went c.calls_go_out_as_calls.ensures.init

pub returns-clause-step : goal.returns-clause-step
returns-clause-step c = λ mic at principal back m. step_went c.calls_go_out_as_calls.ensures.sealed mic at principal back m.standing m

pub returns-clause-slot : goal.returns-clause-slot
returns-clause-slot c = slot_went c.calls_go_out_as_calls.ensures.sealed

pub returns-clause-create : goal.returns-clause-create
returns-clause-create c = child_went c.calls_go_out_as_calls.ensures.sealed

pub returns-clause-end : goal.returns-clause-end
returns-clause-end c = λ mic at ending m. end_went c.calls_go_out_as_calls.ensures.sealed mic at ending m.standing m

pub returns-clause-again : goal.returns-clause-again
returns-clause-again c = again_went c.calls_go_out_as_calls.ensures.init c.calls_go_out_as_calls.ensures.sealed
