use Rattle.wire_model.proofs.BrokenSteps.{executed_again_refused, made_again_refused, number_used_twice_refused, crossed_refused, early_report_refused}
use Rattle.wire_model.proofs.sanity.refused_steps.Goals as goal

pub returns-clause-executed_again : goal.returns-clause-executed_again
returns-clause-executed_again c = executed_again_refused

pub returns-clause-made_again : goal.returns-clause-made_again
returns-clause-made_again c = made_again_refused

pub returns-clause-number_used_twice : goal.returns-clause-number_used_twice
returns-clause-number_used_twice c = number_used_twice_refused

pub returns-clause-crossed : goal.returns-clause-crossed
returns-clause-crossed c = crossed_refused

pub returns-clause-early_report : goal.returns-clause-early_report
returns-clause-early_report c = early_report_refused
