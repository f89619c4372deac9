use Rattle.wire_schedule.proofs.ExpansionLemmas.{are_few, are_joined, are_parts}
use Rattle.wire_schedule.proofs.laws.line_events.Goals as goal

pub returns-clause-parts : goal.returns-clause-parts
returns-clause-parts c = are_parts

pub returns-clause-joined : goal.returns-clause-joined
returns-clause-joined c = are_joined

pub returns-clause-few : goal.returns-clause-few
returns-clause-few c = are_few
