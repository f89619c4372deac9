use Rattle.std.proofs.lemmas.List.Elements.{recursion_from_All}
use Rattle.run_promise.proofs.client.Schedules.{front_accepted, lines_accepted}
use Rattle.run_promise.proofs.client.bounds.schedules_are_accepted.Goals as goal
use Rattle.wire_schedule.specs.Admission.{at_start}

pub returns-clause-whole : goal.returns-clause-whole
returns-clause-whole c =
    λ text entries read.
    let is = c.schedule_lines.ensures.only text entries read in
    lines_accepted c.line_events.ensures.parts at_start entries (recursion_from_All _ entries is.fields) is.admitted

pub returns-clause-fronts : goal.returns-clause-fronts
returns-clause-fronts c = λ context events n. front_accepted context events n
