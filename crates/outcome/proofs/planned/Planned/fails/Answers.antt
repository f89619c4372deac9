use Rattle.outcome.proofs.Plans.{made_of-later, made_of-rose}
use Rattle.outcome.proofs.planned.Planned.fails.Goals as goal

pub returns-clause-later : goal.returns-clause-later
returns-clause-later c = rw (← c.self.view_is) (made_of-later _ _)

pub returns-clause-cause : goal.returns-clause-cause
returns-clause-cause c = rw (← c.self.view_is) (made_of-rose _ _ _ _ c.as_slice.ensures.value c.contains.ensures)
