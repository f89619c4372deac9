use Rattle.std.proofs.Common.{subst}
use Rattle.job_table.specs.Fits.{PlansAreFit}
use Rattle.job_book.specs.Book.{BookView, IsSound}
use Rattle.job_book.proofs.book.Book.landed.Goals as goal

pub returns-clause-sound : goal.returns-clause-sound
returns-clause-sound c =
    let P : BookView → Type 0 = λ b. IsSound b.table in
    let made = c.made-made.ensures in
    let landed = c.landed-landed.ensures in
    subst P c.self.view_is (record {
      lawful = landed.lawful;
      claims = landed.claims;
      apart = made.apart;
      few = made.few;
      rising = made.rising;
      given = made.given;
    })

pub returns-clause-plans : goal.returns-clause-plans
returns-clause-plans c =
    let P : BookView → Type 0 = λ b. PlansAreFit b.table in
    subst P c.self.view_is c.landed-landed.ensures.plans
