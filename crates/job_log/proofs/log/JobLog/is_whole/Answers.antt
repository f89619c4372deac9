use Rattle.std.proofs.Common.{ℕ, Option, Some, subst, sym}
use Rattle.std.specs.Prelude.{◌==◌, vec_capacity}
use Rattle.std.proofs.lemmas.Bool.{eqb-true, eq-eqb, both_ways}
use Rattle.copy_model.specs.Job.{AllowsCommit}
use Rattle.job_log.specs.Log.{JobView}
use Rattle.job_log.specs.Kept.{IsKept, entries_of}
use Rattle.job_log.proofs.Steps.{whole_yes, whole_no, if_true, if_false}
use Rattle.job_log.proofs.log.JobLog.is_whole.Goals as goal

pub returns-in-Some-clause-yes : goal.returns-in-Some-clause-yes
returns-in-Some-clause-yes c =
    let k : IsKept c.self.inside.consecutive (entries_of c.self.inside.entries.items) c.self.inside.claimed c.self.inside.landed c.self.inside.first (Some c.in-Some.len) c.self.inside.bytes c.self.inside.ended c.self.inside.reported c.self.inside.spare (vec_capacity c.self.inside.entries) =
    subst (λ (o : Option ℕ). IsKept c.self.inside.consecutive (entries_of c.self.inside.entries.items) c.self.inside.claimed c.self.inside.landed c.self.inside.first o c.self.inside.bytes c.self.inside.ended c.self.inside.reported c.self.inside.spare (vec_capacity c.self.inside.entries)) c.in-Some.is c.self.invariant in
    let P : JobView → Type 0 = λ v. AllowsCommit v.entries in
    if_true (c.self.inside.bytes == c.in-Some.len) _ (λ same. subst P c.self.view_is (whole_yes c.self.inside.consecutive (entries_of c.self.inside.entries.items) c.self.inside.claimed c.self.inside.landed c.self.inside.first c.in-Some.len c.self.inside.bytes c.self.inside.ended c.self.inside.reported c.self.inside.spare (vec_capacity c.self.inside.entries) k (eqb-true c.self.inside.bytes c.in-Some.len same)))

pub returns-in-Some-clause-no : goal.returns-in-Some-clause-no
returns-in-Some-clause-no c =
    let k : IsKept c.self.inside.consecutive (entries_of c.self.inside.entries.items) c.self.inside.claimed c.self.inside.landed c.self.inside.first (Some c.in-Some.len) c.self.inside.bytes c.self.inside.ended c.self.inside.reported c.self.inside.spare (vec_capacity c.self.inside.entries) =
    subst (λ (o : Option ℕ). IsKept c.self.inside.consecutive (entries_of c.self.inside.entries.items) c.self.inside.claimed c.self.inside.landed c.self.inside.first o c.self.inside.bytes c.self.inside.ended c.self.inside.reported c.self.inside.spare (vec_capacity c.self.inside.entries)) c.in-Some.is c.self.invariant in
    let P : JobView → Type 0 = λ v. AllowsCommit v.entries in
    if_false (c.self.inside.bytes == c.in-Some.len) _
    (λ differs allows. both_ways (c.self.inside.bytes == c.in-Some.len) differs (eq-eqb c.self.inside.bytes c.in-Some.len (whole_no c.self.inside.consecutive (entries_of c.self.inside.entries.items) c.self.inside.claimed c.self.inside.landed c.self.inside.first c.in-Some.len c.self.inside.bytes c.self.inside.ended c.self.inside.reported c.self.inside.spare (vec_capacity c.self.inside.entries) k (subst P (sym c.self.view_is) allows))))
