-- By deeds a job that was given its number keeps its plan, and doesn't come back once it is gone.
use Rattle.std.proofs.Common.{◌≡◌, ◌∙◌, Option, Some, None, List, refl, sym, ap}
use Rattle.dest_laws.proofs.landings.Posts.{KeepsPlans}
use Rattle.dest_laws.specs.Deeds.{ByDeeds}
use Rattle.dest_laws.specs.Histories.Seen.{GrowsBy, IsGiven, Later, Seen, entries_in, seen, seen_in}
use Rattle.dest_tasks.specs.Completing.{Comes, Deed}
use Rattle.dest_work.specs.Work.{plan_in}
use Rattle.job_book.specs.Book.{BookView, named}
use Rattle.job_table.specs.declared.job.Job.{Job}
use Rattle.job_table.specs.declared.job.Plan.{Plan}
use Rattle.nfs_base.specs.declared.job.JobName.{JobName}

-- the laws of deeds
pub record DeedLaws : Type 0 where
  pub later : (deeds : List Deed) (b c : BookView) → Comes deeds b c → Later b.table c.table
  pub grows : (deeds : List Deed) (b c : BookView) (name : JobName) (old new : Seen) → Comes deeds b c → IsGiven b.table name
      → seen_in b.table name ≡ Some old → seen_in c.table name ≡ Some new → GrowsBy (entries_in name deeds) old new
  pub gone : (deeds : List Deed) (b c : BookView) (name : JobName) → Comes deeds b c → IsGiven b.table name
      → seen_in b.table name ≡ None → seen_in c.table name ≡ None

unseen : {A : Type 0} (o : Option Job) (plan : Plan) → seen o ≡ None → plan_in o ≡ Some plan → A
unseen None plan gone is = absurd cc
unseen (Some job) plan gone is = absurd cc

-- as they are seen
abbrev pub a_view : Job → Seen
a_view job = record { plan = job.plan; entries = job.log.entries }

plan_kept : (laws : DeedLaws) (deeds : List Deed) (b c : BookView) (name : JobName) (plan : Plan) (o u : Option Job) → Comes deeds b c → IsGiven b.table name
    → named b.table name ≡ o → named c.table name ≡ u → plan_in u ≡ Some plan → plan_in o ≡ Some plan
plan_kept laws deeds b c name plan o None come given was is planned = absurd cc
plan_kept laws deeds b c name plan None (Some new) come given was is planned =
    let none : seen_in b.table name ≡ None = ap seen was in
    let gone = laws.gone deeds b c name come given none in
    unseen (Some new) plan (sym (ap seen is) ∙ gone) planned
plan_kept laws deeds b c name plan (Some old) (Some new) come given was is planned =
    let g = laws.grows deeds b c name (a_view old) (a_view new) come given (ap seen was) (ap seen is) in
    ap (λ (p : Plan). Some p) (sym g.plan) ∙ planned

pub plans_kept : (laws : DeedLaws) (b c : BookView) → ByDeeds b c → KeepsPlans b.table c.table
plans_kept laws b c by = record {
  later = (laws.later by.0 b c by.1).made;
  plans = λ name plan given is. plan_kept laws by.0 b c name plan (named b.table name) (named c.table name) by.1 given refl refl is;
}
