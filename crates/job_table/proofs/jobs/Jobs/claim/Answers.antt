use Rattle.std.proofs.Common.{Option, ap, ◌∙◌, subst}
use Rattle.std.specs.Prelude.{IfSome}
use Rattle.job_log.specs.Log.{HasNoClaim}
use Rattle.job_table.specs.declared.job.Job.{Job}
use Rattle.job_table.specs.Table.{JobTable, is_job, job_of}
use Rattle.job_table.proofs.Tables.{follows_claimed}
use Rattle.job_table.proofs.Writes.{met, searched, has_key, found_none, is_job_there, stored_write, next_of, none_of, claimed_of}
use Rattle.job_table.proofs.jobs.Jobs.claim.Goals as goal

pub index_mut-requires : goal.index_mut-requires
index_mut-requires c = has_key (searched c.self.inside.boot c.self.inside.slots c.args.job c.key_of.ensures c.as_slice.ensures.value) c.in-Some.is

pub invariant_of-self : goal.invariant_of-self
invariant_of-self c =
    let f = met c.self.invariant c.self.view_is (searched c.self.inside.boot c.self.inside.slots c.args.job c.key_of.ensures c.as_slice.ensures.value) c.in-Some.is c.index_mut.ensures.value in
    stored_write c.claim.new.self f (follows_claimed c.self.inside.capacity c.index_mut.result.now c.claim.new.self c.claim.result c.claim.ensures.claimed c.claim.ensures.same)

pub returns-in-Some-clause-next : goal.returns-in-Some-clause-next
returns-in-Some-clause-next c =
    let f = met c.self.invariant c.self.view_is (searched c.self.inside.boot c.self.inside.slots c.args.job c.key_of.ensures c.as_slice.ensures.value) c.in-Some.is c.index_mut.ensures.value in
    next_of c.args.self.now c.args.job c.index_mut.result.now c.claim.result (is_job_there f) c.claim.ensures.next

pub returns-in-Some-clause-claimed : goal.returns-in-Some-clause-claimed
returns-in-Some-clause-claimed c =
    let f = met c.self.invariant c.self.view_is (searched c.self.inside.boot c.self.inside.slots c.args.job c.key_of.ensures c.as_slice.ensures.value) c.in-Some.is c.index_mut.ensures.value in
    claimed_of c.claim.result c.claim.new.self f c.claim.ensures.claimed

pub returns-in-Some-clause-none : goal.returns-in-Some-clause-none
returns-in-Some-clause-none c =
    let f = met c.self.invariant c.self.view_is (searched c.self.inside.boot c.self.inside.slots c.args.job c.key_of.ensures c.as_slice.ensures.value) c.in-Some.is c.index_mut.ensures.value in
    none_of c.args.self.now c.args.job c.index_mut.result.now c.claim.result (is_job_there f) c.claim.ensures.none

pub returns-in-None-clause-none : goal.returns-in-None-clause-none
returns-in-None-clause-none c =
    subst (λ (o : Option Job). IfSome o (λ found. HasNoClaim found.log))
    (found_none (is_job c.self.inside.boot c.args.job) c.self.inside.slots c.self.inside.keys.items c.key_of.result (searched c.self.inside.boot c.self.inside.slots c.args.job c.key_of.ensures c.as_slice.ensures.value).is c.in-None.is ∙ ap (λ (t : JobTable). job_of t c.args.job) c.self.view_is) tt
