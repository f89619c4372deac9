use Rattle.std.proofs.Common.{refl, ap}
use Rattle.copy_model.specs.Job.{Committed, AllowsCommit}
use Rattle.job_log.specs.Log.{JobView, with_entry}
use Rattle.job_table.specs.declared.job.Job.{Job}
use Rattle.job_table.proofs.Tables.{follows_entry}
use Rattle.job_table.proofs.Writes.{met, searched, has_key, its, it_runs, stored_write, seen_write, seen_left}
use Rattle.job_table.proofs.jobs.Jobs.committed.Goals as goal

pub index_mut-requires : goal.index_mut-requires
index_mut-requires c = has_key (searched c.self.inside.boot c.self.inside.slots c.args.job c.key_of.ensures c.as_slice.ensures.value) c.in-Some.is

pub commit-requires-clause-running : goal.commit-requires-clause-running
commit-requires-clause-running c =
    let f = met c.self.invariant c.self.view_is (searched c.self.inside.boot c.self.inside.slots c.args.job c.key_of.ensures c.as_slice.ensures.value) c.in-Some.is c.index_mut.ensures.value in
    it_runs f c.requires.running

pub commit-requires-clause-landed : goal.commit-requires-clause-landed
commit-requires-clause-landed c =
    let f = met c.self.invariant c.self.view_is (searched c.self.inside.boot c.self.inside.slots c.args.job c.key_of.ensures c.as_slice.ensures.value) c.in-Some.is c.index_mut.ensures.value in
    its (λ (j : Job). AllowsCommit j.log.entries) f c.requires.landed

pub invariant_of-self : goal.invariant_of-self
invariant_of-self c =
    let f = met c.self.invariant c.self.view_is (searched c.self.inside.boot c.self.inside.slots c.args.job c.key_of.ensures c.as_slice.ensures.value) c.in-Some.is c.index_mut.ensures.value in
    stored_write c.commit.new.self f (follows_entry (record { sized = c.logs_grow.ensures.sized; size = c.logs_grow.ensures.size }) c.self.inside.capacity c.index_mut.result.now c.commit.new.self Committed (ap (λ (v : JobView). v.consecutive) c.commit.ensures) (ap (λ (v : JobView). v.entries) c.commit.ensures) refl)

pub returns-in-Some : goal.returns-in-Some
returns-in-Some c =
    let f = met c.self.invariant c.self.view_is (searched c.self.inside.boot c.self.inside.slots c.args.job c.key_of.ensures c.as_slice.ensures.value) c.in-Some.is c.index_mut.ensures.value in
    seen_write c.commit.new.self (λ log. with_entry log Committed) f c.commit.ensures

pub returns-in_default : goal.returns-in_default
returns-in_default c = seen_left (λ log. with_entry log Committed) c.self.view_is (searched c.self.inside.boot c.self.inside.slots c.args.job c.key_of.ensures c.as_slice.ensures.value) c.in_default.is
