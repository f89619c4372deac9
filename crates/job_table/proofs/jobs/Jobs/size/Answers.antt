use Rattle.std.proofs.Common.{ap, sym, subst}
use Rattle.job_log.specs.Log.{JobView, sized}
use Rattle.job_table.specs.declared.job.Job.{Job}
use Rattle.job_table.specs.Table.{JobTable, CanSize}
use Rattle.job_table.proofs.Tables.{follows_size}
use Rattle.job_table.proofs.Writes.{met, searched, has_key, its, stored_write, seen_write, seen_left}
use Rattle.job_table.proofs.jobs.Jobs.size.Goals as goal

pub index_mut-requires : goal.index_mut-requires
index_mut-requires c = has_key (searched c.self.inside.boot c.self.inside.slots c.args.job c.key_of.ensures c.as_slice.ensures.value) c.in-Some.is

pub size-requires-clause-not_sized : goal.size-requires-clause-not_sized
size-requires-clause-not_sized c =
    let f = met c.self.invariant c.self.view_is (searched c.self.inside.boot c.self.inside.slots c.args.job c.key_of.ensures c.as_slice.ensures.value) c.in-Some.is c.index_mut.ensures.value in
    (its (λ (j : Job). CanSize c.args.self.now.capacity j c.args.len) f c.requires.can).not_sized

pub size-requires-clause-running : goal.size-requires-clause-running
size-requires-clause-running c =
    let f = met c.self.invariant c.self.view_is (searched c.self.inside.boot c.self.inside.slots c.args.job c.key_of.ensures c.as_slice.ensures.value) c.in-Some.is c.index_mut.ensures.value in
    (its (λ (j : Job). CanSize c.args.self.now.capacity j c.args.len) f c.requires.can).running

pub size-requires-clause-room : goal.size-requires-clause-room
size-requires-clause-room c =
    let f = met c.self.invariant c.self.view_is (searched c.self.inside.boot c.self.inside.slots c.args.job c.key_of.ensures c.as_slice.ensures.value) c.in-Some.is c.index_mut.ensures.value in
    (its (λ (j : Job). CanSize c.args.self.now.capacity j c.args.len) f c.requires.can).room

pub invariant_of-self : goal.invariant_of-self
invariant_of-self c =
    let f = met c.self.invariant c.self.view_is (searched c.self.inside.boot c.self.inside.slots c.args.job c.key_of.ensures c.as_slice.ensures.value) c.in-Some.is c.index_mut.ensures.value in
    stored_write c.size.new.self f (follows_size c.self.inside.capacity c.index_mut.result.now c.size.new.self c.args.len (ap (λ (v : JobView). v.consecutive) c.size.ensures.done) c.size.ensures.known (subst (λ (t : JobTable). CanSize t.capacity c.index_mut.result.now c.args.len) (sym c.self.view_is) (its (λ (j : Job). CanSize c.args.self.now.capacity j c.args.len) f c.requires.can)))

pub returns-in-Some : goal.returns-in-Some
returns-in-Some c =
    let f = met c.self.invariant c.self.view_is (searched c.self.inside.boot c.self.inside.slots c.args.job c.key_of.ensures c.as_slice.ensures.value) c.in-Some.is c.index_mut.ensures.value in
    seen_write c.size.new.self (λ log. sized log c.args.len) f c.size.ensures.done

pub returns-in_default : goal.returns-in_default
returns-in_default c = seen_left (λ log. sized log c.args.len) c.self.view_is (searched c.self.inside.boot c.self.inside.slots c.args.job c.key_of.ensures c.as_slice.ensures.value) c.in_default.is
