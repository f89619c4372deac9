use Rattle.std.proofs.Common.{Option, ap, sym, ◌∙◌}
use Rattle.job_log.specs.Log.{after_landing}
use Rattle.job_log.specs.declared.chunk.Landing.TheVariants.{Late}
use Rattle.job_table.specs.declared.job.Job.{Job}
use Rattle.job_table.specs.Table.{JobTable, is_job, job_of, landing_at}
use Rattle.job_table.proofs.Tables.{follows_landing}
use Rattle.job_table.proofs.Writes.{met, searched, has_key, found_none, is_job_there, stored_write, seen_write, seen_left}
use Rattle.job_table.proofs.jobs.Jobs.land.Goals as goal

pub index_mut-requires : goal.index_mut-requires
index_mut-requires c = has_key (searched c.self.inside.boot c.self.inside.slots c.args.job c.key_of.ensures c.as_slice.ensures.value) c.in-Some.is

pub invariant_of-self : goal.invariant_of-self
invariant_of-self c =
    let f = met c.self.invariant c.self.view_is (searched c.self.inside.boot c.self.inside.slots c.args.job c.key_of.ensures c.as_slice.ensures.value) c.in-Some.is c.index_mut.ensures.value in
    stored_write c.land.new.self f (follows_landing (record { sized = c.logs_grow.ensures.sized; size = c.logs_grow.ensures.size }) c.self.inside.capacity c.index_mut.result.now c.land.new.self c.args.chunk c.land.result c.land.ensures.done)

pub returns-in-Some-clause-done : goal.returns-in-Some-clause-done
returns-in-Some-clause-done c =
    let f = met c.self.invariant c.self.view_is (searched c.self.inside.boot c.self.inside.slots c.args.job c.key_of.ensures c.as_slice.ensures.value) c.in-Some.is c.index_mut.ensures.value in
    seen_write c.land.new.self (λ log. after_landing log c.args.chunk c.land.result) f c.land.ensures.done

pub returns-in-Some-clause-answer : goal.returns-in-Some-clause-answer
returns-in-Some-clause-answer c =
    let f = met c.self.invariant c.self.view_is (searched c.self.inside.boot c.self.inside.slots c.args.job c.key_of.ensures c.as_slice.ensures.value) c.in-Some.is c.index_mut.ensures.value in
    c.land.ensures.answer ∙ ap (λ (o : Option Job). landing_at o c.args.chunk) (sym (is_job_there f))

pub returns-in-None-clause-answer : goal.returns-in-None-clause-answer
returns-in-None-clause-answer c =
    ap (λ (o : Option Job). landing_at o c.args.chunk) (found_none (is_job c.self.inside.boot c.args.job) c.self.inside.slots c.self.inside.keys.items c.key_of.result (searched c.self.inside.boot c.self.inside.slots c.args.job c.key_of.ensures c.as_slice.ensures.value).is c.in-None.is)
    ∙ ap (λ (t : JobTable). landing_at (job_of t c.args.job) c.args.chunk) c.self.view_is

pub returns-in-None-clause-done : goal.returns-in-None-clause-done
returns-in-None-clause-done c = seen_left (λ log. after_landing log c.args.chunk Late) c.self.view_is (searched c.self.inside.boot c.self.inside.slots c.args.job c.key_of.ensures c.as_slice.ensures.value) c.in-None.is
