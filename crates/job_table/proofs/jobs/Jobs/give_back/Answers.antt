use Rattle.job_log.specs.Log.{given_back}
use Rattle.job_table.proofs.Tables.{follows_back}
use Rattle.job_table.proofs.Writes.{met, searched, has_key, stored_write, seen_write, seen_left}
use Rattle.job_table.proofs.jobs.Jobs.give_back.Goals as goal

pub index_mut-requires : goal.index_mut-requires
index_mut-requires c = has_key (searched c.self.inside.boot c.self.inside.slots c.args.job c.key_of.ensures c.as_slice.ensures.value) c.in-Some.is

pub invariant_of-self : goal.invariant_of-self
invariant_of-self c =
    let f = met c.self.invariant c.self.view_is (searched c.self.inside.boot c.self.inside.slots c.args.job c.key_of.ensures c.as_slice.ensures.value) c.in-Some.is c.index_mut.ensures.value in
    stored_write c.give_back.new.self f (follows_back c.self.inside.capacity c.index_mut.result.now c.give_back.new.self c.args.chunk c.give_back.ensures)

pub returns-in-Some : goal.returns-in-Some
returns-in-Some c =
    let f = met c.self.invariant c.self.view_is (searched c.self.inside.boot c.self.inside.slots c.args.job c.key_of.ensures c.as_slice.ensures.value) c.in-Some.is c.index_mut.ensures.value in
    seen_write c.give_back.new.self (λ log. given_back log c.args.chunk) f c.give_back.ensures

pub returns-in_default : goal.returns-in_default
returns-in_default c = seen_left (λ log. given_back log c.args.chunk) c.self.view_is (searched c.self.inside.boot c.self.inside.slots c.args.job c.key_of.ensures c.as_slice.ensures.value) c.in_default.is
