use Rattle.std.proofs.Common.{ap, arith}
use Rattle.job_log.specs.Log.{JobView}
use Rattle.job_table.proofs.Tables.{follows_claims, on_ok}
use Rattle.job_table.proofs.Writes.{met, searched, has_key, stored_write, seen_write, seen_left}
use Rattle.job_table.proofs.jobs.Jobs.reserve.Goals as goal

pub index_mut-requires : goal.index_mut-requires
index_mut-requires c = has_key (searched c.self.inside.boot c.self.inside.slots c.args.job c.key_of.ensures c.as_slice.ensures.value) c.in-Some.is

pub invariant_of-self : goal.invariant_of-self
invariant_of-self c =
    let f = met c.self.invariant c.self.view_is (searched c.self.inside.boot c.self.inside.slots c.args.job c.key_of.ensures c.as_slice.ensures.value) c.in-Some.is c.index_mut.ensures.value in
    stored_write c.reserve.new.self f (follows_claims c.self.inside.capacity c.index_mut.result.now c.reserve.new.self (ap (λ (v : JobView). v.consecutive) c.reserve.ensures.same) (ap (λ (v : JobView). v.entries) c.reserve.ensures.same))

pub returns-in-Some-clause-room : goal.returns-in-Some-clause-room
returns-in-Some-clause-room c =
    let f = met c.self.invariant c.self.view_is (searched c.self.inside.boot c.self.inside.slots c.args.job c.key_of.ensures c.as_slice.ensures.value) c.in-Some.is c.index_mut.ensures.value in
    on_ok c.reserve.result _ _ c.reserve.ensures.room
    (λ enough. record {
      spare = c.reserve.new.self.spare;
      enough = enough;
      only = seen_write c.reserve.new.self (λ log. record log { spare = c.reserve.new.self.spare }) f c.reserve.ensures.same;
    })

pub returns-in-None-clause-room : goal.returns-in-None-clause-room
returns-in-None-clause-room c =
    record {
      spare = c.args.len;
      enough = omega arith;
      only = seen_left (λ log. record log { spare = c.args.len }) c.self.view_is (searched c.self.inside.boot c.self.inside.slots c.args.job c.key_of.ensures c.as_slice.ensures.value) c.in-None.is;
    }
