use Rattle.std.proofs.Common.{arith}
use Rattle.copy_workers.specs.GivenLaws.{modest_given}
use Rattle.copy_workers.proofs.report.Ended.count.Goals as goal

pub given_to-requires : goal.given_to-requires
given_to-requires c = rw c.as_slice-2.ensures (omega (arith, modest_given _ _ c.requires.modest))

pub overflow_add-self-3 : goal.overflow_add-self-3
overflow_add-self-3 c =
    let given = rw c.as_slice-2.ensures at c.given_to.ensures in
    omega (arith, modest_given _ _ c.requires.modest, given, c.requires.turned, c.requires.given)
