use Rattle.std.proofs.Common.{arith}
use Rattle.copy_workers.specs.GivenLaws.{modest_given}
use Rattle.core_desk.proofs.desk.book_all.Goals as goal

pub given_to-requires : goal.given_to-requires
given_to-requires g c = rw c.as_slice-2.ensures (omega (arith, modest_given _ _ c.requires.modest))
