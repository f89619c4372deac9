use Rattle.std.proofs.Common.{arith}
use Rattle.large_copy.proofs.Events.{length-events}
use Rattle.large_copy.proofs.large.LargeCopy.len.Goals as goal

pub returns-clause-whole : goal.returns-clause-whole
returns-clause-whole c = omega (arith, length-events c.args.self)
