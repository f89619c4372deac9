use Rattle.std.proofs.Common.{arith}
use Rattle.file_server.proofs.Values.{values_length}
use Rattle.file_server.proofs.attributes.values_length.Goals as goal

pub returns : goal.returns
returns c = λ told. omega (arith, values_length c.args.mask told)
