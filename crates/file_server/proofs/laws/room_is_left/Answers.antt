use Rattle.std.proofs.Common.{arith}
use Rattle.file_server.proofs.laws.room_is_left.Goals as goal

pub returns : goal.returns
returns c = λ before after operations ready keeps. record {
  page = omega (arith, ready.page, keeps.page, keeps.room);
  used = omega (arith, ready.used, keeps.used);
}
