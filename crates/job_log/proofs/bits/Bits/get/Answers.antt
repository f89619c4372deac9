use Rattle.std.proofs.Common.{◌<◌, length, arith}
use Rattle.job_log.proofs.BitRows.{length_view, read_flag}
use Rattle.job_log.proofs.bits.Bits.get.Goals as goal

pub index-requires : goal.index-requires
index-requires c =
    let n = length_view _ _ _ _ c.self.view_is in
    let within : c.args.at < length c.args.self.now.flags = c.requires in
    let i = c.self.invariant in
    omega arith

pub returns : goal.returns
returns c = read_flag _ _ _ c.args.at c.index.result.now _ c.self.view_is c.index.ensures c.self.invariant c.requires
