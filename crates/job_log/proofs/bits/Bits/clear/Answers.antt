use Rattle.std.proofs.Common.{◌<◌, length, arith}
use Rattle.job_log.proofs.BitRows.{length_view, clear_flag}
use Rattle.job_log.proofs.bits.Bits.clear.Goals as goal

pub index_mut-requires : goal.index_mut-requires
index_mut-requires c =
    let n = length_view _ _ _ _ c.self.view_is in
    let within : c.args.at < length c.args.self.now.flags = c.requires in
    let i = c.self.invariant in
    omega arith

pub returns : goal.returns
returns c = clear_flag _ _ _ c.args.at c.index_mut.result.now _ c.self.view_is c.index_mut.ensures.value c.self.invariant c.requires
