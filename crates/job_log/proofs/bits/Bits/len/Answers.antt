use Rattle.std.proofs.Common.{sym}
use Rattle.job_log.proofs.BitRows.{length_view}
use Rattle.job_log.proofs.bits.Bits.len.Goals as goal

pub returns : goal.returns
returns c = sym (length_view _ _ _ _ c.self.view_is)
