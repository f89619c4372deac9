use Rattle.std.specs.Prelude.{is_ok, vec_len}
use Rattle.job_log.proofs.BitRows.{no_flags, zero_items}
use Rattle.job_log.proofs.bits.Bits.reset.Goals as goal

pub returns-clause-cleared : goal.returns-clause-cleared
returns-clause-cleared c =
    no_flags _ _ (zero_items (is_ok c.resize.result) c.div_ceil.result (vec_len c.clear.new.self) _ _ c.resize.ensures.items c.clear.ensures.items)
