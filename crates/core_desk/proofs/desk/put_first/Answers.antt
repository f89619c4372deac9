use Rattle.std.proofs.Common.{inr}
use Rattle.core_desk.proofs.Keeping.{put_back}
use Rattle.core_desk.proofs.desk.put_first.Goals as goal

pub returns-in-Err-clause-gives : goal.returns-in-Err-clause-gives
returns-in-Err-clause-gives c =
    inr (c.in-Err.ensures.items, put_back _ _ _ _ _ _ c.in-Some.ensures.call c.in-Some.ensures.left c.in-Err.ensures.value_returned c.put.ensures)
