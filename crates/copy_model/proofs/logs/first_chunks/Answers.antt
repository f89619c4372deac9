use Rattle.copy_model.proofs.Chunks.{unlanded-Some, unlanded-FirstUnlanded, unlanded-None, unlanded-all_landed}
use Rattle.copy_model.proofs.logs.first_chunks.Goals as goal

pub returns-clause-first : goal.returns-clause-first
returns-clause-first c = unlanded-Some

pub returns-clause-only : goal.returns-clause-only
returns-clause-only c = unlanded-FirstUnlanded

pub returns-clause-none : goal.returns-clause-none
returns-clause-none c = unlanded-None

pub returns-clause-all_landed : goal.returns-clause-all_landed
returns-clause-all_landed c = unlanded-all_landed
