use Rattle.rpc_msg.specs.StreamLaws.{flow-cut, flow-append, flow-records}
use Rattle.rpc_msg.proofs.records.pieces_join.Goals as goal

pub returns-clause-piece : goal.returns-clause-piece
returns-clause-piece c = flow-cut

pub returns-clause-cut : goal.returns-clause-cut
returns-clause-cut c = flow-append

pub returns-clause-records : goal.returns-clause-records
returns-clause-records c = flow-records
