use Rattle.std.proofs.Common.{sym, ap, ◌∙◌}
use Rattle.rpc_msg.specs.StreamLaws.{flow-records}
use Rattle.rpc_msg.proofs.Watching.{told_none, told_more, told_kept}
use Rattle.rpc_msg.proofs.watched.nexts_join.Goals as goal

pub returns-clause-start : goal.returns-clause-start
returns-clause-start g c = λ now. λ unread. λ count. λ feed. told_none _ now unread count feed.0

pub returns-clause-more : goal.returns-clause-more
returns-clause-more g c = told_more _

pub returns-clause-put : goal.returns-clause-put
returns-clause-put g c = told_kept _

pub returns-clause-records : goal.returns-clause-records
returns-clause-records g c = λ start. λ now. λ records. λ told. ap (λ t. t.records) (sym (flow-records told.bytes)) ∙ ap (λ f. f.records) told.told
