use Rattle.std.proofs.Common.{ap}
use Rattle.job_table.specs.Table.{JobTable}
use Rattle.job_book.specs.Book.{id_of}
use Rattle.dest_tasks.proofs.Back.{table_back}
use Rattle.dest_tasks.proofs.laws.claims_go_back.Goals as goal

pub returns : goal.returns
returns c b name chunk next = ap (λ (t : JobTable). record b { table = t }) (table_back b.table (id_of name) chunk next)
