use Rattle.copy_workers.proofs.Rows.{rows_of}
use Rattle.copy_workers.proofs.crew.run_workers.Goals as goal

pub returns-clause-workers : goal.returns-clause-workers
returns-clause-workers g c =
    let told = c.report.ensures in
    rw (told.landed, told.turned, told.given, told.ends, told.shut, rows_of c.crew-done.result.ended) c.crew-done.ensures.workers
