use Rattle.std.proofs.Common.{ap, ◌∙◌}
use Rattle.job_table.specs.Table.{job_of}
use Rattle.job_table.specs.declared.job.JobId.{JobId}
use Rattle.job_book.specs.Book.{BookView, named}
use Rattle.job_book.specs.Working.{is_whole}
use Rattle.job_book.proofs.Free.{whole_is}
use Rattle.job_book.proofs.book.Book.is_whole.Goals as goal

pub returns-clause-whole : goal.returns-clause-whole
returns-clause-whole c =
    let jobs = c.self.inside.jobs in
    let told = c.is_whole.ensures in
    whole_is c.first_chunks.ensures.all_landed c.first_chunks.ensures.none (job_of jobs c.id_of.result) c.is_whole.result told.there told.yes told.no
    ∙ ap (λ (id : JobId). is_whole (job_of jobs id)) c.id_of.ensures
    ∙ ap (λ (b : BookView). is_whole (named b.table c.args.name)) c.self.view_is
