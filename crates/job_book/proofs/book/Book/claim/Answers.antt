use Rattle.std.proofs.Common.{ap, ◌∙◌}
use Rattle.job_table.specs.Table.{job_of}
use Rattle.job_table.specs.declared.job.JobId.{JobId}
use Rattle.job_book.specs.Book.{BookView, named}
use Rattle.job_book.specs.Working.{next_chunk}
use Rattle.job_book.proofs.Free.{claim_is, claim_within}
use Rattle.job_book.proofs.book.Book.claim.Goals as goal

pub invariant_of-self : goal.invariant_of-self
invariant_of-self c =
    claim_within c.self.inside.past c.self.inside.jobs c.claim.new.self c.id_of.result c.claim.result c.claim.ensures.claimed c.claim.ensures.same c.self.invariant

pub returns-clause-chunk : goal.returns-clause-chunk
returns-clause-chunk c =
    let jobs = c.self.inside.jobs in
    claim_is (job_of jobs c.id_of.result) c.claim.result c.claim.ensures.next c.claim.ensures.none
    ∙ ap (λ (id : JobId). next_chunk (job_of jobs id)) c.id_of.ensures
    ∙ ap (λ (b : BookView). next_chunk (named b.table c.args.name)) c.self.view_is
