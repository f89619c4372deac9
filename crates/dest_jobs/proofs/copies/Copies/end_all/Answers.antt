use Rattle.std.proofs.Common.{ap, ◌∙◌}
use Rattle.dest_jobs.specs.Ending.{test_of}
use Rattle.dest_jobs.specs.declared.copies.Copies.{Copies}
use Rattle.dest_jobs.proofs.Gone.{all_ended}
use Rattle.dest_jobs.proofs.copies.Copies.end_all.Goals as goal

pub returns-clause-others : goal.returns-clause-others
returns-clause-others c =
    let made = c.made-made.ensures in
    ap (λ (x : Copies). x.book.table.jobs) c.end_from.ensures
    ∙ all_ended (test_of c.args.whose.now) c.args.cause c.args.self.now made.few made.rising made.given
