use Rattle.std.proofs.Common.{Bool, ap, sym, ◌∙◌}
use Rattle.job_book.specs.Book.{BookView}
use Rattle.job_book.specs.Working.{stopped, with_its}
use Rattle.dest_jobs.specs.Progress.{stopped_if, with_book}
use Rattle.dest_jobs.specs.declared.copies.Copies.{Copies}
use Rattle.dest_jobs.proofs.copies.Copies.stop.Goals as goal

pub returns-then-is_running : goal.returns-then-is_running
returns-then-is_running c =
    let x = c.args.self.now in
    ap (λ (b : BookView). with_book b c.note.new.self) c.stop.ensures
    ∙ ap (λ (y : Copies). with_book (with_its c.args.name (λ log. stopped c.args.cause log) y.book) y) c.note.ensures
    ∙ ap (λ (running : Bool). stopped_if running c.args.cause c.args.name x) (sym c.if-is_running.true ∙ c.is_running.ensures)
