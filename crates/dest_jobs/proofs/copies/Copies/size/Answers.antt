use Rattle.std.proofs.Common.{ap, ◌∙◌}
use Rattle.job_book.specs.Book.{BookView}
use Rattle.outbox.specs.declared.note.Note.TheVariants as notes
use Rattle.dest_jobs.specs.Ending.{with_note}
use Rattle.dest_jobs.specs.Progress.{with_book}
use Rattle.dest_jobs.proofs.Sizing.{can_size, sized_book, there_still}
use Rattle.dest_jobs.proofs.copies.Copies.size.Goals as goal

pub size-requires-clause-there : goal.size-requires-clause-there
size-requires-clause-there c =
    there_still c.args.self.now.book.table c.reserve.new.self.table c.args.name c.args.len c.in_ok-reserve.ensures.room c.requires.there

pub size-requires-clause-can : goal.size-requires-clause-can
size-requires-clause-can c =
    can_size c.args.self.now.book.table c.reserve.new.self.table c.args.name c.args.len c.in_ok-reserve.ensures.room c.requires.may

pub returns-clause-sized : goal.returns-clause-sized
returns-clause-sized c =
    let x = c.args.self.now in
    let room = c.in_ok-reserve.ensures.room in
    record {
      spare = room.spare;
      is = c.note.ensures
          ∙ ap (λ (b : BookView). with_book b (with_note (notes.Sized c.args.name c.args.len) x))
          (c.size.ensures ∙ sized_book x.book c.reserve.new.self c.args.name room.spare c.args.len room.only c.in_ok-reserve.ensures.past);
    }
