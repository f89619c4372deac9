use Rattle.std.proofs.Common.{ℕ, ◌+◌, sym, subst}
use Rattle.std.specs.Prelude.{IsSome}
use Rattle.job_table.specs.declared.job.JobId.{JobId}
use Rattle.job_table.specs.Table.{JobTable, job_of}
use Rattle.job_book.specs.Book.{BookView, IsWithin, named}
use Rattle.job_book.proofs.Books.{within_less}
use Rattle.job_book.proofs.book.Book.retire.Goals as goal

pub invariant_of-self : goal.invariant_of-self
invariant_of-self c =
    let t = c.self.inside.jobs in
    let past = c.self.inside.past in
    let landed = c.landed_by-landed.result in
    let there : IsSome (named t c.args.name) = subst (λ (b : BookView). IsSome (named b.table c.args.name)) (sym c.self.view_is) c.requires in
    let found : IsSome (job_of t c.id_of.result) = subst (λ (id : JobId). IsSome (job_of t id)) (sym c.id_of.ensures) there in
    let whole = within_less past t c.id_of.result landed found c.landed_by-landed.type_inv c.self.invariant in
    let P : JobTable → Type 0 = λ now. IsWithin (past + landed) now in
    let Q : ℕ → Type 0 = λ n. IsWithin (past + n) c.retire.new.self in
    subst Q (sym c.from.ensures) (subst P (sym c.retire.ensures) whole)
