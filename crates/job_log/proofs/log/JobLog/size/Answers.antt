use Rattle.std.proofs.Common.{◌≡◌, ℕ, false, Option, None, Some, List, [], ◌∷◌, sym, ◌∙◌, ap, subst, arith}
use Rattle.std.specs.Prelude.{is_ok, replicate}
use Rattle.copy_model.specs.Job.{Entry, Sized, has_ended, size_of}
use Rattle.job_log.specs.Kept.{entries_of}
use Rattle.job_log.specs.declared.log.Entry.TheVariants.{Sized as kept_entry}
use Rattle.job_log.proofs.Entries.{first_size, size_of-append, pushed}
use Rattle.job_log.proofs.Steps.{kept_sized}
use Rattle.job_log.specs.Log.{JobView}
use Rattle.job_log.proofs.log.JobLog.size.Goals as goal

pub invariant_of-self : goal.invariant_of-self
invariant_of-self c =
    let P : JobView → Type 0 = λ v. has_ended v.entries ≡ false in
    let Q : JobView → Type 0 = λ v. size_of v.entries ≡ None in
    let spare_is = ap (λ (v : JobView). v.spare) c.self.view_is in
    let room = c.requires.room in
    kept_sized _ (entries_of c.self.inside.entries.items) c.self.inside.claimed c.self.inside.landed _ _ _ _ _ _ _ c.args.len _ c.reset.new.self c.reset-2.new.self _ (c.logs_grow.ensures.sound c.self.inside.consecutive) c.self.invariant
    (pushed c.self.inside.entries.items _ (kept_entry c.args.len) (is_ok c.push.result) (ap (λ r. is_ok r) c.unwrap.ensures) c.push.ensures.items)
    (subst Q (sym c.self.view_is) c.requires.not_sized) (subst P (sym c.self.view_is) c.requires.running) (omega arith) (c.reset.ensures.cleared ∙ ap (λ (n : ℕ). replicate n false) c.chunk_count-chunks.ensures) (c.reset-2.ensures.cleared ∙ ap (λ (n : ℕ). replicate n false) c.chunk_count-chunks.ensures) c.reset.ensures.stays c.reset-2.ensures.stays c.push.ensures.capacity

pub returns-clause-known : goal.returns-clause-known
returns-clause-known c =
    let before = entries_of c.self.inside.entries.items in
    let unsized : size_of before ≡ None = ap (λ (v : JobView). size_of v.entries) c.self.view_is ∙ c.requires.not_sized in
    ap (λ (es : List Entry). size_of es) (pushed c.self.inside.entries.items _ (kept_entry c.args.len) (is_ok c.push.result) (ap (λ r. is_ok r) c.unwrap.ensures) c.push.ensures.items)
    ∙ size_of-append before (Sized c.args.len ∷ []) ∙ ap (λ (o : Option ℕ). first_size o (Some c.args.len)) unsized
