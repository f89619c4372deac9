use Rattle.std.proofs.Common.{◌≡◌, Bool, true, false, refl, sym, ◌∙◌, ap, subst, arith}
use Rattle.std.specs.Prelude.{is_ok, ◌||◌}
use Rattle.copy_model.specs.Job.{Committed, has_ended, AllowsCommit}
use Rattle.job_log.specs.Kept.{entries_of, one_if}
use Rattle.job_log.specs.declared.log.Entry.TheVariants.{Committed as kept_entry}
use Rattle.job_log.proofs.Entries.{pushed, length-entries_of}
use Rattle.job_log.proofs.Steps.{has_room, kept_more, or_same}
use Rattle.job_log.specs.Log.{JobView}
use Rattle.job_log.proofs.log.JobLog.commit.Goals as goal

pub unwrap-requires : goal.unwrap-requires
unwrap-requires c =
    let n = length-entries_of c.self.inside.entries.items in
    let fits = has_room _ _ _ _ _ _ _ _ _ _ _ c.self.invariant in
    grind arith

pub invariant_of-self : goal.invariant_of-self
invariant_of-self c =
    let k = c.self.invariant in
    let P : JobView → Type 0 = λ v. has_ended v.entries ≡ false in
    let running = subst P (sym c.self.view_is) c.requires.running in
    let not_ended : c.self.inside.ended ≡ false = sym k.ended_is ∙ running in
    let one : one_if c.self.inside.ended ≡ 0 = ap (λ (b : Bool). one_if b) not_ended in
    let Q : JobView → Type 0 = λ v. AllowsCommit v.entries in
    kept_more _ (entries_of c.self.inside.entries.items) c.self.inside.claimed c.self.inside.landed _ _ _ c.self.inside.ended c.self.inside.reported _ _ Committed _ _ _ _ (c.logs_grow.ensures.sound c.self.inside.consecutive) k
    (pushed c.self.inside.entries.items _ kept_entry (is_ok c.push.result) (ap (λ r. is_ok r) c.unwrap.ensures) c.push.ensures.items)
    (subst Q (sym c.self.view_is) c.requires.landed, running) refl refl (λ off. refl) (ap (λ (b : Bool). b || true) not_ended) (or_same c.self.inside.reported) (omega arith) c.push.ensures.capacity
