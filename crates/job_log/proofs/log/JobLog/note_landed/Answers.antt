use Rattle.std.proofs.Common.{◌≡◌, ℕ, ◌/◌, true, false, [], ◌∷◌, ◌++◌, sym, ◌∙◌, ap, subst, arith}
use Rattle.std.specs.Prelude.{is_ok}
use Rattle.copy_model.specs.Job.{Landed, has_ended}
use Rattle.job_log.specs.Kept.{entries_of, view_of}
use Rattle.job_log.specs.declared.log.Entry.TheVariants.{Landed as kept_entry}
use Rattle.job_log.proofs.Entries.{pushed, length-entries_of}
use Rattle.job_log.proofs.Steps.{has_room, kept_landed, fits_more, claim_means}
use Rattle.job_log.specs.Log.{JobView, is_claimed, waits}
use Rattle.job_log.proofs.log.JobLog.note_landed.Goals as goal

pub overflow_add-self : goal.overflow_add-self
overflow_add-self c =
    let k = c.self.invariant in
    let P : JobView → Type 0 = λ v. is_claimed v c.args.chunk ≡ true in
    let m = claim_means (view_of c.self.inside.consecutive c.self.inside.entries.items c.self.inside.cause c.self.inside.claimed c.self.inside.spare) c.args.chunk c.self.inside.len k.size_is (subst P (sym c.self.view_is) c.requires.claimed) in
    let fits = fits_more _ _ _ _ _ _ _ _ _ _ _ _ c.args.chunk.off c.args.chunk.len k m.claim m.start m.size_is in
    let len = c.from.ensures in
    let ranges = c.self.ranges in
    omega arith

pub unwrap-requires : goal.unwrap-requires
unwrap-requires c =
    let n = length-entries_of c.self.inside.entries.items in
    let fits = has_room _ _ _ _ _ _ _ _ _ _ _ c.self.invariant in
    grind arith

pub invariant_of-self : goal.invariant_of-self
invariant_of-self c =
    let k = c.self.invariant in
    let P : JobView → Type 0 = λ v. is_claimed v c.args.chunk ≡ true in
    let Q : JobView → Type 0 = λ v. has_ended v.entries ≡ false in
    let R : JobView → Type 0 = λ v. waits v c.args.chunk ≡ false in
    let m = claim_means (view_of c.self.inside.consecutive c.self.inside.entries.items c.self.inside.cause c.self.inside.claimed c.self.inside.spare) c.args.chunk c.self.inside.len k.size_is (subst P (sym c.self.view_is) c.requires.claimed) in
    let len = c.from.ensures in
    kept_landed _ (entries_of c.self.inside.entries.items) c.self.inside.claimed c.self.inside.landed _ _ _ _ _ _ _ (c.args.chunk.off / 65536) c.args.chunk.off c.from.result _ c.clear.new.self c.set.new.self _ (c.logs_grow.ensures.sound c.self.inside.consecutive) c.self.invariant
    (pushed c.self.inside.entries.items _ (kept_entry c.args.chunk) (is_ok c.push.result) (ap (λ r. is_ok r) c.unwrap.ensures) c.push.ensures.items
    ∙ ap (λ (n : ℕ). entries_of c.self.inside.entries.items ++ Landed c.args.chunk.off n ∷ []) (sym len))
    m.claim m.start (len ∙ m.size_is) (sym k.ended_is ∙ subst Q (sym c.self.view_is) c.requires.running) (subst R (sym c.self.view_is) c.requires.ready) c.clear.ensures c.set.ensures c.push.ensures.capacity
