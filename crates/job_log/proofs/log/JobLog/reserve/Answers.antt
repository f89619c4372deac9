use Rattle.std.proofs.Common.{List, ap, arith}
use Rattle.job_log.specs.Kept.{entries_of}
use Rattle.job_log.specs.declared.log.Entry.{Entry as Kept}
use Rattle.job_log.proofs.Steps.{kept_room}
use Rattle.job_log.proofs.log.JobLog.reserve.Goals as goal

pub invariant_of-self-in_err-reserve-3 : goal.invariant_of-self-in_err-reserve-3
invariant_of-self-in_err-reserve-3 c =
    let k = c.self.invariant in
    let e = k.entries_room in
    let a = k.claimed_room in
    let b = k.landed_room in
    let x = c.reserve.ensures.stays in
    let y = c.reserve-2.ensures.stays in
    let z = c.reserve-3.ensures.capacity in
    kept_room _ (entries_of c.self.inside.entries.items) c.self.inside.claimed c.self.inside.landed _ _ _ _ _ c.self.inside.spare _ _ _ _ _ _ k
    (ap (λ (xs : List Kept). entries_of xs) c.reserve-3.ensures.items) c.reserve.ensures.same c.reserve-2.ensures.same (omega arith) (omega arith) (omega arith) (omega arith)

pub invariant_of-self-2 : goal.invariant_of-self-2
invariant_of-self-2 c =
    let k = c.self.invariant in
    let n = c.chunk_count-chunks.ensures in
    let room = c.in_ok-reserve.ensures.room in
    let second = c.in_ok-reserve-2.ensures.room in
    let third = c.in_ok-reserve-3.ensures.ok in
    kept_room _ (entries_of c.self.inside.entries.items) c.self.inside.claimed c.self.inside.landed _ _ _ _ _ c.self.inside.spare _ _ _ _ _ _ k
    (ap (λ (xs : List Kept). entries_of xs) c.reserve-3.ensures.items) c.reserve.ensures.same c.reserve-2.ensures.same (omega arith) (omega arith) (omega arith) (omega arith)
