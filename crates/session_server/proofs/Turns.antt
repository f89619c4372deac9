-- A step that makes no call on the volume.
use Rattle.std.proofs.Common.{◌≡◌, sym, subst, true, false, List, []}
use Rattle.std.specs.Prelude.{ℕ, IfOk, Result, Ok, Err}
use Rattle.block_file.specs.Opened.{Opened}
use Rattle.disk_model.specs.Elapsed.{Timeline}
use Rattle.disk_model.specs.declared.fuse.Fuse.{Fuse}
use Rattle.outbox.specs.declared.outgoing.Outbox.{Outbox}
use Rattle.outcome.specs.Causes.{Rose}
use Rattle.server_volume.specs.declared.used.Used.{Used}
use Rattle.server_volume.specs.MomentLaws.{counted_none}
use Rattle.server_volume.specs.Moments.{Counted}
use Rattle.server_volume.specs.Store.{seat_of}

ran_still : {told D : Type 0} (size : D → ℕ) (fuse : D → Fuse) (timeline : D → Timeline) (faults : D → ℕ) (old new : Opened D) (used : List Used) → new ≡ old → used ≡ []
    → Counted told (seat_of size fuse timeline faults old) (seat_of size fuse timeline faults new) [] used
ran_still {told} size fuse timeline faults old new used same none =
    subst (λ (v : Opened _). Counted told (seat_of size fuse timeline faults old) (seat_of size fuse timeline faults v) [] used) (sym same)
    (subst (λ (us : List Used). Counted told (seat_of size fuse timeline faults old) (seat_of size fuse timeline faults old) [] us) (sym none) (counted_none told _ []))

pub ran_unused : {D E : Type 0} (told : Type 0) (size : D → ℕ) (fuse : D → Fuse) (timeline : D → Timeline) (faults : D → ℕ) {old new : Opened D} (r : Result Outbox E)
    → new ≡ old → IfOk r (λ out. out.used ≡ [])
    → IfOk r (λ out. Counted told (seat_of size fuse timeline faults old) (seat_of size fuse timeline faults new) [] out.used)
ran_unused told size fuse timeline faults {old = old} {new = new} (Ok out) same none = ran_still size fuse timeline faults old new out.used same none
ran_unused told size fuse timeline faults (Err e) same none = tt

-- a step that draws nothing tells of no draw that failed
pub none_failed : {E : Type 0} (before now : ℕ) (r : Result Outbox E) → IfOk r (λ out. out.undrawn ≡ false)
    → IfOk r (λ out. out.undrawn ≡ true → Rose before now)
none_failed before now (Ok out) none = λ failed. absurd cc
none_failed before now (Err e) none = tt
