-- The volumes of an accepted schedule are no larger than one may be.
use Rattle.std.proofs.Common.{◌≡◌, ℕ, ◌*◌, ◌≤◌, true, List, [], ◌∷◌, Option, Some, None, arith}
use Rattle.std.specs.Prelude.{IfSome, nat_le, ◌&&◌}
use Rattle.std.proofs.lemmas.Bool.{and_parts, leb-true}
use Rattle.nfs_base.specs.declared.side.Side.{Side}
use Rattle.nfs_base.specs.declared.side.Side.TheVariants.{Dest, Source}
use Rattle.run_ends.specs.First.{Shape, shape_by, shape_of, shape_or}
use Rattle.run_promise.specs.Client.Accepted.{AreAccepted}
use Rattle.wire_machine.specs.Runs.{Numbered}
use Rattle.wire_schedule.specs.Admission.{after, is_in_order, is_within}
use Rattle.wire_schedule.specs.declared.context.Context.{Context}
use Rattle.wire_schedule.specs.declared.event.Event.{Event}
use Rattle.wire_schedule.specs.declared.event.Event.TheVariants as kinds

blocks_few : (files blocks : ℕ) → is_within (kinds.Volume Source files blocks) ≡ true → blocks ≤ 16384
blocks_few files blocks within =
    let parts = and_parts (nat_le 1 files && nat_le files 64) ((nat_le 1 blocks && nat_le blocks 16384) && nat_le (files * blocks) 16384) within in
    let sizes = and_parts (nat_le 1 blocks && nat_le blocks 16384) (nat_le (files * blocks) 16384) parts.1 in
    leb-true blocks 16384 (and_parts (nat_le 1 blocks) (nat_le blocks 16384) sizes.0).1

shape_few : (side : Side) (event : Event) → is_within event ≡ true → IfSome (shape_by side event) (λ (shape : Shape). shape.blocks ≤ 16384)
shape_few Source (kinds.Volume Source files blocks) within = blocks_few files blocks within
shape_few Source (kinds.Volume Dest files blocks) within = tt
shape_few Source (kinds.Write evside file off bytes) within = tt
shape_few Source (kinds.Commit evside file) within = tt
shape_few Source (kinds.Copy copy spec) within = tt
shape_few Source (kinds.Status copy) within = tt
shape_few Source (kinds.Cancel copy) within = tt
shape_few Source kinds.Retry within = tt
shape_few Source (kinds.Deliver number) within = tt
shape_few Source kinds.Flow within = tt
shape_few Source (kinds.Work worker) within = tt
shape_few Source (kinds.Tick seconds) within = tt
shape_few Source (kinds.Peek evside file off len) within = tt
shape_few Source (kinds.Crash evside pick) within = tt
shape_few Source (kinds.CrashAfter evside calls pick) within = tt
shape_few Dest (kinds.Volume Source files blocks) within = tt
shape_few Dest (kinds.Volume Dest files blocks) within = blocks_few files blocks within
shape_few Dest (kinds.Write evside file off bytes) within = tt
shape_few Dest (kinds.Commit evside file) within = tt
shape_few Dest (kinds.Copy copy spec) within = tt
shape_few Dest (kinds.Status copy) within = tt
shape_few Dest (kinds.Cancel copy) within = tt
shape_few Dest kinds.Retry within = tt
shape_few Dest (kinds.Deliver number) within = tt
shape_few Dest kinds.Flow within = tt
shape_few Dest (kinds.Work worker) within = tt
shape_few Dest (kinds.Tick seconds) within = tt
shape_few Dest (kinds.Peek evside file off len) within = tt
shape_few Dest (kinds.Crash evside pick) within = tt
shape_few Dest (kinds.CrashAfter evside calls pick) within = tt

either_few : (o : Option Shape) (other : Shape) → IfSome o (λ (shape : Shape). shape.blocks ≤ 16384) → other.blocks ≤ 16384 → (shape_or o other).blocks ≤ 16384
either_few None other one more = more
either_few (Some shape) other one more = one

pub shapes_few : (side : Side) (context : Context) (events : List Numbered) → AreAccepted context events → (shape_of side events).blocks ≤ 16384
shapes_few side context [] accepted = omega arith
shapes_few side context (e ∷ events) accepted =
    let admitted = and_parts _ (is_within e.event && is_in_order context e.event) accepted.0 in
    either_few (shape_by side e.event) (shape_of side events) (shape_few side e.event (and_parts (is_within e.event) (is_in_order context e.event) admitted.1).0)
    (shapes_few side (after context e.event) events accepted.2)
