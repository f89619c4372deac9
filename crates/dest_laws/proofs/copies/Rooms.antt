-- How much room a copy may come to need, as its log grows.
use Rattle.std.proofs.Common.{◌≡◌, ℕ, ◌+◌, ◌-◌, ◌<◌, ◌≤◌, Bool, true, false, List, [], ◌∷◌, ◌++◌, Option, Some, None, Ok, Err, refl, ap, ◌∙◌, arith}
use Rattle.std.proofs.lemmas.Bool.{ltb-false}
use Rattle.std.specs.Option.{option_or}
use Rattle.std.specs.Prelude.{◌==◌, nat_lt, if◌then◌else◌, unwrap_or}
use Rattle.copy_model.specs.Job.{Allows, Committed, Entry, Landed, Reported, Sized, Stopped, size_of}
use Rattle.copy_model.specs.Marks.{len_of}
use Rattle.dest_laws.specs.View.View.{plan_seen, room_by, room_of}
use Rattle.dest_work.specs.Findings.{len_of as length_for, range_len}
use Rattle.job_table.specs.Table.{end_of, open_end}
use Rattle.job_table.specs.declared.job.Plan.{Plan}
use Rattle.nfs_base.specs.declared.job.Stop.TheVariants.{NoRoom, PastEnd}
use Rattle.wire_model.specs.Copies.{Job as Copy}

-- ---- the length of a log that grows

size_behind : (old more : List Entry) → size_of (old ++ more) ≡ option_or (size_of old) (size_of more)
size_behind [] more = refl
size_behind (Sized len ∷ old) more = refl
size_behind (Landed off len ∷ old) more = size_behind old more
size_behind (Stopped ∷ old) more = size_behind old more
size_behind (Committed ∷ old) more = size_behind old more
size_behind (Reported ∷ old) more = size_behind old more

or_none : (size : Option ℕ) → option_or size None ≡ size
or_none None = refl
or_none (Some len) = refl

-- what becomes of the length with this entry
pub data Sizing (old : List Entry) (entry : Entry) : Type 0 where
  Stays : (same : size_of (old ++ entry ∷ []) ≡ size_of old) → Sizing old entry
  Comes : (len : ℕ) → (is : entry ≡ Sized len) → (none_yet : size_of old ≡ None) → (now : size_of (old ++ entry ∷ []) ≡ Some len) → Sizing old entry

pub sizing : (consecutive : Bool) (old : List Entry) (entry : Entry) → Allows consecutive old entry → Sizing old entry
sizing consecutive old (Sized len) allowed =
    Comes len refl allowed.0 (size_behind old (Sized len ∷ []) ∙ ap (λ (o : Option ℕ). option_or o (Some len)) allowed.0)
sizing consecutive old (Landed off len) allowed = Stays (size_behind old (Landed off len ∷ []) ∙ or_none (size_of old))
sizing consecutive old Stopped allowed = Stays (size_behind old (Stopped ∷ []) ∙ or_none (size_of old))
sizing consecutive old Committed allowed = Stays (size_behind old (Committed ∷ []) ∙ or_none (size_of old))
sizing consecutive old Reported allowed = Stays (size_behind old (Reported ∷ []) ∙ or_none (size_of old))

-- ---- the length that the source's size gives is within what may be needed

length_by : (past far to_end : Bool) (len count capacity from size : ℕ) → nat_lt capacity (from + (if to_end then size else count)) ≡ far
    → (if past then Err PastEnd else (if far then Err NoRoom else Ok (if to_end then size else count))) ≡ Ok len
    → (len ≤ (if to_end then len else count)) × ((if to_end then len else count) ≤ (if to_end then capacity - from else count))
length_by true far to_end len count capacity from size is gives = absurd (cc)
length_by false true to_end len count capacity from size is gives = absurd (cc)
length_by false false true len count capacity from size is gives =
    let low = ltb-false capacity (from + size) is in
    let e : size ≡ len = (let g = gives in cc) in
    (omega arith, omega (arith, low, e))
length_by false false false len count capacity from size is gives =
    let e : count ≡ len = (let g = gives in cc) in
    (omega (arith, e), omega arith)

pub length_fits : (plan : Plan) (capacity size len : ℕ) → length_for plan capacity size ≡ Ok len
    → (len ≤ room_by capacity (plan_seen plan) (Some len)) × (room_by capacity (plan_seen plan) (Some len) ≤ room_by capacity (plan_seen plan) None)
length_fits plan capacity size len gives =
    length_by (nat_lt size (plan.src_off + plan.count)) (nat_lt capacity (plan.dst_off + range_len plan size)) (plan.count == 0) len plan.count capacity plan.dst_off
    (size - plan.src_off) refl gives

-- ---- what a copy may come to need lies within its range as the table has it

within_by : (to_end : Bool) (sized : Option ℕ) (capacity from count reach place : ℕ)
    → reach ≤ (if to_end then unwrap_or sized (capacity - from) else count) → from ≤ place → place < from + reach
    → place < (if to_end then open_end capacity from sized else from + count)
within_by false sized capacity from count reach place less low high = omega (arith, less, low, high)
within_by true None capacity from count reach place less low high = omega (arith, less, low, high)
within_by true (Some len) capacity from count reach place less low high = omega (arith, less, low, high)

pub within_range : (plan : Plan) (sized : Option ℕ) (capacity reach place : ℕ) → reach ≤ room_by capacity (plan_seen plan) sized → plan.dst_off ≤ place
    → place < plan.dst_off + reach → place < end_of capacity plan sized
within_range plan sized capacity reach place less low high =
    within_by (plan.count == 0) sized capacity plan.dst_off plan.count reach place less low high

-- ---- of a copy that runs, and of one that was retired

pub room_running : (capacity : ℕ) (copy : Copy) → copy.retired ≡ false → room_of capacity copy ≡ room_by capacity copy.plan (size_of copy.entries)
room_running capacity copy is = ap (λ (r : Bool). if r then len_of copy.entries else room_by capacity copy.plan (size_of copy.entries)) is

pub room_retired : (capacity : ℕ) (copy : Copy) → copy.retired ≡ true → room_of capacity copy ≡ len_of copy.entries
room_retired capacity copy is = ap (λ (r : Bool). if r then len_of copy.entries else room_by capacity copy.plan (size_of copy.entries)) is
