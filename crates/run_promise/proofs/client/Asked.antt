-- What an accepted event asks of the client is within its bounds, and what it begins wasn't begun before.
use Rattle.std.proofs.Common.{◌≡◌, ◌≢◌, ℕ, ◌<◌, ◌≤◌, Bool, true, false, List, [], ◌∷◌, length, get_or, set, map, All, refl, sym, ap, ◌∙◌, arith, length-set, get_or-set_other}
use Rattle.std.proofs.lemmas.Bool.{and_parts}
use Rattle.std.proofs.lemmas.Grind.{get_or-set_at}
use Rattle.std.proofs.lemmas.List.{get_or_past}
use Rattle.std.specs.Prelude.{◌==◌, ◌&&◌, not, nat_le, nat_lt, slice_index}
use Rattle.client_copies.specs.declared.table.TheConstants.{MOST_COPIES}
use Rattle.client_laws.specs.Bounds.Known.{SpecIsFit, WorkIsFit}
use Rattle.nfs_base.specs.declared.side.Side.{Side}
use Rattle.nfs_base.specs.declared.side.Side.TheVariants.{Source, Dest}
use Rattle.wire_machine.specs.Steps.{small_steps}
use Rattle.wire_machine.specs.World.{World, waiting}
use Rattle.wire_schedule.specs.Admission as admission
use Rattle.wire_schedule.specs.Admission.{admits, after, is_between, is_in_order, is_within, most_copies, most_events, with_files}
use Rattle.wire_schedule.specs.Spelling.{EventFits}
use Rattle.wire_schedule.specs.declared.context.Context.{Context}
use Rattle.wire_schedule.specs.declared.event.Event.{Event}
use Rattle.wire_schedule.specs.declared.event.Event.TheVariants as events
use Rattle.wire_xdr.specs.Cursor.{IsBytes}
use Rattle.write_queue.specs.declared.work.Work.TheVariants as works

-- the copy of this number is one of those that were begun
abbrev pub is_begun : List Bool → ℕ → Bool
is_begun begun copy = nat_le copy most_copies && get_or begun copy false

pub record IsNew (begun : List Bool) (copy : ℕ) : Type 0 where
  pub first : 1 ≤ copy
  pub last : copy < MOST_COPIES
  pub new : is_begun begun copy ≡ false

abbrev pub IsAsked : List Bool → Event → Type 0
IsAsked begun (events.Write side file off bytes) = WorkIsFit (works.Write file off bytes)
IsAsked begun (events.Commit side file) = WorkIsFit (works.Commit file)
IsAsked begun (events.Copy copy spec) = IsNew begun copy × SpecIsFit spec
IsAsked begun (events.Status copy) = copy < 256
IsAsked begun (events.Cancel copy) = copy < 256
IsAsked begun event = Unit {0}

-- ---- what the grammar admits

between : (low high n : ℕ) → is_between low high n ≡ true → (low ≤ n) × (n ≤ high)
between low high n is =
    let parts = and_parts (nat_le low n) (nat_le n high) is in
    let one = parts.0 in
    let two = parts.1 in
    (grind (arith, one), grind (arith, two))

within : (context : Context) (event : Event) → admits context event ≡ true → is_within event ≡ true
within context event admitted =
    (and_parts (is_within event) (is_in_order context event) (and_parts (nat_lt context.events most_events) _ admitted).1).0

ordered : (context : Context) (event : Event) → admits context event ≡ true → is_in_order context event ≡ true
ordered context event admitted =
    (and_parts (is_within event) (is_in_order context event) (and_parts (nat_lt context.events most_events) _ admitted).1).1

is_not : (b : Bool) → not b ≡ true → b ≡ false
is_not true is = sym is
is_not false is = refl

bytes_are : (bytes : List ℕ) → All (λ b. b < 256) bytes → IsBytes bytes
bytes_are bytes all i = by_place (nat_lt i (length bytes)) refl
  where
    by_place : (b : Bool) → nat_lt i (length bytes) ≡ b → slice_index bytes i < 256
    by_place true is = let inside : i < length bytes = grind (arith, is) in all i 0 inside
    by_place false is =
        let outside : length bytes ≤ i = grind (arith, is) in
        let none : slice_index bytes i ≡ 0 = get_or_past bytes i 0 outside in
        omega (arith, none)

few_copies : (copy : ℕ) → is_between 1 most_copies copy ≡ true → copy < 256
few_copies copy is = let most = (between 1 most_copies copy is).1 in let fifteen : most_copies ≡ 15 = refl in omega (arith, most, fifteen)

new_copy : (context : Context) (copy : ℕ) → is_between 1 most_copies copy ≡ true → is_begun context.begun copy ≡ false → IsNew context.begun copy
new_copy context copy is new =
    let both = between 1 most_copies copy is in
    let most = both.1 in
    let fifteen : most_copies ≡ 15 = refl in
    let sixteen : MOST_COPIES ≡ 16 = refl in
    record { first = both.0; last = omega (arith, most, fifteen, sixteen); new = new }

pub asked : (context : Context) (event : Event) → admits context event ≡ true → EventFits event → IsAsked context.begun event
asked context (events.Write side file off bytes) admitted fits = (fits.0, fits.1, bytes_are bytes fits.2)
asked context (events.Commit side file) admitted fits = fits
asked context (events.Copy copy spec) admitted fits =
    let event = events.Copy copy spec in
    let order = and_parts (admission.is_ready context) _ (ordered context event admitted) in
    let new = and_parts (not (admission.has_begun context copy)) _ order.1 in
    let spec_fits = fits.1 in (
      new_copy context copy (within context event admitted) (is_not (admission.has_begun context copy) new.0),
      record { src_file = spec_fits.src_file; src_off = spec_fits.src_off; dst_file = spec_fits.dst_file; dst_off = spec_fits.dst_off; count = spec_fits.count },
    )
asked context (events.Status copy) admitted fits = few_copies copy (within context (events.Status copy) admitted)
asked context (events.Cancel copy) admitted fits = few_copies copy (within context (events.Cancel copy) admitted)
asked context (events.Volume side files blocks) admitted fits = tt
asked context events.Retry admitted fits = tt
asked context (events.Deliver number) admitted fits = tt
asked context events.Flow admitted fits = tt
asked context (events.Work worker) admitted fits = tt
asked context (events.Tick seconds) admitted fits = tt
asked context (events.Peek side file off len) admitted fits = tt
asked context (events.Crash side pick) admitted fits = tt
asked context (events.CrashAfter side calls pick) admitted fits = tt

-- ---- which copies were begun after an event, and after its small steps

abbrev pub begun_by : Event → List Bool → List Bool
begun_by (events.Copy copy spec) begun = set begun copy true
begun_by event begun = begun

abbrev pub begun_all : List Event → List Bool → List Bool
begun_all [] begun = begun
begun_all (event ∷ events) begun = begun_all events (begun_by event begun)

abbrev pub AreAsked : List Bool → List Event → Type 0
AreAsked begun [] = Unit {0}
AreAsked begun (event ∷ events) = IsAsked begun event × AreAsked (begun_by event begun) events

deliveries_asked : (begun : List Bool) (numbers : List ℕ) → AreAsked begun (map events.Deliver numbers)
deliveries_asked begun [] = tt
deliveries_asked begun (number ∷ numbers) = (tt, deliveries_asked begun numbers)

deliveries_begin_none : (begun : List Bool) (numbers : List ℕ) → begun_all (map events.Deliver numbers) begun ≡ begun
deliveries_begin_none begun [] = refl
deliveries_begin_none begun (number ∷ numbers) = deliveries_begin_none begun numbers

volume_begins_none : (context : Context) (side : Side) (files : ℕ) → context.begun ≡ (with_files context side files).begun
volume_begins_none context Source files = refl
volume_begins_none context Dest files = refl

module _ {S T C W : Type 0} (before : World S T C W) (context : Context) where
  pub smalls_asked : (event : Event) → IsAsked context.begun event → AreAsked context.begun (small_steps before event)
  smalls_asked events.Flow is = deliveries_asked context.begun (waiting before.log)
  smalls_asked (events.Volume side files blocks) is = tt
  smalls_asked (events.Write side file off bytes) is = (is, tt)
  smalls_asked (events.Commit side file) is = (is, tt)
  smalls_asked (events.Copy copy spec) is = (is, tt)
  smalls_asked (events.Status copy) is = (is, tt)
  smalls_asked (events.Cancel copy) is = (is, tt)
  smalls_asked events.Retry is = (is, tt)
  smalls_asked (events.Deliver number) is = (is, tt)
  smalls_asked (events.Work worker) is = (is, tt)
  smalls_asked (events.Tick seconds) is = (is, tt)
  smalls_asked (events.Peek side file off len) is = (is, tt)
  smalls_asked (events.Crash side pick) is = (is, tt)
  smalls_asked (events.CrashAfter side calls pick) is = (is, tt)

  pub smalls_begin : (event : Event) → begun_all (small_steps before event) context.begun ≡ (after context event).begun
  smalls_begin events.Flow = deliveries_begin_none context.begun (waiting before.log)
  smalls_begin (events.Volume side files blocks) = volume_begins_none context side files
  smalls_begin (events.Write side file off bytes) = refl
  smalls_begin (events.Commit side file) = refl
  smalls_begin (events.Copy copy spec) = refl
  smalls_begin (events.Status copy) = refl
  smalls_begin (events.Cancel copy) = refl
  smalls_begin events.Retry = refl
  smalls_begin (events.Deliver number) = refl
  smalls_begin (events.Work worker) = refl
  smalls_begin (events.Tick seconds) = refl
  smalls_begin (events.Peek side file off len) = refl
  smalls_begin (events.Crash side pick) = refl
  smalls_begin (events.CrashAfter side calls pick) = refl

-- ---- a copy that wasn't begun after an event wasn't begun before it, nor by it

pub begun_size : (event : Event) (begun : List Bool) → length (begun_by event begun) ≡ length begun
begun_size (events.Copy copy spec) begun = length-set begun copy true
begun_size (events.Write side file off bytes) begun = refl
begun_size (events.Commit side file) begun = refl
begun_size (events.Status copy) begun = refl
begun_size (events.Cancel copy) begun = refl
begun_size (events.Volume side files blocks) begun = refl
begun_size events.Retry begun = refl
begun_size (events.Deliver number) begun = refl
begun_size events.Flow begun = refl
begun_size (events.Work worker) begun = refl
begun_size (events.Tick seconds) begun = refl
begun_size (events.Peek side file off len) begun = refl
begun_size (events.Crash side pick) begun = refl
begun_size (events.CrashAfter side calls pick) begun = refl

never : {X : Type 0} → true ≡ false → X
never is = absurd (cc)

pub other_copy : (begun : List Bool) (copy j : ℕ) → length begun ≡ 16 → copy < MOST_COPIES → is_begun (set begun copy true) j ≡ false
    → (is_begun begun j ≡ false) × ((copy == j) ≡ false)
other_copy begun copy j size last new = by_number (copy == j) refl
  where
    by_number : (b : Bool) → (copy == j) ≡ b → (is_begun begun j ≡ false) × ((copy == j) ≡ false)
    by_number true is =
        let same : j ≡ copy = grind (arith, is) in
        let sixteen : MOST_COPIES ≡ 16 = refl in
        let fifteen : most_copies ≡ 15 = refl in
        let inside : copy < length begun = omega (arith, last, size, sixteen) in
        let small : nat_le j most_copies ≡ true = grind (arith, same, last, sixteen, fifteen) in
        let there : get_or (set begun copy true) j false ≡ true = get_or-set_at begun copy j true false same inside in
        let is_true : is_begun (set begun copy true) j ≡ true = ap (λ (b : Bool). b && get_or (set begun copy true) j false) small ∙ there in
        never (sym is_true ∙ new)
    by_number false is =
        let other : j ≢ copy = grind (arith, is) in
        (ap (λ (b : Bool). nat_le j most_copies && b) (sym (get_or-set_other begun copy j true false other)) ∙ new, is)
