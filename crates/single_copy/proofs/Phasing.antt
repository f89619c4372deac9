-- How far a client is, turn after turn.
use Rattle.std.proofs.Common.{◌≡◌, ℕ, ◌<◌, ◌≤◌, Bool, true, false, Option, Some, None, refl, sym, ap, arith}
use Rattle.std.proofs.lemmas.Bool.{false≢true}
use Rattle.outcome.specs.Causes.{Rose}
use Rattle.client_copies.specs.declared.copy.Report.{Report}
use Rattle.single_copy.specs.Drawing.{DrawHasCause}
use Rattle.single_copy.specs.LastReports.{last_of}
use Rattle.single_copy.specs.Phases.{asked, due_in, parted, turns_in, went_on}
use Rattle.single_copy.specs.declared.answers.LastReport.{LastReport}
use Rattle.single_copy.specs.declared.phases.Due.{Due}
use Rattle.single_copy.specs.declared.phases.Due.TheVariants.{Begin, Hear, Leave, Nothing}
use Rattle.single_copy.specs.declared.phases.Phase.{Phase}
use Rattle.single_copy.specs.declared.phases.Phase.TheVariants.{Fresh, Asking, Told, Parted, Undrawn}

-- ---- what is due

abbrev pub is_begin : Due → Bool
is_begin Begin = true
is_begin (Hear side) = false
is_begin Leave = false
is_begin Nothing = false

abbrev pub is_leave : Due → Bool
is_leave Begin = false
is_leave (Hear side) = false
is_leave Leave = true
is_leave Nothing = false

abbrev pub is_nothing : Due → Bool
is_nothing Begin = false
is_nothing (Hear side) = false
is_nothing Leave = false
is_nothing Nothing = true

abbrev pub is_fresh : Phase → Bool
is_fresh Fresh = true
is_fresh Asking = false
is_fresh (Told last) = false
is_fresh (Parted last) = false
is_fresh (Undrawn last) = false

-- the copy is to be begun at the beginning alone
pub begins_fresh : (phase : Phase) (source dest : Bool) → due_in phase source dest ≡ Begin → phase ≡ Fresh
begins_fresh Fresh source dest due = refl
begins_fresh Asking source dest due = absurd (false≢true (ap is_begin due))
begins_fresh (Told last) true dest due = absurd (false≢true (ap is_begin due))
begins_fresh (Told last) false true due = absurd (false≢true (ap is_begin due))
begins_fresh (Told last) false false due = absurd (false≢true (ap is_begin due))
begins_fresh (Parted last) true dest due = absurd (false≢true (ap is_begin due))
begins_fresh (Parted last) false true due = absurd (false≢true (ap is_begin due))
begins_fresh (Parted last) false false due = absurd (false≢true (ap is_begin due))
begins_fresh (Undrawn last) source dest due = absurd (false≢true (ap is_begin due))

-- ---- turns are made, and fewer are left

asked_turns : (last : Option LastReport) → turns_in (asked last) ≡ 1
asked_turns None = refl
asked_turns (Some last) = refl

pub begun_turns : (undrawn : Bool) (report : Option Report) → turns_in (went_on undrawn report Fresh) < 2
begun_turns true report = omega arith
begun_turns false report = omega (arith, asked_turns (last_of report))

pub heard_turns : (undrawn : Bool) (report : Option Report) (phase : Phase) → turns_in (went_on undrawn report phase) ≤ turns_in phase
heard_turns true report phase = omega arith
heard_turns false report Fresh = omega (arith, asked_turns (last_of report))
heard_turns false report Asking = omega (arith, asked_turns (last_of report))
heard_turns false report (Told last) = omega arith
heard_turns false report (Parted last) = omega arith
heard_turns false report (Undrawn last) = omega arith

pub left_turns : (phase : Phase) (source dest : Bool) → due_in phase source dest ≡ Leave → turns_in (parted phase) < turns_in phase
left_turns Fresh source dest due = absurd (false≢true (ap is_leave due))
left_turns Asking source dest due = absurd (false≢true (ap is_leave due))
left_turns (Told last) source dest due = omega arith
left_turns (Parted last) true dest due = absurd (false≢true (ap is_leave due))
left_turns (Parted last) false true due = absurd (false≢true (ap is_leave due))
left_turns (Parted last) false false due = absurd (false≢true (ap is_leave due))
left_turns (Undrawn last) source dest due = absurd (false≢true (ap is_leave due))

-- ---- after a turn something was begun

asked_begun : (last : Option LastReport) → is_fresh (asked last) ≡ false
asked_begun None = refl
asked_begun (Some last) = refl

pub went_begun : (undrawn : Bool) (report : Option Report) (phase : Phase) → is_fresh (went_on undrawn report phase) ≡ false
went_begun true report phase = refl
went_begun false report Fresh = asked_begun (last_of report)
went_begun false report Asking = asked_begun (last_of report)
went_begun false report (Told last) = refl
went_begun false report (Parted last) = refl
went_begun false report (Undrawn last) = refl

pub left_begun : (phase : Phase) (source dest : Bool) → due_in phase source dest ≡ Leave → is_fresh (parted phase) ≡ false
left_begun Fresh source dest due = absurd (false≢true (ap is_leave due))
left_begun Asking source dest due = refl
left_begun (Told last) source dest due = refl
left_begun (Parted last) source dest due = refl
left_begun (Undrawn last) source dest due = refl

-- ---- draws

asked_drawn : (before now : ℕ) (last : Option LastReport) → DrawHasCause before now (asked last)
asked_drawn before now None = tt
asked_drawn before now (Some last) = tt

pub went_drawn : (before middle now : ℕ) (undrawn : Bool) (report : Option Report) (phase : Phase) (source dest : Bool) → is_nothing (due_in phase source dest) ≡ false
    → before ≤ middle → (undrawn ≡ true → Rose middle now) → DrawHasCause before now (went_on undrawn report phase)
went_drawn before middle now true report phase source dest due later rose = let up = rose refl in omega (arith, up, later)
went_drawn before middle now false report Fresh source dest due later rose = asked_drawn before now (last_of report)
went_drawn before middle now false report Asking source dest due later rose = asked_drawn before now (last_of report)
went_drawn before middle now false report (Told last) source dest due later rose = tt
went_drawn before middle now false report (Parted last) source dest due later rose = tt
went_drawn before middle now false report (Undrawn last) source dest due later rose = absurd (false≢true (sym due))

pub left_drawn : (before now : ℕ) (phase : Phase) (source dest : Bool) → is_nothing (due_in phase source dest) ≡ false → DrawHasCause before now (parted phase)
left_drawn before now Fresh source dest due = tt
left_drawn before now Asking source dest due = tt
left_drawn before now (Told last) source dest due = tt
left_drawn before now (Parted last) source dest due = tt
left_drawn before now (Undrawn last) source dest due = absurd (false≢true (sym due))
