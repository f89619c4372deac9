-- What holds of each moment of a run that is written by hand.
use Rattle.std.proofs.Common.{◌≡◌, inl, inr, ℕ, zero, suc, ◌<◌, ◌≤◌, Bool, true, false, ◌&&◌, nat_le, None, List, [], ◌∷◌, sym, ◌∙◌, arith}
use Rattle.std.proofs.lemmas.Bool.{and_parts, leb-true, false≢true, agree_below, agree_below_at}
use Rattle.copy_model.specs.Job.{Plan}
use Rattle.copy_model.specs.Moment.{Dest, Did, Rested, Wrote, Landed, Crashed, Moment, History}
use Rattle.copy_model.specs.Promise.{WritesTo, IsTouched, Shows}
use Rattle.copy_model.specs.Examples.{run_of}

abbrev pub Each : (Moment → Type 0) → List Moment → Type 0
Each P [] = Unit {0}
Each P (m ∷ ms) = P m × Each P ms

-- what holds of each moment of the list and of the last one holds always
pub each_moment : (P : Moment → Type 0) (moments : List Moment) (last : Moment) → Each P moments → P last → (k : ℕ) → P (run_of moments last k)
each_moment P [] last each at_last k = at_last
each_moment P (m ∷ ms) last each at_last zero = each.0
each_moment P (m ∷ ms) last each at_last (suc k) = each_moment P ms last each.1 at_last k

-- a test passes at each moment before n
abbrev pub PassesBefore : History → ℕ → (Moment → Bool) → Type 0
PassesBefore h n test = agree_below (λ k. test (h k)) (λ k. true) n ≡ true

pub passes_at : (h : History) (n : ℕ) (test : Moment → Bool) → PassesBefore h n test → (k : ℕ) → k < n → test (h k) ≡ true
passes_at h n test passes k before = agree_below_at (λ i. test (h i)) (λ i. true) n k passes before

abbrev pub is_no_write : Did → Bool
is_no_write Rested = true
is_no_write (Wrote file off len) = false
is_no_write (Landed copy off len) = true
is_no_write Crashed = true

-- no WRITE led here, and at most one copy is accepted
abbrev pub is_alone : Moment → Bool
is_alone m = is_no_write m.did && nat_le m.made 1

writes_nothing : (did : Did) (file place : ℕ) → is_no_write did ≡ true → WritesTo did file place → ⊥
writes_nothing Rested file place no_write writes = writes
writes_nothing (Wrote at off len) file place no_write writes = false≢true no_write
writes_nothing (Landed copy off len) file place no_write writes = writes
writes_nothing Crashed file place no_write writes = writes

-- where each moment is so, nothing touches the first copy's bytes
pub untouched : (h : History) (n : ℕ) → PassesBefore h n is_alone → (plan : Plan) (place k : ℕ) → k < n → IsTouched h 0 plan place k → ⊥
untouched h n alone plan place k before (inl written) =
    let m = h (suc written.0) in
    writes_nothing m.did plan.dst_file place (and_parts (is_no_write m.did) (nat_le m.made 1) (passes_at h n is_alone alone (suc written.0) (omega arith))).0 written.3
untouched h n alone plan place k before (inr later) =
    let m = h k in
    let few : m.made ≤ 1 = leb-true m.made 1 (and_parts (is_no_write m.did) (nat_le m.made 1) (passes_at h n is_alone alone k before)).1 in
    let accepted = later.2 in
    let after = later.1 in
    absurd (omega arith)

-- all that is shown at a place, where it is one value
pub shows_only : (d : Dest) (file place value : ℕ) → d.now file place ≡ value → d.safe file place ≡ value → d.doubt file place ≡ None
    → (x : ℕ) → Shows d file place x → x ≡ value
shows_only d file place value now safe certain x (inl reading) = sym reading.1 ∙ now
shows_only d file place value now safe certain x (inr (inl left)) = sym left ∙ safe
shows_only d file place value now safe certain x (inr (inr doubted)) = cc
