-- Where a volume breaks, and what it does then.
use Rattle.std.proofs.Common.{◌≡◌, ℕ, ◌+◌, ◌≤◌, Bool, true, false, List, [], ◌∷◌, ◌++◌, refl, sym, ap, subst, ◌∙◌, arith}
use Rattle.std.proofs.lemmas.List.{append_cancel_left}
use Rattle.server_volume.specs.Calls as calls
use Rattle.server_volume.specs.Calls.{Asked, call_of, done_by, left_by}
use Rattle.server_volume.specs.Moments.{AreTaken, IsTaken, Made, Ran, after_calls, failed_in, uses_of}
use Rattle.server_volume.specs.Store.{Seat, Store}
use Rattle.server_volume.specs.declared.used.CallAnswer.{CallAnswer}
use Rattle.server_volume.specs.declared.used.CallAnswer.TheVariants.{Done, DiskFailed, Refused}
use Rattle.server_volume.specs.declared.used.Used.{Used}
use Rattle.server_volume.specs.declared.used.VolumeCall.{VolumeCall}
use Rattle.server_volume.specs.declared.used.VolumeCall.TheVariants as uses
use Rattle.volume_laws.specs.Failing.{AreRefused, break_by, breaks_in}

abbrev broken_in : Store → Bool
broken_in s = s.volume.broken

-- ---- one call

writes_whole : (file off : ℕ) (bytes : List ℕ) (s : Store) → broken_in (done_by (calls.Writes file off bytes) s) ≡ broken_in s
writes_whole file off [] s = refl
writes_whole file off (b ∷ bs) s = refl

-- a volume breaks where a write or a commit failed, and not otherwise
data Breaks (asked : Asked) (answer : CallAnswer) (s : Store) : Type 0 where
  stays : break_by (call_of asked s) answer ≡ 0 → broken_in (left_by asked answer s) ≡ broken_in s → Breaks asked answer s
  breaks : break_by (call_of asked s) answer ≡ 1 → broken_in (left_by asked answer s) ≡ true → broken_in s ≡ false → Breaks asked answer s

one_breaks : (asked : Asked) (answer : CallAnswer) (s : Store) → IsTaken answer s asked → Breaks asked answer s
one_breaks (calls.Reads file off len) Done s taken = stays refl refl
one_breaks (calls.Reads file off len) DiskFailed s taken = stays refl refl
one_breaks (calls.Reads file off len) Refused s taken = stays refl refl
one_breaks (calls.Writes file off bytes) Done s taken = stays refl (writes_whole file off bytes s)
one_breaks (calls.Writes file off bytes) DiskFailed s taken = breaks refl refl taken.0.whole
one_breaks (calls.Writes file off bytes) Refused s taken = stays refl refl
one_breaks (calls.Commits file) Done s taken = stays refl refl
one_breaks (calls.Commits file) DiskFailed s taken = breaks refl refl taken.whole
one_breaks (calls.Commits file) Refused s taken = stays refl refl

-- a broken volume takes none
one_refused : (asked : Asked) (answer : CallAnswer) (s : Store) → broken_in s ≡ true → IsTaken answer s asked → answer ≡ Refused
one_refused asked Refused s broken taken = refl
one_refused (calls.Reads file off len) Done s broken taken = let whole = taken.whole in absurd cc
one_refused (calls.Reads file off len) DiskFailed s broken taken = let whole = taken.whole in absurd cc
one_refused (calls.Writes file off bytes) Done s broken taken = let whole = taken.0.whole in absurd cc
one_refused (calls.Writes file off bytes) DiskFailed s broken taken = let whole = taken.0.whole in absurd cc
one_refused (calls.Commits file) Done s broken taken = let whole = taken.whole in absurd cc
one_refused (calls.Commits file) DiskFailed s broken taken = let whole = taken.whole in absurd cc

refused_stays : (asked : Asked) (answer : CallAnswer) (s : Store) → answer ≡ Refused → left_by asked answer s ≡ s
refused_stays asked answer s is = ap (λ a. left_by asked a s) is

-- ---- calls one after the other

record Stays (s t : Store) (used : List Used) : Type 0 where
  refused : AreRefused used
  same : t ≡ s

all_refused : (ms : List Made) (s : Store) → broken_in s ≡ true → AreTaken s ms → Stays s (after_calls s ms) (uses_of s ms)
all_refused [] s broken taken = record { refused = tt; same = refl }
all_refused (m ∷ ms) s broken taken =
    let is = one_refused m.asked m.answer s broken taken.0 in
    let left = left_by m.asked m.answer s in
    let same = refused_stays m.asked m.answer s is in
    let rest = all_refused ms left (ap broken_in same ∙ broken) taken.1 in
    record { refused = (is, rest.refused); same = rest.same ∙ same }

refused_no_break : (call : VolumeCall) (answer : CallAnswer) → answer ≡ Refused → break_by call answer ≡ 0
refused_no_break (uses.Read file off len) answer is = refl
refused_no_break (uses.Write file off len) answer is = ap failed_in is
refused_no_break (uses.Commit file home) answer is = ap failed_in is

none_break : (us : List Used) → AreRefused us → breaks_in us ≡ 0
none_break [] all = refl
none_break (u ∷ us) all =
    let first = refused_no_break u.call u.answer all.0 in
    let rest = none_break us all.1 in
    omega (arith, first, rest)

-- by how often volumes broke in them
record Broke (s t : Store) (times : ℕ) : Type 0 where
  whole : times ≡ 0 → broken_in t ≡ broken_in s
  broken : 1 ≤ times → broken_in t ≡ true
  once : times ≤ 1

broke_first : (one rest times : ℕ) (s left t : Store) → times ≡ one + rest → one ≡ 0 → broken_in left ≡ broken_in s → Broke left t rest → Broke s t times
broke_first one rest times s left t is none same broke = record {
  whole = λ no. broke.whole (omega (arith, is, none, no)) ∙ same;
  broken = λ some. broke.broken (omega (arith, is, none, some));
  once = let few = broke.once in omega (arith, is, none, few);
}

broke_now : (one rest times : ℕ) (s left t : Store) → times ≡ one + rest → one ≡ 1 → rest ≡ 0 → t ≡ left → broken_in left ≡ true → Broke s t times
broke_now one rest times s left t is some none same broken = record {
  whole = λ no. absurd (omega (arith, is, some, no));
  broken = λ more. ap broken_in same ∙ broken;
  once = omega (arith, is, some, none);
}

broke_by : (m : Made) (ms : List Made) (s : Store) → Breaks m.asked m.answer s → AreTaken (left_by m.asked m.answer s) ms
    → Broke (left_by m.asked m.answer s) (after_calls s (m ∷ ms)) (breaks_in (uses_of (left_by m.asked m.answer s) ms))
    → Broke s (after_calls s (m ∷ ms)) (breaks_in (uses_of s (m ∷ ms)))
broke_by m ms s (stays none same) taken rest =
    let left = left_by m.asked m.answer s in
    broke_first (break_by (call_of m.asked s) m.answer) (breaks_in (uses_of left ms)) (breaks_in (uses_of s (m ∷ ms))) s left (after_calls left ms)
    refl none same rest
broke_by m ms s (breaks one broken whole) taken rest =
    let left = left_by m.asked m.answer s in
    let all = all_refused ms left broken taken in
    broke_now (break_by (call_of m.asked s) m.answer) (breaks_in (uses_of left ms)) (breaks_in (uses_of s (m ∷ ms))) s left (after_calls left ms)
    refl one (none_break (uses_of left ms) all.refused) all.same broken

calls_broke : (ms : List Made) (s : Store) → AreTaken s ms → Broke s (after_calls s ms) (breaks_in (uses_of s ms))
calls_broke [] s taken = record { whole = λ no. refl; broken = λ some. absurd (omega (arith, some)); once = omega arith }
calls_broke (m ∷ ms) s taken =
    broke_by m ms s (one_breaks m.asked m.answer s taken.0) taken.1 (calls_broke ms (left_by m.asked m.answer s) taken.1)

-- ---- what was done in some calls

pub noted_are : (old new : Seat) (used more : List Used) (ran : Ran old new used (used ++ more)) → more ≡ uses_of old.store ran.calls
noted_are old new used more ran = append_cancel_left used more (uses_of old.store ran.calls) ran.noted

ran_broke : (old new : Seat) (used more : List Used) → Ran old new used (used ++ more) → Broke old.store new.store (breaks_in more)
ran_broke old new used more ran =
    subst (λ (us : List Used). Broke old.store new.store (breaks_in us)) (sym (noted_are old new used more ran))
    (subst (λ (t : Store). Broke old.store t (breaks_in (uses_of old.store ran.calls))) (sym ran.store) (calls_broke ran.calls old.store ran.taken))

pub ran_whole : (old new : Seat) (used more : List Used) → Ran old new used (used ++ more) → breaks_in more ≡ 0 → broken_in new.store ≡ broken_in old.store
ran_whole old new used more ran none = (ran_broke old new used more ran).whole none

pub ran_broken : (old new : Seat) (used more : List Used) → Ran old new used (used ++ more) → 1 ≤ breaks_in more → broken_in new.store ≡ true
ran_broken old new used more ran some = (ran_broke old new used more ran).broken some

pub ran_once : (old new : Seat) (used more : List Used) → Ran old new used (used ++ more) → breaks_in more ≤ 1
ran_once old new used more ran = (ran_broke old new used more ran).once

pub ran_refused : (old new : Seat) (used more : List Used) → Ran old new used (used ++ more) → broken_in old.store ≡ true
    → AreRefused more × (new.store ≡ old.store)
ran_refused old new used more ran broken =
    let all = all_refused ran.calls old.store broken ran.taken in
    (subst AreRefused (sym (noted_are old new used more ran)) all.refused, ran.store ∙ all.same)
