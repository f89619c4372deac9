-- What calls leave of a byte that none of them writes.
use Rattle.std.proofs.Common.{◌≡◌, inl, inr, ℕ, ◌≤◌, List, [], ◌∷◌, ◌++◌, length, drop, refl, sym, ap, subst, ◌∙◌, arith}
use Rattle.std.proofs.Math.Seq.{drop-append_seam}
use Rattle.std.proofs.lemmas.List.{drop-append-le, length-append}
use Rattle.server_volume.specs.Calls.{left_by}
use Rattle.server_volume.specs.Moments.{AreTaken, Made, after_calls, uses_of}
use Rattle.server_volume.specs.Store.{Store}
use Rattle.server_volume.specs.declared.used.Used.{Used}
use Rattle.commit_laws.specs.Calling.{CameByCalls}
use Rattle.commit_laws.specs.Commits.{AreWriting}
use Rattle.commit_laws.proofs.Volumes.{EffectLaws, Holds, IsFit, ShowsOnly, left_boot, left_fit, left_holds, left_shows}

-- ---- where calls write in two parts

pub writes_first : (us vs : List Used) (file place : ℕ) → AreWriting us file place → AreWriting (us ++ vs) file place
writes_first [] vs file place h = absurd h
writes_first (u ∷ us) vs file place (inl here) = inl here
writes_first (u ∷ us) vs file place (inr later) = inr (writes_first us vs file place later)

pub writes_second : (us vs : List Used) (file place : ℕ) → AreWriting vs file place → AreWriting (us ++ vs) file place
writes_second [] vs file place h = h
writes_second (u ∷ us) vs file place h = inr (writes_second us vs file place h)

after_boot : (s : Store) (ms : List Made) → (after_calls s ms).volume.boot ≡ s.volume.boot
after_boot s [] = refl
after_boot s (m ∷ ms) = after_boot (left_by m.asked m.answer s) ms ∙ left_boot m.asked m.answer s

pub came_boot : (old new : Store) (used more : List Used) → CameByCalls old new used more → new.volume.boot ≡ old.volume.boot
came_boot old new used more came = ap (λ (s : Store). s.volume.boot) came.store ∙ after_boot old came.calls

-- the calls of this part alone
pub part_writes : (old new : Store) (used more : List Used) (came : CameByCalls old new used more) (file place : ℕ)
    → AreWriting (uses_of old came.calls) file place → AreWriting more file place
part_writes old new used more came file place h =
    subst (λ (us : List Used). AreWriting us file place) (sym came.noted) (writes_second used (uses_of old came.calls) file place h)

pub part_behind : (old new : Store) (used more : List Used) (came : CameByCalls old new used more) (file place : ℕ)
    → AreWriting (uses_of old came.calls) file place → AreWriting (drop (length used) more) file place
part_behind old new used more came file place h =
    let is : drop (length used) more ≡ uses_of old came.calls =
    ap (λ (us : List Used). drop (length used) us) came.noted ∙ drop-append_seam used (uses_of old came.calls) in
    subst (λ (us : List Used). AreWriting us file place) (sym is) h

-- calls that came before write what all of them do
pub earlier_writes : (old new : Store) (used more : List Used) → CameByCalls old new used more → (file place : ℕ) → AreWriting used file place → AreWriting more file place
earlier_writes old new used more came file place h =
    subst (λ (us : List Used). AreWriting us file place) (sym came.noted) (writes_first used (uses_of old came.calls) file place h)

-- calls only add to what is noted
pub came_longer : (old new : Store) (used more : List Used) → CameByCalls old new used more → length used ≤ length more
came_longer old new used more came =
    omega (arith, length-append used (uses_of old came.calls), ap (λ (us : List Used). length us) came.noted)

-- what is written behind these calls, in the first part of all of them or in the second, is written behind them
pub behind_first : (old new : Store) (before some all : List Used) → length before ≤ length some → CameByCalls old new some all → (file place : ℕ)
    → AreWriting (drop (length before) some) file place → AreWriting (drop (length before) all) file place
behind_first old new before some all short came file place h =
    let is : drop (length before) all ≡ drop (length before) some ++ uses_of old came.calls =
    ap (λ (us : List Used). drop (length before) us) came.noted ∙ drop-append-le (length before) some (uses_of old came.calls) short in
    subst (λ (us : List Used). AreWriting us file place) (sym is) (writes_first (drop (length before) some) (uses_of old came.calls) file place h)

pub behind_second : (old new : Store) (before some all : List Used) → length before ≤ length some → (came : CameByCalls old new some all) → (file place : ℕ)
    → AreWriting (uses_of old came.calls) file place → AreWriting (drop (length before) all) file place
behind_second old new before some all short came file place h =
    let is : drop (length before) all ≡ drop (length before) some ++ uses_of old came.calls =
    ap (λ (us : List Used). drop (length before) us) came.noted ∙ drop-append-le (length before) some (uses_of old came.calls) short in
    subst (λ (us : List Used). AreWriting us file place) (sym is) (writes_second (drop (length before) some) (uses_of old came.calls) file place h)

module _ (laws : EffectLaws) where
  after_fit : (s : Store) (ms : List Made) → AreTaken s ms → IsFit s.volume → IsFit (after_calls s ms).volume
  after_fit s [] taken fit = fit
  after_fit s (m ∷ ms) taken fit = after_fit (left_by m.asked m.answer s) ms taken.1 (left_fit laws m.asked m.answer s taken.0 fit)

  pub came_fit : (old new : Store) (used more : List Used) → CameByCalls old new used more → IsFit old.volume → IsFit new.volume
  came_fit old new used more came fit = subst (λ (s : Store). IsFit s.volume) (sym came.store) (after_fit old came.calls came.taken fit)

  module _ (file place value : ℕ) where
    after_holds : (s : Store) (ms : List Made) → AreTaken s ms → IsFit s.volume → (AreWriting (uses_of s ms) file place → ⊥)
        → Holds s.volume file place value → Holds (after_calls s ms).volume file place value
    after_holds s [] taken fit out holds = holds
    after_holds s (m ∷ ms) taken fit out holds =
        after_holds (left_by m.asked m.answer s) ms taken.1 (left_fit laws m.asked m.answer s taken.0 fit) (λ h. out (inr h))
        (left_holds laws m.asked m.answer s file place value taken.0 fit (λ h. out (inl h)) holds)

    after_shows : (s : Store) (ms : List Made) → AreTaken s ms → IsFit s.volume → (AreWriting (uses_of s ms) file place → ⊥)
        → ShowsOnly s.volume file place value → ShowsOnly (after_calls s ms).volume file place value
    after_shows s [] taken fit out only = only
    after_shows s (m ∷ ms) taken fit out only =
        after_shows (left_by m.asked m.answer s) ms taken.1 (left_fit laws m.asked m.answer s taken.0 fit) (λ h. out (inr h))
        (left_shows laws m.asked m.answer s file place value taken.0 fit (λ h. out (inl h)) only)

    pub came_holds : (old new : Store) (used more : List Used) (came : CameByCalls old new used more) → IsFit old.volume
        → (AreWriting (uses_of old came.calls) file place → ⊥) → Holds old.volume file place value → Holds new.volume file place value
    came_holds old new used more came fit out holds =
        subst (λ (s : Store). Holds s.volume file place value) (sym came.store) (after_holds old came.calls came.taken fit out holds)

    pub came_shows : (old new : Store) (used more : List Used) (came : CameByCalls old new used more) → IsFit old.volume
        → (AreWriting (uses_of old came.calls) file place → ⊥) → ShowsOnly old.volume file place value → ShowsOnly new.volume file place value
    came_shows old new used more came fit out only =
        subst (λ (s : Store). ShowsOnly s.volume file place value) (sym came.store) (after_shows old came.calls came.taken fit out only)
