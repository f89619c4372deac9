-- Steps up to the first in which the destination stops, as a run of their own.
use Rattle.std.proofs.Common.{◌≡◌, ℕ, zero, suc, ◌+◌, ◌<◌, ◌≤◌, ◌∙◌, List, [], ◌∷◌, length, Option, Some, None, refl, sym, ap, subst, arith}
use Rattle.std.specs.Prelude.{drop, slice_get}
use Rattle.nfs_base.specs.declared.side.Side.TheVariants as sides
use Rattle.run_promise.specs.Opening.Openings.{cut_at, cut_in, unless_cut, up_to_stop}
use Rattle.run_promise.specs.System.Moments.{later, next_same, world_at}
use Rattle.volume_stops.specs.declared.kept.Kept.{Kept}
use Rattle.wire_machine.specs.Ends.{Machines}
use Rattle.wire_machine.specs.History.{Telling, at_moment, next}
use Rattle.wire_machine.specs.Steps.{AreSteps, IsStep, NeverStops, Step, cut_of}
use Rattle.wire_machine.specs.World.{World}
use Rattle.wire_model.specs.Meaning.{Meaning}
use Rattle.wire_model.specs.Spelling.{Spelling}

-- ---- a list behind its first few

pub get_behind : {X : Type 0} (xs : List X) (b l : ℕ) → slice_get (drop b xs) l ≡ slice_get xs (b + l)
get_behind xs zero l = ap (slice_get xs) (omega arith)
get_behind [] (suc b) l = refl
get_behind (x ∷ xs) (suc b) l =
    let number : suc (b + l) ≡ suc b + l = omega arith in
    get_behind xs b l ∙ ap (λ (n : ℕ). slice_get (x ∷ xs) n) number

module _ {S T C W : Type 0} (m : Machines S T C W) (tell : Telling S T) (spell : Spelling) (meaning : Meaning) where
  abbrev world : World S T C W → List (Step S T C W) → ℕ → World S T C W
  world first steps k = world_at m tell spell meaning first steps k

  abbrev cut : World S T C W → List (Step S T C W) → ℕ → Option Kept
  cut first steps k = cut_at m tell spell meaning first steps k

  -- ---- from a later moment on

  rests : (first : World S T C W) (k : ℕ) → world first [] k ≡ first
  rests first zero = refl
  rests first (suc k) = rests first k

  pub shifted : (first : World S T C W) (steps : List (Step S T C W)) (b l : ℕ) → world (world first steps b) (drop b steps) l ≡ world first steps (b + l)
  shifted first steps zero l = let number : l ≡ 0 + l = omega arith in ap (world first steps) number
  shifted first [] (suc b) l = rests (world first [] (suc b)) l ∙ rests first (suc b) ∙ sym (rests first (suc b + l))
  shifted first (s ∷ steps) (suc b) l =
      let number : suc (b + l) ≡ suc b + l = omega arith in
      ap (λ (w : World S T C W). world w (drop b steps) l) (later m tell spell meaning first s steps b) ∙ shifted s.after steps b l
      ∙ sym (later m tell spell meaning first s steps (b + l)) ∙ ap (world first (s ∷ steps)) number

  pub cut_shifted : (first : World S T C W) (steps : List (Step S T C W)) (b l : ℕ) → cut (world first steps b) (drop b steps) l ≡ cut first steps (b + l)
  cut_shifted first steps b l =
      ap (λ (w : World S T C W). cut_in w (slice_get (drop b steps) l)) (shifted first steps b l)
      ∙ ap (λ (o : Option (Step S T C W)). cut_in (world first steps (b + l)) o) (get_behind steps b l)

  pub steps_behind : (first : World S T C W) (steps : List (Step S T C W)) (b : ℕ) → AreSteps m first steps → AreSteps m (world first steps b) (drop b steps)
  steps_behind first steps zero are = are
  steps_behind first [] (suc b) are = tt
  steps_behind first (s ∷ steps) (suc b) are =
      subst (λ (w : World S T C W). AreSteps m w (drop b steps)) (sym (later m tell spell meaning first s steps b)) (steps_behind s.after steps b are.1)

  -- ---- up to the first stop

  unless_steps : (o : Option Kept) (before : World S T C W) (s : Step S T C W) (more : List (Step S T C W)) → IsStep m before s → AreSteps m s.after more
      → AreSteps m before (unless_cut o s more)
  unless_steps None before s more step are = (step, are)
  unless_steps (Some kept) before s more step are = tt

  pub steps_up_to : (before : World S T C W) (steps : List (Step S T C W)) → AreSteps m before steps → AreSteps m before (up_to_stop before steps)
  steps_up_to before [] are = tt
  steps_up_to before (s ∷ steps) are =
      unless_steps (cut_of sides.Dest before s) before s (up_to_stop s.after steps) are.0 (steps_up_to s.after steps are.1)

  unless_never : (o : Option Kept) (before : World S T C W) (s : Step S T C W) (more : List (Step S T C W)) → cut_of sides.Dest before s ≡ o
      → NeverStops sides.Dest s.after more → NeverStops sides.Dest before (unless_cut o s more)
  unless_never None before s more none never = (none, never)
  unless_never (Some kept) before s more some never = tt

  pub never_up_to : (before : World S T C W) (steps : List (Step S T C W)) → NeverStops sides.Dest before (up_to_stop before steps)
  never_up_to before [] = tt
  never_up_to before (s ∷ steps) =
      unless_never (cut_of sides.Dest before s) before s (up_to_stop s.after steps) refl (never_up_to s.after steps)

  -- it doesn't stop at its first so many moments
  abbrev pub Stays : World S T C W → List (Step S T C W) → ℕ → Type 0
  Stays first steps many = (l : ℕ) → l < many → cut first steps l ≡ None

  -- so at those of the rest
  cut_later : (before : World S T C W) (s : Step S T C W) (steps : List (Step S T C W)) (l : ℕ) → cut before (s ∷ steps) (suc l) ≡ cut s.after steps l
  cut_later before s steps l = ap (λ (w : World S T C W). cut_in w (slice_get steps l)) (later m tell spell meaning before s steps l)

  stays_later : (before : World S T C W) (s : Step S T C W) (steps : List (Step S T C W)) (many : ℕ)
      → Stays before (s ∷ steps) (suc many) → Stays s.after steps many
  stays_later before s steps many stays l below = sym (cut_later before s steps l) ∙ stays (suc l) (omega (arith, below))

  -- the steps are the same up to there
  pub step_up_to : (before : World S T C W) (steps : List (Step S T C W)) (i : ℕ) → Stays before steps (suc i)
      → slice_get (up_to_stop before steps) i ≡ slice_get steps i
  step_up_to before [] i stays = refl
  step_up_to before (s ∷ steps) zero stays =
      ap (λ (o : Option Kept). slice_get (unless_cut o s (up_to_stop s.after steps)) 0) (stays 0 (omega arith))
  step_up_to before (s ∷ steps) (suc i) stays =
      ap (λ (o : Option Kept). slice_get (unless_cut o s (up_to_stop s.after steps)) (suc i)) (stays 0 (omega arith))
      ∙ step_up_to s.after steps i (stays_later before s steps (suc i) stays)

  fewer : (first : World S T C W) (steps : List (Step S T C W)) (many : ℕ) → Stays first steps (suc many) → Stays first steps many
  fewer first steps many stays l below = stays l (omega (arith, below))

  -- and the worlds
  pub world_up_to : (before : World S T C W) (steps : List (Step S T C W)) (i : ℕ) → Stays before steps i
      → world before (up_to_stop before steps) i ≡ world before steps i
  world_up_to before steps zero stays = refl
  world_up_to before steps (suc i) stays =
      next_same m tell spell meaning (at_moment m tell spell meaning before (up_to_stop before steps) i) (at_moment m tell spell meaning before steps i)
      (slice_get (up_to_stop before steps) i) (world_up_to before steps i (fewer before steps i stays))
      ∙ ap (λ (o : Option (Step S T C W)). (next m tell spell meaning (at_moment m tell spell meaning before steps i) o).world)
      (step_up_to before steps i stays)

  -- ---- where it ends

  -- it doesn't stop before
  unless_stays : (o : Option Kept) (before : World S T C W) (s : Step S T C W) (steps : List (Step S T C W)) (l : ℕ) → cut_of sides.Dest before s ≡ o
      → ((i : ℕ) → i < length (up_to_stop s.after steps) → cut s.after steps i ≡ None) → l < length (unless_cut o s (up_to_stop s.after steps))
      → cut before (s ∷ steps) l ≡ None
  unless_stays None before s steps zero none later below = none
  unless_stays None before s steps (suc l) none later below = cut_later before s steps l ∙ later l (omega (arith, below))
  unless_stays (Some kept) before s steps l some later below = absurd (omega (arith, below))

  pub stays_up_to : (before : World S T C W) (steps : List (Step S T C W)) (l : ℕ) → l < length (up_to_stop before steps)
      → cut before steps l ≡ None
  stays_up_to before [] l below = absurd (omega (arith, below))
  stays_up_to before (s ∷ steps) l below = unless_stays (cut_of sides.Dest before s) before s steps l refl (stays_up_to s.after steps) below

  -- a run that never stops doesn't at any moment
  pub never_cut : (first : World S T C W) (steps : List (Step S T C W)) (l : ℕ) → NeverStops sides.Dest first steps → cut first steps l ≡ None
  never_cut first [] l never = refl
  never_cut first (s ∷ steps) zero never = never.0
  never_cut first (s ∷ steps) (suc l) never = cut_later first s steps l ∙ never_cut s.after steps l never.1

  -- no stop cuts it off that isn't there
  unless_all : (o : Option Kept) (before : World S T C W) (s : Step S T C W) (steps : List (Step S T C W)) → cut_of sides.Dest before s ≡ o
      → (cut s.after steps (length (up_to_stop s.after steps)) ≡ None → length steps ≤ length (up_to_stop s.after steps))
      → cut before (s ∷ steps) (length (unless_cut o s (up_to_stop s.after steps))) ≡ None
      → suc (length steps) ≤ length (unless_cut o s (up_to_stop s.after steps))
  unless_all None before s steps is all none =
      let rest = all (sym (cut_later before s steps (length (up_to_stop s.after steps))) ∙ none) in
      omega (arith, rest)
  unless_all (Some kept) before s steps is all none = absurd (let both : Some kept ≡ None = sym is ∙ none in cc)

  pub all_up_to : (before : World S T C W) (steps : List (Step S T C W)) → cut before steps (length (up_to_stop before steps)) ≡ None
      → length steps ≤ length (up_to_stop before steps)
  all_up_to before [] none = omega arith
  all_up_to before (s ∷ steps) none =
      unless_all (cut_of sides.Dest before s) before s steps refl (all_up_to s.after steps) none
