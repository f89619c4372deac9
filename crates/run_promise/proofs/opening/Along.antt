-- What is seen along the moments of a run: of its present opening, and of those before.
use Rattle.std.proofs.Common.{◌≡◌, ⊎_elim, ℕ, zero, suc, ◌+◌, ◌-◌, ◌<◌, ◌≤◌, ◌∙◌, List, [], Option, Some, None, refl, sym, ap, subst, arith}
use Rattle.std.specs.Prelude.{drop, slice_get}
use Rattle.std.proofs.lemmas.Bool.{cases_lt}
use Rattle.nfs_base.specs.declared.seal.End.TheVariants as ends
use Rattle.nfs_base.specs.declared.side.Side.TheVariants as sides
use Rattle.past_copies.specs.Past.{past_after}
use Rattle.run_promise.proofs.opening.Segments.{cut_shifted, get_behind, never_up_to, shifted, step_up_to, steps_behind, steps_up_to, world_up_to}
use Rattle.run_promise.specs.Opening.Openings.{IsOpening, StaysFor, began, begun_by, cut_at, cut_in, up_to_stop}
use Rattle.run_promise.specs.System.Moments.{world_at}
use Rattle.volume_stops.specs.declared.kept.Kept.{Kept}
use Rattle.wire_machine.specs.Ends.{Machines}
use Rattle.wire_machine.specs.History.{At, Seen, Telling, acts_in, at_moment, is_reported, jobs_after, lost_if, next, sees}
use Rattle.wire_machine.specs.Steps.{AreSteps, Step, cut_of}
use Rattle.wire_machine.specs.World.{World}
use Rattle.wire_model.specs.Copies.{Job}
use Rattle.wire_model.specs.Meaning.{Meaning}
use Rattle.wire_model.specs.Spelling.{Spelling}

-- ---- where the present opening began

pub begun_within : (o : Option Kept) (now before : ℕ) → before ≤ now → begun_by o now before ≤ now
begun_within None now before le = le
begun_within (Some kept) now before le = omega arith

module _ {S T C W : Type 0} (m : Machines S T C W) (tell : Telling S T) (spell : Spelling) (meaning : Meaning) where
  -- ---- in one step

  abbrev Moment : Type 0
  Moment = At m tell spell meaning

  abbrev on : Moment → Option (Step S T C W) → Moment
  on at o = next m tell spell meaning at o

  abbrev boot_of : T → ℕ
  boot_of d = (m.dest_volume d).boot

  -- the copies of an opening behind the step
  abbrev pub jobs_from : World S T C W → Step S T C W → List Job → List Job
  jobs_from before s jobs =
      jobs_after (tell.jobs s.after.dest) (is_reported spell meaning (acts_in tell before s.parts s.after ends.Dest)) (m.dest_volume s.after.dest).boot
      (tell.made s.after.dest) jobs

  past_on : (before : World S T C W) (s : Step S T C W) (seen : Seen) → cut_of sides.Dest before s ≡ None
      → (sees m tell spell meaning before s seen).past ≡ seen.past
  past_on before s seen none = ap (λ (o : Option Kept). (lost_if o (boot_of before.dest) seen).past) none

  pub jobs_on : (before : World S T C W) (s : Step S T C W) (seen : Seen) → cut_of sides.Dest before s ≡ None
      → (sees m tell spell meaning before s seen).jobs ≡ jobs_from before s seen.jobs
  jobs_on before s seen none = ap (λ (o : Option Kept). jobs_from before s (lost_if o (boot_of before.dest) seen).jobs) none

  pub past_cut : (before : World S T C W) (s : Step S T C W) (seen : Seen) (kept : Kept) → cut_of sides.Dest before s ≡ Some kept
      → (sees m tell spell meaning before s seen).past ≡ past_after (m.dest_volume before.dest).boot seen.past seen.jobs
  past_cut before s seen kept some = ap (λ (o : Option Kept). (lost_if o (boot_of before.dest) seen).past) some

  pub jobs_cut : (before : World S T C W) (s : Step S T C W) (seen : Seen) (kept : Kept) → cut_of sides.Dest before s ≡ Some kept
      → (sees m tell spell meaning before s seen).jobs ≡ jobs_from before s []
  jobs_cut before s seen kept some = ap (λ (o : Option Kept). jobs_from before s (lost_if o (boot_of before.dest) seen).jobs) some

  pub next_past : (at : At m tell spell meaning) (o : Option (Step S T C W)) → cut_in at.world o ≡ None
      → (next m tell spell meaning at o).seen.past ≡ at.seen.past
  next_past at None none = refl
  next_past at (Some s) none = past_on at.world s at.seen none

  pub next_jobs : (a b : At m tell spell meaning) (o : Option (Step S T C W)) → a.world ≡ b.world → cut_in b.world o ≡ None → a.seen.jobs ≡ b.seen.jobs
      → (next m tell spell meaning a o).seen.jobs ≡ (next m tell spell meaning b o).seen.jobs
  next_jobs a b None same none jobs = jobs
  next_jobs a b (Some s) same none jobs =
      jobs_on a.world s a.seen (ap (λ (w : World S T C W). cut_of sides.Dest w s) same ∙ none)
      ∙ ap (λ (w : World S T C W). jobs_from w s a.seen.jobs) same ∙ ap (jobs_from b.world s) jobs ∙ sym (jobs_on b.world s b.seen none)

  -- ---- at the moments of a run

  module _ (first : World S T C W) (steps : List (Step S T C W)) where
    abbrev at : ℕ → At m tell spell meaning
    at k = at_moment m tell spell meaning first steps k

    abbrev cut : ℕ → Option Kept
    cut k = cut_at m tell spell meaning first steps k

    abbrev began_at : ℕ → ℕ
    began_at k = began m tell spell meaning first steps k

    pub began_before : (k : ℕ) → began_at k ≤ k
    began_before zero = omega arith
    began_before (suc k) = let before = began_before k in begun_within (cut k) (suc k) (began_at k) (omega (arith, before))

    stays_on : (k : ℕ) (o : Option Kept) → cut k ≡ o → StaysFor m tell spell meaning first steps (began_at k) (k - began_at k)
        → StaysFor m tell spell meaning first steps (begun_by o (suc k) (began_at k)) (suc k - begun_by o (suc k) (began_at k))
    stays_on k None none stays l below =
        let before = began_before k in
        ⊎_elim (λ (earlier : l < k - began_at k). stays l earlier)
        (λ (last : k - began_at k ≤ l).
        let here : k ≡ began_at k + l = omega (arith, before, last, below) in
        subst (λ (n : ℕ). cut n ≡ None) here none)
        (cases_lt l (k - began_at k))
    stays_on k (Some kept) some stays l below = absurd (omega (arith, below))

    pub stays_since : (k : ℕ) → StaysFor m tell spell meaning first steps (began_at k) (k - began_at k)
    stays_since zero = λ l below. absurd (omega (arith, below))
    stays_since (suc k) = stays_on k (cut k) refl (stays_since k)

    -- behind the first moment a stop was before it
    behind_on : (k before : ℕ) (o : Option Kept) → cut k ≡ o → begun_by o (suc k) (began_at k) ≡ suc before
        → (began_at k ≡ suc before → (kept : Kept) × (cut before ≡ Some kept)) → (kept : Kept) × (cut before ≡ Some kept)
    behind_on k before None none is earlier = earlier is
    behind_on k before (Some kept) some is earlier =
        let here : k ≡ before = omega (arith, is) in
        (kept, subst (λ (n : ℕ). cut n ≡ Some kept) here some)

    pub stop_before : (k before : ℕ) → began_at k ≡ suc before → (kept : Kept) × (cut before ≡ Some kept)
    stop_before zero before is = absurd (omega (arith, is))
    stop_before (suc k) before is = behind_on k before (cut k) refl is (stop_before k before)

    -- what holds of the first moment and behind each stop holds where an opening begins
    opens_on : (P : ℕ → Type 0) (k : ℕ) (o : Option Kept) → cut k ≡ o → ((kept : Kept) → cut k ≡ Some kept → P (suc k)) → P (began_at k)
        → P (begun_by o (suc k) (began_at k))
    opens_on P k None none stop earlier = earlier
    opens_on P k (Some kept) some stop earlier = stop kept some

    pub at_opening : (P : ℕ → Type 0) → P 0 → ((before : ℕ) (kept : Kept) → cut before ≡ Some kept → P (suc before)) → (k : ℕ) → P (began_at k)
    at_opening P begin stop zero = begin
    at_opening P begin stop (suc k) = opens_on P k (cut k) refl (stop k) (at_opening P begin stop k)

    -- ---- an opening that began at a moment at which nothing was seen of it yet

    abbrev opened : ℕ → World S T C W
    opened b = world_at m tell spell meaning first steps b

    abbrev own : ℕ → List (Step S T C W)
    own b = up_to_stop (opened b) (drop b steps)

    stays_own : (b many : ℕ) → StaysFor m tell spell meaning first steps b many → (l : ℕ) → l < many
        → cut_at m tell spell meaning (opened b) (drop b steps) l ≡ None
    stays_own b many stays l below = cut_shifted m tell spell meaning first steps b l ∙ stays l below

    step_along : (b i : ℕ) → StaysFor m tell spell meaning first steps b (suc i) → slice_get (own b) i ≡ slice_get steps (b + i)
    step_along b i stays = step_up_to m tell spell meaning (opened b) (drop b steps) i (stays_own b (suc i) stays) ∙ get_behind steps b i

    world_along : (b i : ℕ) → StaysFor m tell spell meaning first steps b i → world_at m tell spell meaning (opened b) (own b) i ≡ opened (b + i)
    world_along b i stays = world_up_to m tell spell meaning (opened b) (drop b steps) i (stays_own b i stays) ∙ shifted m tell spell meaning first steps b i

    fewer : (b many : ℕ) → StaysFor m tell spell meaning first steps b (suc many) → StaysFor m tell spell meaning first steps b many
    fewer b many stays l below = stays l (omega (arith, below))

    jobs_along : (b i : ℕ) → (at b).seen.jobs ≡ [] → StaysFor m tell spell meaning first steps b i
        → (at_moment m tell spell meaning (opened b) (own b) i).seen.jobs ≡ (at (b + i)).seen.jobs
    jobs_along b zero fresh stays = let number : b ≡ b + 0 = omega arith in sym fresh ∙ ap (λ (n : ℕ). (at n).seen.jobs) number
    jobs_along b (suc i) fresh stays =
        let number : suc (b + i) ≡ b + suc i = omega arith in
        ap (λ (o : Option (Step S T C W)). (on (at_moment m tell spell meaning (opened b) (own b) i) o).seen.jobs) (step_along b i stays)
        ∙ next_jobs (at_moment m tell spell meaning (opened b) (own b) i) (at (b + i)) (slice_get steps (b + i)) (world_along b i (fewer b i stays))
        (stays i (omega arith)) (jobs_along b i fresh (fewer b i stays))
        ∙ ap (λ (n : ℕ). (at n).seen.jobs) number

    past_along : (b i : ℕ) → StaysFor m tell spell meaning first steps b i → (at (b + i)).seen.past ≡ (at b).seen.past
    past_along b zero stays = let number : b + 0 ≡ b = omega arith in ap (λ (n : ℕ). (at n).seen.past) number
    past_along b (suc i) stays =
        let number : b + suc i ≡ suc (b + i) = omega arith in
        ap (λ (n : ℕ). (at n).seen.past) number ∙ next_past (at (b + i)) (slice_get steps (b + i)) (stays i (omega arith)) ∙ past_along b i (fewer b i stays)

    pub is_opening : AreSteps m first steps → ((k : ℕ) (kept : Kept) → cut k ≡ Some kept → (at (suc k)).seen.jobs ≡ []) → (k : ℕ)
        → IsOpening m tell spell meaning first steps k
    is_opening are fresh k =
        let b = began_at k in
        record {
          before = began_before k;
          stays = stays_since k;
          are = steps_up_to m tell spell meaning (opened b) (drop b steps) (steps_behind m tell spell meaning first steps b are);
          never = never_up_to m tell spell meaning (opened b) (drop b steps);
          step = step_along b;
          world = world_along b;
          jobs = λ i stays. jobs_along b i (at_opening (λ (n : ℕ). (at n).seen.jobs ≡ []) refl fresh k) stays;
          past = past_along b;
        }
