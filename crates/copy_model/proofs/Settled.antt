-- A byte of a copy that a commit made safe has one value from then on, which the source held.
use Rattle.std.proofs.Common.{◌≡◌, ⊎_elim, ℕ, zero, suc, ◌+◌, ◌-◌, ◌<◌, ◌≤◌, true, false, sym, ◌∙◌, subst, arith}
use Rattle.std.proofs.lemmas.Bool.{both_ways, cases_Bool, cases_lt}
use Rattle.copy_model.specs.Job.{Plan}
use Rattle.copy_model.specs.Moment.{History}
use Rattle.copy_model.specs.Promise.{InRange, IsAcceptedBy, IsCompletedBy, IsStableBy, LandsAt, Reaches, IsTouched, Held, IsStill, IsDuring, source_byte, Shows, IsSettled}
use Rattle.copy_model.specs.Laws.{Progress, IsLawfulRun}
use Rattle.copy_model.proofs.Later.{from_on, accepted_on, none_at_start, completed_on, plan_on, len_fixed, range_grows, touched_on}
use Rattle.copy_model.proofs.Untouched.{lands_of, unreached, landed_held}

module _ (h : History) (progress : ℕ → ℕ → Progress) (lawful : IsLawfulRun h progress) where
  -- the step that made a copy durable
  rose : (j s : ℕ) → (progress s j).durable ≡ true
      → (k : ℕ) × (k < s) × ((progress k j).durable ≡ false) × ((progress (suc k) j).durable ≡ true)
  rose j zero durable =
      absurd (none_at_start h progress lawful j ((lawful.moments 0).completed_made j ((lawful.moments 0).durable j durable)))
  rose j (suc k) durable =
      ⊎_elim
      (λ before. let found = rose j k before in (found.0, omega arith, found.2, found.3))
      (λ not_yet. (k, omega arith, not_yet, durable))
      (cases_Bool (progress k j).durable)

  -- a completed copy lands nothing more
  completed_rests : (j k place : ℕ) → IsCompletedBy h j k → LandsAt (h (suc k)).did j ((h (suc k)).copy j).plan place → ⊥
  completed_rests j k place completed lands =
      both_ways _ ((lawful.moments k).completed j completed) ((lawful.steps k).live j (lands_of (h (suc k)).did j _ place lands)).1

  -- no step reaches an untouched place of a completed copy
  completed_unreached : (j i k place : ℕ) → i ≤ k → IsCompletedBy h j i → InRange ((h i).copy j) place
      → (IsTouched h j ((h i).copy j).plan place (suc k) → ⊥) → Reaches (h (suc k)) ((h i).copy j).plan.dst_file place → ⊥
  completed_unreached j i k place le completed within =
      let accepted = (lawful.moments i).completed_made j completed in
      subst
      (λ (p : Plan). (IsTouched h j p place (suc k) → ⊥) → Reaches (h (suc k)) p.dst_file place → ⊥)
      (plan_on h progress lawful j i (suc k) (omega arith) accepted)
      (λ untouched. unreached h progress lawful j k place (accepted_on h progress lawful j i k le accepted) (range_grows h progress lawful j i (suc k) place (omega arith) accepted within) untouched (completed_rests j k place (completed_on h progress lawful j i k le completed)))

  -- what a place of a completed copy shows at i is all that it shows later, while it is untouched
  stays_on : (j i place value : ℕ) → IsCompletedBy h j i → InRange ((h i).copy j) place
      → ((x : ℕ) → Shows (h i).dest ((h i).copy j).plan.dst_file place x → x ≡ value)
      → (k : ℕ) → i ≤ k → (IsTouched h j ((h i).copy j).plan place k → ⊥)
      → (x : ℕ) → Shows (h k).dest ((h i).copy j).plan.dst_file place x → x ≡ value
  stays_on j i place value completed within here =
      let plan = ((h i).copy j).plan in
      from_on
      (λ n. (IsTouched h j plan place n → ⊥) → (x : ℕ) → Shows (h n).dest plan.dst_file place x → x ≡ value)
      i
      (λ untouched. here)
      (λ n after so_far untouched x shows.
      so_far
      (λ touched. untouched (touched_on h progress lawful j plan place n (suc n) (omega arith) touched))
      x
      ((lawful.steps n).shown plan.dst_file place x (completed_unreached j i n place after completed within untouched) shows))

  -- where the source file stood still, one held value is the value of each moment
  same_always : (j place value : ℕ) (plan : Plan) → Held h j plan place value → IsStill h j plan
      → (i : ℕ) → IsDuring h j i → (h i).source.broken ≡ false → source_byte (h i) plan place ≡ value
  same_always j place value plan held still i during readable =
      lawful.same_change i held.moment plan.src_file _ readable held.readable (still i held.moment during held.during) ∙ held.byte

  -- a byte is settled by the step that makes its copy durable
  settles_byte : (j k q : ℕ) → (progress k j).durable ≡ false → (progress (suc k) j).durable ≡ true
      → q < ((h (suc k)).copy j).len
      → (s : ℕ) → k < s → (IsTouched h j ((h (suc k)).copy j).plan (((h (suc k)).copy j).plan.dst_off + q) s → ⊥)
      → IsSettled h j ((h (suc k)).copy j).plan s (((h (suc k)).copy j).plan.dst_off + q)
  settles_byte j k q not_yet durable within s after untouched =
      let plan = ((h (suc k)).copy j).plan in
      let place = plan.dst_off + q in
      let value = (h k).dest.now plan.dst_file place in
      let completed = (lawful.moments (suc k)).durable j durable in
      let law = (lawful.steps k).settles j not_yet durable in
      let accepted = was_accepted completed in
      let held_before = subst (λ (p : Plan). (IsTouched h j p (p.dst_off + q) k → ⊥) → Held h j p (p.dst_off + q) ((h k).dest.now p.dst_file (p.dst_off + q))) (sym ((lawful.steps k).copies j accepted).plan) (landed_held h progress lawful k j q accepted law.intact law.readable (law.landed q within)) in
      let held = held_before (λ touched. untouched (touched_on h progress lawful j plan place k s (omega arith) touched)) in
      record {
        value = value;
        held = held;
        stays = λ m le untouched_then. stays_on j (suc k) place value completed (omega arith, omega arith) (λ x shows. law.shows q x within shows) m (omega arith) untouched_then;
        exact = same_always j place value plan held;
      }
    where
      was_accepted : IsCompletedBy h j (suc k) → IsAcceptedBy h j k
      was_accepted completed =
          ⊎_elim (λ (before : j < (h k).made). before) (λ new. absurd (both_ways _ ((lawful.steps k).fresh j new).1 completed)) (cases_lt j (h k).made)

  pub stable_settled : (j s k place : ℕ) → IsStableBy h j s → InRange ((h s).copy j) place → s ≤ k
      → (IsTouched h j ((h s).copy j).plan place k → ⊥) → IsSettled h j ((h s).copy j).plan s place
  stable_settled j s k place stable within le untouched =
      let step = rose j s ((lawful.moments s).stable j stable) in
      let completed = (lawful.moments (suc step.0)).durable j step.3 in
      let accepted = (lawful.moments (suc step.0)).completed_made j completed in
      let same_plan = plan_on h progress lawful j (suc step.0) s step.1 accepted in
      let same_len = len_fixed h progress lawful j (suc step.0) s step.1 completed in
      let plan = ((h s).copy j).plan in
      let there : plan.dst_off + (place - plan.dst_off) ≡ place = omega arith in
      let below : place - plan.dst_off < ((h (suc step.0)).copy j).len = omega arith in
      let untouched_there : IsTouched h j plan (plan.dst_off + (place - plan.dst_off)) s → ⊥ = λ touched. untouched (touched_on h progress lawful j plan place s k le (subst (λ p. IsTouched h j plan p s) there touched)) in
      let settled = subst (λ (p : Plan). ((q : ℕ) → q < ((h (suc step.0)).copy j).len → (IsTouched h j p (p.dst_off + q) s → ⊥) → IsSettled h j p s (p.dst_off + q))) (sym same_plan) (λ q less. settles_byte j step.0 q step.2 step.3 less s step.1) in
      subst (IsSettled h j plan s) there (settled (place - plan.dst_off) below untouched_there)
