-- What a lawful run keeps from a moment to later ones: the marks, plans and ranges of its copies.
use Rattle.std.proofs.Common.{◌≡◌, ◌⊎◌, inl, inr, ⊎_elim, ℕ, zero, suc, ◌≤◌, true, refl, ◌∙◌, ap, subst, arith}
use Rattle.std.proofs.lemmas.Bool.{both_ways, false_from_ne_true}
use Rattle.copy_model.specs.Job.{Plan}
use Rattle.copy_model.specs.Moment.{History}
use Rattle.copy_model.specs.Promise.{InRange, IsAcceptedBy, IsCompletedBy, IsStableBy, IsStoppedBy, IsDuring, IsTouched}
use Rattle.copy_model.specs.Laws.{Progress, IsLawfulRun}

pub at_or_before : (i k : ℕ) → i ≤ suc k → (i ≤ k) ⊎ (i ≡ suc k)
at_or_before i k le = grind arith

-- what holds at i and goes on holds from i on
pub from_on : (P : ℕ → Type 0) (i : ℕ) → P i → ((k : ℕ) → i ≤ k → P k → P (suc k)) → (k : ℕ) → i ≤ k → P k
from_on P i here goes zero le = subst P (omega arith) here
from_on P i here goes (suc k) le =
    ⊎_elim (λ before. goes k before (from_on P i here goes k before)) (λ now. subst P now here) (at_or_before i k le)

module _ (h : History) (progress : ℕ → ℕ → Progress) (lawful : IsLawfulRun h progress) where
  pub accepted_on : (j i k : ℕ) → i ≤ k → IsAcceptedBy h j i → IsAcceptedBy h j k
  accepted_on j i k le accepted =
      from_on (λ n. IsAcceptedBy h j n) i accepted (λ n after so_far. let grows = (lawful.steps n).made in omega arith) k le

  -- nothing is accepted at the first moment
  pub none_at_start : (j : ℕ) → IsAcceptedBy h j 0 → ⊥
  none_at_start j accepted = let none = lawful.start.none in omega arith

  pub completed_on : (j i k : ℕ) → i ≤ k → IsCompletedBy h j i → IsCompletedBy h j k
  completed_on j i k le completed =
      from_on (λ n. IsCompletedBy h j n) i completed (λ n after so_far. ((lawful.steps n).copies j ((lawful.moments n).completed_made j so_far)).completed so_far) k le

  pub stopped_on : (j i k : ℕ) → i ≤ k → IsStoppedBy h j i → IsStoppedBy h j k
  stopped_on j i k le stopped =
      from_on (λ n. IsStoppedBy h j n) i stopped (λ n after so_far. ((lawful.steps n).copies j ((lawful.moments n).stopped_made j so_far)).stopped so_far) k le

  pub stable_on : (j k : ℕ) → IsStableBy h j k → IsStableBy h j (suc k)
  stable_on j k stable =
      ((lawful.steps k).copies j ((lawful.moments k).completed_made j ((lawful.moments k).durable j ((lawful.moments k).stable j stable)))).stable stable

  pub plan_on : (j i k : ℕ) → i ≤ k → IsAcceptedBy h j i → ((h k).copy j).plan ≡ ((h i).copy j).plan
  plan_on j i k le accepted =
      from_on (λ n. ((h n).copy j).plan ≡ ((h i).copy j).plan) i refl (λ n after so_far. ((lawful.steps n).copies j (accepted_on j i n after accepted)).plan ∙ so_far) k le

  len_grows : (j i k : ℕ) → i ≤ k → IsAcceptedBy h j i → ((h i).copy j).len ≤ ((h k).copy j).len
  len_grows j i k le accepted =
      from_on (λ n. ((h i).copy j).len ≤ ((h n).copy j).len) i (omega arith) (λ n after so_far. let grows = ((lawful.steps n).copies j (accepted_on j i n after accepted)).grows in omega arith) k le

  pub len_fixed : (j i k : ℕ) → i ≤ k → IsCompletedBy h j i → ((h k).copy j).len ≡ ((h i).copy j).len
  len_fixed j i k le completed =
      from_on (λ n. ((h n).copy j).len ≡ ((h i).copy j).len) i refl (λ n after so_far. let now = completed_on j i n after completed in ((lawful.steps n).copies j ((lawful.moments n).completed_made j now)).fixed now ∙ so_far) k le

  -- a copy that is live was live since its acceptance
  was_live : (j i k : ℕ) → i ≤ k → IsAcceptedBy h j i → (progress k j).live ≡ true → (progress i j).live ≡ true
  was_live j i k le accepted =
      from_on (λ n. (progress n j).live ≡ true → (progress i j).live ≡ true) i (λ live. live) (λ n after so_far live. so_far (((lawful.steps n).copies j (accepted_on j i n after accepted)).live live)) k le

  pub range_grows : (j i k place : ℕ) → i ≤ k → IsAcceptedBy h j i → InRange ((h i).copy j) place → InRange ((h k).copy j) place
  range_grows j i k place le accepted within =
      let same = ap (λ (p : Plan). p.dst_off) (plan_on j i k le accepted) in
      let longer = len_grows j i k le accepted in
      (omega arith, omega arith)

  -- while a copy is live, each moment from its acceptance to the next step is during the copy
  pub during_live : (j i k : ℕ) → i ≤ suc k → IsAcceptedBy h j i → (progress k j).live ≡ true → IsDuring h j i
  during_live j i k le accepted live =
      (accepted, λ l before. false_from_ne_true _ (λ completed. both_ways _ ((lawful.moments l).completed j completed) (was_live j l k (omega arith) ((lawful.moments l).completed_made j completed) live)))

  -- a place that is touched stays so
  pub touched_on : (j : ℕ) (plan : Plan) (place i k : ℕ) → i ≤ k → IsTouched h j plan place i → IsTouched h j plan place k
  touched_on j plan place i k le (inl written) = inl (written.0, omega arith, written.2, written.3)
  touched_on j plan place i k le (inr later) =
      inr (later.0, later.1, accepted_on later.0 i k le later.2, ap (λ (p : Plan). p.dst_file) (plan_on later.0 i k le later.2) ∙ later.3, range_grows later.0 i k place le later.2 later.4)
