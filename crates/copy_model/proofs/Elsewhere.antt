-- What a lawful run does outside the ranges of its copies, and after their stops.
use Rattle.std.proofs.Common.{◌≡◌, inl, inr, ⊎_elim, ℕ, zero, suc, ◌<◌, ◌≤◌, true, ◌∙◌, ap, arith}
use Rattle.std.proofs.lemmas.Bool.{both_ways}
use Rattle.copy_model.specs.Job.{Plan}
use Rattle.copy_model.specs.Moment.{History}
use Rattle.copy_model.specs.Promise.{IsCompletedBy, IsStoppedBy, LandsAt, WritesTo, Reaches, IsAlike, IsOutside, Shows}
use Rattle.copy_model.specs.Laws.{Progress, IsLawfulRun}
use Rattle.copy_model.proofs.Later.{accepted_on, stopped_on, plan_on, range_grows}
use Rattle.copy_model.proofs.Untouched.{lander_accepted}

module _ (h : History) (progress : ℕ → ℕ → Progress) (lawful : IsLawfulRun h progress) where
  -- a place outside all ranges was so before
  outside_before : (k file place : ℕ) → IsOutside h (suc k) file place → IsOutside h k file place
  outside_before k file place outside j accepted same within =
      outside
      j
      (accepted_on h progress lawful j k (suc k) (omega arith) accepted)
      (ap (λ (p : Plan). p.dst_file) (plan_on h progress lawful j k (suc k) (omega arith) accepted) ∙ same)
      (range_grows h progress lawful j k (suc k) place (omega arith) accepted within)

  -- no chunk lands outside all ranges
  lands_within : (k file place : ℕ) → IsOutside h (suc k) file place → (j : ℕ)
      → LandsAt (h (suc k)).did j ((h (suc k)).copy j).plan place → ((h (suc k)).copy j).plan.dst_file ≡ file → ⊥
  lands_within k file place outside j lands same =
      outside j (lander_accepted h progress lawful j k place lands) same ((lawful.steps k).lands j place lands).within

  pub others_alike : (k file place : ℕ) → IsOutside h k file place → IsAlike (h k).dest (h k).bare file place
  others_alike zero file place outside = lawful.start.alike file place
  others_alike (suc k) file place outside =
      (lawful.steps k).bare file place (lands_within k file place outside) (others_alike k file place (outside_before k file place outside))

  pub still_zero : (k file place : ℕ) → IsOutside h k file place
      → ((i : ℕ) → i < k → WritesTo (h (suc i)).did file place → ⊥)
      → (x : ℕ) → Shows (h k).dest file place x → x ≡ 0
  still_zero zero file place outside unwritten x shows = lawful.start.zeros file place x shows
  still_zero (suc k) file place outside unwritten x shows =
      still_zero k file place (outside_before k file place outside) (λ i less. unwritten i (omega arith)) x ((lawful.steps k).shown file place x unreached shows)
    where
      unreached : Reaches (h (suc k)) file place → ⊥
      unreached (inl written) = unwritten k (omega arith) written
      unreached (inr landing) = lands_within k file place outside landing.0 landing.1 landing.2

  pub stopped_rests : (j i k : ℕ) → IsStoppedBy h j i → i ≤ k → (progress k j).live ≡ true → ⊥
  stopped_rests j i k stopped le live =
      both_ways _ ((lawful.moments k).stopped j (stopped_on h progress lawful j i k le stopped)) live

  pub stopped_completes_no_more : (j i k : ℕ) → IsStoppedBy h j i → i ≤ k → IsCompletedBy h j (suc k) → IsCompletedBy h j k
  stopped_completes_no_more j i k stopped le completed =
      let accepted = accepted_on h progress lawful j i k le ((lawful.moments i).stopped_made j stopped) in
      ⊎_elim (λ before. before) (λ live. absurd (stopped_rests j i k stopped le live)) (((lawful.steps k).copies j accepted).completes completed)
