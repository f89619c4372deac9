-- What is seen of a copy whose opening has ended is seen to the last moment of a run, and of what an opening had what it had in the end.
use Rattle.std.proofs.Common.{◌≡◌, ⊎_elim, ℕ, zero, suc, ◌+◌, ◌-◌, ◌<◌, ◌≤◌, ◌∙◌, Bool, List, [], ◌∷◌, length, Option, Some, None, refl, sym, ap, subst, arith, length-append}
use Rattle.std.specs.Prelude.{slice_get}
use Rattle.std.proofs.lemmas.Bool.{cases_lt}
use Rattle.std.proofs.lemmas.Option.{slice_get_past}
use Rattle.nfs_base.specs.declared.job.JobName.{JobName}
use Rattle.nfs_base.specs.declared.seal.End.TheVariants as ends
use Rattle.nfs_base.specs.declared.side.Side.TheVariants as sides
use Rattle.opening_laws.specs.Anew.{lost}
use Rattle.past_copies.specs.Past.{ArePast, Past, copy_at, past_after}
use Rattle.run_promise.proofs.opening.Along.{jobs_on, next_past, past_cut}
use Rattle.run_promise.proofs.opening.Known.{AreOrdered, TheyEnd, TheyStay}
use Rattle.run_promise.proofs.opening.Segments.{never_cut}
use Rattle.run_promise.specs.Opening.Openings.{cut_at, cut_in}
use Rattle.volume_stops.specs.declared.kept.Kept.{Kept}
use Rattle.wire_machine.specs.Ends.{Machines}
use Rattle.wire_machine.specs.History.{At, Listed, Telling, acts_in, at_moment, is_reported, job_at, jobs_after, newly, next, no_job, seen_again}
use Rattle.wire_machine.specs.Steps.{NeverStops, Step}
use Rattle.wire_machine.specs.World.{World}
use Rattle.wire_model.specs.Copies.{Job}
use Rattle.wire_model.specs.Meaning.{Meaning}
use Rattle.wire_model.specs.Spelling.{Spelling}

-- ---- how many copies are seen doesn't fall

again_length : (listed : List Listed) (stable : JobName → Bool) (boot number : ℕ) (jobs : List Job)
    → length (seen_again listed stable boot number jobs) ≡ length jobs
again_length listed stable boot number [] = refl
again_length listed stable boot number (job ∷ jobs) = ap suc (again_length listed stable boot (number + 1) jobs)

no_fewer : (listed : List Listed) (stable : JobName → Bool) (boot made : ℕ) (jobs : List Job) → length jobs ≤ length (jobs_after listed stable boot made jobs)
no_fewer listed stable boot made jobs =
    let old = seen_again listed stable boot 1 jobs in
    let new = newly listed stable boot (made - length jobs) (length jobs + 1) in
    let both = length-append old new in
    let same = again_length listed stable boot 1 jobs in
    omega (arith, both, same)

-- ---- at the moments of a run

module _ {S T C W : Type 0} (m : Machines S T C W) (tell : Telling S T) (spell : Spelling) (meaning : Meaning) (first : World S T C W)
    (steps : List (Step S T C W)) where
  abbrev at : ℕ → At m tell spell meaning
  at k = at_moment m tell spell meaning first steps k

  abbrev past : ℕ → List Past
  past k = (at k).seen.past

  abbrev jobs : ℕ → List Job
  jobs k = (at k).seen.jobs

  abbrev boot : ℕ → ℕ
  boot k = (m.dest_volume (at k).world.dest).boot

  abbrev cut : ℕ → Option Kept
  cut k = cut_at m tell spell meaning first steps k

  abbrev job : ℕ → ℕ → Job
  job k j = job_at (at k).seen j

  -- past the last step nothing changes
  abbrev same_seen : ℕ → ℕ → Type 0
  same_seen k l = (past k ≡ past l) × (jobs k ≡ jobs l)

  rest_one : (k : ℕ) (o : Option (Step S T C W)) → o ≡ None
      → ((next m tell spell meaning (at k) o).seen.past ≡ past k) × ((next m tell spell meaning (at k) o).seen.jobs ≡ jobs k)
  rest_one k None none = (refl, refl)
  rest_one k (Some s) none = absurd (cc)

  pub rest_on : (d : ℕ) → (past (length steps + d) ≡ past (length steps)) × (jobs (length steps + d) ≡ jobs (length steps))
  rest_on zero = let number : length steps + 0 ≡ length steps = omega arith in (ap past number, ap jobs number)
  rest_on (suc d) =
      let k : ℕ = length steps + d in
      let number : length steps + suc d ≡ suc k = omega arith in
      let one = rest_one k (slice_get steps k) (slice_get_past steps k (omega arith)) in
      let more = rest_on d in
      (ap past number ∙ one.0 ∙ more.0, ap jobs number ∙ one.1 ∙ more.1)

  rest_from : (k : ℕ) → length steps ≤ k → same_seen k (length steps)
  rest_from k le =
      let number : length steps + (k - length steps) ≡ k = omega (arith, le) in
      subst (λ (n : ℕ). same_seen n (length steps)) number (rest_on (k - length steps))

  pub last_job : (k j : ℕ) → length steps ≤ k → job k j ≡ job (length steps) j
  last_job k j le =
      let same = rest_from k le in
      ap (λ (p : List Past). copy_at no_job p (jobs k) j) same.0 ∙ ap (λ (x : List Job). copy_at no_job (past (length steps)) x j) same.1

  -- ---- a run in which the destination never stops has as many copies at most as in the end

  jobs_next : (k : ℕ) (o : Option (Step S T C W)) → cut_in (at k).world o ≡ None → length (jobs k) ≤ length (next m tell spell meaning (at k) o).seen.jobs
  jobs_next k None none = omega arith
  jobs_next k (Some s) none =
      let stable = is_reported spell meaning (acts_in tell (at k).world s.parts s.after ends.Dest) in
      let more = no_fewer (tell.jobs s.after.dest) stable (m.dest_volume s.after.dest).boot (tell.made s.after.dest) (jobs k) in
      subst (λ (xs : List Job). length (jobs k) ≤ length xs) (sym (jobs_on m tell spell meaning (at k).world s (at k).seen none)) more

  module _ (never : NeverStops sides.Dest first steps) where
    jobs_grow : (k d : ℕ) → length (jobs k) ≤ length (jobs (k + d))
    jobs_grow k zero = let number : k ≡ k + 0 = omega arith in subst (λ (n : ℕ). length (jobs k) ≤ length (jobs n)) number (omega arith)
    jobs_grow k (suc d) =
        let number : suc (k + d) ≡ k + suc d = omega arith in
        let one = jobs_next (k + d) (slice_get steps (k + d)) (never_cut m tell spell meaning first steps (k + d) never) in
        let more = jobs_grow k d in
        subst (λ (n : ℕ). length (jobs k) ≤ length (jobs n)) number (omega (arith, one, more))

    pub most_at_last : (k : ℕ) → length (jobs k) ≤ length (jobs (length steps))
    most_at_last k =
        ⊎_elim
        (λ (earlier : k < length steps).
        let number : k + (length steps - k) ≡ length steps = omega (arith, earlier) in
        subst (λ (n : ℕ). length (jobs k) ≤ length (jobs n)) number (jobs_grow k (length steps - k)))
        (λ (late : length steps ≤ k).
        let same = ap (λ (xs : List Job). length xs) (rest_from k late).1 in
        omega (arith, same))
        (cases_lt k (length steps))

  -- ---- copies of openings that have ended

  module _ (ordered : AreOrdered) (stay : TheyStay) (ended : TheyEnd)
      (keeps : (k : ℕ) → cut k ≡ None → boot (suc k) ≡ boot k)
      (rises : (k : ℕ) (kept : Kept) → cut k ≡ Some kept → boot k < boot (suc k))
      (fresh : (k : ℕ) (kept : Kept) → cut k ≡ Some kept → jobs (suc k) ≡ []) where
    -- where the destination stops, what was seen of the present opening is seen of one that has ended
    past_next : (k : ℕ) (o : Option (Step S T C W)) (kept : Kept) → cut_in (at k).world o ≡ Some kept
        → (next m tell spell meaning (at k) o).seen.past ≡ past_after (boot k) (past k) (jobs k)
    past_next k None kept some = absurd (cc)
    past_next k (Some s) kept some = past_cut m tell spell meaning (at k).world s (at k).seen kept some

    pub past_ended : (k : ℕ) (kept : Kept) → cut k ≡ Some kept → past (suc k) ≡ past_after (boot k) (past k) (jobs k)
    past_ended k kept some = past_next k (slice_get steps k) kept some

    past_same : (k : ℕ) → cut k ≡ None → past (suc k) ≡ past k
    past_same k none = next_past m tell spell meaning (at k) (slice_get steps k) none

    are_on : (k : ℕ) (o : Option Kept) → cut k ≡ o → ArePast (boot k) (past k) → ArePast (boot (suc k)) (past (suc k))
    are_on k None none are =
        subst (λ (b : ℕ). ArePast b (past (suc k))) (sym (keeps k none)) (subst (λ (p : List Past). ArePast (boot k) p) (sym (past_same k none)) are)
    are_on k (Some kept) some are =
        subst (λ (p : List Past). ArePast (boot (suc k)) p) (sym (past_ended k kept some))
        (ended.past (boot k) (boot (suc k)) (past k) (jobs k) are (rises k kept some))

    pub are_past : (k : ℕ) → ArePast (boot k) (past k)
    are_past zero = tt
    are_past (suc k) = are_on k (cut k) refl (are_past k)

    -- ---- one of them stays as it is, and what a stop ends is lost

    pub job_ended : (k j : ℕ) (kept : Kept) → cut k ≡ Some kept → j < length (past k) + length (jobs k) → job (suc k) j ≡ lost (job k j)
    job_ended k j kept some there =
        ap (λ (p : List Past). copy_at no_job p (jobs (suc k)) j) (past_ended k kept some)
        ∙ ap (λ (x : List Job). copy_at no_job (past_after (boot k) (past k) (jobs k)) x j) (fresh k kept some)
        ∙ ended.copies no_job (boot k) (past k) (jobs k) j (are_past k) there

    pub job_same : (k j : ℕ) → cut k ≡ None → j < length (past k) → job (suc k) j ≡ job k j
    job_same k j none there =
        ap (λ (p : List Past). copy_at no_job p (jobs (suc k)) j) (past_same k none) ∙ stay.copies no_job (past k) (jobs (suc k)) (jobs k) j there

    abbrev Lasts : (k l j : ℕ) → Type 0
    Lasts k l j = ((job l j).entries ≡ (job k j).entries) × (j < length (past l))

    pub many_after : (k : ℕ) (kept : Kept) → cut k ≡ Some kept → length (past (suc k)) ≡ length (past k) + length (jobs k)
    many_after k kept some = ap (λ (p : List Past). length p) (past_ended k kept some) ∙ ended.count (boot k) (past k) (jobs k)

    lasts_one : (k j : ℕ) (o : Option Kept) → cut k ≡ o → j < length (past k) → Lasts k (suc k) j
    lasts_one k j None none there =
        (ap (λ (x : Job). x.entries) (job_same k j none there), subst (λ (p : List Past). j < length p) (sym (past_same k none)) there)
    lasts_one k j (Some kept) some there =
        let many = many_after k kept some in
        (ap (λ (x : Job). x.entries) (job_ended k j kept some (omega (arith, there))), omega (arith, many, there))

    lasts : (k j d : ℕ) → j < length (past k) → Lasts k (k + d) j
    lasts k j zero there = let number : k ≡ k + 0 = omega arith in subst (λ (n : ℕ). Lasts k n j) number (refl, there)
    lasts k j (suc d) there =
        let number : suc (k + d) ≡ k + suc d = omega arith in
        let more = lasts k j d there in
        let one = lasts_one (k + d) j (cut (k + d)) refl more.1 in
        subst (λ (n : ℕ). Lasts k n j) number (one.0 ∙ more.0, one.1)

    -- so its log in the end is what it is
    pub lasts_to_end : (k j : ℕ) → j < length (past k) → (job (length steps) j).entries ≡ (job k j).entries
    lasts_to_end k j there =
        ⊎_elim
        (λ (earlier : k < length steps).
        let number : k + (length steps - k) ≡ length steps = omega (arith, earlier) in
        (subst (λ (n : ℕ). Lasts k n j) number (lasts k j (length steps - k) there)).0)
        (λ (late : length steps ≤ k). ap (λ (x : Job). x.entries) (sym (last_job k j late)))
        (cases_lt k (length steps))

    -- and so is that of one of the present opening, where that ends at a moment
    pub ends_to_end : (k j : ℕ) → (cut k ≡ None → length steps ≤ k) → j < length (past k) + length (jobs k)
        → (job (length steps) j).entries ≡ (job k j).entries
    ends_to_end k j over there = ends (cut k) refl
      where
        ends : (o : Option Kept) → cut k ≡ o → (job (length steps) j).entries ≡ (job k j).entries
        ends None none = ap (λ (x : Job). x.entries) (sym (last_job k j (over none)))
        ends (Some kept) some =
            let many = many_after k kept some in
            lasts_to_end (suc k) j (omega (arith, many, there)) ∙ ap (λ (x : Job). x.entries) (job_ended k j kept some there)
