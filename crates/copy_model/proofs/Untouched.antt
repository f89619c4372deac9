-- An untouched byte of a copy's range is reached by the copy's own landings alone; while the copy is
-- intact, each that has landed is held.
use Rattle.std.proofs.Common.{◌≡◌, inl, inr, ⊎_elim, ℕ, zero, suc, ◌+◌, true, false, sym, subst, arith}
use Rattle.std.proofs.lemmas.Bool.{both_ways, cases_lt, cases_order}
use Rattle.copy_model.specs.Job.{Plan}
use Rattle.copy_model.specs.Moment.{History, Did, Rested, Wrote, Landed, Crashed}
use Rattle.copy_model.specs.Promise.{InRange, IsAcceptedBy, LandsOf, LandsAt, IsCrash, Reaches, IsTouched, Held}
use Rattle.copy_model.specs.Laws.{Progress, IsLawfulRun}
use Rattle.copy_model.proofs.Later.{accepted_on, none_at_start, during_live, touched_on}

-- a landing at a place is a landing of its copy
pub lands_of : (did : Did) (j : ℕ) (plan : Plan) (place : ℕ) → LandsAt did j plan place → LandsOf did j
lands_of Rested j plan place lands = lands
lands_of (Wrote file off len) j plan place lands = lands
lands_of (Landed copy off len) j plan place lands = lands.0
lands_of Crashed j plan place lands = lands

module _ (h : History) (progress : ℕ → ℕ → Progress) (lawful : IsLawfulRun h progress) where
  -- a copy that lands in a step was accepted before it
  pub lander_accepted : (j k place : ℕ) → LandsAt (h (suc k)).did j ((h (suc k)).copy j).plan place → IsAcceptedBy h j (suc k)
  lander_accepted j k place lands =
      accepted_on h progress lawful j k (suc k) (omega arith) ((lawful.steps k).live j (lands_of (h (suc k)).did j _ place lands)).0

  pub unreached : (j k place : ℕ) → IsAcceptedBy h j k → InRange ((h (suc k)).copy j) place
      → (IsTouched h j ((h (suc k)).copy j).plan place (suc k) → ⊥)
      → (LandsAt (h (suc k)).did j ((h (suc k)).copy j).plan place → ⊥)
      → Reaches (h (suc k)) ((h (suc k)).copy j).plan.dst_file place → ⊥
  unreached j k place accepted within untouched not_own (inl written) =
      untouched (inl (k, omega arith, accepted, written))
  unreached j k place accepted within untouched not_own (inr landing) =
      ⊎_elim
      (λ same. not_own (subst (λ l. LandsAt (h (suc k)).did l ((h (suc k)).copy l).plan place) same landing.1))
      (λ other. ⊎_elim
      (λ earlier. ((lawful.steps k).lands landing.0 place landing.1).apart j earlier (accepted_on h progress lawful j k (suc k) (omega arith) accepted) (sym landing.2) within)
      (λ later. untouched (inr (landing.0, later, lander_accepted landing.0 k place landing.1, landing.2, ((lawful.steps k).lands landing.0 place landing.1).within)))
      other)
      (cases_order landing.0 j)

  -- a byte that this step lands was read at a moment during the copy
  landed_now : (j k place : ℕ) → LandsAt (h (suc k)).did j ((h (suc k)).copy j).plan place
      → Held h j ((h (suc k)).copy j).plan place ((h (suc k)).dest.now ((h (suc k)).copy j).plan.dst_file place)
  landed_now j k place lands =
      let law = (lawful.steps k).lands j place lands in
      let live = ((lawful.steps k).live j (lands_of (h (suc k)).did j _ place lands)).1 in
      record {
        moment = law.read;
        during = during_live h progress lawful j law.read k law.in_time law.accepted live;
        readable = law.readable;
        byte = sym law.byte;
      }

  abbrev IsHeldAt : ℕ → ℕ → ℕ → Plan → Type 0
  IsHeldAt k j q plan =
      (IsTouched h j plan (plan.dst_off + q) k → ⊥) → Held h j plan (plan.dst_off + q) ((h k).dest.now plan.dst_file (plan.dst_off + q))

  -- a byte that had landed before is still what it was
  landed_before : (j k q : ℕ) → IsAcceptedBy h j k → (progress (suc k) j).intact ≡ true → (h (suc k)).dest.broken ≡ false
      → (progress (suc k) j).landed q ≡ true
      → (LandsAt (h (suc k)).did j ((h (suc k)).copy j).plan (((h (suc k)).copy j).plan.dst_off + q) → ⊥)
      → ((h k).dest.broken ≡ false → IsHeldAt k j q ((h k).copy j).plan)
      → IsHeldAt (suc k) j q ((h (suc k)).copy j).plan
  landed_before j k q accepted intact readable landed not_own so_far untouched =
      let plan = ((h (suc k)).copy j).plan in
      let place = plan.dst_off + q in
      let within = (lawful.moments (suc k)).within j q landed in
      let no_crash = λ (crash : IsCrash (h (suc k)).did). both_ways _ ((lawful.steps k).crash j crash) intact in
      let same = (lawful.steps k).quiet plan.dst_file place (unreached j k place accepted (omega arith, omega arith) untouched not_own) no_crash readable in
      let was = subst (IsHeldAt k j q) (sym ((lawful.steps k).copies j accepted).plan) (so_far same.0) in
      subst (Held h j plan place) (sym same.1) (was (λ touched. untouched (touched_on h progress lawful j plan place k (suc k) (omega arith) touched)))

  -- While a copy is intact and the destination isn't broken, each landed, untouched byte is held.
  pub landed_held : (k j q : ℕ) → IsAcceptedBy h j k → (progress k j).intact ≡ true → (h k).dest.broken ≡ false
      → (progress k j).landed q ≡ true → IsHeldAt k j q ((h k).copy j).plan
  landed_held zero j q accepted intact readable landed = absurd (none_at_start h progress lawful j accepted)
  landed_held (suc k) j q accepted intact readable landed =
      ⊎_elim
      (λ now untouched. landed_now j k _ now)
      (λ before. ⊎_elim
      (λ earlier. landed_before j k q earlier intact readable landed before.1
      (λ was_readable. landed_held k j q earlier (((lawful.steps k).copies j earlier).intact intact) was_readable before.0))
      (λ new. absurd (both_ways _ (((lawful.steps k).fresh j new).0 q) landed))
      (cases_lt j (h k).made))
      ((lawful.steps k).landed j q landed)
