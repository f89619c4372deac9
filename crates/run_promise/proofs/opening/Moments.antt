-- The destination at the moments of a run over its openings.
use Rattle.std.proofs.Common.{◌≡◌, ◌⊎◌, inl, inr, ℕ, zero, suc, ◌+◌, ◌<◌, List, [], Option, Some, None, refl, sym, ap, subst, ◌∙◌, arith}
use Rattle.std.specs.Prelude.{slice_get}
use Rattle.dest_core.specs.Stepping.{DestState}
use Rattle.dest_laws.specs.View.Steps.{table_in}
use Rattle.nfs_base.specs.declared.seal.End.TheVariants as ends
use Rattle.nfs_base.specs.declared.side.Side.TheVariants as sides
use Rattle.run_ends.specs.Ends.{RunMachines, RunStep, RunWorld, Words, machines}
use Rattle.run_ends.specs.Opening.{IsDestAnew, IsNewDest}
use Rattle.run_promise.proofs.opening.Along.{at_opening, jobs_cut, stop_before}
use Rattle.run_promise.proofs.opening.New.{new_boot, new_jobs, new_mech}
use Rattle.run_promise.proofs.opening.Stopping.{stops_anew}
use Rattle.run_promise.specs.Opening.Openings.{began, cut_at, cut_in}
use Rattle.run_promise.specs.Opening.Stops.{OpensAnew, StopsAt}
use Rattle.run_promise.specs.Opening.Systems.{KeepsOpening, StepsKeepOpenings}
use Rattle.run_promise.specs.System.Moments.{made_at, rests_at, world_at}
use Rattle.run_promise.specs.System.System.{telling}
use Rattle.server_volume.specs.Store.{Store}
use Rattle.server_volume.specs.declared.used.Used.{Used}
use Rattle.session_server.specs.Host.{Codes}
use Rattle.volume_stops.specs.Stops.{StopsIn}
use Rattle.volume_stops.specs.declared.kept.Kept.{Kept}
use Rattle.wire_machine.specs.History.{acts_in, at_moment, is_reported, next}
use Rattle.wire_machine.specs.Steps.{AreSteps, IsStep, cut_of}
use Rattle.wire_model.specs.Meaning.{Meaning}
use Rattle.wire_model.specs.Spelling.{Spelling}

-- each opening has the next number
abbrev pub AreCounted : Type 0
AreCounted = (s t : Store) (used : List Used) (kept : Kept) → StopsIn s used kept t → t.volume.boot ≡ s.volume.boot + 1

-- the step in which the destination stops
pub record IsCutBy {M : Type 0} (before : RunWorld M) (o : Option (RunStep M)) (kept : Kept) : Type 0 where
  pub step : RunStep M
  pub is : o ≡ Some step
  pub cut : cut_of sides.Dest before step ≡ Some kept

pub cut_by : {M : Type 0} (before : RunWorld M) (o : Option (RunStep M)) (kept : Kept) → cut_in before o ≡ Some kept → IsCutBy before o kept
cut_by before None kept some = absurd (cc)
cut_by before (Some s) kept some = record { step = s; is = refl; cut = some }

module _ {M : Type 0} (words : Words M ℕ) (codes : Codes) (spell : Spelling) (meaning : Meaning) (first : RunWorld M) (steps : List (RunStep M))
    (are : AreSteps (machines words) first steps) where
  abbrev m : RunMachines M
  m = machines words

  abbrev world : ℕ → RunWorld M
  world k = world_at m (telling codes) spell meaning first steps k

  abbrev dest : ℕ → DestState M
  dest k = (world k).dest

  abbrev cut : ℕ → Option Kept
  cut k = cut_at m (telling codes) spell meaning first steps k

  from : (k : ℕ) (s : RunStep M) → slice_get steps k ≡ Some s → IsStep m (world k) s
  from k s is = (made_at m (telling codes) spell meaning first steps k s are is).step

  onto : (k : ℕ) (s : RunStep M) → slice_get steps k ≡ Some s → world (suc k) ≡ s.after
  onto k s is = (made_at m (telling codes) spell meaning first steps k s are is).after

  pub stops_at : (k : ℕ) (kept : Kept) → cut k ≡ Some kept → StopsAt m codes spell meaning first steps k kept
  stops_at k kept some =
      let by = cut_by (world k) (slice_get steps k) kept some in
      let anew = stops_anew words (world k) by.step kept (from k by.step by.is) by.cut in
      record {
        step = by.step;
        is = by.is;
        cut = by.cut;
        anew = subst (λ (w : RunWorld M). IsDestAnew (dest k) by.step.parts.dest.out.used kept w.dest) (sym (onto k by.step by.is)) anew.anew;
        sent = anew.sent;
      }

  -- nothing is seen of an opening that begins
  pub fresh : (k : ℕ) (kept : Kept) → cut k ≡ Some kept → (at_moment m (telling codes) spell meaning first steps (suc k)).seen.jobs ≡ []
  fresh k kept some =
      let at = stops_at k kept some in
      let now = at_moment m (telling codes) spell meaning first steps k in
      let new = subst (λ (w : RunWorld M). IsNewDest (dest k).state.machine.extra.mech w.dest) (onto k at.step at.is) at.anew.opened in
      ap (λ (o : Option (RunStep M)). (next m (telling codes) spell meaning now o).seen.jobs) at.is
      ∙ jobs_cut m (telling codes) spell meaning now.world at.step now.seen kept at.cut
      ∙ new_jobs (dest k).state.machine.extra.mech at.step.after.dest new
      (is_reported spell meaning (acts_in (telling codes) now.world at.step.parts at.step.after ends.Dest)) (m.dest_volume at.step.after.dest).boot

  begins_by : (k b : ℕ) → began m (telling codes) spell meaning first steps k ≡ b
      → (began m (telling codes) spell meaning first steps k ≡ 0) ⊎ OpensAnew m codes spell meaning first steps k
  begins_by k zero is = inl is
  begins_by k (suc before) is =
      let stop = stop_before m (telling codes) spell meaning first steps k before is in
      inr (record { before = before; kept = stop.0; follows = is; cut = stop.1; stops = stops_at before stop.0 stop.1 })

  pub begins : (k : ℕ) → (began m (telling codes) spell meaning first steps k ≡ 0) ⊎ OpensAnew m codes spell meaning first steps k
  begins k = begins_by k (began m (telling codes) spell meaning first steps k) refl

  -- ---- what stays in an opening, and what is new in the next

  module _ (keep : StepsKeepOpenings m) where
    keeps_by : (k : ℕ) (o : Option (RunStep M)) → slice_get steps k ≡ o → cut_in (world k) o ≡ None → KeepsOpening (dest k) (dest (suc k))
    keeps_by k None is none =
        subst (λ (w : RunWorld M). KeepsOpening (dest k) w.dest) (sym (rests_at m (telling codes) spell meaning first steps k is))
        (record { volume = refl; table = refl; mech = refl })
    keeps_by k (Some s) is none =
        subst (λ (w : RunWorld M). KeepsOpening (dest k) w.dest) (sym (onto k s is)) (keep (world k) s (from k s is) none)

    pub keeps_at : (k : ℕ) → cut k ≡ None → KeepsOpening (dest k) (dest (suc k))
    keeps_at k none = keeps_by k (slice_get steps k) refl none

    mech_next : (k : ℕ) (o : Option Kept) → cut k ≡ o → (dest (suc k)).state.machine.extra.mech ≡ (dest k).state.machine.extra.mech
    mech_next k None none = (keeps_at k none).mech
    mech_next k (Some kept) some = new_mech (dest k).state.machine.extra.mech (dest (suc k)) (stops_at k kept some).anew.opened

    pub mech_at : (k : ℕ) → (dest k).state.machine.extra.mech ≡ first.dest.state.machine.extra.mech
    mech_at zero = refl
    mech_at (suc k) = mech_next k (cut k) refl ∙ mech_at k

    pub rises : AreCounted → (k : ℕ) (kept : Kept) → cut k ≡ Some kept
        → (dest k).state.machine.store.volume.boot < (dest (suc k)).state.machine.store.volume.boot
    rises counted k kept some =
        let at = stops_at k kept some in
        let one = counted (dest k).state.machine.store (dest (suc k)).state.machine.store at.step.parts.dest.out.used kept at.anew.stops in
        omega (arith, one)

    module _ (mech : M) (new : IsNewDest mech first.dest) where
      table_next : (k : ℕ) (o : Option Kept) → cut k ≡ o → (table_in (dest k)).boot ≡ (dest k).state.machine.store.volume.boot
          → (table_in (dest (suc k))).boot ≡ (dest (suc k)).state.machine.store.volume.boot
      table_next k None none same = let keeps = keeps_at k none in keeps.table ∙ same ∙ sym keeps.volume
      table_next k (Some kept) some same = new_boot (dest k).state.machine.extra.mech (dest (suc k)) (stops_at k kept some).anew.opened

      -- the jobs that it has are of the opening of its volume
      pub table_at : (k : ℕ) → (table_in (dest k)).boot ≡ (dest k).state.machine.store.volume.boot
      table_at zero = new_boot mech first.dest new
      table_at (suc k) = table_next k (cut k) refl (table_at k)

      pub new_at : (k : ℕ) → IsNewDest mech (dest (began m (telling codes) spell meaning first steps k))
      new_at k =
          at_opening m (telling codes) spell meaning first steps (λ (n : ℕ). IsNewDest mech (dest n)) new
          (λ before kept some.
          subst (λ (x : M). IsNewDest x (dest (suc before))) (mech_at before ∙ new_mech mech first.dest new) (stops_at before kept some).anew.opened)
          k
