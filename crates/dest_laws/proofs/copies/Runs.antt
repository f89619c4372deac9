-- The laws of copies at every moment of a run.
use Rattle.std.proofs.Common.{◌≡◌, ℕ, zero, suc, List, Option, sym, ap, subst, ◌∙◌, refl}
use Rattle.dest_core.specs.Stepping.{DestState, DestStep}
use Rattle.dest_laws.proofs.copies.Goes.{deeds_in}
use Rattle.dest_laws.specs.Copies.Rooms.{AllFit, ReachesLast, RoomsNarrow}
use Rattle.dest_laws.specs.Copies.Runs.{ShowsRun}
use Rattle.dest_laws.specs.Copies.Story.{Story}
use Rattle.dest_laws.specs.Deeds.{ByDeeds}
use Rattle.dest_laws.specs.Histories.Seen.{Later}
use Rattle.dest_laws.specs.Own.Going.{jobs_in}
use Rattle.dest_laws.specs.View.Dues.{AreSafe, HoldsWell, LandsWell, ReachesWithin}
use Rattle.dest_laws.specs.View.Steps.{ShowsStep, table_in}
use Rattle.dest_tasks.specs.Completing.{Comes, Deed}
use Rattle.job_book.specs.Book.{BookView, IsSound}
use Rattle.wire_lines.specs.declared.letters.Speaker.{Speaker}
use Rattle.wire_model.specs.CopyLaws.{CopiesLaws}
use Rattle.wire_model.specs.Meaning.{Meaning}
use Rattle.wire_model.specs.Spelling.{Spelling}
use Rattle.wire_model.specs.System.{System}
use Rattle.wire_model.specs.Wire.{Executed}

-- the laws of a step
pub record StepLaws (M : Type 0) : Type 0 where
  pub later : (deeds : List Deed) (b c : BookView) → Comes deeds b c → Later b.table c.table
  pub narrow : (spell : Spelling) (meaning : Meaning) (s : System) (k : ℕ) (took : Option (List ℕ)) (speaker : Speaker) (executed : Option Executed)
      (d : DestState M) (t : DestStep M) → ShowsStep spell meaning s k took speaker executed d t → Story (jobs_in d) (jobs_in t.host) t.out.used
      → IsSound (table_in d) → IsSound (table_in t.host) → AllFit s k (table_in d).capacity → RoomsNarrow s k (table_in d).capacity
  pub obey : (spell : Spelling) (meaning : Meaning) (s : System) (k : ℕ) (took : Option (List ℕ)) (speaker : Speaker) (executed : Option Executed)
      (d : DestState M) (t : DestStep M) → ShowsStep spell meaning s k took speaker executed d t → Story (jobs_in d) (jobs_in t.host) t.out.used
      → IsSound (table_in d) → IsSound (table_in t.host) → LandsWell spell meaning s k → AreSafe s (suc k)
      → ReachesWithin s (suc k) (table_in t.host).capacity → HoldsWell spell meaning s k → CopiesLaws spell meaning s k
  pub within : (s : System) (capacity last : ℕ) → ((k : ℕ) → RoomsNarrow s k capacity) → AllFit s 0 capacity → ReachesLast s last
      → (k : ℕ) → ReachesWithin s k capacity
  pub begin : (s : System) (capacity : ℕ) → s.made 0 ≡ 0 → AllFit s 0 capacity

module _ {M : Type 0} (laws : StepLaws M) (spell : Spelling) (meaning : Meaning) (s : System) (host : ℕ → DestState M) (step : ℕ → DestStep M)
    (run : ShowsRun spell meaning s host step) (none : s.made 0 ≡ 0) where
  abbrev cap : ℕ
  cap = (table_in (host 0)).capacity

  sound_then : (k : ℕ) → IsSound (table_in (step k).host)
  sound_then k = subst (λ (d : DestState M). IsSound (table_in d)) (sym (run.goes_on k)) (run.sound (suc k))

  same_capacity : (k : ℕ) → (table_in (step k).host).capacity ≡ (table_in (host k)).capacity
  same_capacity k =
      let done : ByDeeds (jobs_in (host k)) (jobs_in (step k).host) = deeds_in (jobs_in (host k)) (jobs_in (step k).host) (step k).out.used (run.story k) in
      (laws.later done.0 (jobs_in (host k)) (jobs_in (step k).host) done.1).capacity

  capacity_at : (k : ℕ) → (table_in (host k)).capacity ≡ cap
  capacity_at zero = refl
  capacity_at (suc k) = ap (λ (d : DestState M). (table_in d).capacity) (sym (run.goes_on k)) ∙ same_capacity k ∙ capacity_at k

  narrow_from : (k : ℕ) → AllFit s k cap → RoomsNarrow s k cap
  narrow_from k fits =
      subst (λ (n : ℕ). RoomsNarrow s k n) (capacity_at k)
      (laws.narrow spell meaning s k (run.took k) (run.speaker k) (run.executed k) (host k) (step k) (run.shows k) (run.story k) (run.sound k) (sound_then k)
      (subst (λ (n : ℕ). AllFit s k n) (sym (capacity_at k)) fits))

  fits_at : (k : ℕ) → AllFit s k cap
  fits_at zero = laws.begin s cap none
  fits_at (suc k) = (narrow_from k (fits_at k)).fits

  narrow_at : (k : ℕ) → RoomsNarrow s k cap
  narrow_at k = narrow_from k (fits_at k)

  pub run_obeys : (last : ℕ) → ReachesLast s last → ((k : ℕ) → LandsWell spell meaning s k) → ((k : ℕ) → HoldsWell spell meaning s k)
      → ((k : ℕ) → AreSafe s (suc k)) → (k : ℕ) → CopiesLaws spell meaning s k
  run_obeys last ends comes held safe k =
      laws.obey spell meaning s k (run.took k) (run.speaker k) (run.executed k) (host k) (step k) (run.shows k) (run.story k) (run.sound k) (sound_then k)
      (comes k) (safe k)
      (subst (λ (n : ℕ). ReachesWithin s (suc k) n) (sym (same_capacity k ∙ capacity_at k)) (laws.within s cap last narrow_at (fits_at zero) ends (suc k)))
      (held k)
