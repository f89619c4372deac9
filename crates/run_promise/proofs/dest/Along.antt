-- What holds in each step holds at every moment of a run.
use Rattle.std.proofs.Common.{◌≡◌, ◌∙◌, ℕ, zero, suc, ◌<◌, true, false, List, Option, Some, sym, ap, subst}
use Rattle.std.specs.Prelude.{◌^◌}
use Rattle.caller_laws.specs.Good.{Identity}
use Rattle.caller_laws.specs.OneStep.Runs as runs
use Rattle.caller_laws.specs.OneStep.Runs.{IsRun, MountStep}
use Rattle.caller_laws.specs.View.{Above}
use Rattle.copy_model.specs.Effect as volumes
use Rattle.dest_core.specs.Stepping.{DestState, DestStep, IsRecord, IsReply, IsWork, copier_in, failure_step, tick_step}
use Rattle.dest_laws.specs.Copies.Runs.{ShowsRun}
use Rattle.dest_laws.specs.Landings.Orderly.{IsOrderly, LandsAndHolds}
use Rattle.dest_laws.specs.Landings.Posted.{AreSpelled}
use Rattle.dest_laws.specs.Own.Going.{jobs_in}
use Rattle.dest_laws.specs.View.Dues.{HoldsWell, LandsWell}
use Rattle.dest_laws.specs.View.Steps.{Shows, ShowsStep, part_by}
use Rattle.dest_laws.specs.View.View.{holds_at}
use Rattle.dest_steps.specs.Copier.{Codes}
use Rattle.job_book.specs.Book.{IsSound}
use Rattle.mount.specs.State.{Mounted}
use Rattle.mount.specs.Taking.{Means}
use Rattle.nfs_base.specs.declared.seal.End.{End}
use Rattle.run_promise.specs.Dest.Ways.{Fails, GoesBy, GoesSpelled, Hears, Rests, Takes, Ticks, VolumeOwes, Way, Words, Works}
use Rattle.wire_lines.specs.declared.letters.Speaker.{Speaker}
use Rattle.wire_machine.specs.History.{is_call}
use Rattle.wire_meaning.specs.Meaning.{meaning}
use Rattle.wire_model.specs.Copies.{Plain}
use Rattle.wire_model.specs.CopyLaws.{VolumeLaws}
use Rattle.wire_model.specs.Spelling.{Spelling}
use Rattle.wire_model.specs.System.{System, dest_effect}
use Rattle.wire_model.specs.Wire.{Executed}
use Rattle.wire_spelling.specs.Spelling.{spelling}
use Rattle.wire_xdr.specs.Cursor.{IsBytes}

module _ (M : Type 0) {W : Type 0} (words : ℕ → Words W) where
  abbrev codes : ℕ → Codes
  codes k = record { mic = (words k).codes.mic; derived = (words k).codes.derived }

  -- the laws of a destination that stays orderly
  pub record OrderLaws : Type 0 where
    pub record_ : (k conn : ℕ) (message : List ℕ) (now : ℕ) (d : DestState M) (before after : W) (t : DestStep M)
        → IsRecord (words k).codes (words k).accepted (words k).gives conn message now d before after t → IsOrderly d → IsOrderly t.host
    pub work : (k : ℕ) (started : List ℕ → List ℕ → Option (List ℕ)) (codes : Codes) (place now : ℕ) (d : DestState M) (before after : W) (t : DestStep M)
        → IsWork (words k).gives started codes place now d before after t → IsSound (jobs_in d).table → IsOrderly d → IsOrderly t.host
    pub reply : (codes : Codes) (finish : List ℕ → List ℕ → Option (List ℕ)) (place : ℕ) (message : List ℕ) (now : ℕ) (d : DestState M) (t : DestStep M)
        → IsReply codes finish place message now d t → IsOrderly d → IsOrderly t.host
    pub failure : (codes : Codes) (place : ℕ) (d : DestState M) → IsOrderly d → IsOrderly (failure_step codes place d).host
    pub tick : (codes : Codes) (now : ℕ) (d : DestState M) → IsOrderly d → IsOrderly (tick_step codes now d).host

  -- of what it owes in each step
  pub record LandLaws (accepts : List ℕ → Option (List ℕ)) (whose : List ℕ → Option End) (s : System) : Type 0 where
    pub record_ : (k : ℕ) (took : Option (List ℕ)) (speaker : Speaker) (executed : Option Executed)
        (conn : ℕ) (message : List ℕ) (now : ℕ) (d : DestState M) (before after : W) (t : DestStep M)
        → ShowsStep (spelling accepts whose) meaning s k took speaker executed d t → is_call (part_by took speaker t) ≡ true
        → IsRecord (words k).codes (words k).accepted (words k).gives conn message now d before after t → LandsAndHolds (spelling accepts whose) meaning s k t
    pub work : (k : ℕ) (took : Option (List ℕ)) (speaker : Speaker) (executed : Option Executed)
        (started : List ℕ → List ℕ → Option (List ℕ)) (codes : Codes) (place now : ℕ) (d : DestState M) (before after : W) (t : DestStep M)
        → ShowsStep (spelling accepts whose) meaning s k took speaker executed d t → is_call (part_by took speaker t) ≡ false
        → IsWork (words k).gives started codes place now d before after t → IsSound (jobs_in d).table → IsOrderly d → LandsAndHolds (spelling accepts whose) meaning s k t
    pub reply : (k : ℕ) (speaker : Speaker) (executed : Option Executed)
        (codes : Codes) (finish : List ℕ → List ℕ → Option (List ℕ)) (place : ℕ) (message : List ℕ) (now : ℕ) (d : DestState M) (t : DestStep M)
        → ShowsStep (spelling accepts whose) meaning s k (Some message) speaker executed d t → is_call (part_by (Some message) speaker t) ≡ false
        → IsReply codes finish place message now d t → IsBytes message → IsSound (jobs_in d).table → IsOrderly d
        → AreSpelled (copier_in d).work.mount → LandsAndHolds (spelling accepts whose) meaning s k t
    pub failure : (k : ℕ) (took : Option (List ℕ)) (speaker : Speaker) (executed : Option Executed) (codes : Codes) (place : ℕ) (d : DestState M)
        → ShowsStep (spelling accepts whose) meaning s k took speaker executed d (failure_step codes place d) → LandsAndHolds (spelling accepts whose) meaning s k (failure_step codes place d)
    pub tick : (k : ℕ) (took : Option (List ℕ)) (speaker : Speaker) (executed : Option Executed) (codes : Codes) (now : ℕ) (d : DestState M)
        → ShowsStep (spelling accepts whose) meaning s k took speaker executed d (tick_step codes now d) → LandsAndHolds (spelling accepts whose) meaning s k (tick_step codes now d)
    pub rest_lands : (k : ℕ) → ((j : ℕ) → s.job (suc k) j ≡ s.job k j) → LandsWell (spelling accepts whose) meaning s k
    pub rest_holds : (k : ℕ) → ((worker : ℕ) → s.holds (suc k) worker ≡ s.holds k worker) → s.deed k ≡ Plain volumes.Rests → HoldsWell (spelling accepts whose) meaning s k

  -- and of its volume
  pub record VolumesLaws (accepts : List ℕ → Option (List ℕ)) (whose : List ℕ → Option End) (s : System) : Type 0 where
    pub work : (k : ℕ) (took : Option (List ℕ)) (speaker : Speaker) (executed : Option Executed)
        (started : List ℕ → List ℕ → Option (List ℕ)) (codes : Codes) (place now : ℕ) (d : DestState M) (before after : W) (t : DestStep M)
        → ShowsStep (spelling accepts whose) meaning s k took speaker executed d t → IsWork (words k).gives started codes place now d before after t
        → LandsAndHolds (spelling accepts whose) meaning s k t → d.state.machine.store.volume.writes < 2 ^ 32 → VolumeLaws (s.dest k) (s.dest (suc k)) (dest_effect s k)
    pub reply : (k : ℕ) (took : Option (List ℕ)) (speaker : Speaker) (executed : Option Executed)
        (codes : Codes) (finish : List ℕ → List ℕ → Option (List ℕ)) (place : ℕ) (message : List ℕ) (now : ℕ) (d : DestState M) (t : DestStep M)
        → ShowsStep (spelling accepts whose) meaning s k took speaker executed d t → IsReply codes finish place message now d t
        → LandsAndHolds (spelling accepts whose) meaning s k t → d.state.machine.store.volume.writes < 2 ^ 32 → VolumeLaws (s.dest k) (s.dest (suc k)) (dest_effect s k)
    pub failure : (k : ℕ) (took : Option (List ℕ)) (speaker : Speaker) (executed : Option Executed) (codes : Codes) (place : ℕ) (d : DestState M)
        → ShowsStep (spelling accepts whose) meaning s k took speaker executed d (failure_step codes place d) → VolumeLaws (s.dest k) (s.dest (suc k)) (dest_effect s k)
    pub tick : (k : ℕ) (took : Option (List ℕ)) (speaker : Speaker) (executed : Option Executed) (codes : Codes) (now : ℕ) (d : DestState M)
        → ShowsStep (spelling accepts whose) meaning s k took speaker executed d (tick_step codes now d) → VolumeLaws (s.dest k) (s.dest (suc k)) (dest_effect s k)
    pub rest : (k : ℕ) (d : DestState M) → Shows s k d → Shows s (suc k) d → s.deed k ≡ Plain volumes.Rests → VolumeLaws (s.dest k) (s.dest (suc k)) (dest_effect s k)

  module _ (accepts : List ℕ → Option (List ℕ)) (whose : List ℕ → Option End) (s : System) (host : ℕ → DestState M) (step : ℕ → DestStep M) (ways : ℕ → Way)
      (run : ShowsRun (spelling accepts whose) meaning s host step) (first : IsOrderly (host 0))
      (goes : (k : ℕ) → GoesBy (words k) s k (run.took k) (run.speaker k) (host k) (step k) (ways k)) (orders : OrderLaws) where
    stays : (k : ℕ) (way : Way) → GoesBy (words k) s k (run.took k) (run.speaker k) (host k) (step k) way → IsOrderly (host k) → IsOrderly (step k).host
    stays k (Hears conn message now) by is = orders.record_ k conn message now (host k) by.before by.after (step k) by.is is
    stays k (Works place now) by is = orders.work k (words k).started (codes k) place now (host k) by.before by.after (step k) by.is (run.sound k) is
    stays k (Takes place message now) by is = orders.reply (codes k) (words k).finished place message now (host k) (step k) by.is is
    stays k (Fails place) by is = subst (λ (t : DestStep M). IsOrderly t.host) (sym by) (orders.failure (codes k) place (host k) is)
    stays k (Ticks now) by is = subst (λ (t : DestStep M). IsOrderly t.host) (sym by) (orders.tick (codes k) now (host k) is)
    stays k Rests by is = subst (λ (d : DestState M). IsOrderly d) (sym by.same) is

    pub orderly_at : (k : ℕ) → IsOrderly (host k)
    orderly_at zero = first
    orderly_at (suc k) = subst (λ (d : DestState M). IsOrderly d) (run.goes_on k) (stays k (ways k) (goes k) (orderly_at k))

    module _ (lands : LandLaws accepts whose s) where
      abbrev spell : Spelling
      spell = spelling accepts whose

      abbrev Both : ℕ → Type 0
      Both k = LandsWell spell meaning s k × HoldsWell spell meaning s k

      both_of : (k : ℕ) (t : DestStep M) → LandsAndHolds spell meaning s k t → Both k
      both_of k t well = (well.lands, well.holds)

      took_so : (k : ℕ) (message : List ℕ) → run.took k ≡ Some message → ShowsStep spell meaning s k (Some message) (run.speaker k) (run.executed k) (host k) (step k)
      took_so k message is = subst (λ (o : Option (List ℕ)). ShowsStep spell meaning s k o (run.speaker k) (run.executed k) (host k) (step k)) is (run.shows k)

      step_so : (k : ℕ) (t : DestStep M) → step k ≡ t → ShowsStep spell meaning s k (run.took k) (run.speaker k) (run.executed k) (host k) t
      step_so k t is = subst (λ (u : DestStep M). ShowsStep spell meaning s k (run.took k) (run.speaker k) (run.executed k) (host k) u) is (run.shows k)

      worked : (k place now : ℕ) → GoesBy (words k) s k (run.took k) (run.speaker k) (host k) (step k) (Works place now) → LandsAndHolds spell meaning s k (step k)
      worked k place now by =
          lands.work k (run.took k) (run.speaker k) (run.executed k) (words k).started (codes k) place now (host k) by.before by.after (step k) (run.shows k) by.worker by.is (run.sound k) (orderly_at k)

      taken : (k place : ℕ) (message : List ℕ) (now : ℕ) → GoesBy (words k) s k (run.took k) (run.speaker k) (host k) (step k) (Takes place message now) → LandsAndHolds spell meaning s k (step k)
      taken k place message now by =
          lands.reply k (run.speaker k) (run.executed k) (codes k) (words k).finished place message now (host k) (step k) (took_so k message by.took_it)
          (subst (λ (o : Option (List ℕ)). is_call (part_by o (run.speaker k) (step k)) ≡ false) by.took_it by.worker) by.is by.all (run.sound k) (orderly_at k) by.spelled

      held_same : (k : ℕ) → (step k).host ≡ host k → (worker : ℕ) → s.holds (suc k) worker ≡ s.holds k worker
      held_same k same worker =
          (run.shows k).after.holds worker ∙ (ap (λ (d : DestState M). holds_at d worker) same ∙ sym ((run.shows k).before.holds worker))

      both_by : (k : ℕ) (way : Way) → GoesBy (words k) s k (run.took k) (run.speaker k) (host k) (step k) way → Both k
      both_by k (Hears conn message now) by =
          both_of k (step k) (lands.record_ k (run.took k) (run.speaker k) (run.executed k) conn message now (host k) by.before by.after (step k) (run.shows k) by.call by.is)
      both_by k (Works place now) by = both_of k (step k) (worked k place now by)
      both_by k (Takes place message now) by = both_of k (step k) (taken k place message now by)
      both_by k (Fails place) by =
          both_of k (failure_step (codes k) place (host k))
          (lands.failure k (run.took k) (run.speaker k) (run.executed k) (codes k) place (host k) (step_so k (failure_step (codes k) place (host k)) by))
      both_by k (Ticks now) by =
          both_of k (tick_step (codes k) now (host k))
          (lands.tick k (run.took k) (run.speaker k) (run.executed k) (codes k) now (host k) (step_so k (tick_step (codes k) now (host k)) by))
      both_by k Rests by = (lands.rest_lands k by.jobs, lands.rest_holds k (held_same k by.same) by.deed)

      pub both_at : (k : ℕ) → Both k
      both_at k = both_by k (ways k) (goes k)

      module _ (all : VolumesLaws accepts whose s) (few : (k : ℕ) → (host k).state.machine.store.volume.writes < 2 ^ 32) where
        volume_by : (k : ℕ) (way : Way) → GoesBy (words k) s k (run.took k) (run.speaker k) (host k) (step k) way → VolumeOwes way s k
        volume_by k (Hears conn message now) by = tt
        volume_by k (Works place now) by =
            all.work k (run.took k) (run.speaker k) (run.executed k) (words k).started (codes k) place now (host k) by.before by.after (step k) (run.shows k) by.is (worked k place now by) (few k)
        volume_by k (Takes place message now) by =
            all.reply k (run.took k) (run.speaker k) (run.executed k) (codes k) (words k).finished place message now (host k) (step k) (run.shows k) by.is (taken k place message now by) (few k)
        volume_by k (Fails place) by =
            all.failure k (run.took k) (run.speaker k) (run.executed k) (codes k) place (host k) (step_so k (failure_step (codes k) place (host k)) by)
        volume_by k (Ticks now) by =
            all.tick k (run.took k) (run.speaker k) (run.executed k) (codes k) now (host k) (step_so k (tick_step (codes k) now (host k)) by)
        volume_by k Rests by =
            all.rest k (host k) (run.shows k).before (subst (λ (d : DestState M). Shows s (suc k) d) by.same (run.shows k).after) by.deed

        pub volume_at : (k : ℕ) → VolumeOwes (ways k) s k
        volume_at k = volume_by k (ways k) (goes k)

-- ---- what is awaited stays spelled

pub spelled_at : ((who : Identity) (means : Means) (moves : List MountStep) (a b : Above) (m n : Mounted) → IsRun who means moves a m b n → runs.AreSpelled means moves m → AreSpelled m → AreSpelled n)
    → (mounts : ℕ → Mounted) → AreSpelled (mounts 0) → ((k : ℕ) → GoesSpelled (mounts k) (mounts (suc k))) → (k : ℕ) → AreSpelled (mounts k)
spelled_at law mounts first goes zero = first
spelled_at law mounts first goes (suc k) =
    let g = goes k in
    law g.who g.means g.moves g.before g.after (mounts k) (mounts (suc k)) g.run g.spelled (spelled_at law mounts first goes k)
