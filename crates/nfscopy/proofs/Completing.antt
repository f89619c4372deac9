-- A run that nothing hinders is carried out whole: each other end has a cause that isn't there.
use Rattle.std.proofs.Common.{◌≡◌, ◌≢◌, ◌⊎◌, inl, inr, ℕ, zero, suc, List, refl, arith}
use Rattle.std.specs.Prelude.{Option, None, Some, Ok, Err}
use Rattle.nfs_base.specs.declared.side.Side.TheVariants.{Source, Dest}
use Rattle.outcome.specs.Causes.{Rose, RoseBy}
use Rattle.wire_machine.specs.Runs.{End, MistakenBy, Numbered, TooLargeAt, Whole}
use Rattle.wire_machine.specs.declared.mistake.Mistake.{Mistake}
use Rattle.wire_run.specs.Fresh.{Small}
use Rattle.wire_run.specs.Run.{Did, ScheduleRuns, Volumes}
use Rattle.wire_run.specs.Running.{faults_in}
use Rattle.nfscopy.specs.GenEnds.{GenCarriesOut, GenCompletes, GenEndIs, GenEnds, GenRuns, gen_events}
use Rattle.nfscopy.specs.Input.{Input}
use Rattle.volume_format.specs.DiskWords.{DiskWords}
use Rattle.nfscopy.specs.Outside.{Outside}
use Rattle.nfscopy.specs.RunEnds.{Blamed, CarriesOut, Completes, IsUnhindered, PutsRun, RunEndIs, RunWords, small_of}
use Rattle.command_line.specs.declared.ends.GenEnd.{GenEnd}
use Rattle.command_line.specs.declared.ends.GenEnd.TheVariants as gen
use Rattle.command_line.specs.declared.ends.RunEnd.{RunEnd}
use Rattle.command_line.specs.declared.ends.RunEnd.TheVariants as ends

-- a count that didn't rise rose by none
rose_by_none : (n before now : ℕ) → RoseBy n before now → (Rose before now → ⊥) → n ≡ 0
rose_by_none zero before now rose still = refl
rose_by_none (suc n) before now rose still = absurd (still (omega (arith, rose)))

too_large_is_not_whole : (line : ℕ) → TooLargeAt line ≡ Whole → ⊥
too_large_is_not_whole line e = cc

mistaken_is_not_whole : (mistake : Mistake) → MistakenBy mistake ≡ Whole → ⊥
mistaken_is_not_whole mistake e = cc

some_is_not_none : (small : Option Small) (first : Small) → small ≡ Some first → small ≡ None → ⊥
some_is_not_none small first some none = cc

module _ {D M : Type 0} (w : DiskWords D) (r : RunWords M) (before now : Outside D) where
  run_whole : (events : List Numbered) (did : Did) (end : End) (lines : List ℕ) (records : ℕ) (last : Volumes)
      → IsUnhindered w r before now events → Blamed w r before now did → ScheduleRuns r.machines r.read r.mech events did end lines records last → end ≡ Whole
  run_whole events did end lines records last free blamed runs =
      free.whole did end lines records last runs
      (rose_by_none (did.failed Source) (faults_in w.faults before.source) (faults_in w.faults now.source) blamed.source.rose (λ rose. free.disks (inl rose)))
      (rose_by_none (did.failed Dest) (faults_in w.faults before.dest) (faults_in w.faults now.dest) blamed.dest.rose (λ rose. free.disks (inr rose)))

  ended_whole : (events : List Numbered) (did : Did) (end : End) → IsUnhindered w r before now events → Blamed w r before now did
      → PutsRun w r before now did events end → end ≡ Whole
  ended_whole events did end free blamed put = run_whole events did end put.lines put.records put.last free blamed put.runs

  free_ends : (events : List Numbered) (did : Did) (end : RunEnd) → (end ≢ ends.NoMemory → Blamed w r before now did)
      → RunEndIs w r before now (Some (Ok events)) did end → IsUnhindered w r before now events → (end ≡ ends.Done) ⊎ (end ≡ ends.NoMemory)
  free_ends events did ends.Done blamed is free = inl refl
  free_ends events did ends.Refused blamed is free = absurd is.0
  free_ends events did ends.OverLimit blamed is free =
      absurd (too_large_is_not_whole is.line (ended_whole events did (TooLargeAt is.line) free (blamed (λ e. absurd cc)) (is.ran free.told)))
  free_ends events did ends.Mistaken blamed is free =
      absurd (mistaken_is_not_whole is.mistake (ended_whole events did (MistakenBy is.mistake) free (blamed (λ e. absurd cc)) (is.ran free.told)))
  free_ends events did ends.ReadFault blamed is free = absurd (free.reads is.0)
  free_ends events did ends.WriteFault blamed is free = absurd (free.writes is.0)
  free_ends events did ends.NoMemory blamed is free = inr refl
  free_ends events did ends.DiskFault blamed is free = absurd (free.disks is.0)
  free_ends events did ends.NoVolume blamed is free =
      elim is [
        | inl short ↦ absurd (some_is_not_none (small_of w r before events) short.first short.is free.room)
        | inr other ↦ elim other [
          | inl unreadable ↦ absurd (unreadable.untold free.told)
          | inr unopened ↦ absurd (unopened.untold free.told)
        ]
      ]

  input_completes : (input : Option Input) (end : RunEnd) → CarriesOut w r before now input end → Completes w r before now input end
  input_completes None end out = tt
  input_completes (Some (Ok events)) end out = free_ends events out.did end out.blamed out.is
  input_completes (Some (Err line)) end out = tt

  pub with_completeness : (input : Option Input) (end : RunEnd) → CarriesOut w r before now input end
      → CarriesOut w r before now input end × Completes w r before now input end
  with_completeness input end out = (out, input_completes input end out)

  -- ---- the run of a large copy

  module _ (mebibytes : ℕ) where
    gen_whole : (did : Did) (end : End) → IsUnhindered w r before now (gen_events mebibytes) → Blamed w r before now did
        → GenRuns w r mebibytes did end → end ≡ Whole
    gen_whole did end free blamed run = run_whole (gen_events mebibytes) did end run.lines run.records run.last free blamed run.runs

    gen_ends : (did : Did) (end : GenEnd) → (end ≢ gen.NoMemory → Blamed w r before now did) → GenEndIs w r mebibytes before now did end
        → GenCompletes w r mebibytes before now end
    gen_ends did gen.Done blamed is free = inl refl
    gen_ends did gen.OverLimit blamed is free =
        let large = is.owed.1 free.told in
        absurd (too_large_is_not_whole large.0 (gen_whole did (TooLargeAt large.0) free (blamed (λ e. absurd cc)) large.1))
    gen_ends did gen.Mistaken blamed is free =
        absurd (mistaken_is_not_whole is.owed.0 (gen_whole did (MistakenBy is.owed.0) free (blamed (λ e. absurd cc)) (is.owed.2 free.told)))
    gen_ends did gen.WriteFault blamed is free = absurd (free.writes is.0)
    gen_ends did gen.NoMemory blamed is free = inr refl
    gen_ends did gen.DiskFault blamed is free = absurd (free.disks is.0)
    gen_ends did gen.NoVolume blamed is free =
        elim is.owed [
          | inl short ↦ absurd (some_is_not_none (small_of w r before (gen_events mebibytes)) short.first short.is free.room)
          | inr unreadable ↦ absurd (unreadable.untold free.told)
        ]

    pub gen_completes : (end : GenEnd) → GenCarriesOut w r mebibytes before now end → GenEnds w r mebibytes before now end
    gen_completes end out = (out, gen_ends out.did end out.blamed out.is)
