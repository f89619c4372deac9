-- What stands between the run of a large copy and what is put of it. Own definitions.
use Rattle.std.specs.Prelude.{◌≡◌, ◌⊎◌, ℕ, true, false, Option, None, Some, List, length}
use Rattle.std.specs.String.{string_bytes}
use Rattle.nfscopy.specs.Notice.{mistaken_text, too_much_text}
use Rattle.nfscopy.specs.Summary.{summary_text}
use Rattle.command_line.specs.declared.ends.GenEnd.{GenEnd}
use Rattle.command_line.specs.declared.ends.GenEnd.TheVariants as ends
use Rattle.nfscopy.specs.declared.generate.Owed.{Owed}
use Rattle.nfscopy.specs.declared.generate.Summed.{Summed}
use Rattle.nfscopy.specs.declared.generate.Summed.TheVariants as summed
use Rattle.nfscopy.specs.declared.summary.Summary.{Summary}
use Rattle.run_ends.specs.Ends.{RunMachines}
use Rattle.volume_format.specs.Lines.{not_volume_text, small_text}
use Rattle.volume_format.specs.Puts.{AllPut, FrontPut, NonePut}
use Rattle.wire_machine.specs.Check.{Reading}
use Rattle.wire_run.specs.LargeRuns.Alike.{AreAlike, LeavesAll, MayDiffer}
use Rattle.wire_run.specs.LargeRuns.Large.{RunsLarge}
use Rattle.wire_run.specs.Running.{Later, Running}
use Rattle.wire_run.specs.declared.fresh.Unmade.TheVariants as unmade
use Rattle.wire_run.specs.declared.large_runs.large.Large.{Large}
use Rattle.wire_run.specs.declared.run.Ran.TheVariants as ran

-- ---- the run, summed up

-- a whole run, and a look at both files behind it
pub record IsSummary {D M : Type 0} (told : Type 0) (faults : D → ℕ) (mebibytes : ℕ) (middle new : Running D M) (large : Large) (summary : Summary) : Type 0 where
  pub whole : large.ran ≡ ran.Whole
  pub plan : summary.plan ≡ mebibytes
  pub records : summary.records ≡ length middle.log
  pub tally : summary.tally ≡ large.tally
  pub alike : told → summary.alike ≡ true → AreAlike middle
  pub unlike : told → summary.alike ≡ false → MayDiffer faults middle new
  pub still : told → LeavesAll middle new

abbrev pub IsSummed : {D M : Type 0} → (told : Type 0) → (faults : D → ℕ) → (mebibytes : ℕ) → Running D M → Running D M → Large → Summed → Type 0
IsSummed told faults mebibytes middle new large (summed.Whole summary) = IsSummary told faults mebibytes middle new large summary
IsSummed told faults mebibytes middle new large summed.OverLimit = ((line : ℕ) × (large.ran ≡ ran.OverLimit line)) × (new ≡ middle)
IsSummed told faults mebibytes middle new large (summed.Mistaken mistake) = (large.ran ≡ ran.Mistaken mistake) × (new ≡ middle)
IsSummed told faults mebibytes middle new large (summed.Unmade cause) = (large.ran ≡ ran.Unmade cause) × (new ≡ middle)

pub record Sums {D M : Type 0} (told : Type 0) (m : RunMachines M) (read : Reading) (faults size : D → ℕ) (mech : M) (mebibytes : ℕ)
    (old new : Running D M) (result : Summed) : Type 0 where
  pub middle : Running D M
  pub large : Large
  pub ran : RunsLarge told m read faults size mech mebibytes old middle large
  pub is : IsSummed told faults mebibytes middle new large result
  pub source : Later faults size 0 middle.source new.source
  pub dest : Later faults size 0 middle.dest new.dest

-- ---- what is put of it

pub record Owing : Type 0 where
  pub text : List ℕ
  pub end : GenEnd

abbrev pub owing : List ℕ → GenEnd → Option Owing
owing text end = Some (record { text = text; end = end })

-- the text that is owed, and the end that it goes with; nothing where a disk failed
abbrev pub owing_for : Summed → Option Owing
owing_for (summed.Whole summary) = owing (summary_text summary) ends.Done
owing_for summed.OverLimit = owing too_much_text ends.OverLimit
owing_for (summed.Mistaken mistake) = owing (mistaken_text mistake) ends.Mistaken
owing_for (summed.Unmade unmade.DiskFailed) = None
owing_for (summed.Unmade (unmade.TooSmall need have)) = owing (small_text need have) ends.NoVolume
owing_for (summed.Unmade (unmade.NotVolume block at)) = owing (not_volume_text block at) ends.NoVolume

-- the same, as the code has it
abbrev pub Owes : Option Owing → Option Owed → Type 0
Owes None None = Unit {0}
Owes (Some owing) (Some owed) = (string_bytes owed.text ≡ owing.text) × (owed.end ≡ owing.end)
Owes _ _ = ⊥

-- all of it was put, a front of it where the sink failed, or nothing for want of memory
abbrev pub OwedPut : Option (List ℕ) → Option (List ℕ) → (before now : ℕ) → Option Owing → GenEnd → Type 0
OwedPut old new before now None result = NonePut old new ends.DiskFault result ⊎ NonePut old new ends.NoMemory result
OwedPut old new before now (Some owing) result =
    AllPut old new owing.text owing.end result
    ⊎ (FrontPut ends.WriteFault old new before now owing.text result ⊎ NonePut old new ends.NoMemory result)
