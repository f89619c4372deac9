-- How `gen` ends: for each end why it came, what was put, and what became of the disks.
use Rattle.std.specs.Prelude.{◌≡◌, ◌≢◌, ◌⊎◌, ◌+◌, ℕ, true, false, None, Some, List, ◌++◌}
use Rattle.std.specs.Io.KnownBytes.{Keeps, Appends}
use Rattle.std.specs.List.{list_any}
use Rattle.outcome.specs.Causes.{Rose, RoseBy}
use Rattle.streams.specs.Sink.{AppendsFront}
use Rattle.copy_model.specs.Volume.{file_at}
use Rattle.large_copy.specs.Large.{large_events}
use Rattle.nfs_base.specs.declared.side.Side.{Side}
use Rattle.nfs_base.specs.declared.side.Side.TheVariants.{Source, Dest}
use Rattle.wire_machine.specs.Runs.{End, MistakenBy, Numbered, TooLargeAt, Whole, last_line, numbered}
use Rattle.wire_machine.specs.declared.choice.Choice.{Choice}
use Rattle.wire_machine.specs.declared.mistake.Mistake.{Mistake}
use Rattle.wire_run.specs.Fresh.{Small}
use Rattle.wire_run.specs.Run.{Did, ScheduleRuns, Volumes, is_stop, volume_in}
use Rattle.wire_run.specs.Running.{faults_in}
use Rattle.wire_run.specs.System.{DiskHolds}
use Rattle.run_ends.specs.declared.setting.TheConstants.{SOURCE_TAG, DEST_TAG}
use Rattle.wire_tally.specs.Tally.{no_tally, tallied}
use Rattle.volume_format.specs.Lines.{not_volume_text, small_text}
use Rattle.nfscopy.specs.Notice.{mistaken_text, too_much_text}
use Rattle.volume_format.specs.DiskWords.{DiskWords}
use Rattle.nfscopy.specs.Outside.{DiskRose, Outside, disk_at}
use Rattle.nfscopy.specs.RunEnds.{Blamed, IsUnhindered, RunWords, small_of}
use Rattle.nfscopy.specs.Summary.{summary_text}
use Rattle.command_line.specs.declared.ends.GenEnd.{GenEnd}
use Rattle.command_line.specs.declared.ends.GenEnd.TheVariants as ends
use Rattle.nfscopy.specs.declared.summary.Summary.{Summary}

-- the events of the schedule of a large copy, as those of one line
abbrev pub gen_events : ℕ → List Numbered
gen_events mebibytes = numbered 1 (large_events mebibytes)

module _ {D M : Type 0} (w : DiskWords D) (r : RunWords M) (mebibytes : ℕ) where
  -- the run of that schedule ends so
  pub record GenRuns (did : Did) (end : End) : Type 0 where
    pub lines : List ℕ
    pub records : ℕ
    pub last : Volumes
    pub runs : ScheduleRuns r.machines r.read r.mech (gen_events mebibytes) did end lines records last

  -- ---- what the summary says

  -- A server's file wasn't read whole: its volume is broken, or its disk's count of faults rose once more than calls of the run failed there.
  abbrev pub IsUnread : Outside D → Outside D → Did → Volumes → Side → Type 0
  IsUnread before now did last side =
      ((volume_in last side).broken ≡ true)
      ⊎ RoseBy (did.failed side + 1) (faults_in w.faults (disk_at before side)) (faults_in w.faults (disk_at now side))

  -- file 1 of both servers, at the end of the run
  abbrev pub AreEqual : Volumes → Type 0
  AreEqual last = (file_at last.source 1).now ≡ (file_at last.dest 1).now

  abbrev pub MayDiffer : Outside D → Outside D → Did → Volumes → Type 0
  MayDiffer before now did last =
      ((file_at last.source 1).now ≢ (file_at last.dest 1).now)
      ⊎ (IsUnread before now did last Source ⊎ IsUnread before now did last Dest)

  -- A whole run. Each number is counted in its records, or in the transcript that `run` puts of it; the files are called equal only where
  -- they are, and unequal only where they differ or one wasn't read; and the disks hold what the run left.
  pub record Counts (before now : Outside D) (did : Did) (summary : Summary) : Type 0 where
    pub run : GenRuns did Whole
    pub records : summary.records ≡ run.records
    pub tally : summary.tally ≡ tallied (run.lines ++ last_line run.records Whole) no_tally
    pub equal : summary.alike ≡ true → AreEqual run.last
    pub unequal : summary.alike ≡ false → MayDiffer before now did run.last
    pub source : DiskHolds w.timeline w.size SOURCE_TAG run.last.source now.source
    pub dest : DiskHolds w.timeline w.size DEST_TAG run.last.dest now.dest

  pub record SumsUp (before now : Outside D) (did : Did) (summary : Summary) : Type 0 where
    pub plan : summary.plan ≡ mebibytes
    pub room : small_of w r before (gen_events mebibytes) ≡ None
    pub counts : w.told → Counts before now did summary

  -- ---- what is owed

  -- the line of the first volume for which its disk is too small; that disk is as it was
  pub record IsShort (before now : Outside D) (text : List ℕ) : Type 0 where
    pub first : Small
    pub is : small_of w r before (gen_events mebibytes) ≡ Some first
    pub line : text ≡ small_text first.need first.have
    pub untouched : disk_at now first.side ≡ disk_at before first.side

  -- the line of a disk that didn't give back what was written
  pub record IsUnreadable (text : List ℕ) : Type 0 where
    pub untold : w.told → ⊥
    pub block : ℕ
    pub at : ℕ
    pub line : text ≡ not_volume_text block at

  -- status 0 owes the summary; status 2 a line, where the records have too many bytes; status 10 the line of a record that was taken by
  -- mistake; status 7 that of a disk that is too small, or didn't give back what was written
  abbrev pub Owes : Outside D → Outside D → Did → GenEnd → List ℕ → Type 0
  Owes before now did ends.Done text = (summary : Summary) × (text ≡ summary_text summary) × SumsUp before now did summary
  Owes before now did ends.OverLimit text = (text ≡ too_much_text) × (w.told → (line : ℕ) × GenRuns did (TooLargeAt line))
  Owes before now did ends.Mistaken text = (mistake : Mistake) × (text ≡ mistaken_text mistake) × (w.told → GenRuns did (MistakenBy mistake))
  Owes before now did ends.NoVolume text = IsShort before now text ⊎ IsUnreadable text
  Owes before now did end text = ⊥

  -- a front of what an end owes
  pub record PutsFrontOf (before now : Outside D) (did : Did) : Type 0 where
    pub due : GenEnd
    pub text : List ℕ
    pub owed : Owes before now did due text
    pub puts : AppendsFront before.taken now.taken text

  -- what an end owes
  pub record PutsAllOf (before now : Outside D) (did : Did) (due : GenEnd) : Type 0 where
    pub text : List ℕ
    pub owed : Owes before now did due text
    pub puts : Appends before.taken now.taken text

  -- what an end says; want of memory, which is status 5, has no cause
  abbrev pub GenEndIs : Outside D → Outside D → Did → GenEnd → Type 0
  GenEndIs before now did ends.WriteFault = Rose before.writes now.writes × PutsFrontOf before now did
  GenEndIs before now did ends.NoMemory = Keeps before.taken now.taken
  GenEndIs before now did ends.DiskFault = DiskRose w before now × Keeps before.taken now.taken
  GenEndIs before now did end = PutsAllOf before now did end

  -- What became of the schedule, with the run's own choices. No server stops in it.
  pub record GenCarriesOut (before now : Outside D) (end : GenEnd) : Type 0 where
    pub did : Did
    pub blamed : end ≢ ends.NoMemory → Blamed w r before now did
    pub unstopped : end ≢ ends.NoMemory → list_any (λ (choice : Choice). is_stop choice) did.choices ≡ false
    pub is : GenEndIs before now did end

  -- where nothing hinders its run, the summary is put, but for want of memory
  abbrev pub GenCompletes : Outside D → Outside D → GenEnd → Type 0
  GenCompletes before now end = IsUnhindered w r before now (gen_events mebibytes) → (end ≡ ends.Done) ⊎ (end ≡ ends.NoMemory)

  abbrev pub GenEnds : Outside D → Outside D → GenEnd → Type 0
  GenEnds before now end = GenCarriesOut before now end × GenCompletes before now end
