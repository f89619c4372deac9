-- How `run` ends: for each end why it came, what was put, and what became of the disks.
use Rattle.std.specs.Prelude.{◌≡◌, ◌≢◌, ◌⊎◌, ◌≤◌, ◌+◌, ℕ, true, false, Option, None, Some, is_some, Ok, Err, List, ◌++◌, take, option_map}
use Rattle.std.specs.Io.KnownBytes.{Keeps, Appends, IsAtEnd}
use Rattle.std.specs.List.{list_any}
use Rattle.outcome.specs.Causes.{Rose}
use Rattle.streams.specs.Sink.{AppendsFront}
use Rattle.nfs_base.specs.declared.side.Side.TheVariants.{Source, Dest}
use Rattle.wire_machine.specs.Check.{Reading}
use Rattle.wire_machine.specs.Runs.{End, Numbered, Whole, TooLargeAt, MistakenBy, last_line}
use Rattle.wire_machine.specs.declared.choice.Choice.{Choice}
use Rattle.wire_machine.specs.declared.mistake.Mistake.{Mistake}
use Rattle.gss_ctx.specs.Seals.{Mic}
use Rattle.gss_mech.specs.declared.mechanism.Accepted.{Accepted}
use Rattle.wire_log.specs.Keeping.{reading}
use Rattle.run_promise.specs.Promise.{KeepsPromise}
use Rattle.run_ends.specs.Ends.{RunMachines, Words, count_gives, run_machines, words_of}
use Rattle.wire_run.specs.Fresh.{Small}
use Rattle.wire_run.specs.Run.{Did, IsBefore, RunsFront, ScheduleRuns, Volumes, asks_for, first_small, is_stop, stops_in}
use Rattle.wire_run.specs.System.{DiskHolds}
use Rattle.run_ends.specs.declared.setting.TheConstants.{SOURCE_TAG, DEST_TAG}
use Rattle.wire_run.specs.Running.{Later, failed_steps, size_in}
use Rattle.command_line.specs.declared.ends.RunEnd.{RunEnd}
use Rattle.command_line.specs.declared.ends.RunEnd.TheVariants as ends
use Rattle.nfscopy.specs.Input.{Input, asked, IfSchedule, IfRefused}
use Rattle.volume_format.specs.Lines.{not_volume_text, small_text}
use Rattle.volume_format.specs.DiskWords.{DiskWords}
use Rattle.nfscopy.specs.Outside.{Outside, SameDisks, DiskRose, disk_at}

-- The machines of a run, by what the mechanism tells of itself, which are its words.
pub record RunWords (M : Type 0) : Type 1 where
  pub words : Words M ℕ
  pub machines : RunMachines M
  pub read : Reading
  pub mech : M

abbrev pub run_words : {M : Type 0} → M → Mic → (List ℕ → ℕ → List ℕ → List ℕ) → (M → List ℕ → List ℕ → Option (List ℕ)) → (M → List ℕ → List ℕ → Option Accepted)
    → (M → List ℕ → List ℕ → List ℕ → Option (List ℕ)) → RunWords M
run_words mech mic derived started accepted finished =
    record {
      words = words_of mic derived started accepted finished count_gives;
      machines = run_machines mic derived started accepted finished;
      read = reading;
      mech = mech;
    }

-- ---- what is promised

-- Each run of these events, of all of them or of the first so many, keeps the promise.
pub record RunsKeep {M : Type 0} (r : RunWords M) (events : List Numbered) : Type 0 where
  pub whole : (did : Did) (end : End) (lines : List ℕ) (records : ℕ) (last : Volumes)
      (run : ScheduleRuns r.machines r.read r.mech events did end lines records last) → KeepsPromise r.words r.mech run.first run.steps
  pub front : (done : ℕ) (did : Did) (end : End) (lines : List ℕ) (records : ℕ) (last : Volumes)
      (run : ScheduleRuns r.machines r.read r.mech (take done events) did end lines records last) → KeepsPromise r.words r.mech run.first run.steps

-- and so does each run of what an input asks for, where it is told and a schedule
abbrev pub KeepsIf : {M : Type 0} → RunWords M → Option Input → Type 0
KeepsIf r None = Unit {0}
KeepsIf r (Some (Ok events)) = RunsKeep r events
KeepsIf r (Some (Err line)) = Unit {0}

-- ---- how it ends

module _ {D M : Type 0} (w : DiskWords D) (r : RunWords M) where
  -- the run of a schedule ends so, and all that is due was put
  pub record PutsRun (before now : Outside D) (did : Did) (events : List Numbered) (end : End) : Type 0 where
    pub lines : List ℕ
    pub records : ℕ
    pub last : Volumes
    pub runs : ScheduleRuns r.machines r.read r.mech events did end lines records last
    pub puts : Appends before.taken now.taken (lines ++ last_line records end)

  -- a whole run; the disk of each server for which the schedule asks holds its last files
  pub record PutsHolding (before now : Outside D) (did : Did) (events : List Numbered) : Type 0 where
    pub run : PutsRun before now did events Whole
    pub source : asks_for Source events ≡ true → DiskHolds w.timeline w.size SOURCE_TAG run.last.source now.source
    pub dest : asks_for Dest events ≡ true → DiskHolds w.timeline w.size DEST_TAG run.last.dest now.dest

  -- the first volume of a schedule for which its disk is too small
  abbrev pub small_of : Outside D → List Numbered → Option Small
  small_of before events = first_small (size_in w.size before.source) (size_in w.size before.dest) events

  -- status 0: all of the input was read, it is a schedule, each disk has room, all of its run was carried out and put, and
  -- the disks hold what it left
  pub record RunDone (before now : Outside D) (did : Did) (events : List Numbered) : Type 0 where
    pub read : IsAtEnd now.left
    pub room : small_of before events ≡ None
    pub ran : w.told → PutsHolding before now did events

  -- status 2: the records have too many bytes from a line on
  pub record RunOver (before now : Outside D) (did : Did) (events : List Numbered) : Type 0 where
    pub line : ℕ
    pub ran : w.told → PutsRun before now did events (TooLargeAt line)

  -- status 10: a record was taken by mistake
  pub record RunMistaken (before now : Outside D) (did : Did) (events : List Numbered) : Type 0 where
    pub mistake : Mistake
    pub ran : w.told → PutsRun before now did events (MistakenBy mistake)

  -- a front of the line of a disk that is too small
  abbrev pub FrontOfSmall : Outside D → Outside D → Option Small → Type 0
  FrontOfSmall before now None = ⊥
  FrontOfSmall before now (Some small) = AppendsFront before.taken now.taken (small_text small.need small.have)

  -- Nothing was put, or a front of what the input is owed: of its transcript, or of one line.
  abbrev pub PutsFront : Outside D → Outside D → Option Input → Did → Type 0
  PutsFront before now None did = Unit {0}
  PutsFront before now (Some (Ok events)) did =
      w.told → Keeps before.taken now.taken ⊎ (RunsFront r.machines r.read r.mech events did before.taken now.taken ⊎ FrontOfSmall before now (small_of before events))
  PutsFront before now (Some (Err line)) did = AppendsFront before.taken now.taken line × SameDisks before now

  -- status 7: a disk is too small for its volume, and is as it was, or one didn't give back what was written
  pub record PutsSmall (before now : Outside D) (small : Option Small) : Type 0 where
    pub first : Small
    pub is : small ≡ Some first
    pub puts : Appends before.taken now.taken (small_text first.need first.have)
    pub untouched : disk_at now first.side ≡ disk_at before first.side

  pub record PutsUnreadable (before now : Outside D) : Type 0 where
    pub untold : w.told → ⊥
    pub block : ℕ
    pub at : ℕ
    pub puts : Appends before.taken now.taken (not_volume_text block at)

  -- Of a schedule with a line `crash`, all lines of so many first events were put. A run ends so where a server that stopped couldn't be
  -- opened anew; that one did isn't said.
  pub record PutsBefore (before now : Outside D) (events : List Numbered) : Type 0 where
    pub stops : stops_in events ≡ true
    pub lines : List ℕ
    pub puts : Appends before.taken now.taken lines
    pub are : w.told → IsBefore r.machines r.read r.mech events lines

  -- the same, where its disk didn't give back what was written, which is told by a last line
  pub record PutsUnopened (before now : Outside D) (events : List Numbered) : Type 0 where
    pub untold : w.told → ⊥
    pub stops : stops_in events ≡ true
    pub block : ℕ
    pub at : ℕ
    pub lines : List ℕ
    pub puts : Appends before.taken now.taken (lines ++ not_volume_text block at)

  -- what an end says; want of memory, which is status 5, has no cause
  abbrev pub RunEndIs : Outside D → Outside D → Option Input → Did → RunEnd → Type 0
  RunEndIs before now input did ends.Done = IfSchedule input (RunDone before now did)
  RunEndIs before now input did ends.Refused = IfRefused input (Appends before.taken now.taken) × SameDisks before now
  RunEndIs before now input did ends.OverLimit = IfSchedule input (RunOver before now did)
  RunEndIs before now input did ends.Mistaken = IfSchedule input (RunMistaken before now did)
  RunEndIs before now input did ends.ReadFault = Rose before.reads now.reads × Keeps before.taken now.taken × SameDisks before now
  RunEndIs before now input did ends.WriteFault = Rose before.writes now.writes × PutsFront before now input did
  RunEndIs before now input did ends.NoMemory = PutsFront before now input did
  RunEndIs before now input did ends.DiskFault =
      DiskRose w before now × IfSchedule input (λ events. Keeps before.taken now.taken ⊎ PutsBefore before now events)
  RunEndIs before now input did ends.NoVolume =
      IfSchedule input (λ events. PutsSmall before now (small_of before events) ⊎ (PutsUnreadable before now ⊎ PutsUnopened before now events))

  -- The disks that were handed in are handed back, as large as before; and whatever a disk tells of what it holds, no more calls of a
  -- run failed at it than its count of faults rose by. Each small step in which a call failed is one at a disk.
  pub record Blamed (before now : Outside D) (did : Did) : Type 0 where
    pub source_back : is_some now.source ≡ is_some before.source
    pub dest_back : is_some now.dest ≡ is_some before.dest
    pub source : Later w.faults w.size (did.failed Source) before.source now.source
    pub dest : Later w.faults w.size (did.failed Dest) before.dest now.dest
    pub blamed : failed_steps did.choices ≤ did.failed Source + did.failed Dest

  -- No small step stopped a server, unless a line of the schedule asks for that.
  abbrev pub StopsAsked : Option Input → Did → Type 0
  StopsAsked None did = Unit {0}
  StopsAsked (Some (Ok events)) did = stops_in events ≡ false → list_any (λ (choice : Choice). is_stop choice) did.choices ≡ false
  StopsAsked (Some (Err line)) did = Unit {0}

  -- What became of an input that is told or not, with the run's own choices.
  pub record CarriesOut (before now : Outside D) (input : Option Input) (end : RunEnd) : Type 0 where
    pub did : Did
    pub blamed : end ≢ ends.NoMemory → Blamed before now did
    pub asked : end ≢ ends.NoMemory → StopsAsked input did
    pub is : RunEndIs before now input did end

  -- Nothing hinders the run of a schedule: its disks tell what they hold and have room for their volumes, no count of faults rises,
  -- and no run of it in which no call of a disk fails has too many bytes of records or takes a record by mistake.
  pub record IsUnhindered (before now : Outside D) (events : List Numbered) : Type 0 where
    pub told : w.told
    pub room : small_of before events ≡ None
    pub reads : Rose before.reads now.reads → ⊥
    pub writes : Rose before.writes now.writes → ⊥
    pub disks : DiskRose w before now → ⊥
    pub whole : (did : Did) (end : End) (lines : List ℕ) (records : ℕ) (last : Volumes)
        → ScheduleRuns r.machines r.read r.mech events did end lines records last → did.failed Source ≡ 0 → did.failed Dest ≡ 0 → end ≡ Whole

  -- Then it is carried out, and all its lines are put, but for want of memory.
  abbrev pub Completes : Outside D → Outside D → Option Input → RunEnd → Type 0
  Completes before now None end = Unit {0}
  Completes before now (Some (Ok events)) end = IsUnhindered before now events → (end ≡ ends.Done) ⊎ (end ≡ ends.NoMemory)
  Completes before now (Some (Err line)) end = Unit {0}

  -- How `run` ends: what became of the input, where its source tells it.
  abbrev pub RunEnds : Outside D → Outside D → RunEnd → Type 0
  RunEnds before now end = CarriesOut before now (option_map asked before.left) end × Completes before now (option_map asked before.left) end
