-- How `gen` ends, put together from the run of the large copy, what was counted of it, and what was put.
use Rattle.std.proofs.Common.{◌≡◌, ◌≢◌, inl, inr, ℕ, ◌+◌, ◌≤◌, Bool, ◌||◌, List, [], ◌∷◌, true, false, refl, sym, ◌∙◌, ap, subst, arith}
use Rattle.std.specs.Prelude.{Option, None, Some, IfSome, is_some}
use Rattle.std.specs.Io.KnownBytes.{Appends, Keeps}
use Rattle.std.proofs.lemmas.Bool.{or_parts}
use Rattle.std.specs.List.{list_any}
use Rattle.std.specs.Option.{option_map_or}
use Rattle.copy_model.specs.Volume.{Volume, file_at}
use Rattle.large_copy.specs.Large.{blocks_of, is_crash, large_events, large_schedule}
use Rattle.nfs_base.specs.declared.side.Side.{Side}
use Rattle.nfs_base.specs.declared.side.Side.TheVariants.{Source, Dest}
use Rattle.nfscopy.proofs.Ending.{held, moved, no_did, small_at}
use Rattle.nfscopy.specs.Ends.{Ends}
use Rattle.port_commands.specs.Copying.{CopyWords}
use Rattle.port_commands.specs.Serving.{ServiceWords}
use Rattle.command_line.specs.ExitStatus.{EndsAs, gen_status}
use Rattle.nfscopy.specs.GenEnds.{Counts, GenCarriesOut, GenEndIs, GenEnds, IsUnread, MayDiffer, Owes, gen_events}
use Rattle.nfscopy.specs.Outside.{DiskRose, Outside, disk_at}
use Rattle.nfscopy.specs.RunEnds.{Blamed, RunWords, RunsKeep}
use Rattle.nfscopy.specs.Summing.{IsSummary, IsSummed, Owing, OwedPut, Sums, owing_for}
use Rattle.command_line.specs.declared.command.Command.{Command}
use Rattle.command_line.specs.declared.command.Command.TheVariants.{Gen}
use Rattle.command_line.specs.declared.ends.GenEnd.{GenEnd}
use Rattle.command_line.specs.declared.ends.GenEnd.TheVariants as ends
use Rattle.nfscopy.specs.declared.generate.Summed.{Summed}
use Rattle.nfscopy.specs.declared.generate.Summed.TheVariants as summed
use Rattle.nfscopy.specs.declared.summary.Summary.{Summary}
use Rattle.outcome.specs.Causes.{Rose, RoseBy}
use Rattle.run_ends.specs.Ends.{RunMachines}
use Rattle.run_ends.specs.declared.setting.TheConstants.{SOURCE_TAG, DEST_TAG}
use Rattle.volume_format.specs.DiskWords.{DiskWords}
use Rattle.wire_machine.specs.Check.{Reading}
use Rattle.wire_machine.specs.Runs.{numbered}
use Rattle.wire_machine.specs.declared.choice.Choice.{Choice}
use Rattle.wire_machine.specs.declared.mistake.Mistake.{Mistake}
use Rattle.wire_run.specs.LargeRuns.Alike as found
use Rattle.wire_run.specs.LargeRuns.Large.{RunsLarge}
use Rattle.wire_run.specs.Run.{Did, RanHasCause, RanIs, asks_for, is_stop, stops_in, stops_server, volume_in}
use Rattle.wire_run.specs.Running.{HasDisks, Later, Running, disk_of, faults_in}
use Rattle.wire_run.specs.System.{Holds, shown_at}
use Rattle.wire_run.specs.declared.fresh.Unmade.TheVariants as unmade
use Rattle.wire_run.specs.declared.fresh.Unmade.{Unmade}
use Rattle.wire_run.specs.declared.large_runs.large.Large.{Large}
use Rattle.wire_run.specs.declared.run.Ran.{Ran}
use Rattle.wire_run.specs.declared.run.Ran.TheVariants as ran
use Rattle.wire_schedule.specs.Expansion.{events_of_all}
use Rattle.wire_schedule.specs.ScheduleText.{entry}
use Rattle.wire_schedule.specs.declared.directive.Directive.TheVariants.{Once}
use Rattle.wire_schedule.specs.declared.directive.Entry.{Entry}
use Rattle.wire_schedule.specs.declared.event.Event.{Event}
use Rattle.wire_schedule.specs.declared.event.Event.TheVariants as kinds
use Rattle.wire_tally.specs.Tally.{no_tally, tallied}

-- ---- counts of faults

later_more : {D : Type 0} (faults size : D → ℕ) (n : ℕ) (a b c : Option D) → Later faults size n a b → Later faults size 0 b c → Later faults size n a c
later_more faults size n a b c first then =
    record {
      there = then.there ∙ first.there;
      rose = omega (arith, first.rose, then.rose);
      as_large = then.as_large ∙ first.as_large;
    }

later_same : {D : Type 0} (faults size : D → ℕ) (d : Option D) → Later faults size 0 d d
later_same faults size d = record { there = refl; rose = omega arith; as_large = refl }

rose_once_more : (n a b c : ℕ) → RoseBy n a b → Rose b c → RoseBy (n + 1) a c
rose_once_more n a b c first then = omega (arith, first, then)

-- ---- a run that wasn't whole, behind which nothing was done

module _ {D M : Type 0} (told : Type 0) (m : RunMachines M) (read : Reading) (faults size : D → ℕ) (mech : M) (mebibytes : ℕ) (old new : Running D M) (large : Large) where
  pub ended : (result : Summed) → RunsLarge told m read faults size mech mebibytes old new large → IsSummed told faults mebibytes new new large result
      → Sums told m read faults size mech mebibytes old new result
  ended result runs is =
      record {
        middle = new;
        large = large;
        ran = runs;
        is = is;
        source = later_same faults size new.source;
        dest = later_same faults size new.dest;
      }

-- ---- both files

-- what is said of both files is said of those of these volumes
of_these : (a b : Option Volume) (s d : Volume) (holds : List ℕ → List ℕ → Type 0) → a ≡ Some s → b ≡ Some d
    → IfSome a (λ (x : Volume). IfSome b (λ (y : Volume). holds (file_at x 1).now (file_at y 1).now)) → holds (file_at s 1).now (file_at d 1).now
of_these a b s d holds a_is b_is both =
    subst (λ (o : Option Volume). IfSome o (λ (y : Volume). holds (file_at s 1).now (file_at y 1).now)) b_is
    (subst (λ (o : Option Volume). IfSome o (λ (x : Volume). IfSome b (λ (y : Volume). holds (file_at x 1).now (file_at y 1).now))) a_is both)

broken_in : (shown : Option Volume) (v : Volume) → shown ≡ Some v → option_map_or (λ (x : Volume). x.broken) shown false ≡ true → v.broken ≡ true
broken_in shown v is broken = sym (ap (λ (o : Option Volume). option_map_or (λ (x : Volume). x.broken) o false) is) ∙ broken

-- ---- the schedule asks for both servers

pub asks_by : (mebibytes : ℕ) (more : List Entry) (side : Side)
    → large_schedule mebibytes ≡ entry 1 (Once (kinds.Volume Source 1 (blocks_of mebibytes))) ∷ entry 2 (Once (kinds.Volume Dest 1 (blocks_of mebibytes))) ∷ more
    → asks_for side (gen_events mebibytes) ≡ true
asks_by mebibytes more Source is = ap (λ (entries : List Entry). asks_for Source (numbered 1 (events_of_all entries))) is
asks_by mebibytes more Dest is = ap (λ (entries : List Entry). asks_for Dest (numbered 1 (events_of_all entries))) is

-- ---- it stops no server

-- an event that is no crash doesn't
unstopping : (event : Event) → is_crash event ≡ false → stops_server event ≡ false
unstopping (kinds.Volume side files blocks) none = refl
unstopping (kinds.Write side file off bytes) none = refl
unstopping (kinds.Commit side file) none = refl
unstopping (kinds.Copy copy spec) none = refl
unstopping (kinds.Status copy) none = refl
unstopping (kinds.Cancel copy) none = refl
unstopping kinds.Retry none = refl
unstopping (kinds.Deliver number) none = refl
unstopping kinds.Flow none = refl
unstopping (kinds.Work worker) none = refl
unstopping (kinds.Tick seconds) none = refl
unstopping (kinds.Peek side file off len) none = refl
unstopping (kinds.Crash side pick) none = absurd cc
unstopping (kinds.CrashAfter side calls pick) none = absurd cc

none_of : (line : ℕ) (events : List Event) → list_any is_crash events ≡ false → stops_in (numbered line events) ≡ false
none_of line [] none = refl
none_of line (event ∷ events) none =
    let parts = or_parts (is_crash event) (list_any is_crash events) none in
    ap (λ (b : Bool). b || stops_in (numbered line events)) (unstopping event parts.0) ∙ none_of line events parts.1

pub quiet_by : (mebibytes : ℕ) → list_any is_crash (large_events mebibytes) ≡ false → stops_in (gen_events mebibytes) ≡ false
quiet_by mebibytes none = none_of 1 (large_events mebibytes) none

-- so no run of it loses one
pub never_lost : {D M : Type 0} (told : Type 0) (m : RunMachines M) (read : Reading) (faults size : D → ℕ) (mech : M) (mebibytes : ℕ) (old new : Running D M) (large : Large)
    (cause : Unmade) → RunsLarge told m read faults size mech mebibytes old new large → large.ran ≡ ran.Lost cause
    → list_any is_crash (large_events mebibytes) ≡ false → ⊥
never_lost told m read faults size mech mebibytes old new large cause runs is none =
    let lost = subst (λ (x : Ran). RanIs told m read faults size mech (gen_events mebibytes) old new (Some []) (Some runs.lines) x) is runs.is in
    let stops = lost.puts.1 in
    let quiet = quiet_by mebibytes none in
    cc

-- ---- the end

module _ {D M : Type 0} (w : DiskWords D) (r : RunWords M) (mebibytes : ℕ) (before now : Outside D) where
  -- no small step of what was done stopped a server
  abbrev NoneStopped : Did → Type 0
  NoneStopped did = list_any (λ (choice : Choice). is_stop choice) did.choices ≡ false

  -- what is owed, with what the disks did
  abbrev OwesBy : Did → Option Owing → Type 0
  OwesBy did None = DiskRose w before now
  OwesBy did (Some owing) = Owes w r mebibytes before now did owing.end owing.text

  pub record Settled (owing : Option Owing) : Type 0 where
    pub did : Did
    pub blamed : Blamed w r before now did
    pub unstopped : NoneStopped did
    pub owes : OwesBy did owing

  put_whole : (did : Did) (due : GenEnd) (text : List ℕ) → Owes w r mebibytes before now did due text → Appends before.taken now.taken text
      → GenEndIs w r mebibytes before now did due
  put_whole did ends.Done text owes puts = record { text = text; owed = owes; puts = puts }
  put_whole did ends.OverLimit text owes puts = record { text = text; owed = owes; puts = puts }
  put_whole did ends.Mistaken text owes puts = record { text = text; owed = owes; puts = puts }
  put_whole did ends.NoVolume text owes puts = record { text = text; owed = owes; puts = puts }
  put_whole did ends.WriteFault text owes puts = absurd owes
  put_whole did ends.NoMemory text owes puts = absurd owes
  put_whole did ends.DiskFault text owes puts = absurd owes

  carried : (owing : Option Owing) (settled : Settled owing) (end result : GenEnd) → result ≡ end → GenEndIs w r mebibytes before now settled.did end
      → GenCarriesOut w r mebibytes before now result
  carried owing settled end result same is =
      subst (λ (e : GenEnd). GenCarriesOut w r mebibytes before now e) (sym same)
      (record { did = settled.did; blamed = λ other. settled.blamed; unstopped = λ other. settled.unstopped; is = is })

  -- memory ran out, and nothing was put
  pub starved : Keeps before.taken now.taken → GenCarriesOut w r mebibytes before now ends.NoMemory
  starved keeps = record { did = no_did; blamed = λ other. absurd (other refl); unstopped = λ other. absurd (other refl); is = keeps }

  put_ends : (owing : Option Owing) (result : GenEnd) → Settled owing → OwedPut before.taken now.taken before.writes now.writes owing result
      → GenCarriesOut w r mebibytes before now result
  put_ends None result settled (inl none) = carried None settled ends.DiskFault result none.end_is (settled.owes, none.keeps)
  put_ends None result settled (inr none) = carried None settled ends.NoMemory result none.end_is none.keeps
  put_ends (Some owing) result settled (inl all) =
      carried (Some owing) settled owing.end result all.end_is (put_whole settled.did owing.end owing.text settled.owes all.puts)
  put_ends (Some owing) result settled (inr (inl front)) =
      carried (Some owing) settled ends.WriteFault result front.end_is
      (front.rose, record { due = owing.end; text = owing.text; owed = settled.owes; puts = front.puts })
  put_ends (Some owing) result settled (inr (inr none)) = carried (Some owing) settled ends.NoMemory result none.end_is none.keeps

  -- ---- the run, and a look at both files behind it

  module _ (old new : Running D M) (source : old.source ≡ before.source) (dest : old.dest ≡ before.dest) (now_source : now.source ≡ new.source)
      (now_dest : now.dest ≡ new.dest) (had : HasDisks old) (there : HasDisks new)
      (source_holds : w.told → Holds w.timeline w.size SOURCE_TAG (shown_at new.source_state new.dest_state Source) now.source)
      (dest_holds : w.told → Holds w.timeline w.size DEST_TAG (shown_at new.source_state new.dest_state Dest) now.dest)
      (asks : (side : Side) → asks_for side (gen_events mebibytes) ≡ true) (quiet : stops_in (gen_events mebibytes) ≡ false)
      (middle : Running D M) (lines : List ℕ)
      (source_later : Later w.faults w.size 0 middle.source new.source) (dest_later : Later w.faults w.size 0 middle.dest new.dest) where
    abbrev Is : Ran → Type 0
    Is result = RanIs w.told r.machines r.read w.faults w.size r.mech (gen_events mebibytes) old middle (Some []) (Some lines) result

    blame : (result : Ran) → (i : Is result) → Blamed w r before now i.did
    blame result i =
        record {
          source_back = ap is_some now_source ∙ (there.source_there ∙ (sym had.source_there ∙ ap is_some source));
          dest_back = ap is_some now_dest ∙ (there.dest_there ∙ (sym had.dest_there ∙ ap is_some dest));
          source = moved w (i.did.failed Source) _ _ _ _ source now_source (later_more w.faults w.size (i.did.failed Source) _ _ _ i.source source_later);
          dest = moved w (i.did.failed Dest) _ _ _ _ dest now_dest (later_more w.faults w.size (i.did.failed Dest) _ _ _ i.dest dest_later);
          blamed = i.blamed;
        }

    -- a rise of a disk's count, under the names of outside
    rise_moved : (n : ℕ) (a b c d : Option D) → a ≡ b → d ≡ c → RoseBy n (faults_in w.faults a) (faults_in w.faults c)
        → RoseBy n (faults_in w.faults b) (faults_in w.faults d)
    rise_moved n a b c d ab dc rose =
        subst (λ (x : Option D). RoseBy n (faults_in w.faults x) (faults_in w.faults d)) ab
        (subst (λ (x : Option D). RoseBy n (faults_in w.faults a) (faults_in w.faults x)) (sym dc) rose)

    -- ---- a whole run

    module _ (told : w.told) (i : Is ran.Whole) where
      shown : (side : Side) → shown_at middle.source_state middle.dest_state side ≡ Some (volume_in i.last side)
      shown side = i.holds told refl side (asks side)

      unread : (side : Side) → found.IsUnshown w.faults middle new side → IsUnread w r mebibytes before now i.did i.last side
      unread side (inl broken) = inl (broken_in _ _ (shown side) broken)
      unread Source (inr rose) =
          inr (rise_moved (i.did.failed Source + 1) _ _ _ _ source now_source (rose_once_more (i.did.failed Source) _ _ _ i.source.rose rose))
      unread Dest (inr rose) =
          inr (rise_moved (i.did.failed Dest + 1) _ _ _ _ dest now_dest (rose_once_more (i.did.failed Dest) _ _ _ i.dest.rose rose))

      differ : found.MayDiffer w.faults middle new → MayDiffer w r mebibytes before now i.did i.last
      differ (inl unlike) = inl (of_these _ _ i.last.source i.last.dest (λ s d. s ≢ d) (shown Source) (shown Dest) unlike)
      differ (inr (inl hidden)) = inr (inl (unread Source hidden))
      differ (inr (inr hidden)) = inr (inr (unread Dest hidden))

      shown_now : (side : Side) → found.LeavesAll middle new → shown_at new.source_state new.dest_state side ≡ Some (volume_in i.last side)
      shown_now side still = ap (λ (x : Running D M). shown_at x.source_state x.dest_state side) still ∙ shown side

      counts : (large : Large) (summary : Summary) → large.tally ≡ tallied lines no_tally → IsSummary w.told w.faults mebibytes middle new large summary
          → Counts w r mebibytes before now i.did summary
      counts large summary tally is =
          let all = i.puts.1 told in
          record {
            run = record { lines = all.0.lines; records = all.0.records; last = i.last; runs = all.0.runs };
            records = is.records ∙ sym all.1;
            tally = is.tally ∙ (tally ∙ ap (λ (text : List ℕ). tallied text no_tally) all.0.puts);
            equal = λ yes. of_these _ _ i.last.source i.last.dest (λ s d. s ≡ d) (shown Source) (shown Dest) (is.alike told yes);
            unequal = λ no. differ (is.unlike told no);
            source = held w SOURCE_TAG i.last.source _ now.source (shown_now Source (is.still told)) (source_holds told);
            dest = held w DEST_TAG i.last.dest _ now.dest (shown_now Dest (is.still told)) (dest_holds told);
          }

    whole_settled : (large : Large) (summary : Summary) (i : Is ran.Whole) → (w.told → large.tally ≡ tallied lines no_tally)
        → IsSummary w.told w.faults mebibytes middle new large summary → Settled (owing_for (summed.Whole summary))
    whole_settled large summary i tally is =
        record {
          did = i.did;
          blamed = blame ran.Whole i;
          unstopped = i.asked quiet;
          owes = (
            summary,
            refl,
            record {
              plan = is.plan;
              room = small_at w r before (gen_events mebibytes) old.source old.dest source dest ∙ i.puts.0;
              counts = λ told. counts told i large summary (tally told) is;
            },
          );
        }

    -- ---- one that ended before

    large_settled : (line : ℕ) → Is (ran.OverLimit line) → Settled (owing_for summed.OverLimit)
    large_settled line i =
        record {
          did = i.did;
          blamed = blame (ran.OverLimit line) i;
          unstopped = i.asked quiet;
          owes = (
            refl,
            λ told.
                let all = i.puts told in
                (line, record { lines = all.lines; records = all.records; last = i.last; runs = all.runs }),
          );
        }

    mistaken_settled : (mistake : Mistake) → Is (ran.Mistaken mistake) → Settled (owing_for (summed.Mistaken mistake))
    mistaken_settled mistake i =
        record {
          did = i.did;
          blamed = blame (ran.Mistaken mistake) i;
          unstopped = i.asked quiet;
          owes = (
            mistake,
            refl,
            λ told.
                let all = i.puts told in
                record { lines = all.lines; records = all.records; last = i.last; runs = all.runs },
          );
        }

    -- the disk that was as it was in the run is handed back so
    untouched : (side : Side) → new ≡ middle → disk_of middle side ≡ disk_of old side → disk_at now side ≡ disk_at before side
    untouched Source same is = now_source ∙ (ap (λ (x : Running D M). x.source) same ∙ (is ∙ source))
    untouched Dest same is = now_dest ∙ (ap (λ (x : Running D M). x.dest) same ∙ (is ∙ dest))

    disk_rose : new ≡ middle → RanHasCause w.faults old middle 0 0 (ran.Unmade unmade.DiskFailed) → DiskRose w before now
    disk_rose same (inl rose) = inl (rise_moved 1 _ _ _ _ source (now_source ∙ ap (λ (x : Running D M). x.source) same) rose)
    disk_rose same (inr rose) = inr (rise_moved 1 _ _ _ _ dest (now_dest ∙ ap (λ (x : Running D M). x.dest) same) rose)

    unmade_settled : (cause : Unmade) → Is (ran.Unmade cause) → RanHasCause w.faults old middle 0 0 (ran.Unmade cause) → new ≡ middle
        → Settled (owing_for (summed.Unmade cause))
    unmade_settled unmade.DiskFailed i why same =
        record { did = i.did; blamed = blame (ran.Unmade unmade.DiskFailed) i; unstopped = i.asked quiet; owes = disk_rose same why }
    unmade_settled (unmade.TooSmall need have) i why same =
        let short = i.puts in
        record {
          did = i.did;
          blamed = blame (ran.Unmade (unmade.TooSmall need have)) i;
          unstopped = i.asked quiet;
          owes = inl (record {
            first = record { side = short.side; need = need; have = have };
            is = small_at w r before (gen_events mebibytes) old.source old.dest source dest ∙ short.is;
            line = refl;
            untouched = untouched short.side same short.untouched;
          });
        }
    unmade_settled (unmade.NotVolume block at) i why same =
        record {
          did = i.did;
          blamed = blame (ran.Unmade (unmade.NotVolume block at)) i;
          unstopped = i.asked quiet;
          owes = inr (record { untold = i.puts.0; block = block; at = at; line = refl });
        }

    -- by what it came to
    summed_settled : (result : Summed) (large : Large) → Is large.ran → RanHasCause w.faults old middle 0 0 large.ran
        → (w.told → large.tally ≡ tallied lines no_tally) → IsSummed w.told w.faults mebibytes middle new large result → Settled (owing_for result)
    summed_settled (summed.Whole summary) large i why tally is =
        whole_settled large summary (subst (λ (x : Ran). Is x) is.whole i) tally is
    summed_settled summed.OverLimit large i why tally is = large_settled is.0.0 (subst (λ (x : Ran). Is x) is.0.1 i)
    summed_settled (summed.Mistaken mistake) large i why tally is = mistaken_settled mistake (subst (λ (x : Ran). Is x) is.0 i)
    summed_settled (summed.Unmade cause) large i why tally is =
        unmade_settled cause (subst (λ (x : Ran). Is x) is.0 i) (subst (λ (x : Ran). RanHasCause w.faults old middle 0 0 x) is.0 why) is.1

  -- how `gen` ends whose run was summed up so
  pub summed_ends : (old new : Running D M) (source : old.source ≡ before.source) (dest : old.dest ≡ before.dest) (now_source : now.source ≡ new.source)
      (now_dest : now.dest ≡ new.dest) (had : HasDisks old) (there : HasDisks new)
      (source_holds : w.told → Holds w.timeline w.size SOURCE_TAG (shown_at new.source_state new.dest_state Source) now.source)
      (dest_holds : w.told → Holds w.timeline w.size DEST_TAG (shown_at new.source_state new.dest_state Dest) now.dest)
      (asks : (side : Side) → asks_for side (gen_events mebibytes) ≡ true) (quiet : stops_in (gen_events mebibytes) ≡ false) (mech : M) → mech ≡ r.mech → (result : Summed) (end : GenEnd)
      → Sums w.told r.machines r.read w.faults w.size mech mebibytes old new result
      → OwedPut before.taken now.taken before.writes now.writes (owing_for result) end → GenCarriesOut w r mebibytes before now end
  summed_ends old new source dest now_source now_dest had there source_holds dest_holds asks quiet mech same result end sums put =
      let s = subst (λ (m : M). Sums w.told r.machines r.read w.faults w.size m mebibytes old new result) same sums in
      put_ends (owing_for result) end
      (summed_settled old new source dest now_source now_dest had there source_holds dest_holds asks quiet s.middle s.ran.lines s.source s.dest
      result s.large s.ran.is s.ran.cause s.ran.tally s.is) put

-- what the top call says for words that ask for it
pub ends_gen : {D K J M W N : Type 0} (w : DiskWords D) (r : RunWords M) (s : ServiceWords D K J N) (c : CopyWords M W N) (mebibytes : ℕ) (command : Option Command) (before now : Outside D)
    (net : N) (code : ℕ) → Some (Gen mebibytes) ≡ command → EndsAs gen_status (GenEnds w r mebibytes before now) code → RunsKeep r (gen_events mebibytes)
    → now.left ≡ before.left → now.reads ≡ before.reads → before.writes ≤ now.writes → Ends w r s c command before now net net code
ends_gen w r s c mebibytes command before now net code asked ends kept left reads writes =
    subst (λ (o : Option Command). Ends w r s c o before now net net code) asked
    (record {
      ends = (ends, kept, record { left = left; reads = reads });
      reads = omega (arith, reads);
      writes = writes;
      unserved = λ none. refl;
    })
