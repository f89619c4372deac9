-- How a run of the program ends, put together from what was read and what was put.
use Rattle.std.proofs.Common.{◌≡◌, inl, inr, ℕ, ◌+◌, ◌<◌, ◌≤◌, List, [], ◌++◌, length, Bool, refl, sym, ◌∙◌, ap, subst, arith, append-nil}
use Rattle.std.specs.Prelude.{Option, None, Some, is_some, Ok, Err, IfSome, option_map, if◌then◌else◌}
use Rattle.std.proofs.Math.Seq.{take-length}
use Rattle.std.proofs.lemmas.Bool.{lt-ltb, le-ltb}
use Rattle.std.specs.Io.KnownBytes.{Keeps, Appends, IsAtEnd}
use Rattle.std.proofs.KnownBytes.{Appends-trans, Consumes-all, Keeps-trans}
use Rattle.outcome.specs.Causes.{Rose}
use Rattle.streams.specs.FrontLaws.{front_more, front_none}
use Rattle.streams.specs.Sink.{AppendsFront}
use Rattle.streams.specs.Whole.{TakesAll}
use Rattle.copy_model.specs.Volume.{Volume}
use Rattle.nfs_base.specs.declared.side.Side.{Side}
use Rattle.nfs_base.specs.declared.side.Side.TheVariants.{Source, Dest}
use Rattle.wire_machine.specs.Runs.{End, Numbered, TooLargeAt, MistakenBy, last_line}
use Rattle.wire_machine.specs.declared.mistake.Mistake.{Mistake}
use Rattle.wire_run.specs.Fresh.{Small}
use Rattle.wire_run.specs.Run.{Did, RanHasCause, RanIs, RanOut, RunsFront, RunsTo, ScheduleRuns, Volumes, first_small, put_by}
use Rattle.wire_run.specs.Running.{HasDisks, Later, Running, disk_of, faults_in, size_in}
use Rattle.wire_run.specs.System.{DiskHolds, Holds, shown_at}
use Rattle.wire_run.specs.declared.fresh.Unmade.{Unmade}
use Rattle.wire_run.specs.declared.fresh.Unmade.TheVariants as unmade
use Rattle.wire_run.specs.declared.run.Ran.{Ran}
use Rattle.wire_run.specs.declared.run.Ran.TheVariants as ran
use Rattle.run_ends.specs.declared.setting.TheConstants.{SOURCE_TAG, DEST_TAG}
use Rattle.wire_schedule.specs.ScheduleText.{schedule_of}
use Rattle.command_line.specs.declared.ends.RunEnd.{RunEnd}
use Rattle.command_line.specs.declared.ends.RunEnd.TheVariants as ends
use Rattle.nfscopy.specs.Input.{Input, most_bytes, parsed, asked}
use Rattle.volume_format.specs.Lines.{not_volume_text, small_text}
use Rattle.nfscopy.specs.Notice.{bad_line_text, mistaken_text, too_much_text}
use Rattle.volume_format.specs.DiskWords.{DiskWords}
use Rattle.nfscopy.specs.Outside.{Outside, SameDisks, DiskRose, disk_at}
use Rattle.nfscopy.specs.Puts.{LastPut, LinePut, UnmadePut, EndPut}
use Rattle.nfscopy.specs.RunEnds.{RunWords, Blamed, PutsRun, PutsFront, FrontOfSmall, StopsAsked, small_of, RunEndIs, CarriesOut}

-- ---- bytes that are put in parts

kept_appends : (a b c : Option (List ℕ)) (bytes : List ℕ) → Keeps a b → Appends b c bytes → Appends a c bytes
kept_appends None b c bytes kept put = tt
kept_appends (Some x) None c bytes kept put = absurd kept
kept_appends (Some x) (Some y) None bytes kept put = put
kept_appends (Some x) (Some y) (Some z) bytes kept put = put ∙ ap (λ (l : List ℕ). l ++ bytes) kept

appends_kept : (a b c : Option (List ℕ)) (bytes : List ℕ) → Appends a b bytes → Keeps b c → Appends a c bytes
appends_kept None b c bytes put kept = tt
appends_kept (Some x) None c bytes put kept = absurd put
appends_kept (Some x) (Some y) None bytes put kept = absurd kept
appends_kept (Some x) (Some y) (Some z) bytes put kept = kept ∙ put

kept_front : (a b c : Option (List ℕ)) (bytes : List ℕ) → Keeps a b → AppendsFront b c bytes → AppendsFront a c bytes
kept_front a b c bytes kept front =
    record { count = front.count; within = front.within; appended = kept_appends a b c _ kept front.appended }

front_kept : (a b c : Option (List ℕ)) (bytes : List ℕ) → AppendsFront a b bytes → Keeps b c → AppendsFront a c bytes
front_kept a b c bytes front kept =
    record { count = front.count; within = front.within; appended = appends_kept a b c _ front.appended kept }

kept_none : (a b : Option (List ℕ)) (bytes : List ℕ) → Keeps a b → AppendsFront a b bytes
kept_none a b bytes kept = kept_front a b b bytes kept (front_none b bytes)

-- ---- disks and counts

abbrev pub no_did : Did
no_did = record { choices = []; failed = λ side. 0 }

later_same : {D : Type 0} (w : DiskWords D) (d : Option D) → Later w.faults w.size 0 d d
later_same w d = record { there = refl; rose = omega arith; as_large = refl }

none_blamed : 0 ≤ 0 + 0
none_blamed = omega arith

-- nothing was done, so that nothing stopped
none_asked : {D M : Type 0} (w : DiskWords D) (r : RunWords M) (input : Option Input) → StopsAsked w r input no_did
none_asked w r None = tt
none_asked w r (Some (Ok events)) = λ none. refl
none_asked w r (Some (Err line)) = tt

-- the disks are as they were, and no call on them was made
untouched : {D M : Type 0} (w : DiskWords D) (r : RunWords M) (before now : Outside D) → now.source ≡ before.source → now.dest ≡ before.dest
    → Blamed w r before now no_did
untouched {D = D} w r before now source dest =
    record {
      source_back = ap is_some source;
      dest_back = ap is_some dest;
      source = subst (λ (d : Option D). Later w.faults w.size 0 before.source d) (sym source) (later_same w before.source);
      dest = subst (λ (d : Option D). Later w.faults w.size 0 before.dest d) (sym dest) (later_same w before.dest);
      blamed = none_blamed;
    }

-- a rise in a later call is one over all
rose_late : (a b c : ℕ) → a ≤ b → Rose b c → Rose a c
rose_late a b c le rose = omega (arith, le, rose)

rose_on : (a b c : ℕ) → Rose a b → b ≤ c → Rose a c
rose_on a b c rose le = omega (arith, rose, le)

-- a disk that is the same under two names
pub moved : {D : Type 0} (w : DiskWords D) (n : ℕ) (a b c d : Option D) → a ≡ b → d ≡ c → Later w.faults w.size n a c → Later w.faults w.size n b d
moved {D = D} w n a b c d ab dc later =
    subst (λ (x : Option D). Later w.faults w.size n x d) ab (subst (λ (x : Option D). Later w.faults w.size n a x) (sym dc) later)

pub small_at : {D M : Type 0} (w : DiskWords D) (r : RunWords M) (before : Outside D) (events : List Numbered) (source dest : Option D)
    → source ≡ before.source → dest ≡ before.dest → small_of w r before events ≡ first_small (size_in w.size source) (size_in w.size dest) events
small_at {D = D} w r before events source dest source_is dest_is =
    ap (λ (x : Option D). first_small (size_in w.size x) (size_in w.size before.dest) events) (sym source_is)
    ∙ ap (λ (x : Option D). first_small (size_in w.size source) (size_in w.size x) events) (sym dest_is)

-- what the disk of a server holds that is there
pub held : {D : Type 0} (w : DiskWords D) (tag : ℕ) (v : Volume) (shown : Option Volume) (disk : Option D) → shown ≡ Some v
    → Holds w.timeline w.size tag shown disk → DiskHolds w.timeline w.size tag v disk
held w tag v shown disk is holds = rw is at holds

-- ---- memory ran out before anything was put

starved_puts : {D M : Type 0} (w : DiskWords D) (r : RunWords M) (before now : Outside D) (input : Option Input) (did : Did) → Keeps before.taken now.taken
    → SameDisks before now → PutsFront w r before now input did
starved_puts w r before now None did keeps same = tt
starved_puts w r before now (Some (Ok events)) did keeps same = λ told. inl keeps
starved_puts w r before now (Some (Err line)) did keeps same = (kept_none before.taken now.taken _ keeps, same)

pub starved : {D M : Type 0} (w : DiskWords D) (r : RunWords M) (before now : Outside D) (input : Option Input) → Keeps before.taken now.taken
    → now.source ≡ before.source → now.dest ≡ before.dest → CarriesOut w r before now input ends.NoMemory
starved w r before now input keeps source dest =
    record {
      did = no_did;
      blamed = λ other. absurd (other refl);
      asked = λ other. absurd (other refl);
      is = starved_puts w r before now input no_did keeps (record { source = source; dest = dest });
    }

-- ---- memory ran out in a run

pub cut_off : {D M : Type 0} (w : DiskWords D) (r : RunWords M) (before now : Outside D) (events : List Numbered) (mech : M) → mech ≡ r.mech
    → RanOut w.told r.machines r.read mech events before.taken now.taken → CarriesOut w r before now (Some (Ok events)) ends.NoMemory
cut_off {M = M} w r before now events mech same out =
    let cut = subst (λ (m : M). RanOut w.told r.machines r.read m events before.taken now.taken) same out in
    record {
      did = cut.did;
      blamed = λ other. absurd (other refl);
      asked = λ other. absurd (other refl);
      is = λ told. inr (inl (cut.puts told));
    }

pub schedule_starved : {D M : Type 0} (w : DiskWords D) (r : RunWords M) (before now : Outside D) (events : List Numbered) → Keeps before.taken now.taken
    → CarriesOut w r before now (Some (Ok events)) ends.NoMemory
schedule_starved w r before now events keeps =
    record { did = no_did; blamed = λ other. absurd (other refl); asked = λ other. absurd (other refl); is = λ told. inl keeps }

-- ---- a run that ended, and its last line

-- the last line is that of its kind
mistaken_line : (mistake : Mistake) (records : ℕ) → last_line records (MistakenBy mistake) ≡ mistaken_text mistake
mistaken_line mistake records = append-nil (mistaken_text mistake)

module _ {D M : Type 0} (w : DiskWords D) (r : RunWords M) (before now : Outside D) (events : List Numbered) (old new : Running D M) (middle : Option (List ℕ)) (count : ℕ)
    (source : old.source ≡ before.source) (dest : old.dest ≡ before.dest) (now_source : now.source ≡ new.source) (now_dest : now.dest ≡ new.dest)
    (had : HasDisks old) (there : HasDisks new) (ended : IsAtEnd now.left) (le : before.writes ≤ count)
    (source_holds : w.told → Holds w.timeline w.size SOURCE_TAG (shown_at new.source_state new.dest_state Source) now.source)
    (dest_holds : w.told → Holds w.timeline w.size DEST_TAG (shown_at new.source_state new.dest_state Dest) now.dest) where
  small_same : small_of w r before events ≡ first_small (size_in w.size old.source) (size_in w.size old.dest) events
  small_same = small_at w r before events old.source old.dest source dest

  abbrev Is : Ran → Type 0
  Is result = RanIs w.told r.machines r.read w.faults w.size r.mech events old new before.taken middle result

  blame : (result : Ran) → (i : Is result) → Blamed w r before now i.did
  blame result i =
      record {
        source_back = ap is_some now_source ∙ (there.source_there ∙ (sym had.source_there ∙ ap is_some source));
        dest_back = ap is_some now_dest ∙ (there.dest_there ∙ (sym had.dest_there ∙ ap is_some dest));
        source = moved w (i.did.failed Source) _ _ _ _ source now_source i.source;
        dest = moved w (i.did.failed Dest) _ _ _ _ dest now_dest i.dest;
        blamed = i.blamed;
      }

  -- the disk that was as it was in the run is handed back so
  still : (side : Side) → disk_of new side ≡ disk_of old side → disk_at now side ≡ disk_at before side
  still Source same = now_source ∙ (same ∙ source)
  still Dest same = now_dest ∙ (same ∙ dest)

  carried : (end : RunEnd) (result : Ran) (i : Is result)
      → RunEndIs w r before now (Some (Ok events)) i.did end → CarriesOut w r before now (Some (Ok events)) end
  carried end result i is = record { did = i.did; blamed = λ other. blame result i; asked = λ other. i.asked; is = is }

  named : (a b : RunEnd) → a ≡ b → CarriesOut w r before now (Some (Ok events)) b → CarriesOut w r before now (Some (Ok events)) a
  named a b same c = subst (λ (e : RunEnd). CarriesOut w r before now (Some (Ok events)) e) (sym same) c

  -- ---- a run whose lines were put, and then a last line or a front of it

  all_done : (did : Did) (end : End) (lines : List ℕ) (records : ℕ) (last : Volumes) → ScheduleRuns r.machines r.read r.mech events did end lines records last
      → AppendsFront before.taken now.taken (lines ++ last_line records end) → RunsFront r.machines r.read r.mech events did before.taken now.taken
  all_done did end lines records last runs puts =
      record {
        done = length events;
        end = end;
        lines = lines;
        records = records;
        last = last;
        runs = subst (λ (es : List Numbered). ScheduleRuns r.machines r.read r.mech es did end lines records last) (sym (take-length events)) runs;
        puts = puts;
      }

  -- of a run that puts no last line itself
  module _ (end : End) (puts_none : (lines : List ℕ) (records : ℕ) → put_by end lines records ≡ lines) (line : List ℕ) (line_is : (records : ℕ) → last_line records end ≡ line) where
    lines_put : (did : Did) (last : Volumes) (t : RunsTo r.machines r.read r.mech events did end last before.taken middle) → Appends before.taken middle t.lines
    lines_put did last t = subst (λ (l : List ℕ). Appends before.taken middle l) (puts_none t.lines t.records) t.puts

    run_put : (did : Did) (last : Volumes) → RunsTo r.machines r.read r.mech events did end last before.taken middle → Appends middle now.taken line
        → PutsRun w r before now did events end
    run_put did last t put =
        record {
          lines = t.lines;
          records = t.records;
          last = last;
          runs = t.runs;
          puts = subst (λ (l : List ℕ). Appends before.taken now.taken (t.lines ++ l)) (sym (line_is t.records))
              (Appends-trans before.taken middle now.taken t.lines line (lines_put did last t) put);
        }

    front_put : (did : Did) (last : Volumes) → RunsTo r.machines r.read r.mech events did end last before.taken middle → AppendsFront middle now.taken line
        → RunsFront r.machines r.read r.mech events did before.taken now.taken
    front_put did last t put =
        all_done did end t.lines t.records last t.runs
        (subst (λ (l : List ℕ). AppendsFront before.taken now.taken (t.lines ++ l)) (sym (line_is t.records))
        (front_more before.taken middle now.taken t.lines line (lines_put did last t) put))

    none_put : (did : Did) (last : Volumes) → RunsTo r.machines r.read r.mech events did end last before.taken middle → Keeps middle now.taken
        → RunsFront r.machines r.read r.mech events did before.taken now.taken
    none_put did last t kept = front_put did last t (kept_none middle now.taken line kept)

  fronts_kept : (did : Did) → RunsFront r.machines r.read r.mech events did before.taken middle → Keeps middle now.taken
      → RunsFront r.machines r.read r.mech events did before.taken now.taken
  fronts_kept did front kept =
      record {
        done = front.done;
        end = front.end;
        lines = front.lines;
        records = front.records;
        last = front.last;
        runs = front.runs;
        puts = front_kept before.taken middle now.taken _ front.puts kept;
      }

  -- ---- each way in which a run ends

  whole_ends : (end : RunEnd) (i : Is ran.Whole)
      → EndPut middle now.taken count now.writes ran.Whole end → CarriesOut w r before now (Some (Ok events)) end
  whole_ends end i none =
      let ran_puts = i.puts in
      named end ends.Done none.end_is
      (carried ends.Done ran.Whole i
      (record {
        read = ended;
        room = small_same ∙ ran_puts.0;
        ran = λ told.
            let t = (ran_puts.1 told).0 in
            record {
              run = record {
                lines = t.lines;
                records = t.records;
                last = i.last;
                runs = t.runs;
                puts = appends_kept before.taken middle now.taken _ t.puts none.keeps;
              };
              source = λ asks. held w SOURCE_TAG i.last.source _ now.source (i.holds told refl Source asks) (source_holds told);
              dest = λ asks. held w DEST_TAG i.last.dest _ now.dest (i.holds told refl Dest asks) (dest_holds told);
            };
      }))

  over_ends : (line : ℕ) (end : RunEnd) (i : Is (ran.OverLimit line))
      → EndPut middle now.taken count now.writes (ran.OverLimit line) end → CarriesOut w r before now (Some (Ok events)) end
  over_ends line end i (inl (inl all)) =
      let ran_puts = i.puts in
      named end ends.OverLimit all.end_is
      (carried ends.OverLimit (ran.OverLimit line) i
      (record {
        line = line;
        ran = λ told. run_put (TooLargeAt line) (λ lines records. refl) (bad_line_text line) (λ records. refl) i.did i.last (ran_puts told) all.puts;
      }))
  over_ends line end i (inl (inr front)) =
      let ran_puts = i.puts in
      named end ends.WriteFault front.end_is
      (carried ends.WriteFault (ran.OverLimit line) i (
        rose_late before.writes count now.writes le front.rose,
        λ told. inr (inl (front_put (TooLargeAt line) (λ lines records. refl) (bad_line_text line) (λ records. refl) i.did i.last (ran_puts told) front.puts)),
      ))
  over_ends line end i (inr none) =
      let ran_puts = i.puts in
      named end ends.NoMemory none.end_is
      (carried ends.NoMemory (ran.OverLimit line) i
      (λ told. inr (inl (none_put (TooLargeAt line) (λ lines records. refl) (bad_line_text line) (λ records. refl) i.did i.last (ran_puts told) none.keeps))))

  mistaken_ends : (mistake : Mistake) (end : RunEnd) (i : Is (ran.Mistaken mistake))
      → EndPut middle now.taken count now.writes (ran.Mistaken mistake) end → CarriesOut w r before now (Some (Ok events)) end
  mistaken_ends mistake end i (inl (inl all)) =
      let ran_puts = i.puts in
      named end ends.Mistaken all.end_is
      (carried ends.Mistaken (ran.Mistaken mistake) i
      (record {
        mistake = mistake;
        ran = λ told. run_put (MistakenBy mistake) (λ lines records. refl) (mistaken_text mistake) (mistaken_line mistake) i.did i.last (ran_puts told) all.puts;
      }))
  mistaken_ends mistake end i (inl (inr front)) =
      let ran_puts = i.puts in
      named end ends.WriteFault front.end_is
      (carried ends.WriteFault (ran.Mistaken mistake) i (
        rose_late before.writes count now.writes le front.rose,
        λ told. inr (inl (front_put (MistakenBy mistake) (λ lines records. refl) (mistaken_text mistake) (mistaken_line mistake) i.did i.last (ran_puts told) front.puts)),
      ))
  mistaken_ends mistake end i (inr none) =
      let ran_puts = i.puts in
      named end ends.NoMemory none.end_is
      (carried ends.NoMemory (ran.Mistaken mistake) i
      (λ told. inr (inl (none_put (MistakenBy mistake) (λ lines records. refl) (mistaken_text mistake) (mistaken_line mistake) i.did i.last (ran_puts told) none.keeps))))

  -- the sink failed within the run
  fault_ends : (end : RunEnd) → Is ran.WriteFault
      → RanHasCause w.faults old new before.writes count ran.WriteFault → count ≤ now.writes
      → EndPut middle now.taken count now.writes ran.WriteFault end → CarriesOut w r before now (Some (Ok events)) end
  fault_ends end i why later none =
      let ran_puts = i.puts in
      named end ends.WriteFault none.end_is
      (carried ends.WriteFault ran.WriteFault i (
        rose_on before.writes count now.writes why later,
        λ told. inr (inl (fronts_kept i.did (ran_puts told) none.keeps)),
      ))

  -- ---- a volume could not be made

  put_small : (need have : ℕ) (end : RunEnd) (i : Is (ran.Unmade (unmade.TooSmall need have)))
      → LinePut middle now.taken count now.writes (small_text need have) ends.NoVolume end → CarriesOut w r before now (Some (Ok events)) end
  put_small need have end i (inl (inl all)) =
      let short = i.puts in
      named end ends.NoVolume all.end_is
      (carried ends.NoVolume (ran.Unmade (unmade.TooSmall need have)) i
      (inl (record {
        first = record { side = short.side; need = need; have = have };
        is = small_same ∙ short.is;
        puts = kept_appends before.taken middle now.taken _ short.puts all.puts;
        untouched = still short.side short.untouched;
      })))
  put_small need have end i (inl (inr front)) =
      let short = i.puts in
      named end ends.WriteFault front.end_is
      (carried ends.WriteFault (ran.Unmade (unmade.TooSmall need have)) i (
        rose_late before.writes count now.writes le front.rose,
        λ told. inr (inr (subst (λ (o : Option Small). FrontOfSmall w r before now o) (sym (small_same ∙ short.is))
            (kept_front before.taken middle now.taken _ short.puts front.puts))),
      ))
  put_small need have end i (inr none) =
      let short = i.puts in
      named end ends.NoMemory none.end_is
      (schedule_starved w r before now events (Keeps-trans before.taken middle now.taken short.puts none.keeps))

  put_unreadable : (block at : ℕ) (end : RunEnd) (i : Is (ran.Unmade (unmade.NotVolume block at)))
      → LinePut middle now.taken count now.writes (not_volume_text block at) ends.NoVolume end → CarriesOut w r before now (Some (Ok events)) end
  put_unreadable block at end i (inl (inl all)) =
      let untold = i.puts in
      named end ends.NoVolume all.end_is
      (carried ends.NoVolume (ran.Unmade (unmade.NotVolume block at)) i
      (inr (inl (record { untold = untold.0; block = block; at = at; puts = kept_appends before.taken middle now.taken _ untold.1 all.puts }))))
  put_unreadable block at end i (inl (inr front)) =
      let untold = i.puts in
      named end ends.WriteFault front.end_is
      (carried ends.WriteFault (ran.Unmade (unmade.NotVolume block at)) i
      (rose_late before.writes count now.writes le front.rose, λ told. absurd (untold.0 told)))
  put_unreadable block at end i (inr none) =
      let untold = i.puts in
      named end ends.NoMemory none.end_is
      (schedule_starved w r before now events (Keeps-trans before.taken middle now.taken untold.1 none.keeps))

  disk_rose : RanHasCause w.faults old new before.writes count (ran.Unmade unmade.DiskFailed) → DiskRose w before now
  disk_rose (inl rose) =
      inl (subst (λ (x : Option D). Rose (faults_in w.faults x) (faults_in w.faults now.source)) source
      (subst (λ (x : Option D). Rose (faults_in w.faults old.source) (faults_in w.faults x)) (sym now_source) rose))
  disk_rose (inr rose) =
      inr (subst (λ (x : Option D). Rose (faults_in w.faults x) (faults_in w.faults now.dest)) dest
      (subst (λ (x : Option D). Rose (faults_in w.faults old.dest) (faults_in w.faults x)) (sym now_dest) rose))

  unmade_ends : (cause : Unmade) (end : RunEnd) → Is (ran.Unmade cause) → RanHasCause w.faults old new before.writes count (ran.Unmade cause)
      → UnmadePut middle now.taken count now.writes cause end → CarriesOut w r before now (Some (Ok events)) end
  unmade_ends unmade.DiskFailed end i why none =
      named end ends.DiskFault none.end_is
      (carried ends.DiskFault (ran.Unmade unmade.DiskFailed) i (disk_rose why, inl (Keeps-trans before.taken middle now.taken i.puts none.keeps)))
  unmade_ends (unmade.TooSmall need have) end i why line = put_small need have end i line
  unmade_ends (unmade.NotVolume block at) end i why line = put_unreadable block at end i line

  -- ---- a server that stopped couldn't be opened anew

  lost_unreadable : (block at : ℕ) (end : RunEnd) (i : Is (ran.Lost (unmade.NotVolume block at)))
      → LinePut middle now.taken count now.writes (not_volume_text block at) ends.NoVolume end → CarriesOut w r before now (Some (Ok events)) end
  lost_unreadable block at end i (inl (inl all)) =
      let lost = i.puts in
      named end ends.NoVolume all.end_is
      (carried ends.NoVolume (ran.Lost (unmade.NotVolume block at)) i
      (inr (inr (record {
        untold = lost.0;
        stops = lost.1;
        block = block;
        at = at;
        lines = lost.2;
        puts = Appends-trans before.taken middle now.taken lost.2 (not_volume_text block at) lost.3 all.puts;
      }))))
  lost_unreadable block at end i (inl (inr front)) =
      let lost = i.puts in
      named end ends.WriteFault front.end_is
      (carried ends.WriteFault (ran.Lost (unmade.NotVolume block at)) i
      (rose_late before.writes count now.writes le front.rose, λ told. absurd (lost.0 told)))
  lost_unreadable block at end i (inr none) =
      let lost = i.puts in
      named end ends.NoMemory none.end_is
      (carried ends.NoMemory (ran.Lost (unmade.NotVolume block at)) i (λ told. absurd (lost.0 told)))

  lost_ends : (cause : Unmade) (end : RunEnd) (i : Is (ran.Lost cause)) → RanHasCause w.faults old new before.writes count (ran.Lost cause)
      → UnmadePut middle now.taken count now.writes cause end → CarriesOut w r before now (Some (Ok events)) end
  lost_ends unmade.DiskFailed end i why none =
      let lost = i.puts in
      named end ends.DiskFault none.end_is
      (carried ends.DiskFault (ran.Lost unmade.DiskFailed) i (
        disk_rose why,
        inr (record {
          stops = lost.1;
          lines = lost.2;
          puts = appends_kept before.taken middle now.taken lost.2 lost.3 none.keeps;
          are = lost.4;
        }),
      ))
  lost_ends (unmade.TooSmall need have) end i why line = absurd i.puts.0
  lost_ends (unmade.NotVolume block at) end i why line = lost_unreadable block at end i line

  by_answer : (result : Ran) (end : RunEnd) → Is result → RanHasCause w.faults old new before.writes count result → count ≤ now.writes
      → EndPut middle now.taken count now.writes result end → CarriesOut w r before now (Some (Ok events)) end
  by_answer ran.Whole end i why later put = whole_ends end i put
  by_answer (ran.OverLimit line) end i why later put = over_ends line end i put
  by_answer ran.WriteFault end i why later put = fault_ends end i why later put
  by_answer (ran.Unmade cause) end i why later put = unmade_ends cause end i why put
  by_answer (ran.Lost cause) end i why later put = lost_ends cause end i why put
  by_answer (ran.Mistaken mistake) end i why later put = mistaken_ends mistake end i put

  -- how a run ends, by its answer; its mechanism is the one that is spoken of
  pub ran_ends : (mech : M) → mech ≡ r.mech → (result : Ran) (end : RunEnd)
      → RanIs w.told r.machines r.read w.faults w.size mech events old new before.taken middle result
      → RanHasCause w.faults old new before.writes count result → count ≤ now.writes
      → EndPut middle now.taken count now.writes result end → CarriesOut w r before now (Some (Ok events)) end
  ran_ends mech same result end i why later put =
      by_answer result end (subst (λ (m : M). RanIs w.told r.machines r.read w.faults w.size m events old new before.taken middle result) same i) why later put

-- ---- what an input asks for, by whether it passes the limit

chosen : List ℕ → Bool → Input
chosen text large = if large then Err too_much_text else parsed (schedule_of text)

asked_small : (text : List ℕ) → length text ≤ most_bytes → asked text ≡ parsed (schedule_of text)
unfolding chosen
asked_small text le = ap (chosen text) (le-ltb most_bytes (length text) le)

asked_large : (text : List ℕ) → most_bytes < length text → asked text ≡ Err too_much_text
unfolding chosen
asked_large text lt = ap (chosen text) (lt-ltb most_bytes (length text) lt)

-- less is said where the source doesn't tell the input
untold : {D M : Type 0} (w : DiskWords D) (r : RunWords M) (before now : Outside D) (input : Input) (did : Did) (end : RunEnd)
    → RunEndIs w r before now (Some input) did end → RunEndIs w r before now None did end
untold w r before now input did ends.Done is = tt
untold w r before now input did ends.Refused is = (tt, is.1)
untold w r before now input did ends.OverLimit is = tt
untold w r before now input did ends.Mistaken is = tt
untold w r before now input did ends.ReadFault is = is
untold w r before now input did ends.WriteFault is = (is.0, tt)
untold w r before now input did ends.NoMemory is = tt
untold w r before now input did ends.DiskFault is = (is.0, tt)
untold w r before now input did ends.NoVolume is = tt

-- less is said of stops then, too
asked_of : {D M : Type 0} (w : DiskWords D) (r : RunWords M) (input : Input) (did : Did) (left : Option (List ℕ))
    → IfSome left (λ text. asked text ≡ input) → StopsAsked w r (Some input) did → StopsAsked w r (option_map asked left) did
asked_of w r input did None told is = tt
asked_of w r input did (Some text) told is = subst (λ (i : Input). StopsAsked w r (Some i) did) (sym told) is

told_of : {D M : Type 0} (w : DiskWords D) (r : RunWords M) (before now : Outside D) (input : Input) (did : Did) (end : RunEnd) (left : Option (List ℕ))
    → IfSome left (λ text. asked text ≡ input) → RunEndIs w r before now (Some input) did end
    → RunEndIs w r before now (option_map asked left) did end
told_of w r before now input did end None told is = untold w r before now input did end is
told_of w r before now input did end (Some text) told is = subst (λ (i : Input). RunEndIs w r before now (Some i) did end) (sym told) is

if_some : (o : Option (List ℕ)) (P Q : List ℕ → Type 0) → ((all : List ℕ) → P all → Q all) → IfSome o P → IfSome o Q
if_some None P Q f p = tt
if_some (Some all) P Q f p = f all p

-- how a run ends whose input is told so
ends_of : {D M : Type 0} (w : DiskWords D) (r : RunWords M) (before now : Outside D) (input : Input) (end : RunEnd)
    → IfSome before.left (λ text. asked text ≡ input) → CarriesOut w r before now (Some input) end → CarriesOut w r before now (option_map asked before.left) end
ends_of w r before now input end told carried =
    record {
      did = carried.did;
      blamed = carried.blamed;
      asked = λ other. asked_of w r input carried.did before.left told (carried.asked other);
      is = told_of w r before now input carried.did end before.left told carried.is;
    }

-- the input was read, and its schedule was carried out or refused
pub text_ends : {D M : Type 0} (w : DiskWords D) (r : RunWords M) (before now : Outside D) (end : RunEnd) (text lent : List ℕ) → lent ≡ text
    → TakesAll before.left now.left text × (length text ≤ most_bytes)
    → CarriesOut w r before now (Some (parsed (schedule_of lent))) end → CarriesOut w r before now (option_map asked before.left) end
text_ends w r before now end text lent same takes carried =
    let took = takes.0 in
    ends_of w r before now (parsed (schedule_of lent)) end
    (if_some before.left (λ all. text ≡ all) (λ all. asked all ≡ parsed (schedule_of lent))
    (λ all is. subst (λ (t : List ℕ). asked t ≡ parsed (schedule_of lent)) is (asked_small text takes.1 ∙ ap (λ (t : List ℕ). parsed (schedule_of t)) (sym same)))
    (Consumes-all before.left now.left text [] text took.taken took.ended refl))
    carried

-- the one line that is owed was put, or a front of it
pub line_carried : {D M : Type 0} (w : DiskWords D) (r : RunWords M) (before now : Outside D) (end : RunEnd) (owed line : List ℕ) → line ≡ owed
    → now.source ≡ before.source → now.dest ≡ before.dest
    → LastPut before.taken now.taken before.writes now.writes line ends.Refused end → CarriesOut w r before now (Some (Err owed)) end
line_carried w r before now end owed line same source dest (inl all) =
    subst (λ (e : RunEnd). CarriesOut w r before now (Some (Err owed)) e) (sym all.end_is)
    (record {
      did = no_did;
      blamed = λ other. untouched w r before now source dest;
      asked = λ other. none_asked w r (Some (Err owed));
      is = (subst (λ (l : List ℕ). Appends before.taken now.taken l) same all.puts, record { source = source; dest = dest });
    })
line_carried w r before now end owed line same source dest (inr front) =
    subst (λ (e : RunEnd). CarriesOut w r before now (Some (Err owed)) e) (sym front.end_is)
    (record {
      did = no_did;
      blamed = λ other. untouched w r before now source dest;
      asked = λ other. none_asked w r (Some (Err owed));
      is = (front.rose, (subst (λ (l : List ℕ). AppendsFront before.taken now.taken l) same front.puts, record { source = source; dest = dest }));
    })

-- the line of a text that is no schedule was put, a front of it, or nothing
pub bad_carried : {D M : Type 0} (w : DiskWords D) (r : RunWords M) (before now : Outside D) (end : RunEnd) (line : List ℕ)
    → now.source ≡ before.source → now.dest ≡ before.dest
    → LinePut before.taken now.taken before.writes now.writes line ends.Refused end → CarriesOut w r before now (Some (Err line)) end
bad_carried w r before now end line source dest (inl put) = line_carried w r before now end line line refl source dest put
bad_carried w r before now end line source dest (inr none) =
    subst (λ (e : RunEnd). CarriesOut w r before now (Some (Err line)) e) (sym none.end_is) (starved w r before now (Some (Err line)) none.keeps source dest)

-- the input passes the limit
pub large_ends : {D M : Type 0} (w : DiskWords D) (r : RunWords M) (before now : Outside D) (end : RunEnd) (line : List ℕ) → line ≡ too_much_text
    → now.source ≡ before.source → now.dest ≡ before.dest
    → IfSome before.left (λ all. most_bytes < length all)
    → LastPut before.taken now.taken before.writes now.writes line ends.Refused end → CarriesOut w r before now (option_map asked before.left) end
large_ends w r before now end line same source dest large put =
    ends_of w r before now (Err too_much_text) end
    (if_some before.left (λ all. most_bytes < length all) (λ all. asked all ≡ Err too_much_text) asked_large large)
    (line_carried w r before now end too_much_text line same source dest put)

-- the source failed
pub failed_ends : {D M : Type 0} (w : DiskWords D) (r : RunWords M) (before now : Outside D) → Rose before.reads now.reads → Keeps before.taken now.taken
    → now.source ≡ before.source → now.dest ≡ before.dest → CarriesOut w r before now (option_map asked before.left) ends.ReadFault
failed_ends w r before now rose keeps source dest =
    record {
      did = no_did;
      blamed = λ other. untouched w r before now source dest;
      asked = λ other. none_asked w r (option_map asked before.left);
      is = (rose, keeps, record { source = source; dest = dest });
    }

-- memory ran out while the input was read
pub starved_ends : {D M : Type 0} (w : DiskWords D) (r : RunWords M) (before now : Outside D) → Keeps before.taken now.taken
    → now.source ≡ before.source → now.dest ≡ before.dest → CarriesOut w r before now (option_map asked before.left) ends.NoMemory
starved_ends w r before now keeps source dest = starved w r before now (option_map asked before.left) keeps source dest
