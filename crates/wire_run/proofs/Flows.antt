-- Small steps one after the other: one event, or a flow.
use Rattle.std.proofs.Common.{◌≡◌, ℕ, zero, suc, ◌+◌, ◌<◌, ◌≤◌, Bool, true, false, List, [], ◌∷◌, ◌++◌, length, Option, Some, None, refl, sym, ap, ◌∙◌, subst, arith, append_assoc, add-zero}
use Rattle.std.proofs.Math.Numerals.{add-one, one-add}
use Rattle.std.specs.List.{list_any}
use Rattle.std.specs.Prelude.{◌-◌, ◌||◌, IfOk, Result, Ok, Err, if◌then◌else◌, map, not, slice_get}
use Rattle.std.specs.Option.{option_map_or}
use Rattle.std.proofs.lemmas.Grind.{flat_map-append}
use Rattle.std.proofs.lemmas.List.{append-nil, map-append}
use Rattle.wire_lines.specs.LineText.{line_text, lines_text}
use Rattle.wire_lines.specs.declared.line.Line.{Line}
use Rattle.wire_machine.specs.Check.{Reading}
use Rattle.wire_machine.specs.Lines.{lines_of, step_lines}
use Rattle.wire_machine.specs.Runs as runs
use Rattle.wire_machine.specs.Runs.{Goes, GoesBy, fault_of}
use Rattle.wire_machine.specs.Steps.{IsStep, NeverStops, after_steps, cut_of}
use Rattle.wire_machine.specs.World.{Posted, marked, posted_at, waiting, waiting_from}
use Rattle.wire_machine.specs.declared.choice.Choice.{Choice}
use Rattle.nfs_base.specs.declared.side.Side.{Side}
use Rattle.nfs_base.specs.declared.side.Side.TheVariants.{Source, Dest}
use Rattle.wire_run.proofs.Asked.{asked_join, fuse_stays, not_wider, or_second}
use Rattle.wire_run.proofs.Cores.{dest_there, source_there}
use Rattle.wire_run.specs.Asked.{StopsAreAsked, fuses_behind}
use Rattle.wire_run.specs.Cutting.{FlowsEnd, SmallEnds}
use Rattle.wire_run.specs.Running.{AreBlamed, Later, failed_calls, has_failed_at}
use Rattle.run_ends.specs.Ends.{RunMachines, RunStep, RunWorld}
use Rattle.wire_run.specs.Stage.{AllDelivered, BeginsNone, DestHost, FlowKeeps, FlowsBy, FlowsOne, FlowsTo, IsBelow, IsFair, IsFlowing, SmallKeeps, faults_named, is_waiting, most_records, Grows, IsReady, SmallIs, SourceHost, StageGoes, bit, next_flowed, world_at}
use Rattle.wire_run.specs.Watching.{crashes_in, is_armed, sets_in}
use Rattle.wire_run.specs.declared.ends.DestEnd.{DestEnd}
use Rattle.wire_run.specs.declared.ends.DestEnd.TheVariants as dest_end
use Rattle.wire_run.specs.declared.ends.SourceEnd.{SourceEnd}
use Rattle.wire_run.specs.declared.ends.SourceEnd.TheVariants as source_end
use Rattle.wire_run.specs.declared.stage.Fault.{Fault}
use Rattle.wire_run.specs.declared.stage.Fault.TheVariants as faults_of
use Rattle.wire_run.specs.declared.stage.Lost.{Lost}
use Rattle.wire_run.specs.declared.stage.Stage.{Stage}
use Rattle.wire_run.proofs.Joining.{after_join, goes_join, lines_join, never_join}
use Rattle.wire_run.proofs.Later.{blamed_join, blamed_none, failed_one, later_join, later_more, later_same}
use Rattle.wire_schedule.specs.declared.event.Event.{Event}
use Rattle.wire_schedule.specs.declared.event.Event.TheVariants as kinds

-- ---- one small step goes on with more, or ends

module _ {M : Type 0} (m : RunMachines M) (read : Reading) where
  pub goes_on : (before : RunWorld M) (event : Event) (smalls : List Event) (s : RunStep M) (more : List (RunStep M)) (end : Option runs.Fault)
      → s.event ≡ event → IsStep m before s → fault_of m read before s ≡ None → Goes m read s.after smalls more end
      → Goes m read before (event ∷ smalls) (s ∷ more) end
  goes_on before event smalls s more end is step right rest =
      (s, is, step, subst (λ (f : Option runs.Fault). GoesBy m read f s (λ (r : List (RunStep M)). Goes m read s.after smalls r end) (s ∷ more) end) (sym right) (more, refl, rest))

  pub goes_not : (before : RunWorld M) (event : Event) (smalls : List Event) (s : RunStep M) (fault : runs.Fault)
      → s.event ≡ event → IsStep m before s → fault_of m read before s ≡ Some fault
      → Goes m read before (event ∷ smalls) [] (Some fault)
  goes_not before event smalls s fault is step wrong =
      (s, is, step, subst (λ (f : Option runs.Fault). GoesBy m read f s (λ (r : List (RunStep M)). Goes m read s.after smalls r (Some fault)) [] (Some fault)) (sym wrong) (refl, refl))

none_some : {A : Type 0} (x : A) → None ≡ Some x → ⊥
none_some x e = cc

one_some : {A : Type 0} (x y : A) → Some x ≡ Some y → x ≡ y
one_some x y e = cc

some_none : {A : Type 0} (x : A) → Some x ≡ None → ⊥
some_none x e = cc

opened_source : {D M : Type 0} (a b : SourceHost D M) → ◌≡◌ {A = SourceEnd D M} (source_end.Open a) (source_end.Open b) → a ≡ b
opened_source a b e = cc

opened_dest : {D M : Type 0} (a b : DestHost D M) → ◌≡◌ {A = DestEnd D M} (dest_end.Open a) (dest_end.Open b) → a ≡ b
opened_dest a b e = cc

-- ---- the numbers that a flow has still to deliver

-- those of the records that wait, behind so many, among so many more; the first record has number k
abbrev behind : (k skip count : ℕ) → List Posted → List ℕ
behind k zero zero log = []
behind k zero (suc c) [] = []
behind k zero (suc c) (r ∷ log) = if r.delivered then behind (k + 1) zero c log else k ∷ behind (k + 1) zero c log
behind k (suc n) c [] = []
behind k (suc n) c (r ∷ log) = behind (k + 1) n c log

abbrev rest_from : (flowed last : ℕ) → List Posted → List ℕ
rest_from flowed last log = behind 1 flowed (last - flowed) log

-- of a flow up to a record
abbrev pub rest_of : {D M : Type 0} → (last : ℕ) → Stage D M → List ℕ
rest_of last s = rest_from s.flowed last s.log

chosen : (b : Bool) (x y u v : List ℕ) → x ≡ u → y ≡ v → (if b then x else y) ≡ (if b then u else v)
chosen true x y u v e f = e
chosen false x y u v e f = f

-- behind none: all that wait
behind_none : (k : ℕ) (log : List Posted) → behind k zero (length log) log ≡ waiting_from k log
behind_none k [] = refl
behind_none k (r ∷ log) = chosen r.delivered _ _ _ _ (behind_none (k + 1) log) (ap (λ (ns : List ℕ). k ∷ ns) (behind_none (k + 1) log))

-- behind those that were delivered: all that wait
behind_delivered : (k n c : ℕ) (log : List Posted) → AllDelivered n log → n + c ≡ length log → behind k n c log ≡ waiting_from k log
behind_delivered k zero c log d all = ap (λ (i : ℕ). behind k zero i log) (omega arith) ∙ behind_none k log
behind_delivered k (suc n) c [] d all = refl
behind_delivered k (suc n) c (r ∷ log) d all =
    behind_delivered (k + 1) n c log d.1 (omega arith)
    ∙ sym (ap (λ (b : Bool). if b then waiting_from (k + 1) log else k ∷ waiting_from (k + 1) log) d.0)

-- the next one
behind_next : (k n c : ℕ) (log : List Posted) (r : Posted) → slice_get log n ≡ Some r
    → behind k n (suc c) log ≡ (if r.delivered then behind k (suc n) c log else (k + n) ∷ behind k (suc n) c log)
behind_next k zero c (s ∷ log) r is =
    ap (λ (x : Posted). if x.delivered then behind (k + 1) zero c log else k ∷ behind (k + 1) zero c log) (one_some s r is)
    ∙ ap (λ (i : ℕ). if r.delivered then behind (k + 1) zero c log else i ∷ behind (k + 1) zero c log) (omega arith)
behind_next k (suc n) c (s ∷ log) r is =
    behind_next (k + 1) n c log r is
    ∙ ap (λ (i : ℕ). if r.delivered then behind (k + 1) (suc n) c log else i ∷ behind (k + 1) (suc n) c log) (omega arith)
behind_next k n c [] r is = absurd (none_some r is)

-- what is sent later is behind all of them
behind_append : (k c : ℕ) (log more : List Posted) → c ≤ length log → behind k zero c (log ++ more) ≡ behind k zero c log
behind_append k zero log more within = refl
behind_append k (suc c) [] more within = absurd (omega arith)
behind_append k (suc c) (r ∷ log) more within =
    chosen r.delivered _ _ _ _ (behind_append (k + 1) c log more (omega arith)) (ap (λ (ns : List ℕ). k ∷ ns) (behind_append (k + 1) c log more (omega arith)))

-- a delivery, and what is sent in it, change nothing behind it
behind_marked : (k n c : ℕ) (log more : List Posted) → suc n + c ≤ length log → behind k (suc n) c (marked (suc n) log ++ more) ≡ behind k (suc n) c log
behind_marked k zero c [] more within = absurd (omega arith)
behind_marked k zero c (r ∷ log) more within = behind_append (k + 1) c log more (omega arith)
behind_marked k (suc n) c [] more within = absurd (omega arith)
behind_marked k (suc n) c (r ∷ log) more within = behind_marked (k + 1) n c log more (omega arith)

behind_nothing : (k n : ℕ) (log : List Posted) → behind k n zero log ≡ []
behind_nothing k zero log = refl
behind_nothing k (suc n) [] = refl
behind_nothing k (suc n) (r ∷ log) = behind_nothing (k + 1) n log

-- ---- the same of the rest of a flow

rest_first : (flowed : ℕ) (log : List Posted) → flowed ≤ length log → AllDelivered flowed log → rest_from flowed (length log) log ≡ waiting log
rest_first flowed log within d = behind_delivered 1 flowed (length log - flowed) log d (omega arith)

one_less : (flowed last : ℕ) → flowed < last → last - flowed ≡ suc (last - (flowed + 1))
one_less flowed last within = omega arith

rest_next : (flowed last : ℕ) (log : List Posted) (r : Posted) → flowed < last → slice_get log flowed ≡ Some r
    → rest_from flowed last log ≡ (if r.delivered then rest_from (flowed + 1) last log else (flowed + 1) ∷ rest_from (flowed + 1) last log)
rest_next flowed last log r within is =
    ap (λ (c : ℕ). behind 1 flowed c log) (one_less flowed last within)
    ∙ (behind_next 1 flowed (last - (flowed + 1)) log r is
    ∙ chosen r.delivered _ _ _ _ (rw add-one refl) (rw (add-one, one-add) refl))

rest_marked : (flowed last : ℕ) (log new : List Posted) → flowed < last → last ≤ length log → Grows (marked (flowed + 1) log) new
    → rest_from (flowed + 1) last new ≡ rest_from (flowed + 1) last log
rest_marked flowed last log new within all g =
    ap (λ (l : List Posted). rest_from (flowed + 1) last l) g.1 ∙ rw add-one (behind_marked 1 flowed (last - suc flowed) log g.0 (omega arith))

rest_over : (flowed last : ℕ) (log : List Posted) → last ≤ flowed → rest_from flowed last log ≡ []
rest_over flowed last log over = ap (λ (c : ℕ). behind 1 flowed c log) (omega arith) ∙ behind_nothing 1 flowed log

-- ---- nobody stops who isn't asked to

asked_one : (a b : Bool) → (a || (b || false)) ≡ false → (a || b) ≡ false
asked_one true b none = none
asked_one false true none = none
asked_one false false none = refl

pub asked_first : (a b : Bool) → (a || b) ≡ false → a ≡ false
asked_first true b none = none
asked_first false b none = refl

pub asked_alone : (a : Bool) → (a || false) ≡ true → a ≡ true
asked_alone true is = refl
asked_alone false is = is

-- a flow sets no fuse
pub none_sets : (side : Side) (numbers : List ℕ) → list_any (λ (event : Event). sets_in event side) (map kinds.Deliver numbers) ≡ false
none_sets side [] = refl
none_sets side (n ∷ numbers) = none_sets side numbers

not_armed : (a b : Bool) → (a ≡ true → b ≡ true) → b ≡ false → (a || false) ≡ false
not_armed true b was none = sym (was refl) ∙ none
not_armed false b was none = refl

module _ {D M : Type 0} (told : Type 0) (m : RunMachines M) (read : Reading) (faults size : D → ℕ) where
  later_one : (side : Side) (s : RunStep M) (d e : D) → Later faults size (bit (has_failed_at side s)) (Some d) (Some e) → Later faults size (failed_calls side (s ∷ [])) (Some d) (Some e)
  later_one side s d e l = subst (λ (n : ℕ). Later faults size n (Some d) (Some e)) (failed_one side s) l

  later_and_none : (n : ℕ) (a b : Option D) → Later faults size (n + 0) a b → Later faults size n a b
  later_and_none n a b l = subst (λ (k : ℕ). Later faults size k a b) (add-zero n) l

  -- ---- an event that is one small step

  pub once_goes : (event : Event) (old new : Stage D M) (text : List ℕ) (fault : Option runs.Fault)
      → SmallIs told m read faults size event old new [] text fault → StageGoes told m read faults size (event ∷ []) old new text fault
  once_goes event old new text None c = record {
    source = c.source;
    dest = c.dest;
    source_next = c.source_next;
    dest_next = c.dest_next;
    source_is = c.source_is;
    dest_is = c.dest_is;
    source_next_is = c.source_next_is;
    dest_next_is = c.dest_next_is;
    steps = c.step ∷ [];
    goes = λ t. goes_on m read (world_at size c.source c.dest old) event [] c.step [] None c.event_is (c.is t) (c.right t) (refl, refl);
    world = λ none. sym c.after_is;
    lines = λ t. c.lines t ∙ ap lines_text (sym (append-nil (step_lines m (world_at size c.source c.dest old) c.step)));
    choices = c.choices;
    asked = λ side none. (c.asked side (asked_one (is_armed side old) (crashes_in event side) none), tt);
    stops = λ fuses known. (
      λ side none.
          c.asked side
          (not_wider (is_armed side old) (fuses side) (crashes_in event side) (crashes_in c.step.event side) (known side) (ap (λ (e : Event). crashes_in e side) c.event_is) none),
      tt,
    );
    sets = λ none fuses side is.
        or_second (fuses side) (sets_in c.step.event side) (ap (λ (e : Event). sets_in e side) c.event_is ∙ asked_alone (sets_in event side) is);
    blamed = c.blamed;
    source_later = later_one Source c.step _ _ c.source_later;
    dest_later = later_one Dest c.step _ _ c.dest_later;
  }
  once_goes event old new text (Some fault) c = record {
    source = c.source;
    dest = c.dest;
    source_next = c.source_next;
    dest_next = c.dest_next;
    source_is = c.source_is;
    dest_is = c.dest_is;
    source_next_is = c.source_next_is;
    dest_next_is = c.dest_next_is;
    steps = [];
    goes = λ t. goes_not m read (world_at size c.source c.dest old) event [] c.step fault c.event_is (c.is t) (c.fault_is t);
    world = λ none. absurd (some_none fault none);
    lines = λ t. c.text;
    choices = c.choices ∙ sym (append-nil old.choices.items);
    asked = λ side none. tt;
    stops = λ fuses known. tt;
    sets = λ none. absurd (some_none fault none);
    blamed = blamed_none M;
    source_later = c.source_later;
    dest_later = c.dest_later;
  }

  -- ---- a flow

  -- so far: these numbers were delivered, and the rest is to be
  pub record HasFlowed (last : ℕ) (old new : Stage D M) (text : List ℕ) : Type 0 where
    pub source : SourceHost D M
    pub dest : DestHost D M
    pub source_next : SourceHost D M
    pub dest_next : DestHost D M
    pub source_is : old.source ≡ source_end.Open source
    pub dest_is : old.dest ≡ dest_end.Open dest
    pub source_next_is : new.source ≡ source_end.Open source_next
    pub dest_next_is : new.dest ≡ dest_end.Open dest_next
    pub steps : List (RunStep M)
    pub done : List ℕ
    pub are : waiting old.log ≡ done ++ rest_from new.flowed last new.log
    pub goes : told → Goes m read (world_at size source dest old) (map kinds.Deliver done) steps None
    pub world : world_at size source_next dest_next new ≡ after_steps (world_at size source dest old) steps
    pub lines : told → text ≡ lines_text (lines_of m (world_at size source dest old) steps)
    pub choices : new.choices.items ≡ old.choices.items ++ map (λ (s : RunStep M). s.choice) steps
    pub asked : (side : Side) → is_armed side old ≡ false → NeverStops side (world_at size source dest old) steps
    pub stops : (fuses : Side → Bool) → ((side : Side) → is_armed side old ≡ true → fuses side ≡ true) → StopsAreAsked fuses (world_at size source dest old) steps
    pub blamed : AreBlamed steps
    pub source_later : Later faults size (failed_calls Source steps) (Some source.server.files.volume.disk) (Some source_next.server.files.volume.disk)
    pub dest_later : Later faults size (failed_calls Dest steps) (Some dest.server.files.volume.disk) (Some dest_next.server.files.volume.disk)

  -- before the first delivery
  pub flow_begun : (old : Stage D M) → IsReady old → old.flowed ≤ length old.log → AllDelivered old.flowed old.log → HasFlowed (length old.log) old old []
  flow_begun old ready within d =
      let s = source_there old.source ready.source in
      let e = dest_there old.dest ready.dest in
      record {
        source = s.core;
        dest = e.core;
        source_next = s.core;
        dest_next = e.core;
        source_is = s.is;
        dest_is = e.is;
        source_next_is = s.is;
        dest_next_is = e.is;
        steps = [];
        done = [];
        are = sym (rest_first old.flowed old.log within d);
        goes = λ t. (refl, refl);
        world = refl;
        lines = λ t. refl;
        choices = sym (append-nil old.choices.items);
        asked = λ side none. tt;
        stops = λ fuses known. tt;
        blamed = blamed_none M;
        source_later = later_same faults size _;
        dest_later = later_same faults size _;
      }

  -- one name for a core
  same_source : (end : SourceEnd D M) (a b : SourceHost D M) → end ≡ source_end.Open a → end ≡ source_end.Open b → a ≡ b
  same_source end a b p q = opened_source a b (sym p ∙ q)

  same_dest : (end : DestEnd D M) (a b : DestHost D M) → end ≡ dest_end.Open a → end ≡ dest_end.Open b → a ≡ b
  same_dest end a b p q = opened_dest a b (sym p ∙ q)

  -- the whole goes as the rest does
  flowed_goes : (last : ℕ) (old now : Stage D M) (text : List ℕ) (h : HasFlowed last old now text) (more : List (RunStep M)) (end : Option runs.Fault) (rest : List ℕ)
      → rest_from now.flowed last now.log ≡ rest → {steps : List (RunStep M)} → h.steps ++ more ≡ steps → told
      → Goes m read (world_at size h.source_next h.dest_next now) (map kinds.Deliver rest) more end
      → Goes m read (world_at size h.source h.dest old) (map kinds.Deliver (waiting old.log)) steps end
  flowed_goes last old now text h more end rest rest_is {steps} steps_are t later =
      subst (λ (ss : List (RunStep M)). Goes m read (world_at size h.source h.dest old) (map kinds.Deliver (waiting old.log)) ss end) steps_are
      (subst (λ (es : List Event). Goes m read (world_at size h.source h.dest old) es (h.steps ++ more) end)
      (sym (ap (λ (ns : List ℕ). map kinds.Deliver ns) (h.are ∙ ap (λ (ns : List ℕ). h.done ++ ns) rest_is) ∙ map-append kinds.Deliver h.done rest))
      (goes_join m read (map kinds.Deliver h.done) (map kinds.Deliver rest) (world_at size h.source h.dest old) h.steps more end (h.goes t)
      (subst (λ (w : RunWorld M). Goes m read w (map kinds.Deliver rest) more end) h.world later)))

  -- no fuse was set since
  abbrev pub Unset : Stage D M → Stage D M → Type 0
  Unset old now = (side : Side) → is_armed side now ≡ true → is_armed side old ≡ true

  -- a record is passed over that was delivered
  pub flow_past : (last : ℕ) (old now : Stage D M) (text : List ℕ) (r : Posted) → HasFlowed last old now text → now.flowed < last
      → slice_get now.log now.flowed ≡ Some r → r.delivered ≡ true → HasFlowed last old (next_flowed now) text
  flow_past last old now text r h within is was = record {
    source = h.source;
    dest = h.dest;
    source_next = h.source_next;
    dest_next = h.dest_next;
    source_is = h.source_is;
    dest_is = h.dest_is;
    source_next_is = h.source_next_is;
    dest_next_is = h.dest_next_is;
    steps = h.steps;
    done = h.done;
    are = h.are ∙ ap (λ (ns : List ℕ). h.done ++ ns) (rest_next now.flowed last now.log r within is
        ∙ ap (λ (b : Bool). if b then rest_from (now.flowed + 1) last now.log else (now.flowed + 1) ∷ rest_from (now.flowed + 1) last now.log) was);
    goes = h.goes;
    world = h.world;
    lines = h.lines;
    choices = h.choices;
    asked = h.asked;
    stops = h.stops;
    blamed = h.blamed;
    source_later = h.source_later;
    dest_later = h.dest_later;
  }

  -- the numbers before and after a delivery
  rest_delivered : (last : ℕ) (now new : Stage D M) (r : Posted) → now.flowed < last → last ≤ length now.log → slice_get now.log now.flowed ≡ Some r → r.delivered ≡ false
      → Grows (marked (now.flowed + 1) now.log) new.log → new.flowed ≡ now.flowed + 1
      → rest_from now.flowed last now.log ≡ (now.flowed + 1) ∷ rest_from new.flowed last new.log
  rest_delivered last now new r within all is was g flowed =
      rest_next now.flowed last now.log r within is
      ∙ (ap (λ (b : Bool). if b then rest_from (now.flowed + 1) last now.log else (now.flowed + 1) ∷ rest_from (now.flowed + 1) last now.log) was
      ∙ (ap (λ (ns : List ℕ). (now.flowed + 1) ∷ ns) (sym (rest_marked now.flowed last now.log new.log within all g))
      ∙ ap (λ (n : ℕ). (now.flowed + 1) ∷ rest_from n last new.log) (sym flowed)))

  -- one is delivered
  pub flow_more : (last : ℕ) (old now new : Stage D M) (text_now text_new : List ℕ) (r : Posted) → HasFlowed last old now text_now → Unset old now → now.flowed < last → last ≤ length now.log
      → slice_get now.log now.flowed ≡ Some r → r.delivered ≡ false → FlowsTo told m read faults size now new text_now text_new None → new.flowed ≡ now.flowed + 1
      → HasFlowed last old new text_new
  flow_more last old now new text_now text_new r h unset within all is was f flowed =
      let c = f.small in
      let source : c.source ≡ h.source_next = same_source now.source c.source h.source_next c.source_is h.source_next_is in
      let dest : c.dest ≡ h.dest_next = same_dest now.dest c.dest h.dest_next c.dest_is h.dest_next_is in
      let worlds : world_at size c.source c.dest now ≡ world_at size h.source_next h.dest_next now =
      ap (λ (a : SourceHost D M). world_at size a c.dest now) source ∙ ap (λ (b : DestHost D M). world_at size h.source_next b now) dest in
      record {
        source = h.source;
        dest = h.dest;
        source_next = c.source_next;
        dest_next = c.dest_next;
        source_is = h.source_is;
        dest_is = h.dest_is;
        source_next_is = c.source_next_is;
        dest_next_is = c.dest_next_is;
        steps = h.steps ++ c.step ∷ [];
        done = h.done ++ (now.flowed + 1) ∷ [];
        are = h.are ∙ (ap (λ (ns : List ℕ). h.done ++ ns) (rest_delivered last now new r within all is was f.grows flowed)
            ∙ sym (append_assoc h.done ((now.flowed + 1) ∷ []) (rest_from new.flowed last new.log)));
        goes = λ t.
            subst (λ (es : List Event). Goes m read (world_at size h.source h.dest old) es (h.steps ++ c.step ∷ []) None) (sym (map-append kinds.Deliver h.done ((now.flowed + 1) ∷ [])))
            (goes_join m read (map kinds.Deliver h.done) (kinds.Deliver (now.flowed + 1) ∷ []) (world_at size h.source h.dest old) h.steps (c.step ∷ []) None (h.goes t)
            (subst (λ (w : RunWorld M). Goes m read w (kinds.Deliver (now.flowed + 1) ∷ []) (c.step ∷ []) None) (worlds ∙ h.world)
            (goes_on m read (world_at size c.source c.dest now) (kinds.Deliver (now.flowed + 1)) [] c.step [] None c.event_is (c.is t) (c.right t) (refl, refl))));
        world = sym (after_join (world_at size h.source h.dest old) h.steps (c.step ∷ []) ∙ c.after_is);
        lines = λ t. c.lines t
            ∙ (ap (λ (bytes : List ℕ). bytes ++ lines_text (step_lines m (world_at size c.source c.dest now) c.step)) (h.lines t)
            ∙ (sym (flat_map-append line_text (lines_of m (world_at size h.source h.dest old) h.steps) (step_lines m (world_at size c.source c.dest now) c.step))
            ∙ ap lines_text (ap (λ (w : RunWorld M). lines_of m (world_at size h.source h.dest old) h.steps ++ step_lines m w c.step) (worlds ∙ h.world)
            ∙ (ap (λ (ls : List Line). lines_of m (world_at size h.source h.dest old) h.steps ++ ls) (sym (append-nil _))
            ∙ sym (lines_join m (world_at size h.source h.dest old) h.steps (c.step ∷ []))))));
        choices = c.choices ∙ (ap (λ (cs : List Choice). cs ++ c.step.choice ∷ []) h.choices
            ∙ (append_assoc old.choices.items (map (λ (s : RunStep M). s.choice) h.steps) (c.step.choice ∷ [])
            ∙ ap (λ (cs : List Choice). old.choices.items ++ cs) (sym (map-append (λ (s : RunStep M). s.choice) h.steps (c.step ∷ [])))));
        asked = λ side none.
            let stays : cut_of side (world_at size c.source c.dest now) c.step ≡ None =
            c.asked side (not_armed (is_armed side now) (is_armed side old) (unset side) none) in
            never_join side (world_at size h.source h.dest old) h.steps (c.step ∷ []) (h.asked side none)
            (subst (λ (w : RunWorld M). NeverStops side w (c.step ∷ [])) (worlds ∙ h.world) (stays, tt));
        stops = λ fuses known.
            let one : StopsAreAsked (fuses_behind fuses h.steps) (world_at size c.source c.dest now) (c.step ∷ []) = (
              λ side none.
                  c.asked side
                  (not_wider (is_armed side now) (fuses_behind fuses h.steps side) (crashes_in (kinds.Deliver (now.flowed + 1)) side) (crashes_in c.step.event side)
                  (λ armed. fuse_stays fuses h.steps side (known side (unset side armed))) (ap (λ (e : Event). crashes_in e side) c.event_is) none),
              tt,
            ) in
            asked_join fuses (world_at size h.source h.dest old) h.steps (c.step ∷ []) (h.stops fuses known)
            (subst (λ (w : RunWorld M). StopsAreAsked (fuses_behind fuses h.steps) w (c.step ∷ [])) (worlds ∙ h.world) one);
        blamed = blamed_join h.steps (c.step ∷ []) h.blamed c.blamed;
        source_later = later_more faults size Source h.steps (c.step ∷ []) _ _ _ h.source_later
            (subst (λ (a : SourceHost D M). Later faults size (failed_calls Source (c.step ∷ [])) (Some a.server.files.volume.disk) (Some c.source_next.server.files.volume.disk)) source
            (later_one Source c.step _ _ c.source_later));
        dest_later = later_more faults size Dest h.steps (c.step ∷ []) _ _ _ h.dest_later
            (subst (λ (b : DestHost D M). Later faults size (failed_calls Dest (c.step ∷ [])) (Some b.server.files.volume.disk) (Some c.dest_next.server.files.volume.disk)) dest
            (later_one Dest c.step _ _ c.dest_later));
      }

  -- one ends the run
  pub flow_ended : (last : ℕ) (old now new : Stage D M) (text_now text_new : List ℕ) (r : Posted) (fault : runs.Fault) → HasFlowed last old now text_now → now.flowed < last → last ≤ length now.log
      → slice_get now.log now.flowed ≡ Some r → r.delivered ≡ false → FlowsTo told m read faults size now new text_now text_new (Some fault)
      → StageGoes told m read faults size (map kinds.Deliver (waiting old.log)) old new text_new (Some fault)
  flow_ended last old now new text_now text_new r fault h within all is was f =
      let c = f.small in
      let source : c.source ≡ h.source_next = same_source now.source c.source h.source_next c.source_is h.source_next_is in
      let dest : c.dest ≡ h.dest_next = same_dest now.dest c.dest h.dest_next c.dest_is h.dest_next_is in
      let worlds : world_at size c.source c.dest now ≡ world_at size h.source_next h.dest_next now =
      ap (λ (a : SourceHost D M). world_at size a c.dest now) source ∙ ap (λ (b : DestHost D M). world_at size h.source_next b now) dest in
      record {
        source = h.source;
        dest = h.dest;
        source_next = c.source_next;
        dest_next = c.dest_next;
        source_is = h.source_is;
        dest_is = h.dest_is;
        source_next_is = c.source_next_is;
        dest_next_is = c.dest_next_is;
        steps = h.steps;
        goes = λ t.
            flowed_goes last old now text_now h [] (Some fault) ((now.flowed + 1) ∷ rest_from (now.flowed + 1) last now.log)
            (rest_next now.flowed last now.log r within is
            ∙ ap (λ (b : Bool). if b then rest_from (now.flowed + 1) last now.log else (now.flowed + 1) ∷ rest_from (now.flowed + 1) last now.log) was)
            (append-nil h.steps) t
            (subst (λ (w : RunWorld M). Goes m read w (kinds.Deliver (now.flowed + 1) ∷ map kinds.Deliver (rest_from (now.flowed + 1) last now.log)) [] (Some fault)) worlds
            (goes_not m read (world_at size c.source c.dest now) (kinds.Deliver (now.flowed + 1)) (map kinds.Deliver (rest_from (now.flowed + 1) last now.log)) c.step fault c.event_is (c.is t) (c.fault_is t)));
        world = λ none. absurd (some_none fault none);
        lines = λ t. c.text ∙ h.lines t;
        choices = c.choices ∙ h.choices;
        asked = λ side none. h.asked side (asked_first (is_armed side old) _ none);
        stops = h.stops;
        sets = λ none. absurd (some_none fault none);
        blamed = h.blamed;
        source_later = later_and_none (failed_calls Source h.steps) _ _
            (later_join faults size (failed_calls Source h.steps) 0 _ _ _ h.source_later
            (subst (λ (a : SourceHost D M). Later faults size 0 (Some a.server.files.volume.disk) (Some c.source_next.server.files.volume.disk)) source c.source_later));
        dest_later = later_and_none (failed_calls Dest h.steps) _ _
            (later_join faults size (failed_calls Dest h.steps) 0 _ _ _ h.dest_later
            (subst (λ (b : DestHost D M). Later faults size 0 (Some b.server.files.volume.disk) (Some c.dest_next.server.files.volume.disk)) dest c.dest_later));
      }

  -- all are
  pub flow_done : (last : ℕ) (old now : Stage D M) (text : List ℕ) → HasFlowed last old now text → last ≤ now.flowed
      → StageGoes told m read faults size (map kinds.Deliver (waiting old.log)) old now text None
  flow_done last old now text h over = record {
    source = h.source;
    dest = h.dest;
    source_next = h.source_next;
    dest_next = h.dest_next;
    source_is = h.source_is;
    dest_is = h.dest_is;
    source_next_is = h.source_next_is;
    dest_next_is = h.dest_next_is;
    steps = h.steps;
    goes = λ t. flowed_goes last old now text h [] None [] (rest_over now.flowed last now.log over) (append-nil h.steps) t (refl, refl);
    world = λ none. h.world;
    lines = h.lines;
    choices = h.choices;
    asked = λ side none. h.asked side (asked_first (is_armed side old) _ none);
    stops = h.stops;
    sets = λ none fuses side is. let both : false ≡ true = sym (none_sets side (waiting old.log)) ∙ is in absurd (cc);
    blamed = h.blamed;
    source_later = h.source_later;
    dest_later = h.dest_later;
  }

-- ---- a record, and whether it waits

pub waits : (n : ℕ) (log : List Posted) → n < length log → (r : Posted) × (slice_get log n ≡ Some r)
waits n [] within = absurd (omega arith)
waits zero (r ∷ log) within = (r, refl)
waits (suc n) (r ∷ log) within = waits n log (omega arith)

posted_next : (n : ℕ) (log : List Posted) → posted_at (n + 1) log ≡ slice_get log n
posted_next n log = rw add-one refl

pub waiting_is : (n : ℕ) (log : List Posted) (r : Posted) → slice_get log n ≡ Some r → is_waiting (n + 1) log ≡ not r.delivered
waiting_is n log r is = ap (λ (o : Option Posted). option_map_or (λ (x : Posted). not x.delivered) o false) (posted_next n log ∙ is)

pub not_false : (b : Bool) → not b ≡ false → b ≡ true
not_false true e = refl
not_false false e = absurd cc

not_true : (b : Bool) → not b ≡ true → b ≡ false
not_true false e = refl
not_true true e = absurd cc

module _ {D M : Type 0} (told : Type 0) (m : RunMachines M) (read : Reading) (faults size : D → ℕ) where
  pub flows_to : {E : Type 0} (old new : Stage D M) (text_old text_new : List ℕ) (r : Result (Result (Option Fault) (Lost D)) E) → is_waiting (old.flowed + 1) old.log ≡ true
      → IfOk r (SmallEnds told m read faults size (kinds.Deliver (old.flowed + 1)) (next_flowed old) new text_old text_new)
      → Grows (marked (old.flowed + 1) old.log) new.log
      → IfOk r (FlowsEnd told m read faults size old new text_old text_new)
  flows_to old new text_old text_new (Ok (Ok fault)) waiting small grows =
      subst (λ (b : Bool). FlowsBy b told m read faults size old new text_old text_new (faults_named fault)) (sym waiting) (record { small = small; grows = grows })
  flows_to old new text_old text_new (Ok (Err lost)) waiting small grows = (asked_alone (is_armed lost.side old) small.0, small.1)
  flows_to old new text_old text_new (Err e) waiting small grows = tt

  pub flows_past : (old : Stage D M) (text : List ℕ) → is_waiting (old.flowed + 1) old.log ≡ false → FlowsOne told m read faults size old (next_flowed old) text text None
  flows_past old text waiting =
      subst (λ (b : Bool). FlowsBy b told m read faults size old (next_flowed old) text text None) (sym waiting) (record { none = refl; text = refl; stage = refl })

  -- a flow goes on with it, or ends
  pub flow_goes_on : (last : ℕ) (old now new : Stage D M) (text_now text_new : List ℕ) → HasFlowed told m read faults size last old now text_now → Unset told m read faults size old now → now.flowed < last → last ≤ length now.log
      → FlowsOne told m read faults size now new text_now text_new None → new.flowed ≡ now.flowed + 1 → HasFlowed told m read faults size last old new text_new
  flow_goes_on last old now new text_now text_new h unset within all one flowed = by_wait (is_waiting (now.flowed + 1) now.log) refl one
    where
      r : (x : Posted) × (slice_get now.log now.flowed ≡ Some x)
      r = waits now.flowed now.log (omega (arith, within, all))

      by_wait : (b : Bool) → is_waiting (now.flowed + 1) now.log ≡ b → FlowsBy b told m read faults size now new text_now text_new None → HasFlowed told m read faults size last old new text_new
      by_wait true is f = flow_more told m read faults size last old now new text_now text_new r.0 h unset within all r.1 (not_true r.0.delivered (sym (waiting_is now.flowed now.log r.0 r.1) ∙ is)) f flowed
      by_wait false is f =
          subst (λ (s : Stage D M). HasFlowed told m read faults size last old s text_new) (sym f.stage)
          (subst (λ (t : List ℕ). HasFlowed told m read faults size last old (next_flowed now) t) (sym f.text)
          (flow_past told m read faults size last old now text_now r.0 h within r.1 (not_false r.0.delivered (sym (waiting_is now.flowed now.log r.0 r.1) ∙ is))))

  pub flow_ends : (last : ℕ) (old now new : Stage D M) (text_now text_new : List ℕ) (fault : runs.Fault) → HasFlowed told m read faults size last old now text_now → now.flowed < last → last ≤ length now.log
      → FlowsOne told m read faults size now new text_now text_new (Some fault) → StageGoes told m read faults size (map kinds.Deliver (waiting old.log)) old new text_new (Some fault)
  flow_ends last old now new text_now text_new fault h within all one = by_wait (is_waiting (now.flowed + 1) now.log) refl one
    where
      r : (x : Posted) × (slice_get now.log now.flowed ≡ Some x)
      r = waits now.flowed now.log (omega (arith, within, all))

      by_wait : (b : Bool) → is_waiting (now.flowed + 1) now.log ≡ b → FlowsBy b told m read faults size now new text_now text_new (Some fault)
          → StageGoes told m read faults size (map kinds.Deliver (waiting old.log)) old new text_new (Some fault)
      by_wait true is f = flow_ended told m read faults size last old now new text_now text_new r.0 fault h within all r.1 (not_true r.0.delivered (sym (waiting_is now.flowed now.log r.0 r.1) ∙ is)) f
      by_wait false is f = absurd (some_none fault f.none)

  -- the same, as it is told
  pub goes_as : (smalls : List Event) (old new : Stage D M) (text text' : List ℕ) (fault fault' : Option runs.Fault) → text' ≡ text → fault' ≡ fault
      → StageGoes told m read faults size smalls old new text fault → StageGoes told m read faults size smalls old new text' fault'
  goes_as smalls old new text text' fault fault' p q g =
      subst (λ (t : List ℕ). StageGoes told m read faults size smalls old new t fault') (sym p) (subst (λ (f : Option runs.Fault). StageGoes told m read faults size smalls old new text f) (sym q) g)

  -- by what a delivery answered
  pub flow_next : (last : ℕ) (old now new : Stage D M) (text_now text_new : List ℕ) (answer : Result (Option Fault) (Lost D)) → HasFlowed told m read faults size last old now text_now
      → Unset told m read faults size old now → now.flowed < last → last ≤ length now.log
      → answer ≡ Ok None → FlowsEnd told m read faults size now new text_now text_new answer → new.flowed ≡ now.flowed + 1 → HasFlowed told m read faults size last old new text_new
  flow_next last old now new text_now text_new answer h unset within all is one flowed =
      flow_goes_on last old now new text_now text_new h unset within all
      (subst (λ (o : Result (Option Fault) (Lost D)). FlowsEnd told m read faults size now new text_now text_new o) is one) flowed

  flow_faults : (last : ℕ) (old now new : Stage D M) (text_now text_new given : List ℕ) (fault : Fault) (named : Option runs.Fault) → HasFlowed told m read faults size last old now text_now
      → now.flowed < last → last ≤ length now.log → FlowsOne told m read faults size now new text_now text_new (faults_named (Some fault)) → given ≡ text_new
      → named ≡ faults_named (Some fault) → StageGoes told m read faults size (map kinds.Deliver (waiting old.log)) old new given named
  flow_faults last old now new text_now text_new given (faults_of.Mistaken mistake) named h within all one text_is fault_is =
      goes_as (map kinds.Deliver (waiting old.log)) old new text_new given (Some (runs.Mistaken mistake)) named text_is fault_is
      (flow_ends last old now new text_now text_new (runs.Mistaken mistake) h within all one)
  flow_faults last old now new text_now text_new given faults_of.TooLarge named h within all one text_is fault_is =
      goes_as (map kinds.Deliver (waiting old.log)) old new text_new given (Some runs.TooLarge) named text_is fault_is
      (flow_ends last old now new text_now text_new runs.TooLarge h within all one)

  pub flow_stops : (last : ℕ) (old now new : Stage D M) (text_now text_new given : List ℕ) (answer : Result (Option Fault) (Lost D)) (fault : Fault) (named : Option runs.Fault)
      → HasFlowed told m read faults size last old now text_now → now.flowed < last → last ≤ length now.log → answer ≡ Ok (Some fault)
      → FlowsEnd told m read faults size now new text_now text_new answer → given ≡ text_new → named ≡ faults_named (Some fault)
      → StageGoes told m read faults size (map kinds.Deliver (waiting old.log)) old new given named
  flow_stops last old now new text_now text_new given answer fault named h within all is one text_is fault_is =
      flow_faults last old now new text_now text_new given fault named h within all
      (subst (λ (o : Result (Option Fault) (Lost D)). FlowsEnd told m read faults size now new text_now text_new o) is one) text_is fault_is
