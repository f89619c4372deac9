-- What a flow keeps, and the servers that stop or are lost in it.
use Rattle.std.proofs.Common.{◌≡◌, ℕ, suc, ◌+◌, ◌<◌, ◌≤◌, Bool, true, false, List, [], ◌∷◌, ◌++◌, length, Option, Some, None, refl, sym, ap, ◌∙◌, subst, arith, add-zero}
use Rattle.std.proofs.Math.Numerals.{add-one}
use Rattle.std.proofs.lemmas.List.{append-nil, map-append}
use Rattle.std.specs.Prelude.{◌||◌, IfOk, Result, Ok, Err, is_some, map}
use Rattle.client_core.specs.State.{ClientState}
use Rattle.disk_model.specs.declared.fuse.Fuse.{Fuse}
use Rattle.nfs_base.specs.declared.side.Side.{Side}
use Rattle.nfs_base.specs.declared.side.Side.TheVariants.{Source, Dest}
use Rattle.outcome.specs.Causes.{Rose}
use Rattle.wire_machine.specs.Check.{Reading}
use Rattle.wire_machine.specs.Runs as runs
use Rattle.wire_machine.specs.Steps.{same_side}
use Rattle.wire_machine.specs.World.{Posted, marked, waiting}
use Rattle.run_ends.specs.Ends.{RunMachines, RunStep}
use Rattle.wire_run.proofs.Cores.{dest_open, dest_there, source_open, source_there}
use Rattle.wire_run.specs.Cutting.{FlowsEnd, IsLostIn, SmallEnds, StageLoses, disk_at, disk_if, disk_left}
use Rattle.wire_run.specs.Running.{Later, LostFor, failed_calls, faults_in}
use Rattle.wire_run.specs.Stage.{AllDelivered, BeginsNone, DestHost, DestLeaves, FlowKeeps, FlowKeepsStops, Grows, IsBelow, IsDestOpen, IsFair, IsFlowing, IsOpenAt, IsReady, IsSourceOpen, SmallIs, SmallKeeps, SourceHost, SourceLeaves, StageGoes, StageKeeps, dest_disk, faults_named, is_asked, is_waiting, most_records, next_flowed, source_disk}
use Rattle.wire_run.specs.Watching.{AreNumbered, KeepsStops, crashes_in, is_armed, no_side}
use Rattle.wire_run.specs.declared.ends.DestEnd.{DestEnd}
use Rattle.wire_run.specs.declared.ends.DestEnd.TheVariants as dest_end
use Rattle.wire_run.specs.declared.ends.SourceEnd.{SourceEnd}
use Rattle.wire_run.specs.declared.ends.SourceEnd.TheVariants as source_end
use Rattle.wire_run.specs.declared.fresh.Unmade.{Unmade}
use Rattle.wire_run.specs.declared.fresh.Unmade.TheVariants as unmade
use Rattle.wire_run.specs.declared.stage.Fault.{Fault}
use Rattle.wire_run.specs.declared.stage.Lost.{Lost}
use Rattle.wire_run.specs.declared.stage.Stage.{Stage}
use Rattle.wire_run.proofs.Flows.{HasFlowed, asked_alone, asked_first, goes_as, not_false, once_goes, rest_of, waiting_is, waits}
use Rattle.wire_run.proofs.Keeping.{dest_still, source_still, stage_keeps_on}
use Rattle.wire_run.proofs.Later.{blamed_none, later_join, rose_behind}
use Rattle.wire_run.proofs.Logs.{delivered_append, delivered_next, delivered_past, keeps_none, length_marked}
use Rattle.wire_run.proofs.Watched.{numbered_at, or_left}
use Rattle.wire_schedule.specs.declared.event.Event.{Event}
use Rattle.wire_schedule.specs.declared.event.Event.TheVariants as kinds

-- ---- what a flow keeps

-- before its first delivery
pub flow_keeps_none : {D M : Type 0} (told : Type 0) (size : D → ℕ) (fuse : D → Fuse) (s : Stage D M) → IsFlowing told size fuse s → FlowKeeps told s s
flow_keeps_none told size fuse s f = record {
  keeps = record {
    source = source_still told s.source s.source f.ready.source refl;
    dest = dest_still told s.dest s.dest f.ready.dest refl;
    setting = refl;
    log = keeps_none s.log;
    bytes = f.bytes;
  };
  below = λ e b. b;
  clock = refl;
  within = f.within;
  few = f.few;
  delivered = f.delivered;
}

pub flow_stops_none : {D M : Type 0} (told : Type 0) (size : D → ℕ) (fuse : D → Fuse) (s : Stage D M) → IsFlowing told size fuse s → FlowKeepsStops told size fuse s s
flow_stops_none told size fuse s f = record { watched = f.watched; numbered = λ e a. a; armed = λ side is. is }

-- and after one more
pub flow_keeps_on : {D M : Type 0} (told : Type 0) (a b c : Stage D M) → FlowKeeps told a b → FlowKeeps told b c → FlowKeeps told a c
flow_keeps_on told a b c p q = record {
  keeps = stage_keeps_on told a b c p.keeps q.keeps;
  below = λ e x. q.below e (p.below e x);
  clock = q.clock ∙ p.clock;
  within = q.within;
  few = q.few;
  delivered = q.delivered;
}

pub flow_stops_on : {D M : Type 0} (told : Type 0) (size : D → ℕ) (fuse : D → Fuse) (a b c : Stage D M) → FlowKeepsStops told size fuse a b → FlowKeepsStops told size fuse b c
    → FlowKeepsStops told size fuse a c
flow_stops_on told size fuse a b c p q =
    record { watched = q.watched; numbered = λ e x. q.numbered e (p.numbered e x); armed = λ side is. p.armed side (q.armed side is) }

pub begins_on : {M : Type 0} (a b c : ClientState M) → BeginsNone a b → BeginsNone b c → BeginsNone a c
begins_on a b c p q = λ j none. q j (p j none)

-- ---- what one delivery of it keeps

below_at : {D M : Type 0} (n k : ℕ) (s : Stage D M) → n ≤ k → IsBelow n s → IsBelow k s
below_at n k s le b = record { source = omega (arith, b.source); dest = omega (arith, b.dest); client = omega (arith, b.client); choices = omega (arith, b.choices) }

still_below : {D M : Type 0} (n : ℕ) (s : Stage D M) → IsBelow n s → IsBelow n (next_flowed s)
still_below n s b = record { source = b.source; dest = b.dest; client = b.client; choices = b.choices }

delivered_one : (n : ℕ) (log : List Posted) → AllDelivered (suc n) log → AllDelivered (n + 1) log
delivered_one n log d = rw add-one d

pub flow_fair : {D M : Type 0} (told : Type 0) (size : D → ℕ) (fuse : D → Fuse) (s : Stage D M) → IsFlowing told size fuse s → s.flowed < most_records
    → IsFair told size fuse (next_flowed s)
flow_fair told size fuse s f few = record {
  ready = record { source = f.ready.source; dest = f.ready.dest };
  below = still_below 67108862 s (below_at (1000000 + s.flowed) 67108862 s (omega (arith, few)) f.below);
  bytes = f.bytes;
  clock = f.clock;
  watched = record { source = f.watched.source; dest = f.watched.dest };
  numbered = numbered_at told (1000000 + s.flowed) 67108862 s (next_flowed s) (omega (arith, few)) refl refl f.numbered;
}

pub delivered_keeps : {D M : Type 0} (told : Type 0) (size : D → ℕ) (fuse : D → Fuse) (old new : Stage D M) → IsFlowing told size fuse old → old.flowed < length old.log → old.flowed < most_records
    → SmallKeeps told (next_flowed old) new → Grows (marked (old.flowed + 1) old.log) new.log → new.clock ≡ old.clock → FlowKeeps told old new
delivered_keeps told size fuse old new f more few k g clock = record {
  keeps = record { source = k.keeps.source; dest = k.keeps.dest; setting = k.keeps.setting; log = k.keeps.log; bytes = k.keeps.bytes };
  below = λ e b. below_at (e + old.flowed + 1) (e + new.flowed) new (omega (arith, k.flowed)) (k.below (e + old.flowed) (still_below (e + old.flowed) old b));
  clock = clock;
  within = omega (arith, k.flowed, more, k.keeps.log.longer);
  few = omega (arith, k.flowed, few);
  delivered = subst (λ (n : ℕ). AllDelivered n new.log) (sym k.flowed) (subst (λ (l : List Posted). AllDelivered (old.flowed + 1) l) (sym g.1)
      (delivered_append (old.flowed + 1) (marked (old.flowed + 1) old.log) g.0 (omega (arith, length_marked (old.flowed + 1) old.log, more))
      (rw add-one (delivered_next old.flowed old.log f.delivered))));
}

pub delivered_stops : {D M : Type 0} (told : Type 0) (size : D → ℕ) (fuse : D → Fuse) (old new : Stage D M) → new.flowed ≡ old.flowed + 1
    → KeepsStops told size fuse no_side (next_flowed old) new → FlowKeepsStops told size fuse old new
delivered_stops told size fuse old new flowed k = record {
  watched = k.watched;
  numbered = λ e a. numbered_at told (e + old.flowed + 1) (e + new.flowed) new new (omega (arith, flowed)) refl refl
      (k.numbered (e + old.flowed) (record { source = a.source; dest = a.dest }));
  armed = λ side is. asked_alone (is_armed side old) (k.armed side is);
}

pub passed_keeps : {D M : Type 0} (told : Type 0) (size : D → ℕ) (fuse : D → Fuse) (old : Stage D M) → IsFlowing told size fuse old → old.flowed < length old.log → old.flowed < most_records
    → is_waiting (old.flowed + 1) old.log ≡ false → FlowKeeps told old (next_flowed old)
passed_keeps told size fuse old f more few waiting =
    let r = waits old.flowed old.log more in
    record {
      keeps = record {
        source = source_still told old.source old.source f.ready.source refl;
        dest = dest_still told old.dest old.dest f.ready.dest refl;
        setting = refl;
        log = keeps_none old.log;
        bytes = f.bytes;
      };
      below = λ e b. still_below (e + (old.flowed + 1)) old (below_at (e + old.flowed) (e + (old.flowed + 1)) old (omega arith) b);
      clock = refl;
      within = omega (arith, more);
      few = omega (arith, few);
      delivered = delivered_one old.flowed old.log (delivered_past old.flowed old.log r.0 r.1 (not_false r.0.delivered (sym (waiting_is old.flowed old.log r.0 r.1) ∙ waiting)) f.delivered);
    }

pub passed_stops : {D M : Type 0} (told : Type 0) (size : D → ℕ) (fuse : D → Fuse) (old : Stage D M) → IsFlowing told size fuse old → FlowKeepsStops told size fuse old (next_flowed old)
passed_stops told size fuse old f = record {
  watched = record { source = f.watched.source; dest = f.watched.dest };
  numbered = λ e a. numbered_at told (e + old.flowed) (e + (old.flowed + 1)) old (next_flowed old) (omega arith) refl refl a;
  armed = λ side is. is;
}

-- ---- so the next one may come

pub flowing_on : {D M : Type 0} (told : Type 0) (size : D → ℕ) (fuse : D → Fuse) (old new : Stage D M) → IsFlowing told size fuse old → IsReady new
    → FlowKeeps told old new → FlowKeepsStops told size fuse old new → IsFlowing told size fuse new
flowing_on told size fuse old new f ready k s = record {
  ready = ready;
  below = k.below 1000000 f.below;
  watched = s.watched;
  numbered = s.numbered 1000000 f.numbered;
  bytes = k.keeps.bytes;
  clock = omega (arith, k.clock, f.clock);
  within = k.within;
  few = k.few;
  delivered = k.delivered;
}

pub passed_on : {D M : Type 0} (told : Type 0) (size : D → ℕ) (fuse : D → Fuse) (old : Stage D M) → IsFlowing told size fuse old → old.flowed < length old.log → old.flowed < most_records
    → is_waiting (old.flowed + 1) old.log ≡ false → IsFlowing told size fuse (next_flowed old)
passed_on told size fuse old f more few waiting =
    flowing_on told size fuse old (next_flowed old) f (record { source = f.ready.source; dest = f.ready.dest })
    (passed_keeps told size fuse old f more few waiting) (passed_stops told size fuse old f)

module _ {D M : Type 0} (told : Type 0) (m : RunMachines M) (read : Reading) (faults size : D → ℕ) where
  small_ready : (event : Event) (old new : Stage D M) (text_old text_new : List ℕ) (fault : Option runs.Fault)
      → SmallIs told m read faults size event old new text_old text_new fault → IsReady new
  small_ready event old new text_old text_new None c =
      record { source = source_open new.source c.source_next c.source_next_is; dest = dest_open new.dest c.dest_next c.dest_next_is }
  small_ready event old new text_old text_new (Some fault) c =
      record { source = source_open new.source c.source_next c.source_next_is; dest = dest_open new.dest c.dest_next c.dest_next_is }

  pub delivered_on : {E : Type 0} (fuse : D → Fuse) (event : Event) (old new : Stage D M) (text_old text_new : List ℕ) (r : Result (Result (Option Fault) (Lost D)) E)
      → IsFlowing told size fuse old → FlowKeeps told old new → FlowKeepsStops told size fuse old new
      → IfOk r (SmallEnds told m read faults size event (next_flowed old) new text_old text_new)
      → IfOk r (λ ended. IfOk ended (λ fault. IsFlowing told size fuse new))
  delivered_on fuse event old new text_old text_new (Ok (Ok fault)) f k s c =
      flowing_on told size fuse old new f (small_ready event (next_flowed old) new text_old text_new (faults_named fault) c) k s
  delivered_on fuse event old new text_old text_new (Ok (Err lost)) f k s c = tt
  delivered_on fuse event old new text_old text_new (Err e) f k s c = tt

-- an answer, by its parts
pub ended_as : {D : Type 0} (answer : Result (Option Fault) (Lost D)) (o p : Option Fault) → answer ≡ Ok o → o ≡ p → answer ≡ Ok p
ended_as {D} answer o p is same = subst (λ (x : Option Fault). answer ≡ Ok x) same is

pub next_flowing : {D M : Type 0} (told : Type 0) (size : D → ℕ) (fuse : D → Fuse) (new : Stage D M) (answer : Result (Option Fault) (Lost D)) → answer ≡ Ok None
    → IfOk answer (λ fault. IsFlowing told size fuse new) → IsFlowing told size fuse new
next_flowing {D} {M} told size fuse new answer is flowing = subst (λ (o : Result (Option Fault) (Lost D)). IfOk o (λ fault. IsFlowing told size fuse new)) is flowing

-- ---- a server is lost: the other one is there

disk_not : {D : Type 0} (b : Bool) (disk : D) (other : Option D) → b ≡ false → disk_if b disk other ≡ other
disk_not true disk other is = absurd cc
disk_not false disk other is = refl

source_left_open : {D M : Type 0} (told : Type 0) (was : SourceHost D M) (end : SourceEnd D M) → SourceLeaves told was end → is_some (source_disk end) ≡ true → IsSourceOpen end
source_left_open told was (source_end.Open core) leaves there = tt
source_left_open told was source_end.Away leaves there = absurd cc
source_left_open told was (source_end.Disk disk) leaves there = absurd leaves

dest_left_open : {D M : Type 0} (told : Type 0) (was : DestHost D M) (end : DestEnd D M) → DestLeaves told was end → is_some (dest_disk end) ≡ true → IsDestOpen end
dest_left_open told was (dest_end.Open core) leaves there = tt
dest_left_open told was dest_end.Away leaves there = absurd cc
dest_left_open told was (dest_end.Disk disk) leaves there = absurd leaves

-- why a server is lost, from a count on that was lower
lost_behind : {D : Type 0} (told : Type 0) (faults size : D → ℕ) (n : ℕ) (a b c : Option D) (cause : Unmade) → Later faults size n a b → LostFor told faults b c cause → LostFor told faults a c cause
lost_behind told faults size n a b c unmade.DiskFailed l why = rose_behind (faults_in faults a) (faults_in faults b) (faults_in faults c) (omega (arith, l.rose)) why
lost_behind told faults size n a b c (unmade.TooSmall need have) l why = why
lost_behind told faults size n a b c (unmade.NotVolume block at) l why = why

module _ {D M : Type 0} (told : Type 0) (faults size : D → ℕ) where
  pub others_there : (lost : Lost D) (old new : Stage D M) (text_old text_new : List ℕ) → IsReady old → StageKeeps told old new
      → IsLostIn told faults size lost old new text_old text_new → (side : Side) → same_side side lost.side ≡ false → IsOpenAt side new
  others_there lost old new text_old text_new ready k l Source other =
      let s = source_there old.source ready.source in
      source_left_open told k.source.was new.source k.source.leaves
      (sym (ap (λ (o : Option D). is_some o) (disk_not (same_side Source lost.side) lost.disk (source_disk new.source) other))
      ∙ ((l.later Source).there ∙ ap (λ (e : SourceEnd D M). is_some (source_disk e)) s.is))
  others_there lost old new text_old text_new ready k l Dest other =
      let d = dest_there old.dest ready.dest in
      dest_left_open told k.dest.was new.dest k.dest.leaves
      (sym (ap (λ (o : Option D). is_some o) (disk_not (same_side Dest lost.side) lost.disk (dest_disk new.dest) other))
      ∙ ((l.later Dest).there ∙ ap (λ (e : DestEnd D M). is_some (dest_disk e)) d.is))

asked_one : (a b : Bool) → (a || b) ≡ true → (a || (b || false)) ≡ true
asked_one true b is = refl
asked_one false b is = or_left b false is

module _ {D M : Type 0} (told : Type 0) (m : RunMachines M) (read : Reading) (faults size : D → ℕ) where
  -- ---- in an event that is one small step

  once_loses : (event : Event) (lost : Lost D) (old new : Stage D M) (text_old text_new : List ℕ) → IsReady old → StageKeeps told old new
      → (is_armed lost.side old || crashes_in event lost.side) ≡ true → IsLostIn told faults size lost old new text_old text_new
      → StageLoses told m read faults size (event ∷ []) old new lost
  once_loses event lost old new text_old text_new ready k asked l =
      let s = source_there old.source ready.source in
      let d = dest_there old.dest ready.dest in
      record {
        source = s.core;
        dest = d.core;
        source_is = s.is;
        dest_is = d.is;
        done = [];
        rest = event ∷ [];
        are = refl;
        steps = [];
        goes = λ t. (refl, refl);
        choices = l.choices ∙ sym (append-nil old.choices.items);
        asked = asked_one (is_armed lost.side old) (crashes_in event lost.side) asked;
        never = λ side none. tt;
        blamed = blamed_none M;
        why = l.why;
        away = l.away;
        there = others_there told faults size lost old new text_old text_new ready k l;
        later = l.later;
      }

  -- by what it answered
  pub once_went : (event : Event) (old new : Stage D M) (text_old text_new given : List ℕ) (answer : Result (Option Fault) (Lost D)) (fault : Option Fault) (named : Option runs.Fault)
      → text_old ≡ [] → answer ≡ Ok fault → SmallEnds told m read faults size event old new text_old text_new answer → given ≡ text_new → named ≡ faults_named fault
      → StageGoes told m read faults size (event ∷ []) old new given named
  once_went event old new text_old text_new given answer fault named none is ends text_is fault_is =
      goes_as told m read faults size (event ∷ []) old new text_new given (faults_named fault) named text_is fault_is
      (once_goes told m read faults size event old new text_new (faults_named fault)
      (subst (λ (t : List ℕ). SmallIs told m read faults size event old new t text_new (faults_named fault)) none
      (subst (λ (o : Result (Option Fault) (Lost D)). SmallEnds told m read faults size event old new text_old text_new o) is ends)))

  pub once_lost : (event : Event) (old new : Stage D M) (text_old text_new : List ℕ) (answer : Result (Option Fault) (Lost D)) (lost : Lost D) → IsReady old → StageKeeps told old new
      → answer ≡ Err lost → SmallEnds told m read faults size event old new text_old text_new answer → StageLoses told m read faults size (event ∷ []) old new lost
  once_lost event old new text_old text_new answer lost ready k is ends =
      let ended : SmallEnds told m read faults size event old new text_old text_new (Err lost) =
      subst (λ (o : Result (Option Fault) (Lost D)). SmallEnds told m read faults size event old new text_old text_new o) is ends in
      once_loses event lost old new text_old text_new ready k ended.0 ended.1

  -- ---- in a flow

  -- the disks so far
  flowed_later : (last : ℕ) (old now : Stage D M) (text : List ℕ) (h : HasFlowed told m read faults size last old now text) (side : Side)
      → Later faults size (failed_calls side h.steps) (disk_at side old) (disk_at side now)
  flowed_later last old now text h Source =
      subst (λ (o : Option D). Later faults size (failed_calls Source h.steps) o (source_disk now.source)) (sym (ap (λ (e : SourceEnd D M). source_disk e) h.source_is))
      (subst (λ (o : Option D). Later faults size (failed_calls Source h.steps) (Some h.source.server.files.volume.disk) o)
      (sym (ap (λ (e : SourceEnd D M). source_disk e) h.source_next_is)) h.source_later)
  flowed_later last old now text h Dest =
      subst (λ (o : Option D). Later faults size (failed_calls Dest h.steps) o (dest_disk now.dest)) (sym (ap (λ (e : DestEnd D M). dest_disk e) h.dest_is))
      (subst (λ (o : Option D). Later faults size (failed_calls Dest h.steps) (Some h.dest.server.files.volume.disk) o)
      (sym (ap (λ (e : DestEnd D M). dest_disk e) h.dest_next_is)) h.dest_later)

  -- what was flowed changes no disk
  same_disk : (now : Stage D M) (side : Side) → disk_at side (next_flowed now) ≡ disk_at side now
  same_disk now Source = refl
  same_disk now Dest = refl

  later_behind : (n : ℕ) (a b b' c : Option D) → b' ≡ b → Later faults size n a b → Later faults size 0 b' c → Later faults size n a c
  later_behind n a b b' c same first second =
      subst (λ (k : ℕ). Later faults size k a c) (add-zero n)
      (later_join faults size n 0 a b c first (subst (λ (o : Option D). Later faults size 0 o c) same second))

  pub flow_lost : (fuse : D → Fuse) (last : ℕ) (lost : Lost D) (old now new : Stage D M) (text_now text_new : List ℕ) → HasFlowed told m read faults size last old now text_now
      → IsReady now → FlowKeepsStops told size fuse old now → StageKeeps told now new → is_armed lost.side now ≡ true
      → IsLostIn told faults size lost (next_flowed now) new text_now text_new
      → StageLoses told m read faults size (map kinds.Deliver (waiting old.log)) old new lost
  flow_lost fuse last lost old now new text_now text_new h ready stops k asked l = record {
    source = h.source;
    dest = h.dest;
    source_is = h.source_is;
    dest_is = h.dest_is;
    done = map kinds.Deliver h.done;
    rest = map kinds.Deliver (rest_of last now);
    are = ap (λ (ns : List ℕ). map kinds.Deliver ns) h.are ∙ map-append kinds.Deliver h.done (rest_of last now);
    steps = h.steps;
    goes = h.goes;
    choices = l.choices ∙ h.choices;
    asked = or_left (is_armed lost.side old) _ (stops.armed lost.side asked);
    never = λ side none. h.asked side (asked_first (is_armed side old) _ none);
    blamed = h.blamed;
    why = lost_behind told faults size (failed_calls lost.side h.steps) (disk_at lost.side old) (disk_at lost.side now) (Some lost.disk) lost.cause (flowed_later last old now text_now h lost.side)
        (subst (λ (o : Option D). LostFor told faults o (Some lost.disk) lost.cause) (same_disk now lost.side) l.why);
    away = l.away;
    there = others_there told faults size lost (next_flowed now) new text_now text_new (record { source = ready.source; dest = ready.dest })
        (record { source = k.source; dest = k.dest; setting = k.setting; log = k.log; bytes = k.bytes }) l;
    later = λ side. later_behind (failed_calls side h.steps) (disk_at side old) (disk_at side now) (disk_at side (next_flowed now)) (disk_left side lost new) (same_disk now side)
        (flowed_later last old now text_now h side) (l.later side);
  }

  -- by what a delivery answered
  pub flow_loses : (fuse : D → Fuse) (last : ℕ) (lost : Lost D) (answer : Result (Option Fault) (Lost D)) (old now new : Stage D M) (text_now text_new : List ℕ)
      → HasFlowed told m read faults size last old now text_now → IsReady now → FlowKeepsStops told size fuse old now → StageKeeps told now new
      → answer ≡ Err lost → FlowsEnd told m read faults size now new text_now text_new answer
      → StageLoses told m read faults size (map kinds.Deliver (waiting old.log)) old new lost
  flow_loses fuse last lost answer old now new text_now text_new h ready stops k is one =
      let ended : FlowsEnd told m read faults size now new text_now text_new (Err lost) =
      subst (λ (o : Result (Option Fault) (Lost D)). FlowsEnd told m read faults size now new text_now text_new o) is one in
      flow_lost fuse last lost old now new text_now text_new h ready stops k ended.0 ended.1
