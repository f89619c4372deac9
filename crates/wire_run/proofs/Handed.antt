-- How a small step ends that is of a worker or of a record that is delivered, as one of an event.
use Rattle.std.proofs.Common.{◌≡◌, ◌⊎◌, ℕ, zero, suc, Bool, true, false, List, [], ◌∷◌, ◌++◌, length, Option, Some, None, Result, Ok, Err, refl, sym, ap, subst, ◌∙◌, inl, inr}
use Rattle.std.specs.Prelude.{◌||◌, IfOk, IsSome, if◌then◌else◌, option_and_then, option_map}
use Rattle.std.specs.Option.{option_or}
use Rattle.nfs_base.specs.declared.seal.End.TheVariants as ends
use Rattle.nfs_base.specs.declared.side.Side.{Side}
use Rattle.nfs_base.specs.declared.side.Side.TheVariants.{Source, Dest}
use Rattle.outbox.specs.declared.outgoing.Outbox.{Outbox}
use Rattle.run_ends.specs.Ends.{RunStep, RunWorld, Words, machines}
use Rattle.run_ends.specs.Opening.{silenced}
use Rattle.volume_stops.specs.declared.kept.Kept.{Kept}
use Rattle.wire_lines.specs.LineText.{lines_text}
use Rattle.wire_lines.specs.declared.letters.Speaker.{Speaker}
use Rattle.wire_lines.specs.declared.letters.Speaker.TheVariants as speakers
use Rattle.wire_lines.specs.declared.line.Line.{Line}
use Rattle.wire_lines.specs.declared.line.Line.TheVariants as lines
use Rattle.wire_log.specs.Keeping.{bytes_at}
use Rattle.wire_machine.specs.Check.{Reading, mistake}
use Rattle.wire_machine.specs.Ends.{DestAct, SourceAct}
use Rattle.wire_machine.specs.Ends as acts
use Rattle.wire_machine.specs.Lines.{notes_of, own_lines, records_of, unsent, volume_at}
use Rattle.wire_machine.specs.Runs as runs
use Rattle.wire_machine.specs.Runs.{fault_by}
use Rattle.wire_machine.specs.StepLaws.{small_made}
use Rattle.wire_machine.specs.Steps.{Arrives, DestDoes, DestStops, IsChoice, IsCut, IsDelivered, IsSmall, SourceDoes, SourceStops, StopsDelivered, StopsTaking, any_failed, choice_of, cut_by, dest_part, kept_if, port_in, same_side, side_at, source_part, stops_at}
use Rattle.wire_machine.specs.World.{Parts, Posted, bytes_of, marked, posted_at}
use Rattle.wire_machine.specs.declared.choice.Choice.{Choice}
use Rattle.wire_machine.specs.declared.choice.Choice.TheVariants.{Failed, Stopped, Went}
use Rattle.wire_machine.specs.declared.mistake.Mistake.{Mistake}
use Rattle.wire_machine.specs.declared.port.Port.{Port}
use Rattle.wire_machine.specs.declared.port.Port.TheVariants as ports
use Rattle.wire_run.specs.Cutting.{ComesOrCuts, EndsIn, IsCutDone, IsLostIn, SmallEnds, StopsAt, StopsHandedOver, boot_at, disk_at, disk_left}
use Rattle.wire_run.specs.Running.{Later, either, peek_failed}
use Rattle.wire_run.specs.Stage.{Comes, DestHost, HandsOver, IsDone, SmallIs, SourceHost, TakesAt, bit, dest_boot, faults_named, source_boot, world_at}
use Rattle.wire_run.specs.Watching.{crashes_in, is_armed}
use Rattle.wire_run.specs.declared.ends.DestEnd.TheVariants as dest_end
use Rattle.wire_run.specs.declared.ends.SourceEnd.TheVariants as source_end
use Rattle.wire_run.specs.declared.fresh.Unmade.{Unmade}
use Rattle.wire_run.specs.declared.stage.Fault.{Fault}
use Rattle.wire_run.specs.declared.stage.Lost.{Lost}
use Rattle.wire_run.specs.declared.stage.Stage.{Stage}
use Rattle.wire_run.proofs.Comings.{taken, the_record}
use Rattle.wire_run.proofs.Later.{bits_either, blamed_none_failed, blamed_one}
use Rattle.wire_run.proofs.Logs.{length_marked, mistake_in_marked}
use Rattle.wire_run.proofs.Marking.{marked_is}
use Rattle.wire_run.proofs.Unstopped.{chosen, told_small}
use Rattle.wire_schedule.specs.declared.event.Event.{Event}
use Rattle.wire_schedule.specs.declared.event.Event.TheVariants as kinds

same_some : {A : Type 0} (x y : A) → Some x ≡ Some y → x ≡ y
same_some x y e = cc

-- ---- which server stops

uncut : (side at : Side) (b : Bool) → cut_by side at (if b then Failed else Went) ≡ None
uncut side at true = refl
uncut side at false = refl

or_true : (a b : Bool) → a ≡ true → (a || b) ≡ false → ⊥
or_true true b armed none = cc
or_true false b armed none = cc

-- one at which no fuse is set isn't the one that stops
other_kept : {D M : Type 0} (s : Stage D M) (crashes : Bool) (side at : Side) (kept : Kept) → is_armed at s ≡ true → (is_armed side s || crashes) ≡ false
    → kept_if (same_side side at) kept ≡ None
other_kept s crashes Source Source kept armed none = absurd (or_true _ crashes armed none)
other_kept s crashes Dest Dest kept armed none = absurd (or_true _ crashes armed none)
other_kept s crashes Source Dest kept armed none = refl
other_kept s crashes Dest Source kept armed none = refl

-- ---- a disk in a step in which no peek failed

either_false : (b : Bool) → either b false ≡ b
either_false true = refl
either_false false = refl

later_as : {D : Type 0} (faults size : D → ℕ) (failed : Bool) (peeked : Bool) (d e : D) → peeked ≡ false
    → Later faults size (bit failed) (Some d) (Some e) → Later faults size (bit (either failed peeked)) (Some d) (Some e)
later_as {D = D} faults size failed peeked d e none l =
    subst (λ (b : Bool). Later faults size (bit b) (Some d) (Some e)) (sym (ap (λ (b : Bool). either failed b) none ∙ either_false failed)) l

or_alike : {a a' b b' c c' : Option Mistake} → a ≡ a' → b ≡ b' → c ≡ c' → option_or a (option_or b c) ≡ option_or a' (option_or b' c')
or_alike {a} {a'} {b} {b'} {c} {c'} p q r =
    ap (λ (o : Option Mistake). option_or o (option_or b c)) p
    ∙ (ap (λ (o : Option Mistake). option_or a' (option_or o c)) q ∙ ap (λ (o : Option Mistake). option_or a' (option_or b' o)) r)

-- ---- one that is lost, over a list in which a record was just marked

later_over : {D M : Type 0} (told : Type 0) (faults size : D → ℕ) (at : Side) (disk : D) (cause : Unmade) (old new : Stage D M) (log : List Posted) (text_old text_new : List ℕ)
    → IsLostIn told faults size (record { side = at; disk = disk; cause = cause }) (record old { log = log }) new text_old text_new
    → (side : Side) → Later faults size 0 (disk_at side old) (disk_left side (record { side = at; disk = disk; cause = cause }) new)
later_over told faults size at disk cause old new log text_old text_new l Source = l.later Source
later_over told faults size at disk cause old new log text_old text_new l Dest = l.later Dest

lost_over : {D M : Type 0} (told : Type 0) (faults size : D → ℕ) (side : Side) (disk : D) (cause : Unmade) (old new : Stage D M) (log : List Posted) (text_old text_new : List ℕ)
    → IsLostIn told faults size (record { side = side; disk = disk; cause = cause }) (record old { log = log }) new text_old text_new
    → IsLostIn told faults size (record { side = side; disk = disk; cause = cause }) old new text_old text_new
lost_over told faults size Source disk cause old new log text_old text_new l =
    record { why = l.why; away = l.away; text = l.text; choices = l.choices; later = later_over told faults size Source disk cause old new log text_old text_new l }
lost_over told faults size Dest disk cause old new log text_old text_new l =
    record { why = l.why; away = l.away; text = l.text; choices = l.choices; later = later_over told faults size Dest disk cause old new log text_old text_new l }

module _ {D M : Type 0} (told : Type 0) (words : Words M ℕ) (read : Reading) (faults size : D → ℕ) where
  -- ---- the same step, told by other relations

  cut_as : (side : Side) (C E : Kept → RunWorld M → Parts → RunWorld M → Type 0) (old new : Stage D M) (text_old text_new : List ℕ)
      → ((kept : Kept) (source : SourceHost D M) (dest : DestHost D M) (parts : Parts) (after : RunWorld M) → C kept (world_at size source dest old) parts after
      → E kept (world_at size source dest old) parts after)
      → IsCutDone told (machines words) read faults size side C old new text_old text_new → IsCutDone told (machines words) read faults size side E old new text_old text_new
  cut_as side C E old new text_old text_new fits c = record {
    source = c.source;
    dest = c.dest;
    source_next = c.source_next;
    dest_next = c.dest_next;
    source_is = c.source_is;
    dest_is = c.dest_is;
    source_next_is = c.source_next_is;
    dest_next_is = c.dest_next_is;
    kept = c.kept;
    parts = c.parts;
    is = λ t. fits c.kept c.source c.dest c.parts _ (c.is t);
    right = c.right;
    lines = c.lines;
    choices = c.choices;
    source_later = c.source_later;
    dest_later = c.dest_later;
  }

  comes_as : (side : Side) (R S : RunWorld M → Parts → RunWorld M → Type 0) (C E : Kept → RunWorld M → Parts → RunWorld M → Type 0) (old new : Stage D M) (text_old text_new : List ℕ)
      → ((source : SourceHost D M) (dest : DestHost D M) (parts : Parts) (after : RunWorld M) → R (world_at size source dest old) parts after → S (world_at size source dest old) parts after)
      → ((kept : Kept) (source : SourceHost D M) (dest : DestHost D M) (parts : Parts) (after : RunWorld M) → C kept (world_at size source dest old) parts after
      → E kept (world_at size source dest old) parts after)
      → (fault : Option runs.Fault) → ComesOrCuts told (machines words) read faults size side R C old new text_old text_new fault
      → ComesOrCuts told (machines words) read faults size side S E old new text_old text_new fault
  comes_as side R S C E old new text_old text_new fits cuts None (inl c) = inl (taken told words read faults size R S old new text_old text_new None fits c)
  comes_as side R S C E old new text_old text_new fits cuts None (inr c) = inr (c.0, cut_as side C E old new text_old text_new cuts c.1)
  comes_as side R S C E old new text_old text_new fits cuts (Some fault) c = taken told words read faults size R S old new text_old text_new (Some fault) fits c

  pub ends_as : {X : Type 0} (side : Side) (R S : RunWorld M → Parts → RunWorld M → Type 0) (C E : Kept → RunWorld M → Parts → RunWorld M → Type 0) (old new : Stage D M)
      (text_old text_new : List ℕ) (r : Result (Result (Option Fault) (Lost D)) X)
      → ((source : SourceHost D M) (dest : DestHost D M) (parts : Parts) (after : RunWorld M) → R (world_at size source dest old) parts after → S (world_at size source dest old) parts after)
      → ((kept : Kept) (source : SourceHost D M) (dest : DestHost D M) (parts : Parts) (after : RunWorld M) → C kept (world_at size source dest old) parts after
      → E kept (world_at size source dest old) parts after)
      → IfOk r (EndsIn told (machines words) read faults size side R C old new text_old text_new)
      → IfOk r (EndsIn told (machines words) read faults size side S E old new text_old text_new)
  ends_as side R S C E old new text_old text_new (Err e) fits cuts c = tt
  ends_as side R S C E old new text_old text_new (Ok (Ok fault)) fits cuts c = comes_as side R S C E old new text_old text_new fits cuts (faults_named fault) c
  ends_as side R S C E old new text_old text_new (Ok (Err lost)) fits cuts c = c

  -- ---- a record arrives

  pub source_arrives : {X : Type 0} (conn number : ℕ) (bytes : List ℕ) (old new : Stage D M) (text_old text_new : List ℕ) (r : Result (Result (Option Fault) (Lost D)) X)
      → bytes_at old.log number ≡ Some bytes
      → IfOk r (EndsIn told (machines words) read faults size Source (SourceDoes (machines words) (acts.SourceTakes conn bytes) (bytes_at old.log number))
      (SourceStops (machines words) (acts.SourceTakes conn bytes) (bytes_at old.log number)) old new text_old text_new)
      → IfOk r (EndsIn told (machines words) read faults size Source (TakesAt (machines words) (ports.Source conn) number) (StopsAt (machines words) (ports.Source conn) number)
      old new text_old text_new)
  source_arrives conn number bytes old new text_old text_new r stored ended =
      ends_as Source (SourceDoes (machines words) (acts.SourceTakes conn bytes) (bytes_at old.log number)) (TakesAt (machines words) (ports.Source conn) number)
      (SourceStops (machines words) (acts.SourceTakes conn bytes) (bytes_at old.log number)) (StopsAt (machines words) (ports.Source conn) number) old new text_old text_new r
      (λ s d parts after does. (bytes, stored, subst (λ (took : Option (List ℕ)). SourceDoes (machines words) (acts.SourceTakes conn bytes) took (world_at size s d old) parts after) stored does))
      (λ kept s d parts after stops. (
        bytes,
        stored,
        subst (λ (took : Option (List ℕ)). SourceStops (machines words) (acts.SourceTakes conn bytes) took kept (world_at size s d old) parts after) stored stops,
      ))
      ended

  pub dest_arrives : {X : Type 0} (number : ℕ) (bytes : List ℕ) (old new : Stage D M) (text_old text_new : List ℕ) (r : Result (Result (Option Fault) (Lost D)) X)
      → bytes_at old.log number ≡ Some bytes
      → IfOk r (EndsIn told (machines words) read faults size Dest (DestDoes (machines words) (acts.DestTakes 0 bytes) speakers.Dest (bytes_at old.log number))
      (DestStops (machines words) (acts.DestTakes 0 bytes) speakers.Dest (bytes_at old.log number)) old new text_old text_new)
      → IfOk r (EndsIn told (machines words) read faults size Dest (TakesAt (machines words) ports.Dest number) (StopsAt (machines words) ports.Dest number)
      old new text_old text_new)
  dest_arrives number bytes old new text_old text_new r stored ended =
      ends_as Dest (DestDoes (machines words) (acts.DestTakes 0 bytes) speakers.Dest (bytes_at old.log number)) (TakesAt (machines words) ports.Dest number)
      (DestStops (machines words) (acts.DestTakes 0 bytes) speakers.Dest (bytes_at old.log number)) (StopsAt (machines words) ports.Dest number) old new text_old text_new r
      (λ s d parts after does. (
        bytes,
        stored,
        subst (λ (took : Option (List ℕ)). DestDoes (machines words) (acts.DestTakes 0 bytes) speakers.Dest took (world_at size s d old) parts after) stored does,
      ))
      (λ kept s d parts after stops. (
        bytes,
        stored,
        subst (λ (took : Option (List ℕ)). DestStops (machines words) (acts.DestTakes 0 bytes) speakers.Dest took kept (world_at size s d old) parts after) stored stops,
      ))
      ended

  pub worker_arrives : {X : Type 0} (worker number : ℕ) (bytes : List ℕ) (old new : Stage D M) (text_old text_new : List ℕ) (r : Result (Result (Option Fault) (Lost D)) X)
      → bytes_at old.log number ≡ Some bytes
      → IfOk r (EndsIn told (machines words) read faults size Dest (DestDoes (machines words) (acts.Hears worker bytes) speakers.Worker (bytes_at old.log number))
      (DestStops (machines words) (acts.Hears worker bytes) speakers.Worker (bytes_at old.log number)) old new text_old text_new)
      → IfOk r (EndsIn told (machines words) read faults size Dest (TakesAt (machines words) (ports.Worker worker) number) (StopsAt (machines words) (ports.Worker worker) number)
      old new text_old text_new)
  worker_arrives worker number bytes old new text_old text_new r stored ended =
      ends_as Dest (DestDoes (machines words) (acts.Hears worker bytes) speakers.Worker (bytes_at old.log number)) (TakesAt (machines words) (ports.Worker worker) number)
      (DestStops (machines words) (acts.Hears worker bytes) speakers.Worker (bytes_at old.log number)) (StopsAt (machines words) (ports.Worker worker) number) old new text_old text_new r
      (λ s d parts after does. (
        bytes,
        stored,
        subst (λ (took : Option (List ℕ)). DestDoes (machines words) (acts.Hears worker bytes) speakers.Worker took (world_at size s d old) parts after) stored does,
      ))
      (λ kept s d parts after stops. (
        bytes,
        stored,
        subst (λ (took : Option (List ℕ)). DestStops (machines words) (acts.Hears worker bytes) speakers.Worker took kept (world_at size s d old) parts after) stored stops,
      ))
      ended

  -- the client stops at none
  comes_whole : (side : Side) (R : RunWorld M → Parts → RunWorld M → Type 0) (C : Kept → RunWorld M → Parts → RunWorld M → Type 0) (old new : Stage D M) (text_old text_new : List ℕ)
      (fault : Option runs.Fault) → Comes told (machines words) read faults size R old new text_old text_new fault
      → ComesOrCuts told (machines words) read faults size side R C old new text_old text_new fault
  comes_whole side R C old new text_old text_new None c = inl c
  comes_whole side R C old new text_old text_new (Some fault) c = c

  pub client_arrives : (port : Port) (from : Side) (number : ℕ) (old new : Stage D M) (text_old text_new : List ℕ) (fault : Option Fault) → port ≡ ports.Client from
      → Comes told (machines words) read faults size (TakesAt (machines words) (ports.Client from) number) old new text_old text_new (faults_named fault)
      → ComesOrCuts told (machines words) read faults size (side_at (Some port)) (TakesAt (machines words) port number) (StopsAt (machines words) port number)
      old new text_old text_new (faults_named fault)
  client_arrives port from number old new text_old text_new fault same c =
      subst (λ (p : Port). ComesOrCuts told (machines words) read faults size (side_at (Some p)) (TakesAt (machines words) p number) (StopsAt (machines words) p number)
      old new text_old text_new (faults_named fault)) (sym same)
      (comes_whole Dest (TakesAt (machines words) (ports.Client from) number) (StopsAt (machines words) (ports.Client from) number) old new text_old text_new (faults_named fault) c)

  -- the same of another name of a port
  pub arrived : {X : Type 0} (port other : Port) (number : ℕ) (old new : Stage D M) (text_old text_new : List ℕ) (r : Result (Result (Option Fault) (Lost D)) X) → port ≡ other
      → IfOk r (EndsIn told (machines words) read faults size (side_at (Some other)) (TakesAt (machines words) other number) (StopsAt (machines words) other number) old new text_old text_new)
      → IfOk r (EndsIn told (machines words) read faults size (side_at (Some port)) (TakesAt (machines words) port number) (StopsAt (machines words) port number) old new text_old text_new)
  arrived port other number old new text_old text_new r same c =
      subst
      (λ (p : Port). IfOk r (EndsIn told (machines words) read faults size (side_at (Some p)) (TakesAt (machines words) p number) (StopsAt (machines words) p number) old new text_old text_new))
      (sym same) c

  -- ---- where it goes in is where it arrives

  port_of : (o : Option Posted) (port : Option Port) → option_and_then (λ (x : Posted). x.port) o ≡ port → port_in o ≡ port
  port_of None port is = is
  port_of (Some x) port is = is

  same_bytes : (number : ℕ) (log : List Posted) (x : Posted) (bytes : List ℕ) → posted_at number log ≡ Some x → bytes_at log number ≡ Some bytes → bytes ≡ x.bytes
  same_bytes number log x bytes is stored = same_some bytes x.bytes (sym stored ∙ ap (option_map (λ (y : Posted). y.bytes)) is)

  pub handed_over : {X : Type 0} (number : ℕ) (port : Port) (old new : Stage D M) (text_old text_new : List ℕ) (r : Result (Result (Option Fault) (Lost D)) X)
      → IsSome (posted_at number old.log) → option_and_then (λ (x : Posted). x.port) (posted_at number old.log) ≡ Some port
      → IfOk r (EndsIn told (machines words) read faults size (side_at (Some port)) (TakesAt (machines words) port number) (StopsAt (machines words) port number) old new text_old text_new)
      → IfOk r (EndsIn told (machines words) read faults size (side_at (port_in (posted_at number old.log))) (HandsOver (machines words) number) (StopsHandedOver (machines words) number)
      old new text_old text_new)
  handed_over number port old new text_old text_new r there goes c =
      let x = the_record number old.log there in
      let at : x.0.port ≡ Some port = sym (ap (option_and_then (λ (y : Posted). y.port)) x.1) ∙ goes in
      subst (λ (p : Option Port). IfOk r (EndsIn told (machines words) read faults size (side_at p) (HandsOver (machines words) number) (StopsHandedOver (machines words) number)
      old new text_old text_new)) (sym (port_of (posted_at number old.log) (Some port) goes))
      (ends_as (side_at (Some port)) (TakesAt (machines words) port number) (HandsOver (machines words) number) (StopsAt (machines words) port number)
      (StopsHandedOver (machines words) number) old new text_old text_new r
      (λ s d parts after t. (
        x.0,
        x.1,
        subst (λ (p : Option Port). Arrives (machines words) p x.0.bytes (world_at size s d old) parts after) (sym at)
            (subst (λ (b : List ℕ). Arrives (machines words) (Some port) b (world_at size s d old) parts after) (same_bytes number old.log x.0 t.0 x.1 t.1) t.2),
      ))
      (λ kept s d parts after t. (
        x.0,
        x.1,
        subst (λ (p : Option Port). StopsTaking (machines words) p x.0.bytes kept (world_at size s d old) parts after) (sym at)
            (subst (λ (b : List ℕ). StopsTaking (machines words) (Some port) b kept (world_at size s d old) parts after) (same_bytes number old.log x.0 t.0 x.1 t.1) t.2),
      ))
      c)

  pub handed_nowhere : (side : Side) (number : ℕ) (old new : Stage D M) (text_old text_new : List ℕ)
      → IsDone told (machines words) read faults size (HandsOver (machines words) number) old new text_old text_new
      → ComesOrCuts told (machines words) read faults size side (HandsOver (machines words) number) (StopsHandedOver (machines words) number) old new text_old text_new None
  handed_nowhere side number old new text_old text_new c = inl c

  -- ---- a step as one of an event: it was made over this list of records, and another server stops in it or none

  pub record IsOf (event : Event) (side : Side) (R : RunWorld M → Parts → RunWorld M → Type 0) (C : Kept → RunWorld M → Parts → RunWorld M → Type 0) (old : Stage D M) (log : List Posted) : Type 0 where
    pub fits : (source : SourceHost D M) (dest : DestHost D M) (parts : Parts) (after : RunWorld M) → R (world_at size source dest (record old { log = log })) parts after
        → IsSmall (machines words) event (world_at size source dest old) parts after
    pub cuts : (kept : Kept) (source : SourceHost D M) (dest : DestHost D M) (parts : Parts) (after : RunWorld M) → C kept (world_at size source dest (record old { log = log })) parts after
        → IsCut (machines words) event kept (world_at size source dest old) parts after
    pub silent : (kept : Kept) (before : RunWorld M) (parts : Parts) (after : RunWorld M) (sent : ℕ) → C kept before parts after → notes_of parts ++ records_of sent parts ≡ []
    pub check : (source : SourceHost D M) (dest : DestHost D M) (parts : Parts)
        → mistake (machines words) read (world_at size source dest (record old { log = log })) parts ≡ mistake (machines words) read (world_at size source dest old) parts
    pub long : length log ≡ length old.log
    pub lines : (source : SourceHost D M) (dest : DestHost D M) (choice : Choice) → own_lines (machines words) (world_at size source dest old) event choice ≡ []
    pub chooses : (parts : Parts) → IsChoice (machines words) event parts (choice_of parts)
    pub stops : (parts : Parts) (kept : Kept) → IsChoice (machines words) event parts (Stopped kept)
    pub no_peek : (side : Side) (choice : Choice) → peek_failed side event choice ≡ false
    pub at : stops_at event old.log ≡ side

  -- the line of a stop
  boots_at : (side : Side) (source : SourceHost D M) (dest : DestHost D M) (s : Stage D M) → s.source ≡ source_end.Open source → s.dest ≡ dest_end.Open dest
      → boot_at side s ≡ (volume_at (machines words) side (world_at size source dest s)).boot
  boots_at Source source dest s p q = ap source_boot p
  boots_at Dest source dest s p q = ap dest_boot q

  abbrev crash_line : Side → ℕ → Kept → List Line
  crash_line side boot kept = lines.Crash side boot kept ∷ []

  abbrev made_step : Event → Choice → Parts → RunWorld M → RunStep M
  made_step event choice parts after = record { event = event; choice = choice; parts = parts; after = after }

  module _ (event : Event) (side : Side) (R : RunWorld M → Parts → RunWorld M → Type 0) (C : Kept → RunWorld M → Parts → RunWorld M → Type 0) (old new : Stage D M) (log : List Posted)
      (of : IsOf event side R C old log) (text_old text_new : List ℕ) where
    small_done : IsDone told (machines words) read faults size R (record old { log = log }) new text_old text_new
        → SmallIs told (machines words) read faults size event old new text_old text_new None
    small_done c =
        let before : RunWorld M = world_at size c.source c.dest old in
        let step : RunStep M = made_step event (choice_of c.parts) c.parts (world_at size c.source_next c.dest_next new) in
        record {
          source = c.source;
          dest = c.dest;
          source_next = c.source_next;
          dest_next = c.dest_next;
          source_is = c.source_is;
          dest_is = c.dest_is;
          source_next_is = c.source_next_is;
          dest_next_is = c.dest_next_is;
          step = step;
          event_is = refl;
          after_is = refl;
          is = λ t. record {
            small = small_made (machines words) (choice_of c.parts) event before c.parts _ refl (of.fits c.source c.dest c.parts _ (c.is t));
            choice = of.chooses c.parts;
          };
          right = λ t. ap (λ (o : Option Mistake). fault_by o (bytes_of new.log)) (sym (of.check c.source c.dest c.parts)) ∙ c.right t;
          lines = λ t. c.lines ∙ ap (λ (n : ℕ). text_old ++ lines_text (notes_of c.parts ++ records_of n c.parts)) of.long
              ∙ ap (λ (ls : List Line). text_old ++ lines_text (ls ++ (notes_of c.parts ++ records_of (length old.log) c.parts)))
              (sym (told_small (machines words) c.parts before step ∙ of.lines c.source c.dest (choice_of c.parts)));
          choices = c.choices;
          asked = λ other none. uncut other (stops_at event old.log) (any_failed c.parts.source.out.used || any_failed c.parts.dest.out.used);
          blamed = blamed_one step (bits_either (any_failed c.parts.source.out.used) (any_failed c.parts.dest.out.used)
              (peek_failed Source event (choice_of c.parts)) (peek_failed Dest event (choice_of c.parts)));
          source_later = later_as faults size _ _ _ _ (of.no_peek Source (choice_of c.parts)) c.source_later;
          dest_later = later_as faults size _ _ _ _ (of.no_peek Dest (choice_of c.parts)) c.dest_later;
        }

    small_cut : is_armed side old ≡ true → IsCutDone told (machines words) read faults size side C (record old { log = log }) new text_old text_new
        → SmallIs told (machines words) read faults size event old new text_old text_new None
    small_cut armed c =
        let before : RunWorld M = world_at size c.source c.dest old in
        let after : RunWorld M = world_at size c.source_next c.dest_next new in
        let step : RunStep M = made_step event (Stopped c.kept) c.parts after in
        record {
          source = c.source;
          dest = c.dest;
          source_next = c.source_next;
          dest_next = c.dest_next;
          source_is = c.source_is;
          dest_is = c.dest_is;
          source_next_is = c.source_next_is;
          dest_next_is = c.dest_next_is;
          step = step;
          event_is = refl;
          after_is = refl;
          is = λ t. record { small = of.cuts c.kept c.source c.dest c.parts after (c.is t); choice = of.stops c.parts c.kept };
          right = λ t. ap (λ (o : Option Mistake). fault_by o (bytes_of new.log)) (sym (of.check c.source c.dest c.parts)) ∙ c.right t;
          lines = λ t. c.lines
              ∙ (ap (λ (n : ℕ). text_old ++ lines_text (crash_line side n c.kept)) (boots_at side c.source_next c.dest_next new c.source_next_is c.dest_next_is)
              ∙ (ap (λ (s : Side). text_old ++ lines_text (crash_line s (volume_at (machines words) s after).boot c.kept)) (sym of.at)
              ∙ ap (λ (ls : List Line). text_old ++ lines_text (crash_line (stops_at event old.log) (volume_at (machines words) (stops_at event old.log) after).boot c.kept ++ ls))
              (sym (of.silent c.kept _ c.parts after (length old.log) (c.is t)))));
          choices = c.choices;
          asked = λ other none. ap (λ (s : Side). kept_if (same_side other s) c.kept) of.at ∙ other_kept old (crashes_in event other) other side c.kept armed none;
          blamed = blamed_none_failed step refl;
          source_later = later_as faults size _ _ _ _ (of.no_peek Source (Stopped c.kept)) c.source_later;
          dest_later = later_as faults size _ _ _ _ (of.no_peek Dest (Stopped c.kept)) c.dest_later;
        }

    small_ended : (fault : Option runs.Fault) → ComesOrCuts told (machines words) read faults size side R C (record old { log = log }) new text_old text_new fault
        → SmallIs told (machines words) read faults size event old new text_old text_new fault
    small_ended None (inl c) = small_done c
    small_ended None (inr c) = small_cut c.0 c.1
    small_ended (Some fault) c = record {
      source = c.source;
      dest = c.dest;
      source_next = c.source_next;
      dest_next = c.dest_next;
      source_is = c.source_is;
      dest_is = c.dest_is;
      source_next_is = c.source_next_is;
      dest_next_is = c.dest_next_is;
      step = made_step event (choice_of c.parts) c.parts c.after;
      event_is = refl;
      is = λ t. record {
        small = small_made (machines words) (choice_of c.parts) event (world_at size c.source c.dest old) c.parts _ refl (of.fits c.source c.dest c.parts _ (c.is t));
        choice = of.chooses c.parts;
      };
      fault_is = λ t. ap (λ (o : Option Mistake). fault_by o (bytes_of c.after.log)) (sym (of.check c.source c.dest c.parts)) ∙ c.fault_is t;
      text = c.text;
      choices = c.choices;
      source_later = c.source_later;
      dest_later = c.dest_later;
    }

    pub ended_small : {X : Type 0} (r : Result (Result (Option Fault) (Lost D)) X)
        → IfOk r (EndsIn told (machines words) read faults size side R C (record old { log = log }) new text_old text_new)
        → IfOk r (SmallEnds told (machines words) read faults size event old new text_old text_new)
    ended_small (Err e) c = tt
    ended_small (Ok (Ok fault)) c = small_ended (faults_named fault) c
    ended_small (Ok (Err lost)) c =
        (ap (λ (b : Bool). b || crashes_in event lost.side) c.0, lost_over told faults size lost.side lost.disk lost.cause old new log text_old text_new c.1)

  -- ---- nothing of what a server sends or tells in a step goes on where it stops

  source_silent : (act : SourceAct) (took : Option (List ℕ)) (kept : Kept) (before : RunWorld M) (parts : Parts) (after : RunWorld M) (sent : ℕ)
      → SourceStops (machines words) act took kept before parts after → notes_of parts ++ records_of sent parts ≡ []
  source_silent act took kept before parts after sent s =
      ap (λ (p : Parts). notes_of p ++ records_of sent p) s.parts_are
      ∙ ap (λ (o : Outbox). notes_of (source_part took o) ++ records_of sent (source_part took o)) s.stops.4

  dest_silent : (act : DestAct) (speaker : Speaker) (took : Option (List ℕ)) (kept : Kept) (before : RunWorld M) (parts : Parts) (after : RunWorld M) (sent : ℕ)
      → DestStops (machines words) act speaker took kept before parts after → notes_of parts ++ records_of sent parts ≡ []
  dest_silent act speaker took kept before parts after sent s =
      ap (λ (p : Parts). notes_of p ++ records_of sent p) s.parts_are
      ∙ ap (λ (o : Outbox). notes_of (dest_part speaker took o) ++ records_of sent (dest_part speaker took o)) s.stops.4

  taking_silent : (port : Option Port) (bytes : List ℕ) (kept : Kept) (before : RunWorld M) (parts : Parts) (after : RunWorld M) (sent : ℕ)
      → StopsTaking (machines words) port bytes kept before parts after → notes_of parts ++ records_of sent parts ≡ []
  taking_silent None bytes kept before parts after sent s = absurd s
  taking_silent (Some (ports.Source conn)) bytes kept before parts after sent s = source_silent _ _ kept before parts after sent s
  taking_silent (Some ports.Dest) bytes kept before parts after sent s = dest_silent _ _ _ kept before parts after sent s
  taking_silent (Some (ports.Worker worker)) bytes kept before parts after sent s = dest_silent _ _ _ kept before parts after sent s
  taking_silent (Some (ports.Client from)) bytes kept before parts after sent s = absurd s

  -- ---- a worker's step

  work_of : (worker : ℕ) (old : Stage D M)
      → IsOf (kinds.Work worker) Dest (DestDoes (machines words) (acts.Works worker) speakers.Dest None) (DestStops (machines words) (acts.Works worker) speakers.Dest None) old old.log
  work_of worker old = record {
    fits = λ source dest parts after does. does;
    cuts = λ kept source dest parts after stops. stops;
    silent = λ kept before parts after sent stops. dest_silent (acts.Works worker) speakers.Dest None kept before parts after sent stops;
    check = λ source dest parts. refl;
    long = refl;
    lines = λ source dest choice. refl;
    chooses = λ parts. chosen (machines words) (kinds.Work worker) parts (λ is. is) (λ is. is);
    stops = λ parts kept. tt;
    no_peek = λ side choice. refl;
    at = refl;
  }

  pub work_ends : {X : Type 0} (event : Event) (worker : ℕ) (old new : Stage D M) (text_old text_new : List ℕ) (r : Result (Result (Option Fault) (Lost D)) X) → event ≡ kinds.Work worker
      → IfOk r (EndsIn told (machines words) read faults size Dest (DestDoes (machines words) (acts.Works worker) speakers.Dest None)
      (DestStops (machines words) (acts.Works worker) speakers.Dest None) old new text_old text_new)
      → IfOk r (SmallEnds told (machines words) read faults size event old new text_old text_new)
  work_ends event worker old new text_old text_new r same c =
      subst (λ (e : Event). IfOk r (SmallEnds told (machines words) read faults size e old new text_old text_new)) (sym same)
      (ended_small (kinds.Work worker) Dest (DestDoes (machines words) (acts.Works worker) speakers.Dest None) (DestStops (machines words) (acts.Works worker) speakers.Dest None)
      old new old.log (work_of worker old) text_old text_new r c)

  -- ---- a record that is delivered, over the list in which it was just marked

  check_marked : (number : ℕ) (w : RunWorld M) (parts : Parts) → mistake (machines words) read (record w { log = marked number w.log }) parts ≡ mistake (machines words) read w parts
  check_marked number w parts =
      or_alike (mistake_in_marked read number w.log ends.Source _ parts.source.out.accepted parts.source.took)
      (mistake_in_marked read number w.log ends.Dest _ parts.dest.out.accepted parts.dest.took)
      (mistake_in_marked read number w.log ends.Client _ parts.client.out.accepted parts.client.took)

  delivered_by : (number : ℕ) (r : Posted) (w : RunWorld M) (parts : Parts) (after : RunWorld M) → posted_at number w.log ≡ Some r
      → HandsOver (machines words) number (record w { log = marked number w.log }) parts after → IsDelivered (machines words) number (posted_at number w.log) w parts after
  delivered_by number r w parts after is h =
      let same : h.0 ≡ record r { delivered = true } = same_some h.0 (record r { delivered = true }) (sym h.1 ∙ marked_is number w.log r is) in
      subst (λ (o : Option Posted). IsDelivered (machines words) number o w parts after) (sym is)
      (subst (λ (p : Option Port). Arrives (machines words) p r.bytes (record w { log = marked number w.log }) parts after) (ap (λ (x : Posted). x.port) same)
      (subst (λ (b : List ℕ). Arrives (machines words) h.0.port b (record w { log = marked number w.log }) parts after) (ap (λ (x : Posted). x.bytes) same) h.2))

  stopped_by : (number : ℕ) (r : Posted) (kept : Kept) (w : RunWorld M) (parts : Parts) (after : RunWorld M) → posted_at number w.log ≡ Some r
      → StopsHandedOver (machines words) number kept (record w { log = marked number w.log }) parts after → StopsDelivered (machines words) number (posted_at number w.log) kept w parts after
  stopped_by number r kept w parts after is h =
      let same : h.0 ≡ record r { delivered = true } = same_some h.0 (record r { delivered = true }) (sym h.1 ∙ marked_is number w.log r is) in
      subst (λ (o : Option Posted). StopsDelivered (machines words) number o kept w parts after) (sym is)
      (subst (λ (p : Option Port). StopsTaking (machines words) p r.bytes kept (record w { log = marked number w.log }) parts after) (ap (λ (x : Posted). x.port) same)
      (subst (λ (b : List ℕ). StopsTaking (machines words) h.0.port b kept (record w { log = marked number w.log }) parts after) (ap (λ (x : Posted). x.bytes) same) h.2))

  deliver_of : (number : ℕ) (r : Posted) (old : Stage D M) → posted_at number old.log ≡ Some r
      → IsOf (kinds.Deliver number) (side_at (port_in (posted_at number old.log))) (HandsOver (machines words) number) (StopsHandedOver (machines words) number) old (marked number old.log)
  deliver_of number r old is = record {
    fits = λ source dest parts after h. delivered_by number r (world_at size source dest old) parts after is h;
    cuts = λ kept source dest parts after h. stopped_by number r kept (world_at size source dest old) parts after is h;
    silent = λ kept before parts after sent h. taking_silent h.0.port h.0.bytes kept before parts after sent h.2;
    check = λ source dest parts. check_marked number (world_at size source dest old) parts;
    long = length_marked number old.log;
    lines = λ source dest choice. ap (unsent number) is;
    chooses = λ parts. chosen (machines words) (kinds.Deliver number) parts (λ is. is) (λ is. is);
    stops = λ parts kept. tt;
    no_peek = λ side choice. refl;
    at = refl;
  }

  port_marked : (number : ℕ) (log : List Posted) (r : Posted) → posted_at number log ≡ Some r → port_in (posted_at number (marked number log)) ≡ port_in (posted_at number log)
  port_marked number log r is = ap port_in (marked_is number log r is) ∙ sym (ap port_in is)

  pub deliver_ends : {X : Type 0} (number : ℕ) (old new : Stage D M) (log : List Posted) (text_old text_new : List ℕ) (r : Result (Result (Option Fault) (Lost D)) X)
      → IsSome (posted_at number old.log) → log ≡ marked number old.log
      → IfOk r (EndsIn told (machines words) read faults size (side_at (port_in (posted_at number log))) (HandsOver (machines words) number) (StopsHandedOver (machines words) number)
      (record old { log = log }) new text_old text_new)
      → IfOk r (SmallEnds told (machines words) read faults size (kinds.Deliver number) old new text_old text_new)
  deliver_ends number old new log text_old text_new r there same c =
      let x = the_record number old.log there in
      ended_small (kinds.Deliver number) (side_at (port_in (posted_at number old.log))) (HandsOver (machines words) number) (StopsHandedOver (machines words) number)
      old new (marked number old.log) (deliver_of number x.0 old x.1) text_old text_new r
      (subst (λ (p : Option Port). IfOk r (EndsIn told (machines words) read faults size (side_at p) (HandsOver (machines words) number) (StopsHandedOver (machines words) number)
      (record old { log = marked number old.log }) new text_old text_new)) (port_marked number old.log x.0 x.1)
      (subst (λ (l : List Posted). IfOk r (EndsIn told (machines words) read faults size (side_at (port_in (posted_at number l))) (HandsOver (machines words) number)
      (StopsHandedOver (machines words) number) (record old { log = l }) new text_old text_new)) same c))
