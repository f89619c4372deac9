-- What a small step is in which a server stops: which of them stops, in an act or between two, while the other rests.
use Rattle.std.proofs.Common.{◌≡◌, ◌⊎◌, inl, inr, ℕ, List, [], Option, Some, None, sym, ap, subst, ◌∙◌}
use Rattle.dest_core.specs.Stepping.{DestState}
use Rattle.nfs_base.specs.declared.side.Side.{Side}
use Rattle.nfs_base.specs.declared.side.Side.TheVariants as sides
use Rattle.outbox.specs.declared.outgoing.Outbox.{Outbox}
use Rattle.run_ends.specs.Ends.{RunMachines, RunWorld, SourceState, Words, dest_goes, machines, source_goes}
use Rattle.run_ends.specs.Handling.{dest_took}
use Rattle.run_ends.specs.Opening.{IsDestAnew, IsSourceAnew, silenced}
use Rattle.volume_stops.specs.declared.kept.Kept.{Kept}
use Rattle.wire_lines.specs.declared.letters.Speaker.{Speaker}
use Rattle.wire_lines.specs.declared.letters.Speaker.TheVariants as speakers
use Rattle.wire_machine.specs.declared.port.Port.{Port}
use Rattle.wire_machine.specs.declared.port.Port.TheVariants as ports
use Rattle.wire_machine.specs.Ends.{DestAct}
use Rattle.wire_machine.specs.Ends as acts
use Rattle.wire_machine.specs.Steps.{CrashesAt, DestCrashes, DestStops, IsCut, SourceCrashes, SourceStops, StopsDelivered, StopsTaking, port_in, side_at, stops_at}
use Rattle.wire_machine.specs.World.{Part, Parts, Posted, idle, marked, posted_at}
use Rattle.wire_schedule.specs.declared.event.Event.{Event}
use Rattle.wire_schedule.specs.declared.event.Event.TheVariants as events

-- what an end did that took this and gave that
abbrev pub part_of : Speaker → Option (List ℕ) → Outbox → Part
part_of speaker took out = record { took = took; speaker = speaker; out = out }

module _ {M : Type 0} (words : Words M ℕ) where
  abbrev m : RunMachines M
  m = machines words

  -- ---- the source stops as it takes a record, or between two acts

  pub record SourceStopsTaking (kept : Kept) (now draws : ℕ) (s : SourceState M) (part : Part) (t : SourceState M) : Type 0 where
    pub conn : ℕ
    pub bytes : List ℕ
    pub left : ℕ
    pub would : SourceState M
    pub full : Outbox
    pub goes : source_goes words (acts.SourceTakes conn bytes) now s draws would left full
    pub anew : IsSourceAnew s full.used kept t
    pub part_is : part ≡ part_of speakers.Source (Some bytes) (silenced full)

  pub record SourceStopsBetween (kept : Kept) (s : SourceState M) (part : Part) (t : SourceState M) : Type 0 where
    pub anew : IsSourceAnew s [] kept t
    pub part_is : part ≡ idle speakers.Source

  -- and the destination rests
  pub record SourceCut (kept : Kept) (before : RunWorld M) (parts : Parts) (after : RunWorld M) : Type 0 where
    pub how : SourceStopsTaking kept before.clock before.draws before.source parts.source after.source
        ⊎ SourceStopsBetween kept before.source parts.source after.source
    pub other : after.dest ≡ before.dest
    pub other_part : parts.dest ≡ idle speakers.Dest

  -- ---- the destination stops in an act, or between two

  pub record DestStopsIn (kept : Kept) (now draws : ℕ) (s : DestState M) (part : Part) (t : DestState M) : Type 0 where
    pub act : DestAct
    pub speaker : Speaker
    pub left : ℕ
    pub would : DestState M
    pub full : Outbox
    pub goes : dest_goes words act now s draws would left full
    pub anew : IsDestAnew s full.used kept t
    pub part_is : part ≡ part_of speaker (dest_took act) (silenced full)

  pub record DestStopsBetween (kept : Kept) (s : DestState M) (part : Part) (t : DestState M) : Type 0 where
    pub anew : IsDestAnew s [] kept t
    pub part_is : part ≡ idle speakers.Dest

  -- and the source rests
  pub record DestCut (kept : Kept) (before : RunWorld M) (parts : Parts) (after : RunWorld M) : Type 0 where
    pub how : DestStopsIn kept before.clock before.draws before.dest parts.dest after.dest
        ⊎ DestStopsBetween kept before.dest parts.dest after.dest
    pub other : after.source ≡ before.source
    pub other_part : parts.source ≡ idle speakers.Source

  abbrev pub IsCutAt : Side → Kept → RunWorld M → Parts → RunWorld M → Type 0
  IsCutAt sides.Source kept before parts after = SourceCut kept before parts after
  IsCutAt sides.Dest kept before parts after = DestCut kept before parts after

  -- ---- a small step

  source_stops : (conn : ℕ) (bytes : List ℕ) (kept : Kept) (before : RunWorld M) (parts : Parts) (after : RunWorld M)
      → SourceStops m (acts.SourceTakes conn bytes) (Some bytes) kept before parts after → SourceCut kept before parts after
  source_stops conn bytes kept before parts after d =
      let is : after.source ≡ d.source = ap (λ (w : RunWorld M). w.source) d.after_is in
      record {
        how = inl (record {
          conn = conn;
          bytes = bytes;
          left = d.draws;
          would = d.stops.0;
          full = d.stops.1;
          goes = d.stops.2;
          anew = subst (λ (x : SourceState M). IsSourceAnew before.source d.stops.1.used kept x) (sym is) d.stops.3;
          part_is = ap (λ (p : Parts). p.source) d.parts_are ∙ ap (λ (out : Outbox). part_of speakers.Source (Some bytes) out) d.stops.4;
        });
        other = ap (λ (w : RunWorld M). w.dest) d.after_is;
        other_part = ap (λ (p : Parts). p.dest) d.parts_are;
      }

  dest_stops : (act : DestAct) (speaker : Speaker) (kept : Kept) (before : RunWorld M) (parts : Parts) (after : RunWorld M)
      → DestStops m act speaker (dest_took act) kept before parts after → DestCut kept before parts after
  dest_stops act speaker kept before parts after d =
      let is : after.dest ≡ d.dest = ap (λ (w : RunWorld M). w.dest) d.after_is in
      record {
        how = inl (record {
          act = act;
          speaker = speaker;
          left = d.draws;
          would = d.stops.0;
          full = d.stops.1;
          goes = d.stops.2;
          anew = subst (λ (x : DestState M). IsDestAnew before.dest d.stops.1.used kept x) (sym is) d.stops.3;
          part_is = ap (λ (p : Parts). p.dest) d.parts_are ∙ ap (λ (out : Outbox). part_of speaker (dest_took act) out) d.stops.4;
        });
        other = ap (λ (w : RunWorld M). w.source) d.after_is;
        other_part = ap (λ (p : Parts). p.source) d.parts_are;
      }

  source_crashes : (kept : Kept) (before : RunWorld M) (parts : Parts) (after : RunWorld M) → SourceCrashes m kept before parts after
      → SourceCut kept before parts after
  source_crashes kept before parts after d =
      let is : after.source ≡ d.source = ap (λ (w : RunWorld M). w.source) d.after_is in
      record {
        how = inr (record {
          anew = subst (λ (x : SourceState M). IsSourceAnew before.source [] kept x) (sym is) d.crashes;
          part_is = ap (λ (p : Parts). p.source) d.parts_are;
        });
        other = ap (λ (w : RunWorld M). w.dest) d.after_is;
        other_part = ap (λ (p : Parts). p.dest) d.parts_are;
      }

  dest_crashes : (kept : Kept) (before : RunWorld M) (parts : Parts) (after : RunWorld M) → DestCrashes m kept before parts after
      → DestCut kept before parts after
  dest_crashes kept before parts after d =
      let is : after.dest ≡ d.dest = ap (λ (w : RunWorld M). w.dest) d.after_is in
      record {
        how = inr (record {
          anew = subst (λ (x : DestState M). IsDestAnew before.dest [] kept x) (sym is) d.crashes;
          part_is = ap (λ (p : Parts). p.dest) d.parts_are;
        });
        other = ap (λ (w : RunWorld M). w.source) d.after_is;
        other_part = ap (λ (p : Parts). p.source) d.parts_are;
      }

  crashes_at : (side : Side) (kept : Kept) (before : RunWorld M) (parts : Parts) (after : RunWorld M) → CrashesAt m side kept before parts after
      → IsCutAt side kept before parts after
  crashes_at sides.Source kept before parts after d = source_crashes kept before parts after d
  crashes_at sides.Dest kept before parts after d = dest_crashes kept before parts after d

  stops_taking : (port : Option Port) (bytes : List ℕ) (kept : Kept) (before : RunWorld M) (parts : Parts) (after : RunWorld M)
      → StopsTaking m port bytes kept before parts after → IsCutAt (side_at port) kept before parts after
  stops_taking None bytes kept before parts after d = absurd d
  stops_taking (Some (ports.Source conn)) bytes kept before parts after d = source_stops conn bytes kept before parts after d
  stops_taking (Some ports.Dest) bytes kept before parts after d = dest_stops (acts.DestTakes 0 bytes) speakers.Dest kept before parts after d
  stops_taking (Some (ports.Worker worker)) bytes kept before parts after d = dest_stops (acts.Hears worker bytes) speakers.Worker kept before parts after d
  stops_taking (Some (ports.Client from)) bytes kept before parts after d = absurd d

  -- where a record is delivered the list of records has it marked, and all else is as it was
  unmarked : (side : Side) (log : List Posted) (kept : Kept) (before : RunWorld M) (parts : Parts) (after : RunWorld M)
      → IsCutAt side kept (record before { log = log }) parts after → IsCutAt side kept before parts after
  unmarked sides.Source log kept before parts after c = record { how = c.how; other = c.other; other_part = c.other_part }
  unmarked sides.Dest log kept before parts after c = record { how = c.how; other = c.other; other_part = c.other_part }

  stops_delivered : (number : ℕ) (o : Option Posted) (kept : Kept) (before : RunWorld M) (parts : Parts) (after : RunWorld M)
      → StopsDelivered m number o kept before parts after → IsCutAt (side_at (port_in o)) kept before parts after
  stops_delivered number None kept before parts after d = absurd d
  stops_delivered number (Some r) kept before parts after d =
      unmarked (side_at r.port) (marked number before.log) kept before parts after
      (stops_taking r.port r.bytes kept (record before { log = marked number before.log }) parts after d)

  pub cut_is : (event : Event) (kept : Kept) (before : RunWorld M) (parts : Parts) (after : RunWorld M) → IsCut m event kept before parts after
      → IsCutAt (stops_at event before.log) kept before parts after
  cut_is (events.Deliver number) kept before parts after d = stops_delivered number (posted_at number before.log) kept before parts after d
  cut_is (events.Work worker) kept before parts after d = dest_stops (acts.Works worker) speakers.Dest kept before parts after d
  cut_is (events.Crash side pick) kept before parts after d = crashes_at side kept before parts after d
  cut_is event kept before parts after d = absurd d
