-- Every small step of a run is an act of its destination, or the destination rests in it, where it doesn't stop.
use Rattle.std.proofs.Common.{◌≡◌, inl, inr, ℕ, ◌+◌, List, Option, Some, None, refl, sym, ap, subst}
use Rattle.dest_core.specs.Stepping.{DestState}
use Rattle.nfs_base.specs.declared.side.Side.{Side}
use Rattle.nfs_base.specs.declared.side.Side.TheVariants as sides
use Rattle.outbox.specs.declared.outgoing.Outbox.{Outbox}
use Rattle.run_ends.specs.Ends.{RunMachines, RunStep, RunWorld, Words, dest_goes, machines}
use Rattle.run_ends.specs.Handling.{dest_took}
use Rattle.run_promise.specs.Dest.Acts.{DestDid, IsSecond, speaker_of}
use Rattle.volume_stops.specs.declared.kept.Kept.{Kept}
use Rattle.wire_lines.specs.declared.letters.Speaker.{Speaker}
use Rattle.wire_lines.specs.declared.letters.Speaker.TheVariants as speakers
use Rattle.wire_machine.specs.Ends as acts
use Rattle.wire_machine.specs.Ends.{ClientAct, DestAct, SourceAct}
use Rattle.wire_machine.specs.Steps.{AllRest, AllTick, Arrives, ClientDoes, CrashesAt, DestDoes, IsCommanded, IsCut, IsDelivered, IsMade, IsSmall, IsStep, SourceDoes}
use Rattle.wire_machine.specs.Steps.{SourceStops, StopsDelivered, StopsTaking, command_of, cut_by, cut_of, kept_if, port_in, same_side, side_at, stops_at}
use Rattle.wire_machine.specs.World.{Parts, Posted, marked, posted_at}
use Rattle.wire_machine.specs.declared.choice.Choice.{Choice}
use Rattle.wire_machine.specs.declared.choice.Choice.TheVariants.{Went, Failed, Stopped}
use Rattle.wire_machine.specs.declared.port.Port.{Port}
use Rattle.wire_machine.specs.declared.port.Port.TheVariants as ports
use Rattle.wire_schedule.specs.declared.event.Event.{Event}
use Rattle.wire_schedule.specs.declared.event.Event.TheVariants as events

same_second : (act : DestAct) (clock : ℕ) → IsSecond act clock clock
same_second (acts.DestTakes conn bytes) clock = refl
same_second (acts.Works worker) clock = refl
same_second (acts.Hears worker bytes) clock = refl
same_second acts.DestTicks clock = tt

none_kept : (kept : Kept) → Some kept ≡ None → ⊥
none_kept kept same = cc

module _ {M : Type 0} (words : Words M ℕ) where
  abbrev m : RunMachines M
  m = machines words

  abbrev Did : RunWorld M → Parts → RunWorld M → Type 0
  Did before parts after = DestDid words before parts after

  acts_as : (act : DestAct) (now draws left : ℕ) (before : RunWorld M) (parts : Parts) (after : RunWorld M) (t : DestState M) (out : Outbox)
      → dest_goes words act now before.dest draws t left out → IsSecond act before.clock now → after.dest ≡ t → parts.dest.out ≡ out → parts.dest.took ≡ dest_took act
      → parts.dest.speaker ≡ speaker_of act → Did before parts after
  acts_as act now draws left before parts after t out goes second is out_is took speaker =
      inl (record {
        act = act;
        now = now;
        second = second;
        draws = draws;
        left = left;
        goes = subst (λ (x : DestState M). dest_goes words act now before.dest draws x left parts.dest.out) (sym is)
            (subst (λ (o : Outbox). dest_goes words act now before.dest draws t left o) (sym out_is) goes);
        took = took;
        speaker = speaker;
      })

  by_dest : (act : DestAct) (speaker : Speaker) (took : Option (List ℕ)) (before : RunWorld M) (parts : Parts) (after : RunWorld M) → took ≡ dest_took act
      → speaker ≡ speaker_of act → DestDoes m act speaker took before parts after → Did before parts after
  by_dest act speaker took before parts after took_is speaker_is d =
      acts_as act before.clock before.draws d.draws before parts after d.dest d.out d.acts (same_second act before.clock) (ap (λ (w : RunWorld M). w.dest) d.after_is)
      (ap (λ (p : Parts). p.dest.out) d.parts_are)
      (subst (λ (x : Option (List ℕ)). parts.dest.took ≡ x) took_is (ap (λ (p : Parts). p.dest.took) d.parts_are))
      (subst (λ (x : Speaker). parts.dest.speaker ≡ x) speaker_is (ap (λ (p : Parts). p.dest.speaker) d.parts_are))

  by_source : (act : SourceAct) (took : Option (List ℕ)) (before : RunWorld M) (parts : Parts) (after : RunWorld M)
      → SourceDoes m act took before parts after → Did before parts after
  by_source act took before parts after d =
      inr (record { same = ap (λ (w : RunWorld M). w.dest) d.after_is; part = ap (λ (p : Parts). p.dest) d.parts_are })

  by_client : (act : ClientAct) (took : Option (List ℕ)) (before : RunWorld M) (parts : Parts) (after : RunWorld M)
      → ClientDoes m act took before parts after → Did before parts after
  by_client act took before parts after d =
      inr (record { same = ap (λ (w : RunWorld M). w.dest) d.after_is; part = ap (λ (p : Parts). p.dest) d.parts_are })

  by_none : (before : RunWorld M) (parts : Parts) (after : RunWorld M) → AllRest m before parts after → Did before parts after
  by_none before parts after d =
      inr (record { same = ap (λ (w : RunWorld M). w.dest) d.1; part = ap (λ (p : Parts). p.dest) d.0 })

  -- a delivery marks a record, and the destination is the same
  arrives : (port : Option Port) (bytes : List ℕ) (before : RunWorld M) (parts : Parts) (after : RunWorld M) → Arrives m port bytes before parts after
      → Did before parts after
  arrives None bytes before parts after d = by_none before parts after d
  arrives (Some (ports.Source conn)) bytes before parts after d = by_source (acts.SourceTakes conn bytes) (Some bytes) before parts after d
  arrives (Some ports.Dest) bytes before parts after d = by_dest (acts.DestTakes 0 bytes) speakers.Dest (Some bytes) before parts after refl refl d
  arrives (Some (ports.Worker worker)) bytes before parts after d =
      by_dest (acts.Hears worker bytes) speakers.Worker (Some bytes) before parts after refl refl d
  arrives (Some (ports.Client from)) bytes before parts after d = by_client (acts.ClientTakes from bytes) (Some bytes) before parts after d

  unmarked : (log : List Posted) (before : RunWorld M) (parts : Parts) (after : RunWorld M) → Did (record before { log = log }) parts after → Did before parts after
  unmarked log before parts after (inl d) =
      inl (record { act = d.act; now = d.now; second = d.second; draws = d.draws; left = d.left; goes = d.goes; took = d.took; speaker = d.speaker })
  unmarked log before parts after (inr d) = inr (record { same = d.same; part = d.part })

  delivered : (number : ℕ) (o : Option Posted) (before : RunWorld M) (parts : Parts) (after : RunWorld M) → IsDelivered m number o before parts after
      → Did before parts after
  delivered number None before parts after d = by_none before parts after d
  delivered number (Some r) before parts after d =
      unmarked (marked number before.log) before parts after (arrives r.port r.bytes (record before { log = marked number before.log }) parts after d)

  ticks : (seconds : ℕ) (before : RunWorld M) (parts : Parts) (after : RunWorld M) → AllTick m seconds before parts after → Did before parts after
  ticks seconds before parts after d =
      acts_as acts.DestTicks (before.clock + seconds) before.draws before.draws before parts after d.dest d.dest_out d.dest_ticks tt
      (ap (λ (w : RunWorld M). w.dest) d.after_is) (ap (λ (p : Parts). p.dest.out) d.parts_are) (ap (λ (p : Parts). p.dest.took) d.parts_are)
      (ap (λ (p : Parts). p.dest.speaker) d.parts_are)

  commanded : (o : Option ClientAct) (before : RunWorld M) (parts : Parts) (after : RunWorld M) → IsCommanded m o before parts after → Did before parts after
  commanded None before parts after d = absurd d
  commanded (Some act) before parts after d = by_client act None before parts after d

  small_did : (event : Event) (before : RunWorld M) (parts : Parts) (after : RunWorld M) → IsSmall m event before parts after → Did before parts after
  small_did (events.Deliver number) before parts after d = delivered number (posted_at number before.log) before parts after d
  small_did (events.Work worker) before parts after d = by_dest (acts.Works worker) speakers.Dest None before parts after refl refl d
  small_did (events.Tick seconds) before parts after d = ticks seconds before parts after d
  small_did (events.Peek side file off len) before parts after d = by_none before parts after d
  small_did (events.CrashAfter side calls pick) before parts after d = by_none before parts after d
  small_did event before parts after d = commanded (command_of event) before parts after d

  -- ---- Where a server stops that isn't the destination, it is the source, and the destination rests.

  abbrev IsSpared : Side → Kept → Type 0
  IsSpared side kept = kept_if (same_side sides.Dest side) kept ≡ None

  crashes : (side : Side) (kept : Kept) (before : RunWorld M) (parts : Parts) (after : RunWorld M) → IsSpared side kept → CrashesAt m side kept before parts after
      → Did before parts after
  crashes sides.Source kept before parts after spared d =
      inr (record { same = ap (λ (w : RunWorld M). w.dest) d.after_is; part = ap (λ (p : Parts). p.dest) d.parts_are })
  crashes sides.Dest kept before parts after spared d = absurd (none_kept kept spared)

  source_stops : (act : SourceAct) (took : Option (List ℕ)) (kept : Kept) (before : RunWorld M) (parts : Parts) (after : RunWorld M)
      → SourceStops m act took kept before parts after → Did before parts after
  source_stops act took kept before parts after d =
      inr (record { same = ap (λ (w : RunWorld M). w.dest) d.after_is; part = ap (λ (p : Parts). p.dest) d.parts_are })

  stops_taking : (port : Option Port) (bytes : List ℕ) (kept : Kept) (before : RunWorld M) (parts : Parts) (after : RunWorld M) → IsSpared (side_at port) kept
      → StopsTaking m port bytes kept before parts after → Did before parts after
  stops_taking None bytes kept before parts after spared d = absurd d
  stops_taking (Some (ports.Source conn)) bytes kept before parts after spared d =
      source_stops (acts.SourceTakes conn bytes) (Some bytes) kept before parts after d
  stops_taking (Some ports.Dest) bytes kept before parts after spared d = absurd (none_kept kept spared)
  stops_taking (Some (ports.Worker worker)) bytes kept before parts after spared d = absurd (none_kept kept spared)
  stops_taking (Some (ports.Client from)) bytes kept before parts after spared d = absurd d

  stops_delivered : (number : ℕ) (o : Option Posted) (kept : Kept) (before : RunWorld M) (parts : Parts) (after : RunWorld M) → IsSpared (side_at (port_in o)) kept
      → StopsDelivered m number o kept before parts after → Did before parts after
  stops_delivered number None kept before parts after spared d = absurd d
  stops_delivered number (Some r) kept before parts after spared d =
      unmarked (marked number before.log) before parts after
      (stops_taking r.port r.bytes kept (record before { log = marked number before.log }) parts after spared d)

  cut_did : (event : Event) (kept : Kept) (before : RunWorld M) (parts : Parts) (after : RunWorld M) → IsSpared (stops_at event before.log) kept
      → IsCut m event kept before parts after → Did before parts after
  cut_did (events.Deliver number) kept before parts after spared d = stops_delivered number (posted_at number before.log) kept before parts after spared d
  cut_did (events.Work worker) kept before parts after spared d = absurd (none_kept kept spared)
  cut_did (events.Crash side pick) kept before parts after spared d = crashes side kept before parts after spared d
  cut_did event kept before parts after spared d = absurd d

  made_did : (choice : Choice) (event : Event) (before : RunWorld M) (parts : Parts) (after : RunWorld M) → cut_by sides.Dest (stops_at event before.log) choice ≡ None
      → IsMade m choice event before parts after → Did before parts after
  made_did Went event before parts after uncut d = small_did event before parts after d
  made_did Failed event before parts after uncut d = small_did event before parts after d
  made_did (Stopped kept) event before parts after uncut d = cut_did event kept before parts after uncut d

  pub step_did : (before : RunWorld M) (s : RunStep M) → cut_of sides.Dest before s ≡ None → IsStep (machines words) before s → DestDid words before s.parts s.after
  step_did before s uncut step = made_did s.choice s.event before s.parts s.after uncut step.small
