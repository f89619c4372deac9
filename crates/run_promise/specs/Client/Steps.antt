-- The client's part of each small step: it acts, where the step is an act of its own, and rests else. It rests where a server stops.
use Rattle.std.proofs.Common.{◌≡◌, ℕ, ◌+◌, List, Option, Some, None, refl, sym, ap, subst}
use Rattle.std.specs.Prelude.{IfSome}
use Rattle.client_core.specs.State.{ClientState}
use Rattle.nfs_base.specs.declared.side.Side.{Side}
use Rattle.nfs_base.specs.declared.side.Side.TheVariants as sides
use Rattle.outbox.specs.declared.outgoing.Outbox.{Outbox}
use Rattle.run_ends.specs.Ends.{RunStep, RunWorld, Words, client_goes, machines}
use Rattle.run_ends.specs.Handling.{client_took}
use Rattle.run_promise.specs.Client.Turns.{Acted, Does, Rested, act_in, delivered_in, second_in, taken_at}
use Rattle.volume_stops.specs.declared.kept.Kept.{Kept}
use Rattle.wire_lines.specs.declared.letters.Speaker.{Speaker}
use Rattle.wire_machine.specs.Ends as acts
use Rattle.wire_machine.specs.Ends.{ClientAct, DestAct, Machines, SourceAct}
use Rattle.wire_machine.specs.Steps.{AllRest, AllTick, Arrives, ClientDoes, CrashesAt, DestDoes, DestStops, IsCommanded, IsCut, IsDelivered, IsMade, IsSmall, IsStep, SourceDoes, SourceStops, StopsDelivered, StopsTaking, command_of}
use Rattle.wire_machine.specs.World.{Part, Parts, Posted, marked, posted_at}
use Rattle.wire_machine.specs.declared.choice.Choice.{Choice}
use Rattle.wire_machine.specs.declared.choice.Choice.TheVariants.{Went, Failed, Stopped}
use Rattle.wire_machine.specs.declared.port.Port.{Port}
use Rattle.wire_machine.specs.declared.port.Port.TheVariants as ports
use Rattle.wire_schedule.specs.declared.event.Event.{Event}
use Rattle.wire_schedule.specs.declared.event.Event.TheVariants as events

-- a command takes no record
takes_none : (event : Event) → IfSome (command_of event) (λ (act : ClientAct). client_took act ≡ None)
takes_none (events.Write side file off bytes) = refl
takes_none (events.Commit side file) = refl
takes_none (events.Copy copy spec) = refl
takes_none (events.Status copy) = refl
takes_none (events.Cancel copy) = refl
takes_none events.Retry = refl
takes_none (events.Volume side files blocks) = tt
takes_none (events.Deliver number) = tt
takes_none events.Flow = tt
takes_none (events.Work worker) = tt
takes_none (events.Tick seconds) = tt
takes_none (events.Peek side file off len) = tt
takes_none (events.Crash side pick) = tt
takes_none (events.CrashAfter side calls pick) = tt

module _ {M : Type 0} (words : Words M ℕ) where
  rests : (before : RunWorld M) (parts : Parts) (after : RunWorld M) → AllRest (machines words) before parts after → Rested before.client after.client parts.client
  rests before parts after rest = record { same = ap (λ (w : RunWorld M). w.client) rest.1; idle_is = ap (λ (p : Parts). p.client) rest.0 }

  by_source : (act : SourceAct) (took : Option (List ℕ)) (before : RunWorld M) (parts : Parts) (after : RunWorld M)
      → SourceDoes (machines words) act took before parts after → Rested before.client after.client parts.client
  by_source act took before parts after does =
      record { same = ap (λ (w : RunWorld M). w.client) does.after_is; idle_is = ap (λ (p : Parts). p.client) does.parts_are }

  by_dest : (act : DestAct) (speaker : Speaker) (took : Option (List ℕ)) (before : RunWorld M) (parts : Parts) (after : RunWorld M)
      → DestDoes (machines words) act speaker took before parts after → Rested before.client after.client parts.client
  by_dest act speaker took before parts after does =
      record { same = ap (λ (w : RunWorld M). w.client) does.after_is; idle_is = ap (λ (p : Parts). p.client) does.parts_are }

  acted : (act : ClientAct) (now : ℕ) (c d e : ClientState M) (draws left : ℕ) (out : Outbox) (part : Part) → client_goes words act now c draws d left out
      → e ≡ d → part.out ≡ out → part.took ≡ client_took act → Acted words act now c e part
  acted act now c d e draws left out part goes same out_is took =
      record {
        draws = draws;
        after = left;
        goes = subst (λ (x : ClientState M). client_goes words act now c draws x left part.out) (sym same)
            (subst (λ (o : Outbox). client_goes words act now c draws d left o) (sym out_is) goes);
        took = took;
      }

  by_client : (act : ClientAct) (took : Option (List ℕ)) (before : RunWorld M) (parts : Parts) (after : RunWorld M) → client_took act ≡ took
      → ClientDoes (machines words) act took before parts after → Acted words act before.clock before.client after.client parts.client
  by_client act took before parts after is does =
      acted act before.clock before.client does.client after.client before.draws does.draws does.out parts.client does.acts
      (ap (λ (w : RunWorld M). w.client) does.after_is) (ap (λ (p : Parts). p.client.out) does.parts_are)
      (subst (λ (o : Option (List ℕ)). parts.client.took ≡ o) (sym is) (ap (λ (p : Parts). p.client.took) does.parts_are))

  ticks : (seconds : ℕ) (before : RunWorld M) (parts : Parts) (after : RunWorld M) → AllTick (machines words) seconds before parts after
      → Acted words acts.ClientTicks (before.clock + seconds) before.client after.client parts.client
  ticks seconds before parts after all =
      acted acts.ClientTicks (before.clock + seconds) before.client all.client after.client before.draws before.draws all.client_out parts.client all.client_ticks
      (ap (λ (w : RunWorld M). w.client) all.after_is) (ap (λ (p : Parts). p.client.out) all.parts_are) (ap (λ (p : Parts). p.client.took) all.parts_are)

  arrives : (port : Option Port) (bytes : List ℕ) (before : RunWorld M) (parts : Parts) (after : RunWorld M)
      → Arrives (machines words) port bytes before parts after → Does words (taken_at port bytes) before.clock before.client after.client parts.client
  arrives None bytes before parts after rest = rests before parts after rest
  arrives (Some (ports.Source conn)) bytes before parts after does = by_source _ _ before parts after does
  arrives (Some ports.Dest) bytes before parts after does = by_dest _ _ _ before parts after does
  arrives (Some (ports.Worker worker)) bytes before parts after does = by_dest _ _ _ before parts after does
  arrives (Some (ports.Client from)) bytes before parts after does = by_client _ _ before parts after refl does

  delivered : (number : ℕ) (o : Option Posted) (before : RunWorld M) (parts : Parts) (after : RunWorld M)
      → IsDelivered (machines words) number o before parts after → Does words (delivered_in o) before.clock before.client after.client parts.client
  delivered number None before parts after rest = rests before parts after rest
  delivered number (Some r) before parts after comes = arrives r.port r.bytes (record before { log = marked number before.log }) parts after comes

  commanded : (o : Option ClientAct) (before : RunWorld M) (parts : Parts) (after : RunWorld M) → IfSome o (λ (act : ClientAct). client_took act ≡ None)
      → IsCommanded (machines words) o before parts after → Does words o before.clock before.client after.client parts.client
  commanded None before parts after none never = absurd never
  commanded (Some act) before parts after none does = by_client act None before parts after none does

  small_does : (event : Event) (before : RunWorld M) (parts : Parts) (after : RunWorld M) → IsSmall (machines words) event before parts after
      → Does words (act_in event before.log) (second_in event before.clock) before.client after.client parts.client
  small_does (events.Deliver number) before parts after small = delivered number (posted_at number before.log) before parts after small
  small_does (events.Work worker) before parts after small = by_dest _ _ _ before parts after small
  small_does (events.Tick seconds) before parts after small = ticks seconds before parts after small
  small_does (events.Peek side file off len) before parts after small = rests before parts after small
  small_does (events.CrashAfter side calls pick) before parts after small = rests before parts after small
  small_does event before parts after small = commanded (command_of event) before parts after (takes_none event) small

  -- ---- a server stops

  source_stops : (act : SourceAct) (took : Option (List ℕ)) (kept : Kept) (before : RunWorld M) (parts : Parts) (after : RunWorld M)
      → SourceStops (machines words) act took kept before parts after → Rested before.client after.client parts.client
  source_stops act took kept before parts after stops =
      record { same = ap (λ (w : RunWorld M). w.client) stops.after_is; idle_is = ap (λ (p : Parts). p.client) stops.parts_are }

  dest_stops : (act : DestAct) (speaker : Speaker) (took : Option (List ℕ)) (kept : Kept) (before : RunWorld M) (parts : Parts) (after : RunWorld M)
      → DestStops (machines words) act speaker took kept before parts after → Rested before.client after.client parts.client
  dest_stops act speaker took kept before parts after stops =
      record { same = ap (λ (w : RunWorld M). w.client) stops.after_is; idle_is = ap (λ (p : Parts). p.client) stops.parts_are }

  crashes : (side : Side) (kept : Kept) (before : RunWorld M) (parts : Parts) (after : RunWorld M) → CrashesAt (machines words) side kept before parts after
      → Rested before.client after.client parts.client
  crashes sides.Source kept before parts after stops =
      record { same = ap (λ (w : RunWorld M). w.client) stops.after_is; idle_is = ap (λ (p : Parts). p.client) stops.parts_are }
  crashes sides.Dest kept before parts after stops =
      record { same = ap (λ (w : RunWorld M). w.client) stops.after_is; idle_is = ap (λ (p : Parts). p.client) stops.parts_are }

  stops_taking : (port : Option Port) (bytes : List ℕ) (kept : Kept) (before : RunWorld M) (parts : Parts) (after : RunWorld M)
      → StopsTaking (machines words) port bytes kept before parts after → Does words (taken_at port bytes) before.clock before.client after.client parts.client
  stops_taking None bytes kept before parts after never = absurd never
  stops_taking (Some (ports.Source conn)) bytes kept before parts after stops = source_stops _ _ kept before parts after stops
  stops_taking (Some ports.Dest) bytes kept before parts after stops = dest_stops _ _ _ kept before parts after stops
  stops_taking (Some (ports.Worker worker)) bytes kept before parts after stops = dest_stops _ _ _ kept before parts after stops
  stops_taking (Some (ports.Client from)) bytes kept before parts after never = absurd never

  stops_delivered : (number : ℕ) (o : Option Posted) (kept : Kept) (before : RunWorld M) (parts : Parts) (after : RunWorld M)
      → StopsDelivered (machines words) number o kept before parts after → Does words (delivered_in o) before.clock before.client after.client parts.client
  stops_delivered number None kept before parts after never = absurd never
  stops_delivered number (Some r) kept before parts after stops =
      stops_taking r.port r.bytes kept (record before { log = marked number before.log }) parts after stops

  cut_does : (event : Event) (kept : Kept) (before : RunWorld M) (parts : Parts) (after : RunWorld M) → IsCut (machines words) event kept before parts after
      → Does words (act_in event before.log) (second_in event before.clock) before.client after.client parts.client
  cut_does (events.Deliver number) kept before parts after cut = stops_delivered number (posted_at number before.log) kept before parts after cut
  cut_does (events.Work worker) kept before parts after cut = dest_stops _ _ _ kept before parts after cut
  cut_does (events.Crash side pick) kept before parts after cut = crashes side kept before parts after cut
  cut_does event kept before parts after never = absurd never

  -- ---- each small step

  made_does : (choice : Choice) (event : Event) (before : RunWorld M) (parts : Parts) (after : RunWorld M)
      → IsMade (machines words) choice event before parts after
      → Does words (act_in event before.log) (second_in event before.clock) before.client after.client parts.client
  made_does Went event before parts after made = small_does event before parts after made
  made_does Failed event before parts after made = small_does event before parts after made
  made_does (Stopped kept) event before parts after made = cut_does event kept before parts after made

  pub step_does : (before : RunWorld M) (s : RunStep M) → IsStep (machines words) before s
      → Does words (act_in s.event before.log) (second_in s.event before.clock) before.client s.after.client s.parts.client
  step_does before s step = made_does s.choice s.event before s.parts s.after step.small
