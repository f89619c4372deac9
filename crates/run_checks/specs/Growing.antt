-- What a small step leaves of the list of records: one of them is delivered at most, and what each end sent stands behind.
use Rattle.std.proofs.Common.{◌≡◌, ℕ, zero, suc, ◌+◌, true, List, [], ◌∷◌, ◌++◌, map, Contains, Option, None, Some, refl, sym, ap, subst, ◌∙◌, arith}
use Rattle.nfs_base.specs.declared.seal.End.{End}
use Rattle.nfs_base.specs.declared.seal.End.TheVariants.{Source, Dest, Client}
use Rattle.nfs_base.specs.declared.side.Side.{Side}
use Rattle.nfs_base.specs.declared.side.Side.TheVariants as sides
use Rattle.outbox.specs.declared.outgoing.Outgoing.{Outgoing}
use Rattle.volume_stops.specs.declared.kept.Kept.{Kept}
use Rattle.wire_lines.specs.declared.letters.Speaker.{Speaker}
use Rattle.wire_schedule.specs.declared.event.Event.{Event}
use Rattle.wire_schedule.specs.declared.event.Event.TheVariants as events
use Rattle.wire_model.specs.Wire.{Acts, Sent}
use Rattle.wire_machine.specs.declared.choice.Choice.{Choice}
use Rattle.wire_machine.specs.declared.choice.Choice.TheVariants.{Went, Failed, Stopped}
use Rattle.wire_machine.specs.declared.port.Port.{Port}
use Rattle.wire_machine.specs.declared.port.Port.TheVariants as ports
use Rattle.wire_machine.specs.Ends.{ClientAct, DestAct, Machines, SourceAct}
use Rattle.wire_machine.specs.History.{sent_of}
use Rattle.wire_machine.specs.Steps.{AllRest, AllTick, Arrives, ClientDoes, CrashesAt, DestDoes, DestStops, IsCommanded, IsCut, IsDelivered, IsMade, IsSmall, SourceDoes, SourceStops, StopsDelivered, StopsTaking, command_of}
use Rattle.wire_machine.specs.World.{Part, Parts, Posted, World, all_posted, marked, opening_of, posted_at, with_parts}
use Rattle.run_checks.specs.Listed.{WasSent, WereSent}

-- ---- records that were sent

module _ (acts : End → ℕ → Acts) (boot : End → ℕ → ℕ) (k : ℕ) where
  later : (r : Posted) → WasSent acts boot k r → WasSent acts boot (suc k) r
  later r was = let early = was.before in record { before = omega arith; sent = was.sent; took = was.took; opening = was.opening }

  delivered : (r : Posted) → WasSent acts boot k r → WasSent acts boot k (record r { delivered = true })
  delivered r was = record { before = was.before; sent = was.sent; took = was.took; opening = was.opening }

  pub all_later : (log : List Posted) → WereSent acts boot k log → WereSent acts boot (suc k) log
  all_later [] were = tt
  all_later (r ∷ log) were = (later r were.0, all_later log were.1)

  all_marked : (number : ℕ) (log : List Posted) → WereSent acts boot k log → WereSent acts boot k (marked number log)
  all_marked zero log were = were
  all_marked (suc n) [] were = tt
  all_marked (suc zero) (r ∷ log) were = (delivered r were.0, were.1)
  all_marked (suc (suc n)) (r ∷ log) were = (were.0, all_marked (suc n) log were.1)

  both_sent : (xs ys : List Posted) → WereSent acts boot k xs → WereSent acts boot k ys → WereSent acts boot k (xs ++ ys)
  both_sent [] ys one two = two
  both_sent (x ∷ xs) ys one two = (one.0, both_sent xs ys one.1 two)

  -- what an end sends in this step is listed as it is sent
  all_new : (e : End) (opening : ℕ) (took : Option (List ℕ)) (outs : List Outgoing) → ((x : Sent) → Contains (map sent_of outs) x → Contains (acts e k).out x)
      → (acts e k).took ≡ took → boot e (suc k) ≡ opening → WereSent acts boot (suc k) (all_posted e k opening took outs)
  all_new e opening took [] sends took_is opening_is = tt
  all_new e opening took (out ∷ outs) sends took_is opening_is = (
    record { before = omega arith; sent = sends (sent_of out) (0, omega arith, refl); took = took_is; opening = opening_is },
    all_new e opening took outs (λ x in_rest. let within = in_rest.1 in sends x (suc in_rest.0, omega arith, in_rest.2)) took_is opening_is,
  )

-- ---- a small step

module _ {S T C W : Type 0} (m : Machines S T C W) where
  -- The parts' records stand behind these, after so many steps.
  pub record Posts (log : List Posted) (steps : ℕ) (parts : Parts) (after : World S T C W) : Type 0 where
    pub world : World S T C W
    pub log_is : world.log ≡ log
    pub steps_are : world.steps ≡ steps
    pub after_is : after ≡ with_parts m parts world

  by_source : (act : SourceAct) (took : Option (List ℕ)) (before : World S T C W) (parts : Parts) (after : World S T C W)
      → SourceDoes m act took before parts after → Posts before.log before.steps parts after
  by_source act took before parts after does =
      record { world = record before { source = does.source; draws = does.draws }; log_is = refl; steps_are = refl; after_is = does.after_is }

  by_dest : (act : DestAct) (speaker : Speaker) (took : Option (List ℕ)) (before : World S T C W) (parts : Parts) (after : World S T C W)
      → DestDoes m act speaker took before parts after → Posts before.log before.steps parts after
  by_dest act speaker took before parts after does =
      record { world = record before { dest = does.dest; draws = does.draws }; log_is = refl; steps_are = refl; after_is = does.after_is }

  by_client : (act : ClientAct) (took : Option (List ℕ)) (before : World S T C W) (parts : Parts) (after : World S T C W)
      → ClientDoes m act took before parts after → Posts before.log before.steps parts after
  by_client act took before parts after does =
      record { world = record before { client = does.client; draws = does.draws }; log_is = refl; steps_are = refl; after_is = does.after_is }

  by_none : (before : World S T C W) (parts : Parts) (after : World S T C W) → AllRest m before parts after → Posts before.log before.steps parts after
  by_none before parts after rest = record { world = before; log_is = refl; steps_are = refl; after_is = rest.1 }

  by_all : (seconds : ℕ) (before : World S T C W) (parts : Parts) (after : World S T C W) → AllTick m seconds before parts after → Posts before.log before.steps parts after
  by_all seconds before parts after ticks =
      record {
        world = record before { source = ticks.source; dest = ticks.dest; client = ticks.client; clock = before.clock + seconds };
        log_is = refl;
        steps_are = refl;
        after_is = ticks.after_is;
      }

  arrives : (port : Option Port) (bytes : List ℕ) (before : World S T C W) (parts : Parts) (after : World S T C W)
      → Arrives m port bytes before parts after → Posts before.log before.steps parts after
  arrives None bytes before parts after rest = by_none before parts after rest
  arrives (Some (ports.Source conn)) bytes before parts after does = by_source _ _ before parts after does
  arrives (Some ports.Dest) bytes before parts after does = by_dest _ _ _ before parts after does
  arrives (Some (ports.Worker worker)) bytes before parts after does = by_dest _ _ _ before parts after does
  arrives (Some (ports.Client from)) bytes before parts after does = by_client _ _ before parts after does

  -- the number of the record that was delivered; of none it is 0
  abbrev pub PostsBehind : (before : World S T C W) → (parts : Parts) → (after : World S T C W) → Type 0
  PostsBehind before parts after = (number : ℕ) × Posts (marked number before.log) before.steps parts after

  is_delivered : (number : ℕ) (o : Option Posted) (before : World S T C W) (parts : Parts) (after : World S T C W)
      → IsDelivered m number o before parts after → PostsBehind before parts after
  is_delivered number None before parts after rest = (0, by_none before parts after rest)
  is_delivered number (Some r) before parts after comes = (number, arrives r.port r.bytes (record before { log = marked number before.log }) parts after comes)

  is_commanded : (o : Option ClientAct) (before : World S T C W) (parts : Parts) (after : World S T C W)
      → IsCommanded m o before parts after → PostsBehind before parts after
  is_commanded None before parts after none = absurd none
  is_commanded (Some act) before parts after does = (0, by_client act None before parts after does)

  pub posts_behind : (event : Event) (before : World S T C W) (parts : Parts) (after : World S T C W) → IsSmall m event before parts after → PostsBehind before parts after
  posts_behind (events.Deliver number) before parts after small = is_delivered number (posted_at number before.log) before parts after small
  posts_behind (events.Work worker) before parts after small = (0, by_dest _ _ _ before parts after small)
  posts_behind (events.Tick seconds) before parts after small = (0, by_all seconds before parts after small)
  posts_behind (events.Peek side file off len) before parts after small = (0, by_none before parts after small)
  posts_behind (events.CrashAfter side calls pick) before parts after small = (0, by_none before parts after small)
  posts_behind event before parts after small = is_commanded (command_of event) before parts after small

  -- ---- a server stops in it

  source_stops : (act : SourceAct) (took : Option (List ℕ)) (kept : Kept) (before : World S T C W) (parts : Parts) (after : World S T C W)
      → SourceStops m act took kept before parts after → Posts before.log before.steps parts after
  source_stops act took kept before parts after stops =
      record { world = record before { source = stops.source; draws = stops.draws }; log_is = refl; steps_are = refl; after_is = stops.after_is }

  dest_stops : (act : DestAct) (speaker : Speaker) (took : Option (List ℕ)) (kept : Kept) (before : World S T C W) (parts : Parts) (after : World S T C W)
      → DestStops m act speaker took kept before parts after → Posts before.log before.steps parts after
  dest_stops act speaker took kept before parts after stops =
      record { world = record before { dest = stops.dest; draws = stops.draws }; log_is = refl; steps_are = refl; after_is = stops.after_is }

  crashes_at : (side : Side) (kept : Kept) (before : World S T C W) (parts : Parts) (after : World S T C W)
      → CrashesAt m side kept before parts after → Posts before.log before.steps parts after
  crashes_at sides.Source kept before parts after crashes =
      record { world = record before { source = crashes.source }; log_is = refl; steps_are = refl; after_is = crashes.after_is }
  crashes_at sides.Dest kept before parts after crashes =
      record { world = record before { dest = crashes.dest }; log_is = refl; steps_are = refl; after_is = crashes.after_is }

  stops_taking : (port : Option Port) (bytes : List ℕ) (kept : Kept) (before : World S T C W) (parts : Parts) (after : World S T C W)
      → StopsTaking m port bytes kept before parts after → Posts before.log before.steps parts after
  stops_taking None bytes kept before parts after never = absurd never
  stops_taking (Some (ports.Source conn)) bytes kept before parts after stops = source_stops _ _ kept before parts after stops
  stops_taking (Some ports.Dest) bytes kept before parts after stops = dest_stops _ _ _ kept before parts after stops
  stops_taking (Some (ports.Worker worker)) bytes kept before parts after stops = dest_stops _ _ _ kept before parts after stops
  stops_taking (Some (ports.Client from)) bytes kept before parts after never = absurd never

  stops_delivered : (number : ℕ) (o : Option Posted) (kept : Kept) (before : World S T C W) (parts : Parts) (after : World S T C W)
      → StopsDelivered m number o kept before parts after → PostsBehind before parts after
  stops_delivered number None kept before parts after never = absurd never
  stops_delivered number (Some r) kept before parts after stops =
      (number, stops_taking r.port r.bytes kept (record before { log = marked number before.log }) parts after stops)

  cut_behind : (event : Event) (kept : Kept) (before : World S T C W) (parts : Parts) (after : World S T C W) → IsCut m event kept before parts after
      → PostsBehind before parts after
  cut_behind (events.Deliver number) kept before parts after cut = stops_delivered number (posted_at number before.log) kept before parts after cut
  cut_behind (events.Work worker) kept before parts after cut = (0, dest_stops _ _ _ kept before parts after cut)
  cut_behind (events.Crash side pick) kept before parts after cut = (0, crashes_at side kept before parts after cut)
  cut_behind event kept before parts after never = absurd never

  -- by what the disks did in it
  pub made_behind : (choice : Choice) (event : Event) (before : World S T C W) (parts : Parts) (after : World S T C W) → IsMade m choice event before parts after
      → PostsBehind before parts after
  made_behind Went event before parts after made = posts_behind event before parts after made
  made_behind Failed event before parts after made = posts_behind event before parts after made
  made_behind (Stopped kept) event before parts after made = cut_behind event kept before parts after made

  -- one step more is counted
  pub counts_one : (before : World S T C W) (parts : Parts) (after : World S T C W) → PostsBehind before parts after → after.steps ≡ before.steps + 1
  counts_one before parts after (number, p) = ap (λ (w : World S T C W). w.steps) p.after_is ∙ ap (λ n. n + 1) p.steps_are

  -- ---- where the records before were sent as listed, all of them were

  abbrev pub part_of : Parts → End → Part
  part_of parts Source = parts.source
  part_of parts Dest = parts.dest
  part_of parts Client = parts.client

  -- the acts of step k are these parts, and the openings behind it those of this world
  pub record AreActs (acts : End → ℕ → Acts) (boot : End → ℕ → ℕ) (k : ℕ) (parts : Parts) (after : World S T C W) : Type 0 where
    pub took : (e : End) → (acts e k).took ≡ (part_of parts e).took
    pub out : (e : End) → (acts e k).out ≡ map sent_of (part_of parts e).out.sent
    pub opening : (e : End) → boot e (suc k) ≡ opening_of m e after

  same_opening : (e : End) (parts : Parts) (world : World S T C W) → opening_of m e (with_parts m parts world) ≡ opening_of m e world
  same_opening Source parts world = refl
  same_opening Dest parts world = refl
  same_opening Client parts world = refl

  module _ (acts : End → ℕ → Acts) (boot : End → ℕ → ℕ) (k : ℕ) where
    new_of : (e : End) (parts : Parts) (after world : World S T C W) → AreActs acts boot k parts after → world.steps ≡ k → after ≡ with_parts m parts world
        → WereSent acts boot (suc k) (all_posted e world.steps (opening_of m e world) (part_of parts e).took (part_of parts e).out.sent)
    new_of e parts after world are steps_are after_is =
        subst (λ n. WereSent acts boot (suc k) (all_posted e n (opening_of m e world) (part_of parts e).took (part_of parts e).out.sent)) (sym steps_are)
        (all_new acts boot k e (opening_of m e world) (part_of parts e).took (part_of parts e).out.sent
        (λ x among. subst (λ out. Contains out x) (sym (are.out e)) among)
        (are.took e)
        (are.opening e ∙ ap (opening_of m e) after_is ∙ same_opening e parts world))

    pub all_sent : (before : World S T C W) (parts : Parts) (after : World S T C W) → PostsBehind before parts after → before.steps ≡ k → AreActs acts boot k parts after
        → WereSent acts boot k before.log → WereSent acts boot (suc k) after.log
    all_sent before parts after (number, p) count are were =
        let at : p.world.steps ≡ k = p.steps_are ∙ count in
        let old : WereSent acts boot (suc k) p.world.log =
        subst (WereSent acts boot (suc k)) (sym p.log_is) (all_later acts boot k (marked number before.log) (all_marked acts boot k number before.log were)) in
        let new = λ (e : End). new_of e parts after p.world are at p.after_is in
        subst (λ (w : World S T C W). WereSent acts boot (suc k) w.log) (sym p.after_is)
        (both_sent acts boot (suc k) _ _ old (both_sent acts boot (suc k) _ _ (new Source) (both_sent acts boot (suc k) _ _ (new Dest) (new Client))))
