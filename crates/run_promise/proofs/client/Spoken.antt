-- The lines of a small step say that the client tells what its part gives, and no more.
use Rattle.std.proofs.Common.{◌≡◌, ◌∙◌, ℕ, ◌+◌, Bool, true, false, List, [], ◌∷◌, ◌++◌, length, map, Option, Some, None, refl, sym, ap, subst}
use Rattle.std.proofs.lemmas.Grind.{flat_map-append}
use Rattle.std.proofs.lemmas.List.{append-nil}
use Rattle.copy_model.specs.Volume.{Volume}
use Rattle.nfs_base.specs.declared.seal.End.{End}
use Rattle.nfs_base.specs.declared.seal.End.TheVariants as ends
use Rattle.nfs_base.specs.declared.side.Side.{Side}
use Rattle.nfs_base.specs.declared.side.Side.TheVariants as sides
use Rattle.outbox.specs.declared.note.Note.{Note}
use Rattle.outbox.specs.declared.outgoing.Outgoing.{Outgoing}
use Rattle.run_ends.specs.Ends.{RunStep, RunWorld, Words, machines}
use Rattle.run_promise.specs.Client.Lines.{by_client, told_in, told_in_lines}
use Rattle.run_promise.specs.Client.Told.{notes_along, notes_in}
use Rattle.volume_stops.specs.declared.kept.Kept.{Kept}
use Rattle.wire_lines.specs.declared.letters.Speaker.{Speaker}
use Rattle.wire_lines.specs.declared.letters.Speaker.TheVariants as speakers
use Rattle.wire_lines.specs.declared.line.Line.{Line}
use Rattle.wire_lines.specs.declared.line.Line.TheVariants as lines
use Rattle.wire_machine.specs.Ends.{ClientAct, DestAct}
use Rattle.wire_machine.specs.Lines.{lines_of, notes_of, own_lines, records_of, sent_lines, shown, step_lines, told_by, unsent, volume_at}
use Rattle.wire_machine.specs.Steps.{AreSteps, Arrives, CrashesAt, DestDoes, DestStops, IsCommanded, IsCut, IsDelivered, IsMade, IsSmall, IsStep, StopsDelivered, StopsTaking, client_part, command_of, dest_part, source_part, tick_parts}
use Rattle.wire_machine.specs.World.{Parts, Posted, marked, posted_at}
use Rattle.wire_machine.specs.declared.choice.Choice.{Choice}
use Rattle.wire_machine.specs.declared.choice.Choice.TheVariants as choices
use Rattle.wire_machine.specs.declared.port.Port.{Port}
use Rattle.wire_machine.specs.declared.port.Port.TheVariants as ports
use Rattle.wire_schedule.specs.declared.event.Event.{Event}
use Rattle.wire_schedule.specs.declared.event.Event.TheVariants as events

-- ---- notes

-- who speaks isn't the client
abbrev IsOther : Speaker → Type 0
IsOther by = (note : Note) → by_client by note ≡ []

others_tell : (by : Speaker) → IsOther by → (ns : List Note) → told_in_lines (map (lines.Note by) ns) ≡ []
others_tell by other [] = refl
others_tell by other (note ∷ ns) = ap (λ (xs : List Note). xs ++ told_in_lines (map (lines.Note by) ns)) (other note) ∙ others_tell by other ns

client_tells : (ns : List Note) → told_in_lines (map (lines.Note speakers.Client) ns) ≡ ns
client_tells [] = refl
client_tells (note ∷ ns) = ap (λ (xs : List Note). note ∷ xs) (client_tells ns)

behind_none : (xs ys : List Line) → told_in_lines xs ≡ [] → told_in_lines (xs ++ ys) ≡ told_in_lines ys
behind_none xs ys none = flat_map-append told_in xs ys ∙ ap (λ (ns : List Note). ns ++ told_in_lines ys) none

before_none : (xs ys : List Line) → told_in_lines ys ≡ [] → told_in_lines (xs ++ ys) ≡ told_in_lines xs
before_none xs ys none = flat_map-append told_in xs ys ∙ ap (λ (ns : List Note). told_in_lines xs ++ ns) none ∙ append-nil (told_in_lines xs)

-- of all ends it is the client that tells what its part gives
abbrev Tells : Parts → Type 0
Tells parts = told_in_lines (notes_of parts) ≡ parts.client.out.notes

parts_tell : (parts : Parts) → IsOther parts.source.speaker → IsOther parts.dest.speaker → parts.client.speaker ≡ speakers.Client → Tells parts
parts_tell parts source dest client =
    let own = map (lines.Note parts.client.speaker) parts.client.out.notes in
    let theirs = map (lines.Note parts.dest.speaker) parts.dest.out.notes in
    behind_none (map (lines.Note parts.source.speaker) parts.source.out.notes) (theirs ++ own) (others_tell parts.source.speaker source parts.source.out.notes)
    ∙ behind_none theirs own (others_tell parts.dest.speaker dest parts.dest.out.notes)
    ∙ ap (λ (by : Speaker). told_in_lines (map (lines.Note by) parts.client.out.notes)) client ∙ client_tells parts.client.out.notes

module _ {M : Type 0} (words : Words M ℕ) where
  by_dest : (act : DestAct) (speaker : Speaker) (took : Option (List ℕ)) (before : RunWorld M) (parts : Parts) (after : RunWorld M) → IsOther speaker
      → DestDoes (machines words) act speaker took before parts after → Tells parts
  by_dest act speaker took before parts after other does = subst (λ (p : Parts). Tells p) (sym does.parts_are) (parts_tell (dest_part speaker took does.out) (λ note. refl) other refl)

  arrived : (port : Option Port) (bytes : List ℕ) (before : RunWorld M) (parts : Parts) (after : RunWorld M) → Arrives (machines words) port bytes before parts after → Tells parts
  arrived None bytes before parts after rest = subst (λ (p : Parts). Tells p) (sym rest.0) refl
  arrived (Some (ports.Source conn)) bytes before parts after does =
      subst (λ (p : Parts). Tells p) (sym does.parts_are) (parts_tell (source_part (Some bytes) does.out) (λ note. refl) (λ note. refl) refl)
  arrived (Some ports.Dest) bytes before parts after does = by_dest _ speakers.Dest _ before parts after (λ note. refl) does
  arrived (Some (ports.Worker worker)) bytes before parts after does = by_dest _ speakers.Worker _ before parts after (λ note. refl) does
  arrived (Some (ports.Client from)) bytes before parts after does =
      subst (λ (p : Parts). Tells p) (sym does.parts_are) (parts_tell (client_part (Some bytes) does.out) (λ note. refl) (λ note. refl) refl)

  delivered : (number : ℕ) (o : Option Posted) (before : RunWorld M) (parts : Parts) (after : RunWorld M) → IsDelivered (machines words) number o before parts after → Tells parts
  delivered number None before parts after rest = subst (λ (p : Parts). Tells p) (sym rest.0) refl
  delivered number (Some r) before parts after comes = arrived r.port r.bytes (record before { log = marked number before.log }) parts after comes

  commanded : (o : Option ClientAct) (before : RunWorld M) (parts : Parts) (after : RunWorld M) → IsCommanded (machines words) o before parts after → Tells parts
  commanded None before parts after never = absurd never
  commanded (Some act) before parts after does = subst (λ (p : Parts). Tells p) (sym does.parts_are) (parts_tell (client_part None does.out) (λ note. refl) (λ note. refl) refl)

  small_tells : (event : Event) (before : RunWorld M) (parts : Parts) (after : RunWorld M) → IsSmall (machines words) event before parts after → Tells parts
  small_tells (events.Deliver number) before parts after small = delivered number (posted_at number before.log) before parts after small
  small_tells (events.Work worker) before parts after small = by_dest _ speakers.Dest _ before parts after (λ note. refl) small
  small_tells (events.Tick seconds) before parts after small =
      subst (λ (p : Parts). Tells p) (sym small.parts_are) (parts_tell (tick_parts (machines words) small.source_out small.dest_out small.client_out) (λ note. refl) (λ note. refl) refl)
  small_tells (events.Peek side file off len) before parts after small = subst (λ (p : Parts). Tells p) (sym small.0) refl
  small_tells (events.CrashAfter side calls pick) before parts after small = subst (λ (p : Parts). Tells p) (sym small.0) refl
  small_tells event before parts after small = commanded (command_of event) before parts after small

  -- ---- a server stops

  dest_stops : (act : DestAct) (speaker : Speaker) (took : Option (List ℕ)) (kept : Kept) (before : RunWorld M) (parts : Parts) (after : RunWorld M)
      → IsOther speaker → DestStops (machines words) act speaker took kept before parts after → Tells parts
  dest_stops act speaker took kept before parts after other stops =
      subst (λ (p : Parts). Tells p) (sym stops.parts_are) (parts_tell (dest_part speaker took stops.out) (λ note. refl) other refl)

  stops_taking : (port : Option Port) (bytes : List ℕ) (kept : Kept) (before : RunWorld M) (parts : Parts) (after : RunWorld M)
      → StopsTaking (machines words) port bytes kept before parts after → Tells parts
  stops_taking None bytes kept before parts after never = absurd never
  stops_taking (Some (ports.Source conn)) bytes kept before parts after stops =
      subst (λ (p : Parts). Tells p) (sym stops.parts_are) (parts_tell (source_part (Some bytes) stops.out) (λ note. refl) (λ note. refl) refl)
  stops_taking (Some ports.Dest) bytes kept before parts after stops = dest_stops _ speakers.Dest _ kept before parts after (λ note. refl) stops
  stops_taking (Some (ports.Worker worker)) bytes kept before parts after stops = dest_stops _ speakers.Worker _ kept before parts after (λ note. refl) stops
  stops_taking (Some (ports.Client from)) bytes kept before parts after never = absurd never

  stops_delivered : (number : ℕ) (o : Option Posted) (kept : Kept) (before : RunWorld M) (parts : Parts) (after : RunWorld M)
      → StopsDelivered (machines words) number o kept before parts after → Tells parts
  stops_delivered number None kept before parts after never = absurd never
  stops_delivered number (Some r) kept before parts after stops =
      stops_taking r.port r.bytes kept (record before { log = marked number before.log }) parts after stops

  crashes : (side : Side) (kept : Kept) (before : RunWorld M) (parts : Parts) (after : RunWorld M)
      → CrashesAt (machines words) side kept before parts after → Tells parts
  crashes sides.Source kept before parts after stops = subst (λ (p : Parts). Tells p) (sym stops.parts_are) refl
  crashes sides.Dest kept before parts after stops = subst (λ (p : Parts). Tells p) (sym stops.parts_are) refl

  cut_tells : (event : Event) (kept : Kept) (before : RunWorld M) (parts : Parts) (after : RunWorld M)
      → IsCut (machines words) event kept before parts after → Tells parts
  cut_tells (events.Deliver number) kept before parts after cut = stops_delivered number (posted_at number before.log) kept before parts after cut
  cut_tells (events.Work worker) kept before parts after cut = dest_stops _ speakers.Dest _ kept before parts after (λ note. refl) cut
  cut_tells (events.Crash side pick) kept before parts after cut = crashes side kept before parts after cut
  cut_tells event kept before parts after never = absurd never

  made_tells : (choice : Choice) (event : Event) (before : RunWorld M) (parts : Parts) (after : RunWorld M)
      → IsMade (machines words) choice event before parts after → Tells parts
  made_tells choices.Went event before parts after made = small_tells event before parts after made
  made_tells choices.Failed event before parts after made = small_tells event before parts after made
  made_tells (choices.Stopped kept) event before parts after made = cut_tells event kept before parts after made

  -- ---- the other lines tell nothing

  none_sent : (from : End) (number : ℕ) (sent : List Outgoing) → told_in_lines (sent_lines from number sent) ≡ []
  none_sent from number [] = refl
  none_sent from number (out ∷ sent) = none_sent from (number + 1) sent

  none_unsent : (number : ℕ) (o : Option Posted) → told_in_lines (unsent number o) ≡ []
  none_unsent number None = refl
  none_unsent number (Some r) = refl

  none_shown : (v : Volume) (choice : Choice) (side : Side) (file off len : ℕ) (broken : Bool) → told_in_lines (shown v choice side file off len broken) ≡ []
  none_shown v choices.Went side file off len false = refl
  none_shown v choices.Went side file off len true = refl
  none_shown v choices.Failed side file off len broken = refl
  none_shown v (choices.Stopped kept) side file off len broken = refl

  none_own : (w : RunWorld M) (event : Event) (choice : Choice) → told_in_lines (own_lines (machines words) w event choice) ≡ []
  none_own w (events.Deliver number) choice = none_unsent number (posted_at number w.log)
  none_own w (events.Peek side file off len) choice =
      none_shown (volume_at (machines words) side w) choice side file off len (volume_at (machines words) side w).broken
  none_own w event choice = refl

  none_told : (choice : Choice) (w : RunWorld M) (s : RunStep M) → told_in_lines (told_by (machines words) choice w s) ≡ []
  none_told choices.Went w s = none_own w s.event s.choice
  none_told choices.Failed w s = none_own w s.event s.choice
  none_told (choices.Stopped kept) w s = refl

  none_recorded : (sent : ℕ) (parts : Parts) → told_in_lines (records_of sent parts) ≡ []
  none_recorded sent parts =
      let first = sent + 1 in
      let behind = first + length parts.source.out.sent in
      let last = behind + length parts.dest.out.sent in
      let source = sent_lines ends.Source first parts.source.out.sent in
      let dest = sent_lines ends.Dest behind parts.dest.out.sent in
      let client = sent_lines ends.Client last parts.client.out.sent in
      behind_none source (dest ++ client) (none_sent ends.Source first parts.source.out.sent)
      ∙ behind_none dest client (none_sent ends.Dest behind parts.dest.out.sent) ∙ none_sent ends.Client last parts.client.out.sent

  -- ---- steps

  step_tells : (w : RunWorld M) (s : RunStep M) → IsStep (machines words) w s → told_in_lines (step_lines (machines words) w s) ≡ notes_in s
  step_tells w s step =
      behind_none (told_by (machines words) s.choice w s) (notes_of s.parts ++ records_of (length w.log) s.parts) (none_told s.choice w s)
      ∙ before_none (notes_of s.parts) (records_of (length w.log) s.parts) (none_recorded (length w.log) s.parts)
      ∙ made_tells s.choice s.event w s.parts s.after step.small

  pub lines_tell : (w : RunWorld M) (steps : List (RunStep M)) → AreSteps (machines words) w steps → told_in_lines (lines_of (machines words) w steps) ≡ notes_along steps
  lines_tell w [] are = refl
  lines_tell w (s ∷ steps) are =
      flat_map-append told_in (step_lines (machines words) w s) (lines_of (machines words) s.after steps)
      ∙ ap (λ (ns : List Note). ns ++ told_in_lines (lines_of (machines words) s.after steps)) (step_tells w s are.0)
      ∙ ap (λ (ns : List Note). notes_in s ++ ns) (lines_tell s.after steps are.1)
