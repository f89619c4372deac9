-- What a small step is to the source: it takes a record on a connection, a second comes to it by itself, or it rests.
use Rattle.std.proofs.Common.{◌≡◌, ◌⊎◌, inl, inr, ℕ, ◌+◌, List, Option, Some, None, sym, ap, subst, ◌∙◌}
use Rattle.outbox.specs.Outboxes.{no_outbox}
use Rattle.outbox.specs.declared.outgoing.Outbox.{Outbox}
use Rattle.session_server.specs.Steps.{ticked}
use Rattle.source_core.specs.Core.{source_rules}
use Rattle.wire_lines.specs.declared.letters.Speaker.{Speaker}
use Rattle.wire_lines.specs.declared.letters.Speaker.TheVariants as speakers
use Rattle.wire_machine.specs.declared.port.Port.{Port}
use Rattle.wire_machine.specs.declared.port.Port.TheVariants as ports
use Rattle.wire_machine.specs.Ends.{ClientAct, DestAct, SourceAct}
use Rattle.wire_machine.specs.Ends as acts
use Rattle.wire_machine.specs.Steps.{AllRest, AllTick, Arrives, ClientDoes, DestDoes, IsCommanded, IsDelivered, IsSmall, SourceDoes, command_of}
use Rattle.wire_machine.specs.World.{Part, Parts, Posted, marked, posted_at}
use Rattle.run_ends.specs.Ends.{RunMachines, RunWorld, SourceState, Words, machines, source_goes}
use Rattle.wire_schedule.specs.declared.event.Event.{Event}
use Rattle.wire_schedule.specs.declared.event.Event.TheVariants as events

abbrev source_part : Option (List ℕ) → Outbox → Part
source_part took out = record { took = took; speaker = speakers.Source; out = out }

module _ {M : Type 0} (words : Words M ℕ) where
  abbrev m : RunMachines M
  m = machines words

  -- it takes a record
  pub record Takes (before : RunWorld M) (parts : Parts) (after : RunWorld M) : Type 0 where
    pub conn : ℕ
    pub bytes : List ℕ
    pub draws : ℕ
    pub out : Outbox
    pub goes : source_goes words (acts.SourceTakes conn bytes) before.clock before.source before.draws after.source draws out
    pub part : parts.source ≡ source_part (Some bytes) out

  -- it takes none: it is as it was, or a second came
  pub record Rests (before : RunWorld M) (parts : Parts) (after : RunWorld M) : Type 0 where
    pub source : (after.source ≡ before.source) ⊎ ((now : ℕ) × (after.source ≡ ticked (source_rules words.mic) now before.source))
    pub part : parts.source ≡ source_part None no_outbox

  abbrev pub Did : RunWorld M → Parts → RunWorld M → Type 0
  Did before parts after = Takes before parts after ⊎ Rests before parts after

  by_source : (conn : ℕ) (bytes : List ℕ) (before : RunWorld M) (parts : Parts) (after : RunWorld M)
      → SourceDoes m (acts.SourceTakes conn bytes) (Some bytes) before parts after → Did before parts after
  by_source conn bytes before parts after d =
      let is : after.source ≡ d.source = ap (λ (w : RunWorld M). w.source) d.after_is in
      inl (record {
        conn = conn;
        bytes = bytes;
        draws = d.draws;
        out = d.out;
        goes = subst (λ (x : SourceState M). source_goes words (acts.SourceTakes conn bytes) before.clock before.source before.draws x d.draws d.out) (sym is) d.acts;
        part = ap (λ (p : Parts). p.source) d.parts_are;
      })

  by_dest : (act : DestAct) (speaker : Speaker) (took : Option (List ℕ)) (before : RunWorld M) (parts : Parts) (after : RunWorld M)
      → DestDoes m act speaker took before parts after → Did before parts after
  by_dest act speaker took before parts after d =
      inr (record { source = inl (ap (λ (w : RunWorld M). w.source) d.after_is); part = ap (λ (p : Parts). p.source) d.parts_are })

  by_client : (act : ClientAct) (took : Option (List ℕ)) (before : RunWorld M) (parts : Parts) (after : RunWorld M)
      → ClientDoes m act took before parts after → Did before parts after
  by_client act took before parts after d =
      inr (record { source = inl (ap (λ (w : RunWorld M). w.source) d.after_is); part = ap (λ (p : Parts). p.source) d.parts_are })

  by_none : (before : RunWorld M) (parts : Parts) (after : RunWorld M) → AllRest m before parts after → Did before parts after
  by_none before parts after d =
      inr (record { source = inl (ap (λ (w : RunWorld M). w.source) d.1); part = ap (λ (p : Parts). p.source) d.0 })

  arrives : (port : Option Port) (bytes : List ℕ) (before : RunWorld M) (parts : Parts) (after : RunWorld M) → Arrives m port bytes before parts after
      → Did before parts after
  arrives None bytes before parts after d = by_none before parts after d
  arrives (Some (ports.Source conn)) bytes before parts after d = by_source conn bytes before parts after d
  arrives (Some ports.Dest) bytes before parts after d = by_dest (acts.DestTakes 0 bytes) speakers.Dest (Some bytes) before parts after d
  arrives (Some (ports.Worker worker)) bytes before parts after d = by_dest (acts.Hears worker bytes) speakers.Worker (Some bytes) before parts after d
  arrives (Some (ports.Client from)) bytes before parts after d = by_client (acts.ClientTakes from bytes) (Some bytes) before parts after d

  -- where a record is delivered the list of records has it marked, and all else is as it was
  unmarked : (number : ℕ) (before : RunWorld M) (parts : Parts) (after : RunWorld M) → Did (record before { log = marked number before.log }) parts after
      → Did before parts after
  unmarked number before parts after (inl t) =
      inl (record { conn = t.conn; bytes = t.bytes; draws = t.draws; out = t.out; goes = t.goes; part = t.part })
  unmarked number before parts after (inr r) = inr (record { source = r.source; part = r.part })

  delivered : (number : ℕ) (o : Option Posted) (before : RunWorld M) (parts : Parts) (after : RunWorld M) → IsDelivered m number o before parts after
      → Did before parts after
  delivered number None before parts after d = by_none before parts after d
  delivered number (Some r) before parts after d =
      unmarked number before parts after (arrives r.port r.bytes (record before { log = marked number before.log }) parts after d)

  ticks : (seconds : ℕ) (before : RunWorld M) (parts : Parts) (after : RunWorld M) → AllTick m seconds before parts after → Did before parts after
  ticks seconds before parts after d =
      let now = before.clock + seconds in
      let is : after.source ≡ d.source = ap (λ (w : RunWorld M). w.source) d.after_is in
      inr (record {
        source = inr (now, is ∙ d.source_ticks.0.0);
        part = ap (λ (p : Parts). p.source) d.parts_are ∙ ap (λ (out : Outbox). source_part None out) d.source_ticks.0.1;
      })

  commanded : (o : Option ClientAct) (before : RunWorld M) (parts : Parts) (after : RunWorld M) → IsCommanded m o before parts after → Did before parts after
  commanded None before parts after d = absurd d
  commanded (Some act) before parts after d = by_client act None before parts after d

  pub small_did : (event : Event) (before : RunWorld M) (parts : Parts) (after : RunWorld M) → IsSmall m event before parts after → Did before parts after
  small_did (events.Deliver number) before parts after d = delivered number (posted_at number before.log) before parts after d
  small_did (events.Work worker) before parts after d = by_dest (acts.Works worker) speakers.Dest None before parts after d
  small_did (events.Tick seconds) before parts after d = ticks seconds before parts after d
  small_did (events.Peek side file off len) before parts after d = by_none before parts after d
  small_did (events.CrashAfter side calls pick) before parts after d = by_none before parts after d
  small_did event before parts after d = commanded (command_of event) before parts after d
