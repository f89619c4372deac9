-- What a small step of a run is to the client: a turn, or a rest. Own definitions.
use Rattle.std.specs.Prelude.{◌≡◌, ℕ, ◌+◌, List, Option, Some, None}
use Rattle.client_copies.specs.declared.copy.Query.TheVariants as queries
use Rattle.client_core.specs.State.{ClientState}
use Rattle.client_laws.specs.Turns.{Asks, Begins, Hears, Retries, Ticks, Turn, Works}
use Rattle.wire_lines.specs.declared.letters.Speaker.TheVariants as speakers
use Rattle.wire_machine.specs.Ends.{ClientAct}
use Rattle.wire_machine.specs.Ends as acts
use Rattle.wire_machine.specs.Steps.{command_of}
use Rattle.wire_machine.specs.World.{Part, Posted, idle, posted_at}
use Rattle.wire_machine.specs.declared.port.Port.{Port}
use Rattle.wire_machine.specs.declared.port.Port.TheVariants as ports
use Rattle.run_ends.specs.Ends.{Words, client_goes}
use Rattle.run_ends.specs.Handling.{client_took}
use Rattle.wire_schedule.specs.declared.event.Event.{Event}
use Rattle.wire_schedule.specs.declared.event.Event.TheVariants as events
use Rattle.write_queue.specs.declared.work.Work.TheVariants as works

-- the turn of an act
abbrev pub turn_of : ClientAct → (now : ℕ) → Turn
turn_of (acts.Writes side file off bytes) now = Works side (works.Write file off bytes) now
turn_of (acts.Commits side file) now = Works side (works.Commit file) now
turn_of (acts.Begins copy spec) now = Begins copy spec now
turn_of (acts.Asks copy) now = Asks queries.Status copy now
turn_of (acts.Cancels copy) now = Asks queries.Cancel copy now
turn_of acts.Retries now = Retries now
turn_of (acts.ClientTakes from bytes) now = Hears from bytes now
turn_of acts.ClientTicks now = Ticks now

-- ---- the act of the client in a small step: a command, a look at the clock, or a record that is delivered to it

abbrev pub taken_at : Option Port → (bytes : List ℕ) → Option ClientAct
taken_at (Some (ports.Client from)) bytes = Some (acts.ClientTakes from bytes)
taken_at port bytes = None

abbrev pub delivered_in : Option Posted → Option ClientAct
delivered_in None = None
delivered_in (Some r) = taken_at r.port r.bytes

abbrev pub act_in : Event → List Posted → Option ClientAct
act_in (events.Deliver number) log = delivered_in (posted_at number log)
act_in (events.Tick seconds) log = Some acts.ClientTicks
act_in event log = command_of event

-- the second in which it is made
abbrev pub second_in : Event → (clock : ℕ) → ℕ
second_in (events.Tick seconds) clock = clock + seconds
second_in event clock = clock

-- ---- what the client does, from c to d

pub record Acted {M : Type 0} (words : Words M ℕ) (act : ClientAct) (now : ℕ) (c d : ClientState M) (part : Part) : Type 0 where
  pub draws : ℕ
  pub after : ℕ
  pub goes : client_goes words act now c draws d after part.out
  pub took : part.took ≡ client_took act

pub record Rested {M : Type 0} (c d : ClientState M) (part : Part) : Type 0 where
  pub same : d ≡ c
  pub idle_is : part ≡ idle speakers.Client

abbrev pub Does : {M : Type 0} → Words M ℕ → Option ClientAct → (now : ℕ) → (c d : ClientState M) → Part → Type 0
Does words None now c d part = Rested c d part
Does words (Some act) now c d part = Acted words act now c d part
