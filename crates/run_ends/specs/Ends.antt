-- The three machines of a run: a source, a destination and a client, each by its own definitions.
use Rattle.std.specs.Prelude.{◌≡◌, ℕ, ◌-◌, ◌&&◌, Bool, true, false, nat_le, List, [], Option}
use Rattle.client_copies.specs.declared.copy.Query.TheVariants as queries
use Rattle.client_core.specs.Commands.{IsBegun, IsWork, query_step, retry_step, tick_step}
use Rattle.client_core.specs.Endings.{Ways, ways_of}
use Rattle.client_core.specs.Records as client
use Rattle.client_core.specs.State.{ClientState}
use Rattle.client_core.specs.declared.client.TheConstants as caller
use Rattle.dest_core.specs.Stepping as dest
use Rattle.dest_core.specs.Stepping.{DestState}
use Rattle.dest_tasks.specs.declared.workers.TheConstants.{WORKERS}
use Rattle.gss_ctx.specs.Seals.{Mic}
use Rattle.gss_mech.specs.declared.mechanism.Accepted.{Accepted}
use Rattle.job_table.specs.Fits.{PlansAreFit}
use Rattle.outbox.specs.Outboxes.{no_outbox}
use Rattle.outbox.specs.declared.outgoing.Outbox.{Outbox}
use Rattle.session_server.specs.Host.{HostState}
use Rattle.session_server.specs.Lengths.{AreShort}
use Rattle.session_server.specs.Steps.{IsTurn, ticked}
use Rattle.session_server.specs.declared.host.TheConstants as server
use Rattle.source_core.specs.Core.{source_rules}
use Rattle.source_core.specs.declared.carried.Carried.{Carried}
use Rattle.source_core.specs.declared.source.Source.{Source}
use Rattle.streams.specs.Draws.{counted_draw, next_count}
use Rattle.streams.specs.declared.draws.Drawn.{Drawn}
use Rattle.streams.specs.declared.draws.Drawn.TheVariants.{Got}
use Rattle.write_queue.specs.declared.work.Work.TheVariants as works
use Rattle.volume_stops.specs.declared.kept.Kept.{Kept}
use Rattle.wire_machine.specs.Ends.{ClientAct, DestAct, Machines, SourceAct}
use Rattle.wire_machine.specs.Ends as acts
use Rattle.wire_machine.specs.Steps.{Step}
use Rattle.wire_machine.specs.World.{World}
use Rattle.run_ends.specs.Handling.{IsHandled, client_took, dest_took, source_took}
use Rattle.run_ends.specs.Opening.{IsDestAnew, IsSourceAnew, silenced}

-- what a mechanism and the draws tell of themselves
pub record Words (M W : Type 0) : Type 1 where
  pub mic : Mic
  pub derived : List ℕ → ℕ → List ℕ → List ℕ
  pub started : M → List ℕ → List ℕ → Option (List ℕ)
  pub accepted : M → List ℕ → List ℕ → Option Accepted
  pub finished : M → List ℕ → List ℕ → List ℕ → Option (List ℕ)
  pub gives : W → Drawn → W → Type 0

abbrev pub SourceState : Type 0 → Type 0
SourceState M = HostState (Source M) Carried

-- whether the destination has a worker of this number
abbrev pub is_worker : ℕ → Bool
is_worker worker = nat_le 1 worker && nat_le worker WORKERS

module _ {M W : Type 0} (words : Words M W) where
  -- ---- the source

  abbrev pub source_does : SourceAct → (now : ℕ) → SourceState M → W → SourceState M → W → Outbox → Type 0
  source_does (acts.SourceTakes conn bytes) now s before t after out =
      IsTurn (source_rules words.mic) (record { mic = words.mic; derived = words.derived }) (words.accepted s.state.machine.extra.mech) words.gives conn bytes now s before after
      (record { host = t; out = out })
  source_does acts.SourceTicks now s before t after out = (t ≡ ticked (source_rules words.mic) now s) × (out ≡ no_outbox) × (after ≡ before)

  -- ---- the destination; its workers are counted from 1, and their places from 0

  -- a record for a worker that isn't there is taken by nobody
  abbrev pub hears : Bool → (worker : ℕ) → (bytes : List ℕ) → (now : ℕ) → DestState M → DestState M → Outbox → Type 0
  hears true worker bytes now s t out =
      dest.IsReply (record { mic = words.mic; derived = words.derived }) (words.finished s.state.machine.extra.mech s.state.machine.extra.copier.principal) (worker - 1) bytes now s
      (record { host = t; out = out })
  hears false worker bytes now s t out = (t ≡ s) × (out ≡ no_outbox)

  abbrev pub dest_does : DestAct → (now : ℕ) → DestState M → W → DestState M → W → Outbox → Type 0
  dest_does (acts.DestTakes conn bytes) now s before t after out =
      dest.IsRecord (record { mic = words.mic; derived = words.derived }) (words.accepted s.state.machine.extra.mech) words.gives conn bytes now s before after
      (record { host = t; out = out })
  dest_does (acts.Works worker) now s before t after out =
      (is_worker worker ≡ true)
      × dest.IsWork words.gives (words.started s.state.machine.extra.mech) (record { mic = words.mic; derived = words.derived }) (worker - 1) now s before after
      (record { host = t; out = out })
  dest_does (acts.Hears worker bytes) now s before t after out = hears (is_worker worker) worker bytes now s t out × (after ≡ before)
  dest_does acts.DestTicks now s before t after out =
      (record { host = t; out = out } ≡ dest.tick_step (record { mic = words.mic; derived = words.derived }) now s) × (after ≡ before)

  -- ---- the client

  abbrev pub ways : ClientState M → Ways
  ways c = ways_of words.mic words.derived words.finished words.started words.accepted c.setting

  abbrev pub client_does : ClientAct → (now : ℕ) → ClientState M → W → ClientState M → W → Outbox → Type 0
  client_does (acts.Writes side file off bytes) now c before t after out = IsWork (ways c) words.gives side (works.Write file off bytes) now c before after (t, out)
  client_does (acts.Commits side file) now c before t after out = IsWork (ways c) words.gives side (works.Commit file) now c before after (t, out)
  client_does (acts.Begins copy spec) now c before t after out = IsBegun (ways c) words.gives copy spec now c before after (t, out)
  client_does (acts.Asks copy) now c before t after out = ((t, out) ≡ query_step words.mic copy queries.Status now c) × (after ≡ before)
  client_does (acts.Cancels copy) now c before t after out = ((t, out) ≡ query_step words.mic copy queries.Cancel now c) × (after ≡ before)
  client_does acts.Retries now c before t after out = ((t, out) ≡ retry_step words.mic now c) × (after ≡ before)
  client_does (acts.ClientTakes from bytes) now c before t after out = client.IsRecord (ways c) words.gives from bytes now c before after (t, out)
  client_does acts.ClientTicks now c before t after out = ((t, out) ≡ tick_step words.mic now c) × (after ≡ before)

  -- ---- all three, with what is known of each act besides; no record that a server sends is longer than one may be, and the
  -- plans of the jobs that a destination has then are within the bounds of their types

  abbrev pub source_goes : SourceAct → (now : ℕ) → SourceState M → W → SourceState M → W → Outbox → Type 0
  source_goes act now s before t after out =
      source_does act now s before t after out × IsHandled s.steps server.MOST_STEPS (source_took act) out × AreShort out.sent

  abbrev pub dest_goes : DestAct → (now : ℕ) → DestState M → W → DestState M → W → Outbox → Type 0
  dest_goes act now s before t after out =
      dest_does act now s before t after out × IsHandled s.steps server.MOST_STEPS (dest_took act) out × AreShort out.sent
      × PlansAreFit t.state.machine.extra.copier.copies.book.table

  abbrev pub client_goes : ClientAct → (now : ℕ) → ClientState M → W → ClientState M → W → Outbox → Type 0
  client_goes act now c before t after out = client_does act now c before t after out × IsHandled c.steps caller.MOST_STEPS (client_took act) out

  -- ---- A server's machine stops in an act: it would have gone on as it goes, and is opened anew instead. Or it stops between two.

  abbrev pub source_stops : SourceAct → (now : ℕ) → SourceState M → W → SourceState M → W → Outbox → Kept → Type 0
  source_stops act now s before t after out kept =
      (u : SourceState M) × (full : Outbox) × source_goes act now s before u after full × IsSourceAnew s full.used kept t × (out ≡ silenced full)

  abbrev pub dest_stops : DestAct → (now : ℕ) → DestState M → W → DestState M → W → Outbox → Kept → Type 0
  dest_stops act now s before t after out kept =
      (u : DestState M) × (full : Outbox) × dest_goes act now s before u after full × IsDestAnew s full.used kept t × (out ≡ silenced full)

  abbrev pub source_crashes : SourceState M → SourceState M → Kept → Type 0
  source_crashes s t kept = IsSourceAnew s [] kept t

  abbrev pub dest_crashes : DestState M → DestState M → Kept → Type 0
  dest_crashes s t kept = IsDestAnew s [] kept t

  abbrev pub machines : Machines (SourceState M) (DestState M) (ClientState M) W
  machines = record {
    source = source_goes;
    dest = dest_goes;
    client = client_goes;
    source_stops = source_stops;
    dest_stops = dest_stops;
    source_crashes = source_crashes;
    dest_crashes = dest_crashes;
    source_volume = λ s. s.state.machine.store.volume;
    dest_volume = λ s. s.state.machine.store.volume;
  }

abbrev pub words_of : {M W : Type 0} → Mic → (List ℕ → ℕ → List ℕ → List ℕ) → (M → List ℕ → List ℕ → Option (List ℕ)) → (M → List ℕ → List ℕ → Option Accepted)
    → (M → List ℕ → List ℕ → List ℕ → Option (List ℕ)) → (W → Drawn → W → Type 0) → Words M W
words_of mic derived started accepted finished gives =
    record { mic = mic; derived = derived; started = started; accepted = accepted; finished = finished; gives = gives }

-- draws by a counter
abbrev pub count_gives : ℕ → Drawn → ℕ → Type 0
count_gives before drawn after = (drawn ≡ Got (counted_draw before)) × (after ≡ next_count before)

-- the machines of a run, whose draws go by a counter
abbrev pub run_machines : {M : Type 0} → Mic → (List ℕ → ℕ → List ℕ → List ℕ) → (M → List ℕ → List ℕ → Option (List ℕ)) → (M → List ℕ → List ℕ → Option Accepted)
    → (M → List ℕ → List ℕ → List ℕ → Option (List ℕ)) → Machines (SourceState M) (DestState M) (ClientState M) ℕ
run_machines mic derived started accepted finished =
    machines (words_of mic derived started accepted finished count_gives)

-- the machines of a run, with draws that count
abbrev pub RunWorld : Type 0 → Type 0
RunWorld M = World (SourceState M) (DestState M) (ClientState M) ℕ

abbrev pub RunMachines : Type 0 → Type 1
RunMachines M = Machines (SourceState M) (DestState M) (ClientState M) ℕ

abbrev pub RunStep : Type 0 → Type 0
RunStep M = Step (SourceState M) (DestState M) (ClientState M) ℕ
