-- What a small step is to the destination as a server: it takes a record on a connection, or one of its own steps, which leaves its
-- contexts and its sessions, and changes its volume by calls; and what its workers hear they don't answer.
use Rattle.std.proofs.Common.{◌≡◌, ◌⊎◌, inl, inr, ℕ, ◌+◌, ◌-◌, Bool, true, false, List, [], Option, Some, None, refl, sym, ap, subst}
use Rattle.dest_core.specs.Stepping as dest
use Rattle.dest_core.specs.Stepping.{DestState, DestStep}
use Rattle.dest_laws.specs.Calls.Steps.{AreCalls}
use Rattle.dest_steps.specs.Copier.{Codes}
use Rattle.outbox.specs.declared.outgoing.Outbox.{Outbox}
use Rattle.run_ends.specs.Ends.{RunMachines, RunWorld, Words, dest_goes, hears, is_worker, machines}
use Rattle.run_promise.proofs.serving.Steady.{CameOffRoot, came_none}
use Rattle.run_promise.proofs.serving.WorkCalls.{reply_came, work_came}
use Rattle.server_volume.specs.Choices.{choice_of}
use Rattle.server_volume.specs.Store.{Store}
use Rattle.server_volume.specs.declared.used.Used.{Used}
use Rattle.wire_lines.specs.declared.letters.Speaker.TheVariants as speakers
use Rattle.wire_machine.specs.Ends as acts
use Rattle.wire_machine.specs.Ends.{ClientAct, SourceAct}
use Rattle.wire_machine.specs.Steps.{AllRest, AllTick, Arrives, ClientDoes, DestDoes, IsCommanded, IsDelivered, IsSmall, SourceDoes, command_of}
use Rattle.wire_machine.specs.World.{Part, Parts, Posted, marked, posted_at}
use Rattle.wire_machine.specs.declared.port.Port.{Port}
use Rattle.wire_machine.specs.declared.port.Port.TheVariants as ports
use Rattle.wire_schedule.specs.declared.event.Event.{Event}
use Rattle.wire_schedule.specs.declared.event.Event.TheVariants as events

-- contexts and sessions are as they were; a step was made, or none; and these calls were made on the volume, none of them on the root
pub record LeavesServer {M : Type 0} (s t : DestState M) : Type 0 where
  pub contexts : t.contexts ≡ s.contexts
  pub sessions : t.state.sessions ≡ s.state.sessions
  pub steps : (t.steps ≡ s.steps) ⊎ (t.steps ≡ s.steps + 1)
  pub used : List Used
  pub calls : CameOffRoot s.state.machine.store t.state.machine.store used

pub leaves_none : {M : Type 0} (s : DestState M) → LeavesServer s s
leaves_none s = record { contexts = refl; sessions = refl; steps = inl refl; used = []; calls = came_none s.state.machine.store }

-- the volume is as it was
pub came_same : {M : Type 0} (s t : DestState M) → t.state.machine.store ≡ s.state.machine.store → CameOffRoot s.state.machine.store t.state.machine.store []
came_same s t same = subst (λ (x : Store). CameOffRoot s.state.machine.store x []) (sym same) (came_none s.state.machine.store)

-- a part in which a record was taken by one of its workers, and only calls went out
abbrev pub IsHeardAlone : Part → Type 0
IsHeardAlone part = (part.speaker ≡ speakers.Worker) × AreCalls part.out.sent

-- where a worker hears a record, only calls go out
abbrev pub AsksAlone : Type 0 → Type 0
AsksAlone M =
    (codes : Codes) (finish : List ℕ → List ℕ → Option (List ℕ)) (place : ℕ) (message : List ℕ) (now : ℕ) (s : DestState M) (t : DestStep M)
    → dest.IsReply codes finish place message now s t → AreCalls t.out.sent

module _ {M : Type 0} (words : Words M ℕ) where
  abbrev m : RunMachines M
  m = machines words

  -- it takes a record on a connection
  pub record Takes (before : RunWorld M) (parts : Parts) (after : RunWorld M) : Type 0 where
    pub conn : ℕ
    pub bytes : List ℕ
    pub draws : ℕ
    pub out : Outbox
    pub goes : dest_goes words (acts.DestTakes conn bytes) before.clock before.dest before.draws after.dest draws out
    pub part : parts.dest ≡ record { took = Some bytes; speaker = speakers.Dest; out = out }

  -- it takes none there: one of its workers may have taken one
  pub record Rests (before : RunWorld M) (parts : Parts) (after : RunWorld M) : Type 0 where
    pub leaves : LeavesServer before.dest after.dest
    pub part : (parts.dest.took ≡ None) ⊎ IsHeardAlone parts.dest

  abbrev pub Did : RunWorld M → Parts → RunWorld M → Type 0
  Did before parts after = Takes before parts after ⊎ Rests before parts after

  -- ---- its own steps

  work_leaves : (worker now : ℕ) (s : DestState M) (before after : ℕ) (t : DestState M) (out : Outbox)
      → dest_goes words (acts.Works worker) now s before t after out → LeavesServer s t
  work_leaves worker now s before after t out d =
      let is = d.0.1.is (choice_of out.used) (λ n below. refl) in
      record {
        contexts = ap (λ (x : dest.DestStep M). x.host.contexts) is;
        sessions = ap (λ (x : dest.DestStep M). x.host.state.sessions) is;
        steps = inr (ap (λ (x : dest.DestStep M). x.host.steps) is);
        used = out.used;
        calls = work_came words.gives _ _ (worker - 1) now s before after (record { host = t; out = out }) d.0.1;
      }

  hears_leaves : (there : Bool) (worker : ℕ) (bytes : List ℕ) (now : ℕ) (s t : DestState M) (out : Outbox)
      → hears words there worker bytes now s t out → LeavesServer s t
  hears_leaves true worker bytes now s t out d =
      let is = d.is (choice_of out.used) (λ n below. refl) in
      record {
        contexts = ap (λ (x : dest.DestStep M). x.host.contexts) is;
        sessions = ap (λ (x : dest.DestStep M). x.host.state.sessions) is;
        steps = inr (ap (λ (x : dest.DestStep M). x.host.steps) is);
        used = out.used;
        calls = reply_came _ _ (worker - 1) bytes now s (record { host = t; out = out }) d;
      }
  hears_leaves false worker bytes now s t out d = subst (λ (x : DestState M). LeavesServer s x) (sym d.0) (leaves_none s)

  hears_calls : AsksAlone M → (there : Bool) (worker : ℕ) (bytes : List ℕ) (now : ℕ) (s t : DestState M) (out : Outbox)
      → hears words there worker bytes now s t out → AreCalls out.sent
  hears_calls alone true worker bytes now s t out d = alone _ _ (worker - 1) bytes now s (record { host = t; out = out }) d
  hears_calls alone false worker bytes now s t out d = subst (λ (o : Outbox). AreCalls o.sent) (sym d.1) tt

  tick_leaves : (now : ℕ) (s : DestState M) (before after : ℕ) (t : DestState M) (out : Outbox)
      → dest_goes words acts.DestTicks now s before t after out → LeavesServer s t
  tick_leaves now s before after t out d = record {
    contexts = ap (λ (x : dest.DestStep M). x.host.contexts) d.0.0;
    sessions = ap (λ (x : dest.DestStep M). x.host.state.sessions) d.0.0;
    steps = inr (ap (λ (x : dest.DestStep M). x.host.steps) d.0.0);
    used = [];
    calls = came_same s t (ap (λ (x : dest.DestStep M). x.host.state.machine.store) d.0.0);
  }

  -- ---- a small step

  by_takes : (conn : ℕ) (bytes : List ℕ) (before : RunWorld M) (parts : Parts) (after : RunWorld M)
      → DestDoes m (acts.DestTakes conn bytes) speakers.Dest (Some bytes) before parts after → Did before parts after
  by_takes conn bytes before parts after d =
      let is : after.dest ≡ d.dest = ap (λ (w : RunWorld M). w.dest) d.after_is in
      inl (record {
        conn = conn;
        bytes = bytes;
        draws = d.draws;
        out = d.out;
        goes = subst (λ (x : DestState M). dest_goes words (acts.DestTakes conn bytes) before.clock before.dest before.draws x d.draws d.out) (sym is) d.acts;
        part = ap (λ (p : Parts). p.dest) d.parts_are;
      })

  leaving : (before : RunWorld M) (parts : Parts) (after : RunWorld M) (t : DestState M) → after.dest ≡ t → LeavesServer before.dest t
      → (parts.dest.took ≡ None) ⊎ IsHeardAlone parts.dest → Did before parts after
  leaving before parts after t is leaves part =
      inr (record { leaves = subst (λ (x : DestState M). LeavesServer before.dest x) (sym is) leaves; part = part })

  by_work : (worker : ℕ) (before : RunWorld M) (parts : Parts) (after : RunWorld M) → DestDoes m (acts.Works worker) speakers.Dest None before parts after
      → Did before parts after
  by_work worker before parts after d =
      leaving before parts after d.dest (ap (λ (w : RunWorld M). w.dest) d.after_is)
      (work_leaves worker before.clock before.dest before.draws d.draws d.dest d.out d.acts) (inl (ap (λ (p : Parts). p.dest.took) d.parts_are))

  by_hears : AsksAlone M → (worker : ℕ) (bytes : List ℕ) (before : RunWorld M) (parts : Parts) (after : RunWorld M)
      → DestDoes m (acts.Hears worker bytes) speakers.Worker (Some bytes) before parts after → Did before parts after
  by_hears alone worker bytes before parts after d =
      leaving before parts after d.dest (ap (λ (w : RunWorld M). w.dest) d.after_is)
      (hears_leaves (is_worker worker) worker bytes before.clock before.dest d.dest d.out d.acts.0.0)
      (inr (
        ap (λ (p : Parts). p.dest.speaker) d.parts_are,
        subst AreCalls (sym (ap (λ (p : Parts). p.dest.out.sent) d.parts_are))
            (hears_calls alone (is_worker worker) worker bytes before.clock before.dest d.dest d.out d.acts.0.0),
      ))

  by_source : (act : SourceAct) (took : Option (List ℕ)) (before : RunWorld M) (parts : Parts) (after : RunWorld M)
      → SourceDoes m act took before parts after → Did before parts after
  by_source act took before parts after d =
      leaving before parts after before.dest (ap (λ (w : RunWorld M). w.dest) d.after_is) (leaves_none before.dest) (inl (ap (λ (p : Parts). p.dest.took) d.parts_are))

  by_client : (act : ClientAct) (took : Option (List ℕ)) (before : RunWorld M) (parts : Parts) (after : RunWorld M)
      → ClientDoes m act took before parts after → Did before parts after
  by_client act took before parts after d =
      leaving before parts after before.dest (ap (λ (w : RunWorld M). w.dest) d.after_is) (leaves_none before.dest) (inl (ap (λ (p : Parts). p.dest.took) d.parts_are))

  by_none : (before : RunWorld M) (parts : Parts) (after : RunWorld M) → AllRest m before parts after → Did before parts after
  by_none before parts after d =
      leaving before parts after before.dest (ap (λ (w : RunWorld M). w.dest) d.1) (leaves_none before.dest) (inl (ap (λ (p : Parts). p.dest.took) d.0))

  arrives : AsksAlone M → (port : Option Port) (bytes : List ℕ) (before : RunWorld M) (parts : Parts) (after : RunWorld M) → Arrives m port bytes before parts after
      → Did before parts after
  arrives alone None bytes before parts after d = by_none before parts after d
  arrives alone (Some (ports.Source conn)) bytes before parts after d = by_source (acts.SourceTakes conn bytes) (Some bytes) before parts after d
  arrives alone (Some ports.Dest) bytes before parts after d = by_takes 0 bytes before parts after d
  arrives alone (Some (ports.Worker worker)) bytes before parts after d = by_hears alone worker bytes before parts after d
  arrives alone (Some (ports.Client from)) bytes before parts after d = by_client (acts.ClientTakes from bytes) (Some bytes) before parts after d

  -- where a record is delivered the list of records has it marked, and all else is as it was
  unmarked : (number : ℕ) (before : RunWorld M) (parts : Parts) (after : RunWorld M) → Did (record before { log = marked number before.log }) parts after
      → Did before parts after
  unmarked number before parts after (inl t) =
      inl (record { conn = t.conn; bytes = t.bytes; draws = t.draws; out = t.out; goes = t.goes; part = t.part })
  unmarked number before parts after (inr r) = inr (record { leaves = r.leaves; part = r.part })

  delivered : AsksAlone M → (number : ℕ) (o : Option Posted) (before : RunWorld M) (parts : Parts) (after : RunWorld M) → IsDelivered m number o before parts after
      → Did before parts after
  delivered alone number None before parts after d = by_none before parts after d
  delivered alone number (Some r) before parts after d =
      unmarked number before parts after (arrives alone r.port r.bytes (record before { log = marked number before.log }) parts after d)

  ticks : (seconds : ℕ) (before : RunWorld M) (parts : Parts) (after : RunWorld M) → AllTick m seconds before parts after → Did before parts after
  ticks seconds before parts after d =
      leaving before parts after d.dest (ap (λ (w : RunWorld M). w.dest) d.after_is)
      (tick_leaves (before.clock + seconds) before.dest before.draws before.draws d.dest d.dest_out d.dest_ticks) (inl (ap (λ (p : Parts). p.dest.took) d.parts_are))

  commanded : (o : Option ClientAct) (before : RunWorld M) (parts : Parts) (after : RunWorld M) → IsCommanded m o before parts after → Did before parts after
  commanded None before parts after d = absurd d
  commanded (Some act) before parts after d = by_client act None before parts after d

  pub small_did : AsksAlone M → (event : Event) (before : RunWorld M) (parts : Parts) (after : RunWorld M) → IsSmall m event before parts after → Did before parts after
  small_did alone (events.Deliver number) before parts after d = delivered alone number (posted_at number before.log) before parts after d
  small_did alone (events.Work worker) before parts after d = by_work worker before parts after d
  small_did alone (events.Tick seconds) before parts after d = ticks seconds before parts after d
  small_did alone (events.Peek side file off len) before parts after d = by_none before parts after d
  small_did alone (events.CrashAfter side calls pick) before parts after d = by_none before parts after d
  small_did alone event before parts after d = commanded (command_of event) before parts after d
