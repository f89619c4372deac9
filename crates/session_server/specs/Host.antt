-- A server with its contexts, as plain data, and what a step of it gives.
use Rattle.std.specs.Prelude.{◌≡◌, ℕ, ◌*◌, ◌≤◌, List, Option}
use Rattle.copy_ops.specs.declared.arg.CopyArg.{CopyArg}
use Rattle.file_server.specs.declared.extension.Ask.{Ask}
use Rattle.file_server.specs.declared.extension.Caller.{Caller}
use Rattle.file_server.specs.declared.extension.Gate.{Gate}
use Rattle.file_server.specs.Machine.{Going}
use Rattle.gss_ctx.specs.Seals.{Mic}
use Rattle.gss_ctx.specs.Table.{ContextTable}
use Rattle.nfs_base.specs.declared.limits.TheConstants.{MOST_OPERATIONS}
use Rattle.outbox.specs.declared.note.Note.{Note}
use Rattle.outbox.specs.declared.outgoing.Outbox.{Outbox}
use Rattle.server_volume.specs.Choices.{Choice}
use Rattle.sess_slots.specs.Table.{numbers_made}
use Rattle.compound_server.specs.declared.client_end.ClientEnd.{ClientEnd}
use Rattle.compound_server.specs.Course.{Service}
use Rattle.compound_server.specs.Serves.{Served}
use Rattle.compound_server.specs.State.{State, Parting, state_of}
use Rattle.session_server.specs.declared.extending.Judgement.{Judgement}
use Rattle.session_server.specs.declared.host.Host.{Host}

-- the contexts, the files with the clients, the greatest second, and how many steps were made
pub record HostState (X C : Type 0) : Type 0 where
  pub contexts : ContextTable C
  pub state : State X
  pub second : ℕ
  pub steps : ℕ

abbrev pub host_of : {D X C : Type 0} → (D → ℕ) → Host D X C → HostState X C
host_of size h = record { contexts = h.contexts; state = state_of size h.server; second = h.second; steps = h.steps }

-- what a step leaves, and what it gives
pub record Stepped (X C : Type 0) : Type 0 where
  pub host : HostState X C
  pub out : Outbox

-- What a particular server adds: its operations; what clients' ends and seconds do to what it has; what it says of a
-- privilege in a second, by the calling context's number and the privilege's name; and what it tells of a step.
pub record Rules (X C : Type 0) : Type 1 where
  pub service : Service X C
  pub parting : Parting X
  pub judge : ℕ → ContextTable C → ℕ → List ℕ → List ℕ → X → Judgement C
  pub tells : X → List Note
  pub silent : X → X

-- how codes are made, and keys derived
pub record Codes : Type 0 where
  pub mic : Mic
  pub derived : List ℕ → ℕ → List ℕ → List ℕ

-- how many numbers were given out at most, in so many steps
pub record IsCountedBy {D X C : Type 0} (given : X → ℕ) (steps : ℕ) (h : Host D X C) : Type 0 where
  pub contexts : h.contexts.made ≤ steps
  pub opens : h.server.files.opens.made ≤ MOST_OPERATIONS * steps
  pub own : given h.server.files.extra ≤ MOST_OPERATIONS * steps
  pub clients : numbers_made h.server.sessions ≤ steps

-- in those that were made
abbrev pub IsCounted : {D X C : Type 0} → (X → ℕ) → Host D X C → Type 0
IsCounted given h = IsCountedBy given h.steps h

-- A step of the server's own lands no byte of a copy, and leaves no more untold.
pub record KeepsOwn {D X C : Type 0} (lands owes : X → ℕ) (old new : Host D X C) : Type 0 where
  pub landed : lands new.server.files.extra ≡ lands old.server.files.extra
  pub untold : owes new.server.files.extra ≤ owes old.server.files.extra

abbrev pub rules_of : {X C : Type 0} → (X → Caller → Option C → Ask → X × Gate) → (Choice → Caller → Option C → CopyArg → Going X → Served X)
    → (ℕ → ClientEnd → X → X) → (ℕ → X → X) → (ℕ → ContextTable C → ℕ → List ℕ → List ℕ → X → Judgement C) → (X → List Note) → (X → X) → Rules X C
rules_of gate serve leave lapse judge tells silent = record {
  service = record { gate = gate; serve = serve };
  parting = record { leave = leave; lapse = lapse };
  judge = judge;
  tells = tells;
  silent = silent;
}

abbrev pub stepped_of : {D X C : Type 0} → (D → ℕ) → Host D X C → Outbox → Stepped X C
stepped_of size h out = record { host = host_of size h; out = out }
