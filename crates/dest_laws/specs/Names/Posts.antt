-- What a destination's callbacks tell that await their answers, and what goes out by them. Own definitions.
use Rattle.std.specs.Prelude.{◌≡◌, ℕ, ◌<◌, ◌^◌, List, true, length, None, Option, Some}
use Rattle.std.specs.List.{AllByRecursion}
use Rattle.copy_model.specs.Marks.{is_committed}
use Rattle.copy_ops.specs.declared.callback.OffloadEnd.TheVariants.{Failed}
use Rattle.dest_back.specs.Callbacks.{CallbackTable, post_at}
use Rattle.dest_back.specs.Telling.{sealed_callback}
use Rattle.dest_back.specs.declared.callbacks.Awaiting.{Awaiting}
use Rattle.dest_back.specs.declared.callbacks.Post.{Post}
use Rattle.dest_back.specs.declared.compound.Ended.{Ended}
use Rattle.dest_back.specs.declared.telling.Sent.{Sent}
use Rattle.dest_laws.specs.Names.Causes.{Fails}
use Rattle.dest_steps.specs.Copier.{Around}
use Rattle.dest_steps.specs.Telling.{ended_of, safe_end}
use Rattle.dest_work.specs.declared.finding.Finding.{Finding}
use Rattle.dest_work.specs.declared.finding.Finding.TheVariants as findings
use Rattle.gss_ctx.specs.Calls.{Side}
use Rattle.gss_ctx.specs.Seals.{Mic}
use Rattle.job_book.specs.Book.{named}
use Rattle.job_table.specs.Table.{JobTable}
use Rattle.job_table.specs.declared.job.Job.{Job}
use Rattle.mount.specs.State.{context_of}
use Rattle.mount.specs.declared.state.Context.{Context}
use Rattle.nfs_base.specs.declared.job.JobName.{JobName}
use Rattle.nfs_base.specs.declared.seal.End.TheVariants.{Client}
use Rattle.nfs_base.specs.declared.seal.Seal.{Seal}
use Rattle.nfs_base.specs.declared.status.Status.{Status}
use Rattle.outbox.specs.declared.outgoing.Outgoing.{Outgoing}
use Rattle.outbox.specs.declared.outgoing.To.TheVariants.{Conn, Server, Source}
use Rattle.outbox.specs.declared.outgoing.To.{To}
use Rattle.sess_slots.specs.Begins.{back_at}
use Rattle.sess_slots.specs.Table.{SessionTable}
use Rattle.sess_slots.specs.declared.answers.Back.{Back}
use Rattle.session_calls.specs.declared.slot_call.SlotUse.{SlotUse}

-- a callback that awaits its answer tells this
pub record IsAwaited (c : CallbackTable) (told : Ended) : Type 0 where
  pub seat : ℕ
  pub post : Post
  pub awaiting : Awaiting
  pub there : post_at c seat ≡ Some post
  pub awaits : post.awaiting ≡ Some awaiting
  pub told_is : awaiting.told ≡ told

-- all that is told so is right
abbrev pub TellRight : (Ended → Type 0) → CallbackTable → Type 0
TellRight right c = (told : Ended) → IsAwaited c told → right told

-- a handle of a context has eight bytes: of each line, and of each back channel
abbrev pub LinesFit : CallbackTable → Type 0
LinesFit c = AllByRecursion (λ line. length line.caller.handle ≡ 8) c.lines

abbrev pub BackFits : Option Back → Type 0
BackFits None = Unit {0}
BackFits (Some back) = length back.handle ≡ 8

abbrev pub SessionsFit : SessionTable → Type 0
SessionsFit sessions = AllByRecursion (λ s. BackFits s.back) sessions.sessions

abbrev pub BacksFit : SessionTable → Type 0
BacksFit sessions = (session : ℕ) (back : Back) → back_at sessions session ≡ Some back → length back.handle ≡ 8

-- bytes that go out are a callback that tells what is right
pub record SaysRight (mic : Mic) (right : Ended → Type 0) (bytes : List ℕ) : Type 0 where
  pub side : Side
  pub xid : ℕ
  pub program : ℕ
  pub slot : SlotUse
  pub told : Ended
  pub is : bytes ≡ (sealed_callback mic side xid program slot told).bytes
  pub handle : length side.handle ≡ 8
  pub small : xid < 2 ^ 32
  pub session : length slot.session ≡ 16
  pub right_is : right told

-- What goes out and what is left of the callbacks, all of which tells what is right.
pub record Goes (mic : Mic) (right : Ended → Type 0) (outcome : Option Sent × CallbackTable) : Type 0 where
  pub tells : TellRight right outcome.1
  pub fit : LinesFit outcome.1
  pub sent : (call : Sent) → outcome.0 ≡ Some call → SaysRight mic right call.bytes

-- what is left of the callbacks tells what is right
pub record AreRight (right : Ended → Type 0) (c : CallbackTable) : Type 0 where
  pub tells : TellRight right c
  pub fit : LinesFit c

-- what goes out on a connection is this, and elsewhere that
abbrev pub IfConn : To → Type 0 → Type 0 → Type 0
IfConn (Conn conn) P Q = P
IfConn (Source worker) P Q = Q
IfConn (Server end) P Q = Q

-- it isn't sealed for the client
abbrev pub IsNotClients : Option Seal → Type 0
IsNotClients sealed = (seal : Seal) → sealed ≡ Some seal → seal.owner ≡ Client → ⊥

-- none of these contexts of a mount is the client's
abbrev pub IsNotHis : Context → Type 0
IsNotHis c = c.caller.owner ≡ Client → ⊥

abbrev pub AreNotClients : List Context → Type 0
AreNotClients contexts = (name : ℕ) (c : Context) → context_of name contexts ≡ Some c → IsNotHis c

-- a callback that tells what is right, or a call to the source
abbrev pub GoesRight : Mic → (Ended → Type 0) → Outgoing → Type 0
GoesRight mic right out = IfConn out.to (SaysRight mic right out.bytes) (IsNotClients out.seal)

abbrev pub GoRight : Mic → (Ended → Type 0) → List Outgoing → Type 0
GoRight mic right sent = AllByRecursion (GoesRight mic right) sent

-- ---- what may be told of a job that is there: that it was stopped, and where it is committed, that all of it is safe

-- every stop that an answer of the source brings about
abbrev pub FindFailures : Finding → Type 0
FindFailures (findings.Stops cause) = Fails cause
FindFailures _ = Unit {0}

abbrev pub CanStop : Around → (Ended → Type 0) → JobTable → Type 0
CanStop around right t = (name : JobName) (job : Job) (status : Status) (count : ℕ) → named t name ≡ Some job → status.number < 2 ^ 32
    → right (ended_of around name job (Failed status count))

abbrev pub CanCommit : Around → (Ended → Type 0) → JobName → Type 0
CanCommit around right name = (job : Job) (count : ℕ) → right (ended_of around name job (safe_end around.boot count))

-- the job is there and committed
pub record IsCommitted (t : JobTable) (name : JobName) : Type 0 where
  pub job : Job
  pub there : named t name ≡ Some job
  pub committed : is_committed job.log.entries ≡ true
