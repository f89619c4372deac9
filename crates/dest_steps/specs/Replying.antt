-- What a record of the source does (RFC 7862 section 4.10.1.2). An answer for a job that doesn't run stops and sizes nothing.
use Rattle.std.specs.Prelude.{◌≡◌, ℕ, ◌&&◌, Bool, true, false, List, is_none, Option, Some, None, option_map, Result, Ok, Err}
use Rattle.dest_jobs.specs.Ending.{with_note}
use Rattle.dest_jobs.specs.Progress.{sized_with}
use Rattle.dest_tasks.specs.Seats.{denied}
use Rattle.dest_tasks.specs.declared.post.Errand.{Errand}
use Rattle.dest_tasks.specs.declared.post.Errand.TheVariants as errands
use Rattle.dest_work.specs.Findings.{len_of}
use Rattle.dest_work.specs.Work.{settled, taken, with_mount}
use Rattle.dest_work.specs.declared.finding.Finding.{Finding}
use Rattle.dest_work.specs.declared.finding.Finding.TheVariants as findings
use Rattle.dest_work.specs.declared.work.Taken.{Taken}
use Rattle.job_book.specs.Book.{id_of, named}
use Rattle.job_book.specs.Working.{size_in}
use Rattle.job_table.specs.Table.{is_running}
use Rattle.job_table.specs.declared.job.Job.{Job}
use Rattle.mount.specs.State.{Mounted}
use Rattle.mount.specs.Taking.{taken_at}
use Rattle.nfs_base.specs.declared.job.JobName.{JobName}
use Rattle.nfs_base.specs.declared.job.Stop.{Stop}
use Rattle.outbox.specs.declared.note.Dropped.{Dropped}
use Rattle.outbox.specs.declared.note.Dropped.TheVariants.{Unmatched, Unread}
use Rattle.outbox.specs.declared.note.Note.TheVariants as notes
use Rattle.rpc_msg.specs.Heads.{call, reply}
use Rattle.rpc_msg.specs.Messages.{head_told}
use Rattle.rpc_msg.specs.declared.messages.RpcFault.{RpcFault}
use Rattle.rpc_msg.specs.declared.messages.RpcFault.TheVariants.{BadXdr, OtherKind}
use Rattle.rpc_msg.specs.declared.numbers.TheConstants.{CALL, REPLY}
use Rattle.server_volume.specs.Choices.{Choice}
use Rattle.dest_steps.specs.Copier.{Around, Codes}
use Rattle.dest_steps.specs.Landing.{Doing, Done, landed, still, stopped, with_copier}
use Rattle.dest_steps.specs.Telling.{stop_telling}
use Rattle.dest_steps.specs.Turning.{landing_for}
use Rattle.dest_steps.specs.declared.copier.Copier.{Copier}
use Rattle.dest_steps.specs.declared.replying.Effect.{Effect}
use Rattle.dest_steps.specs.declared.replying.Effect.TheVariants as effects
use Rattle.dest_steps.specs.declared.replying.Heard.{Heard}

-- ---- a record without a head of a call or a reply that can be read is dropped as such

abbrev pub is_ok : {A B : Type 0} → Result A B → Bool
is_ok (Ok a) = true
is_ok (Err b) = false

abbrev pub reads : {A B : Type 0} → Result A RpcFault → Result B RpcFault → Bool
reads (Ok head) other = true
reads (Err (OtherKind found)) other = is_ok other
reads (Err (BadXdr at)) other = false

unfoldable pub is_read : (message : List ℕ) → Bool
is_read message = reads (head_told call REPLY message) (head_told reply CALL message)

-- ---- what is due by what the answer is for the job; the mount is told to it afterwards

abbrev pub stop_effect : (running : Bool) → Codes → Around → JobName → Stop → Mounted → Copier → Effect
stop_effect true codes around job cause m x = effects.Stops job cause (stop_telling codes around job cause x) m
stop_effect false codes around job cause m x = effects.Goes m

abbrev pub stop_due : Codes → Around → JobName → Stop → Mounted → Copier → Effect
stop_due codes around job cause m x = stop_effect (is_running x.copies.book.table (id_of job)) codes around job cause m x

abbrev pub bytes_due : Codes → Around → JobName → Errand → (bytes : List ℕ) → Mounted → Copier → Effect
bytes_due codes around job errands.Setup bytes m x = effects.Goes m
bytes_due codes around job errands.Confirm bytes m x = effects.Goes m
bytes_due codes around job errands.Size bytes m x = effects.Goes m
bytes_due codes around job (errands.Bytes chunk) bytes m x = effects.Lands job chunk bytes (landing_for codes around job x) m

-- The length of a job is known that runs and has none. The room for its chunks is its own matter.
pub record IsSizing (len : ℕ) (name : JobName) (m : Mounted) (old : Copier) (effect : Effect) (new : Copier) : Type 0 where
  pub spare : ℕ
  pub is : new ≡ record old { copies = sized_with spare len name old.copies }
  pub effect_is : effect ≡ effects.Goes m

pub record IsStill (old new : Copier) (effect due : Effect) : Type 0 where
  pub still : new ≡ old
  pub is : effect ≡ due

-- the length that the size of the source's file gives a job that is there, or why it is stopped
abbrev pub len_for : (capacity size : ℕ) → Option Job → Option (Result ℕ Stop)
len_for capacity size job = option_map (λ job. len_of job.plan capacity size) job

abbrev pub IsSizedBy : Codes → Around → JobName → Mounted → Option (Result ℕ Stop) → Copier → Effect → Copier → Type 0
IsSizedBy codes around job m None old effect new = IsStill old new effect (effects.Goes m)
IsSizedBy codes around job m (Some (Err cause)) old effect new = IsStill old new effect (stop_due codes around job cause m old)
IsSizedBy codes around job m (Some (Ok len)) old effect new = IsSizing len job m old effect new

abbrev pub may_size : JobName → Copier → Bool
may_size job x = is_running x.copies.book.table (id_of job) && is_none (size_in (named x.copies.book.table job))

abbrev pub IsSizedIf : (may : Bool) → Codes → Around → JobName → (size : ℕ) → Mounted → Copier → Effect → Copier → Type 0
IsSizedIf false codes around job size m old effect new = IsStill old new effect (effects.Goes m)
IsSizedIf true codes around job size m old effect new =
    IsSizedBy codes around job m (len_for old.copies.book.table.capacity size (named old.copies.book.table job)) old effect new

abbrev pub IsFound : Codes → Around → JobName → Errand → Finding → Mounted → Copier → Effect → Copier → Type 0
IsFound codes around job errand findings.Unmatched m old effect new = IsStill old new effect (effects.Drops Unmatched)
IsFound codes around job errand findings.GoesOn m old effect new = IsStill old new effect (effects.Goes m)
IsFound codes around job errand findings.FirstDenial m old effect new = IsStill old new effect (effects.Denied job m)
IsFound codes around job errand (findings.Stops cause) m old effect new = IsStill old new effect (stop_due codes around job cause m old)
IsFound codes around job errand (findings.HasSize size) m old effect new = IsSizedIf (may_size job old) codes around job size m old effect new
IsFound codes around job errand (findings.Brings bytes) m old effect new = IsStill old new effect (bytes_due codes around job errand bytes m old)

-- with the seal under which it was accepted
pub record IsHeardAs (codes : Codes) (around : Around) (t : Taken) (old : Copier) (heard : Heard) (new : Copier) : Type 0 where
  pub effect : IsFound codes around t.job t.errand t.finding t.mount old heard.effect new
  pub accepted : heard.accepted ≡ t.accepted

pub record IsDropped (why : Dropped) (old : Copier) (heard : Heard) (new : Copier) : Type 0 where
  pub still : new ≡ old
  pub is : heard ≡ record { effect = effects.Drops why; accepted = None }

abbrev pub IsHeardBy : Codes → Around → Option Taken → Copier → Heard → Copier → Type 0
IsHeardBy codes around None old heard new = IsDropped Unmatched old heard new
IsHeardBy codes around (Some t) old heard new = IsHeardAs codes around t old heard new

abbrev pub IsHeardIf : (read : Bool) → Codes → Around → Option Taken → Copier → Heard → Copier → Type 0
IsHeardIf false codes around t old heard new = IsDropped Unread old heard new
IsHeardIf true codes around t old heard new = IsHeardBy codes around t old heard new

abbrev pub taken_of : Codes → (finished : List ℕ → List ℕ → Option (List ℕ)) → (place : ℕ) → (message : List ℕ) → Copier → Option Taken
taken_of codes finished place message x =
    taken place x.copies.book.table x.work (taken_at (record { mic = codes.mic; derived = codes.derived; finished = finished }) place message x.work.mount)

abbrev pub IsHeard : Codes → (finished : List ℕ → List ℕ → Option (List ℕ)) → Around → (place : ℕ) → (message : List ℕ) → Copier → Heard → Copier → Type 0
IsHeard codes finished around place message old heard new =
    IsHeardIf (is_read message) codes around (taken_of codes finished place message old) old heard new

-- ---- it is done

abbrev pub dropped : Dropped → Copier → Copier
dropped why x = record x { copies = with_note (notes.Dropped why) x.copies }

abbrev pub mounted : Mounted → Copier → Copier
mounted m x = record x { work = settled (with_mount m x.work) }

abbrev pub with_denial : JobName → Mounted → Copier → Copier
with_denial job m x = let y = mounted m x in record y { work = record y.work { seats = denied job.number y.work.seats } }

abbrev pub effect_done : Choice → (place : ℕ) → Effect → Doing → Done
effect_done choice place (effects.Drops why) d = still (with_copier (dropped why d.copier) d)
effect_done choice place (effects.Goes m) d = still (with_copier (mounted m d.copier) d)
effect_done choice place (effects.Denied job m) d = still (with_copier (with_denial job m d.copier) d)
effect_done choice place (effects.Stops job cause told m) d = stopped job cause told (with_copier (mounted m d.copier) d)
effect_done choice place (effects.Lands job chunk bytes told m) d =
    landed choice place job chunk bytes told (with_copier (mounted m d.copier) d)
