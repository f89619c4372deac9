-- What is due in a worker's turn, once the jobs of clients without a lease are left out: a call that goes out, or what is to be
-- done on the volume (RFC 7862 sections 4.2 and 4.10.1.2; workers are own).
use Rattle.std.specs.Prelude.{◌≡◌, ℕ, Bool, true, false, nat_le, List, length, Option, Some, None}
use Rattle.dest_tasks.specs.Posts.{job_in, post_at}
use Rattle.dest_work.specs.Work.{Turn, begun_for, turn}
use Rattle.dest_work.specs.declared.work.Due.{Due}
use Rattle.dest_work.specs.declared.work.Due.TheVariants as dues
use Rattle.dest_work.specs.declared.work.Work.{Work}
use Rattle.job_table.specs.Table.{is_running}
use Rattle.job_book.specs.Book.{id_of}
use Rattle.mount.specs.Sending.{begun}
use Rattle.mount.specs.State.{setup_in}
use Rattle.mount.specs.declared.machine.SendAt.{SendAt}
use Rattle.mount.specs.declared.machine.Sent.{Sent}
use Rattle.nfs_base.specs.declared.job.JobName.{JobName}
use Rattle.nfs_base.specs.declared.job.Stop.TheVariants.{DiskFault, SourceRefused, Worn}
use Rattle.nfs_base.specs.declared.limits.TheConstants.{NAME_LIMIT}
use Rattle.nfs_base.specs.declared.status.TheConstants.Status.{PARTNER_NO_AUTH}
use Rattle.outbox.specs.declared.label.CallLabel.{CallLabel}
use Rattle.outbox.specs.declared.label.CallLabel.TheVariants as calls
use Rattle.session_client.specs.declared.setup.Setup.{Setup}
use Rattle.streams.specs.declared.draws.Drawn.{Drawn}
use Rattle.streams.specs.declared.draws.Drawn.TheVariants as draws
use Rattle.dest_steps.specs.Calls.{errand_label, workers_call}
use Rattle.dest_steps.specs.Copier.{Around, Codes, xid_of}
use Rattle.dest_steps.specs.Telling.{commit_telling, stop_telling}
use Rattle.dest_steps.specs.declared.copier.Copier.{Copier}
use Rattle.dest_steps.specs.declared.landing.Landing.{Landing}
use Rattle.dest_steps.specs.declared.turning.Committing.{Committing}
use Rattle.dest_steps.specs.declared.turning.Turn.{Turn as Due_turn}
use Rattle.dest_steps.specs.declared.turning.Turn.TheVariants as turns

-- ---- what is told if the volume fails: of a chunk that is to land, where the job runs, and of a commit

abbrev pub landing_if : (running : Bool) → Codes → Around → JobName → Copier → Option Landing
landing_if true codes around job x = Some (record { fault = stop_telling codes around job DiskFault x; worn = stop_telling codes around job Worn x })
landing_if false codes around job x = None

abbrev pub landing_for : Codes → Around → JobName → Copier → Option Landing
landing_for codes around job x = landing_if (is_running x.copies.book.table (id_of job)) codes around job x

abbrev pub held_landing : Codes → Around → Option JobName → Copier → Option Landing
held_landing codes around None x = None
held_landing codes around (Some job) x = landing_for codes around job x

abbrev pub committing : Codes → Around → JobName → Copier → Committing
committing codes around job x = record { done = commit_telling codes around job x; fault = stop_telling codes around job DiskFault x }

-- ---- what is due, but for an INIT that wants a nonce

abbrev pub asked_turn : (place : ℕ) → CallLabel → Sent → Due_turn
asked_turn place label sent = turns.Sent (workers_call place label sent)

abbrev pub stopping_turn : Codes → Around → JobName → Copier → Due_turn
stopping_turn codes around job x =
    turns.Stops job (SourceRefused PARTNER_NO_AUTH) (stop_telling codes around job (SourceRefused PARTNER_NO_AUTH) x)

abbrev pub due_turn : Codes → Around → (place : ℕ) → Setup → Due → Copier → Due_turn
due_turn codes around place setup dues.Rest x = turns.Rest
due_turn codes around place setup dues.Land x = turns.Lands (held_landing codes around (job_in (post_at x.work.workers place)) x)
due_turn codes around place setup (dues.Begin job) x = turns.Undrawn
due_turn codes around place setup (dues.Asked errand sent) x = asked_turn place (errand_label errand setup) sent
due_turn codes around place setup (dues.Commit job) x = turns.Commits job (committing codes around job x)

-- What is only to be done: no call went out by it, and no chunk was claimed.
abbrev pub is_quiet : Due → Bool
is_quiet dues.Rest = false
is_quiet dues.Land = true
is_quiet (dues.Begin job) = true
is_quiet (dues.Asked errand sent) = false
is_quiet (dues.Commit job) = true

-- ---- INIT with a nonce that is drawn. Where the principal isn't of the source's realm, the job is to be stopped.

abbrev pub begun_turn : Codes → Around → (place : ℕ) → JobName → Option Sent × Work → Copier → Due_turn × Copier
begun_turn codes around place job (None, w) x = (stopping_turn codes around job x, record x { work = w })
begun_turn codes around place job (Some sent, w) x = (asked_turn place calls.Init sent, record x { work = w })

abbrev pub drawn_turn : (started : List ℕ → List ℕ → Option (List ℕ)) → Codes → Around → SendAt → JobName → Drawn → Copier → Due_turn × Copier
drawn_turn started codes around at job draws.Failed x = (turns.Undrawn, x)
drawn_turn started codes around at job (draws.Got nonce) x =
    begun_turn codes around at.place job (begun_for at.place job (begun at nonce (started x.principal nonce) x.work.mount) x.work) x

pub record IsDrawn {W : Type 0} (gives : W → Drawn → W → Type 0) (started : List ℕ → List ℕ → Option (List ℕ)) (codes : Codes) (around : Around) (at : SendAt) (job : JobName) (x : Copier) (before after : W) (t : Due_turn × Copier) : Type 0 where
  pub drawn : Drawn
  pub drew : gives before drawn after
  pub is : t ≡ drawn_turn started codes around at job drawn x

-- ---- all of it

abbrev pub with_turn : Turn → Copier → Copier
with_turn t x = record x { copies = record x.copies { book = t.book }; work = t.told.1 }

pub record IsUndrawn {W : Type 0} (before after : W) (t due : Due_turn × Copier) : Type 0 where
  pub is : t ≡ due
  pub still : after ≡ before

abbrev pub IsDue : {W : Type 0} → (gives : W → Drawn → W → Type 0) → (started : List ℕ → List ℕ → Option (List ℕ)) → Codes → Around → SendAt → Setup → Due → Copier → (before after : W) → Due_turn × Copier → Type 0
IsDue gives started codes around at setup (dues.Begin job) x before after t = IsDrawn gives started codes around at job x before after t
IsDue gives started codes around at setup due x before after t = IsUndrawn before after t (due_turn codes around at.place setup due x, x)

abbrev pub send_at : Around → (place xid : ℕ) → SendAt
send_at around place xid = record { place = place; xid = xid; now = around.second }

abbrev pub IsTurned : {W : Type 0} → (gives : W → Drawn → W → Type 0) → (started : List ℕ → List ℕ → Option (List ℕ)) → Codes → Around → SendAt → Setup → Turn → Copier → (before after : W) → Due_turn × Copier → Type 0
IsTurned gives started codes around at setup due x before after t =
    IsDue gives started codes around at setup due.told.0 (with_turn due x) before after t

-- a turn by which nothing goes out: no call is left, or the principal's name is too long for one
abbrev pub IsTurn : {W : Type 0} → (short : Bool) → (xid : Option ℕ) → (gives : W → Drawn → W → Type 0) → (started : List ℕ → List ℕ → Option (List ℕ)) → Codes → Around → (place : ℕ) → Copier → (before after : W) → Due_turn × Copier → Type 0
IsTurn false xid gives started codes around place x before after t = IsUndrawn before after t (turns.Rest, x)
IsTurn true None gives started codes around place x before after t = IsUndrawn before after t (turns.Rest, x)
IsTurn true (Some xid) gives started codes around place x before after t =
    IsTurned gives started codes around (send_at around place xid) (setup_in x.work.mount.standing)
    (turn codes.mic (send_at around place xid) x.principal around.sessions x.work x.copies.book) x before after t

abbrev pub IsTurnOf : {W : Type 0} → (gives : W → Drawn → W → Type 0) → (started : List ℕ → List ℕ → Option (List ℕ)) → Codes → Around → (place : ℕ) → Copier → (before after : W) → Due_turn × Copier → Type 0
IsTurnOf gives started codes around place x before after t =
    IsTurn (nat_le (length x.principal) NAME_LIMIT) (xid_of x.work.mount x.back) gives started codes around place x before after t
