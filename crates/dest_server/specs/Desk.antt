-- A destination as connections call it: each call is one step of it. Own definitions.
use Rattle.std.specs.Prelude.{◌≡◌, ℕ, ◌-◌, ◌≤◌, List, [], Option, Some}
use Rattle.block_file.specs.Opened.{Opened, MayBeLeft, homes_by}
use Rattle.block_file.specs.Stored.{reopened, tag_of}
use Rattle.copy_privs.specs.declared.peer.Peer.{Peer}
use Rattle.core_desk.specs.Core.{DeskState}
use Rattle.dest_core.specs.Core.{IsNew}
use Rattle.dest_core.specs.Landing.{landed_by}
use Rattle.dest_core.specs.Stepping.{failure_step, tick_step, IsRecord, IsReply, IsWork}
use Rattle.dest_core.specs.declared.destination.Destination.{Destination}
use Rattle.dest_jobs.specs.declared.carried.Carried.{Carried}
use Rattle.disk_model.specs.Disk.{Image, MayLeave}
use Rattle.disk_model.specs.Elapsed.{contents, present}
use Rattle.gss_ctx.specs.Seals.{Mic}
use Rattle.gss_mech.specs.declared.mechanism.Accepted.{Accepted}
use Rattle.link_server.specs.Answering.{AnswersAt, Caller}
use Rattle.nfs_base.specs.declared.net_loc.NetLoc.{NetLoc}
use Rattle.outbox.specs.declared.outgoing.Outbox.{Outbox}
use Rattle.server_volume.specs.Moments.{Counted}
use Rattle.server_volume.specs.Store.{Seat}
use Rattle.session_server.specs.Host.{host_of, stepped_of}
use Rattle.session_server.specs.declared.host.Host.{Host}
use Rattle.source_server.specs.Serving.{ServerWords}
use Rattle.streams.specs.declared.draws.Drawn.{Drawn}
use Rattle.volume_format.specs.DiskWords.{DiskWords}
use Rattle.callback_server.specs.Replies.{reply_to}
use Rattle.dest_server.specs.Coming.{Comes, ComesFrom, CoreWords, core_words}

-- A desk, and the total of the book of connections' calls.
pub record DeskCount (K W : Type 0) : Type 0 where
  pub desk : DeskState K W
  pub booked : ℕ

-- What is so of it whenever its lock is free: connections made no more calls than the machine made steps, and the machine has come to its
-- state by steps since the server began.
pub record IsCounted {K W : Type 0} (c : CoreWords K W) (steps : K → ℕ) (origin : Option K) (core : K) (booked : ℕ) : Type 0 where
  pub few : booked ≤ steps core
  pub came : ComesFrom c origin core

-- A record that came on a connection was answered by one step of the machine, in some second. The reply is the first of the records
-- for that connection.
pub record Steps {K W : Type 0} (takes : (conn : ℕ) → List ℕ → (now : ℕ) → W → W → K → Outbox → K → Type 0) (conn : ℕ) (message : List ℕ)
    (before : DeskState K W) (reply : List ℕ) (after : DeskState K W) : Type 0 where
  pub now : ℕ
  pub told : Outbox
  pub step : takes conn message now before.draws after.draws before.core told after.core
  pub replies : reply ≡ reply_to conn told.sent

-- What is known of the desk by which it was answered: its book of landed bytes has what the machine's jobs landed, and the machine had come to
-- its state by steps.
pub record IsKnown {K W : Type 0} (c : CoreWords K W) (landed : K → ℕ) (origin : Option K) (d : DeskState K W) : Type 0 where
  pub booked : d.landed ≡ landed d.core
  pub came : ComesFrom c origin d.core

-- What a connection gets for a record: the answer of a step from such a state of the desk.
abbrev pub desk_answers : {K W : Type 0} → CoreWords K W → (landed steps : K → ℕ) → (origin : Option K)
    → Caller → List ℕ → List ℕ → Caller → Type 0
desk_answers {K = K} {W = W} c landed steps origin =
    AnswersAt {K = DeskState K W} (λ d. steps d.core) (Steps c.takes_record) (λ before after. after.core ≡ before.core) (IsKnown c landed origin)

-- ---- a destination over a disk

-- The words in which a destination's disk, mechanism and draws speak of themselves.
pub record Words (D M W : Type 0) : Type 1 where
  pub told : Type 0
  pub size : D → ℕ
  pub seat : Opened D → Seat
  pub mic : Mic
  pub derived : List ℕ → ℕ → List ℕ → List ℕ
  pub started : M → List ℕ → List ℕ → Option (List ℕ)
  pub accepted : M → List ℕ → List ℕ → Option Accepted
  pub finished : M → List ℕ → List ℕ → List ℕ → Option (List ℕ)
  pub gives : W → Drawn → W → Type 0

abbrev pub words_of : {D M W : Type 0} → Type 0 → (D → ℕ) → (Opened D → Seat) → Mic → (List ℕ → ℕ → List ℕ → List ℕ)
    → (M → List ℕ → List ℕ → Option (List ℕ)) → (M → List ℕ → List ℕ → Option Accepted) → (M → List ℕ → List ℕ → List ℕ → Option (List ℕ))
    → (W → Drawn → W → Type 0) → Words D M W
words_of told size seat mic derived started accepted finished gives = record {
  told = told;
  size = size;
  seat = seat;
  mic = mic;
  derived = derived;
  started = started;
  accepted = accepted;
  finished = finished;
  gives = gives;
}

-- Its steps. Where the disk tells what it holds, each is the one that the destination's definition says; of any disk its calls are noted, and
-- each failure was counted.
abbrev pub dest_moves : {D M W : Type 0} → Words D M W → CoreWords (Host D (Destination M) Carried) W
dest_moves w = core_words
    (λ conn message now before after old out new.
    (w.told → IsRecord (record { mic = w.mic; derived = w.derived }) (w.accepted old.server.files.extra.mech) w.gives conn message now
    (host_of w.size old) before after (stepped_of w.size new out))
    × Counted w.told (w.seat old.server.files.volume) (w.seat new.server.files.volume) [] out.used)
    (λ now old out new. stepped_of w.size new out ≡ tick_step (record { mic = w.mic; derived = w.derived }) now (host_of w.size old))
    (λ worker now before after old out new.
    (w.told → IsWork w.gives (w.started old.server.files.extra.mech) (record { mic = w.mic; derived = w.derived }) (worker - 1) now
    (host_of w.size old) before after (stepped_of w.size new out))
    × Counted w.told (w.seat old.server.files.volume) (w.seat new.server.files.volume) [] out.used)
    (λ worker message now old out new.
    (w.told → IsReply (record { mic = w.mic; derived = w.derived }) (w.finished old.server.files.extra.mech old.server.files.extra.copier.principal)
    (worker - 1) message now (host_of w.size old) (stepped_of w.size new out))
    × Counted w.told (w.seat old.server.files.volume) (w.seat new.server.files.volume) [] out.used)
    (λ worker old out new. stepped_of w.size new out ≡ failure_step (record { mic = w.mic; derived = w.derived }) (worker - 1) (host_of w.size old))

-- A destination with which a server begins: nobody has called it, nothing is copied, it copies from this source, as this principal, and is found
-- there; and its volume is the one that the disk holds, opened, where the disk tells.
pub record Opens {D M : Type 0} (d : DiskWords D) (mech : M) (source : Peer) (principal : List ℕ) (own : NetLoc) (disk : D)
    (first : Host D (Destination M) Carried) : Type 0 where
  pub new : IsNew mech source principal own first
  pub size : d.size first.server.files.volume.disk ≡ d.size disk
  pub volume : d.told → first.server.files.volume.volume ≡ reopened (contents (d.timeline disk))
  pub tag : d.told → first.server.files.volume.tag ≡ tag_of (contents (d.timeline disk))

-- The disk that a destination hands back: whatever a crash may leave of it is what may be left of the destination's volume.
pub record Hands {D M : Type 0} (d : DiskWords D) (last : Host D (Destination M) Carried) (disk : D) : Type 0 where
  pub is : disk ≡ last.server.files.volume.disk
  pub left : d.told → (image : Image) → MayLeave (present (d.timeline disk)) image
      → MayBeLeft (d.size disk) last.server.files.volume.tag (homes_by last.server.files.volume.homes) last.server.files.volume.volume image

-- A destination, served: each answer is that of a step of it, from a state to which it came by steps from the one in which it was opened.
abbrev pub dest_words : {D M W : Type 0} → DiskWords D → Words D M W → M → Peer → (principal : List ℕ) → NetLoc
    → ServerWords D (Host D (Destination M) Carried)
dest_words {D = D} {M = M} {W = W} d w mech source principal own = record {
  opens = Opens d mech source principal own;
  answers = λ first. desk_answers {K = Host D (Destination M) Carried} {W = W} (dest_moves w) landed_by (λ core. core.steps) (Some first);
  comes = Comes {K = Host D (Destination M) Carried} {W = W} (dest_moves w);
  hands = Hands d;
}
