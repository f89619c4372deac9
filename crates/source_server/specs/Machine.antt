-- A source as connections call it: each call is one step of the source. Own definitions.
use Rattle.std.specs.Prelude.{◌≡◌, ℕ, List, [], ◌∷◌, Option, Some}
use Rattle.block_file.specs.Opened.{Opened, MayBeLeft, homes_by}
use Rattle.block_file.specs.Stored.{reopened, tag_of}
use Rattle.copy_privs.specs.declared.peer.Peer.{Peer}
use Rattle.disk_model.specs.Disk.{Image, MayLeave}
use Rattle.disk_model.specs.Elapsed.{contents, present}
use Rattle.gss_ctx.specs.Seals.{Mic}
use Rattle.gss_mech.specs.declared.mechanism.Accepted.{Accepted}
use Rattle.link_server.specs.Answering.{Answers}
use Rattle.link_server.specs.Reaching.{Reaches}
use Rattle.nfs_base.specs.declared.net_loc.NetLoc.{NetLoc}
use Rattle.outbox.specs.declared.outgoing.Outbox.{Outbox}
use Rattle.outbox.specs.declared.outgoing.Outgoing.{Outgoing}
use Rattle.server_volume.specs.Moments.{Counted}
use Rattle.server_volume.specs.Store.{Seat}
use Rattle.session_server.specs.Host.{host_of, stepped_of}
use Rattle.session_server.specs.Steps.{IsTurn}
use Rattle.source_core.specs.Core.{source_rules, IsNew}
use Rattle.streams.specs.declared.draws.Drawn.{Drawn}
use Rattle.volume_format.specs.DiskWords.{DiskWords}
use Rattle.source_server.specs.Serving.{ServerWords}
use Rattle.source_server.specs.declared.machine.SourceMachine.{SourceMachine}

-- The reply is the first record that is sent, and empty where none is.
abbrev pub reply_in : List Outgoing → List ℕ
reply_in [] = []
reply_in (one ∷ more) = one.bytes

-- The words in which a source's disk, mechanism and draws speak of themselves.
pub record Words (D M W : Type 0) : Type 1 where
  pub told : Type 0
  pub size : D → ℕ
  pub seat : Opened D → Seat
  pub mic : Mic
  pub derived : List ℕ → ℕ → List ℕ → List ℕ
  pub accepted : M → List ℕ → List ℕ → Option Accepted
  pub gives : W → Drawn → W → Type 0

abbrev pub words_of : {D M W : Type 0} → Type 0 → (D → ℕ) → (Opened D → Seat) → Mic → (List ℕ → ℕ → List ℕ → List ℕ)
    → (M → List ℕ → List ℕ → Option Accepted) → (W → Drawn → W → Type 0) → Words D M W
words_of told size seat mic derived accepted gives =
    record { told = told; size = size; seat = seat; mic = mic; derived = derived; accepted = accepted; gives = gives }

-- A record that came on a connection was answered by one step of the source, in some second. Where the disk tells what it holds,
-- the step is the one that the source's definition says; of any disk its calls are noted, and each failure was counted.
pub record Steps {D M C W : Type 0} (w : Words D M W) (conn : ℕ) (message : List ℕ) (before : SourceMachine D M C W) (reply : List ℕ)
    (after : SourceMachine D M C W) : Type 0 where
  pub now : ℕ
  pub out : Outbox
  pub turn : w.told → IsTurn (source_rules w.mic) (record { mic = w.mic; derived = w.derived }) (w.accepted before.core.server.files.extra.mech) w.gives
      conn message now (host_of w.size before.core) before.draws after.draws (stepped_of w.size after.core out)
  pub ran : Counted w.told (w.seat before.core.server.files.volume) (w.seat after.core.server.files.volume) [] out.used
  pub replies : reply ≡ reply_in out.sent

-- It stayed as it was, but for its clock and its draws.
abbrev pub Stays : {D M C W : Type 0} → SourceMachine D M C W → SourceMachine D M C W → Type 0
Stays before after = after.core ≡ before.core

abbrev pub calls_of : {D M C W : Type 0} → SourceMachine D M C W → ℕ
calls_of m = m.core.steps

-- A source with which a server begins, with this clock and these draws: nobody has called it, it knows these servers and is found there, and
-- its volume is the one that the disk holds, opened, where the disk tells.
pub record Opens {D M C W : Type 0} (d : DiskWords D) (mech : M) (clock : C) (draws : W) (peers : List Peer) (own : NetLoc) (disk : D)
    (first : SourceMachine D M C W) : Type 0 where
  pub new : IsNew mech peers own first.core
  pub clock_is : first.clock ≡ clock
  pub draws_are : first.draws ≡ draws
  pub size : d.size first.core.server.files.volume.disk ≡ d.size disk
  pub volume : d.told → first.core.server.files.volume.volume ≡ reopened (contents (d.timeline disk))
  pub tag : d.told → first.core.server.files.volume.tag ≡ tag_of (contents (d.timeline disk))

-- The disk that a source hands back: whatever a crash may leave of it is what may be left of the source's volume.
pub record Hands {D M C W : Type 0} (d : DiskWords D) (last : SourceMachine D M C W) (disk : D) : Type 0 where
  pub is : disk ≡ last.core.server.files.volume.disk
  pub left : d.told → (image : Image) → MayLeave (present (d.timeline disk)) image
      → MayBeLeft (d.size disk) last.core.server.files.volume.tag (homes_by last.core.server.files.volume.homes) last.core.server.files.volume.volume image

-- A source, served: each answer is that of a step of it, from a state to which it came by steps from the one in which it was opened.
abbrev pub source_words : {D M C W : Type 0} → DiskWords D → Words D M W → M → C → W → List Peer → NetLoc → ServerWords D (SourceMachine D M C W)
source_words {D = D} {M = M} {C = C} {W = W} d w mech clock draws peers own = record {
  opens = Opens d mech clock draws peers own;
  answers = λ first. Answers {K = SourceMachine D M C W} (λ m. m.core.steps) (Steps w) (λ before after. after.core ≡ before.core) (Some first);
  comes = Reaches {K = SourceMachine D M C W} (λ m. m.core.steps) (Steps w) (λ before after. after.core ≡ before.core);
  hands = Hands d;
}
