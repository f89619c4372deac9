-- How an operation of a server is answered, and the tests that operations share: of the current handle and of a stateid.
-- RFC 8881 sections 8.2 and 16.2.3.1.
use Rattle.std.specs.Prelude.{◌≡◌, ◌⊎◌, ℕ, ◌+◌, ◌*◌, ◌<◌, ◌≤◌, ◌==◌, ◌&&◌, Bool, true, false, Option, Some, None, List, [], length, if◌then◌else◌}
use Rattle.wire_xdr.specs.Page.{Added}
use Rattle.nfs_base.specs.declared.limits.TheConstants.{DATA_LIMIT}
use Rattle.nfs_base.specs.declared.state_id.StateId.{StateId}
use Rattle.nfs_base.specs.declared.status.Status.{Status}
use Rattle.nfs_base.specs.declared.status.TheConstants.Status.{BAD_STATEID}
use Rattle.file_ops.specs.declared.results.FileRes.{FileRes}
use Rattle.state_ids.specs.Opens.{OpenTable, check_refusal}
use Rattle.state_ids.specs.declared.access.Access.{Access}
use Rattle.server_volume.specs.declared.used.TheConstants.{MOST_CALLS}
use Rattle.server_volume.specs.Choices.{Grows}
use Rattle.file_server.specs.declared.extension.Ask.{Ask}
use Rattle.file_server.specs.declared.extension.Caller.{Caller}
use Rattle.file_server.specs.declared.extension.Gate.{Gate}
use Rattle.file_server.specs.declared.held.Held.{Held}
use Rattle.file_server.specs.declared.progress.TheConstants.{MOST_RESULT}
use Rattle.file_server.specs.declared.progress.Progress.{Progress}
use Rattle.file_server.specs.declared.files.Files.{Files}
use Rattle.server_volume.specs.Store.{store_of}
use Rattle.file_server.specs.Machine.{Machine, Going, Answered}

-- an operation that is answered with this result, and changes nothing more
abbrev pub answered : {X : Type 0} → Going X → FileRes → Answered X
answered g res = record { going = g; res = res }

-- the current stateid is asked for by seqid 1 and zeros (RFC 8881 section 16.2.3.1.2)
abbrev pub is_current : StateId → Bool
is_current id = (id.seqid == 1) && (id.kind == 0) && (id.boot == 0) && (id.number == 0)

-- the stateid that is meant, where there is one
abbrev pub meant_id : Option StateId → StateId → Option StateId
meant_id current id = if is_current id then current else Some id

-- why a stateid doesn't allow an operation on a file
abbrev pub open_refusal : OpenTable → Option StateId → ℕ → Access → Option Status
open_refusal opens None file need = Some BAD_STATEID
open_refusal opens (Some id) file need = check_refusal opens id file need

-- ---- the code's state

abbrev pub machine_of : {D X : Type 0} → (D → ℕ) → Files D X → Machine X
machine_of size s = record { store = store_of size s.volume; opens = s.opens; extra = s.extra }

abbrev pub going_of : {D X : Type 0} → (D → ℕ) → Files D X → Progress → Going X
going_of size s p = record { machine = machine_of size s; held = p.held; used = p.used; has_read = p.has_read }

-- how many bytes are set aside for the data of a READ
abbrev pub set_aside : Bool → ℕ
set_aside true = 0
set_aside false = DATA_LIMIT

-- Room for the results of so many operations to come, and for their calls.
pub record Ready (p : Progress) (operations : ℕ) : Type 0 where
  pub page : length p.page.bytes + set_aside p.has_read + operations * MOST_RESULT ≤ p.page.room
  pub used : length p.used + 2 * operations ≤ MOST_CALLS

-- nothing is held before the first operation
abbrev pub nothing_held : Held
nothing_held = record { current = None; saved = None; id = None; saved_id = None }

-- no operation was done yet
pub record IsNew (p : Progress) : Type 0 where
  pub page : p.page.bytes ≡ []
  pub used : p.used ≡ []
  pub held : p.held ≡ nothing_held
  pub has_read : p.has_read ≡ false

-- what one operation leaves of that
pub record Keeps (old new : Progress) : Type 0 where
  pub page : length new.page.bytes + set_aside new.has_read ≤ length old.page.bytes + set_aside old.has_read + MOST_RESULT
  pub room : new.page.room ≡ old.page.room
  pub used : length new.used ≤ length old.used + 2
  pub grows : Grows old.used new.used

-- Room for a short result, and for one call.
pub record CanCommit (p : Progress) : Type 0 where
  pub page : length p.page.bytes + MOST_RESULT ≤ p.page.room
  pub used : length p.used < MOST_CALLS

-- what an operation leaves of the room after a short result and one call at most
pub record CommitKeeps (old new : Progress) : Type 0 where
  pub page : length new.page.bytes ≤ length old.page.bytes + MOST_RESULT
  pub room : new.page.room ≡ old.page.room
  pub used : length new.used ≤ length old.used + 1
  pub grows : Grows old.used new.used
  pub has_read : new.has_read ≡ old.has_read

-- these bytes were said behind the results, and nothing else changed
pub record Says (old : Progress) (text : List ℕ) (new : Progress) : Type 0 where
  pub page : Added old.page text new.page
  pub used : new.used ≡ old.used
  pub held : new.held ≡ old.held
  pub has_read : new.has_read ≡ old.has_read

-- what a particular server has is as it was, or as asking it once leaves it
abbrev pub AsksOnce : {X P : Type 0} → (X → Caller → P → Ask → X × Gate) → X → Caller → P → X → Type 0
AsksOnce gated old caller carry new = (new ≡ old) ⊎ ((asked : Ask) × (new ≡ (gated old caller carry asked).0))
