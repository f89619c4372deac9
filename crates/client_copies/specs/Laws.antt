-- What makes a copy stable, and what makes it exact.
use Rattle.std.specs.Prelude.{◌≡◌, ℕ, Some}
use Rattle.copy_ops.specs.declared.callback.OffloadEnd.TheVariants as ends
use Rattle.nfs_base.specs.declared.status.Status.{Status}
use Rattle.nfs_base.specs.declared.written.Stability.TheVariants.{FileSync}
use Rattle.nfs_base.specs.declared.written.WriteResponse.{WriteResponse}
use Rattle.client_copies.specs.declared.copy.ClientCopy.{ClientCopy}
use Rattle.client_copies.specs.declared.copy.First.{First}
use Rattle.client_copies.specs.declared.copy.Session.{Session}
use Rattle.client_copies.specs.declared.copy.Stage.TheVariants.{Asked, Accepted}
use Rattle.client_copies.specs.declared.copy.Step.TheVariants.{Last}
use Rattle.client_copies.specs.declared.event.Event.{Event}
use Rattle.client_copies.specs.declared.event.Event.TheVariants.{Offloaded, Progressed, Told}

-- CB_OFFLOAD told that all is safe at the level FILE_SYNC4, or OFFLOAD_STATUS that the copy ended with status 0.
pub data IsDone : Event → Type 0 where
  ByCallback : (response : WriteResponse) (level : response.committed ≡ FileSync) → IsDone (Offloaded (ends.Done response))
  ByStatus : (count sent_at : ℕ) (status : Status) (ok : status.number ≡ 0) → IsDone (Progressed count (Some status) sent_at)

-- A copy is said to be stable: it was accepted, and this event told that it is done.
pub record IsSaidStable (event : Event) (c : ClientCopy) : Type 0 where
  pub accepted : c.stage ≡ Accepted
  pub done : IsDone event

-- A copy is said to be exact: the last GETATTR told the change attribute that COPY_NOTIFY told, in the same session.
pub record IsSaidExact (event : Event) (c : ClientCopy) : Type 0 where
  pub asked : c.stage ≡ Asked Last
  pub first : First
  pub first_is : c.first ≡ Some first
  pub session : Session
  pub told : event ≡ Told first.change session
  pub same_id : session.id ≡ first.session.id
  pub same_root : session.root ≡ first.session.root
