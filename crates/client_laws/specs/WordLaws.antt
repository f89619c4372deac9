-- Whence what a client knows and says of a copy.
use Rattle.std.specs.Prelude.{ℕ, ◌≡◌, List, Option, Some, None}
use Rattle.call_results.specs.Results as results
use Rattle.call_results.specs.declared.copies.Granted.{Granted}
use Rattle.client_copies.specs.Words.{ran}
use Rattle.client_copies.specs.declared.copy.ClientCopy.{ClientCopy}
use Rattle.client_copies.specs.declared.copy.First.{First}
use Rattle.client_copies.specs.declared.copy.Query.TheVariants as queries
use Rattle.client_copies.specs.declared.copy.Session.{Session}
use Rattle.client_copies.specs.declared.copy.Stage.TheVariants.{Asked}
use Rattle.client_copies.specs.declared.copy.Step.{Step}
use Rattle.client_copies.specs.declared.copy.Step.TheVariants as steps
use Rattle.client_copies.specs.declared.event.Event.{Event}
use Rattle.client_copies.specs.declared.event.Event.TheVariants as events
use Rattle.client_site.specs.Sites.{session_at}
use Rattle.client_site.specs.declared.site.OpenFile.{OpenFile}
use Rattle.client_steps.specs.CopySteps.{file_on}
use Rattle.client_steps.specs.declared.deeds.Deed.{Deed}
use Rattle.client_steps.specs.declared.deeds.Deed.TheVariants as deeds
use Rattle.client_steps.specs.declared.desk.Desk.{Desk}
use Rattle.copy_ops.specs.declared.results.OffloadProgress.{OffloadProgress}
use Rattle.mount.specs.declared.taking.Told.{Told}
use Rattle.mount.specs.declared.taking.Told.TheVariants.{Answer}
use Rattle.nfs_base.specs.declared.side.Side.{Side}
use Rattle.nfs_base.specs.declared.side.Side.TheVariants.{Source, Dest}
use Rattle.nfs_base.specs.declared.state_id.StateId.{StateId}
use Rattle.nfs_compound.specs.declared.reply.Reply.{Reply}

-- In a step this happened to the copy that there was, and it had its cause. Before it these may have happened in the step.
pub record Happened (cause : Event → Type 0) (is : Event → ClientCopy → Type 0) (copy : Option ClientCopy) : Type 0 where
  pub first : ClientCopy
  pub first_is : copy ≡ Some first
  pub before : List Event
  pub event : Event
  pub caused : cause event
  pub so : is event (ran before first)

-- the copy knew it before
abbrev pub Knew : {X : Type 0} → (ClientCopy → Option X) → X → Option ClientCopy → Type 0
Knew part x None = ⊥
Knew part x (Some c) = part c ≡ Some x

-- the first change attribute comes with the answer to COPY_NOTIFY, and a copy's name with that to COPY
pub record IsFirstTold (known : First) (event : Event) (copy : ClientCopy) : Type 0 where
  pub asked : copy.stage ≡ Asked steps.Notify
  pub told : event ≡ events.Granted known

pub record IsNamed (id : StateId) (event : Event) (copy : ClientCopy) : Type 0 where
  pub asked : copy.stage ≡ Asked steps.Copy
  pub sent_at : ℕ
  pub told : event ≡ events.Accepted id sent_at

-- ---- the answers that say so: each is a reply with status 0 to the call of this step of the copy

pub record IsReplyTo (step : Step) (told : Told) (copy : Option ClientCopy) : Type 0 where
  pub asking : ClientCopy
  pub asking_is : copy ≡ Some asking
  pub asked : asking.stage ≡ Asked step
  pub reply : Reply
  pub told_is : told ≡ Answer reply
  pub ok : reply.status.number ≡ 0

-- COPY_NOTIFY: the change attribute and the name of what was granted are its results; the file is the one that is open, the
-- session the one that there is
pub record IsGrant (told : Told) (copy : Option ClientCopy) (d : Desk) (known : First) : Type 0 where
  pub to : IsReplyTo steps.Notify told copy
  pub granted : Granted
  pub says : results.grant_in to.reply.results ≡ Some granted
  pub change : known.change ≡ granted.change
  pub grant : known.grant ≡ granted.id
  pub session : session_at d.source ≡ Some known.session
  pub opened_file : OpenFile
  pub opened : file_on Source to.asking.spec.src_file d ≡ Some opened_file
  pub file : known.file ≡ opened_file.handle

-- COPY: the name is its result
pub record IsAcceptance (told : Told) (copy : Option ClientCopy) (id : StateId) : Type 0 where
  pub to : IsReplyTo steps.Copy told copy
  pub says : results.at 4 results.told_accepted to.reply.results ≡ Some id

-- the last GETATTR: the change attribute is its result
pub record IsLastChange (told : Told) (copy : Option ClientCopy) (d : Desk) (change : ℕ) (session : Session) : Type 0 where
  pub to : IsReplyTo steps.Last told copy
  pub says : results.at 2 results.told_change to.reply.results ≡ Some change
  pub session_is : session_at d.source ≡ Some session

-- OFFLOAD_STATUS: what it tells is its result
pub record IsProgress (told : Told) (side : Side) (copy : Option ClientCopy) (progress : OffloadProgress) : Type 0 where
  pub at_dest : side ≡ Dest
  pub asking : ClientCopy
  pub asking_is : copy ≡ Some asking
  pub asked : asking.query ≡ Some queries.Status
  pub reply : Reply
  pub told_is : told ≡ Answer reply
  pub ok : reply.status.number ≡ 0
  pub says : results.at 2 results.told_progress reply.results ≡ Some progress

-- ---- What an answer to a copy's call comes to: a first change attribute, a name, a last change attribute and a progress come
-- of these answers alone.

abbrev pub IsPlain : Deed → Type 0
IsPlain (deeds.Copy (events.Granted known)) = ⊥
IsPlain (deeds.Copy (events.Told change session)) = ⊥
IsPlain (deeds.Copy (events.Progressed count complete sent_at)) = ⊥
IsPlain (deeds.Starts id) = ⊥
IsPlain _ = Unit {0}

pub data ComesOf (told : Told) (side : Side) (copy : Option ClientCopy) (sent_at : ℕ) (d : Desk) : Deed → Type 0 where
  Grants : (known : First) → IsGrant told copy d known → ComesOf told side copy sent_at d (deeds.Copy (events.Granted known))
  Accepts : (id : StateId) → IsAcceptance told copy id → ComesOf told side copy sent_at d (deeds.Starts id)
  Tells : (change : ℕ) (session : Session) → IsLastChange told copy d change session → ComesOf told side copy sent_at d (deeds.Copy (events.Told change session))
  Progresses : (progress : OffloadProgress) → IsProgress told side copy progress
      → ComesOf told side copy sent_at d (deeds.Copy (events.Progressed progress.count progress.complete sent_at))
  Plain : (deed : Deed) → IsPlain deed → ComesOf told side copy sent_at d deed
