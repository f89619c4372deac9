-- What a client knows whose numbers are below their bounds, and whose names, handles and secrets are bytes within their limits.
use Rattle.std.specs.Prelude.{ℕ, ◌<◌, ◌^◌, IfSome, List, Option}
use Rattle.std.specs.List.{AllByRecursion}
use Rattle.caller_laws.specs.Fitting.Bounds.{NetLocFits, TextFits}
use Rattle.caller_laws.specs.Fitting.Fitting.{MountIsFit}
use Rattle.client_copies.specs.Table.{Copies, copy_at}
use Rattle.client_copies.specs.declared.copy.ClientCopy.{ClientCopy}
use Rattle.client_copies.specs.declared.copy.First.{First}
use Rattle.client_copies.specs.declared.event.Event.{Event}
use Rattle.client_copies.specs.declared.event.Event.TheVariants as events
use Rattle.client_core.specs.State.{ClientState}
use Rattle.client_site.specs.declared.site.OpenFile.{OpenFile}
use Rattle.client_site.specs.declared.site.Site.{Site}
use Rattle.client_steps.specs.Acting.{Acting}
use Rattle.client_steps.specs.declared.deeds.Deed.{Deed}
use Rattle.client_steps.specs.declared.deeds.Deed.TheVariants as deeds
use Rattle.client_steps.specs.declared.desk.Desk.{Desk}
use Rattle.client_steps.specs.declared.setting.Setting.{Setting}
use Rattle.nfs_base.specs.Bounds.{HandleFits, StateIdFits}
use Rattle.nfs_base.specs.declared.copy_spec.CopySpec.{CopySpec}
use Rattle.nfs_base.specs.declared.limits.TheConstants.{NAME_LIMIT}
use Rattle.nfs_base.specs.declared.state_id.StateId.{StateId}
use Rattle.wire_xdr.specs.Cursor.{IsBytes}
use Rattle.write_queue.specs.Queue.{Queued}
use Rattle.write_queue.specs.declared.work.Work.TheVariants as works
use Rattle.write_queue.specs.declared.work.Work.{Work}

-- ---- what it is told from outside

pub record SettingIsFit {M : Type 0} (s : Setting M) : Type 0 where
  pub me : TextFits NAME_LIMIT s.me
  pub source : NetLocFits s.source
  pub dest : NetLocFits s.dest

pub record SpecIsFit (spec : CopySpec) : Type 0 where
  pub src_file : spec.src_file < 2 ^ 32
  pub src_off : spec.src_off < 2 ^ 64
  pub dst_file : spec.dst_file < 2 ^ 32
  pub dst_off : spec.dst_off < 2 ^ 64
  pub count : spec.count < 2 ^ 64

abbrev pub WorkIsFit : Work → Type 0
WorkIsFit (works.Write file offset bytes) = (file < 2 ^ 32) × (offset < 2 ^ 64) × IsBytes bytes
WorkIsFit (works.Commit file) = file < 2 ^ 32

-- ---- what it has at a server

pub record FileIsFit (f : OpenFile) : Type 0 where
  pub handle : HandleFits f.handle
  pub id : StateIdFits f.id

pub record SiteIsFit (s : Site) : Type 0 where
  pub mount : MountIsFit s.mount
  pub files : AllByRecursion FileIsFit s.files

-- ---- copies, by what is known of each

pub record FirstIsFit (first : First) : Type 0 where
  pub file : HandleFits first.file
  pub grant : StateIdFits first.grant

pub record KnownIsFit (spec : CopySpec) (secret : List ℕ) (first : Option First) (id : Option StateId) : Type 0 where
  pub asked : SpecIsFit spec
  pub are_bytes : IsBytes secret
  pub told : IfSome first FirstIsFit
  pub name : IfSome id StateIdFits

abbrev pub CopyIsFit : ClientCopy → Type 0
CopyIsFit c = KnownIsFit c.spec c.secret c.first c.id

abbrev pub CopiesAreFit : Copies → Type 0
CopiesAreFit t = (j : ℕ) → IfSome (copy_at j t) CopyIsFit

-- what happens to a copy tells handles and stateids that are fit
abbrev pub EventIsFit : Event → Type 0
EventIsFit (events.Granted first) = FirstIsFit first
EventIsFit (events.Accepted id sent_at) = StateIdFits id
EventIsFit _ = Unit {0}

abbrev pub DeedIsFit : Deed → Type 0
DeedIsFit (deeds.Opens opened_file) = FileIsFit opened_file
DeedIsFit (deeds.Copy event) = EventIsFit event
DeedIsFit (deeds.Starts id) = StateIdFits id
DeedIsFit _ = Unit {0}

-- ---- writes and commits

abbrev pub QueueIsFit : Queued → Type 0
QueueIsFit q = AllByRecursion WorkIsFit q.works

-- ---- all of it

pub record PartsAreFit (source dest : Site) (copies : Copies) : Type 0 where
  pub at_source : SiteIsFit source
  pub at_dest : SiteIsFit dest
  pub table : CopiesAreFit copies

abbrev pub DeskIsFit : Desk → Type 0
DeskIsFit d = PartsAreFit d.source d.dest d.copies

pub record QueuesAreFit (source dest : Queued) : Type 0 where
  pub at_source : QueueIsFit source
  pub at_dest : QueueIsFit dest

abbrev pub WorksAreFit : Acting → Type 0
WorksAreFit a = QueuesAreFit a.source_queue a.dest_queue

pub record ClientIsFit {M : Type 0} (c : ClientState M) : Type 0 where
  pub setting : SettingIsFit c.setting
  pub parts : PartsAreFit c.source c.dest c.copies
  pub queues : QueuesAreFit c.source_queue c.dest_queue
