-- What an answer comes to is fit, where what it tells is, and leaves a client fit.
use Rattle.std.proofs.Common.{ℕ, zero, suc, Bool, true, false, List, [], ◌∷◌, Option, Some, None}
use Rattle.std.specs.Prelude.{◌==◌, IfSome}
use Rattle.std.specs.List.{AllByRecursion}
use Rattle.call_results.specs.Results as results
use Rattle.call_results.specs.declared.copies.Granted.{Granted}
use Rattle.call_results.specs.declared.files.Opened.{Opened}
use Rattle.call_results.specs.declared.files.Written.{Written}
use Rattle.caller_laws.specs.Fitting.Answers.{ResIsFit, ToldIsFit}
use Rattle.caller_laws.specs.Fitting.Bounds.{TextFits}
use Rattle.caller_laws.specs.Fitting.Fitting.{MountIsFit}
use Rattle.caller_laws.specs.Fitting.ListLaws.{append_holds}
use Rattle.caller_laws.specs.Fitting.Moving.{GivesBytes}
use Rattle.caller_laws.specs.Fitting.TakeLaws.{takes_fit}
use Rattle.client_copies.specs.Table.{accepted_at}
use Rattle.client_copies.specs.declared.copy.ClientCopy.{ClientCopy}
use Rattle.client_copies.specs.declared.copy.Query.{Query}
use Rattle.client_copies.specs.declared.copy.Query.TheVariants as queries
use Rattle.client_copies.specs.declared.copy.Session.{Session}
use Rattle.client_copies.specs.declared.copy.Stage.{Stage}
use Rattle.client_copies.specs.declared.copy.Stage.TheVariants as stages
use Rattle.client_copies.specs.declared.copy.Step.{Step}
use Rattle.client_copies.specs.declared.copy.Step.TheVariants as steps
use Rattle.client_copies.specs.declared.event.Event.TheVariants as events
use Rattle.client_copies.specs.declared.refusal.Refusal.{Refusal}
use Rattle.client_laws.specs.Bounds.AskLaws.{file_fits}
use Rattle.client_laws.specs.Bounds.CallLaws.{back_fits, reclaim_fits, step_fits}
use Rattle.client_laws.specs.Bounds.CopyLaws.{named_fits}
use Rattle.client_laws.specs.Bounds.DeskLaws.{copied_fits, said_fits, site_fits, sited_fits, told_to_fits}
use Rattle.client_laws.specs.Bounds.GoLaws.{ActingIsFit, goes_down_fits, queue_told_fits}
use Rattle.client_laws.specs.Bounds.Known.{DeedIsFit, DeskIsFit, FileIsFit}
use Rattle.client_site.specs.Falling.{all_places}
use Rattle.client_site.specs.Sending.{back_channel}
use Rattle.client_site.specs.Sites.{session_at, with_file}
use Rattle.client_site.specs.Taking.{found_at, found_by, sent_at}
use Rattle.client_site.specs.declared.site.OpenFile.{OpenFile}
use Rattle.client_site.specs.declared.taking.Found.{Found}
use Rattle.client_steps.specs.Acting.{Acting, on_desk, queue_at, with_desk}
use Rattle.client_steps.specs.Answers as answers
use Rattle.client_steps.specs.Calling.{step_sent}
use Rattle.client_steps.specs.CopySteps.{copy_in, file_on}
use Rattle.client_steps.specs.Desks.{site_at}
use Rattle.client_steps.specs.Replies as replies
use Rattle.client_steps.specs.declared.deeds.Deed.{Deed}
use Rattle.client_steps.specs.declared.deeds.Deed.TheVariants as deeds
use Rattle.client_steps.specs.declared.desk.Desk.{Desk}
use Rattle.copy_ops.specs.declared.res.CopyRes.TheVariants as copies
use Rattle.copy_ops.specs.declared.results.CopyAnswer.TheVariants as copied
use Rattle.copy_ops.specs.declared.results.OffloadProgress.{OffloadProgress}
use Rattle.file_ops.specs.declared.operation.TheConstants.{OP_CREATE_SESSION, OP_EXCHANGE_ID}
use Rattle.file_ops.specs.declared.results.FileRes.TheVariants as files
use Rattle.gss_ctx.specs.Seals.{Mic}
use Rattle.mount.specs.Laws.{is_heard}
use Rattle.mount.specs.State.{Mounted, root_context, setup_in}
use Rattle.mount.specs.Taking.{Means, is_lost, taken_at}
use Rattle.mount.specs.declared.taking.Told.TheVariants as tells
use Rattle.mount.specs.declared.taking.Told.{Told}
use Rattle.nfs_base.specs.Bounds.{HandleFits, StateIdFits}
use Rattle.nfs_base.specs.declared.answer.Answer.TheVariants.{Done}
use Rattle.nfs_base.specs.declared.limits.TheConstants.{NAME_LIMIT}
use Rattle.nfs_base.specs.declared.side.Side.{Side}
use Rattle.nfs_base.specs.declared.side.Side.TheVariants.{Source, Dest}
use Rattle.nfs_base.specs.declared.state_id.StateId.{StateId}
use Rattle.nfs_compound.specs.declared.reply.Reply.{Reply}
use Rattle.nfs_compound.specs.declared.res.Res.{Res}
use Rattle.nfs_compound.specs.declared.res.Res.TheVariants.{Copy, File}
use Rattle.outbox.specs.declared.label.CallLabel.TheVariants as labels
use Rattle.session_client.specs.declared.setup.Setup.{Setup}
use Rattle.session_client.specs.declared.setup.Setup.TheVariants as setups
use Rattle.wire_xdr.specs.Cursor.{IsBytes}
use Rattle.write_queue.specs.Queue.{Queued, first}
use Rattle.write_queue.specs.declared.queue.Head.{Head}
use Rattle.write_queue.specs.declared.queue.Head.TheVariants as heads
use Rattle.write_queue.specs.declared.work.QueueEvent.TheVariants as works
use Rattle.write_queue.specs.declared.work.Work.{Work}

-- ---- results by their places

at_fits : {X : Type 0} (P : X → Type 0) (told : Res → Option X) → ((r : Res) → ResIsFit r → IfSome (told r) P) → (place : ℕ) (rs : List Res) → AllByRecursion ResIsFit rs
    → IfSome (results.at place told rs) P
at_fits P told each place [] h = tt
at_fits P told each zero (r ∷ rs) h = each r h.0
at_fits P told each (suc place) (r ∷ rs) h = at_fits P told each place rs h.1

opened_is : (r : Res) → ResIsFit r → IfSome (results.opened_id r) StateIdFits
opened_is (File (files.Open (Done told))) h = h
opened_is _ h = tt

handle_is : (r : Res) → ResIsFit r → IfSome (results.told_handle r) HandleFits
handle_is (File (files.GetFh (Done handle))) h = h
handle_is _ h = tt

grant_is : (r : Res) → ResIsFit r → IfSome (results.told_grant r) StateIdFits
grant_is (Copy (copies.CopyNotify (Done grant))) h = h.0
grant_is _ h = tt

accepted_is : (r : Res) → ResIsFit r → IfSome (results.told_accepted r) StateIdFits
accepted_is (Copy (copies.Copy (copied.Done copy))) h = h.0
accepted_is _ h = tt

abbrev OpenedIsFit : Opened → Type 0
OpenedIsFit o = HandleFits o.handle × StateIdFits o.id

both_opened_fit : (a : Option StateId) (b : Option (List ℕ)) → IfSome a StateIdFits → IfSome b HandleFits → IfSome (results.both_opened a b) OpenedIsFit
both_opened_fit (Some id) (Some handle) x y = (y, x)
both_opened_fit (Some id) None x y = tt
both_opened_fit None b x y = tt

open_in_fits : (rs : List Res) → AllByRecursion ResIsFit rs → IfSome (results.open_in rs) OpenedIsFit
open_in_fits rs h =
    both_opened_fit (results.at 2 results.opened_id rs) (results.at 3 results.told_handle rs) (at_fits StateIdFits results.opened_id opened_is 2 rs h)
    (at_fits HandleFits results.told_handle handle_is 3 rs h)

abbrev GrantedIsFit : Granted → Type 0
GrantedIsFit g = StateIdFits g.id

both_granted_fit : (a : Option ℕ) (b : Option StateId) → IfSome b StateIdFits → IfSome (results.both_granted a b) GrantedIsFit
both_granted_fit (Some change) (Some id) y = y
both_granted_fit (Some change) None y = tt
both_granted_fit None b y = tt

grant_in_fits : (rs : List Res) → AllByRecursion ResIsFit rs → IfSome (results.grant_in rs) GrantedIsFit
grant_in_fits rs h = both_granted_fit (results.at 2 results.told_change rs) (results.at 3 results.told_grant rs) (at_fits StateIdFits results.told_grant grant_is 3 rs h)

-- ---- the setup's, and those of works

setup_deed_fits : (told : Told) → DeedIsFit (answers.setup_deed told)
setup_deed_fits tells.Rooted = tt
setup_deed_fits _ = tt

work_opened_fits : (o : Option Opened) (work : Option Work) → IfSome o OpenedIsFit → DeedIsFit (answers.work_opened o work)
work_opened_fits (Some opened) (Some work) h = record { handle = h.0; id = h.1 }
work_opened_fits (Some opened) None h = tt
work_opened_fits None (Some work) h = tt
work_opened_fits None None h = tt

work_committed_fits : (o : Option (List ℕ)) → DeedIsFit (answers.work_committed o)
work_committed_fits None = tt
work_committed_fits (Some verifier) = tt

work_done_fits : (o : Option Written) (told : List Res) → DeedIsFit (answers.work_done o told)
work_done_fits (Some written) told = tt
work_done_fits None told = work_committed_fits (results.at 2 results.told_committed told)

work_told_fits : (head : Head) (work : Option Work) (told : List Res) → AllByRecursion ResIsFit told → DeedIsFit (answers.work_told head work told)
work_told_fits heads.Opening work told h = work_opened_fits (results.open_in told) work (open_in_fits told h)
work_told_fits heads.Due work told h = work_done_fits (results.at 2 results.told_written told) told
work_told_fits heads.Asked work told h = work_done_fits (results.at 2 results.told_written told) told

work_answered_fits : (a b : Bool) (reply : Reply) (head : Head) (work : Option Work) → AllByRecursion ResIsFit reply.results → DeedIsFit (answers.work_answered a b reply head work)
work_answered_fits true b reply head work h = tt
work_answered_fits false false reply head work h = tt
work_answered_fits false true reply head work h = work_told_fits head work reply.results h

work_deed_fits : (told : Told) (q : Queued) → ToldIsFit told → DeedIsFit (answers.work_deed told q)
work_deed_fits (tells.Answer reply) q h = work_answered_fits (is_lost reply.status) (answers.is_ok reply.status) reply q.head (first q.works) h
work_deed_fits _ q h = tt

-- ---- those of copies

refuse_fits : (o : Option Query) (why : Refusal) → DeedIsFit (answers.refuse_call o why)
refuse_fits None why = tt
refuse_fits (Some query) why = tt

progress_fits : (o : Option OffloadProgress) (at : ℕ) → DeedIsFit (answers.progressed o at)
progress_fits None at = tt
progress_fits (Some progress) at = tt

query_told_fits : (query : Query) (told : List Res) (at : ℕ) → DeedIsFit (answers.query_told query told at)
query_told_fits queries.Status told at = progress_fits (results.at 2 results.told_progress told) at
query_told_fits queries.Cancel told at = tt

copy_opened_fits : (side : Side) (c : ClientCopy) (o : Option Opened) → IfSome o OpenedIsFit → DeedIsFit (answers.copy_opened side c o)
copy_opened_fits side c None h = tt
copy_opened_fits side c (Some opened) h = record { handle = h.0; id = h.1 }

granted_fits : (o : Option Granted) (session : Option Session) (file : Option OpenFile) → IfSome o GrantedIsFit → IfSome file FileIsFit → DeedIsFit (answers.granted_by o session file)
granted_fits (Some granted) (Some session) (Some opened_file) g f = record { file = f.handle; grant = g }
granted_fits (Some granted) (Some session) None g f = tt
granted_fits (Some granted) None file g f = tt
granted_fits None session file g f = tt

accepted_fits : (o : Option StateId) → IfSome o StateIdFits → DeedIsFit (answers.accepted_by o)
accepted_fits None h = tt
accepted_fits (Some id) h = h

last_fits : (o : Option ℕ) (session : Option Session) → DeedIsFit (answers.last_told o session)
last_fits (Some change) (Some session) = tt
last_fits (Some change) None = tt
last_fits None (Some session) = tt
last_fits None None = tt

step_told_fits : (step : Step) (side : Side) (c : ClientCopy) (told : List Res) (d : Desk) → AllByRecursion ResIsFit told → DeskIsFit d → DeedIsFit (answers.step_told step side c told d)
step_told_fits steps.OpenSource side c told d h k = copy_opened_fits side c (results.open_in told) (open_in_fits told h)
step_told_fits steps.OpenDest side c told d h k = copy_opened_fits side c (results.open_in told) (open_in_fits told h)
step_told_fits steps.OpenAgain side c told d h k = copy_opened_fits side c (results.open_in told) (open_in_fits told h)
step_told_fits steps.Notify side c told d h k =
    granted_fits (results.grant_in told) (session_at d.source) (file_on Source c.spec.src_file d) (grant_in_fits told h) (file_fits c.spec.src_file d.source k.at_source)
step_told_fits steps.Copy side c told d h k = accepted_fits (results.at 4 results.told_accepted told) (at_fits StateIdFits results.told_accepted accepted_is 4 told h)
step_told_fits steps.Last side c told d h k = last_fits (results.at 2 results.told_change told) (session_at d.source)
step_told_fits steps.AllowSource side c told d h k = tt
step_told_fits steps.AllowDest side c told d h k = tt

stage_told_fits : (st : Stage) (side : Side) (c : ClientCopy) (told : List Res) (d : Desk) → AllByRecursion ResIsFit told → DeskIsFit d → DeedIsFit (answers.stage_told st side c told d)
stage_told_fits (stages.Asked step) side c told d h k = step_told_fits step side c told d h k
stage_told_fits _ side c told d h k = tt

copy_told_fits : (o : Option Query) (side : Side) (c : ClientCopy) (told : List Res) (at : ℕ) (d : Desk) → AllByRecursion ResIsFit told → DeskIsFit d
    → DeedIsFit (answers.copy_told o side c told at d)
copy_told_fits None side c told at d h k = stage_told_fits c.stage side c told d h k
copy_told_fits (Some query) side c told at d h k = query_told_fits query told at

copy_answered_fits : (a b : Bool) (side : Side) (c : ClientCopy) (reply : Reply) (at : ℕ) (d : Desk) → AllByRecursion ResIsFit reply.results → DeskIsFit d
    → DeedIsFit (answers.copy_answered a b side c reply at d)
copy_answered_fits true b side c reply at d h k = tt
copy_answered_fits false false side c reply at d h k = refuse_fits (answers.query_of side c) _
copy_answered_fits false true side c reply at d h k = copy_told_fits (answers.query_of side c) side c reply.results at d h k

denied_fits : (b : Bool) (o : Option Query) → DeedIsFit (answers.denied_by b o)
denied_fits true o = refuse_fits o _
denied_fits false o = tt

copy_by_fits : (told : Told) (side : Side) (c : ClientCopy) (at : ℕ) (d : Desk) → ToldIsFit told → DeskIsFit d → DeedIsFit (answers.copy_by told side c at d)
copy_by_fits (tells.Answer reply) side c at d h k = copy_answered_fits (is_lost reply.status) (answers.is_ok reply.status) side c reply at d h k
copy_by_fits (tells.Child child) side c at d h k = tt
copy_by_fits (tells.Refused major) side c at d h k = refuse_fits (answers.query_of side c) _
copy_by_fits tells.Misspelt side c at d h k = refuse_fits (answers.query_of side c) _
copy_by_fits (tells.Failed stat) side c at d h k = refuse_fits (answers.query_of side c) _
copy_by_fits (tells.Denied why) side c at d h k = denied_fits (answers.stage_creates side c.stage) (answers.query_of side c)
copy_by_fits tells.Unmatched side c at d h k = tt
copy_by_fits tells.Rooted side c at d h k = tt
copy_by_fits tells.Stepped side c at d h k = tt
copy_by_fits (tells.Stopped status) side c at d h k = tt

copy_deed_fits : (told : Told) (side : Side) (o : Option ClientCopy) (at : ℕ) (d : Desk) → ToldIsFit told → DeskIsFit d → DeedIsFit (answers.copy_deed told side o at d)
copy_deed_fits told side None at d h k = tt
copy_deed_fits told side (Some c) at d h k = copy_by_fits told side c at d h k

-- ---- by the place

first_deed_fits : (b : Bool) (told : Told) (side : Side) (a : Acting) → ToldIsFit told → DeedIsFit (replies.first_deed b told side a)
first_deed_fits true told side a h = setup_deed_fits told
first_deed_fits false told side a h = work_deed_fits told (queue_at side a) h

deed_at_fits : (first setting_up : Bool) (told : Told) (side : Side) (place at : ℕ) (a : Acting) → ToldIsFit told → DeskIsFit a.desk
    → DeedIsFit (replies.deed_at first setting_up told side place at a)
deed_at_fits true setting_up told side place at a h k = first_deed_fits setting_up told side a h
deed_at_fits false setting_up told side place at a h k = copy_deed_fits told side (copy_in place a.desk) at a.desk h k

-- ---- what it does

back_made_fits : (free : Option ℕ) (root : Option (List ℕ × List ℕ)) (side : Side) (d : Desk) → DeskIsFit d → DeskIsFit (replies.back_made free root side d)
back_made_fits None root side d h = h
back_made_fits (Some number) None side d h = h
back_made_fits (Some number) (Some root) Source d h = record { at_source = record { mount = h.at_source.mount; files = h.at_source.files }; at_dest = h.at_dest; table = h.table }
back_made_fits (Some number) (Some root) Dest d h = record { at_source = h.at_source; at_dest = record { mount = h.at_dest.mount; files = h.at_dest.files }; table = h.table }

back_if_fits : (b : Bool) (free : Option ℕ) (root : Option (List ℕ × List ℕ)) (side : Side) (d : Desk) → DeskIsFit d → DeskIsFit (replies.back_if b free root side d)
back_if_fits true free root side d h = back_made_fits free root side d h
back_if_fits false free root side d h = h

added_fits : (side : Side) (opened_file : OpenFile) (d : Desk) → FileIsFit opened_file → DeskIsFit d → DeskIsFit (replies.file_added side opened_file d)
added_fits side opened_file d f h =
    let s = site_fits side d h in
    sited_fits side (with_file opened_file (site_at side d)) d
    (record { mount = s.mount; files = append_holds FileIsFit (site_at side d).files (opened_file ∷ []) s.files (f, tt) }) h

opener_fits : (b : Bool) (side : Side) (place : ℕ) (a : Acting) → ActingIsFit a → ActingIsFit (replies.opener_told b side place a)
opener_fits true side place a h = queue_told_fits side works.Opened a h
opener_fits false side place a h = (told_to_fits place (events.Opened side) a.desk tt h.0, h.1)

started_fits : (j : ℕ) (id : StateId) (at : ℕ) (d : Desk) → StateIdFits id → DeskIsFit d → DeskIsFit (replies.started j id at d)
started_fits j id at d i h =
    said_fits j (accepted_at j id at d.copies).0 _ (copied_fits (accepted_at j id at d.copies).1 d (named_fits j id at d.copies i h.table) h)

module _ (mic : Mic) (gives : GivesBytes mic) (me : List ℕ) (m : TextFits NAME_LIMIT me) where
  pub setup_fits : (s : Setup) (free : Option ℕ) (side : Side) (d : Desk) → DeskIsFit d → DeskIsFit (replies.setup_by s mic me free side d)
  setup_fits (setups.Rooted verifier) free side d h = step_fits mic gives side me None (labels.Operation OP_EXCHANGE_ID) d m tt h
  setup_fits (setups.Registered client sequence) free side d h =
      let back = back_channel free (site_at side d) in
      let o = step_sent mic me side back (labels.Operation OP_CREATE_SESSION) d in
      back_if_fits o.0 free (replies.root_key (root_context (site_at side d).mount)) side o.1
      (step_fits mic gives side me back (labels.Operation OP_CREATE_SESSION) d m (back_fits free (site_at side d) (site_fits side d h)) h)
  setup_fits (setups.Joined client session) free side d h = reclaim_fits mic gives side d h
  setup_fits setups.Down free side d h = h
  setup_fits (setups.Up client session) free side d h = h

  pub done_fits : (deed : Deed) (free : Option ℕ) (side : Side) (place at : ℕ) (a : Acting) → DeedIsFit deed → ActingIsFit a → ActingIsFit (replies.done deed mic me free side place at a)
  done_fits deeds.Rests free side place at a e h = h
  done_fits deeds.Goes free side place at a e h = (setup_fits (setup_in (site_at side a.desk).mount.standing) free side a.desk h.0, h.1)
  done_fits (deeds.Falls status) free side place at a e h = goes_down_fits side status a h
  done_fits (deeds.Opens opened_file) free side place at a e h =
      opener_fits (place == 0) side place (on_desk (replies.file_added side opened_file) a) (added_fits side opened_file a.desk e h.0, h.1)
  done_fits (deeds.Queue event) free side place at a e h = queue_told_fits side event a h
  done_fits (deeds.Copy event) free side place at a e h = (told_to_fits place event a.desk e h.0, h.1)
  done_fits (deeds.Starts id) free side place at a e h = (started_fits place id at a.desk e h.0, h.1)

  answered_fits : (setting_up : Bool) (free : Option ℕ) (side : Side) (o : Option Found) (a : Acting) → IfSome o (λ (f : Found). ToldIsFit f.told) → ActingIsFit a
      → ActingIsFit (replies.answered setting_up mic me free side o a)
  answered_fits setting_up free side None a f h = h
  answered_fits setting_up free side (Some found) a f h =
      let b = on_desk (replies.under_seal found.accepted) a in
      done_fits (replies.deed_of setting_up found.told side found.place found.sent_at b) free side found.place found.sent_at b
      (deed_at_fits (found.place == 0) setting_up found.told side found.place found.sent_at b f h.0) h

-- ---- a record is found to be the reply to what is awaited at a place, or to nothing

pub record FoundFits (o : Option Found × Mounted) : Type 0 where
  pub told : IfSome o.0 (λ (f : Found). ToldIsFit f.told)
  pub mount : MountIsFit o.1

module _ (means : Means) (message : List ℕ) (are : IsBytes message) where
  found_by_fits : (b : Bool) (place : ℕ) (m : Mounted) (more : Option Found × Mounted) → MountIsFit m → FoundFits more
      → FoundFits (found_by b place (sent_at m place) (taken_at means place message m) more)
  found_by_fits true place m more h f = let t = takes_fit means place message are m h in record { told = t.told; mount = t.fits }
  found_by_fits false place m more h f = f

  pub found_fits : (places : List ℕ) (m : Mounted) → MountIsFit m → FoundFits (found_at means message places m)
  found_fits [] m h = record { told = tt; mount = h }
  found_fits (place ∷ places) m h =
      found_by_fits (is_heard (taken_at means place message m).0.told) place m (found_at means message places m) h (found_fits places m h)

  -- the desk behind it
  pub taken_fits : (side : Side) (d : Desk) → DeskIsFit d → DeskIsFit (replies.taken means message side d).1
  taken_fits side d h =
      let s = site_fits side d h in
      let o = found_at means message all_places (site_at side d).mount in
      sited_fits side (record (site_at side d) { mount = o.1 }) d (record { mount = (found_fits all_places (site_at side d).mount s.mount).mount; files = s.files }) h

  pub replied_fits : GivesBytes means.mic → (me : List ℕ) → TextFits NAME_LIMIT me → (setting_up : Bool) (free : Option ℕ) (side : Side) (a : Acting) → ActingIsFit a
      → ActingIsFit (replies.answered setting_up means.mic me free side (replies.taken means message side a.desk).0 (with_desk (replies.taken means message side a.desk).1 a))
  replied_fits gives me m setting_up free side a h =
      let s = site_fits side a.desk h.0 in
      let o = found_at means message all_places (site_at side a.desk).mount in
      let f = found_fits all_places (site_at side a.desk).mount s.mount in
      answered_fits means.mic gives me m setting_up free side o.0 (with_desk (replies.taken means message side a.desk).1 a) f.told
      (sited_fits side (record (site_at side a.desk) { mount = o.1 }) a.desk (record { mount = f.mount; files = s.files }) h.0, h.1)
