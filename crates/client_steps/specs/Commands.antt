-- What a client is told to do with its copies: to ask how far one is, to cancel it, and to send again (RFC 7862 sections
-- 15.8 and 15.9).
use Rattle.std.specs.Prelude.{ℕ, ◌==◌, not, is_some, Bool, true, false, List, [], ◌∷◌, Option, Some, None}
use Rattle.file_ops.specs.declared.operation.TheConstants.{OP_COMMIT, OP_GETFH, OP_WRITE}
use Rattle.gss_ctx.specs.Seals.{Mic}
use Rattle.nfs_base.specs.declared.side.Side.{Side}
use Rattle.nfs_base.specs.declared.side.Side.TheVariants.{Source, Dest}
use Rattle.nfs_base.specs.declared.state_id.StateId.{StateId}
use Rattle.client_copies.specs.Copies.{asking, is_overdue}
use Rattle.client_copies.specs.declared.copy.Asking.{Asking}
use Rattle.client_copies.specs.declared.copy.Asking.TheVariants as asking
use Rattle.client_copies.specs.declared.copy.ClientCopy.{ClientCopy}
use Rattle.client_copies.specs.declared.copy.Query.{Query}
use Rattle.client_copies.specs.declared.copy.Query.TheVariants as queries
use Rattle.client_copies.specs.declared.copy.Stage.{Stage}
use Rattle.client_copies.specs.declared.copy.Stage.TheVariants as stages
use Rattle.client_copies.specs.declared.event.Event.TheVariants as events
use Rattle.client_site.specs.declared.site.OpenFile.{OpenFile}
use Rattle.mount.specs.State.{is_setting_up, setup_in}
use Rattle.mount.specs.declared.calling.Under.TheVariants.{Root}
use Rattle.outbox.specs.declared.label.CallLabel.{CallLabel}
use Rattle.outbox.specs.declared.label.CallLabel.TheVariants as labels
use Rattle.outbox.specs.declared.note.Note.TheVariants as notes
use Rattle.session_calls.specs.declared.slot_call.FileCall.{FileCall}
use Rattle.session_calls.specs.declared.slot_call.FileCall.TheVariants as asks
use Rattle.session_calls.specs.declared.slot_call.SlotCall.{SlotCall}
use Rattle.session_calls.specs.declared.slot_call.SlotCall.TheVariants as calls
use Rattle.write_queue.specs.Queue.{Queued, first}
use Rattle.write_queue.specs.declared.queue.Head.{Head}
use Rattle.write_queue.specs.declared.queue.Head.TheVariants as heads
use Rattle.write_queue.specs.declared.work.Work.{Work}
use Rattle.write_queue.specs.declared.work.Work.TheVariants as works
use Rattle.client_steps.specs.Acting.{Acting, on_desk}
use Rattle.client_steps.specs.Answers.{query_of}
use Rattle.client_steps.specs.Calling.{again_sent, call_sent, query_label, setup_label, step_label}
use Rattle.client_steps.specs.CopySteps.{all_copies, copy_in, file_on}
use Rattle.client_steps.specs.Desks.{in_note, noted, site_at, told_to}
use Rattle.client_steps.specs.declared.desk.Desk.{Desk}

-- ---- OFFLOAD_STATUS and OFFLOAD_CANCEL

abbrev pub query_ask : Query → StateId → FileCall
query_ask queries.Status id = asks.Status id
query_ask queries.Cancel id = asks.Cancel id

abbrev pub query_with : Query → Option StateId → Option OpenFile → Option SlotCall
query_with query (Some id) (Some opened_file) = Some (calls.OnFile opened_file.handle (query_ask query id))
query_with query _ _ = None

abbrev pub query_call : Query → ClientCopy → Desk → Option SlotCall
query_call query c d = query_with query c.id (file_on Dest c.spec.dst_file d)

abbrev pub queried_if : Bool → ℕ → Query → Desk → Desk
queried_if true j query d = told_to j (events.Queried query) d
queried_if false j query d = d

abbrev pub queried : Mic → ℕ → Query → ClientCopy → Desk → Desk
queried mic j query c d =
    let o = call_sent mic Dest j Root (query_call query c d) d in
    queried_if o.0 j query o.1

-- a copy can't be asked while a call of it is awaited, nor where it isn't accepted, or is reported
abbrev pub asked_by : Asking → Mic → ℕ → Query → ClientCopy → Desk → Desk
asked_by asking.Busy mic j query c d = noted (notes.Busy (in_note j)) d
asked_by asking.Idle mic j query c d = noted (notes.Idle (in_note j)) d
asked_by asking.Ready mic j query c d = queried mic j query c d

abbrev pub asked_of : Option ClientCopy → Mic → ℕ → Query → Desk → Desk
asked_of None mic j query d = noted (notes.Idle (in_note j)) d
asked_of (Some c) mic j query d = asked_by (asking c) mic j query c d

abbrev pub asked : Mic → ℕ → Query → Desk → Desk
asked mic j query d = asked_of (copy_in j d) mic j query d

-- ---- a second comes: copies that were asked nothing for 30 seconds are asked how far they are

abbrev pub ticked_if : Bool → Mic → ℕ → ClientCopy → Desk → Desk
ticked_if true mic j c d = queried mic j queries.Status c d
ticked_if false mic j c d = d

abbrev pub ticked_of : Option ClientCopy → Mic → ℕ → Desk → Desk
ticked_of None mic j d = d
ticked_of (Some c) mic j d = ticked_if (is_overdue d.second c) mic j c d

unfoldable pub ticked : Mic → List ℕ → Desk → Desk
ticked mic [] d = d
ticked mic (j ∷ js) d = ticked mic js (ticked_of (copy_in j d) mic j d)

-- ---- all that is awaited goes out again: setups, slot 0, then the copies by number, each at the destination first

abbrev pub work_op : Work → ℕ
work_op (works.Write file offset bytes) = OP_WRITE
work_op (works.Commit file) = OP_COMMIT

abbrev pub works_label : Option Work → CallLabel
works_label None = labels.Compound
works_label (Some work) = labels.Operation (work_op work)

abbrev pub head_label : Head → Option Work → CallLabel
head_label heads.Opening work = labels.Operation OP_GETFH
head_label heads.Due work = works_label work
head_label heads.Asked work = works_label work

abbrev pub queue_label : Queued → CallLabel
queue_label q = head_label q.head (first q.works)

abbrev pub stage_label : Stage → CallLabel
stage_label (stages.Asked step) = step_label step
stage_label _ = labels.Compound

abbrev pub copy_call_label : Option Query → ClientCopy → CallLabel
copy_call_label None c = stage_label c.stage
copy_call_label (Some query) c = query_label query

abbrev pub copy_label : Side → Option ClientCopy → CallLabel
copy_label side None = labels.Compound
copy_label side (Some c) = copy_call_label (query_of side c) c

abbrev pub setup_again : Mic → Bool → Side → Desk → Desk
setup_again mic true side d = again_sent mic side 0 (setup_label (setup_in (site_at side d).mount.standing)) d
setup_again mic false side d = d

abbrev pub work_again : Mic → Bool → Side → CallLabel → Desk → Desk
work_again mic true side label d = again_sent mic side 0 label d
work_again mic false side label d = d

abbrev pub copy_again : Mic → Side → ℕ → Desk → Desk
copy_again mic side j d = again_sent mic side j (copy_label side (copy_in j d)) d

unfoldable pub copies_again : Mic → List ℕ → Desk → Desk
copies_again mic [] d = d
copies_again mic (j ∷ js) d = copies_again mic js (copy_again mic Source j (copy_again mic Dest j d))

-- by which setups are going on, and by what the works' calls are called
abbrev pub setups_again : Mic → (source dest : Bool) → Desk → Desk
setups_again mic source dest d = setup_again mic dest Dest (setup_again mic source Source d)

abbrev pub works_again : Mic → (source dest : Bool) → (at_source at_dest : CallLabel) → Desk → Desk
works_again mic source dest at_source at_dest d = work_again mic (not dest) Dest at_dest (work_again mic (not source) Source at_source d)

abbrev pub all_again : Mic → (source dest : Bool) → (at_source at_dest : CallLabel) → Desk → Desk
all_again mic source dest at_source at_dest d =
    copies_again mic all_copies (works_again mic source dest at_source at_dest (setups_again mic source dest d))

abbrev pub retried : Mic → Acting → Acting
retried mic a =
    on_desk (all_again mic (is_setting_up a.desk.source.mount) (is_setting_up a.desk.dest.mount) (queue_label a.source_queue) (queue_label a.dest_queue)) a
