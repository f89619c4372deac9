-- What a reply does, and how a setup goes on (RFC 8881 sections 18.35, 18.36 and 18.51).
use Rattle.std.specs.Prelude.{ℕ, ◌==◌, ◌&&◌, is_some, option_map, Bool, true, false, List, Option, Some, None}
use Rattle.file_ops.specs.declared.operation.TheConstants.{OP_CREATE_SESSION, OP_EXCHANGE_ID}
use Rattle.gss_ctx.specs.Seals.{Mic}
use Rattle.nfs_base.specs.declared.seal.Seal.{Seal}
use Rattle.nfs_base.specs.declared.side.Side.{Side}
use Rattle.nfs_base.specs.declared.side.Side.TheVariants.{Source, Dest}
use Rattle.nfs_base.specs.declared.state_id.StateId.{StateId}
use Rattle.client_copies.specs.Table.{accepted_at}
use Rattle.client_copies.specs.declared.event.Event.TheVariants as events
use Rattle.client_site.specs.Sending.{back_channel}
use Rattle.client_site.specs.Sites.{with_file}
use Rattle.client_site.specs.Taking.{found_in}
use Rattle.client_site.specs.declared.site.OpenFile.{OpenFile}
use Rattle.client_site.specs.declared.site.Site.{Site}
use Rattle.client_site.specs.declared.taking.Found.{Found}
use Rattle.mount.specs.State.{is_setting_up, root_context, setup_in}
use Rattle.mount.specs.Taking.{Means}
use Rattle.mount.specs.declared.state.Context.{Context}
use Rattle.mount.specs.declared.taking.Told.{Told}
use Rattle.outbox.specs.declared.label.CallLabel.TheVariants as labels
use Rattle.outbox.specs.declared.note.Dropped.TheVariants.{Unmatched}
use Rattle.outbox.specs.declared.note.Note.TheVariants as notes
use Rattle.session_client.specs.declared.setup.Setup.{Setup}
use Rattle.session_client.specs.declared.setup.Setup.TheVariants as setups
use Rattle.write_queue.specs.declared.work.QueueEvent.TheVariants as works
use Rattle.client_steps.specs.Acting.{Acting, goes_down, on_desk, queue_at, queue_told, with_desk}
use Rattle.client_steps.specs.Answers.{copy_deed, setup_deed, work_deed}
use Rattle.client_steps.specs.Calling.{reclaim_sent, step_sent}
use Rattle.client_steps.specs.CopySteps.{copy_in}
use Rattle.client_steps.specs.Desks.{noted, said_by, site_at, told_to, with_site}
use Rattle.client_steps.specs.declared.deeds.Deed.{Deed}
use Rattle.client_steps.specs.declared.deeds.Deed.TheVariants as deeds
use Rattle.client_steps.specs.declared.desk.Desk.{Desk}
use Rattle.client_steps.specs.declared.setting.Setting.{Setting}

-- ---- the setup goes on: with CREATE_SESSION a context for callbacks is made, where there is room for one

abbrev pub with_back : Option ℕ → Side → Desk → Desk
with_back back side d = with_site side (record (site_at side d) { back = back }) d

-- a root's handle and its key
abbrev pub root_key : Option Context → Option (List ℕ × List ℕ)
root_key root = option_map (λ c. (c.root, c.key)) root

abbrev pub back_made : Option ℕ → Option (List ℕ × List ℕ) → Side → Desk → Desk
back_made None root side d = d
back_made (Some number) None side d = d
back_made (Some number) (Some root) side d = with_back (Some number) side (record d { made = Some root.1 })

abbrev pub back_if : Bool → Option ℕ → Option (List ℕ × List ℕ) → Side → Desk → Desk
back_if true free root side d = back_made free root side d
back_if false free root side d = d

abbrev pub session_asked : Mic → List ℕ → Option ℕ → Side → Desk → Desk
session_asked mic me free side d =
    let o = step_sent mic me side (back_channel free (site_at side d)) (labels.Operation OP_CREATE_SESSION) d in
    back_if o.0 free (root_key (root_context (site_at side d).mount)) side o.1

abbrev pub setup_by : Setup → Mic → List ℕ → Option ℕ → Side → Desk → Desk
setup_by (setups.Rooted verifier) mic me free side d = (step_sent mic me side None (labels.Operation OP_EXCHANGE_ID) d).1
setup_by (setups.Registered client sequence) mic me free side d = session_asked mic me free side d
setup_by (setups.Joined client session) mic me free side d = (reclaim_sent mic side d).1
setup_by _ mic me free side d = d

abbrev pub setup_goes_on : Mic → List ℕ → Option ℕ → Side → Desk → Desk
setup_goes_on mic me free side d = setup_by (setup_in (site_at side d).mount.standing) mic me free side d

-- ---- what an answer does

abbrev pub file_added : Side → OpenFile → Desk → Desk
file_added side opened_file d = with_site side (with_file opened_file (site_at side d)) d

abbrev pub opener_told : Bool → Side → ℕ → Acting → Acting
opener_told true side place a = queue_told side works.Opened a
opener_told false side place a = on_desk (told_to place (events.Opened side)) a

abbrev pub opened : Side → ℕ → OpenFile → Acting → Acting
opened side place opened_file a = opener_told (place == 0) side place (on_desk (file_added side opened_file) a)

abbrev pub started : ℕ → StateId → ℕ → Desk → Desk
started j id sent_at d =
    said_by j (accepted_at j id sent_at d.copies).0 (record d { copies = (accepted_at j id sent_at d.copies).1 })

abbrev pub done : Deed → Mic → List ℕ → Option ℕ → Side → ℕ → ℕ → Acting → Acting
done deeds.Rests mic me free side place sent_at a = a
done deeds.Goes mic me free side place sent_at a = on_desk (setup_goes_on mic me free side) a
done (deeds.Falls status) mic me free side place sent_at a = goes_down side status a
done (deeds.Opens opened_file) mic me free side place sent_at a = opened side place opened_file a
done (deeds.Queue event) mic me free side place sent_at a = queue_told side event a
done (deeds.Copy event) mic me free side place sent_at a = on_desk (told_to place event) a
done (deeds.Starts id) mic me free side place sent_at a = on_desk (started place id sent_at) a

-- ---- a reply is to a call of the setup or of the queue at place 0, and to a copy's at the place of its number

abbrev pub first_deed : Bool → Told → Side → Acting → Deed
first_deed true told side a = setup_deed told
first_deed false told side a = work_deed told (queue_at side a)

abbrev pub deed_at : Bool → Bool → Told → Side → ℕ → ℕ → Acting → Deed
deed_at true setting_up told side place sent_at a = first_deed setting_up told side a
deed_at false setting_up told side place sent_at a = copy_deed told side (copy_in place a.desk) sent_at a.desk

abbrev pub deed_of : Bool → Told → Side → ℕ → ℕ → Acting → Deed
deed_of setting_up told side place sent_at a = deed_at (place == 0) setting_up told side place sent_at a

abbrev pub under_seal : Option Seal → Desk → Desk
under_seal accepted d = record d { out = record d.out { accepted = accepted } }

abbrev pub answered : Bool → Mic → List ℕ → Option ℕ → Side → Option Found → Acting → Acting
answered setting_up mic me free side None a = on_desk (noted (notes.Dropped Unmatched)) a
answered setting_up mic me free side (Some found) a =
    let b = on_desk (under_seal found.accepted) a in
    done (deed_of setting_up found.told side found.place found.sent_at b) mic me free side found.place found.sent_at b

abbrev pub taken : Means → List ℕ → Side → Desk → Option Found × Desk
taken means message side d =
    let o = found_in means message (site_at side d) in
    (o.0, with_site side o.1 d)

abbrev pub replied : Means → List ℕ → Option ℕ → Side → List ℕ → Acting → Acting
replied means me free side message a =
    answered (is_setting_up (site_at side a.desk).mount) means.mic me free side (taken means message side a.desk).0
    (with_desk (taken means message side a.desk).1 a)
