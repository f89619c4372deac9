-- How leave is taken of a server: its open files are closed, the lowest first, and then the session ends, the client, and the
-- root's context, each once the call before it is answered (RFC 8881 sections 18.2, 18.37 and 18.50, RFC 2203 section 5.4).
use Rattle.std.specs.Prelude.{ℕ, ◌==◌, min, nat_lt, Bool, true, false, List, [], ◌∷◌, Option, Some, None}
use Rattle.client_site.specs.Sending.{ended_at}
use Rattle.client_site.specs.Taking.{found_in}
use Rattle.client_site.specs.declared.site.OpenFile.{OpenFile}
use Rattle.client_site.specs.declared.site.Site.{Site}
use Rattle.client_site.specs.declared.taking.Found.{Found}
use Rattle.file_ops.specs.declared.operation.TheConstants.{OP_DESTROY_CLIENTID, OP_DESTROY_SESSION}
use Rattle.gss_ctx.specs.Seals.{Mic}
use Rattle.mount.specs.Taking.{Means, is_lost}
use Rattle.mount.specs.declared.calling.Ending.{Ending}
use Rattle.mount.specs.declared.calling.Ending.TheVariants.{Session, Client, Context}
use Rattle.mount.specs.declared.calling.Under.TheVariants.{Root}
use Rattle.mount.specs.declared.taking.Told.{Told}
use Rattle.mount.specs.declared.taking.Told.TheVariants as tells
use Rattle.nfs_base.specs.declared.side.Side.{Side}
use Rattle.nfs_base.specs.declared.status.TheConstants.Status as statuses
use Rattle.nfs_compound.specs.declared.reply.Reply.{Reply}
use Rattle.outbox.specs.declared.label.CallLabel.{CallLabel}
use Rattle.outbox.specs.declared.label.CallLabel.TheVariants as labels
use Rattle.outbox.specs.declared.note.Dropped.TheVariants.{Unmatched}
use Rattle.outbox.specs.declared.note.Note.TheVariants as notes
use Rattle.session_calls.specs.declared.slot_call.FileCall.TheVariants as asks
use Rattle.session_calls.specs.declared.slot_call.SlotCall.{SlotCall}
use Rattle.session_calls.specs.declared.slot_call.SlotCall.TheVariants as calls
use Rattle.client_steps.specs.Acting.{Acting, goes_down, on_desk, with_desk}
use Rattle.client_steps.specs.Calling.{call_sent}
use Rattle.client_steps.specs.CopySteps.{file_on, is_up}
use Rattle.client_steps.specs.Desks.{noted, put_out, send_at, site_at}
use Rattle.client_steps.specs.Replies.{taken, under_seal}
use Rattle.client_steps.specs.declared.desk.Desk.{Desk}
use Rattle.client_steps.specs.declared.parting.Parting.{Parting}
use Rattle.client_steps.specs.declared.parting.Parting.TheVariants.{Done, Closes, Ends}

-- ---- what comes next: the lowest open file past the one that was closed last, and after the last file the session

abbrev pub is_past : Option ℕ → ℕ → Bool
is_past None file = true
is_past (Some last) file = nat_lt last file

abbrev pub lowest_of : Bool → ℕ → Option ℕ → Option ℕ
lowest_of false file lower = lower
lowest_of true file None = Some file
lowest_of true file (Some lower) = Some (min file lower)

abbrev pub next_file : Option ℕ → List OpenFile → Option ℕ
next_file last [] = None
next_file last (first ∷ more) = lowest_of (is_past last first.file) first.file (next_file last more)

abbrev pub closes : Option ℕ → Parting
closes None = Ends Session
closes (Some file) = Closes file

abbrev pub next_parting : Parting → List OpenFile → Parting
next_parting Done files = Done
next_parting (Closes file) files = closes (next_file (Some file) files)
next_parting (Ends Session) files = Ends Client
next_parting (Ends Client) files = Ends Context
next_parting (Ends Context) files = Done

-- ---- its call goes out in slot 0, or under no slot. Where it can't go out, the leave is over, and the server stays set up

abbrev pub close_call : Option OpenFile → Option SlotCall
close_call None = None
close_call (Some opened_file) = Some (calls.OnFile opened_file.handle (asks.Close opened_file.id))

abbrev pub ending_label : Ending → CallLabel
ending_label Session = labels.Operation OP_DESTROY_SESSION
ending_label Client = labels.Operation OP_DESTROY_CLIENTID
ending_label Context = labels.Destroy

abbrev pub parting_sent : Mic → Side → Parting → Desk → Bool × Desk
parting_sent mic side Done d = (false, d)
parting_sent mic side (Closes file) d = call_sent mic side 0 Root (close_call (file_on side file d)) d
parting_sent mic side (Ends ending) d = put_out side (ending_label ending) (ended_at mic (send_at 0 d) ending (site_at side d)) d

abbrev pub if_sent : Bool → Parting → Parting
if_sent true parting = parting
if_sent false parting = Done

abbrev pub parted : Mic → Side → Parting → Desk → Parting × Desk
parted mic side parting d = (if_sent (parting_sent mic side parting d).0 parting, (parting_sent mic side parting d).1)

-- ---- leave begins, where the server is set up

abbrev pub leave_if : Bool → Mic → Side → Desk → Parting × Desk
leave_if false mic side d = (Done, d)
leave_if true mic side d = parted mic side (closes (next_file None (site_at side d).files)) d

abbrev pub leave : Mic → Side → Desk → Parting × Desk
leave mic side d = leave_if (is_up side d) mic side d

-- ---- an answer lets the next call go. A denial takes the setup down, and so does an answer to CLOSE that says that the session
-- or the client is gone; the answer to the last call ends the leave in the same way

abbrev pub is_last : Parting → Bool
is_last (Ends Context) = true
is_last _ = false

abbrev pub loses : Parting → Reply → Bool
loses (Closes file) reply = is_lost reply.status
loses parting reply = is_last parting

abbrev pub takes_down : Told → Parting → Bool
takes_down (tells.Denied why) parting = true
takes_down (tells.Answer reply) parting = loses parting reply
takes_down told parting = is_last parting

abbrev pub after_answer : Bool → Mic → Side → Parting → Acting → Parting × Acting
after_answer true mic side parting a = (Done, goes_down side statuses.BADSESSION a)
after_answer false mic side parting a =
    let o = parted mic side (next_parting parting (site_at side a.desk).files) a.desk in
    (o.0, with_desk o.1 a)

-- only what was sent at place 0 is awaited
abbrev pub answered_at : Bool → Told → Mic → Side → Parting → Acting → Parting × Acting
answered_at false told mic side parting a = (parting, a)
answered_at true told mic side parting a = after_answer (takes_down told parting) mic side parting a

abbrev pub found_parting : Option Found → Mic → Side → Parting → Acting → Parting × Acting
found_parting None mic side parting a = (parting, on_desk (noted (notes.Dropped Unmatched)) a)
found_parting (Some found) mic side parting a =
    answered_at (found.place == 0) found.told mic side parting (on_desk (under_seal found.accepted) a)

abbrev pub parting_replied : Means → Side → List ℕ → Parting → Acting → Parting × Acting
parting_replied means side message parting a =
    found_parting (taken means message side a.desk).0 means.mic side parting (with_desk (taken means message side a.desk).1 a)
