-- What a CB_COMPOUND does (RFC 8881 sections 16.2 and 20, RFC 7862 section 16.1): it is evaluated over the copies, in the
-- session of the context under which it comes; what is told of copies is noted, and the results go back. What waits for
-- these copies then goes on.
use Rattle.std.specs.Prelude.{ℕ, ◌≡◌, fold, List, [], ◌∷◌, Option, Some, None, Result, Ok, Err}
use Rattle.callbacks.specs.Callbacks.{Outcome, evaluated}
use Rattle.callbacks.specs.Writing.{reply_to}
use Rattle.callbacks.specs.declared.evaluation.Told.{Told}
use Rattle.client_site.specs.Sites.{calls_back}
use Rattle.client_steps.specs.Acting.{on_desk}
use Rattle.client_steps.specs.Desks.{posted, said_by}
use Rattle.client_steps.specs.Replies.{under_seal}
use Rattle.client_steps.specs.declared.desk.Desk.{Desk}
use Rattle.gss_ctx.specs.Seals.{Mic}
use Rattle.nfs_base.specs.declared.side.Side.{Side}
use Rattle.nfs_compound.specs.Callbacks.{cb_op_number, cb_reply}
use Rattle.nfs_compound.specs.Compounds.{IsCbCompound}
use Rattle.nfs_compound.specs.declared.cb_compound.CbCompound.{CbCompound}
use Rattle.nfs_compound.specs.declared.cb_op.CbOp.{CbOp}
use Rattle.outbox.specs.declared.label.CallLabel.{CallLabel}
use Rattle.outbox.specs.declared.label.CallLabel.TheVariants as calls
use Rattle.outbox.specs.declared.label.Label.{Label}
use Rattle.outbox.specs.declared.label.Label.TheVariants as labels
use Rattle.outbox.specs.declared.outgoing.Outbox.{Outbox}
use Rattle.rpc_calls.specs.Answers.{accepted_seal, counted}
use Rattle.rpc_calls.specs.declared.call.Call.{Call}
use Rattle.rpc_calls.specs.declared.call.Under.{Under}
use Rattle.rpc_msg.specs.declared.reply.Stat.TheVariants.{Garbage}
use Rattle.streams.specs.declared.draws.Drawn.{Drawn}
use Rattle.client_core.specs.Calls.{failed, result_back}
use Rattle.client_core.specs.Endings.{IsStep, Ways, acting_at}
use Rattle.client_core.specs.State.{ClientState, second_at}

-- these operations were read from bytes
abbrev pub WasRead : CbCompound → Type 0
WasRead compound = (bytes : List ℕ) × IsCbCompound compound bytes

-- ---- the session of the context under which the call comes, of either server's setup

abbrev pub session_or : Option (List ℕ) → Option (List ℕ) → Option (List ℕ)
session_or (Some session) other = Some session
session_or None other = other

abbrev pub session_of : {M : Type 0} → ℕ → ClientState M → Option (List ℕ)
session_of context c = session_or (calls_back context c.source) (calls_back context c.dest)

abbrev pub session_under : {M : Type 0} → Option Under → ClientState M → Option (List ℕ)
session_under None c = None
session_under (Some under) c = session_of under.number c

-- ---- what is told of copies is noted, and the results go back; the reply is called by the last operation that was read

abbrev pub all_said : List Told → Desk → Desk
all_said [] d = d
all_said (one ∷ more) d = all_said more (said_by one.copy one.said d)

abbrev pub cb_label : List CbOp → CallLabel
cb_label ops = fold (λ label op. calls.Callback (cb_op_number op)) calls.Compound ops

abbrev pub reply_label : CbCompound → ℕ → Label
reply_label compound status = labels.Reply (cb_label compound.ops) status

abbrev pub told_of : {M : Type 0} → Mic → Side → Call → CbCompound → Outcome → ClientState M → Desk → Desk
told_of mic side call compound o c d =
    posted (result_back mic c.back side call (cb_reply.spell (reply_to compound o)) (reply_label compound o.status.number))
    (all_said o.told (record d { copies = o.copies }))

-- ---- a CB_COMPOUND; one that can't be read is a failed call

abbrev pub called_back : {M : Type 0} → Mic → Side → Call → CbCompound → ClientState M → Desk → Desk
called_back mic side call compound c d =
    told_of mic side call compound (evaluated (session_under call.under c) compound d.copies) c (under_seal (accepted_seal c.back call) d)

abbrev pub IsCompound : {M W : Type 0} → Result CbCompound ℕ → Ways → (W → Drawn → W → Type 0) → ℕ → Side → Call → ClientState M → W → W
    → ClientState M × Outbox → Type 0
IsCompound (Err at) ways gives now side call c before after end =
    (end ≡ failed ways.means.mic (second_at now c) side call Garbage c) × (after ≡ before)
IsCompound (Ok compound) ways gives now side call c before after end =
    IsStep ways gives (on_desk (called_back ways.means.mic side call compound c) (acting_at now c)) (λ a. counted (second_at now c) call c.back)
    c before after end
