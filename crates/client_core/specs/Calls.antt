-- What a client answers to calls of its callback program other than CB_COMPOUND (RFC 5531 section 9, RFC 2203 section 5,
-- RFC 7861 section 2.7, RFC 8881 section 20.1). Only the contexts and the second change.
use Rattle.std.specs.Prelude.{ℕ, ◌≡◌, ◌+◌, Bool, true, false, replicate, List, [], ◌∷◌, Option, Some, None, Result, Ok, Err}
use Rattle.client_steps.specs.Desks.{going}
use Rattle.copy_privs.specs.declared.fault.PrivFault.{PrivFault}
use Rattle.copy_privs.specs.declared.fault.PrivFault.TheVariants.{UnknownName, BadXdr}
use Rattle.copy_privs.specs.declared.privilege.Privilege.{Privilege}
use Rattle.gss_ctx.specs.Seals.{Mic}
use Rattle.gss_ctx.specs.Table.{ContextTable}
use Rattle.gss_ctx.specs.declared.admit.Why.{Why}
use Rattle.gss_ctx.specs.declared.admit.Why.TheVariants as whys
use Rattle.gss_mech.specs.declared.mechanism.Accepted.{Accepted}
use Rattle.nfs_base.specs.declared.cause.PrivCause.TheVariants.{Unknown}
use Rattle.nfs_base.specs.declared.seal.Seal.{Seal}
use Rattle.nfs_base.specs.declared.side.Side.{Side}
use Rattle.outbox.specs.Outboxes.{one_reply, silence}
use Rattle.outbox.specs.declared.label.CallLabel.TheVariants as calls
use Rattle.outbox.specs.declared.label.Label.{Label}
use Rattle.outbox.specs.declared.label.Label.TheVariants as labels
use Rattle.outbox.specs.declared.note.Dropped.{Dropped}
use Rattle.outbox.specs.declared.note.Dropped.TheVariants as dropped
use Rattle.outbox.specs.declared.note.Note.{Note}
use Rattle.outbox.specs.declared.note.Note.TheVariants as notes
use Rattle.outbox.specs.declared.outgoing.Outbox.{Outbox}
use Rattle.outbox.specs.declared.outgoing.Outgoing.{Outgoing}
use Rattle.rpc_calls.specs.Answers.{accepted_seal, counted, denial_reply, ended, failure_reply, result_reply, seal_in}
use Rattle.rpc_calls.specs.Making.{AnswersInit, made_seal}
use Rattle.rpc_calls.specs.declared.call.Call.{Call}
use Rattle.rpc_calls.specs.declared.call.Under.{Under}
use Rattle.rpc_calls.specs.declared.contexts.InitAnswer.{InitAnswer}
use Rattle.rpc_calls.specs.declared.numbers.TheConstants.{RPCSEC_GSS_PRIVILEGE_PROBLEM}
use Rattle.rpc_msg.specs.Heads.{stat_case}
use Rattle.rpc_msg.specs.declared.reply.Denial.{Denial}
use Rattle.rpc_msg.specs.declared.reply.Denial.TheVariants.{Auth, Mismatch}
use Rattle.rpc_msg.specs.declared.reply.Stat.{Stat}
use Rattle.rpc_msg.specs.declared.reply.Stat.TheVariants.{Garbage}
use Rattle.streams.specs.declared.draws.Drawn.{Drawn}
use Rattle.wire_xdr.specs.Arms.{number_of}
use Rattle.client_core.specs.Endings.{undrawn}
use Rattle.client_core.specs.State.{ClientState}

-- ---- what records are called

abbrev pub drop_cause : Why → Dropped
drop_cause whys.Repeat = dropped.Repeat
drop_cause whys.Old = dropped.Old

abbrev pub denial_label : Denial → Label
denial_label (Auth why) = labels.Denied why
denial_label (Mismatch low high) = labels.Mismatch

abbrev pub fault_label : Stat → Label
fault_label failure = labels.Fault (number_of stat_case failure)

-- ---- only the second and the contexts change

abbrev pub resting : {M : Type 0} → ℕ → ContextTable ℕ → ClientState M → ClientState M
resting second back c = record c { second = second; back = back; steps = c.steps + 1 }

-- nothing goes out
abbrev pub dropping : {M : Type 0} → ℕ → ContextTable ℕ → Dropped → ClientState M → ClientState M × Outbox
dropping second back why c = (resting second back c, silence (notes.Dropped why))

abbrev pub call_dropped : {M : Type 0} → ℕ → Call → Why → ClientState M → ClientState M × Outbox
call_dropped second call why c = dropping second (counted second call c.back) (drop_cause why) c

-- an answer goes back to the server that called; the call is accepted under the seal of its admission
abbrev pub answering : {M : Type 0} → ℕ → ContextTable ℕ → Call → Outgoing → ClientState M → ClientState M × Outbox
answering second back call reply c = (resting second back c, one_reply (accepted_seal c.back call) reply)

-- ---- denials and failed calls, which carry no seal

abbrev pub denied : {M : Type 0} → ℕ → Side → Call → Denial → ClientState M → ClientState M × Outbox
denied second side call why c =
    answering second (counted second call c.back) call (going side (denial_reply call.head.xid why) None (denial_label why)) c

abbrev pub failed : {M : Type 0} → Mic → ℕ → Side → Call → Stat → ClientState M → ClientState M × Outbox
failed mic second side call failure c =
    answering second (counted second call c.back) call (going side (failure_reply mic c.back call failure) None (fault_label failure)) c

-- ---- NULL and DESTROY, which have no result; the answer is sealed where it goes under a context

abbrev pub reply_seal : ContextTable ℕ → Option Under → Option Seal
reply_seal table None = None
reply_seal table (Some under) = Some (seal_in table under.number under.seq)

abbrev pub result_back : Mic → ContextTable ℕ → Side → Call → List ℕ → Label → Outgoing
result_back mic table side call result label = going side (result_reply mic table call result) (reply_seal table call.under) label

abbrev pub nulled : {M : Type 0} → Mic → ℕ → Side → Call → ClientState M → ClientState M × Outbox
nulled mic second side call c =
    answering second (counted second call c.back) call (result_back mic c.back side call [] (labels.Reply calls.Null 0)) c

abbrev pub destroyed : {M : Type 0} → Mic → ℕ → Side → Call → ClientState M → ClientState M × Outbox
destroyed mic second side call c =
    answering second (ended second call c.back) call (result_back mic c.back side call [] (labels.Reply calls.Destroy 0)) c

-- ---- CREATE: a privilege that is misspelt is a failed call, and of the others a client gives none

abbrev pub is_misspelt : Result Privilege PrivFault → Bool
is_misspelt (Err (BadXdr at)) = true
is_misspelt (Err UnknownName) = false
is_misspelt (Ok privilege) = false

abbrev pub with_note : {M : Type 0} → Note → ClientState M × Outbox → ClientState M × Outbox
with_note note e = (e.0, record e.1 { notes = note ∷ [] })

abbrev pub created : {M : Type 0} → Bool → Mic → ℕ → Side → Call → ClientState M → ClientState M × Outbox
created true mic second side call c = failed mic second side call Garbage c
created false mic second side call c = with_note (notes.Privilege Unknown) (denied second side call (Auth RPCSEC_GSS_PRIVILEGE_PROBLEM) c)

-- ---- INIT, by what the contexts say of its token; where the draw fails, nothing changes

abbrev pub inited : {M : Type 0} → ℕ → Side → InitAnswer → ContextTable ℕ → ClientState M → ClientState M × Outbox
inited second side told back c =
    (resting second back c, one_reply None (going side told.bytes (made_seal back told.made) (labels.Reply calls.Init told.major)))

abbrev pub inited_unless : {M : Type 0} → Bool → ℕ → Side → InitAnswer → ContextTable ℕ → ClientState M → ClientState M × Outbox
inited_unless true second side told back c = undrawn c
inited_unless false second side told back c = inited second side told back c

pub record IsInit {M W : Type 0} (mic : Mic) (accepted : List ℕ → Option Accepted) (gives : W → Drawn → W → Type 0)
    (second : ℕ) (side : Side) (call : Call) (c : ClientState M) (before after : W) (end : ClientState M × Outbox) : Type 0 where
  pub told : InitAnswer
  pub back : ContextTable ℕ
  pub answers : AnswersInit mic accepted gives second call.head.xid (accepted (replicate 32 0)) c.back back before after told
  pub is : end ≡ inited_unless told.draw_failed second side told back c
