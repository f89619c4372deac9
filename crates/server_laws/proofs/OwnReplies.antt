-- All that a server sends are replies.
use Rattle.std.proofs.Common.{◌≡◌, ℕ, ◌+◌, ◌%◌, ◌<◌, ◌^◌, Bool, false, List, [], ◌∷◌, ◌++◌, map, Contains, Option, Some, None, Result, Ok, Err, true, refl, sym, ap, subst, ◌∙◌, append-nil, lit<, arith}
use Rattle.std.specs.Prelude.{max, replicate}
use Rattle.gss_ctx.specs.Calls.{none_auth}
use Rattle.gss_ctx.specs.Making.{Inits, InitsUnless, InitsWith, Makes}
use Rattle.gss_ctx.specs.Table.{is_full}
use Rattle.gss_ctx.specs.Seals.{Mic, code_auth, reply_code, reply_front}
use Rattle.gss_ctx.specs.Table.{ContextTable, context_of}
use Rattle.gss_ctx.specs.declared.context.Context.{Context}
use Rattle.gss_ctx.specs.declared.making.Inited.{Inited}
use Rattle.gss_ctx.specs.declared.making.Inited.TheVariants.{Made, Refused}
use Rattle.gss_mech.specs.Tokens.{IsSized}
use Rattle.gss_mech.specs.declared.mechanism.Accepted.{Accepted}
use Rattle.nfs_base.specs.declared.seal.Seal.{Seal}
use Rattle.nfs_compound.specs.Compounds.{compound_of}
use Rattle.nfs_compound.specs.declared.compound.Compound.{Compound}
use Rattle.outbox.specs.declared.outgoing.Outgoing.{Outgoing}
use Rattle.rpc_calls.specs.Answers.{denial_reply, failure_by, failure_reply, failure_with, plain_front, result_by, result_reply, result_with}
use Rattle.rpc_calls.specs.Judging.{judged_of}
use Rattle.rpc_calls.specs.Making.{init_reply, init_told}
use Rattle.rpc_calls.specs.declared.call.Call.{Call}
use Rattle.rpc_calls.specs.declared.contexts.InitAnswer.{InitAnswer}
use Rattle.rpc_calls.specs.declared.call.Judged.{Judged}
use Rattle.rpc_calls.specs.declared.call.Judged.TheVariants as judged
use Rattle.rpc_calls.specs.declared.call.TheConstants.Program as programs
use Rattle.rpc_calls.specs.declared.call.Under.{Under}
use Rattle.rpc_calls.specs.declared.call.What.{What}
use Rattle.rpc_calls.specs.declared.call.What.TheVariants as whats
use Rattle.rpc_msg.specs.Heads as heads
use Rattle.rpc_msg.specs.Heads.{auth, denial, reply, stat}
use Rattle.rpc_msg.specs.declared.auth.Auth.{Auth}
use Rattle.rpc_msg.specs.declared.call.CallHead.{CallHead}
use Rattle.rpc_msg.specs.declared.reply.Denial.{Denial}
use Rattle.rpc_msg.specs.declared.reply.Denial.TheVariants as denials
use Rattle.rpc_msg.specs.declared.reply.ReplyHead.TheVariants as replies
use Rattle.rpc_msg.specs.declared.reply.Stat.{Stat}
use Rattle.rpc_msg.specs.declared.reply.Stat.TheVariants as stats
use Rattle.server_volume.specs.Choices.{choice_of}
use Rattle.streams.specs.declared.draws.Drawn.{Drawn}
use Rattle.streams.specs.declared.draws.Drawn.TheVariants.{Failed, Got}
use Rattle.slot_calls.specs.JudgedLaws.{call_fits}
use Rattle.wire_model.specs.Wire.{Sent}
use Rattle.wire_spelling.specs.ReadLaws.{begun_is, denial_is, failure_is, plain_is, sealed_reply_is, success_fits, xid_small}
use Rattle.wire_spelling.specs.Replies.{is_reply}
use Rattle.wire_xdr.specs.Cursor.{IsBytes}
use Rattle.wire_xdr.specs.Words.{word_bytes}
use Rattle.session_server.specs.declared.extending.Judgement.{Judgement}
use Rattle.session_server.specs.declared.extending.Judgement.TheVariants as judgements
use Rattle.session_server.specs.Host.{Codes, HostState, Rules, Stepped}
use Rattle.session_server.specs.Steps.{IsCompoundTurn, IsInit, IsJudgedTurn, IsWhatTurn, judged_create, judgement_under}
use Rattle.server_laws.specs.Acts.{sent_of}
use Rattle.server_laws.specs.Lawful.{SendsReplies}
use Rattle.server_laws.specs.Steps.{IsStep}
use Rattle.server_laws.proofs.SlotSteps.{only_sent}

abbrev IsReply : List ℕ → Type 0
IsReply bytes = is_reply bytes ≡ true

-- ---- a number past all words is spelled as the word that is left of it

word_left : (n : ℕ) → word_bytes n ≡ word_bytes (n % 2 ^ 32)
unfolding word_bytes
word_left n = grind arith

left_small : (n : ℕ) → n % 2 ^ 32 < 2 ^ 32
left_small n = omega arith

-- two words spelled one behind the other
pair_left : (low high : ℕ) → word_bytes low ++ word_bytes high ≡ word_bytes (low % 2 ^ 32) ++ word_bytes (high % 2 ^ 32)
pair_left low high =
    ap (λ (w : List ℕ). w ++ word_bytes high) (word_left low) ∙ ap (λ (w : List ℕ). word_bytes (low % 2 ^ 32) ++ w) (word_left high)

-- ---- denials

auth_left : (xid why : ℕ) → denial_reply xid (denials.Auth why) ≡ denial_reply xid (denials.Auth (why % 2 ^ 32))
unfolding reply denial
auth_left xid why = ap (λ (w : List ℕ). word_bytes xid ++ (word_bytes 1 ++ (word_bytes 1 ++ (word_bytes 1 ++ w)))) (word_left why)

mismatch_left : (xid low high : ℕ) → denial_reply xid (denials.Mismatch low high) ≡ denial_reply xid (denials.Mismatch (low % 2 ^ 32) (high % 2 ^ 32))
unfolding reply denial
mismatch_left xid low high = ap (λ (w : List ℕ). word_bytes xid ++ (word_bytes 1 ++ (word_bytes 1 ++ (word_bytes 0 ++ w)))) (pair_left low high)

auth_fits : (why : ℕ) → why < 2 ^ 32 → denial.Fits (denials.Auth why)
unfolding denial
auth_fits why small = (lit< tt, small)

mismatch_fits : (low high : ℕ) → low < 2 ^ 32 → high < 2 ^ 32 → denial.Fits (denials.Mismatch low high)
unfolding denial
mismatch_fits low high first second = (lit< tt, (first, second))

denied_is : (xid : ℕ) (why : Denial) → xid < 2 ^ 32 → IsReply (denial_reply xid why)
denied_is xid (denials.Auth why) small =
    ap is_reply (auth_left xid why) ∙ denial_is xid (denials.Auth (why % 2 ^ 32)) small (auth_fits (why % 2 ^ 32) (left_small why))
denied_is xid (denials.Mismatch low high) small =
    ap is_reply (mismatch_left xid low high)
    ∙ denial_is xid (denials.Mismatch (low % 2 ^ 32) (high % 2 ^ 32)) small (mismatch_fits (low % 2 ^ 32) (high % 2 ^ 32) (left_small low) (left_small high))

-- ---- calls that failed

-- a status of a reply as it is spelled
abbrev stat_left : Stat → Stat
stat_left (stats.ProgMismatch low high) = stats.ProgMismatch (low % 2 ^ 32) (high % 2 ^ 32)
stat_left what = what

stat_fits : (what : Stat) → stat.Fits (stat_left what)
unfolding stat
stat_fits (stats.ProgMismatch low high) = (lit< tt, (left_small low, left_small high))
stat_fits stats.Success = (lit< tt, tt)
stat_fits stats.ProgUnavail = (lit< tt, tt)
stat_fits stats.ProcUnavail = (lit< tt, tt)
stat_fits stats.Garbage = (lit< tt, tt)
stat_fits stats.SystemErr = (lit< tt, tt)

stat_same : (what : Stat) → stat.spell what ≡ stat.spell (stat_left what)
unfolding stat
stat_same (stats.ProgMismatch low high) = ap (λ (w : List ℕ). word_bytes 2 ++ w) (pair_left low high)
stat_same stats.Success = refl
stat_same stats.ProgUnavail = refl
stat_same stats.ProcUnavail = refl
stat_same stats.Garbage = refl
stat_same stats.SystemErr = refl

accepted_same : (xid : ℕ) (verf : Auth) (what : Stat) → reply.spell (replies.Accepted xid verf what) ≡ reply.spell (replies.Accepted xid verf (stat_left what))
unfolding reply
accepted_same xid verf what = ap (λ (w : List ℕ). word_bytes xid ++ (word_bytes 1 ++ (word_bytes 0 ++ (auth.spell verf ++ w)))) (stat_same what)

plain_failure : (xid : ℕ) (what : Stat) → xid < 2 ^ 32 → IsReply (plain_front xid what)
plain_failure xid what small =
    ap is_reply (accepted_same xid none_auth what ∙ sym (append-nil (plain_front xid (stat_left what))))
    ∙ plain_is xid (stat_left what) [] small (stat_fits what)

sealed_failure : (mic : Mic) (key : List ℕ) (head : CallHead) (seq : ℕ) (what : Stat) → IsSized mic → heads.call.Fits head → IsReply (reply_front mic key head seq what)
unfolding reply_front
sealed_failure mic key head seq what sized fits =
    ap is_reply (accepted_same head.xid (code_auth (reply_code mic key head seq)) what) ∙ failure_is mic key head seq (stat_left what) sized fits (stat_fits what)

module _ {P : Type 0} (mic : Mic) (sized : IsSized mic) (table : ContextTable P) (head : CallHead) (fits : heads.call.Fits head) where
  failed_with : (seq : ℕ) (failure : Stat) (found : Option (Context P)) → IsReply (failure_with mic head seq failure found)
  failed_with seq failure None = plain_failure head.xid failure (xid_small head fits)
  failed_with seq failure (Some context) = sealed_failure mic context.key head seq failure sized fits

  failed_is : (failure : Stat) (under : Option Under) → IsReply (failure_by mic table head failure under)
  failed_is failure None = plain_failure head.xid failure (xid_small head fits)
  failed_is failure (Some under) = failed_with under.seq failure (context_of under.number table.entries)

  -- ---- calls that were carried out

  told_with : (seq : ℕ) (result : List ℕ) (found : Option (Context P)) → IsReply (result_with mic head seq result found)
  told_with seq result None = plain_is head.xid stats.Success result (xid_small head fits) success_fits
  told_with seq result (Some context) = sealed_reply_is mic context.key head seq result sized fits

  told_is : (result : List ℕ) (under : Option Under) → IsReply (result_by mic table head result under)
  told_is result None = plain_is head.xid stats.Success result (xid_small head fits) success_fits
  told_is result (Some under) = told_with under.seq result (context_of under.number table.entries)

-- ---- INIT

init_refused : (xid minor : ℕ) → xid < 2 ^ 32 → IsReply (init_reply xid (Refused minor))
init_refused xid minor small = plain_is xid stats.Success _ small success_fits

module _ {P W : Type 0} (mic : Mic) (sized : IsSized mic) (accepted : List ℕ → Option Accepted) (gives : W → Drawn → W → Type 0) (now : ℕ)
    (old new : ContextTable P) (before after : W) (answer : Inited) (xid : ℕ) (small : xid < 2 ^ 32) where
  by_refusal : (minor : ℕ) → answer ≡ Refused minor → IsReply (init_reply xid answer)
  by_refusal minor is = subst (λ (a : Inited). IsReply (init_reply xid a)) (sym is) (init_refused xid minor small)

  by_making : (taken : Option Accepted) → Makes mic now taken old new answer → IsReply (init_reply xid answer)
  by_making None makes = by_refusal 3 makes.0
  by_making (Some taken) makes = subst (λ (a : Inited). IsReply (init_reply xid a)) (sym makes.0) (begun_is xid _ _ _ _ small (sized _ _ _))

  by_draw : (drawn : Drawn) → InitsWith mic accepted now drawn old new answer → IsReply (init_reply xid answer)
  by_draw Failed inits = by_refusal 1 inits.0
  by_draw (Got nonce) inits = by_making (accepted nonce) inits

  by_unless : (full : Bool) → InitsUnless mic accepted gives now full old new before after answer → IsReply (init_reply xid answer)
  by_unless true inits = by_refusal 2 inits.0
  by_unless false inits = by_draw inits.0 inits.2

  init_is : (first : Option Accepted) → Inits mic accepted gives now first old new before after answer → IsReply (init_reply xid answer)
  init_is None inits = by_refusal 3 inits.0
  init_is (Some taken) inits = by_unless (is_full now old.entries) inits

-- ---- a step

module _ {X C W : Type 0} (rules : Rules X C) (codes : Codes) (sized : IsSized codes.mic) (accepted : List ℕ → List ℕ → Option Accepted) (gives : W → Drawn → W → Type 0)
    (second conn : ℕ) (s : HostState X C) (before after : W) (t : Stepped X C) where
  abbrev Replies : List Outgoing → Type 0
  Replies sent = (bytes : List ℕ) (seal : Option Seal) → Contains (map sent_of sent) (record { bytes = bytes; seal = seal }) → IsReply bytes

  by_this : (u : Stepped X C) → t ≡ u → Replies u.out.sent → Replies t.out.sent
  by_this u is replies = subst (λ (x : Stepped X C). Replies x.out.sent) (sym is) replies

  by_none : (u : Stepped X C) → t ≡ u → u.out.sent ≡ [] → Replies t.out.sent
  by_none u is none = by_this u is (subst Replies (sym none) (λ bytes seal c. absurd (let below = c.1 in omega arith)))

  by_one : (u : Stepped X C) (o : Outgoing) → t ≡ u → u.out.sent ≡ o ∷ [] → IsReply o.bytes → Replies t.out.sent
  by_one u o is sent reply_so =
      by_this u is (subst Replies (sym sent) (λ bytes seal c.
      subst IsReply (ap (λ (x : Sent). x.bytes) (only_sent (sent_of o) (record { bytes = bytes; seal = seal }) c)) reply_so))

  module _ (call : Call) (fits : heads.call.Fits call.head) where
    small : call.head.xid < 2 ^ 32
    small = xid_small call.head fits

    create_replies : (told : Judgement C) → t ≡ judged_create told rules.parting codes second conn call s → Replies t.out.sent
    create_replies (judgements.Granted carry) is = by_one _ _ is refl (told_is codes.mic sized s.contexts call.head fits _ call.under)
    create_replies judgements.Misspelt is = by_one _ _ is refl (failed_is codes.mic sized s.contexts call.head fits _ call.under)
    create_replies (judgements.Refused cause) is = by_one _ _ is refl (denied_is call.head.xid _ small)

    read_replies : (r : Result Compound ℕ) → IsCompoundTurn rules codes second conn call r s t → Replies t.out.sent
    read_replies (Err at) turn = by_one _ _ turn refl (failed_is codes.mic sized s.contexts call.head fits _ call.under)
    read_replies (Ok c) turn =
        by_one _ _ (turn (choice_of t.out.used) (λ n below. refl)) refl (told_is codes.mic sized s.contexts call.head fits _ call.under)

    init_replies : (token : List ℕ) → IsInit rules codes (accepted token) gives second conn call s before after t → Replies t.out.sent
    init_replies token turn =
        let a = turn.answers in
        by_one _ _ turn.is refl
        (subst (λ (told : InitAnswer). IsReply told.bytes) (sym a.told_is)
        (init_is codes.mic sized (accepted token) gives second s.contexts turn.contexts before after a.answer call.head.xid small (accepted token (replicate 32 0)) a.inits))

    what_replies : (what : What) → IsWhatTurn what rules codes accepted gives second conn call s before after t → Replies t.out.sent
    what_replies (whats.Dropped why) turn = by_none _ turn.0 refl
    what_replies (whats.Denied why) turn = by_one _ _ turn.0 refl (denied_is call.head.xid why small)
    what_replies (whats.Failed failure) turn = by_one _ _ turn.0 refl (failed_is codes.mic sized s.contexts call.head fits failure call.under)
    what_replies whats.Null turn = by_one _ _ turn.0 refl (told_is codes.mic sized s.contexts call.head fits [] call.under)
    what_replies (whats.Init token) turn = init_replies token turn
    what_replies (whats.Create name privilege) turn = create_replies (judgement_under rules second name privilege s call.under) turn.0
    what_replies whats.Destroy turn = by_one _ _ turn.0 refl (told_is codes.mic sized s.contexts call.head fits [] call.under)
    what_replies (whats.Compound args) turn = read_replies (compound_of args) turn.0

  judged_replies : (bytes : List ℕ) → IsBytes bytes → (j : Judged) → judged_of codes.mic second programs.NFS bytes s.contexts ≡ j
      → IsJudgedTurn j rules codes accepted gives second conn s before after t → Replies t.out.sent
  judged_replies bytes are judged.Unread is turn = by_none _ turn.0 refl
  judged_replies bytes are judged.Reply is turn = by_none _ turn.0 refl
  judged_replies bytes are (judged.Call call) is turn = what_replies call (call_fits codes.mic second bytes s.contexts call are is) call.what turn

pub step_replies : {X C W : Type 0} (rules : Rules X C) (codes : Codes) (accepted : List ℕ → List ℕ → Option Accepted) (gives : W → Drawn → W → Type 0)
    (conn : ℕ) (bytes : List ℕ) (now : ℕ) (s : HostState X C) (before after : W) (t : Stepped X C) → IsSized codes.mic
    → IsStep rules codes accepted gives conn bytes now s before after t → SendsReplies codes bytes now s t
step_replies rules codes accepted gives conn bytes now s before after t sized step =
    judged_replies rules codes sized accepted gives (max s.second now) conn s before after t bytes step.are_bytes
    (judged_of codes.mic (max s.second now) programs.NFS bytes s.contexts) refl step.turn
