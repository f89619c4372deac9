-- What goes out is a call, and what is taken as an answer is a reply by the awaited xid, which answers the call.
use Rattle.std.proofs.Common.{◌≡◌, ℕ, Bool, true, false, List, ◌++◌, drop, Option, Some, None, Result, Ok, Err, refl, ap, subst, ◌∙◌, append_assoc}
use Rattle.std.specs.Prelude.{◌==◌, if◌then◌else◌}
use Rattle.std.proofs.lemmas.Bool.{eqb-true}
use Rattle.wire_xdr.specs.All.{value_of}
use Rattle.wire_xdr.specs.Words.{word_bytes}
use Rattle.rpc_msg.specs.declared.call.CallHead.{CallHead}
use Rattle.rpc_msg.specs.declared.messages.RpcFault.{RpcFault}
use Rattle.rpc_msg.specs.declared.numbers.TheConstants.{CALL}
use Rattle.rpc_msg.specs.declared.reply.Denial.{Denial}
use Rattle.rpc_msg.specs.declared.reply.ReplyHead.{ReplyHead}
use Rattle.rpc_msg.specs.declared.reply.ReplyHead.TheVariants.{Accepted, Denied}
use Rattle.rpc_msg.specs.Heads.{call, call_fields, from_call, reply}
use Rattle.rpc_msg.specs.Messages.{head_told}
use Rattle.nfs_compound.specs.declared.op.Op.{Op}
use Rattle.nfs_compound.specs.declared.reply.Reply.{Reply}
use Rattle.nfs_compound.specs.Results as results
use Rattle.gss_ctx.specs.declared.caller.Awaited.{Awaited}
use Rattle.gss_ctx.specs.declared.caller.Checked.{Checked}
use Rattle.gss_ctx.specs.declared.caller.Checked.TheVariants as checked
use Rattle.gss_ctx.specs.Replies.{checked_of, of_read, of_head, of_stat}
use Rattle.gss_ctx.specs.Seals.{Mic}
use Rattle.session_calls.specs.Answers.{is_answer}
use Rattle.session_client.specs.declared.answers.Taken.TheVariants as taken
use Rattle.session_client.specs.Answers.{answer_to, taken_by, taken_of}
use Rattle.session_client.specs.Records.{IsCallOf, head_xid, xid_in, reply_xid}

pub call_of : (head : CallHead) (body : List ℕ) → IsCallOf head.xid (call.spell head ++ body)
unfolding call
call_of head body =
    let fields = call_fields.spell (from_call head).1 in
    record {
      rest = fields ++ body;
      is = append_assoc (word_bytes head.xid) (word_bytes CALL ++ fields) body ∙ ap (λ (r : List ℕ). word_bytes head.xid ++ r) (append_assoc (word_bytes CALL) fields body);
    }

-- ---- the xid of an answer

taken_where : (ops : List Op) (r : Reply) (b : Bool) (c : Checked) → taken_by ops (if b then c else checked.Unmatched) ≡ taken.Answer r → b ≡ true
taken_where ops r true c e = refl
taken_where ops r false c e = absurd cc

not_denied : (ops : List Op) (r : Reply) (b : Bool) (why : Denial) → taken_by ops (if b then checked.Denied why else checked.Unmatched) ≡ taken.Answer r → ⊥
not_denied ops r true why e = absurd cc
not_denied ops r false why e = absurd cc

by_head : (mic : Mic) (key : List ℕ) (awaited : Awaited) (ops : List Op) (r : Reply) (body : List ℕ) (head : ReplyHead)
    → taken_by ops (of_head mic key awaited body head) ≡ taken.Answer r → head_xid head ≡ awaited.xid
by_head mic key awaited ops r body (Accepted xid verf stat) e =
    eqb-true xid awaited.xid (taken_where ops r (xid == awaited.xid) (of_stat mic key awaited body verf stat) e)
by_head mic key awaited ops r body (Denied xid why) e = absurd (not_denied ops r (xid == awaited.xid) why e)

by_read : (mic : Mic) (key : List ℕ) (awaited : Awaited) (ops : List Op) (r : Reply) (message : List ℕ) (told : Result (ReplyHead × ℕ) RpcFault)
    → taken_by ops (of_read mic key awaited message told) ≡ taken.Answer r → xid_in told ≡ Some awaited.xid
by_read mic key awaited ops r message (Ok head) e = ap (λ (x : ℕ). Some x) (by_head mic key awaited ops r (drop head.1 message) head.0 e)
by_read mic key awaited ops r message (Err fault) e = absurd cc

pub answer_xid : (mic : Mic) (key : List ℕ) (awaited : Awaited) (ops : List Op) (message : List ℕ) (r : Reply)
    → taken_of mic key awaited ops message ≡ taken.Answer r → reply_xid message ≡ Some awaited.xid
unfolding taken_of checked_of
answer_xid mic key awaited ops message r e = by_read mic key awaited ops r message (head_told reply 0 message) e

-- ---- what it answers

answered_where : (ops : List Op) (told r : Reply) (b : Bool) → is_answer ops told ≡ b
    → (if b then taken.Answer told else taken.Misspelt) ≡ taken.Answer r → is_answer ops r ≡ true
answered_where ops told r true is e =
    let same : told ≡ r = cc in
    subst (λ (x : Reply). is_answer ops x ≡ true) same is
answered_where ops told r false is e = absurd cc

answered : (ops : List Op) (told : Option Reply) (r : Reply) → answer_to ops told ≡ taken.Answer r → is_answer ops r ≡ true
answered ops None r e = absurd cc
answered ops (Some told) r e = answered_where ops told r (is_answer ops told) refl e

by_checked : (ops : List Op) (r : Reply) (c : Checked) → taken_by ops c ≡ taken.Answer r → is_answer ops r ≡ true
by_checked ops r (checked.Result body) e = answered ops (value_of results.reply body) r e
by_checked ops r (checked.Failed stat) e = absurd cc
by_checked ops r (checked.Denied why) e = absurd cc
by_checked ops r checked.Unmatched e = absurd cc

pub answer_answers : (mic : Mic) (key : List ℕ) (awaited : Awaited) (ops : List Op) (message : List ℕ) (r : Reply)
    → taken_of mic key awaited ops message ≡ taken.Answer r → is_answer ops r ≡ true
unfolding taken_of
answer_answers mic key awaited ops message r e = by_checked ops r (checked_of mic key awaited message) e
