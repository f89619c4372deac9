-- What a record says that is taken for an answer: it is the reply by the awaited xid; its results, and the context that it gives.
use Rattle.std.proofs.Common.{◌≡◌, ℕ, Bool, true, false, List, length, drop, Option, Some, None, Result, Ok, Err, refl, ap, ◌∙◌}
use Rattle.std.specs.Prelude.{◌==◌, if◌then◌else◌}
use Rattle.std.proofs.lemmas.Bool.{eqb-true}
use Rattle.wire_xdr.specs.All.{value_of}
use Rattle.wire_xdr.specs.Cursor.{IsBytes}
use Rattle.wire_xdr.specs.Words.{word_bytes}
use Rattle.gss_ctx.specs.Forms.{create_result, init_result}
use Rattle.gss_ctx.specs.Replies.{begun_of, begun_head, begun_read, begun_under, begun_with, checked_of, of_head, of_read}
use Rattle.gss_ctx.specs.Seals.{Mic, is_code, unsealed}
use Rattle.gss_ctx.specs.declared.begin.Begun.{Begun}
use Rattle.gss_ctx.specs.declared.begin.Begun.TheVariants as begins
use Rattle.gss_ctx.specs.declared.begin.InitResult.{InitResult}
use Rattle.gss_ctx.specs.declared.caller.Awaited.{Awaited}
use Rattle.gss_ctx.specs.declared.caller.Checked.{Checked}
use Rattle.gss_ctx.specs.declared.caller.Checked.TheVariants as checked
use Rattle.gss_ctx.specs.declared.create.CreateResult.{CreateResult}
use Rattle.nfs_compound.specs.Results as results
use Rattle.nfs_compound.specs.declared.op.Op.{Op}
use Rattle.nfs_compound.specs.declared.reply.Reply.{Reply}
use Rattle.rpc_msg.specs.Heads.{reply}
use Rattle.rpc_msg.specs.Messages.{first, head_told, kind_of}
use Rattle.rpc_msg.specs.declared.messages.RpcFault.{RpcFault}
use Rattle.rpc_msg.specs.declared.reply.Denial.{Denial}
use Rattle.rpc_msg.specs.declared.reply.ReplyHead.{ReplyHead}
use Rattle.rpc_msg.specs.declared.reply.ReplyHead.TheVariants.{Accepted, Denied}
use Rattle.rpc_msg.specs.declared.auth.Auth.{Auth}
use Rattle.rpc_msg.specs.declared.reply.Stat.{Stat}
use Rattle.rpc_msg.specs.declared.reply.Stat.TheVariants.{Success, ProgUnavail, ProgMismatch, ProcUnavail, Garbage, SystemErr}
use Rattle.session_calls.specs.Answers.{is_answer}
use Rattle.session_client.specs.Answers.{answer_to, child_by, child_in, child_of, taken_by, taken_of}
use Rattle.session_client.specs.Records.{head_xid}
use Rattle.session_client.specs.declared.answers.Taken.{Taken}
use Rattle.session_client.specs.declared.answers.Taken.TheVariants as answers
use Rattle.session_client.specs.declared.answers.TakenChild.{TakenChild}
use Rattle.session_client.specs.declared.answers.TakenChild.TheVariants as children
use Rattle.wire_spelling.specs.Calls.{xid_in}
use Rattle.wire_spelling.specs.ReadLaws.{unsealed_carried}
use Rattle.wire_spelling.specs.Replies.{context_given, context_in, is_read, is_reply, results_of, results_read}
use Rattle.caller_laws.proofs.Replied.{guarded, unless_spelled, xid_spelled}
use Rattle.caller_laws.specs.View.{handle_named}

-- ---- the xid of a reply is its first word

xid_read : (bytes : List ℕ) (read : ReplyHead × ℕ) → head_told reply 0 bytes ≡ Ok read → IsBytes bytes → xid_in bytes ≡ head_xid read.0
xid_read bytes read h all =
    let s = unless_spelled bytes (kind_of bytes) read h all in
    ap xid_in s.is ∙ xid_spelled read.0 s.rest s.fits

-- ---- the reply by an xid

pub record IsReplyBy (xid : ℕ) (bytes : List ℕ) : Type 0 where
  pub is_one : is_reply bytes ≡ true
  pub xid_is : xid_in bytes ≡ xid

reply_by : (xid : ℕ) (bytes : List ℕ) (read : ReplyHead × ℕ) → head_told reply 0 bytes ≡ Ok read → IsBytes bytes → head_xid read.0 ≡ xid → IsReplyBy xid bytes
reply_by xid bytes read told all same = record { is_one = ap is_read told; xid_is = xid_read bytes read told all ∙ same }

-- ---- a result under a seal

record IsResult (xid : ℕ) (bytes result : List ℕ) : Type 0 where
  by : IsReplyBy xid bytes
  results : results_of bytes ≡ result

failed_never : (a : Bool) (stat : Stat) (result : List ℕ) → (if a then checked.Failed stat else checked.Unmatched) ≡ checked.Result result → ⊥
failed_never true stat result h = cc
failed_never false stat result h = cc

denied_never : (a : Bool) (why : Denial) (result : List ℕ) → (if a then checked.Denied why else checked.Unmatched) ≡ checked.Result result → ⊥
denied_never true why result h = cc
denied_never false why result h = cc

module _ (mic : Mic) (key : List ℕ) (awaited : Awaited) (bytes : List ℕ) (all : IsBytes bytes) where
  result_by : (head : ReplyHead) (at : ℕ) (result : List ℕ) → head_told reply 0 bytes ≡ Ok (head, at) → of_head mic key awaited (drop at bytes) head ≡ checked.Result result
      → IsResult awaited.xid bytes result
  result_by (Accepted xid verf Success) at result told h =
      let parts = guarded (xid == awaited.xid) (is_code verf awaited.code) (unsealed (mic key 1) awaited.seq (drop at bytes)) result h in
      record {
        by = reply_by awaited.xid bytes (Accepted xid verf Success, at) told all (eqb-true xid awaited.xid parts.0);
        results = ap (results_read bytes) told ∙ unsealed_carried (mic key 1) awaited.seq (drop at bytes) result parts.1;
      }
  result_by (Accepted xid verf ProgUnavail) at result told h = absurd (failed_never (xid == awaited.xid) ProgUnavail result h)
  result_by (Accepted xid verf (ProgMismatch low high)) at result told h = absurd (failed_never (xid == awaited.xid) (ProgMismatch low high) result h)
  result_by (Accepted xid verf ProcUnavail) at result told h = absurd (failed_never (xid == awaited.xid) ProcUnavail result h)
  result_by (Accepted xid verf Garbage) at result told h = absurd (failed_never (xid == awaited.xid) Garbage result h)
  result_by (Accepted xid verf SystemErr) at result told h = absurd (failed_never (xid == awaited.xid) SystemErr result h)
  result_by (Denied xid why) at result told h = absurd (denied_never (xid == awaited.xid) why result h)

  result_read : (told : Result (ReplyHead × ℕ) RpcFault) (result : List ℕ) → head_told reply 0 bytes ≡ told → of_read mic key awaited bytes told ≡ checked.Result result
      → IsResult awaited.xid bytes result
  result_read (Ok read) result told h = result_by read.0 read.1 result told h
  result_read (Err fault) result told h = absurd cc

  checked_result : (result : List ℕ) → checked_of mic key awaited bytes ≡ checked.Result result → IsResult awaited.xid bytes result
  unfolding checked_of
  checked_result result h = result_read (head_told reply 0 bytes) result refl h

-- ---- the answer to a compound

-- an answer, or a result that is none, is the reply by this xid
abbrev pub TakenSays : ℕ → List ℕ → Taken → Type 0
TakenSays xid bytes (answers.Answer told) = IsReplyBy xid bytes
TakenSays xid bytes answers.Misspelt = IsReplyBy xid bytes
TakenSays xid bytes _ = Unit {0}

answer_says : (xid : ℕ) (bytes : List ℕ) (told : Reply) (b : Bool) → IsReplyBy xid bytes → TakenSays xid bytes (if b then answers.Answer told else answers.Misspelt)
answer_says xid bytes told true by = by
answer_says xid bytes told false by = by

told_says : (xid : ℕ) (bytes : List ℕ) (ops : List Op) (told : Option Reply) → IsReplyBy xid bytes → TakenSays xid bytes (answer_to ops told)
told_says xid bytes ops None by = by
told_says xid bytes ops (Some told) by = answer_says xid bytes told (is_answer ops told) by

taken_by_says : (mic : Mic) (key : List ℕ) (awaited : Awaited) (ops : List Op) (bytes : List ℕ) (c : Checked) → IsBytes bytes → checked_of mic key awaited bytes ≡ c
    → TakenSays awaited.xid bytes (taken_by ops c)
taken_by_says mic key awaited ops bytes (checked.Result body) all is =
    told_says awaited.xid bytes ops (value_of results.reply body) (checked_result mic key awaited bytes all body is).by
taken_by_says mic key awaited ops bytes (checked.Failed stat) all is = tt
taken_by_says mic key awaited ops bytes (checked.Denied why) all is = tt
taken_by_says mic key awaited ops bytes checked.Unmatched all is = tt

pub taken_says : (mic : Mic) (key : List ℕ) (awaited : Awaited) (ops : List Op) (bytes : List ℕ) → IsBytes bytes
    → TakenSays awaited.xid bytes (taken_of mic key awaited ops bytes)
unfolding taken_of
taken_says mic key awaited ops bytes all = taken_by_says mic key awaited ops bytes (checked_of mic key awaited bytes) all refl

-- ---- the answer to CREATE

pub record GivesChild (xid : ℕ) (bytes handle : List ℕ) : Type 0 where
  pub by : IsReplyBy xid bytes
  pub given : context_in bytes ≡ Some (handle_named handle)
  pub eight : length handle ≡ 8

abbrev pub ChildSays : ℕ → List ℕ → TakenChild → Type 0
ChildSays xid bytes (children.Made handle) = GivesChild xid bytes handle
ChildSays xid bytes (children.Refused major) = IsReplyBy xid bytes
ChildSays xid bytes children.Misspelt = IsReplyBy xid bytes
ChildSays xid bytes _ = Unit {0}

made_says : (xid : ℕ) (bytes : List ℕ) (made : CreateResult) (a b : Bool) → (made.major == 0) ≡ a → (length made.handle == 8) ≡ b → IsReplyBy xid bytes
    → context_in bytes ≡ context_given (Some made)
    → ChildSays xid bytes (if a then (if b then children.Made made.handle else children.Misspelt) else children.Refused made.major)
made_says xid bytes made true true a_is b_is by given = record {
  by = by;
  given = given ∙ ap (λ (b : Bool). if b then Some (handle_named made.handle) else None) a_is;
  eight = eqb-true (length made.handle) 8 b_is;
}
made_says xid bytes made true false a_is b_is by given = by
made_says xid bytes made false b a_is b_is by given = by

created_says : (xid : ℕ) (bytes : List ℕ) (told : Option CreateResult) → IsReplyBy xid bytes → context_in bytes ≡ context_given told → ChildSays xid bytes (child_in told)
created_says xid bytes None by given = by
created_says xid bytes (Some made) by given = made_says xid bytes made (made.major == 0) (length made.handle == 8) refl refl by given

child_by_says : (mic : Mic) (key : List ℕ) (awaited : Awaited) (bytes : List ℕ) (c : Checked) → IsBytes bytes → checked_of mic key awaited bytes ≡ c
    → ChildSays awaited.xid bytes (child_by c)
child_by_says mic key awaited bytes (checked.Result body) all is =
    let told = checked_result mic key awaited bytes all body is in
    created_says awaited.xid bytes (value_of create_result body) told.by (ap (λ (r : List ℕ). context_given (value_of create_result r)) told.results)
child_by_says mic key awaited bytes (checked.Failed stat) all is = tt
child_by_says mic key awaited bytes (checked.Denied why) all is = tt
child_by_says mic key awaited bytes checked.Unmatched all is = tt

pub child_says : (mic : Mic) (key : List ℕ) (awaited : Awaited) (bytes : List ℕ) → IsBytes bytes → ChildSays awaited.xid bytes (child_of mic key awaited bytes)
unfolding child_of
child_says mic key awaited bytes all = child_by_says mic key awaited bytes (checked_of mic key awaited bytes) all refl

-- ---- the answer to INIT

pub record GivesRoot (xid : ℕ) (bytes handle : List ℕ) : Type 0 where
  pub by : IsReplyBy xid bytes
  pub eight : length handle ≡ 8

abbrev pub BegunSays : ℕ → List ℕ → Begun → Type 0
BegunSays xid bytes (begins.Made handle key) = GivesRoot xid bytes handle
BegunSays xid bytes _ = Unit {0}

under_says : (xid : ℕ) (bytes : List ℕ) (made : InitResult) (b : Bool) (key : List ℕ) → IsReplyBy xid bytes → length made.handle ≡ 8
    → BegunSays xid bytes (if b then begins.Made made.handle key else begins.Unmatched)
under_says xid bytes made true key by eight = record { by = by; eight = eight }
under_says xid bytes made false key by eight = tt

keyed_says : (xid : ℕ) (bytes : List ℕ) (mic : Mic) (verf : Auth) (made : InitResult) (key : Option (List ℕ)) → IsReplyBy xid bytes → length made.handle ≡ 8
    → BegunSays xid bytes (begun_under mic verf made key)
keyed_says xid bytes mic verf made None by eight = tt
keyed_says xid bytes mic verf made (Some key) by eight = under_says xid bytes made (is_code verf (mic key 1 (word_bytes made.window))) key by eight

begun_if : (xid : ℕ) (bytes : List ℕ) (mic : Mic) (verf : Auth) (made : InitResult) (key : Option (List ℕ)) (a b : Bool) → (length made.handle == 8) ≡ b → IsReplyBy xid bytes
    → BegunSays xid bytes (if a then (if b then begun_under mic verf made key else begins.Unmatched) else begins.Refused made.major)
begun_if xid bytes mic verf made key true true b_is by = keyed_says xid bytes mic verf made key by (eqb-true (length made.handle) 8 b_is)
begun_if xid bytes mic verf made key true false b_is by = tt
begun_if xid bytes mic verf made key false b b_is by = tt

module _ (mic : Mic) (finish : List ℕ → Option (List ℕ)) (xid : ℕ) (bytes : List ℕ) (all : IsBytes bytes) where
  with_says : (verf : Auth) (made : Option InitResult) → IsReplyBy xid bytes → BegunSays xid bytes (begun_with mic finish verf made)
  with_says verf None by = tt
  with_says verf (Some made) by = begun_if xid bytes mic verf made (finish made.token) (made.major == 0) (length made.handle == 8) refl by

  success_says : (verf : Auth) (made : Option InitResult) (b : Bool) → (b ≡ true → IsReplyBy xid bytes)
      → BegunSays xid bytes (if b then begun_with mic finish verf made else begins.Unmatched)
  success_says verf made true by = with_says verf made (by refl)
  success_says verf made false by = tt

  failed_says : (b : Bool) (stat : Stat) → BegunSays xid bytes (if b then begins.Failed stat else begins.Unmatched)
  failed_says true stat = tt
  failed_says false stat = tt

  denied_says : (b : Bool) (why : Denial) → BegunSays xid bytes (if b then begins.Denied why else begins.Unmatched)
  denied_says true why = tt
  denied_says false why = tt

  head_says : (head : ReplyHead) (at : ℕ) → head_told reply 0 bytes ≡ Ok (head, at) → BegunSays xid bytes (begun_head mic finish xid (drop at bytes) head)
  head_says (Accepted x verf Success) at told =
      success_says verf (value_of init_result (drop at bytes)) (x == xid) (λ same. reply_by xid bytes (Accepted x verf Success, at) told all (eqb-true x xid same))
  head_says (Accepted x verf ProgUnavail) at told = failed_says (x == xid) ProgUnavail
  head_says (Accepted x verf (ProgMismatch low high)) at told = failed_says (x == xid) (ProgMismatch low high)
  head_says (Accepted x verf ProcUnavail) at told = failed_says (x == xid) ProcUnavail
  head_says (Accepted x verf Garbage) at told = failed_says (x == xid) Garbage
  head_says (Accepted x verf SystemErr) at told = failed_says (x == xid) SystemErr
  head_says (Denied x why) at told = denied_says (x == xid) why

  begun_read_says : (told : Result (ReplyHead × ℕ) RpcFault) → head_told reply 0 bytes ≡ told → BegunSays xid bytes (begun_read mic finish xid bytes told)
  begun_read_says (Ok read) told = head_says read.0 read.1 told
  begun_read_says (Err fault) told = tt

  pub begun_says : BegunSays xid bytes (begun_of mic finish xid bytes)
  unfolding begun_of
  begun_says = begun_read_says (head_told reply 0 bytes) refl
