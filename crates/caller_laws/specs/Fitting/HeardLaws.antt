-- What a record says that is taken for an answer is bytes, and its numbers are below their bounds.
use Rattle.std.proofs.Common.{◌≡◌, ℕ, Bool, true, false, List, drop, length, take, Option, Some, None, Result, Ok, Err, refl, subst}
use Rattle.std.proofs.lemmas.Bool.{eqb-true}
use Rattle.std.specs.Prelude.{◌==◌, IfSome, bytes_eq, if◌then◌else◌}
use Rattle.caller_laws.specs.Fitting.Answers.{ReplyIsFit}
use Rattle.caller_laws.specs.Fitting.Bounds.{FixedFits}
use Rattle.caller_laws.specs.Fitting.BytesLaws.{first_part, opaque_part}
use Rattle.caller_laws.specs.Fitting.ReplyLaws.{reply_is}
use Rattle.gss_ctx.specs.Forms.{create_result, init_result}
use Rattle.gss_ctx.specs.Replies.{begun_head, begun_of, begun_read, begun_stat, begun_under, begun_with, checked_of, of_head, of_read, of_stat, result_of}
use Rattle.gss_ctx.specs.Seals.{Mic, is_code, payload_of, two_opaques, unsealed}
use Rattle.gss_ctx.specs.declared.begin.Begun.{Begun}
use Rattle.gss_ctx.specs.declared.begin.Begun.TheVariants as begins
use Rattle.gss_ctx.specs.declared.begin.InitResult.{InitResult}
use Rattle.gss_ctx.specs.declared.caller.Awaited.{Awaited}
use Rattle.gss_ctx.specs.declared.caller.Checked.{Checked}
use Rattle.gss_ctx.specs.declared.caller.Checked.TheVariants as checked
use Rattle.gss_ctx.specs.declared.create.CreateResult.{CreateResult}
use Rattle.gss_mech.specs.declared.mechanism.TheConstants.{ACCEPTOR}
use Rattle.nfs_compound.specs.Results as results
use Rattle.nfs_compound.specs.declared.op.Op.{Op}
use Rattle.nfs_compound.specs.declared.reply.Reply.{Reply}
use Rattle.rpc_msg.specs.Heads.{reply}
use Rattle.rpc_msg.specs.Messages.{head_told}
use Rattle.rpc_msg.specs.declared.auth.Auth.{Auth}
use Rattle.rpc_msg.specs.declared.messages.RpcFault.{RpcFault}
use Rattle.rpc_msg.specs.declared.reply.ReplyHead.{ReplyHead}
use Rattle.rpc_msg.specs.declared.reply.ReplyHead.TheVariants.{Accepted, Denied}
use Rattle.rpc_msg.specs.declared.reply.Stat.{Stat}
use Rattle.rpc_msg.specs.declared.reply.Stat.TheVariants.{Success}
use Rattle.session_calls.specs.Answers.{is_answer}
use Rattle.session_client.specs.Answers.{answer_to, child_by, child_in, child_of, taken_by, taken_of}
use Rattle.session_client.specs.declared.answers.Taken.{Taken}
use Rattle.session_client.specs.declared.answers.Taken.TheVariants as answers
use Rattle.session_client.specs.declared.answers.TakenChild.{TakenChild}
use Rattle.session_client.specs.declared.answers.TakenChild.TheVariants as children
use Rattle.wire_xdr.specs.All.{value_of}
use Rattle.wire_xdr.specs.AllLaws.{value_spelled}
use Rattle.wire_xdr.specs.Cursor.{IsBytes}
use Rattle.wire_xdr.specs.Form.{Form, Spells}
use Rattle.wire_xdr.specs.StepLaws.{IsBytes-drop}
use Rattle.wire_xdr.specs.Words.{opaque_bytes, word_bytes}

-- the value that bytes spell, where they spell one
spelled_in : {A : Type 0} (form : Form A) (P : A → Type 0) (bytes : List ℕ) → IsBytes bytes → ((v : A) → form.Fits v → IsBytes (form.spell v) → P v)
    → IfSome (value_of form bytes) P
spelled_in {A} form P bytes h each = by (value_of form bytes) refl
  where
    by : (o : Option A) → value_of form bytes ≡ o → IfSome o P
    by None is = tt
    by (Some v) is = let s : Spells form v bytes = (value_spelled form v bytes h).0 is in each v s.0 (subst IsBytes s.1 h)

-- ---- a result under a seal

parts_are : (parts : List ℕ × List ℕ) → IsBytes (two_opaques.spell parts) → IsBytes parts.0
unfolding two_opaques
parts_are parts h = opaque_part parts.0 (first_part (opaque_bytes parts.0) (opaque_bytes parts.1) h)

carried_by : (code : List ℕ → List ℕ) (seq : ℕ) (o : Option (List ℕ × List ℕ)) → IfSome o (λ (parts : List ℕ × List ℕ). IsBytes parts.0) → IfSome (payload_of code seq o) IsBytes
carried_by code seq None h = tt
carried_by code seq (Some parts) h = by (bytes_eq parts.1 (code parts.0)) (bytes_eq (take 4 parts.0) (word_bytes seq))
  where
    by : (a b : Bool) → IfSome (if a then (if b then Some (drop 4 parts.0) else None) else None) IsBytes
    by true true = IsBytes-drop 4 parts.0 h
    by true false = tt
    by false b = tt

unsealed_are : (code : List ℕ → List ℕ) (seq : ℕ) (body : List ℕ) → IsBytes body → IfSome (unsealed code seq body) IsBytes
unfolding unsealed
unsealed_are code seq body h =
    carried_by code seq (value_of two_opaques body)
    (spelled_in two_opaques (λ (parts : List ℕ × List ℕ). IsBytes parts.0) body h (λ parts fits spelled. parts_are parts spelled))

abbrev CheckedIsFit : Checked → Type 0
CheckedIsFit (checked.Result body) = IsBytes body
CheckedIsFit _ = Unit {0}

either : {A : Type 0} (P : A → Type 0) (b : Bool) (x y : A) → P x → P y → P (if b then x else y)
either P true x y p q = p
either P false x y p q = q

where_so : {A : Type 0} (P : A → Type 0) (b : Bool) (x y : A) → (b ≡ true → P x) → P y → P (if b then x else y)
where_so P true x y p q = p refl
where_so P false x y p q = q

result_is : (o : Option (List ℕ)) → IfSome o IsBytes → CheckedIsFit (result_of o)
result_is None h = tt
result_is (Some result) h = h

module _ (mic : Mic) (key : List ℕ) (awaited : Awaited) where
  stat_is : (body : List ℕ) (verf : Auth) (stat : Stat) → IsBytes body → CheckedIsFit (of_stat mic key awaited body verf stat)
  stat_is body verf Success h =
      either CheckedIsFit (is_code verf awaited.code) (result_of (unsealed (mic key ACCEPTOR) awaited.seq body)) checked.Unmatched
      (result_is (unsealed (mic key ACCEPTOR) awaited.seq body) (unsealed_are (mic key ACCEPTOR) awaited.seq body h)) tt
  stat_is body verf _ h = tt

  head_is : (body : List ℕ) (head : ReplyHead) → IsBytes body → CheckedIsFit (of_head mic key awaited body head)
  head_is body (Accepted xid verf stat) h =
      either CheckedIsFit (xid == awaited.xid) (of_stat mic key awaited body verf stat) checked.Unmatched (stat_is body verf stat h) tt
  head_is body (Denied xid why) h = either CheckedIsFit (xid == awaited.xid) (checked.Denied why) checked.Unmatched tt tt

  read_is : (message : List ℕ) (told : Result (ReplyHead × ℕ) RpcFault) → IsBytes message → CheckedIsFit (of_read mic key awaited message told)
  read_is message (Ok head) h = head_is (drop head.1 message) head.0 (IsBytes-drop head.1 message h)
  read_is message (Err fault) h = tt

  checked_is : (message : List ℕ) → IsBytes message → CheckedIsFit (checked_of mic key awaited message)
  unfolding checked_of
  checked_is message h = read_is message (head_told reply 0 message) h

-- ---- the answer to a compound

abbrev pub TakenIsFit : Taken → Type 0
TakenIsFit (answers.Answer told) = ReplyIsFit told
TakenIsFit _ = Unit {0}

answer_is : (ops : List Op) (o : Option Reply) → IfSome o ReplyIsFit → TakenIsFit (answer_to ops o)
answer_is ops None h = tt
answer_is ops (Some told) h = either TakenIsFit (is_answer ops told) (answers.Answer told) answers.Misspelt h tt

by_is : (ops : List Op) (c : Checked) → CheckedIsFit c → TakenIsFit (taken_by ops c)
by_is ops (checked.Result body) h = answer_is ops (value_of results.reply body) (spelled_in results.reply ReplyIsFit body h reply_is)
by_is ops (checked.Failed stat) h = tt
by_is ops (checked.Denied why) h = tt
by_is ops checked.Unmatched h = tt

pub taken_is : (mic : Mic) (key : List ℕ) (awaited : Awaited) (ops : List Op) (message : List ℕ) → IsBytes message → TakenIsFit (taken_of mic key awaited ops message)
unfolding taken_of
taken_is mic key awaited ops message h = by_is ops (checked_of mic key awaited message) (checked_is mic key awaited message h)

-- ---- the answer to CREATE

abbrev pub ChildIsFit : TakenChild → Type 0
ChildIsFit (children.Made handle) = IsBytes handle
ChildIsFit _ = Unit {0}

created_are : (made : CreateResult) → IsBytes (create_result.spell made) → IsBytes made.handle
unfolding create_result
created_are made h = opaque_part made.handle (first_part (opaque_bytes made.handle) _ h)

in_is : (o : Option CreateResult) → IfSome o (λ (made : CreateResult). IsBytes made.handle) → ChildIsFit (child_in o)
in_is None h = tt
in_is (Some made) h =
    either ChildIsFit (made.major == 0) (if length made.handle == 8 then children.Made made.handle else children.Misspelt) (children.Refused made.major)
    (either ChildIsFit (length made.handle == 8) (children.Made made.handle) children.Misspelt h tt) tt

child_by_is : (c : Checked) → CheckedIsFit c → ChildIsFit (child_by c)
child_by_is (checked.Result body) h =
    in_is (value_of create_result body) (spelled_in create_result (λ (made : CreateResult). IsBytes made.handle) body h (λ made fits spelled. created_are made spelled))
child_by_is (checked.Failed stat) h = tt
child_by_is (checked.Denied why) h = tt
child_by_is checked.Unmatched h = tt

pub child_is : (mic : Mic) (key : List ℕ) (awaited : Awaited) (message : List ℕ) → IsBytes message → ChildIsFit (child_of mic key awaited message)
unfolding child_of
child_is mic key awaited message h = child_by_is (checked_of mic key awaited message) (checked_is mic key awaited message h)

-- ---- the answer to INIT

-- the root's handle has 8 bytes
abbrev pub BegunIsFit : Begun → Type 0
BegunIsFit (begins.Made handle key) = FixedFits 8 handle
BegunIsFit _ = Unit {0}

inited_are : (made : InitResult) → IsBytes (init_result.spell made) → IsBytes made.handle
unfolding init_result
inited_are made h = opaque_part made.handle (first_part (opaque_bytes made.handle) _ h)

module _ (mic : Mic) (finish : List ℕ → Option (List ℕ)) where
  under_is : (verf : Auth) (made : InitResult) (key : Option (List ℕ)) → FixedFits 8 made.handle → BegunIsFit (begun_under mic verf made key)
  under_is verf made None h = tt
  under_is verf made (Some key) h = either BegunIsFit (is_code verf (mic key ACCEPTOR (word_bytes made.window))) (begins.Made made.handle key) begins.Unmatched h tt

  with_is : (verf : Auth) (o : Option InitResult) → IfSome o (λ (made : InitResult). IsBytes made.handle) → BegunIsFit (begun_with mic finish verf o)
  with_is verf None h = tt
  with_is verf (Some made) h =
      either BegunIsFit (made.major == 0) (if length made.handle == 8 then begun_under mic verf made (finish made.token) else begins.Unmatched) (begins.Refused made.major)
      (where_so BegunIsFit (length made.handle == 8) (begun_under mic verf made (finish made.token)) begins.Unmatched
      (λ e. under_is verf made (finish made.token) (record { size_is = eqb-true (length made.handle) 8 e; are_bytes = h })) tt) tt

  init_stat_is : (body : List ℕ) (verf : Auth) (stat : Stat) → IsBytes body → BegunIsFit (begun_stat mic finish body verf stat)
  init_stat_is body verf Success h =
      with_is verf (value_of init_result body) (spelled_in init_result (λ (made : InitResult). IsBytes made.handle) body h (λ made fits spelled. inited_are made spelled))
  init_stat_is body verf _ h = tt

  init_head_is : (awaited : ℕ) (body : List ℕ) (head : ReplyHead) → IsBytes body → BegunIsFit (begun_head mic finish awaited body head)
  init_head_is awaited body (Accepted xid verf stat) h =
      either BegunIsFit (xid == awaited) (begun_stat mic finish body verf stat) begins.Unmatched (init_stat_is body verf stat h) tt
  init_head_is awaited body (Denied xid why) h = either BegunIsFit (xid == awaited) (begins.Denied why) begins.Unmatched tt tt

  init_read_is : (awaited : ℕ) (message : List ℕ) (told : Result (ReplyHead × ℕ) RpcFault) → IsBytes message → BegunIsFit (begun_read mic finish awaited message told)
  init_read_is awaited message (Ok head) h = init_head_is awaited (drop head.1 message) head.0 (IsBytes-drop head.1 message h)
  init_read_is awaited message (Err fault) h = tt

  pub begun_is : (awaited : ℕ) (message : List ℕ) → IsBytes message → BegunIsFit (begun_of mic finish awaited message)
  unfolding begun_of
  begun_is awaited message h = init_read_is awaited message (head_told reply 0 message) h
