-- What is written is read back: heads, sealed bodies, and what they carry.
use Rattle.std.proofs.Common.{◌≡◌, ℕ, ◌+◌, ◌<◌, ◌≤◌, ◌^◌, Bool, true, false, List, [], ◌++◌, length, take, drop, Option, Some, None, Ok, refl, sym, ◌∙◌, ap, arith, zero-add, lit<}
use Rattle.std.specs.Prelude.{if◌then◌else◌, bytes_eq}
use Rattle.std.specs.Result.{result_ok}
use Rattle.std.proofs.Math.Seq.{drop-append_seam}
use Rattle.std.proofs.lemmas.List.{append-nil, length-append}
use Rattle.std.proofs.lemmas.Nat.{from_be_bytes-to_be_bytes_4}
use Rattle.wire_xdr.specs.All.{value_of}
use Rattle.wire_xdr.specs.AllLaws.{spelled_all}
use Rattle.wire_xdr.specs.LengthLaws.{word_length}
use Rattle.wire_xdr.specs.Words.{word_bytes}
use Rattle.rpc_msg.specs.Heads.{auth, call, denial, reply, stat}
use Rattle.rpc_msg.specs.Messages.{head_told, kind_of, behind, unless_other, first}
use Rattle.rpc_msg.specs.declared.call.CallHead.{CallHead}
use Rattle.rpc_msg.specs.declared.reply.Denial.{Denial}
use Rattle.rpc_msg.specs.declared.reply.ReplyHead.{ReplyHead}
use Rattle.rpc_msg.specs.declared.reply.ReplyHead.TheVariants.{Accepted, Denied}
use Rattle.rpc_msg.specs.declared.reply.Stat.{Stat}
use Rattle.rpc_msg.specs.declared.reply.Stat.TheVariants.{Success}
use Rattle.gss_mech.specs.Tokens.{IsSized}
use Rattle.rpc_calls.specs.Answers.{denial_reply, plain_front}
use Rattle.rpc_calls.specs.Making.{init_reply, init_told}
use Rattle.gss_ctx.specs.Forms.{init_result}
use Rattle.gss_ctx.specs.declared.making.Inited.TheVariants.{Made}
use Rattle.gss_ctx.specs.Calls.{none_auth}
use Rattle.gss_ctx.specs.Seals.{Mic, code_auth, payload_of, reply_code, reply_front, sealed_body, sealed_reply, two_opaques, unsealed}
use Rattle.wire_spelling.specs.Calls.{call_in, call_read, xid_in}
use Rattle.wire_spelling.specs.Replies.{is_read, is_reply, results_behind, results_of, results_read}
use Rattle.wire_spelling.specs.Slots.{carried_by, carried_in, ops_in, ops_of}

-- ---- heads

reply_kind : (head : ReplyHead) (body : List ℕ) → kind_of (reply.spell head ++ body) ≡ Some 1
unfolding reply word_bytes
reply_kind head body = refl

pub reply_again : (head : ReplyHead) (body : List ℕ) → reply.Fits head → head_told reply 0 (reply.spell head ++ body) ≡ Ok (head, length (reply.spell head))
reply_again head body fits =
    ap (λ (k : Option ℕ). unless_other 0 k (behind (reply.read (first (reply.spell head ++ body))))) (reply_kind head body)
    ∙ ap behind (reply.lawful.again 0 head body fits)
    ∙ ap (λ (n : ℕ). Ok (head, n)) (zero-add (length (reply.spell head)))

call_kind : (head : CallHead) (body : List ℕ) → kind_of (call.spell head ++ body) ≡ Some 0
unfolding call word_bytes
call_kind head body = refl

call_again : (head : CallHead) (body : List ℕ) → call.Fits head → head_told call 1 (call.spell head ++ body) ≡ Ok (head, length (call.spell head))
call_again head body fits =
    ap (λ (k : Option ℕ). unless_other 1 k (behind (call.read (first (call.spell head ++ body))))) (call_kind head body)
    ∙ ap behind (call.lawful.again 0 head body fits)
    ∙ ap (λ (n : ℕ). Ok (head, n)) (zero-add (length (call.spell head)))

-- a call that is written is read as it is
pub call_read_back : (head : CallHead) (body : List ℕ) → call.Fits head → call_in (call.spell head ++ body) ≡ Some (record { head = head; body = body })
call_read_back head body fits =
    ap (call_read (call.spell head ++ body)) (call_again head body fits)
    ∙ ap (λ (b : List ℕ). Some (record { head = head; body = b })) (drop-append_seam (call.spell head) body)

-- a reply that is written is one
pub reply_is : (head : ReplyHead) (body : List ℕ) → reply.Fits head → is_reply (reply.spell head ++ body) ≡ true
reply_is head body fits = ap is_read (reply_again head body fits)

pub results_read_back : (head : ReplyHead) (body : List ℕ) → reply.Fits head → results_of (reply.spell head ++ body) ≡ results_behind body head
results_read_back head body fits =
    ap (results_read (reply.spell head ++ body)) (reply_again head body fits)
    ∙ ap (λ (b : List ℕ). results_behind b head) (drop-append_seam (reply.spell head) body)

-- ---- heads that have a spelling

pub denied_fits : (xid : ℕ) (why : Denial) → xid < 2 ^ 32 → denial.Fits why → reply.Fits (Denied xid why)
unfolding reply
denied_fits xid why small fits = (small, (lit< tt, (lit< tt, fits)))

pub plain_fits : (xid : ℕ) (what : Stat) → xid < 2 ^ 32 → stat.Fits what → reply.Fits (Accepted xid none_auth what)
unfolding reply auth
plain_fits xid what small fits = (small, (lit< tt, (lit< tt, ((lit< tt, omega arith), fits))))

pub sealed_fits : (xid : ℕ) (code : List ℕ) (what : Stat) → xid < 2 ^ 32 → length code ≡ 32 → stat.Fits what → reply.Fits (Accepted xid (code_auth code) what)
unfolding reply auth
sealed_fits xid code what small len fits = (small, (lit< tt, (lit< tt, ((lit< tt, omega arith), fits))))

pub success_fits : stat.Fits Success
unfolding stat
success_fits = (lit< tt, tt)

pub code_length : (mic : Mic) (key : List ℕ) (head : CallHead) (seq : ℕ) → IsSized mic → length (reply_code mic key head seq) ≡ 32
unfolding reply_code
code_length mic key head seq sized = sized key 1 _

pub xid_small : (head : CallHead) → call.Fits head → head.xid < 2 ^ 32
unfolding call
xid_small head fits = fits.0

-- ---- sealed bodies

word_behind : (seq : ℕ) (bytes : List ℕ) → drop 4 (word_bytes seq ++ bytes) ≡ bytes
unfolding word_bytes
word_behind seq bytes = refl

-- a body that is sealed carries its payload
pub carried_back : (code : List ℕ → List ℕ) (seq : ℕ) (payload : List ℕ) → ((bytes : List ℕ) → length (code bytes) ≡ 32) → length payload + 4 < 4294967296
    → carried_in (sealed_body code seq payload) ≡ payload
unfolding two_opaques
carried_back code seq payload sized small =
    let text : List ℕ = word_bytes seq ++ payload in
    let parts : List ℕ × List ℕ = (text, code text) in
    let short : length text ≤ 4294967295 = omega (arith, length-append (word_bytes seq) payload, word_length seq) in
    let whole : value_of two_opaques (sealed_body code seq payload) ≡ Some parts = ap result_ok (spelled_all two_opaques parts (sealed_body code seq payload) ((short, omega (arith, sized text)), refl)) in
    ap carried_by whole ∙ word_behind seq payload

told_carried : (a b : Bool) (x : List ℕ) (args : List ℕ) → (if b then (if a then Some x else None) else None) ≡ Some args → x ≡ args
told_carried true true x args h = cc
told_carried false true x args h = absurd cc
told_carried a false x args h = absurd cc

parts_carried : (code : List ℕ → List ℕ) (seq : ℕ) (parts : Option (List ℕ × List ℕ)) (args : List ℕ) → payload_of code seq parts ≡ Some args → carried_by parts ≡ args
parts_carried code seq None args h = absurd cc
parts_carried code seq (Some parts) args h = told_carried (bytes_eq (take 4 parts.0) (word_bytes seq)) (bytes_eq parts.1 (code parts.0)) (drop 4 parts.0) args h

-- what a context finds in a body is what the body carries
pub unsealed_carried : (code : List ℕ → List ℕ) (seq : ℕ) (body args : List ℕ) → unsealed code seq body ≡ Some args → carried_in body ≡ args
unfolding unsealed
unsealed_carried code seq body args h = parts_carried code seq (value_of two_opaques body) args h

-- ---- a reply under a seal

pub sealed_reply_is : (mic : Mic) (key : List ℕ) (head : CallHead) (seq : ℕ) (result : List ℕ) → IsSized mic → call.Fits head
    → is_reply (sealed_reply mic key head seq result) ≡ true
unfolding sealed_reply reply_front
sealed_reply_is mic key head seq result sized fits =
    reply_is (Accepted head.xid (code_auth (reply_code mic key head seq)) Success) (sealed_body (mic key 1) seq result)
    (sealed_fits head.xid (reply_code mic key head seq) Success (xid_small head fits) (code_length mic key head seq sized) success_fits)

pub sealed_results : (mic : Mic) (key : List ℕ) (head : CallHead) (seq : ℕ) (result : List ℕ) → IsSized mic → call.Fits head → length result + 4 < 4294967296
    → results_of (sealed_reply mic key head seq result) ≡ result
unfolding sealed_reply reply_front
sealed_results mic key head seq result sized fits small =
    results_read_back (Accepted head.xid (code_auth (reply_code mic key head seq)) Success) (sealed_body (mic key 1) seq result)
    (sealed_fits head.xid (reply_code mic key head seq) Success (xid_small head fits) (code_length mic key head seq sized) success_fits)
    ∙ carried_back (mic key 1) seq result (sized key 1) small

-- ---- the first word

pub call_xid : (head : CallHead) (body : List ℕ) → head.xid < 2 ^ 32 → xid_in (call.spell head ++ body) ≡ head.xid
unfolding call word_bytes
call_xid head body small = from_be_bytes-to_be_bytes_4 head.xid small

-- ---- calls and replies of other kinds

pub ops_back : (code : List ℕ → List ℕ) (head : CallHead) (seq : ℕ) (args : List ℕ) → ((bytes : List ℕ) → length (code bytes) ≡ 32) → call.Fits head
    → length args + 4 < 4294967296 → ops_of (call.spell head ++ sealed_body code seq args) ≡ args
ops_back code head seq args sized fits small =
    ap ops_in (call_read_back head (sealed_body code seq args) fits) ∙ carried_back code seq args sized small

alone : (head : ReplyHead) → reply.Fits head → is_reply (reply.spell head) ≡ true
alone head fits = ap is_reply (sym (append-nil (reply.spell head))) ∙ reply_is head [] fits

pub denial_is : (xid : ℕ) (why : Denial) → xid < 2 ^ 32 → denial.Fits why → is_reply (denial_reply xid why) ≡ true
denial_is xid why small fits = alone (Denied xid why) (denied_fits xid why small fits)

pub plain_is : (xid : ℕ) (what : Stat) (body : List ℕ) → xid < 2 ^ 32 → stat.Fits what → is_reply (plain_front xid what ++ body) ≡ true
plain_is xid what body small fits = reply_is (Accepted xid none_auth what) body (plain_fits xid what small fits)

pub failure_is : (mic : Mic) (key : List ℕ) (head : CallHead) (seq : ℕ) (what : Stat) → IsSized mic → call.Fits head → stat.Fits what
    → is_reply (reply_front mic key head seq what) ≡ true
unfolding reply_front
failure_is mic key head seq what sized fits said =
    alone (Accepted head.xid (code_auth (reply_code mic key head seq)) what)
    (sealed_fits head.xid (reply_code mic key head seq) what (xid_small head fits) (code_length mic key head seq sized) said)

pub begun_is : (xid window : ℕ) (handle token verifier : List ℕ) → xid < 2 ^ 32 → length verifier ≡ 32
    → is_reply (init_reply xid (Made handle window token verifier)) ≡ true
begun_is xid window handle token verifier small len =
    reply_is (Accepted xid (code_auth verifier) Success) (init_result.spell (init_told (Made handle window token verifier)))
    (sealed_fits xid verifier Success small len success_fits)

-- ---- no record is both

pub call_is_no_reply : (head : CallHead) (body : List ℕ) → is_reply (call.spell head ++ body) ≡ false
call_is_no_reply head body =
    ap (λ (k : Option ℕ). is_read (unless_other 0 k (behind (reply.read (first (call.spell head ++ body)))))) (call_kind head body)

pub reply_is_no_call : (head : ReplyHead) (body : List ℕ) → call_in (reply.spell head ++ body) ≡ None
reply_is_no_call head body =
    ap (λ (k : Option ℕ). call_read (reply.spell head ++ body) (unless_other 1 k (behind (call.read (first (reply.spell head ++ body)))))) (reply_kind head body)
