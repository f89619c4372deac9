-- The heads of calls and replies (RFC 5531 section 9): how each is spelled in XDR.
use Rattle.std.specs.Prelude.{◌≡◌, ℕ, List, [], ◌∷◌, refl}
use Rattle.std.proofs.Common.{lit<}
use Rattle.wire_xdr.specs.Form.{Form}
use Rattle.wire_xdr.specs.Arms.{Case, ArmOf, IsListed, arm, holds}
use Rattle.wire_xdr.specs.Forms.{word, opaque, void, both, seen_as, union}
use Rattle.rpc_msg.specs.declared.numbers.TheConstants.{AUTH_ERROR, AUTH_LIMIT, CALL, GARBAGE_ARGS, MSG_ACCEPTED, MSG_DENIED, PROC_UNAVAIL, PROG_MISMATCH, PROG_UNAVAIL, REPLY, RPC_MISMATCH, SUCCESS, SYSTEM_ERR}
use Rattle.rpc_msg.specs.declared.auth.Auth.{Auth}
use Rattle.rpc_msg.specs.declared.call.CallHead.{CallHead}
use Rattle.rpc_msg.specs.declared.reply.Stat.{Stat}
use Rattle.rpc_msg.specs.declared.reply.Stat.TheVariants.{Success, ProgUnavail, ProgMismatch, ProcUnavail, Garbage, SystemErr}
use Rattle.rpc_msg.specs.declared.reply.Denial.{Denial}
use Rattle.rpc_msg.specs.declared.reply.Denial.TheVariants as denials
use Rattle.rpc_msg.specs.declared.reply.ReplyHead.{ReplyHead}
use Rattle.rpc_msg.specs.declared.reply.ReplyHead.TheVariants as replies

-- ---- a credential or a verifier (section 8.2)

unfoldable pub auth : Form Auth
auth = seen_as (λ v. record { flavor = v.0; body = v.1 }) (λ v. (v.flavor, v.body)) (λ v. refl) (λ v. refl) (both word (opaque AUTH_LIMIT (lit< tt)))

-- ---- a call: its number, its message type, and what is called

abbrev pub four_words : Form (ℕ × (ℕ × (ℕ × ℕ)))
four_words = both word (both word (both word word))

abbrev pub CallFields : Type 0
CallFields = (ℕ × (ℕ × (ℕ × ℕ))) × (Auth × Auth)

abbrev pub call_fields : Form CallFields
call_fields = both four_words (both auth auth)

abbrev pub call_case : CallFields → Case CallFields
call_case v = holds CALL call_fields (λ fields. fields) v

abbrev pub call_arms : List (ArmOf call_case)
call_arms = arm CALL call_fields (λ fields. fields) (λ v. refl) ∷ []

pub call_listed : (v : CallFields) → IsListed call_arms v
call_listed v = record { reads = λ otherwise c. refl; whole = refl }

abbrev pub to_call : ℕ × CallFields → CallHead
to_call v = record {
  xid = v.0;
  rpcvers = v.1.0.0;
  prog = v.1.0.1.0;
  vers = v.1.0.1.1.0;
  proc = v.1.0.1.1.1;
  cred = v.1.1.0;
  verf = v.1.1.1;
}

abbrev pub from_call : CallHead → ℕ × CallFields
from_call v = (v.xid, ((v.rpcvers, (v.prog, (v.vers, v.proc))), (v.cred, v.verf)))

unfoldable pub call : Form CallHead
call = seen_as to_call from_call (λ v. refl) (λ v. refl) (both word (union call_arms call_listed))

-- ---- what became of a call that was accepted

abbrev pub stat_case : Stat → Case Stat
stat_case Success = holds SUCCESS void (λ v. Success) tt
stat_case ProgUnavail = holds PROG_UNAVAIL void (λ v. ProgUnavail) tt
stat_case (ProgMismatch low high) = holds PROG_MISMATCH (both word word) (λ v. ProgMismatch v.0 v.1) (low, high)
stat_case ProcUnavail = holds PROC_UNAVAIL void (λ v. ProcUnavail) tt
stat_case Garbage = holds GARBAGE_ARGS void (λ v. Garbage) tt
stat_case SystemErr = holds SYSTEM_ERR void (λ v. SystemErr) tt

abbrev pub stat_arms : List (ArmOf stat_case)
stat_arms =
    arm SUCCESS void (λ v. Success) (λ v. refl) ∷ arm PROG_UNAVAIL void (λ v. ProgUnavail) (λ v. refl) ∷ arm PROG_MISMATCH (both word word) (λ v. ProgMismatch v.0 v.1) (λ v. refl)
    ∷ arm PROC_UNAVAIL void (λ v. ProcUnavail) (λ v. refl) ∷ arm GARBAGE_ARGS void (λ v. Garbage) (λ v. refl) ∷ arm SYSTEM_ERR void (λ v. SystemErr) (λ v. refl) ∷ []

pub stat_listed : (v : Stat) → IsListed stat_arms v
stat_listed Success = record { reads = λ otherwise c. refl; whole = refl }
stat_listed _ = record { reads = λ otherwise c. refl; whole = refl }

unfoldable pub stat : Form Stat
stat = union stat_arms stat_listed

-- ---- why a call was denied

abbrev pub denial_case : Denial → Case Denial
denial_case (denials.Mismatch low high) = holds RPC_MISMATCH (both word word) (λ v. denials.Mismatch v.0 v.1) (low, high)
denial_case (denials.Auth why) = holds AUTH_ERROR word denials.Auth why

abbrev pub denial_arms : List (ArmOf denial_case)
denial_arms = arm RPC_MISMATCH (both word word) (λ v. denials.Mismatch v.0 v.1) (λ v. refl) ∷ arm AUTH_ERROR word denials.Auth (λ v. refl) ∷ []

pub denial_listed : (v : Denial) → IsListed denial_arms v
denial_listed (denials.Mismatch low high) = record { reads = λ otherwise c. refl; whole = refl }
denial_listed _ = record { reads = λ otherwise c. refl; whole = refl }

unfoldable pub denial : Form Denial
denial = union denial_arms denial_listed

-- ---- a reply: the number of the call, its message type, and what became of the call

pub data ReplyBody : Type 0 where
  Accepted : Auth → Stat → ReplyBody
  Denied : Denial → ReplyBody

abbrev pub body_case : ReplyBody → Case ReplyBody
body_case (Accepted verf what) = holds MSG_ACCEPTED (both auth stat) (λ v. Accepted v.0 v.1) (verf, what)
body_case (Denied why) = holds MSG_DENIED denial Denied why

abbrev pub body_arms : List (ArmOf body_case)
body_arms = arm MSG_ACCEPTED (both auth stat) (λ v. Accepted v.0 v.1) (λ v. refl) ∷ arm MSG_DENIED denial Denied (λ v. refl) ∷ []

pub body_listed : (v : ReplyBody) → IsListed body_arms v
body_listed (Accepted verf what) = record { reads = λ otherwise c. refl; whole = refl }
body_listed _ = record { reads = λ otherwise c. refl; whole = refl }

abbrev pub reply_body : Form ReplyBody
reply_body = union body_arms body_listed

abbrev pub reply_case : ReplyBody → Case ReplyBody
reply_case v = holds REPLY reply_body (λ body. body) v

abbrev pub reply_arms : List (ArmOf reply_case)
reply_arms = arm REPLY reply_body (λ body. body) (λ v. refl) ∷ []

pub reply_listed : (v : ReplyBody) → IsListed reply_arms v
reply_listed v = record { reads = λ otherwise c. refl; whole = refl }

abbrev pub reply_of : ℕ → ReplyBody → ReplyHead
reply_of xid (Accepted verf what) = replies.Accepted xid verf what
reply_of xid (Denied why) = replies.Denied xid why

abbrev pub from_reply : ReplyHead → ℕ × ReplyBody
from_reply (replies.Accepted xid verf what) = (xid, Accepted verf what)
from_reply (replies.Denied xid why) = (xid, Denied why)

pub reply_from : (v : ReplyHead) → reply_of (from_reply v).0 (from_reply v).1 ≡ v
reply_from (replies.Accepted xid verf what) = refl
reply_from (replies.Denied xid why) = refl

pub from_reply_of : (xid : ℕ) (body : ReplyBody) → from_reply (reply_of xid body) ≡ (xid, body)
from_reply_of xid (Accepted verf what) = refl
from_reply_of xid (Denied why) = refl

unfoldable pub reply : Form ReplyHead
reply = seen_as (λ v. reply_of v.0 v.1) from_reply reply_from (λ v. from_reply_of v.0 v.1) (both word (union reply_arms reply_listed))
