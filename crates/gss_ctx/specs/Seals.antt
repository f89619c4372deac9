-- What is sealed, and by which codes (RFC 2203 section 5.3, RFC 7861 section 2). A code is made of bytes by
-- `mic key side`, the side being the initiator's or the acceptor's.
use Rattle.std.specs.Prelude.{ℕ, ◌+◌, ◌<◌, ◌≤◌, ◌==◌, ◌&&◌, Bool, if◌then◌else◌, List, [], ◌∷◌, ◌++◌, take, drop, bytes_eq, Option, Some, None}
use Rattle.std.proofs.Common.{lit<}
use Rattle.wire_xdr.specs.Form.{Form}
use Rattle.wire_xdr.specs.Forms.{opaque, both}
use Rattle.wire_xdr.specs.Words.{word_bytes, opaque_bytes}
use Rattle.rpc_msg.specs.Heads.{auth, reply}
use Rattle.rpc_msg.specs.GssCred.{gss_cred}
use Rattle.rpc_msg.specs.declared.auth.Auth.{Auth}
use Rattle.rpc_msg.specs.declared.call.CallHead.{CallHead}
use Rattle.rpc_msg.specs.declared.gss_cred.GssCred.{GssCred}
use Rattle.rpc_msg.specs.declared.reply.Stat.{Stat}
use Rattle.rpc_msg.specs.declared.reply.Stat.TheVariants.{Success}
use Rattle.rpc_msg.specs.declared.reply.ReplyHead.TheVariants.{Accepted}
use Rattle.wire_xdr.specs.All.{value_of}
use Rattle.gss_ctx.specs.declared.sealing.TheConstants.{SEAL_ROOM}
use Rattle.rpc_msg.specs.declared.numbers.TheConstants.{REPLY, RPCSEC_GSS}
use Rattle.gss_mech.specs.declared.mechanism.TheConstants.{ACCEPTOR}

-- how codes are made: of a key, a side and bytes
abbrev pub Mic : Type 0
Mic = List ℕ → ℕ → List ℕ → List ℕ

-- the RPCSEC_GSS credential of a head, where it has one
abbrev pub cred_of : CallHead → Option GssCred
cred_of head = if head.cred.flavor == RPCSEC_GSS then value_of gss_cred head.cred.body else None

-- The header of a call: from the xid through the credential. The message type is that of a call, and that of a
-- reply where the reply's code is made of it.
unfoldable pub header_of : ℕ → CallHead → List ℕ
header_of kind head =
    word_bytes head.xid ++ (word_bytes kind ++ ((word_bytes head.rpcvers ++ (word_bytes head.prog ++ (word_bytes head.vers ++ word_bytes head.proc))) ++ auth.spell head.cred))

-- an auth of flavor 6 with a code
abbrev pub code_auth : List ℕ → Auth
code_auth code = record { flavor = RPCSEC_GSS; body = code }

abbrev pub is_code : Auth → List ℕ → Bool
is_code verf code = (verf.flavor == RPCSEC_GSS) && bytes_eq verf.body code

-- An integrity body: the sequence number and what is carried behind one length, then the code of both.
abbrev pub sealed_body : (List ℕ → List ℕ) → ℕ → List ℕ → List ℕ
sealed_body code seq payload = opaque_bytes (word_bytes seq ++ payload) ++ opaque_bytes (code (word_bytes seq ++ payload))

unfoldable pub two_opaques : Form (List ℕ × List ℕ)
two_opaques = both (opaque 4294967295 (lit< tt)) (opaque 4294967295 (lit< tt))

abbrev pub payload_of : (List ℕ → List ℕ) → ℕ → Option (List ℕ × List ℕ) → Option (List ℕ)
payload_of code seq None = None
payload_of code seq (Some parts) =
    if bytes_eq parts.1 (code parts.0) then (if bytes_eq (take 4 parts.0) (word_bytes seq) then Some (drop 4 parts.0) else None) else None

-- what a body carries, where it has the right code and the right sequence number
unfoldable pub unsealed : (List ℕ → List ℕ) → ℕ → List ℕ → Option (List ℕ)
unsealed code seq body = payload_of code seq (value_of two_opaques body)

-- The verifier's code of a reply. Of a call of version 1 it is made of the sequence number (RFC 2203 section
-- 5.3.3.2), of version 3 of the call's header with message type 1 (RFC 7861 section 2.3).
abbrev pub is_first_version : CallHead → Bool
is_first_version head = bytes_eq (take 4 head.cred.body) (0 ∷ 0 ∷ 0 ∷ 1 ∷ [])

unfoldable pub reply_code : Mic → List ℕ → CallHead → ℕ → List ℕ
reply_code mic key head seq = mic key ACCEPTOR (if is_first_version head then word_bytes seq else header_of REPLY head)

-- A reply to a call under a context up to its result: the verifier is flavor 6 with the code. This is all of
-- it where it carries no result.
unfoldable pub reply_front : Mic → List ℕ → CallHead → ℕ → Stat → List ℕ
reply_front mic key head seq stat = reply.spell (Accepted head.xid (code_auth (reply_code mic key head seq)) stat)

-- a whole reply under a seal
unfoldable pub sealed_reply : Mic → List ℕ → CallHead → ℕ → List ℕ → List ℕ
sealed_reply mic key head seq result = reply_front mic key head seq Success ++ sealed_body (mic key ACCEPTOR) seq result

-- A reply whose result is yet to come: its front, the key and the number under which the result is sealed, and how
-- many bytes the result may have.
pub record Sealing : Type 0 where
  pub front : List ℕ
  pub key : List ℕ
  pub seq : ℕ
  pub most : ℕ

-- the whole reply, once its result is there
abbrev pub sealed_with : Mic → Sealing → List ℕ → List ℕ
sealed_with mic sealing result = sealing.front ++ sealed_body (mic sealing.key ACCEPTOR) sealing.seq result

-- the reply to this call, sealed under this key
abbrev pub sealing_of : Mic → List ℕ → CallHead → ℕ → ℕ → Sealing
sealing_of mic key head seq most = record { front = reply_front mic key head seq Success; key = key; seq = seq; most = most }

-- a page with so many bytes has room for the result and its seal
pub record HasRoom (written most room : ℕ) : Type 0 where
  pub small : most < 4294967292
  pub fits : written + most + SEAL_ROOM ≤ room
