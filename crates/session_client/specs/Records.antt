-- What the first words of a record say (RFC 5531 section 9).
use Rattle.std.specs.Prelude.{◌≡◌, ℕ, List, ◌++◌, Option, Some, None, Result, Ok, Err}
use Rattle.wire_xdr.specs.Words.{word_bytes}
use Rattle.rpc_msg.specs.declared.messages.RpcFault.{RpcFault}
use Rattle.rpc_msg.specs.declared.numbers.TheConstants.{CALL}
use Rattle.rpc_msg.specs.declared.reply.ReplyHead.{ReplyHead}
use Rattle.rpc_msg.specs.declared.reply.ReplyHead.TheVariants.{Accepted, Denied}
use Rattle.rpc_msg.specs.Heads.{reply}
use Rattle.rpc_msg.specs.Messages.{head_told}

-- the record is a call, with this xid
pub record IsCallOf (xid : ℕ) (bytes : List ℕ) : Type 0 where
  pub rest : List ℕ
  pub is : bytes ≡ word_bytes xid ++ (word_bytes CALL ++ rest)

abbrev pub head_xid : ReplyHead → ℕ
head_xid (Accepted xid verf stat) = xid
head_xid (Denied xid why) = xid

abbrev pub xid_in : Result (ReplyHead × ℕ) RpcFault → Option ℕ
xid_in (Ok head) = Some (head_xid head.0)
xid_in (Err fault) = None

-- the xid of a reply, where the record is one
abbrev pub reply_xid : List ℕ → Option ℕ
reply_xid bytes = xid_in (head_told reply 0 bytes)
