-- The lines that are due for a stream of bytes: those of its records, one record after the other, and a last
-- line that says how the stream ends. Own format.
use Rattle.std.specs.Prelude.{ℕ, ◌+◌, Bool, true, false, nat_lt, List, [], ◌∷◌, ◌++◌, length, take, drop, Result, Ok, Err}
use Rattle.nfs_base.specs.declared.limits.TheConstants.{INPUT_LIMIT}
use Rattle.rpc_msg.specs.declared.call.CallHead.{CallHead}
use Rattle.rpc_msg.specs.declared.reply.ReplyHead.{ReplyHead}
use Rattle.rpc_msg.specs.declared.reply.ReplyHead.TheVariants as replies
use Rattle.rpc_msg.specs.declared.messages.RpcFault.{RpcFault}
use Rattle.rpc_msg.specs.declared.messages.RpcFault.TheVariants.{BadXdr, OtherKind}
use Rattle.rpc_msg.specs.Heads.{call, reply}
use Rattle.rpc_msg.specs.Messages.{head_told}
use Rattle.rpc_msg.specs.Records.{End, records_of}
use Rattle.rpc_msg.specs.Records as ends
use Rattle.wire_show.specs.Body.{body_lines}
use Rattle.wire_show.specs.declared.line.ShownLine.{ShownLine}
use Rattle.wire_show.specs.declared.line.ShownLine.TheVariants.{Record, Call, Accepted, Denied, Unread, Rest, Large, TooMuch}

-- the most bytes of an input that are looked at
abbrev pub most_bytes : ℕ
most_bytes = INPUT_LIMIT

-- ---- the lines of one record

abbrev pub call_line : CallHead → ShownLine
call_line head = Call head.xid head.prog head.vers head.proc head.cred.flavor

abbrev pub reply_line : ReplyHead → ShownLine
reply_line (replies.Accepted xid verf stat) = Accepted xid stat
reply_line (replies.Denied xid why) = Denied xid why

-- Where a message can't be read. The message type stands in its second word.
abbrev pub fault_place : RpcFault → ℕ
fault_place (BadXdr at) = at
fault_place (OtherKind found) = 4

abbrev pub reply_lines : Result (ReplyHead × ℕ) RpcFault → List ShownLine
reply_lines (Ok head) = reply_line head.0 ∷ []
reply_lines (Err fault) = Unread (fault_place fault) ∷ []

-- for what was read as a call; what is of the other type is read as a reply
abbrev pub message_lines : List ℕ → Result (CallHead × ℕ) RpcFault → List ShownLine
message_lines bytes (Ok head) = call_line head.0 ∷ body_lines head.0 head.1 (drop head.1 bytes)
message_lines bytes (Err (OtherKind found)) = reply_lines (head_told reply 0 bytes)
message_lines bytes (Err (BadXdr at)) = Unread at ∷ []

-- record number so and so
unfoldable pub record_lines : ℕ → List ℕ → List ShownLine
record_lines number bytes = Record number (length bytes) ∷ message_lines bytes (head_told call 1 bytes)

-- ---- the lines of a stream

-- records, the first of which has this number
unfoldable pub all_lines : ℕ → List (List ℕ) → List ShownLine
all_lines number [] = []
all_lines number (bytes ∷ records) = record_lines number bytes ++ all_lines (number + 1) records

-- How the stream ends: a record too large is told first, then that the input passes its limit, and else how
-- many bytes stand after its last whole record.
abbrev pub end_line : Bool → End → ShownLine
end_line over (ends.TooLarge sum) = Large sum
end_line true (ends.Rest count) = TooMuch
end_line false (ends.Rest count) = Rest count

abbrev pub is_refused : Bool → End → Bool
is_refused over (ends.TooLarge sum) = true
is_refused over (ends.Rest count) = over

abbrev pub passes_limit : List ℕ → Bool
passes_limit bytes = nat_lt most_bytes (length bytes)

-- the lines of a stream, of which no more than the limit is looked at
unfoldable pub shown : List ℕ → List ShownLine
shown bytes =
    all_lines 1 (records_of (take most_bytes bytes)).records
    ++ end_line (passes_limit bytes) (records_of (take most_bytes bytes)).end ∷ []

-- a record is too large, or the stream passes the limit
unfoldable pub refused : List ℕ → Bool
refused bytes = is_refused (passes_limit bytes) (records_of (take most_bytes bytes)).end
