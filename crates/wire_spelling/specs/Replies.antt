-- What a record says as a reply (RFC 5531 section 9), and the results that its sealed body carries.
use Rattle.std.specs.Prelude.{ℕ, ◌==◌, ◌&&◌, Bool, true, false, if◌then◌else◌, List, [], drop, Option, Some, None, Result, Ok, Err}
use Rattle.std.proofs.Common.{lit<}
use Rattle.file_ops.specs.declared.operation.TheConstants.{OP_SEQUENCE}
use Rattle.gss_ctx.specs.Forms.{create_result}
use Rattle.gss_ctx.specs.Table.{boot_named, number_named}
use Rattle.gss_ctx.specs.declared.create.CreateResult.{CreateResult}
use Rattle.nfs_base.specs.declared.limits.TheConstants.{TEXT_LIMIT}
use Rattle.rpc_calls.specs.declared.numbers.TheConstants.{GSS_S_COMPLETE}
use Rattle.rpc_msg.specs.Heads.{reply}
use Rattle.rpc_msg.specs.Messages.{head_told}
use Rattle.rpc_msg.specs.declared.messages.RpcFault.{RpcFault}
use Rattle.rpc_msg.specs.declared.numbers.TheConstants.{CALL}
use Rattle.rpc_msg.specs.declared.reply.ReplyHead.{ReplyHead}
use Rattle.rpc_msg.specs.declared.reply.ReplyHead.TheVariants.{Accepted}
use Rattle.rpc_msg.specs.declared.reply.Stat.TheVariants.{Success}
use Rattle.wire_model.specs.Spelling.{Context}
use Rattle.wire_xdr.specs.All.{start, value_of}
use Rattle.wire_xdr.specs.Cursor.{Cursor}
use Rattle.wire_xdr.specs.Form.{Form}
use Rattle.wire_xdr.specs.Forms.{word, opaque, both}
use Rattle.wire_spelling.specs.Slots.{carried_in}

-- its head is that of a reply
abbrev pub is_read : Result (ReplyHead × ℕ) RpcFault → Bool
is_read (Ok read) = true
is_read (Err fault) = false

abbrev pub is_reply : List ℕ → Bool
is_reply bytes = is_read (head_told reply CALL bytes)

-- ---- the results of a call that was carried out: what its sealed body carries

abbrev pub results_behind : List ℕ → ReplyHead → List ℕ
results_behind body (Accepted xid verf Success) = carried_in body
results_behind body _ = []

abbrev pub results_read : List ℕ → Result (ReplyHead × ℕ) RpcFault → List ℕ
results_read bytes (Ok read) = results_behind (drop read.1 bytes) read.0
results_read bytes (Err fault) = []

abbrev pub results_of : List ℕ → List ℕ
results_of bytes = results_read bytes (head_told reply CALL bytes)

-- ---- the context that a CREATE gives (RFC 7861 section 2.7), by its handle (own)

abbrev pub context_given : Option CreateResult → Option Context
context_given None = None
context_given (Some told) =
    if told.major == GSS_S_COMPLETE then Some (record { boot = boot_named told.handle; number = number_named told.handle }) else None

abbrev pub context_in : List ℕ → Option Context
context_in bytes = context_given (value_of create_result (results_of bytes))

-- ---- whether operations ran: the first of their results is that of SEQUENCE, with status 0 (RFC 8881 section 18.46)

-- of COMPOUND4res the status, the tag and the count, and of the first result the operation and its status (section 16.2)
abbrev pub Front : Type 0
Front = ℕ × (List ℕ × (ℕ × (ℕ × ℕ)))

abbrev pub front : Form Front
front = both word (both (opaque TEXT_LIMIT (lit< tt)) (both word (both word word)))

abbrev pub has_begun : Result (Front × Cursor) ℕ → Bool
has_begun (Ok read) = (read.0.1.1.1.0 == OP_SEQUENCE) && (read.0.1.1.1.1 == 0)
has_begun (Err at) = false

abbrev pub has_run : List ℕ → Bool
has_run results = has_begun (front.read (start results))
