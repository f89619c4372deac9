-- The names of the operations (RFC 8881 section 16.2, RFC 7862 section 15).
use Rattle.std.specs.Prelude.{ℕ, List, codes, ◌==◌, if◌then◌else◌}
use Rattle.copy_ops.specs.declared.operation.TheConstants.{OP_COPY, OP_COPY_NOTIFY, OP_OFFLOAD_CANCEL, OP_OFFLOAD_STATUS, OP_CLONE, OP_CB_OFFLOAD}
use Rattle.file_ops.specs.declared.operation.TheConstants.{OP_CB_SEQUENCE}
use Rattle.file_ops.specs.Operations.{file_op_name}

-- the name of an operation of a COMPOUND; no other number has one
abbrev pub op_name : ℕ → List ℕ
op_name n =
    if n == OP_COPY then codes "COPY"
    else if n == OP_COPY_NOTIFY then codes "COPY_NOTIFY"
    else if n == OP_OFFLOAD_CANCEL then codes "OFFLOAD_CANCEL"
    else if n == OP_OFFLOAD_STATUS then codes "OFFLOAD_STATUS"
    else if n == OP_CLONE then codes "CLONE"
    else file_op_name n

-- the name of an operation of a CB_COMPOUND (RFC 8881 section 20, RFC 7862 section 16)
abbrev pub cb_op_name : ℕ → List ℕ
cb_op_name n =
    if n == OP_CB_SEQUENCE then codes "CB_SEQUENCE"
    else if n == OP_CB_OFFLOAD then codes "CB_OFFLOAD"
    else codes ""
