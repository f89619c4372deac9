-- The operations by number and name (RFC 8881 section 16.2, RFC 5662).
use Rattle.std.specs.Prelude.{ℕ, Bool, false, IsTrue, List, [], ◌∷◌, codes, ◌==◌, ◌||◌, if◌then◌else◌}
use Rattle.file_ops.specs.declared.operation.TheConstants.{OP_CLOSE, OP_COMMIT, OP_GETATTR, OP_GETFH, OP_LOOKUP, OP_OPEN, OP_PUTFH, OP_PUTROOTFH, OP_READ, OP_RESTOREFH, OP_SAVEFH, OP_WRITE, OP_EXCHANGE_ID, OP_CREATE_SESSION, OP_DESTROY_SESSION, OP_SEQUENCE, OP_DESTROY_CLIENTID, OP_RECLAIM_COMPLETE, OP_ILLEGAL}

abbrev pub operations : List (ℕ × List ℕ)
operations =
    (OP_CLOSE, codes "CLOSE") ∷ (OP_COMMIT, codes "COMMIT") ∷ (OP_GETATTR, codes "GETATTR") ∷ (OP_GETFH, codes "GETFH") ∷ (OP_LOOKUP, codes "LOOKUP")
    ∷ (OP_OPEN, codes "OPEN") ∷ (OP_PUTFH, codes "PUTFH") ∷ (OP_PUTROOTFH, codes "PUTROOTFH") ∷ (OP_READ, codes "READ") ∷ (OP_RESTOREFH, codes "RESTOREFH")
    ∷ (OP_SAVEFH, codes "SAVEFH") ∷ (OP_WRITE, codes "WRITE") ∷ (OP_EXCHANGE_ID, codes "EXCHANGE_ID") ∷ (OP_CREATE_SESSION, codes "CREATE_SESSION")
    ∷ (OP_DESTROY_SESSION, codes "DESTROY_SESSION") ∷ (OP_SEQUENCE, codes "SEQUENCE") ∷ (OP_DESTROY_CLIENTID, codes "DESTROY_CLIENTID")
    ∷ (OP_RECLAIM_COMPLETE, codes "RECLAIM_COMPLETE") ∷ (OP_ILLEGAL, codes "ILLEGAL") ∷ []

abbrev pub has_number : List (ℕ × List ℕ) → ℕ → Bool
has_number [] n = false
has_number (row ∷ rows) n = (n == row.0) || has_number rows n

abbrev pub name_in : List (ℕ × List ℕ) → ℕ → List ℕ
name_in [] n = []
name_in (row ∷ rows) n = if n == row.0 then row.1 else name_in rows n

-- whether a number is that of one of them
abbrev pub is_file_op : ℕ → Bool
is_file_op n = has_number operations n

abbrev pub IsFileOp : ℕ → Type 0
IsFileOp n = IsTrue (is_file_op n)

-- its name; no other number has one
abbrev pub file_op_name : ℕ → List ℕ
file_op_name n = name_in operations n
