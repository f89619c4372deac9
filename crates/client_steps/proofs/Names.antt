-- A file's name is short.
use Rattle.std.proofs.Common.{ℕ, ◌<◌, ◌≤◌, length, arith}
use Rattle.std.specs.Prelude.{decimal}
use Rattle.std.proofs.lemmas.Fmt.{length-decimal-le}

pub decimal_is_short : (n : ℕ) → n < 4294967296 → length (decimal n) ≤ 10
decimal_is_short n lt = length-decimal-le 10 n (omega arith) (omega arith) (omega arith)
