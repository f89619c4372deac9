-- How many contexts are made.
use Rattle.std.proofs.Common.{◌≡◌, ℕ, refl}
use Rattle.std.specs.Prelude.{Option, Some, None}
use Rattle.gss_ctx.specs.declared.admit.Verdict.{Verdict}
use Rattle.gss_ctx.specs.Table.{ContextTable}
use Rattle.rpc_calls.specs.Answers.{counted, counted_by}
use Rattle.rpc_calls.specs.declared.call.Call.{Call}

by_verdict : {C : Type 0} (second : ℕ) (verdict : Option Verdict) (table : ContextTable C) → (counted_by second verdict table).made ≡ table.made
by_verdict second None table = refl
by_verdict second (Some verdict) table = refl

-- a call that is counted makes no context
pub counted_made : {C : Type 0} (second : ℕ) (call : Call) (table : ContextTable C) → (counted second call table).made ≡ table.made
counted_made second call table = by_verdict second call.verdict table
