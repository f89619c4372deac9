use Rattle.std.proofs.Common.{◌≡◌, ◌++◌, take, drop}
use Rattle.std.specs.Prelude.{map}
use Rattle.gss_ctx.specs.Table.{used_on}
use Rattle.gss_ctx.proofs.admit.use_on.Given as goal

abbrev pub invariant-loop-entry : goal.invariant-loop-entry
invariant-loop-entry g l = l.entries ≡ map (used_on l.number l.parent l.now) (take l.entry-index l.initial.entries) ++ drop l.entry-index l.initial.entries
