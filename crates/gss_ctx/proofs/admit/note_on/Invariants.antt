use Rattle.std.proofs.Common.{◌≡◌, ◌++◌, take, drop}
use Rattle.std.specs.Prelude.{map}
use Rattle.gss_ctx.specs.Table.{noted_on}
use Rattle.gss_ctx.proofs.admit.note_on.Given as goal

abbrev pub invariant-loop-entry : goal.invariant-loop-entry
invariant-loop-entry g l = l.entries ≡ map (noted_on l.number l.seq) (take l.entry-index l.initial.entries) ++ drop l.entry-index l.initial.entries
