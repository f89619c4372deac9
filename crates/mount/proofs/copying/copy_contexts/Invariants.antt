use Rattle.std.proofs.Common.{◌≡◌, take}
use Rattle.mount.proofs.copying.copy_contexts.Given as goal

abbrev pub invariant-loop-context : goal.invariant-loop-context
invariant-loop-context l = l.copies.items ≡ take l.context-index l.contexts
