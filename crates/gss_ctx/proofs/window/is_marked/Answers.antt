use Rattle.std.proofs.Common.{arith}
use Rattle.gss_ctx.proofs.WindowLemmas.{above_has, below_has, inside_has}
use Rattle.gss_ctx.proofs.window.is_marked.Goals as goal

pub returns-then-greatest-number : goal.returns-then-greatest-number
returns-then-greatest-number c = above_has c.args.greatest c.args.bits c.args.number (omega arith)

pub returns-then-back-ge-WINDOW_SIZE : goal.returns-then-back-ge-WINDOW_SIZE
returns-then-back-ge-WINDOW_SIZE c = below_has c.args.greatest c.args.bits c.args.number (omega arith)

pub returns : goal.returns
returns c = inside_has c.args.greatest c.args.bits c.args.number (omega arith) (omega arith)
