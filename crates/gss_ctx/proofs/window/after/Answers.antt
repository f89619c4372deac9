use Rattle.std.proofs.Common.{arith}
use Rattle.gss_ctx.proofs.WindowLemmas.{note_near, note_far, note_back, note_below}
use Rattle.gss_ctx.proofs.window.after.Goals as goal

pub returns-then-by-lt-WINDOW_SIZE : goal.returns-then-by-lt-WINDOW_SIZE
returns-then-by-lt-WINDOW_SIZE c = note_near c.args.greatest c.args.bits c.args.number (omega arith) (omega arith)

pub returns-then-greatest-number : goal.returns-then-greatest-number
returns-then-greatest-number c = note_far c.args.greatest c.args.bits c.args.number (omega arith)

pub returns-then-back-lt-WINDOW_SIZE : goal.returns-then-back-lt-WINDOW_SIZE
returns-then-back-lt-WINDOW_SIZE c = note_back c.args.greatest c.args.bits c.args.number (omega arith) (omega arith)

pub returns : goal.returns
returns c = note_below c.args.greatest c.args.bits c.args.number (omega arith)
