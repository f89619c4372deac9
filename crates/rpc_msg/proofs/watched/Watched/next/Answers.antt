use Rattle.std.proofs.Common.{sym, ap, ◌∙◌}
use Rattle.streams.specs.Stream.{left_of, faults_of}
use Rattle.rpc_msg.proofs.Watching.{up_signs, next_after, next_whole, read_down, goes_down, got_down}
use Rattle.rpc_msg.proofs.watched.Watched.next.Goals as goal

pub returns-in-Part-clause-next : goal.returns-in-Part-clause-next
returns-in-Part-clause-next g c =
    let up = up_signs _ (sym c.is_down.ensures ∙ c.if-is_down.false) in
    next_after _ (faults_of g.L.Stream.gives) _ _ _ _ up c.in-Part.ensures c.ask.ensures.next

pub returns-in-Whole-clause-next : goal.returns-in-Whole-clause-next
returns-in-Whole-clause-next g c =
    let up = up_signs _ (sym c.is_down.ensures ∙ c.if-is_down.false) in
    next_whole _ (faults_of g.L.Stream.gives) _ _ up c.in-Whole.ensures

pub returns-in-Down-clause-next : goal.returns-in-Down-clause-next
returns-in-Down-clause-next g c =
    let up = up_signs _ (sym c.is_down.ensures ∙ c.if-is_down.false) in
    goes_down _ _ _ _ up (read_down _ (faults_of g.L.Stream.gives) _ _ c.in-Down.ensures)

pub returns-in-Down-clause-down : goal.returns-in-Down-clause-down
returns-in-Down-clause-down g c =
    let down = c.in-Down.ensures in
    got_down (left_of g.L.Stream.gives) (faults_of g.L.Stream.gives) down.why c.args.self.now c.read.new.self _ (ap (λ w. w.signs) down.rest) (down.cause _ _ _)
