use Rattle.std.proofs.Common.{refl, ap, ◌∙◌, arith}
use Rattle.streams.specs.Stream.{left_of, faults_of}
use Rattle.rpc_msg.proofs.Watching.{quiet_none, quiet_more, ask_whole, ask_down, goes_down, got_down}
use Rattle.rpc_msg.proofs.watched.Watched.ask.Goals as goal

pub takes-init : goal.takes-init
takes-init g c = (quiet_none _ _ c.requires.read c.requires.few, c.requires.up, c.requires.few, omega arith, refl, refl, refl)

pub takes-preserved : goal.takes-preserved
takes-preserved g c =
    let kept = c.takes.invariant in
    let asks = c.in-More.ensures.asked in
    let part = c.in-Part.ensures in
    let link = ap (λ w. w.link) part.rest in (
      quiet_more _ (faults_of g.L.Stream.gives) _ _ _ _ kept.0 asks part,
      ap (λ w. w.signs) part.rest ∙ ap (λ w. w.signs) asks.0 ∙ kept.1,
      part.few,
      rw link (omega (arith, kept.3, c.ask_once.ensures.later)),
      rw link (c.ask_once.ensures.whole ∙ kept.4),
      rw link (c.ask_once.ensures.failing ∙ kept.5),
      rw link (c.ask_once.ensures.puts ∙ kept.6),
    )

pub returns-in-Whole-clause-next : goal.returns-in-Whole-clause-next
returns-in-Whole-clause-next g c =
    ask_whole _ (faults_of g.L.Stream.gives) _ _ _ _ c.requires.up c.takes.invariant.0 c.in-More.ensures.asked c.in-Whole.ensures

pub returns-in-Down-clause-next : goal.returns-in-Down-clause-next
returns-in-Down-clause-next g c =
    goes_down _ _ _ _ c.requires.up (ask_down _ (faults_of g.L.Stream.gives) _ _ _ _ c.takes.invariant.0 c.in-More.ensures.asked c.in-Down.ensures)

pub returns-in-Down-clause-down : goal.returns-in-Down-clause-down
returns-in-Down-clause-down g c =
    let down = c.in-Down.ensures in
    got_down (left_of g.L.Stream.gives) (faults_of g.L.Stream.gives) down.why c.args.self.now c.read.new.self _ (ap (λ w. w.signs) down.rest) (down.cause _ _ _)
