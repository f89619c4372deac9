use Rattle.std.proofs.Common.{◌≡◌, ◌∙◌, arith, refl, sym, slice_range}
use Rattle.wire_tally.specs.Tally.{by_line, tallied}
use Rattle.wire_tally.proofs.Growth.{by_line-grows, grew_byte, grew_line, grew_none}
use Rattle.wire_tally.proofs.Steps.{line_ended, line_goes_on}
use Rattle.wire_tally.proofs.tally.Tally.add.Goals as goal
use Rattle.wire_tally.proofs.tally.Tally.add.Goals.{then-byte-eq10, else-byte-eq10}

pub loop-at-init : goal.loop-at-init
unfolding tallied
loop-at-init c = record { within = omega arith; grew = grew_none c.args.self.now; counted = refl }

pub loop-at-preserved : goal.loop-at-preserved
loop-at-preserved c = elim c.if-byte-eq10.branch [
  | then-byte-eq10 w ↦
      let line = slice_range c.args.text.now c.loop-at.start c.loop-at.at in
      let new_is : c.if-byte-eq10.self ≡ by_line line c.loop-at.self = w.self-is ∙ w.add_line.ensures in
      record {
        within = omega (arith, w.start-is);
        grew = rw new_is (grew_line _ _ _ _ c.loop-at.invariant.grew (by_line-grows line c.loop-at.self));
        counted = rw (new_is, w.start-is)
            (sym (line_ended c.args.text.now c.loop-at.start c.loop-at.at c.loop-at.self c.loop-at-test.true w.if-byte-eq10.true)
            ∙ c.loop-at.invariant.counted);
      }
  | else-byte-eq10 w ↦ record {
    within = omega (arith, w.start-is);
    grew = rw w.self-is (grew_byte _ _ _ c.loop-at.invariant.grew);
    counted = rw (w.self-is, w.start-is)
        (sym (line_goes_on c.args.text.now c.loop-at.start c.loop-at.at c.loop-at.self c.loop-at.invariant.within c.loop-at-test.true w.if-byte-eq10.false)
        ∙ c.loop-at.invariant.counted);
  }
]
