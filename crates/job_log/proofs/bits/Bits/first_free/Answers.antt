use Rattle.std.proofs.Common.{◌≡◌, length, arith}
use Rattle.job_log.proofs.BitRows.{length_view, reads, full_word, free_answer, none_answer}
use Rattle.job_log.proofs.bits.Bits.first_free.Goals as goal

pub index-requires-in-loop-at : goal.index-requires-in-loop-at
index-requires-in-loop-at c =
    let n = length_view _ _ _ _ c.self.view_is in
    let m = length_view _ _ _ _ c.other.view_is in
    let same : length c.args.self.now.flags ≡ length c.args.other.now.flags = c.requires in
    let i = c.self.invariant in
    let j = c.other.invariant in
    omega arith

pub overflow_add-at : goal.overflow_add-at
overflow_add-at c =
    let i = c.self.invariant in
    let l = c.lowest_clear.ensures.within in
    let s = c.loop-at-test.true in
    omega arith

pub returns-then-taken-clause-found : goal.returns-then-taken-clause-found
returns-then-taken-clause-found c =
    let n = length_view _ _ _ _ c.self.view_is in
    let m = length_view _ _ _ _ c.other.view_is in
    let same : length c.args.self.now.flags ≡ length c.args.other.now.flags = c.requires in
    let i = c.self.invariant in
    let j = c.other.invariant in
    free_answer c.args.self.now c.args.other.now _ c.loop-at.at _ _ _ _ c.within.result n (omega arith) c.loop-at.invariant
    (reads _ _ _ c.loop-at.at c.index.result.now _ c.self.view_is c.index.ensures c.self.invariant (omega arith))
    (reads _ _ _ c.loop-at.at c.index-in-loop-at.result.now _ c.other.view_is c.index-in-loop-at.ensures c.other.invariant (omega arith))
    c.requires c.lowest_clear.ensures c.within.ensures.found

pub returns-then-taken-clause-none : goal.returns-then-taken-clause-none
returns-then-taken-clause-none c =
    let n = length_view _ _ _ _ c.self.view_is in
    let m = length_view _ _ _ _ c.other.view_is in
    let same : length c.args.self.now.flags ≡ length c.args.other.now.flags = c.requires in
    let i = c.self.invariant in
    let j = c.other.invariant in
    none_answer c.args.self.now c.args.other.now _ c.loop-at.at _ _ _ _ c.within.result n c.loop-at.invariant
    (reads _ _ _ c.loop-at.at c.index.result.now _ c.self.view_is c.index.ensures c.self.invariant (omega arith))
    (reads _ _ _ c.loop-at.at c.index-in-loop-at.result.now _ c.other.view_is c.index-in-loop-at.ensures c.other.invariant (omega arith))
    c.requires c.lowest_clear.ensures c.within.ensures.none

pub loop-at-preserved : goal.loop-at-preserved
loop-at-preserved c =
    let n = length_view _ _ _ _ c.self.view_is in
    let m = length_view _ _ _ _ c.other.view_is in
    let same : length c.args.self.now.flags ≡ length c.args.other.now.flags = c.requires in
    let i = c.self.invariant in
    let j = c.other.invariant in
    full_word c.args.self.now c.args.other.now _ _ _ _ c.loop-at.invariant
    (reads _ _ _ c.loop-at.at c.index.result.now _ c.self.view_is c.index.ensures c.self.invariant (omega arith))
    (reads _ _ _ c.loop-at.at c.index-in-loop-at.result.now _ c.other.view_is c.index-in-loop-at.ensures c.other.invariant (omega arith)) c.requires c.if-taken.false

pub returns-clause-none : goal.returns-clause-none
returns-clause-none c =
    let n = length_view _ _ _ _ c.self.view_is in
    let d = c.div_ceil-at-end.ensures in
    λ j low within. c.loop-at.invariant j low (omega arith) within
