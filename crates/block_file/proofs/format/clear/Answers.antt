use Rattle.std.proofs.Common.{◌≡◌, ◌≢◌, ℕ, ◌+◌, ◌*◌, ◌<◌, replicate, refl, sym, ◌∙◌, ap, arith, below_more}
use Rattle.disk_model.specs.Elapsed.{contents, burnt}
use Rattle.block_file.proofs.Laying.{keeps_none, keeps_on, keeps_write, head_none, head_one, head_on}
use Rattle.block_file.proofs.format.clear.Goals as goal

pub loop-slot-init : goal.loop-slot-init
loop-slot-init g c = record {
  slots = λ told k lt. absurd (omega arith);
  keeps = λ told. keeps_none _;
  moments = λ told. head_none _ _;
  unset = λ is. is;
  size = refl;
  faults = omega arith;
}

pub loop-slot-preserved : goal.loop-slot-preserved
loop-slot-preserved g c =
    let kept = c.loop-slot.invariant in
    let f = c.from-files.result in
    record {
      slots = λ told.
          below_more (λ (k : ℕ). contents (g.D.Disk.timeline c.write.new.self) (4 + 3 * f + 2 * k) ≡ replicate 4096 0) c.loop-slot.slot
          (λ k lt.
          let ne : 4 + 3 * f + 2 * k ≢ 4 + 3 * f + 2 * c.loop-slot.slot = omega arith in
          ((c.write.ensures.written told).elsewhere (4 + 3 * f + 2 * k) ne).0 ∙ kept.slots told k lt)
          ((c.in-Done.ensures.written told).here refl);
      keeps = λ told.
          let ne : 0 ≢ 4 + 3 * f + 2 * c.loop-slot.slot = omega arith in
          keeps_on _ _ _ (kept.keeps told) (keeps_write _ _ _ _ _ ne (c.write.ensures.written told));
      moments = λ told.
          let ne : 0 ≢ 4 + 3 * f + 2 * c.loop-slot.slot = omega arith in
          head_on _ _ _ _ _ _ (kept.moments told) (kept.keeps told)
          (head_one _ _ _ _ (keeps_write _ _ _ _ _ ne (c.write.ensures.written told)) (c.write.ensures.time told) (c.write.ensures.soon told));
      unset = λ is. c.write.ensures.fuse ∙ ap burnt (kept.unset is);
      size = c.write.ensures.size ∙ kept.size;
      faults = omega (arith, kept.faults, c.write.ensures.faults);
    }

pub loop-cell-preserved : goal.loop-cell-preserved
loop-cell-preserved g c =
    let kept = c.loop-cell.invariant in
    let call = c.clear_cell.ensures in
    let f = c.from-files.result in
    let i = c.loop-cell.cell in
    let low : i < f + 1 = c.loop-cell-test.true in
    record {
      slots = λ told k lt.
          let a : 4 + 3 * f + 2 * k ≢ 1 + 3 * i = omega arith in
          let b : 4 + 3 * f + 2 * k ≢ 2 + 3 * i = omega arith in
          call.elsewhere told (4 + 3 * f + 2 * k) a b ∙ kept.slots told k lt;
      cells = λ told.
          below_more (λ (k : ℕ). (contents (g.D.Disk.timeline c.clear_cell.new.disk) (1 + 3 * k) ≡ replicate 4096 0)
          × (contents (g.D.Disk.timeline c.clear_cell.new.disk) (2 + 3 * k) ≡ replicate 4096 0)) i
          (λ k lt.
          let a : 1 + 3 * k ≢ 1 + 3 * i = omega arith in
          let b : 1 + 3 * k ≢ 2 + 3 * i = omega arith in
          let d : 2 + 3 * k ≢ 1 + 3 * i = omega arith in
          let e : 2 + 3 * k ≢ 2 + 3 * i = omega arith in
          (call.elsewhere told (1 + 3 * k) a b ∙ (kept.cells told k lt).0, call.elsewhere told (2 + 3 * k) d e ∙ (kept.cells told k lt).1))
          (c.in-Done-clear_cell.ensures.gate told refl, c.in-Done-clear_cell.ensures.home told refl);
      keeps = λ told. keeps_on _ _ _ (kept.keeps told) (call.keeps told);
      moments = λ told. head_on _ _ _ _ _ _ (kept.moments told) (kept.keeps told) (call.any_moment told);
      unset = λ is. call.unset (kept.unset is);
      size = call.size ∙ kept.size;
      faults = omega (arith, kept.faults, call.faults);
    }

pub returns-clause-cleared : goal.returns-clause-cleared
returns-clause-cleared g c = λ told is.
    let kept = c.loop-cell.invariant in
    let files : c.from-files.result ≡ c.args.shape.files = c.from-files.ensures in
    let blocks : c.from.result ≡ c.args.shape.blocks = c.from.ensures in
    let product : c.from-files.result * c.from.result ≡ c.args.shape.files * c.args.shape.blocks =
    ap (λ (n : ℕ). n * c.from.result) files ∙ ap (λ (n : ℕ). c.args.shape.files * n) blocks in
    record {
      slots = λ slot lt.
          ap (λ (n : ℕ). contents (g.D.Disk.timeline c.loop-cell.disk) (4 + 3 * n + 2 * slot)) (sym files)
          ∙ kept.slots told slot (omega (arith, product, lt));
      cells = λ j lt. kept.cells told j (omega (arith, files, lt, c.loop-cell-test.false));
    }
