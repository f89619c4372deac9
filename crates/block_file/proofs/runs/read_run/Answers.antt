use Rattle.std.proofs.Common.{◌≡◌, ℕ, ◌+◌, ◌-◌, ◌*◌, ◌/◌, ◌%◌, ◌≤◌, List, ◌++◌, length, take, drop, refl, sym, ◌∙◌, ap, arith, length-append, length-drop}
use Rattle.std.proofs.lemmas.List.{length-take-le}
use Rattle.std.proofs.lemmas.Slice.{take-put_mid}
use borrow.Rule.Slice.PartMut.{put_mid, mid_of}
use Rattle.disk_model.specs.Elapsed.{Timeline, contents}
use Rattle.block_file.specs.Lists.{joined}
use Rattle.block_file.specs.Blocks.{place_of}
use Rattle.block_file.proofs.Spans.{read_more, read_all, joined_len}
use Rattle.block_file.proofs.runs.read_run.Goals as goal

-- a slice keeps its length where a part of it is written
length-same : (done count : ℕ) (out part : List ℕ) → done + count ≤ length out → length part ≡ count
    → length (put_mid done (done + count - done) out part) ≡ length out
length-same done count out part most size =
    let front : length (take done out) ≡ done = length-take-le done out (omega (arith, most)) in
    let back : length (drop (done + count - done) (drop done out)) ≡ length (drop done out) - (done + count - done) = length-drop (done + count - done) (drop done out) in
    let tail : length (drop done out) ≡ length out - done = length-drop done out in
    length-append (take done out) (part ++ drop (done + count - done) (drop done out))
    ∙ omega (arith, length-append part (drop (done + count - done) (drop done out)), front, back, tail, size, most)

pub loop-done-preserved : goal.loop-done-preserved
loop-done-preserved g c =
    let kept = c.loop-done.invariant in
    let done = c.loop-done.done in
    let count = c.min-count.result in
    let out = c.loop-done.out in
    let shape = c.args.shape in
    let part = c.read_part.new.out in
    let small = c.min-count.ensures in
    let below = c.loop-done-test.true in
    let k : done + count - done ≡ count = omega arith in
    let most : done + count ≤ length out = omega (arith, small, below) in
    let mid : length (mid_of done (done + count - done) out) ≡ count =
    length-take-le (done + count - done) (drop done out) (omega (arith, length-drop done out, k, most)) ∙ k in
    let size : length part ≡ count = c.read_part.ensures.len ∙ mid in
    let front : take (done + count) (put_mid done (done + count - done) out part) ≡ take done out ++ part =
    take-put_mid done (done + count - done) out part (done + count) (ap (λ (n : ℕ). done + n) (sym size)) kept.within in
    record {
      within = omega (arith, most, length-same done count out part most size);
      len = length-same done count out part most size ∙ kept.len;
      read = λ told.
          let f : ℕ → List ℕ = λ b. contents (g.D.Disk.timeline c.args.disk.now) (place_of shape c.args.table.now c.args.file b) in
          let number = (c.args.off + done) / 4096 in
          let from = (c.args.off + done) % 4096 in
          let bytes : part ≡ take count (drop from (f number)) =
          c.in-Done.ensures.bytes told refl
          ∙ ap (λ (n : ℕ). take n (drop from (contents (g.D.Disk.timeline c.loop-done.disk) (place_of shape c.args.table.now c.args.file number)))) mid
          ∙ ap (λ (t : Timeline). take count (drop from (contents t (place_of shape c.args.table.now c.args.file number)))) (kept.same told) in
          read_more c.args.off done count number from out (put_mid done (done + count - done) out part) part shape.blocks f
          (λ b lt. c.blocks-count.ensures.whole told (place_of shape c.args.table.now c.args.file b))
          front kept.within size refl refl (omega (arith, small)) (omega (arith, most, kept.len, c.requires.fits)) bytes (kept.read told);
      same = λ told. c.read_part.ensures.same told ∙ kept.same told;
      size = c.read_part.ensures.size ∙ kept.size;
      fuse = c.read_part.ensures.fuse ∙ kept.fuse;
      faults = omega (arith, kept.faults, c.read_part.ensures.faults);
    }

pub returns-clause-bytes : goal.returns-clause-bytes
returns-clause-bytes g c = λ told ok.
    let kept = c.loop-done.invariant in
    let shape = c.args.shape in
    let f : ℕ → List ℕ = λ b. contents (g.D.Disk.timeline c.args.disk.now) (place_of shape c.args.table.now c.args.file b) in
    let size : length (joined shape.blocks f) ≡ shape.blocks * 4096 =
    joined_len shape.blocks f (λ b lt. c.blocks-count.ensures.whole told (place_of shape c.args.table.now c.args.file b)) in
    read_all c.args.off c.loop-done.out (joined shape.blocks f) (length c.args.out.now) c.loop-done.done kept.len
    (omega (arith, c.loop-done-test.false, kept.len)) (omega (arith, size, c.requires.fits)) (kept.read told)
