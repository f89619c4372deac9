use Rattle.std.proofs.Common.{◌≡◌, ℕ, ◌+◌, ◌-◌, ◌*◌, ◌/◌, ◌%◌, ◌<◌, ◌≤◌, List, length, take, drop, refl, ◌∙◌, ap, arith, length-drop}
use Rattle.std.proofs.lemmas.List.{length-take-le}
use Rattle.disk_model.specs.Elapsed.{contents}
use Rattle.block_file.specs.Layout.{home_in, data_at}
use Rattle.block_file.specs.Lists.{joined, put_in}
use Rattle.block_file.specs.Stored.{blocks_by}
use Rattle.block_file.specs.Blocks.{place_of, InShape}
use Rattle.block_file.proofs.Places.{home_in-lt}
use Rattle.block_file.proofs.Standing.{safe_on}
use Rattle.block_file.proofs.Spans.{joined_len, joined_put, put_more}
use Rattle.block_file.proofs.runs.write_run.Goals as goal

pub loop-done-preserved : goal.loop-done-preserved
loop-done-preserved g c =
    let kept = c.loop-done.invariant in
    let call = c.write_part.ensures in
    let shape = c.args.shape in
    let file = c.args.file in
    let off = c.args.off in
    let bytes = c.args.bytes.now in
    let done = c.loop-done.done in
    let count = c.min-count.result in
    let small = c.min-count.ensures in
    let below = c.loop-done-test.true in
    let most : done + count ≤ length bytes = omega (arith, small, below) in
    let number = (off + done) / 4096 in
    let from = (off + done) % 4096 in
    let k : done + count - done ≡ count = omega arith in
    let there : number < shape.blocks = omega (arith, below, c.requires.fits) in
    record {
      within = most;
      safe = λ told. safe_on shape c.args.table.now file _ _ _ _ _ _ (kept.safe told) (call.safe told);
      written = λ told.
          let f : ℕ → List ℕ = λ b. contents (g.D.Disk.timeline c.loop-done.disk) (place_of shape c.loop-done.newest file b) in
          let h : ℕ → List ℕ = λ b. contents (g.D.Disk.timeline c.write_part.new.disk) (place_of shape c.write_part.new.newest file b) in
          let first : List ℕ = blocks_by shape.files shape.blocks c.args.newest.now (contents (g.D.Disk.timeline c.args.disk.now)) file in
          let size : length first ≡ shape.blocks * 4096 =
          joined_len shape.blocks (λ b. contents (g.D.Disk.timeline c.args.disk.now) (place_of shape c.args.newest.now file b))
          (λ b lt. c.blocks-start.ensures.whole told (place_of shape c.args.newest.now file b)) in
          let part : List ℕ = take (done + count - done) (drop done bytes) in
          let at : number * 4096 + from ≡ off + done = omega arith in
          let few : length part ≤ count = omega (arith, length-take-le (done + count - done) (drop done bytes) (omega (arith, length-drop done bytes, most)), k) in
          let fits : from + length part ≤ 4096 = omega (arith, few, small) in
          joined_put shape.blocks f h number from part
          (λ b lt. c.blocks-count.ensures.whole told (place_of shape c.loop-done.newest file b)) there fits
          (c.in-Done.ensures.written told refl)
          (λ b lt ne.
          let here : InShape shape file b = record { some = c.requires.some; file = c.requires.there; block = lt } in
          let low = home_in-lt c.loop-done.newest b in
          ap (λ (i : ℕ). contents (g.D.Disk.timeline c.write_part.new.disk) (data_at shape.files shape.blocks file b i)) (call.homes b ne)
          ∙ call.others told file b (home_in c.loop-done.newest b) here (omega (arith, low)) (λ _ e. ne e))
          ∙ ap (λ (p : ℕ). put_in p part (joined shape.blocks f)) at
          ∙ ap (λ (l : List ℕ). put_in (off + done) part l) (kept.written told)
          ∙ ap (λ (n : ℕ). put_in (off + done) (take n (drop done bytes)) (put_in off (take done bytes) first)) k
          ∙ put_more off done count bytes first most (omega (arith, size, c.requires.fits));
      others = λ told j b i at le ne.
          let apart : j ≡ file → b ≡ number → ⊥ = λ e _. ne e in
          call.others told j b i at le apart ∙ kept.others told j b i at le ne;
      words = call.words ∙ kept.words;
      unset = λ is. call.unset (kept.unset is);
      size = call.size ∙ kept.size;
      faults = omega (arith, kept.faults, call.faults);
    }

pub returns-in-Failed-clause-safe : goal.returns-in-Failed-clause-safe
returns-in-Failed-clause-safe g c = λ told.
    safe_on c.args.shape c.args.table.now c.args.file _ _ _ _ _ _ (c.loop-done.invariant.safe told) (c.write_part.ensures.safe told)
