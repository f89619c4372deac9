use Rattle.std.proofs.Common.{◌≡◌, ◌≢◌, ℕ, ◌+◌, ◌*◌, ◌<◌, List, [], length, slice_index, slice_index_or, sym, ◌∙◌, ap, arith}
use Rattle.std.proofs.lemmas.List.{get_or_read}
use Rattle.block_file.specs.Layout.{boot_in}
use Rattle.block_file.proofs.Off.{flaw_large}
use Rattle.block_file.proofs.flaws.cell_flaw.Goals as goal

pub index-requires-in-Some : goal.index-requires-in-Some
index-requires-in-Some c = omega (arith, c.in-Some.ensures.within, c.requires.homes)

pub returns-in-Some : goal.returns-in-Some
returns-in-Some c =
    let homes : ℕ → ℕ = λ j. slice_index c.args.cells.now.homes.items j in
    let tables : ℕ → List ℕ = λ j. slice_index_or c.args.cells.now.tables.items j [] in
    let hlt : c.in-Some.file < length c.args.cells.now.homes.items = omega (arith, c.in-Some.ensures.within, c.requires.homes) in
    let home : c.index-in-Some.result.now ≡ homes c.in-Some.file = get_or_read c.args.cells.now.homes.items _ _ hlt c.index-in-Some.ensures 0 in
    let number : c.boot_in.result ≡ boot_in (tables 0) = c.boot_in.ensures ∙ ap boot_in c.table_at.ensures in
    let low : boot_in (tables 0) ≢ 4294967295 = λ e. c.if-boot_in.false (number ∙ e) in
    record {
      flaw = flaw_large c.args.shape.files (c.args.shape.blocks * 4096) homes tables c.in-Some.file (2 + 3 * c.from-in-Some.result + c.from-in-Some-2.result) low
          (sym c.in-Some.ensures.first)
          (let a = c.from-in-Some.ensures in let b = c.from-in-Some-2.ensures ∙ home in omega (arith, a, b));
    }
