use Rattle.std.proofs.Common.{ℕ, ◌+◌, ◌/◌, ◌%◌, sym, ap, ◌∙◌, slice_index_or}
use Rattle.std.specs.Int.{bit_at}
use Rattle.std.proofs.lemmas.Nat.Bits.{shr_and_one}
use Rattle.std.proofs.lemmas.List.{get_or-drop}
use Rattle.block_file.proofs.blocks.home_in.Goals as goal

pub returns-clause-home : goal.returns-clause-home
returns-clause-home c =
    let table = c.args.table.now in
    let b = c.args.block in
    shr_and_one (slice_index_or table (16 + b / 8) 0) (b % 8)
    ∙ ap (λ (n : ℕ). bit_at n (b % 8)) (sym (get_or-drop 16 table (b / 8) 0))
