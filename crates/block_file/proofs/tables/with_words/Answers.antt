use Rattle.std.proofs.Common.{◌≡◌, ℕ, ◌/◌, ◌%◌, List, length, take, drop, slice_index, w64, refl, sym, ◌∙◌, ap, arith}
use Rattle.std.specs.Int.{bit_at, from_be_bytes, to_be_bytes}
use Rattle.std.proofs.lemmas.Nat.{from_be_bytes-to_be_bytes_8}
use Rattle.std.proofs.lemmas.List.{drop-drop}
use Rattle.block_file.specs.Lists.{put_in}
use Rattle.block_file.proofs.Parts.{front_put, part_put, past_put, len_put}
use Rattle.block_file.proofs.tables.with_words.Goals as goal

-- a table after its two words are put
abbrev worded : List ℕ → ℕ → ℕ → List ℕ
worded table size change = put_in 8 (to_be_bytes w64 change) (put_in 0 (to_be_bytes w64 size) table)

first_len : (table : List ℕ) (size : ℕ) → length table ≡ 4096 → length (put_in 0 (to_be_bytes w64 size) table) ≡ 4096
first_len table size len = len_put 0 (to_be_bytes w64 size) table (let e = len in omega arith) ∙ len

size_is : (table : List ℕ) (size change : ℕ) → length table ≡ 4096 → take 8 (worded table size change) ≡ to_be_bytes w64 size
size_is table size change len =
    let first = first_len table size len in
    front_put 8 8 (to_be_bytes w64 change) (put_in 0 (to_be_bytes w64 size) table) (omega arith) (omega arith)
    ∙ part_put 0 8 (to_be_bytes w64 size) table (omega arith) refl

change_is : (table : List ℕ) (size change : ℕ) → length table ≡ 4096 → take 8 (drop 8 (worded table size change)) ≡ to_be_bytes w64 change
change_is table size change len =
    let first = first_len table size len in
    part_put 8 8 (to_be_bytes w64 change) (put_in 0 (to_be_bytes w64 size) table) (omega arith) refl

bits_are : (table : List ℕ) (size change : ℕ) → length table ≡ 4096 → drop 16 (worded table size change) ≡ drop 16 table
bits_are table size change len =
    let first = first_len table size len in
    past_put 8 8 (to_be_bytes w64 change) (put_in 0 (to_be_bytes w64 size) table) (omega arith) refl
    ∙ sym (drop-drop 8 8 (put_in 0 (to_be_bytes w64 size) table))
    ∙ ap (λ (l : List ℕ). drop 8 l) (past_put 0 8 (to_be_bytes w64 size) table (omega arith) refl)
    ∙ drop-drop 8 8 table

whole : (c : goal.After-put_part-2) → c.put_part-2.new.block ≡ worded c.args.table.now c.args.size c.args.change
whole c =
    let table = c.args.table.now in
    c.put_part-2.ensures
    ∙ ap (λ (l : List ℕ). put_in 8 c.to_be_bytes-2.result l) c.put_part.ensures
    ∙ ap (λ (w : List ℕ). put_in 8 w (put_in 0 c.to_be_bytes.result table)) c.to_be_bytes-2.ensures
    ∙ ap (λ (w : List ℕ). put_in 8 (to_be_bytes w64 c.args.change) (put_in 0 w table)) c.to_be_bytes.ensures

pub returns-clause-size : goal.returns-clause-size
returns-clause-size c =
    ap (λ (l : List ℕ). from_be_bytes w64 (take 8 l)) (whole c)
    ∙ ap (λ (l : List ℕ). from_be_bytes w64 l) (size_is c.args.table.now c.args.size c.args.change c.told-table)
    ∙ from_be_bytes-to_be_bytes_8 c.args.size (omega arith)

pub returns-clause-change : goal.returns-clause-change
returns-clause-change c =
    ap (λ (l : List ℕ). from_be_bytes w64 (take 8 (drop 8 l))) (whole c)
    ∙ ap (λ (l : List ℕ). from_be_bytes w64 l) (change_is c.args.table.now c.args.size c.args.change c.told-table)
    ∙ from_be_bytes-to_be_bytes_8 c.args.change (omega arith)

pub returns-clause-homes : goal.returns-clause-homes
returns-clause-homes c = λ b.
    ap (λ (l : List ℕ). bit_at (slice_index l (b / 8)) (b % 8))
    (ap (λ (l : List ℕ). drop 16 l) (whole c) ∙ bits_are c.args.table.now c.args.size c.args.change c.told-table)
