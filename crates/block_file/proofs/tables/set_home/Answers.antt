use Rattle.std.proofs.Common.{◌≡◌, ◌≢◌, ℕ, ◌+◌, ◌/◌, ◌%◌, ◌<◌, List, get_or, set, inl, inr, length, sym, ◌∙◌, ap, arith, w8}
use Rattle.std.specs.Int.{bit_at}
use Rattle.std.proofs.lemmas.Bool.{cases_eq}
use Rattle.std.proofs.lemmas.List.{get_or-drop, get_or-set_same, get_or-set_other, take-set-le}
use Rattle.std.proofs.lemmas.Nat.Bits.{bit_at_set_same, bit_at_set_other, bit_at_clear_same, bit_at_clear_other}
use Rattle.block_file.specs.Layout.{home_in}
use Rattle.block_file.proofs.tables.set_home.Goals as goal

-- a byte of the bits is changed
named : (table : List ℕ) (block b n : ℕ) → length table ≡ 4096 → block < 16384 → b / 8 ≡ block / 8
    → home_in (set table (16 + block / 8) n) b ≡ bit_at n (b % 8)
named table block b n len few same =
    let at : 16 + b / 8 ≡ 16 + block / 8 = ap (λ (k : ℕ). 16 + k) same in
    let there : 16 + block / 8 < length table = omega (arith, len, few) in
    ap (λ (k : ℕ). bit_at k (b % 8))
    (get_or-drop 16 (set table (16 + block / 8) n) (b / 8) 0
    ∙ ap (λ (k : ℕ). get_or (set table (16 + block / 8) n) k 0) at
    ∙ get_or-set_same table (16 + block / 8) n 0 there)

kept : (table : List ℕ) (block b n : ℕ) → b / 8 ≢ block / 8 → home_in (set table (16 + block / 8) n) b ≡ home_in table b
kept table block b n ne =
    let apart : 16 + b / 8 ≢ 16 + block / 8 = omega (arith, ne) in
    ap (λ (k : ℕ). bit_at k (b % 8))
    (get_or-drop 16 (set table (16 + block / 8) n) (b / 8) 0
    ∙ get_or-set_other table (16 + block / 8) (16 + b / 8) n 0 apart
    ∙ sym (get_or-drop 16 table (b / 8) 0))

others : (table : List ℕ) (block b n : ℕ) → length table ≡ 4096 → block < 16384 → b ≢ block
    → ((i : ℕ) → i < 8 → i ≢ block % 8 → bit_at n i ≡ bit_at (get_or table (16 + block / 8) 0) i)
    → home_in (set table (16 + block / 8) n) b ≡ home_in table b
others table block b n len few ne same = elim (cases_eq (b / 8) (block / 8)) [
  | inl e ↦
      let at : 16 + block / 8 ≡ 16 + b / 8 = ap (λ (k : ℕ). 16 + k) (sym e) in
      named table block b n len few e ∙ same (b % 8) (omega arith) (omega (arith, ne, e))
      ∙ ap (λ (k : ℕ). bit_at (get_or table k 0) (b % 8)) at
      ∙ ap (λ (k : ℕ). bit_at k (b % 8)) (sym (get_or-drop 16 table (b / 8) 0))
  | inr apart ↦ kept table block b n apart
]

pub returns-then-home-eq1-clause-here : goal.returns-then-home-eq1-clause-here
returns-then-home-eq1-clause-here c =
    let block = c.args.block in
    named c.args.table.now block block _ c.told-table c.requires.few (λ i. block / 8)
    ∙ bit_at_set_same w8 (get_or c.args.table.now (16 + block / 8) 0) (block % 8) (omega arith) ∙ sym c.if-home-eq1.true

pub returns-then-home-eq1-clause-others : goal.returns-then-home-eq1-clause-others
returns-then-home-eq1-clause-others c = λ b ne.
    let block = c.args.block in
    others c.args.table.now block b _ c.told-table c.requires.few ne
    (λ i lt apart. bit_at_set_other w8 (get_or c.args.table.now (16 + block / 8) 0) (block % 8) (omega arith) i apart)

pub returns-then-home-eq1-clause-words : goal.returns-then-home-eq1-clause-words
returns-then-home-eq1-clause-words c = take-set-le 16 c.args.table.now (16 + c.args.block / 8) _ (omega arith)

pub returns-else-home-eq1-clause-here : goal.returns-else-home-eq1-clause-here
returns-else-home-eq1-clause-here c =
    let block = c.args.block in
    let none : c.args.home ≡ 0 = omega (arith, c.requires.two, c.if-home-eq1.false) in
    named c.args.table.now block block _ c.told-table c.requires.few (λ i. block / 8)
    ∙ bit_at_clear_same w8 (get_or c.args.table.now (16 + block / 8) 0) (block % 8) (omega arith) ∙ sym none

pub returns-else-home-eq1-clause-others : goal.returns-else-home-eq1-clause-others
returns-else-home-eq1-clause-others c = λ b ne.
    let block = c.args.block in
    others c.args.table.now block b _ c.told-table c.requires.few ne
    (λ i lt apart. bit_at_clear_other w8 (get_or c.args.table.now (16 + block / 8) 0) (block % 8) (omega arith) i lt apart)

pub returns-else-home-eq1-clause-words : goal.returns-else-home-eq1-clause-words
returns-else-home-eq1-clause-words c = take-set-le 16 c.args.table.now (16 + c.args.block / 8) _ (omega arith)
