-- Where blocks are: no two of them in one place, and none in the cells.
use Rattle.std.proofs.Common.{◌≡◌, ◌≢◌, ℕ, ◌+◌, ◌-◌, ◌*◌, ◌/◌, ◌%◌, ◌<◌, ◌≤◌, List, inl, inr, sym, ◌∙◌, ap, arith, drop, slice_index}
use Rattle.std.proofs.lemmas.Bool.{cases_lt}
use Rattle.std.proofs.lemmas.Nat.{same_from_place, mul-add-lt}
use Rattle.std.proofs.lemmas.Nat.Bits.{bit_at-lt}
use Rattle.block_file.specs.declared.shape.Shape.{Shape}
use Rattle.block_file.specs.Cell.{Outside}
use Rattle.block_file.specs.Layout.{cell_at, data_at, blocks_of, home_in}
use Rattle.block_file.specs.Blocks.{place_of, next_place, InShape}

pub home_in-lt : (table : List ℕ) (b : ℕ) → home_in table b < 2
home_in-lt table b = bit_at-lt (slice_index (drop 16 table) (b / 8)) (b % 8)

halves : (m x y h k : ℕ) → h ≤ 1 → k ≤ 1 → m + 2 * x + h ≡ m + 2 * y + k → (x ≡ y) × (h ≡ k)
halves m x y h k hle kle e = (omega arith, omega arith)

previous : (j i : ℕ) → 1 ≤ j → 1 ≤ i → j - 1 ≡ i - 1 → j ≡ i
previous j i sj si e = omega arith

-- one place is one home of one block
same_place : (files blocks j b h i c k : ℕ) → 1 ≤ j → 1 ≤ i → b < blocks → c < blocks → h ≤ 1 → k ≤ 1
    → data_at files blocks j b h ≡ data_at files blocks i c k → (j ≡ i) × (b ≡ c) × (h ≡ k)
same_place files blocks j b h i c k sj si lb lc lh lk e =
    let parts = halves (4 + 3 * files) ((j - 1) * blocks + b) ((i - 1) * blocks + c) h k lh lk e in
    let place = same_from_place (j - 1) b (i - 1) c blocks lb lc parts.0 in
    let file : j ≡ i = previous j i sj si place.0 in
    (file, place.1, parts.1)

turned_ne : (h : ℕ) → h < 2 → h ≢ 1 - h
turned_ne h lt e = omega arith

-- no block in force is in the home where a block is written next
pub in_force_apart : (shape : Shape) (tables : ℕ → List ℕ) (table : List ℕ) (j b i c : ℕ) → InShape shape j b → InShape shape i c
    → tables j ≡ table → place_of shape (tables i) i c ≢ next_place shape table j b
in_force_apart shape tables table j b i c at other is same =
    let lt = home_in-lt table b in
    let le = home_in-lt (tables i) c in
    let one = same_place shape.files shape.blocks i c (home_in (tables i) c) j b (1 - home_in table b) other.some at.some other.block at.block (omega arith) (omega arith) same in
    let named : home_in (tables i) c ≡ home_in table b =
    ap (λ (i : ℕ). home_in (tables i) c) one.0 ∙ (ap (λ (c : ℕ). home_in (tables j) c) one.1 ∙ ap (λ (t : List ℕ). home_in t b) is) in
    turned_ne (home_in table b) lt (sym named ∙ one.2)

past : (m x h i : ℕ) → i ≤ m → i ≤ m + 2 * x + h
past m x h i le = omega arith

-- blocks come after the cells
pub data_past : (files blocks j b h : ℕ) → 4 + 3 * files ≤ data_at files blocks j b h
data_past files blocks j b h = past (4 + 3 * files) ((j - 1) * blocks + b) h (4 + 3 * files) (omega arith)

pub data_outside : (files blocks j b h i : ℕ) → i ≤ files → Outside (cell_at i) (data_at files blocks j b h)
data_outside files blocks j b h i le =
    let far = data_past files blocks j b h in
    inr (omega (arith, far))

pub data_apart : (files blocks j b h at : ℕ) → at < 4 + 3 * files → at ≢ data_at files blocks j b h
data_apart files blocks j b h at lt e =
    let far = data_past files blocks j b h in
    omega (arith, far)

-- and before the end of the volume
room : (m x n h : ℕ) → h ≤ 1 → x < n → m + 2 * x + h < m + 2 * n
room m x n h le lt = omega arith

swapped : (x blocks files : ℕ) → x < blocks * files → x < files * blocks
swapped x blocks files lt = omega arith

pub data_within : (files blocks j b h : ℕ) → 1 ≤ j → j ≤ files → b < blocks → h ≤ 1 → data_at files blocks j b h < blocks_of files blocks
data_within files blocks j b h some le lt home =
    let before : j - 1 < files = omega arith in
    let place = mul-add-lt (j - 1) blocks b files before lt in
    room (4 + 3 * files) ((j - 1) * blocks + b) (files * blocks) h home (swapped ((j - 1) * blocks + b) blocks files place)

-- cells are apart
pub cell_outside : (j i : ℕ) → i ≢ j → Outside (cell_at j) (cell_at i) × Outside (cell_at j) (cell_at i + 1) × Outside (cell_at j) (cell_at i + 1 + 1)
cell_outside j i ne = elim (cases_lt i j) [
  | inl lt ↦ (inl (omega arith), inl (omega arith), inl (omega arith))
  | inr ge ↦ (inr (omega arith), inr (omega arith), inr (omega arith))
]

pub home_outside : (j i h : ℕ) → i ≢ j → h ≤ 1 → Outside (cell_at j) (cell_at i + 1 + h)
home_outside j i h ne le = elim (cases_lt i j) [ inl lt ↦ inl (omega arith) | inr ge ↦ inr (omega arith) ]

-- no other block is in the place where a block is written next
pub other_apart : (shape : Shape) (table : List ℕ) (j b i c h : ℕ) → InShape shape j b → InShape shape i c → h ≤ 1 → (i ≡ j → c ≡ b → ⊥)
    → data_at shape.files shape.blocks i c h ≢ next_place shape table j b
other_apart shape table j b i c h at other le ne same =
    let one = same_place shape.files shape.blocks i c h j b (1 - home_in table b) other.some at.some other.block at.block le (omega arith) same in
    ne one.0 one.1
