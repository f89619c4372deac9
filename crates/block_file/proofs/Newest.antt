-- A file by its newest table.
use Rattle.std.proofs.Common.{◌≡◌, ◌≢◌, ℕ, zero, suc, ◌+◌, ◌-◌, ◌*◌, ◌<◌, ◌≤◌, max, min, List, ◌++◌, length, take, drop, replicate, inl, inr, sym, ◌∙◌, ap, subst, arith, length-append}
use Rattle.std.proofs.lemmas.Bool.{cases_eq}
use Rattle.std.proofs.lemmas.List.{take-append-le, take-append-drop, take-take, drop-take, drop-drop, length-take-le, length-replicate}
use Rattle.std.proofs.Math.Seq.{take-append_seam, drop-append_seam}
use Rattle.copy_model.specs.Volume.{bytes_at, with_bytes_at}
use Rattle.disk_model.specs.Disk.{Image}
use Rattle.block_file.specs.declared.shape.Shape.{Shape}
use Rattle.block_file.specs.Layout.{data_at, size_in, change_in, home_in}
use Rattle.block_file.specs.Lists.{joined, put_in}
use Rattle.block_file.specs.Stored.{blocks_by}
use Rattle.block_file.specs.Blocks.{Safe, InShape, place_of, HasContent, with_table, piece_of, with_bytes}
use Rattle.block_file.specs.Held.{held_by}
use Rattle.block_file.proofs.Numbered.{joined_same}
use Rattle.block_file.proofs.Spans.{joined_len}
use Rattle.block_file.proofs.Standing.{pick_same, pick_other}
use Rattle.block_file.proofs.Places.{home_in-lt}
use Rattle.block_file.proofs.Held.{write_now, write_zeros}

-- the first bytes of a list that is long enough
pub bytes_at-front : (xs : List ℕ) (n : ℕ) → n ≤ length xs → bytes_at xs 0 n ≡ take n xs
bytes_at-front xs n le = take-append-le n xs (replicate n 0) le

pub bytes_at-len : (xs : List ℕ) (n : ℕ) → length (bytes_at xs 0 n) ≡ n
bytes_at-len xs n =
    let sum : length (xs ++ replicate n 0) ≡ length xs + length (replicate {A = ℕ} n 0) = length-append xs (replicate n 0) in
    let zeros : length (replicate {A = ℕ} n 0) ≡ n = length-replicate n 0 in
    length-take-le n (xs ++ replicate n 0) (omega arith)

-- a piece of blocks that are joined is one of them
pub piece_joined : (n : ℕ) (f : ℕ → List ℕ) (b : ℕ) → ((k : ℕ) → k < n → length (f k) ≡ 4096) → b < n → piece_of (joined n f) b ≡ f b
piece_joined zero f b whole lt = absurd (omega arith)
piece_joined (suc n) f zero whole lt =
    let rest = joined n (λ k. f (suc k)) in
    ap (λ (k : ℕ). take k (f 0 ++ rest)) (sym (whole 0 (omega arith))) ∙ take-append_seam (f 0) rest
piece_joined (suc n) f (suc b) whole lt =
    let rest = joined n (λ k. f (suc k)) in
    let e : suc b * 4096 ≡ 4096 + b * 4096 = omega arith in
    ap (λ (k : ℕ). take 4096 (drop k (f 0 ++ rest))) e
    ∙ ap (λ (l : List ℕ). take 4096 l) (sym (drop-drop (b * 4096) 4096 (f 0 ++ rest)))
    ∙ ap (λ (k : ℕ). take 4096 (drop (b * 4096) (drop k (f 0 ++ rest)))) (sym (whole 0 (omega arith)))
    ∙ ap (λ (l : List ℕ). take 4096 (drop (b * 4096) l)) (drop-append_seam (f 0) rest)
    ∙ piece_joined n (λ k. f (suc k)) b (λ k below. whole (suc k) (omega arith)) (omega arith)

-- the bytes that a read of a file gives
pub read_is : (out copied zeros bytes : List ℕ) (size off : ℕ) → size ≤ length bytes
    → (from there : ℕ) → from ≡ min size off → there ≡ min (size - from) (length out) → copied ≡ take there (drop from bytes)
    → copied ≡ take there (drop from (bytes_at bytes 0 size))
read_is out copied zeros bytes size off le from there f t is =
    let sum : from + (size - from) ≡ size = omega arith in
    let most : there ≤ size - from = omega arith in
    is ∙ sym (take-take there (size - from) (drop from bytes) most)
    ∙ ap (λ (l : List ℕ). take there l) (sym (drop-take from (size - from) bytes))
    ∙ ap (λ (n : ℕ). take there (drop from (take n bytes))) sum
    ∙ ap (λ (l : List ℕ). take there (drop from l)) (sym (bytes_at-front bytes size le))

-- Blocks that are whole, and nothing past the size of the table that names them.
module _ (shape : Shape) (newest : List ℕ) (file : ℕ) (image : Image) (whole : (b : ℕ) → length (image b) ≡ 4096)
    (sized : size_in newest ≤ shape.blocks * 4096) where
  pub blocks_len : length (blocks_by shape.files shape.blocks newest image file) ≡ shape.blocks * 4096
  blocks_len = joined_len shape.blocks (λ b. image (place_of shape newest file b)) (λ b lt. whole (place_of shape newest file b))

  pub now_is : (held_by shape newest image file).now ≡ take (size_in newest) (blocks_by shape.files shape.blocks newest image file)
  now_is =
      bytes_at-front (blocks_by shape.files shape.blocks newest image file) (size_in newest)
      (subst (λ (n : ℕ). size_in newest ≤ n) (sym blocks_len) sized)

  pub padded_is : drop (size_in newest) (blocks_by shape.files shape.blocks newest image file) ≡ replicate (shape.blocks * 4096 - size_in newest) 0
      → blocks_by shape.files shape.blocks newest image file
      ≡ (held_by shape newest image file).now ++ replicate (shape.blocks * 4096 - length (held_by shape newest image file).now) 0
  padded_is clean =
      let bytes = blocks_by shape.files shape.blocks newest image file in
      sym (take-append-drop (size_in newest) bytes)
      ∙ ap (λ (l : List ℕ). take (size_in newest) bytes ++ l) clean
      ∙ ap (λ (l : List ℕ). l ++ replicate (shape.blocks * 4096 - size_in newest) 0) (sym now_is)
      ∙ ap (λ (n : ℕ). (held_by shape newest image file).now ++ replicate (shape.blocks * 4096 - n) 0)
      (sym (bytes_at-len (blocks_by shape.files shape.blocks newest image file) (size_in newest)))

  -- a commit puts the newest table, which names these blocks
  pub newest_content : (safe : Safe) → HasContent shape (with_table safe file newest).tables
      (with_bytes (λ j b. image (place_of shape (safe.tables j) j b)) file (blocks_by shape.files shape.blocks newest image file)) image
  newest_content safe = λ i b at. elim (cases_eq i file) [
    | inl e ↦
        let bytes = blocks_by shape.files shape.blocks newest image file in
        ap (λ (t : List ℕ). image (place_of shape t i b)) (pick_same i file newest (safe.tables i) e)
        ∙ ap (λ (k : ℕ). image (place_of shape newest k b)) e
        ∙ sym (piece_joined shape.blocks (λ k. image (place_of shape newest file k)) b (λ k lt. whole (place_of shape newest file k)) at.block)
        ∙ sym (pick_same i file (piece_of bytes b) (image (place_of shape (safe.tables i) i b)) e)
    | inr ne ↦
        let bytes = blocks_by shape.files shape.blocks newest image file in
        ap (λ (t : List ℕ). image (place_of shape t i b)) (pick_other i file newest (safe.tables i) ne)
        ∙ sym (pick_other i file (piece_of bytes b) (image (place_of shape (safe.tables i) i b)) ne)
  ]

-- the same blocks by a table that names the same homes
pub homes_alike : (shape : Shape) (table other : List ℕ) (image : Image) (file : ℕ) → ((b : ℕ) → home_in table b ≡ home_in other b)
    → blocks_by shape.files shape.blocks table image file ≡ blocks_by shape.files shape.blocks other image file
homes_alike shape table other image file same =
    joined_same shape.blocks (λ b. image (place_of shape table file b)) (λ b. image (place_of shape other file b))
    (λ b lt. ap (λ (h : ℕ). image (data_at shape.files shape.blocks file b h)) (same b))

-- another file's blocks, where nothing was written to its homes
pub blocks_apart : (shape : Shape) (table : List ℕ) (old new : Image) (file j : ℕ) → 1 ≤ j → j ≤ shape.files → j ≢ file
    → ((j b h : ℕ) → InShape shape j b → h ≤ 1 → j ≢ file → new (data_at shape.files shape.blocks j b h) ≡ old (data_at shape.files shape.blocks j b h))
    → blocks_by shape.files shape.blocks table new j ≡ blocks_by shape.files shape.blocks table old j
blocks_apart shape table old new file j some there ne others =
    joined_same shape.blocks (λ b. new (place_of shape table j b)) (λ b. old (place_of shape table j b))
    (λ b lt.
    let low = home_in-lt table b in
    others j b (home_in table b) (record { some = some; file = there; block = lt }) (omega (arith, low)) ne)

-- A file whose bytes were written, with its new size and change attribute.
module _ (shape : Shape) (before after : List ℕ) (old new : Image) (file off change : ℕ) (part : List ℕ)
    (whole : (b : ℕ) → length (old b) ≡ 4096) (later : (b : ℕ) → length (new b) ≡ 4096)
    (sized : size_in before ≤ shape.blocks * 4096) (fits : off + length part ≤ shape.blocks * 4096)
    (clean : drop (size_in before) (blocks_by shape.files shape.blocks before old file) ≡ replicate (shape.blocks * 4096 - size_in before) 0)
    (written : blocks_by shape.files shape.blocks after new file ≡ put_in off part (blocks_by shape.files shape.blocks before old file))
    (size_is : size_in after ≡ max (size_in before) (off + length part)) (change_is : change_in after ≡ change) where
  first : List ℕ
  first = blocks_by shape.files shape.blocks before old file

  first_len : length first ≡ shape.blocks * 4096
  unfolding first
  first_len = blocks_len shape before file old whole sized

  within : size_in before ≤ length first
  within = subst (λ (n : ℕ). size_in before ≤ n) (sym first_len) sized

  room : off + length part ≤ length first
  room = subst (λ (n : ℕ). off + length part ≤ n) (sym first_len) fits

  zeros : drop (size_in before) first ≡ replicate (length first - size_in before) 0
  unfolding first
  zeros = clean ∙ ap (λ (n : ℕ). replicate (n - size_in before) 0) (sym first_len)

  pub sized_later : size_in after ≤ shape.blocks * 4096
  sized_later = omega (arith, size_is, sized, fits)

  pub held_written : held_by shape after new file ≡ record { now = with_bytes_at (held_by shape before old file).now off part; change = change }
  unfolding first
  held_written =
      let now : (held_by shape after new file).now ≡ with_bytes_at (held_by shape before old file).now off part =
      now_is shape after file new later sized_later
      ∙ ap (λ (l : List ℕ). take (size_in after) l) written
      ∙ ap (λ (n : ℕ). take n (put_in off part first)) size_is
      ∙ write_now first part (size_in before) off within room zeros
      ∙ ap (λ (l : List ℕ). with_bytes_at l off part) (sym (now_is shape before file old whole sized)) in
      ap (λ (l : List ℕ). record { now = l; change = change_in after }) now
      ∙ ap (λ (n : ℕ). record { now = with_bytes_at (held_by shape before old file).now off part; change = n }) change_is

  pub clean_written : drop (size_in after) (blocks_by shape.files shape.blocks after new file) ≡ replicate (shape.blocks * 4096 - size_in after) 0
  unfolding first
  clean_written =
      ap (λ (n : ℕ). drop n (blocks_by shape.files shape.blocks after new file)) size_is
      ∙ ap (λ (l : List ℕ). drop (max (size_in before) (off + length part)) l) written
      ∙ write_zeros first part (size_in before) off within room zeros
      ∙ ap (λ (n : ℕ). replicate (n - max (size_in before) (off + length part)) 0) first_len
      ∙ ap (λ (n : ℕ). replicate (shape.blocks * 4096 - n) 0) (sym size_is)
