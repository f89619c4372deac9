-- Block 0 of a volume.
use Rattle.std.proofs.Common.{◌≡◌, ℕ, zero, suc, ◌+◌, ◌*◌, ◌<◌, ◌≤◌, ◌^◌, ◌||◌, Bool, true, false, not, nat_lt, if◌then◌else◌, Option, None, Some, List, length, take, drop, replicate, w32, w64, refl, ◌∙◌, ap, arith}
use Rattle.std.specs.Int.{from_be_bytes, to_be_bytes}
use Rattle.std.specs.Str.{bytes_eq}
use Rattle.std.proofs.lemmas.Bool.{le-ltb}
use Rattle.std.proofs.lemmas.Nat.{from_be_bytes-to_be_bytes_4, from_be_bytes-to_be_bytes_8}
use Rattle.std.proofs.lemmas.List.{length-replicate, drop-replicate}
use Rattle.block_file.specs.declared.shape.Shape.{Shape}
use Rattle.block_file.specs.Layout.{letters, head_files, head_blocks, blocks_of}
use Rattle.block_file.specs.Stored.{head_flaw, is_misfit, first_stain}
use Rattle.block_file.specs.Opened.{HeadIs}
use Rattle.block_file.specs.Lists.{put_in}
use Rattle.block_file.proofs.Parts.{front_put, part_put, past_put, len_put, before_put, beyond_put}

pub clean_zeros : (at n : ℕ) → first_stain at (replicate n 0) ≡ None
clean_zeros at zero = refl
clean_zeros at (suc n) = clean_zeros (at + 1) n

pub fits_is : (files blocks size : ℕ) → 1 ≤ blocks → blocks ≤ 16384 → files * blocks ≤ 16384 → blocks_of files blocks ≤ size
    → is_misfit files blocks size ≡ false
fits_is files blocks size some few room size_is =
    ap (λ (t : Bool). t || nat_lt 16384 blocks || nat_lt 16384 (files * blocks) || nat_lt size (blocks_of files blocks)) (le-ltb blocks 1 some)
    ∙ ap (λ (t : Bool). false || t || nat_lt 16384 (files * blocks) || nat_lt size (blocks_of files blocks)) (le-ltb 16384 blocks few)
    ∙ ap (λ (t : Bool). false || false || t || nat_lt size (blocks_of files blocks)) (le-ltb 16384 (files * blocks) room)
    ∙ ap (λ (t : Bool). false || false || false || t) (le-ltb size (blocks_of files blocks) size_is)

-- a block with the letters, these numbers and zeros
pub head_sound : (size files blocks : ℕ) (head : List ℕ) → take 8 head ≡ letters → head_files head ≡ files → head_blocks head ≡ blocks
    → first_stain 24 (drop 24 head) ≡ None → 1 ≤ files → files ≤ 64 → 1 ≤ blocks → blocks ≤ 16384 → files * blocks ≤ 16384 → blocks_of files blocks ≤ size
    → head_flaw size head ≡ None
head_sound size files blocks head named f b zeros some few any most room within =
    let at : Bool → ℕ → ℕ → Option ℕ → Option ℕ = λ t n m o.
    if not t then Some 0
    else (if nat_lt n 1 || nat_lt 64 n then Some 8
    else (if is_misfit n m size then Some 12
    else o)) in
    ap (λ (l : List ℕ). at (bytes_eq l letters) (head_files head) (head_blocks head) (first_stain 24 (drop 24 head))) named
    ∙ ap (λ (n : ℕ). at true n (head_blocks head) (first_stain 24 (drop 24 head))) f
    ∙ ap (λ (m : ℕ). at true files m (first_stain 24 (drop 24 head))) b
    ∙ ap (λ (o : Option ℕ). at true files blocks o) zeros
    ∙ ap (λ (t : Bool). if t || nat_lt 64 files then Some 8 else (if is_misfit files blocks size then Some 12 else None)) (le-ltb files 1 some)
    ∙ ap (λ (t : Bool). if false || t then Some 8 else (if is_misfit files blocks size then Some 12 else None)) (le-ltb 64 files few)
    ∙ ap (λ (t : Bool). if t then Some 12 else None) (fits_is files blocks size any most room within)

-- block 0 as it is written
abbrev pub head_of : (files blocks tag : ℕ) → List ℕ → List ℕ
head_of files blocks tag zeros =
    put_in 16 (to_be_bytes w64 tag) (put_in 12 (to_be_bytes w32 blocks) (put_in 8 (to_be_bytes w32 files) (put_in 0 letters zeros)))

pub head_is : (size : ℕ) (shape : Shape) (tag : ℕ) → tag < 2 ^ 64 → blocks_of shape.files shape.blocks ≤ size
    → (zeros : List ℕ) → zeros ≡ replicate 4096 0 → HeadIs size shape tag (head_of shape.files shape.blocks tag zeros)
head_is size shape tag small within zeros none =
    let len0 : length zeros ≡ 4096 = ap (λ (l : List ℕ). length l) none ∙ length-replicate {A = ℕ} 4096 0 in
    let b1 = put_in 0 letters zeros in
    let b2 = put_in 8 (to_be_bytes w32 shape.files) b1 in
    let b3 = put_in 12 (to_be_bytes w32 shape.blocks) b2 in
    let b4 = put_in 16 (to_be_bytes w64 tag) b3 in
    let len1 : length b1 ≡ 4096 = len_put 0 letters zeros (omega arith) ∙ len0 in
    let len2 : length b2 ≡ 4096 = len_put 8 (to_be_bytes w32 shape.files) b1 (omega arith) ∙ len1 in
    let len3 : length b3 ≡ 4096 = len_put 12 (to_be_bytes w32 shape.blocks) b2 (omega arith) ∙ len2 in
    let named : take 8 b4 ≡ letters =
    front_put 16 8 (to_be_bytes w64 tag) b3 (omega arith) (omega arith)
    ∙ front_put 12 8 (to_be_bytes w32 shape.blocks) b2 (omega arith) (omega arith)
    ∙ front_put 8 8 (to_be_bytes w32 shape.files) b1 (omega arith) (omega arith)
    ∙ part_put 0 8 letters zeros (omega arith) refl in
    let files : head_files b4 ≡ shape.files =
    ap (λ (l : List ℕ). from_be_bytes w32 l)
    (before_put 16 4 8 (to_be_bytes w64 tag) b3 (omega arith) (omega arith)
    ∙ before_put 12 4 8 (to_be_bytes w32 shape.blocks) b2 (omega arith) (omega arith)
    ∙ part_put 8 4 (to_be_bytes w32 shape.files) b1 (omega arith) refl)
    ∙ from_be_bytes-to_be_bytes_4 shape.files (let few = shape.few_files in omega arith) in
    let blocks : head_blocks b4 ≡ shape.blocks =
    ap (λ (l : List ℕ). from_be_bytes w32 l)
    (before_put 16 4 12 (to_be_bytes w64 tag) b3 (omega arith) (omega arith)
    ∙ part_put 12 4 (to_be_bytes w32 shape.blocks) b2 (omega arith) refl)
    ∙ from_be_bytes-to_be_bytes_4 shape.blocks (let few = shape.few_blocks in omega arith) in
    let tail : drop 24 b4 ≡ replicate 4072 0 =
    past_put 16 8 (to_be_bytes w64 tag) b3 (omega arith) refl
    ∙ beyond_put 12 4 24 (to_be_bytes w32 shape.blocks) b2 (omega arith) refl (omega arith)
    ∙ beyond_put 8 4 24 (to_be_bytes w32 shape.files) b1 (omega arith) refl (omega arith)
    ∙ beyond_put 0 8 24 letters zeros (omega arith) refl (omega arith)
    ∙ ap (λ (l : List ℕ). drop 24 l) none ∙ drop-replicate 24 4096 0 in
    record {
      files = files;
      blocks = blocks;
      tag_is = ap (λ (l : List ℕ). from_be_bytes w64 l) (part_put 16 8 (to_be_bytes w64 tag) b3 (omega arith) refl)
          ∙ from_be_bytes-to_be_bytes_8 tag small;
      sound = head_sound size shape.files shape.blocks b4 named files blocks (ap (λ (l : List ℕ). first_stain 24 l) tail ∙ clean_zeros 24 4072)
          shape.some_files shape.few_files shape.some_blocks shape.few_blocks shape.room within;
    }
