-- A new volume, as an image holds it.
use Rattle.std.proofs.Common.{◌≡◌, ℕ, zero, suc, ◌+◌, ◌-◌, ◌*◌, ◌/◌, ◌%◌, ◌<◌, ◌≤◌, ◌==◌, if◌then◌else◌, false, None, List, ◌∷◌, ◌++◌, get_or, replicate, refl, sym, ◌∙◌, ap, subst, arith, inl, inr}
use Rattle.std.specs.Int.{bit_at}
use Rattle.std.proofs.lemmas.Bool.{cases_eq}
use Rattle.std.proofs.lemmas.Nat.{mul-add-lt}
use Rattle.std.proofs.lemmas.Nat.Bits.{bit_at-zero}
use Rattle.std.proofs.lemmas.List.{get_or-drop, replicate-append-replicate}
use Rattle.copy_model.specs.Volume.{File, Volume, no_file}
use Rattle.disk_model.specs.Disk.{Image, DiskState, MayLeave, IsSettled}
use Rattle.block_file.specs.declared.shape.Shape.{Shape}
use Rattle.block_file.specs.Cell.{gate_of}
use Rattle.block_file.specs.Layout.{cell_at, data_at, blocks_of, home_in}
use Rattle.block_file.specs.Lists.{numbered, joined}
use Rattle.block_file.specs.Stored.{opened_file, IsFormatted, IsCleared, tag_of}
use Rattle.block_file.specs.Blocks.{Safe, Holds}
use Rattle.block_file.specs.Opened.{HeadIs}
use Rattle.block_file.proofs.Numbered.{numbered_same}
use Rattle.block_file.proofs.Standing.{pick_same, pick_other, table_is}
use Rattle.block_file.proofs.Filed.{opened_is, clean_is, sound_is}

abbrev zeros : List ℕ
zeros = replicate 4096 0

get_zero : (n i : ℕ) → get_or {A = ℕ} (replicate n 0) i 0 ≡ 0
get_zero zero i = refl
get_zero (suc n) zero = refl
get_zero (suc n) (suc i) = get_zero n i

home_zero : (b : ℕ) → home_in zeros b ≡ 0
home_zero b = ap (λ (n : ℕ). bit_at n (b % 8)) (get_or-drop 16 zeros (b / 8) 0 ∙ get_zero 4096 (16 + b / 8)) ∙ bit_at-zero (b % 8)

joined_zeros : (n : ℕ) → joined n (λ b. zeros) ≡ replicate (n * 4096) 0
joined_zeros zero = refl
joined_zeros (suc n) =
    let e : 4096 + n * 4096 ≡ suc n * 4096 = omega arith in
    ap (λ (l : List ℕ). zeros ++ l) (joined_zeros n) ∙ replicate-append-replicate 4096 (n * 4096) 0 ∙ ap (λ (k : ℕ). replicate k 0) e

all_same : {A : Type 0} (n : ℕ) (x : A) → numbered n (λ j. x) ≡ replicate n x
all_same zero x = refl
all_same (suc n) x = ap (λ l. x ∷ l) (all_same n x)

abbrev new_safe : Image → Safe
new_safe image = record { head = image 0; homes = λ j. 0; tables = λ j. zeros }

gate_zero : (image : Image) (at : ℕ) → image at ≡ zeros → gate_of (image at) ≡ 0
gate_zero image at is = ap gate_of is ∙ ap (λ (n : ℕ). n % 2) (get_zero 4096 0)

none_off : (n : ℕ) → n ≡ n - 0
none_off n = omega arith

no_home : (at : ℕ) → at + 0 ≡ at
no_home at = omega arith

swapped : (x blocks files : ℕ) → x < blocks * files → x < files * blocks
swapped x blocks files lt = omega arith

cleared_holds : (shape : Shape) (image : Image) → IsCleared shape.files shape.blocks image → Holds shape (new_safe image) (λ j b. zeros) image
cleared_holds shape image cleared =
    let gates : (j : ℕ) → j ≤ shape.files → gate_of (image (cell_at j)) ≡ 0 = λ j le. gate_zero image (cell_at j) (cleared.cells j (omega arith)).0 in
    record {
      head = refl;
      gates = gates;
      tables = λ j le.
          let e : cell_at j + 1 + 0 ≡ 2 + 3 * j = omega arith in
          table_is image j 0 zeros (gates j le) (ap image e ∙ (cleared.cells j (omega arith)).1);
      blocks = λ j b at.
          let low : j - 1 < shape.files = let some = at.some in let le = at.file in omega arith in
          let slot = mul-add-lt (j - 1) shape.blocks b shape.files low at.block in
          ap (λ (h : ℕ). image (data_at shape.files shape.blocks j b h)) (home_zero b)
          ∙ ap image (no_home (4 + 3 * shape.files + 2 * ((j - 1) * shape.blocks + b)))
          ∙ cleared.slots ((j - 1) * shape.blocks + b) (swapped ((j - 1) * shape.blocks + b) shape.blocks shape.files slot);
    }

pub formatted_is : (size : ℕ) (shape : Shape) (tag : ℕ) (s : DiskState) (image : Image) → blocks_of shape.files shape.blocks ≤ size
    → HeadIs size shape tag (s.reads 0) → IsCleared shape.files shape.blocks s.reads → IsSettled s → MayLeave s image
    → IsFormatted size shape.files shape.blocks tag image
unfolding tag_of
formatted_is size shape tag s image room head cleared settled left =
    let same : (b : ℕ) → image b ≡ s.reads b = λ b. left b (settled b) in
    let now : HeadIs size shape tag (image 0) = subst (λ (l : List ℕ). HeadIs size shape tag l) (sym (same 0)) head in
    let clear : IsCleared shape.files shape.blocks image = record {
      slots = λ slot lt. same (4 + 3 * shape.files + 2 * slot) ∙ cleared.slots slot lt;
      cells = λ j lt. (same (1 + 3 * j) ∙ (cleared.cells j lt).0, same (2 + 3 * j) ∙ (cleared.cells j lt).1);
    } in
    let holds = cleared_holds shape image clear in
    let file : ℕ → File = λ j. opened_file zeros (joined shape.blocks (λ b. zeros)) in
    let of : List File → Volume = λ l. record {
      files = l;
      capacity = shape.blocks * 4096;
      boot = 1;
      writes = 0;
      broken = false;
      doubt = None;
    } in
    record {
      opened = opened_is shape (new_safe image) (λ j b. zeros) image holds 0 now.files now.blocks refl
          ∙ ap of (numbered_same (shape.files + 1) (λ j. if j == 0 then no_file else file j) (λ j. no_file)
          (λ j lt. elim (cases_eq j 0) [
            | inl e ↦ pick_same j 0 no_file (file j) e
            | inr ne ↦ pick_other j 0 no_file (file j) ne
          ])
          ∙ all_same (shape.files + 1) no_file);
      tag_is = now.tag_is;
      clean = clean_is shape (new_safe image) (λ j b. zeros) image holds now.files now.blocks (λ j low high. joined_zeros shape.blocks ∙ ap (λ (n : ℕ). replicate n 0) (none_off (shape.blocks * 4096)));
      sound = sound_is size shape tag (new_safe image) (λ j b. zeros) image holds now room 0 refl (λ j low high. omega arith) (omega arith);
    }
