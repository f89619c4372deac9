-- The first field of a disk that is off.
use Rattle.std.proofs.Common.{◌≡◌, ◌≢◌, ℕ, zero, suc, ◌+◌, ◌*◌, ◌<◌, ◌≤◌, ◌==◌, if◌then◌else◌, nat_lt, Bool, Option, None, Some, List, refl, sym, ◌∙◌, ap, arith, inl, inr}
use Rattle.std.specs.Option.{option_or, option_map}
use Rattle.std.proofs.lemmas.Bool.{cases_eq, cases_lt, lt-ltb, le-ltb}
use Rattle.disk_model.specs.declared.disk.Io.{Io}
use Rattle.disk_model.specs.declared.fuse.Fuse.{Fuse}
use Rattle.disk_model.specs.Disk.{Image, DiskState, MayLeave, Syncs}
use Rattle.disk_model.specs.Elapsed.{Timeline, present, Elapses}
use Rattle.disk_model.specs.Passes.{Passes, passes_one}
use Rattle.block_file.specs.declared.shape.Shape.{Shape}
use Rattle.block_file.specs.Cell.{gate_of}
use Rattle.block_file.specs.Layout.{head_files, head_blocks, cell_at, boot_in, size_in, table_of}
use Rattle.block_file.specs.Stored.{Place, flaw_of, head_flaw, cell_flaw, first_oversized}
use Rattle.block_file.specs.Opened.{HeadIs}
use Rattle.block_file.specs.Loaded.{AreCells}
use Rattle.block_file.proofs.Standing.{pick_same, pick_other}

-- a sync: what a read gives stays, and a crash may leave nothing new
pub sync_reads : (result : Io) (old new : DiskState) → Syncs result old new → ◌≡◌ {A = ℕ → List ℕ} new.reads old.reads
sync_reads result old new s = λ i b. s.same b i

pub sync_leaves : (result : Io) (f g : Fuse) (old new : Timeline) → Syncs result (present old) (present new) → Elapses f g old new
    → new.latest ≤ old.latest + 1 → Passes f g old new (MayLeave (present old))
sync_leaves result f g old new s time soon =
    passes_one (MayLeave (present old)) f g old new time soon (λ image left. left)
    (λ image left b closed. left b (s.kept b closed) ∙ s.same b)

-- the first flaw of a disk with no blocks, and of one whose block 0 is off
pub flaw_none : (size : ℕ) (image : Image) → size ≡ 0 → flaw_of size image ≡ Some (record { block = 0; at = 0 })
unfolding flaw_of
flaw_none size image none = pick_same size 0 (Some (record { block = 0; at = 0 })) _ none

by_head : Option ℕ → Option Place → Option Place
by_head head cells = option_or (option_map (λ at. record { block = 0; at = at }) head) cells

cells_of : Image → Option Place
cells_of image = cell_flaw (head_files (image 0)) (head_blocks (image 0) * 4096) (λ j. gate_of (image (cell_at j))) (table_of image)

pub flaw_head : (size : ℕ) (image : Image) (at : ℕ) → size ≢ 0 → head_flaw size (image 0) ≡ Some at
    → flaw_of size image ≡ Some (record { block = 0; at = at })
unfolding flaw_of by_head cells_of
flaw_head size image at some is =
    pick_other size 0 (Some (record { block = 0; at = 0 })) _ some ∙ ap (λ (o : Option ℕ). by_head o (cells_of image)) is

-- of n files from number j on, one that is too large is one of these
pub oversized_within : (capacity : ℕ) (tables : ℕ → List ℕ) (j n i : ℕ) → first_oversized capacity tables j n ≡ Some i → (j ≤ i) × (i < j + n)
oversized_within capacity tables j zero i is = absurd (cc)
oversized_within capacity tables j (suc n) i is = elim (cases_lt capacity (size_in (tables j))) [
  | inl large ↦
      let some : Some j ≡ Some i =
      sym (ap (λ (t : Bool). if t then Some j else first_oversized capacity tables (j + 1) n) (lt-ltb capacity (size_in (tables j)) large)) ∙ is in
      let e : j ≡ i = cc in
      (omega arith, omega arith)
  | inr small ↦
      let later : first_oversized capacity tables (j + 1) n ≡ Some i =
      sym (ap (λ (t : Bool). if t then Some j else first_oversized capacity tables (j + 1) n) (le-ltb capacity (size_in (tables j)) small)) ∙ is in
      let within = oversized_within capacity tables (j + 1) n i later in
      let low = within.0 in
      let high = within.1 in
      (omega arith, omega arith)
]

oversized_same : (capacity : ℕ) (tables others : ℕ → List ℕ) (j n : ℕ) → ((i : ℕ) → j ≤ i → i < j + n → tables i ≡ others i)
    → first_oversized capacity tables j n ≡ first_oversized capacity others j n
oversized_same capacity tables others j zero same = refl
oversized_same capacity tables others j (suc n) same =
    ap (λ (t : List ℕ). if nat_lt capacity (size_in t) then Some j else first_oversized capacity tables (j + 1) n) (same j (omega arith) (omega arith))
    ∙ ap (λ (o : Option ℕ). if nat_lt capacity (size_in (others j)) then Some j else o)
    (oversized_same capacity tables others (j + 1) n (λ i from to. same i (omega arith) (omega arith)))

place_in : (ℕ → ℕ) → ℕ → Place
place_in homes j = record { block = cell_at j + 1 + homes j; at = 0 }

mapped_same : (homes others : ℕ → ℕ) (o : Option ℕ) → ((i : ℕ) → o ≡ Some i → homes i ≡ others i)
    → option_map (place_in homes) o ≡ option_map (place_in others) o
unfolding place_in
mapped_same homes others None same = refl
mapped_same homes others (Some i) same = ap (λ (h : ℕ). Some (record { block = cell_at i + 1 + h; at = 0 })) (same i refl)

-- the first cell that is off, by what is known of the cells
pub cells_same : (files capacity : ℕ) (homes others : ℕ → ℕ) (tables those : ℕ → List ℕ) → ((j : ℕ) → j ≤ files → homes j ≡ others j)
    → ((j : ℕ) → j ≤ files → tables j ≡ those j) → cell_flaw files capacity homes tables ≡ cell_flaw files capacity others those
unfolding place_in
cells_same files capacity homes others tables those same alike =
    let boot : ℕ → List ℕ → Option Place = λ h t. if boot_in t == 4294967295 then Some (record { block = cell_at 0 + 1 + h; at = 0 }) else None in
    let large = first_oversized capacity tables 1 files in
    ap (λ (h : ℕ). option_or (boot h (tables 0)) (option_map (place_in homes) large)) (same 0 (omega arith))
    ∙ ap (λ (t : List ℕ). option_or (boot (others 0) t) (option_map (place_in homes) large)) (alike 0 (omega arith))
    ∙ ap (λ (o : Option Place). option_or (boot (others 0) (those 0)) o)
    (mapped_same homes others large (λ i is. same i (let to = (oversized_within capacity tables 1 files i is).1 in omega arith))
    ∙ ap (λ (o : Option ℕ). option_map (place_in others) o)
    (oversized_same capacity tables those 1 files (λ i from to. alike i (omega arith))))

pub flaw_cells : (size : ℕ) (shape : Shape) (tag : ℕ) (homes : ℕ → ℕ) (tables : ℕ → List ℕ) (image : Image) → size ≢ 0
    → HeadIs size shape tag (image 0) → AreCells shape.files homes tables image
    → flaw_of size image ≡ cell_flaw shape.files (shape.blocks * 4096) homes tables
unfolding flaw_of by_head cells_of
flaw_cells size shape tag homes tables image some head cells =
    let gates : ℕ → ℕ = λ j. gate_of (image (cell_at j)) in
    pick_other size 0 (Some (record { block = 0; at = 0 })) _ some
    ∙ ap (λ (o : Option ℕ). by_head o (cells_of image)) head.sound
    ∙ ap (λ (n : ℕ). cell_flaw n (head_blocks (image 0) * 4096) gates (table_of image)) head.files
    ∙ ap (λ (n : ℕ). cell_flaw shape.files (n * 4096) gates (table_of image)) head.blocks
    ∙ sym (cells_same shape.files (shape.blocks * 4096) homes gates tables (table_of image) cells.homes_are cells.tables_are)

mapped_none : (homes : ℕ → ℕ) (o : Option ℕ) → option_map (place_in homes) o ≡ None → o ≡ None
mapped_none homes None is = refl
mapped_none homes (Some j) is = absurd (cc)

-- where no cell is off, the boot number has a next one and each file fits
pub sound_cells : (files capacity : ℕ) (homes : ℕ → ℕ) (tables : ℕ → List ℕ) → cell_flaw files capacity homes tables ≡ None
    → (boot_in (tables 0) ≢ 4294967295) × (first_oversized capacity tables 1 files ≡ None)
unfolding place_in
sound_cells files capacity homes tables none =
    let rest = option_map (place_in homes) (first_oversized capacity tables 1 files) in
    let boot : Option Place = Some (record { block = cell_at 0 + 1 + homes 0; at = 0 }) in
    elim (cases_eq (boot_in (tables 0)) 4294967295) [
      | inl e ↦
          let some : boot ≡ None = sym (ap (λ (o : Option Place). option_or o rest) (pick_same (boot_in (tables 0)) 4294967295 boot None e)) ∙ none in
          absurd (cc)
      | inr ne ↦ (
        ne,
        mapped_none homes (first_oversized capacity tables 1 files)
            (sym (ap (λ (o : Option Place). option_or o rest) (pick_other (boot_in (tables 0)) 4294967295 boot None ne)) ∙ none),
      )
    ]

-- a file that is too large
pub flaw_large : (files capacity : ℕ) (homes : ℕ → ℕ) (tables : ℕ → List ℕ) (j block : ℕ) → boot_in (tables 0) ≢ 4294967295
    → first_oversized capacity tables 1 files ≡ Some j → block ≡ 2 + 3 * j + homes j
    → Some (record { block = block; at = 0 }) ≡ cell_flaw files capacity homes tables
flaw_large files capacity homes tables j block low is at =
    let boot : Option Place = Some (record { block = cell_at 0 + 1 + homes 0; at = 0 }) in
    let place : block ≡ cell_at j + 1 + homes j = omega arith in
    ap (λ (b : ℕ). Some (record { block = b; at = 0 })) place
    ∙ sym (ap (λ (o : Option Place). option_or o (option_map (λ i. record { block = cell_at i + 1 + homes i; at = 0 }) (first_oversized capacity tables 1 files)))
    (pick_other (boot_in (tables 0)) 4294967295 boot None low)
    ∙ ap (λ (o : Option ℕ). option_map (λ i. record { block = cell_at i + 1 + homes i; at = 0 }) o) is)
