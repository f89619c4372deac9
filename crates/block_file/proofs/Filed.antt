-- What an image holds, as the volume that a crash leaves.
use Rattle.std.proofs.Common.{◌≡◌, ◌≢◌, ℕ, zero, suc, ◌+◌, ◌-◌, ◌*◌, ◌<◌, ◌≤◌, ◌^◌, ◌==◌, if◌then◌else◌, Bool, true, false, Option, None, Some, List, ◌++◌, length, map, set, take, drop, replicate, inl, inr, refl, sym, ◌∙◌, ap, arith}
use Rattle.std.proofs.lemmas.Bool.{cases_eq, le-ltb}
use Rattle.std.proofs.Math.Seq.{take-append_seam}
use Rattle.std.specs.Option.{option_or, option_map}
use Rattle.copy_model.specs.Volume.{File, Volume, Doubt, Kept, Old, New, no_file, settled, recovered, crash}
use Rattle.disk_model.specs.Disk.{Image}
use Rattle.block_file.specs.declared.shape.Shape.{Shape}
use Rattle.block_file.specs.Cell.{gate_of}
use Rattle.block_file.specs.Layout.{head_files, head_blocks, head_tag, cell_at, blocks_of, boot_in, size_in, change_in, table_of}
use Rattle.block_file.specs.Lists.{numbered, joined}
use Rattle.block_file.specs.Stored.{Place, blocks_by, opened_file, opened_by, reopened, tag_of, home_of, IsClean, flaw_of, head_flaw, first_oversized}
use Rattle.block_file.specs.Blocks.{Safe, place_of, HasContent, Holds, with_table, piece_of, with_bytes}
use Rattle.block_file.specs.Held.{Held}
use Rattle.block_file.specs.Opened.{left_home, Leaves, live_file, volume_of, HeadIs}
use Rattle.block_file.proofs.Numbered.{numbered_same, map-numbered, get-numbered, set-numbered, joined_same, pieces_whole}
use Rattle.block_file.proofs.Standing.{pick_same, pick_other}

-- the files of the volume in an image, the numbers of files and of blocks given
abbrev files_in : ℕ → ℕ → Image → List File
files_in files blocks image =
    numbered (files + 1) (λ j. if j == 0 then no_file else opened_file (table_of image j) (blocks_by files blocks (table_of image j) image j))

-- blocks in the places that a table names are those of the content
pub content_joined : (shape : Shape) (tables : ℕ → List ℕ) (content : ℕ → ℕ → List ℕ) (image : Image) (j : ℕ) → 1 ≤ j → j ≤ shape.files
    → HasContent shape tables content image → blocks_by shape.files shape.blocks (tables j) image j ≡ joined shape.blocks (content j)
content_joined shape tables content image j some there has =
    joined_same shape.blocks (λ b. image (place_of shape (tables j) j b)) (content j)
    (λ b lt. has j b (record { some = some; file = there; block = lt }))

-- a number that isn't 0
pick_file : {A : Type 0} (j : ℕ) (a b : A) → 1 ≤ j → (if j == 0 then a else b) ≡ b
pick_file j a b some = pick_other j 0 a b (omega arith)

-- files that are the same but for the root
files_same : {A : Type 0} (n : ℕ) (root : A) (f g : ℕ → A) → ((j : ℕ) → 1 ≤ j → j ≤ n → f j ≡ g j)
    → numbered (n + 1) (λ j. if j == 0 then root else f j) ≡ numbered (n + 1) (λ j. if j == 0 then root else g j)
files_same n root f g same =
    numbered_same (n + 1) (λ j. if j == 0 then root else f j) (λ j. if j == 0 then root else g j)
    (λ j lt. elim (cases_eq j 0) [
      | inl e ↦ pick_same j 0 root (f j) e ∙ sym (pick_same j 0 root (g j) e)
      | inr ne ↦ pick_other j 0 root (f j) ne ∙ same j (omega arith) (omega arith) ∙ sym (pick_other j 0 root (g j) ne)
    ])

module _ (shape : Shape) (safe : Safe) (content : ℕ → ℕ → List ℕ) (image : Image) (holds : Holds shape safe content image) where
  blocks_are : (j : ℕ) → 1 ≤ j → j ≤ shape.files
      → blocks_by shape.files shape.blocks (table_of image j) image j ≡ joined shape.blocks (content j)
  blocks_are j some there =
      ap (λ (t : List ℕ). blocks_by shape.files shape.blocks t image j) (holds.tables j there)
      ∙ content_joined shape safe.tables content image j some there holds.blocks

  pub opened_is : (boot : ℕ) → head_files safe.head ≡ shape.files → head_blocks safe.head ≡ shape.blocks → boot_in (safe.tables 0) ≡ boot
      → reopened image ≡ opened_by shape.files shape.blocks boot safe.tables (λ j. joined shape.blocks (content j))
  unfolding reopened
  opened_is boot files blocks is =
      let by : ℕ → ℕ → Volume = λ f b. opened_by f b (boot_in (table_of image 0)) (table_of image) (λ j. blocks_by f b (table_of image j) image j) in
      let of : ℕ → List File → Volume = λ n l. record {
        files = l;
        capacity = shape.blocks * 4096;
        boot = n + 1;
        writes = 0;
        broken = false;
        doubt = None;
      } in
      ap (λ (f : ℕ). by f (head_blocks (image 0))) (ap head_files holds.head ∙ files)
      ∙ ap (λ (b : ℕ). by shape.files b) (ap head_blocks holds.head ∙ blocks)
      ∙ ap (λ (n : ℕ). of n (files_in shape.files shape.blocks image)) (ap boot_in (holds.tables 0 (omega arith)) ∙ is)
      ∙ ap (λ (l : List File). of boot l)
      (files_same shape.files no_file
      (λ j. opened_file (table_of image j) (blocks_by shape.files shape.blocks (table_of image j) image j))
      (λ j. opened_file (safe.tables j) (joined shape.blocks (content j)))
      (λ j some there.
      ap (λ (t : List ℕ). opened_file t (blocks_by shape.files shape.blocks (table_of image j) image j)) (holds.tables j there)
      ∙ ap (λ (l : List ℕ). opened_file (safe.tables j) l) (blocks_are j some there)))

  pub clean_is : head_files safe.head ≡ shape.files → head_blocks safe.head ≡ shape.blocks
      → ((j : ℕ) → 1 ≤ j → j ≤ shape.files → drop (size_in (safe.tables j)) (joined shape.blocks (content j)) ≡ replicate (shape.blocks * 4096 - size_in (safe.tables j)) 0)
      → IsClean image
  unfolding IsClean
  clean_is files blocks clean = λ j some there.
      let f : head_files (image 0) ≡ shape.files = ap head_files holds.head ∙ files in
      let b : head_blocks (image 0) ≡ shape.blocks = ap head_blocks holds.head ∙ blocks in
      let within : j ≤ shape.files = omega arith in
      let t : table_of image j ≡ safe.tables j = holds.tables j within in
      ap (λ (k : ℕ). drop (size_in (table_of image j)) (blocks_by k (head_blocks (image 0)) (table_of image j) image j)) f
      ∙ ap (λ (k : ℕ). drop (size_in (table_of image j)) (blocks_by shape.files k (table_of image j) image j)) b
      ∙ ap (λ (l : List ℕ). drop (size_in (table_of image j)) l) (blocks_are j some within)
      ∙ ap (λ (l : List ℕ). drop (size_in l) (joined shape.blocks (content j))) t
      ∙ clean j some within
      ∙ sym (ap (λ (k : ℕ). replicate (k * 4096 - size_in (table_of image j)) 0) b
      ∙ ap (λ (l : List ℕ). replicate (shape.blocks * 4096 - size_in l) 0) t)

-- no file is too large
none_oversized : (capacity : ℕ) (tables : ℕ → List ℕ) (j n : ℕ) → ((i : ℕ) → j ≤ i → i < j + n → size_in (tables i) ≤ capacity)
    → first_oversized capacity tables j n ≡ None
none_oversized capacity tables j zero fit = refl
none_oversized capacity tables j (suc n) fit =
    let here = fit j (omega arith) (omega arith) in
    ap (λ (t : Bool). if t then Some j else first_oversized capacity tables (j + 1) n) (le-ltb capacity (size_in (tables j)) here)
    ∙ none_oversized capacity tables (j + 1) n (λ i from to. fit i (omega arith) (omega arith))

pub sound_is : (size : ℕ) (shape : Shape) (tag : ℕ) (safe : Safe) (content : ℕ → ℕ → List ℕ) (image : Image) → Holds shape safe content image
    → HeadIs size shape tag safe.head → blocks_of shape.files shape.blocks ≤ size → (boot : ℕ) → boot_in (safe.tables 0) ≡ boot
    → ((j : ℕ) → 1 ≤ j → j ≤ shape.files → size_in (safe.tables j) ≤ shape.blocks * 4096)
    → boot < 2 ^ 32 - 1 → flaw_of size image ≡ None
unfolding flaw_of
sound_is size shape tag safe content image holds head room boot is sizes lt =
    let b : head_blocks (image 0) ≡ shape.blocks = ap head_blocks holds.head ∙ head.blocks in
    let f : head_files (image 0) ≡ shape.files = ap head_files holds.head ∙ head.files in
    let n : boot_in (table_of image 0) ≡ boot = ap boot_in (holds.tables 0 (omega arith)) ∙ is in
    let ok : head_flaw size (image 0) ≡ None = ap (head_flaw size) holds.head ∙ head.sound in
    let some : size ≢ 0 = omega arith in
    let low : boot_in (table_of image 0) ≢ 4294967295 = omega arith in
    let small : first_oversized (head_blocks (image 0) * 4096) (table_of image) 1 (head_files (image 0)) ≡ None
    = none_oversized (head_blocks (image 0) * 4096) (table_of image) 1 (head_files (image 0))
    (λ i from to.
    let within : i ≤ shape.files = omega arith in
    let fits = sizes i from within in
    let same : size_in (table_of image i) ≡ size_in (safe.tables i) = ap size_in (holds.tables i within) in
    omega arith) in
    pick_other size 0 (Some (record { block = 0; at = 0 })) _ some
    ∙ ap (λ (o : Option ℕ). option_or (option_map (λ at. record { block = 0; at = at }) o)
    (option_or
    (if boot_in (table_of image 0) == 4294967295 then Some (record { block = cell_at 0 + 1 + gate_of (image (cell_at 0)); at = 0 }) else None)
    (option_map (λ j. record { block = cell_at j + 1 + gate_of (image (cell_at j)); at = 0 })
    (first_oversized (head_blocks (image 0) * 4096) (table_of image) 1 (head_files (image 0)))))) ok
    ∙ ap (λ (o : Option Place). option_or o
    (option_map (λ j. record { block = cell_at j + 1 + gate_of (image (cell_at j)); at = 0 })
    (first_oversized (head_blocks (image 0) * 4096) (table_of image) 1 (head_files (image 0)))))
    (pick_other (boot_in (table_of image 0)) 4294967295 (Some (record { block = cell_at 0 + 1 + gate_of (image (cell_at 0)); at = 0 })) None low)
    ∙ ap (λ (o : Option ℕ). option_map (λ j. record { block = cell_at j + 1 + gate_of (image (cell_at j)); at = 0 }) o) small

-- What an image holds is what a crash leaves, if the volume after that crash is that of the tables and
-- the content.
pub holds_leaves : (size : ℕ) (shape : Shape) (tag boot : ℕ) (safe : Safe) (content : ℕ → ℕ → List ℕ) (homes : ℕ → ℕ) (v : Volume) (kept : Kept) (image : Image)
    → Holds shape safe content image → HeadIs size shape tag safe.head → blocks_of shape.files shape.blocks ≤ size
    → boot_in (safe.tables 0) ≡ boot → ((j : ℕ) → 1 ≤ j → j ≤ shape.files → size_in (safe.tables j) ≤ shape.blocks * 4096)
    → ((j : ℕ) → 1 ≤ j → j ≤ shape.files → drop (size_in (safe.tables j)) (joined shape.blocks (content j)) ≡ replicate (shape.blocks * 4096 - size_in (safe.tables j)) 0)
    → v.boot ≡ boot → ((j : ℕ) → 1 ≤ j → j ≤ shape.files → safe.homes j ≡ left_home homes v.doubt kept j)
    → crash v kept ≡ opened_by shape.files shape.blocks boot safe.tables (λ j. joined shape.blocks (content j))
    → Leaves size tag homes v kept image
unfolding tag_of home_of
holds_leaves size shape tag boot safe content homes v kept image holds head room is sizes clean same homes_are crashed =
    record {
      opened = opened_is shape safe content image holds boot head.files head.blocks is ∙ sym crashed;
      tag_is = ap head_tag holds.head ∙ head.tag_is;
      homes_are = λ j some there.
          let f : head_files (image 0) ≡ shape.files = ap head_files holds.head ∙ head.files in
          let within : j ≤ shape.files = omega arith in
          holds.gates j within ∙ homes_are j some within;
      clean = clean_is shape safe content image holds head.files head.blocks clean;
      sound = λ lt. sound_is size shape tag safe content image holds head room boot is sizes (omega arith);
    }

settled_old : (files : List File) (none : Bool) (doubt : Doubt) → settled files (if none then None else Some doubt) Old ≡ files
settled_old files true doubt = refl
settled_old files false doubt = refl

-- a file whose bytes have all been put under a new table
new_file : (held : Held) (table bytes : List ℕ) (room : ℕ) → size_in table ≡ length held.now → change_in table ≡ held.change
    → bytes ≡ held.now ++ replicate room 0
    → (let f : File = record { now = held.now; safe = held.now; change = held.change; safe_change = held.change } in f) ≡ opened_file table bytes
new_file held table bytes room size change all =
    let safe : held.now ≡ take (size_in table) bytes =
    sym (ap (λ (n : ℕ). take n bytes) size ∙ ap (λ (l : List ℕ). take (length held.now) l) all ∙ take-append_seam held.now (replicate room 0)) in
    ap (λ (l : List ℕ). record { now = l; safe = l; change = held.change; safe_change = held.change }) safe
    ∙ ap (λ (n : ℕ). record { now = take (size_in table) bytes; safe = take (size_in table) bytes; change = n; safe_change = n }) (sym change)

-- a crash of an open volume leaves what its tables and blocks are
pub crash_old : (shape : Shape) (boot writes : ℕ) (broken : Bool) (doubt : ℕ) (held : ℕ → Held) (tables : ℕ → List ℕ) (image : Image)
    → crash (volume_of shape boot writes broken doubt held tables image) Old
    ≡ opened_by shape.files shape.blocks boot tables (λ j. blocks_by shape.files shape.blocks (tables j) image j)
crash_old shape boot writes broken doubt held tables image =
    let of : List File → Volume = λ l. record {
      files = l;
      capacity = shape.blocks * 4096;
      boot = boot + 1;
      writes = 0;
      broken = false;
      doubt = None;
    } in
    let file : ℕ → File = λ j. live_file (held j) (tables j) (blocks_by shape.files shape.blocks (tables j) image j) in
    let files : List File = numbered (shape.files + 1) (λ j. if j == 0 then no_file else file j) in
    ap (λ (l : List File). of (map recovered l)) (settled_old files (doubt == 0) (record { file = doubt; bytes = (held doubt).now; change = (held doubt).change }))
    ∙ ap of (map-numbered recovered (shape.files + 1) (λ j. if j == 0 then no_file else file j)
    ∙ numbered_same (shape.files + 1) (λ j. recovered (if j == 0 then no_file else file j))
    (λ j. if j == 0 then no_file else opened_file (tables j) (blocks_by shape.files shape.blocks (tables j) image j))
    (λ j lt. elim (cases_eq j 0) [
      | inl e ↦ ap recovered (pick_same j 0 no_file (file j) e) ∙ sym (pick_same j 0 no_file _ e)
      | inr ne ↦ ap recovered (pick_other j 0 no_file (file j) ne) ∙ sym (pick_other j 0 no_file _ ne)
    ]))

-- the same of what a commit in doubt was making safe
pub crash_new : (shape : Shape) (boot writes : ℕ) (held : ℕ → Held) (safe : Safe) (table bytes : List ℕ) (image : Image) (file : ℕ)
    → 1 ≤ file → file ≤ shape.files → size_in table ≡ length (held file).now → change_in table ≡ (held file).change
    → bytes ≡ (held file).now ++ replicate (shape.blocks * 4096 - length (held file).now) 0 → length bytes ≡ shape.blocks * 4096
    → (content : ℕ → ℕ → List ℕ) → HasContent shape safe.tables content image
    → crash (volume_of shape boot writes true file held safe.tables image) New
    ≡ opened_by shape.files shape.blocks boot (with_table safe file table).tables (λ j. joined shape.blocks (with_bytes content file bytes j))
crash_new shape boot writes held safe table bytes image file some there size change all len content has =
    let of : List File → Volume = λ l. record {
      files = l;
      capacity = shape.blocks * 4096;
      boot = boot + 1;
      writes = 0;
      broken = false;
      doubt = None;
    } in
    let later = with_table safe file table in
    let live : ℕ → File = λ j. live_file (held j) (safe.tables j) (blocks_by shape.files shape.blocks (safe.tables j) image j) in
    let f : ℕ → File = λ j. if j == 0 then no_file else live j in
    let files : List File = numbered (shape.files + 1) f in
    let doubt : Doubt = record { file = file; bytes = (held file).now; change = (held file).change } in
    let new : File = record (live file) { safe = (held file).now; safe_change = (held file).change } in
    let mine : f file ≡ live file = pick_file file no_file (live file) some in
    let target : ℕ → File = λ j. opened_file (later.tables j) (joined shape.blocks (with_bytes content file bytes j)) in
    ap (λ (o : Option Doubt). of (map recovered (settled files o New))) (pick_file file None (Some doubt) some)
    ∙ ap (λ (x : File). of (map recovered (set files file (record x { safe = doubt.bytes; safe_change = doubt.change }))))
    (get-numbered (shape.files + 1) f file no_file (omega arith) ∙ mine)
    ∙ ap (λ (l : List File). of (map recovered l)) (set-numbered (shape.files + 1) f file new)
    ∙ ap of (map-numbered recovered (shape.files + 1) (λ j. if j == file then new else f j)
    ∙ numbered_same (shape.files + 1) (λ j. recovered (if j == file then new else f j)) (λ j. if j == 0 then no_file else target j)
    (λ j lt. elim (cases_eq j file) [
      | inl e ↦
          ap recovered (pick_same j file new (f j) e)
          ∙ new_file (held file) (later.tables j) (joined shape.blocks (with_bytes content file bytes j)) (shape.blocks * 4096 - length (held file).now)
          (ap size_in (pick_same j file table (safe.tables j) e) ∙ size)
          (ap change_in (pick_same j file table (safe.tables j) e) ∙ change)
          (joined_same shape.blocks (with_bytes content file bytes j) (piece_of bytes) (λ b below. pick_same j file (piece_of bytes b) (content j b) e)
          ∙ pieces_whole shape.blocks bytes len ∙ all)
          ∙ sym (pick_file j no_file (target j) (omega arith))
      | inr ne ↦
          ap recovered (pick_other j file new (f j) ne)
          ∙ (elim (cases_eq j 0) [
            | inl e ↦ ap recovered (pick_same j 0 no_file (live j) e) ∙ sym (pick_same j 0 no_file (target j) e)
            | inr nz ↦
                ap recovered (pick_other j 0 no_file (live j) nz)
                ∙ ap (λ (l : List ℕ). opened_file (safe.tables j) l)
                (content_joined shape safe.tables content image j (omega arith) (omega arith) has
                ∙ joined_same shape.blocks (content j) (with_bytes content file bytes j) (λ b below. sym (pick_other j file (piece_of bytes b) (content j b) ne)))
                ∙ ap (λ (t : List ℕ). opened_file t (joined shape.blocks (with_bytes content file bytes j))) (sym (pick_other j file table (safe.tables j) ne))
                ∙ sym (pick_other j 0 no_file (target j) nz)
          ])
    ]))
