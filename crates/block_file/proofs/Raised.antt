-- A volume that is opened: its boot number is raised, and all else stays.
use Rattle.std.proofs.Common.{◌≡◌, ℕ, ◌+◌, ◌-◌, ◌*◌, ◌%◌, ◌<◌, ◌≤◌, ◌^◌, ◌==◌, if◌then◌else◌, false, None, List, length, take, drop, replicate, inl, inr, ◌⊎◌, refl, sym, ◌∙◌, ap, subst, arith, mul_assoc}
use Rattle.std.proofs.lemmas.Bool.{cases_eq}
use Rattle.copy_model.specs.Volume.{File, Volume, no_file, bytes_at}
use Rattle.disk_model.specs.Disk.{Image, DiskState, MayLeave, IsSettled}
use Rattle.disk_model.specs.declared.fuse.Fuse.{Fuse}
use Rattle.disk_model.specs.Elapsed.{Timeline, present, contents}
use Rattle.disk_model.specs.Passes.{Passes, passes_on, passes_only}
use Rattle.block_file.specs.declared.shape.Shape.{Shape}
use Rattle.block_file.specs.Layout.{head_files, head_blocks, head_tag, cell_at, blocks_of, boot_in, size_in, change_in, table_of}
use Rattle.block_file.specs.Lists.{numbered, joined}
use Rattle.block_file.specs.Stored.{blocks_by, opened_file, opened_by, reopened, tag_of, home_of, IsClean}
use Rattle.block_file.specs.Blocks.{Safe, place_of, HasContent, Stands, Holds, with_table}
use Rattle.block_file.specs.Held.{Held, held_by}
use Rattle.block_file.specs.Opened.{HeadIs, Reopens, CanBeOpened, LeftByOpening, IsFresh, IsOpen, AreNewest, held_of, volume_of, volume_at, live_file}
use Rattle.block_file.specs.Loaded.{AreCells, IsLoaded}
use Rattle.block_file.proofs.Numbered.{numbered_same}
use Rattle.block_file.proofs.Standing.{pick_same, pick_other, stands_holds}
use Rattle.block_file.proofs.Filed.{content_joined, opened_is, clean_is, sound_is}
use Rattle.block_file.proofs.Openings.{content_of, safe_of, open_from, files_len}
use Rattle.block_file.proofs.Newest.{bytes_at-front}
use Rattle.block_file.proofs.Spans.{joined_len}

-- a disk on which nothing is open stands as its cells are read
pub settled_stands : (shape : Shape) (homes : ℕ → ℕ) (tables : ℕ → List ℕ) (s : DiskState) → IsSettled s → AreCells shape.files homes tables s.reads
    → Stands shape (safe_of homes tables s.reads) s
settled_stands shape homes tables s settled cells = record {
  head_kept = settled 0;
  head = refl;
  cells = λ j le. record {
    gate_kept = settled (cell_at j);
    home_kept = settled (cell_at j + 1 + homes j);
    gate = sym (cells.homes_are j le);
  };
  tables = λ j le. ap (λ (h : ℕ). s.reads (cell_at j + 1 + h)) (cells.homes_are j le) ∙ sym (cells.tables_are j le);
  kept = λ j b at. settled (place_of shape (tables j) j b);
}

-- its files have no byte past their safe sizes, where the image is clean
pub clean_cells : (size : ℕ) (shape : Shape) (tag : ℕ) (homes : ℕ → ℕ) (tables : ℕ → List ℕ) (image : Image) → IsClean image
    → HeadIs size shape tag (image 0) → AreCells shape.files homes tables image
    → (j : ℕ) → 1 ≤ j → j ≤ shape.files
    → drop (size_in (tables j)) (blocks_by shape.files shape.blocks (tables j) image j) ≡ replicate (shape.blocks * 4096 - size_in (tables j)) 0
unfolding IsClean
clean_cells size shape tag homes tables image clean head cells j some there =
    let within : j ≤ head_files (image 0) = let e = head.files in omega (arith, e, there) in
    let is = clean j some within in
    let by : ℕ → ℕ → List ℕ → Type 0 = λ f b t.
    drop (size_in t) (blocks_by f b t image j) ≡ replicate (b * 4096 - size_in t) 0 in
    subst (by shape.files shape.blocks) (sym (cells.tables_are j there))
    (subst (λ (b : ℕ). by shape.files b (table_of image j)) head.blocks
    (subst (λ (f : ℕ). by f (head_blocks (image 0)) (table_of image j)) head.files is))

-- the volume with the next boot number
files_as : (n : ℕ) (f g : ℕ → File) → ((j : ℕ) → 1 ≤ j → j ≤ n → f j ≡ g j)
    → numbered (n + 1) (λ j. if j == 0 then no_file else f j) ≡ numbered (n + 1) (λ j. if j == 0 then no_file else g j)
files_as n f g same =
    numbered_same (n + 1) (λ j. if j == 0 then no_file else f j) (λ j. if j == 0 then no_file else g j)
    (λ j lt. elim (cases_eq j 0) [
      | inl e ↦ pick_same j 0 no_file (f j) e ∙ sym (pick_same j 0 no_file (g j) e)
      | inr ne ↦ pick_other j 0 no_file (f j) ne ∙ same j (omega arith) (omega arith) ∙ sym (pick_other j 0 no_file (g j) ne)
    ])

boot_more : (boot more : ℕ) → boot + more + 1 ≡ boot + 1 + more
boot_more boot more = omega arith

-- What is on a disk that was just read: its cells and blocks, and an image that holds the same but for the
-- boot cell.
module _ (told : Type 0) (size : ℕ) (shape : Shape) (tag boot : ℕ) (homes : ℕ → ℕ) (tables : ℕ → List ℕ) (base : Image)
    (loaded : IsLoaded told size shape tag boot homes tables base) (t : told) (clean : IsClean base)
    (holds : Holds shape (safe_of homes tables base) (content_of shape tables base) base) where
  -- the volume in it
  pub base_is : reopened base ≡ opened_by shape.files shape.blocks boot tables (λ j. joined shape.blocks (content_of shape tables base j))
  base_is = opened_is shape (safe_of homes tables base) (content_of shape tables base) base holds boot (loaded.head t).files (loaded.head t).blocks loaded.boot_is

  module _ (more : ℕ) (later : Safe) (image : Image) (head : later.head ≡ base 0)
      (homes_are : (j : ℕ) → 1 ≤ j → j ≤ shape.files → later.homes j ≡ homes j)
      (tables_are : (j : ℕ) → 1 ≤ j → j ≤ shape.files → later.tables j ≡ tables j)
      (boot_is : boot_in (later.tables 0) ≡ boot + more)
      (has : Holds shape later (content_of shape tables base) image) where
    head_is : HeadIs size shape tag later.head
    head_is = subst (λ (l : List ℕ). HeadIs size shape tag l) (sym head) (loaded.head t)

    pub reopens : Reopens size more base image
    unfolding tag_of home_of
    reopens =
        let content = content_of shape tables base in
        let bytes : ℕ → List ℕ = λ j. joined shape.blocks (content j) in
        let of : ℕ → List File → Volume = λ n l. record {
          files = l;
          capacity = shape.blocks * 4096;
          boot = n;
          writes = 0;
          broken = false;
          doubt = None;
        } in
        let files : (ℕ → List ℕ) → List File = λ ts. numbered (shape.files + 1) (λ j. if j == 0 then no_file else opened_file (ts j) (bytes j)) in
        let same : files later.tables ≡ files tables =
        files_as shape.files (λ j. opened_file (later.tables j) (bytes j)) (λ j. opened_file (tables j) (bytes j))
        (λ j some there. ap (λ (l : List ℕ). opened_file l (bytes j)) (tables_are j some there)) in
        let f : head_files (base 0) ≡ shape.files = (loaded.head t).files in
        record {
          opened =
              opened_is shape later content image has (boot + more) head_is.files head_is.blocks boot_is
              ∙ ap (λ (l : List File). of (boot + more + 1) l) same
              ∙ ap (λ (n : ℕ). of n (files tables)) (boot_more boot more)
              ∙ sym (ap (λ (v : Volume). record v { boot = v.boot + more }) base_is);
          tag_is = ap head_tag (has.head ∙ head);
          homes_are = λ j some there.
              let within : j ≤ shape.files = omega (arith, f, there) in
              has.gates j within ∙ homes_are j some within ∙ sym (holds.gates j within);
          clean =
              clean_is shape later content image has head_is.files head_is.blocks
              (λ j some there.
              let is = clean_cells size shape tag homes tables base clean (loaded.head t) (loaded.cells t) j some there in
              ap (λ (l : List ℕ). drop (size_in l) (bytes j)) (tables_are j some there) ∙ is
              ∙ sym (ap (λ (l : List ℕ). replicate (shape.blocks * 4096 - size_in l) 0) (tables_are j some there)));
          sound = λ lt.
              let number : (reopened base).boot ≡ boot + 1 = ap (λ (v : Volume). v.boot) base_is in
              sound_is size shape tag later content image has head_is loaded.room (boot + more) boot_is
              (λ j some there. subst (λ (l : List ℕ). size_in l ≤ shape.blocks * 4096) (sym (tables_are j some there)) (loaded.sizes j some there))
              (omega (arith, number, lt));
        }

-- once the boot cell is put
abbrev pub raised : (ℕ → ℕ) → (ℕ → List ℕ) → Image → List ℕ → Safe
raised homes tables base table = with_table (safe_of homes tables base) 0 table

module _ (told : Type 0) (size : ℕ) (shape : Shape) (tag boot : ℕ) (homes : ℕ → ℕ) (tables : ℕ → List ℕ) (base : Image)
    (loaded : IsLoaded told size shape tag boot homes tables base) (table : List ℕ) (boot_is : boot_in table ≡ boot + 1) (s : DiskState)
    (stands : told → Stands shape (raised homes tables base table) s)
    (has : told → HasContent shape (raised homes tables base table).tables (content_of shape tables base) s.reads) where
  kept_table : (j : ℕ) → 1 ≤ j → (raised homes tables base table).tables j ≡ tables j
  kept_table j some = pick_other j 0 table (tables j) (omega arith)

  pub open_raised : (held : ℕ → Held) → (told → IsClean base)
      → IsOpen told size s shape tag (boot + 1) 0 false 0 (raised homes tables base table).homes held (raised homes tables base table).tables
  open_raised held clean =
      let after = raised homes tables base table in
      open_from told size s shape tag (boot + 1) 0 false 0 after.homes held after.tables loaded.room
      (λ j high. elim (cases_eq j 0) [
        | inl e ↦ let is : after.homes j ≡ 1 - homes j = pick_same j 0 (1 - homes j) (homes j) e in omega (arith, is)
        | inr ne ↦
            let is : after.homes j ≡ homes j = pick_other j 0 (1 - homes j) (homes j) ne in
            let two = loaded.two j high in
            omega (arith, is, two)
      ])
      boot_is
      (λ j some there. subst (λ (l : List ℕ). size_in l ≤ shape.blocks * 4096) (sym (kept_table j some)) (loaded.sizes j some there))
      refl
      (λ t. subst (λ (l : List ℕ). HeadIs size shape tag l) (sym (stands t).head) (loaded.head t))
      (λ t j some there.
      let is = clean_cells size shape tag homes tables base (clean t) (loaded.head t) (loaded.cells t) j some there in
      ap (λ (l : List ℕ). drop (size_in (after.tables j)) l)
      (content_joined shape after.tables (content_of shape tables base) s.reads j some there (has t))
      ∙ ap (λ (l : List ℕ). drop (size_in l) (joined shape.blocks (content_of shape tables base j))) (kept_table j some) ∙ is
      ∙ sym (ap (λ (l : List ℕ). replicate (shape.blocks * 4096 - size_in l) 0) (kept_table j some)))
      (λ t. record {
        head_kept = (stands t).head_kept;
        head = refl;
        cells = (stands t).cells;
        tables = (stands t).tables;
        kept = (stands t).kept;
      })

  -- the newest tables are the safe ones, so a file is as it was safe
  module _ (newest : ℕ → List ℕ) (same : (j : ℕ) → 1 ≤ j → j ≤ shape.files → newest j ≡ tables j) where
    pub files_raised : (told → IsClean base) → AreNewest told shape newest s.reads
    files_raised clean = record {
      sizes = λ j some there. subst (λ (l : List ℕ). size_in l ≤ shape.blocks * 4096) (sym (same j some there)) (loaded.sizes j some there);
      clean = λ t j some there.
          let after = raised homes tables base table in
          let by : List ℕ → Type 0 = λ l. drop (size_in l) (blocks_by shape.files shape.blocks l s.reads j) ≡ replicate (shape.blocks * 4096 - size_in l) 0 in
          let is = clean_cells size shape tag homes tables base (clean t) (loaded.head t) (loaded.cells t) j some there in
          subst by (kept_table j some ∙ sym (same j some there))
          (ap (λ (l : List ℕ). drop (size_in (after.tables j)) l)
          (content_joined shape after.tables (content_of shape tables base) s.reads j some there (has t))
          ∙ ap (λ (l : List ℕ). drop (size_in l) (joined shape.blocks (content_of shape tables base j))) (kept_table j some) ∙ is
          ∙ sym (ap (λ (l : List ℕ). replicate (shape.blocks * 4096 - size_in l) 0) (kept_table j some)));
    }

    pub volume_raised : told → Holds shape (safe_of homes tables base) (content_of shape tables base) base → IsClean base
        → volume_at shape (boot + 1) 0 false 0 newest (raised homes tables base table).tables s.reads ≡ reopened base
    volume_raised t holds clean =
        let after = raised homes tables base table in
        let bytes : ℕ → List ℕ = λ j. joined shape.blocks (content_of shape tables base j) in
        let held : ℕ → Held = held_of shape newest s.reads in
        let of : List File → Volume = λ l. record {
          files = l;
          capacity = shape.blocks * 4096;
          boot = boot + 1;
          writes = 0;
          broken = false;
          doubt = None;
        } in
        ap of (files_as shape.files (λ j. live_file (held j) (after.tables j) (blocks_by shape.files shape.blocks (after.tables j) s.reads j))
        (λ j. opened_file (tables j) (bytes j))
        (λ j some there.
        let joined_is = content_joined shape after.tables (content_of shape tables base) s.reads j some there (has t) in
        let here : blocks_by shape.files shape.blocks (tables j) s.reads j ≡ bytes j =
        sym (ap (λ (l : List ℕ). blocks_by shape.files shape.blocks l s.reads j) (kept_table j some)) ∙ joined_is in
        let len : length (bytes j) ≡ shape.blocks * 4096 =
        joined_len shape.blocks (content_of shape tables base j) (λ b lt. loaded.whole t (place_of shape (tables j) j b)) in
        ap (λ (l : List ℕ). live_file (held j) (after.tables j) l) joined_is
        ∙ ap (λ (l : List ℕ). live_file (held j) l (bytes j)) (kept_table j some)
        ∙ ap (λ (l : List ℕ). live_file (held_by shape l s.reads j) (tables j) (bytes j)) (same j some there)
        ∙ ap (λ (l : List ℕ). record { now = bytes_at l 0 (size_in (tables j)); safe = take (size_in (tables j)) (bytes j); change = change_in (tables j); safe_change = change_in (tables j) }) here
        ∙ ap (λ (l : List ℕ). record { now = l; safe = take (size_in (tables j)) (bytes j); change = change_in (tables j); safe_change = change_in (tables j) })
        (bytes_at-front (bytes j) (size_in (tables j)) (subst (λ (n : ℕ). size_in (tables j) ≤ n) (sym len) (loaded.sizes j some there)))))
        ∙ sym (base_is told size shape tag boot homes tables base loaded t clean holds)

-- the blocks are where the tables name them, and the root has none
pub has_raised : (shape : Shape) (homes : ℕ → ℕ) (tables : ℕ → List ℕ) (base : Image) (table : List ℕ)
    → HasContent shape (raised homes tables base table).tables (content_of shape tables base) base
has_raised shape homes tables base table = λ j b at.
    ap (λ (t : List ℕ). base (place_of shape t j b)) (pick_other j 0 table (tables j) (let some = at.some in omega arith))

-- a settled disk holds what is read of it
pub settled_holds : (shape : Shape) (homes : ℕ → ℕ) (tables : ℕ → List ℕ) (s : DiskState) → IsSettled s → AreCells shape.files homes tables s.reads
    → Holds shape (safe_of homes tables s.reads) (content_of shape tables s.reads) s.reads
settled_holds shape homes tables s settled cells =
    stands_holds shape (safe_of homes tables s.reads) (content_of shape tables s.reads) s (settled_stands shape homes tables s settled cells)
    (λ j b at. refl) s.reads (λ b closed. refl)

no_more : (boot : ℕ) → boot ≡ boot + 0
no_more boot = omega arith

-- what a crash while the boot cell is put may leave
pub raise_passes : (told : Type 0) (size : ℕ) (shape : Shape) (tag boot : ℕ) (homes : ℕ → ℕ) (tables : ℕ → List ℕ) (base : Image)
    → IsLoaded told size shape tag boot homes tables base → told → IsClean base
    → Holds shape (safe_of homes tables base) (content_of shape tables base) base → (table : List ℕ) → boot_in table ≡ boot + 1
    → (f g : Fuse) (old new : Timeline)
    → Passes f g old new (λ image. Holds shape (safe_of homes tables base) (content_of shape tables base) image
    ⊎ Holds shape (raised homes tables base table) (content_of shape tables base) image)
    → Passes f g old new (λ image. Reopens size 0 base image ⊎ Reopens size 1 base image)
raise_passes told size shape tag boot homes tables base loaded t clean holds table boot_is f g old new passes =
    passes_only (λ image. Holds shape (safe_of homes tables base) (content_of shape tables base) image
    ⊎ Holds shape (raised homes tables base table) (content_of shape tables base) image)
    (λ image. Reopens size 0 base image ⊎ Reopens size 1 base image) f g old new
    (λ image is. elim is [
      | inl same ↦
          inl (reopens told size shape tag boot homes tables base loaded t clean holds 0 (safe_of homes tables base) image refl
          (λ j some there. refl) (λ j some there. refl) (loaded.boot_is ∙ no_more boot) same)
      | inr next ↦
          inr (reopens told size shape tag boot homes tables base loaded t clean holds 1 (raised homes tables base table) image refl
          (λ j some there. pick_other j 0 (1 - homes j) (homes j) (omega arith))
          (λ j some there. pick_other j 0 table (tables j) (omega arith)) boot_is next)
    ])
    passes

-- what a crash may leave while a volume is read and then raised
pub reading_passes : (size : ℕ) (f g : Fuse) (old new : Timeline) → Passes f g old new (MayLeave (present old))
    → Passes f g old new (LeftByOpening size (present old))
reading_passes size f g old new passes =
    passes_only (MayLeave (present old)) (LeftByOpening size (present old)) f g old new (λ image left. inl left) passes

pub opening_passes : (size later : ℕ) (f g h : Fuse) (old middle new : Timeline) → later ≡ size → contents middle ≡ contents old
    → Passes f g old middle (MayLeave (present old))
    → Passes g h middle new (λ image. Reopens later 0 (contents middle) image ⊎ Reopens later 1 (contents middle) image)
    → Passes f h old new (LeftByOpening size (present old))
opening_passes size later f g h old middle new e same first second =
    passes_on (LeftByOpening size (present old)) f g h old middle new (reading_passes size f g old middle first)
    (passes_only (λ image. Reopens later 0 (contents middle) image ⊎ Reopens later 1 (contents middle) image) (LeftByOpening size (present old)) g h middle new
    (λ image is.
    let both : ℕ → Image → Type 0 = λ n base. Reopens n 0 base image ⊎ Reopens n 1 base image in
    inr (subst (both size) same (subst (λ (n : ℕ). both n (contents middle)) e is)))
    second)

-- what was read, where the disk is told to read the same
pub loaded_same : (told : Type 0) (size later : ℕ) (shape : Shape) (tag boot : ℕ) (homes : ℕ → ℕ) (tables : ℕ → List ℕ) (base other : Image)
    → size ≡ later → (told → base ≡ other) → IsLoaded told size shape tag boot homes tables base
    → IsLoaded told later shape tag boot homes tables other
loaded_same told size later shape tag boot homes tables base other e same loaded = record {
  room = subst (λ (n : ℕ). blocks_of shape.files shape.blocks ≤ n) e loaded.room;
  two = loaded.two;
  boot_is = loaded.boot_is;
  next = loaded.next;
  sizes = loaded.sizes;
  whole = λ t. subst (λ (i : Image). (b : ℕ) → length (i b) ≡ 4096) (same t) (loaded.whole t);
  head = λ t. subst (λ (n : ℕ). HeadIs n shape tag (other 0)) e (subst (λ (i : Image). HeadIs size shape tag (i 0)) (same t) (loaded.head t));
  cells = λ t. subst (λ (i : Image). AreCells shape.files homes tables i) (same t) (loaded.cells t);
}

-- a disk on which an opening has failed may be opened again
pub can_be_opened : (size later : ℕ) (f g : Fuse) (old new : Timeline) → later ≡ size
    → ((image : Image) → MayLeave (present old) image → CanBeOpened size image) → Passes f g old new (LeftByOpening size (present old))
    → (image : Image) → MayLeave (present new) image → CanBeOpened later image
can_be_opened size later f g old new e could passes image left =
    subst (λ (n : ℕ). CanBeOpened n image) (sym e)
    (elim (passes.each new.latest passes.time.later (omega arith) image left) [
      | inl before ↦ could image before
      | inr is ↦ elim is [ inl same ↦ inl same.clean | inr next ↦ inl next.clean ]
    ])

whole_capacity : (n : ℕ) → (n * 4096) % 4096 ≡ 0
whole_capacity n = omega arith

-- the room of all files, in bytes
few_bytes : (files blocks : ℕ) → files * blocks ≤ 16384 → files * (blocks * 4096) ≤ 2 ^ 26
few_bytes files blocks few =
    let e : files * (blocks * 4096) ≡ files * blocks * 4096 = sym (mul_assoc files blocks 4096) in
    omega (arith, e, few)

pub fresh_is : (shape : Shape) (boot : ℕ) (held : ℕ → Held) (tables : ℕ → List ℕ) (image : Image) → 1 ≤ boot → boot < 2 ^ 32
    → IsFresh (volume_of shape boot 0 false 0 held tables image)
fresh_is shape boot held tables image low high =
    let len = files_len shape boot 0 false 0 held tables image in
    let some = shape.some_files in
    let few = shape.few_files in
    let any = shape.some_blocks in
    let back : length (volume_of shape boot 0 false 0 held tables image).files - 1 ≡ shape.files = omega (arith, len) in
    record {
      whole = refl;
      certain = refl;
      unwritten = refl;
      boot_raised = low;
      boot_fits = high;
      some_files = omega (arith, len, some);
      few_files = omega (arith, len, few);
      some_blocks = omega (arith, any);
      whole_blocks = whole_capacity shape.blocks;
      few_blocks = subst (λ (n : ℕ). n * (shape.blocks * 4096) ≤ 2 ^ 26) (sym back) (few_bytes shape.files shape.blocks shape.room);
    }
