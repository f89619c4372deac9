-- An open volume over its calls.
use Rattle.std.proofs.Common.{◌≡◌, ◌≢◌, ℕ, ◌+◌, ◌-◌, ◌*◌, ◌<◌, ◌≤◌, ◌==◌, if◌then◌else◌, nat_lt, Bool, true, false, Option, None, Some, List, [], ◌∷◌, ◌++◌, ◌⊎◌, length, get_or, set, take, drop, replicate, inl, inr, refl, sym, ◌∙◌, ap, subst, arith}
use Rattle.std.proofs.lemmas.Bool.{cases_eq, cases_lt, lt-ltb, le-ltb, eq-eqb}
use Rattle.block_file.specs.declared.faults.WriteFault.TheVariants.{TooFar, Worn, DiskFailed}
use Rattle.std.proofs.Math.Seq.{take-append_seam, drop-append_seam}
use Rattle.copy_model.specs.Volume.{File, Volume, Doubt, Old, New, no_file, file_at, committed, commit, fail_commit, written, write, change_of, with_bytes_at}
use Rattle.disk_model.specs.Disk.{Image, DiskState, MayLeave}
use Rattle.block_file.specs.declared.shape.Shape.{Shape}
use Rattle.block_file.specs.Layout.{blocks_of, boot_in, size_in, change_in}
use Rattle.block_file.specs.Lists.{numbered, joined}
use Rattle.block_file.specs.Stored.{blocks_by}
use Rattle.block_file.specs.Blocks.{Safe, place_of, HasContent, Stands, Holds, with_table, piece_of, with_bytes}
use Rattle.block_file.specs.Held.{Held}
use Rattle.block_file.specs.Opened.{left_home, Leaves, MayBeLeft, live_file, doubt_of, volume_of, HeadIs, IsOpen, SameOpening, refusal_of}
use Rattle.block_file.proofs.Numbered.{numbered_same, get-numbered, set_of, set_by, length-numbered, joined_same, pieces_whole}
use Rattle.block_file.proofs.Standing.{pick_same, pick_other, stands_holds}
use Rattle.block_file.proofs.Filed.{content_joined, holds_leaves, crash_old, crash_new}

-- the blocks in force, as an image has them
abbrev pub content_of : Shape → (ℕ → List ℕ) → Image → ℕ → ℕ → List ℕ
content_of shape tables image j b = image (place_of shape (tables j) j b)

abbrev pub safe_of : (ℕ → ℕ) → (ℕ → List ℕ) → Image → Safe
safe_of homes tables image = record { head = image 0; homes = homes; tables = tables }

-- the files of a shape have no byte past their safe sizes
abbrev Clean : Shape → (ℕ → List ℕ) → (ℕ → List ℕ) → Type 0
Clean shape tables bytes =
    (j : ℕ) → 1 ≤ j → j ≤ shape.files → drop (size_in (tables j)) (bytes j) ≡ replicate (shape.blocks * 4096 - size_in (tables j)) 0

left_old : (homes : ℕ → ℕ) (none : Bool) (doubt : Doubt) (j : ℕ) → homes j ≡ left_home homes (if none then None else Some doubt) Old j
left_old homes true doubt j = refl
left_old homes false doubt j = refl

left_new : (homes : ℕ → ℕ) (file : ℕ) (held : ℕ → Held) (j : ℕ) → 1 ≤ file
    → (if j == file then 1 - homes j else homes j) ≡ left_home homes (doubt_of file held) New j
left_new homes file held j some =
    let doubt : Doubt = record { file = file; bytes = (held file).now; change = (held file).change } in
    ap (λ (o : Option Doubt). left_home homes o New j) (sym (pick_other file 0 None (Some doubt) (omega arith)))

-- an image that holds what is safe of an open volume
pub leaves_old : (size : ℕ) (shape : Shape) (tag boot writes : ℕ) (broken : Bool) (doubt : ℕ) (homes : ℕ → ℕ) (held : ℕ → Held) (tables : ℕ → List ℕ) (base image : Image)
    → HeadIs size shape tag (base 0) → blocks_of shape.files shape.blocks ≤ size → boot_in (tables 0) ≡ boot
    → ((j : ℕ) → 1 ≤ j → j ≤ shape.files → size_in (tables j) ≤ shape.blocks * 4096)
    → Clean shape tables (λ j. blocks_by shape.files shape.blocks (tables j) base j)
    → Holds shape (safe_of homes tables base) (content_of shape tables base) image
    → Leaves size tag homes (volume_of shape boot writes broken doubt held tables base) Old image
leaves_old size shape tag boot writes broken doubt homes held tables base image head room is sizes clean holds =
    holds_leaves size shape tag boot (safe_of homes tables base) (content_of shape tables base) homes
    (volume_of shape boot writes broken doubt held tables base) Old image holds head room is sizes clean refl
    (λ j some there. left_old homes (doubt == 0) (record { file = doubt; bytes = (held doubt).now; change = (held doubt).change }) j)
    (crash_old shape boot writes broken doubt held tables base)

-- an open volume that isn't broken, of what holds of its parts
pub open_from : (told : Type 0) (size : ℕ) (s : DiskState) (shape : Shape) (tag boot writes : ℕ) (broken : Bool) (doubt : ℕ) (homes : ℕ → ℕ) (held : ℕ → Held) (tables : ℕ → List ℕ)
    → blocks_of shape.files shape.blocks ≤ size → ((j : ℕ) → j ≤ shape.files → homes j ≤ 1) → boot_in (tables 0) ≡ boot
    → ((j : ℕ) → 1 ≤ j → j ≤ shape.files → size_in (tables j) ≤ shape.blocks * 4096)
    → doubt ≡ 0
    → (told → HeadIs size shape tag (s.reads 0))
    → (told → Clean shape tables (λ j. blocks_by shape.files shape.blocks (tables j) s.reads j))
    → (told → Stands shape (safe_of homes tables s.reads) s)
    → IsOpen told size s shape tag boot writes broken doubt homes held tables
open_from told size s shape tag boot writes broken doubt homes held tables room two is sizes none head clean stands =
    record {
      room = room;
      two = two;
      boot_is = is;
      sizes = sizes;
      certain = λ _. none;
      head = head;
      clean = clean;
      stands = λ t _. stands t;
      left = λ t image left. (
        Old,
        leaves_old size shape tag boot writes broken doubt homes held tables s.reads image (head t) room is sizes (clean t)
            (stands_holds shape (safe_of homes tables s.reads) (content_of shape tables s.reads) s (stands t) (λ j b at. refl) image left),
      );
    }

-- a volume whose safe blocks are elsewhere what they were
pub still_open : (told : Type 0) (size : ℕ) (s later : DiskState) (shape : Shape) (tag boot writes number : ℕ) (broken : Bool) (doubt : ℕ) (homes : ℕ → ℕ) (held now : ℕ → Held) (tables : ℕ → List ℕ)
    → IsOpen told size s shape tag boot writes broken doubt homes held tables → broken ≡ false
    → (told → Stands shape (safe_of homes tables s.reads) later)
    → (told → HasContent shape tables (content_of shape tables s.reads) later.reads)
    → IsOpen told size later shape tag boot number broken doubt homes now tables
still_open told size s later shape tag boot writes number broken doubt homes held now tables opened whole stands has =
    open_from told size later shape tag boot number broken doubt homes now tables opened.room opened.two opened.boot_is opened.sizes
    (opened.certain whole)
    (λ t. subst (λ (l : List ℕ). HeadIs size shape tag l) (sym (stands t).head) (opened.head t))
    (λ t j some there.
    ap (λ (l : List ℕ). drop (size_in (tables j)) l) (content_joined shape tables (content_of shape tables s.reads) later.reads j some there (has t))
    ∙ opened.clean t j some there)
    (λ t. record {
      head_kept = (stands t).head_kept;
      head = refl;
      cells = (stands t).cells;
      tables = (stands t).tables;
      kept = (stands t).kept;
    })

-- a volume that a failed write has broken
pub open_broken : (told : Type 0) (size : ℕ) (s : DiskState) (shape : Shape) (tag boot writes : ℕ) (broken : Bool) (doubt : ℕ) (homes : ℕ → ℕ) (held : ℕ → Held) (tables : ℕ → List ℕ)
    → IsOpen told size s shape tag boot writes broken doubt homes held tables → broken ≡ false
    → IsOpen told size s shape tag boot writes true doubt homes held tables
open_broken told size s shape tag boot writes broken doubt homes held tables opened whole = record {
  room = opened.room;
  two = opened.two;
  boot_is = opened.boot_is;
  sizes = opened.sizes;
  certain = λ (no : true ≡ false). absurd (cc);
  head = opened.head;
  clean = opened.clean;
  stands = λ t (no : true ≡ false). absurd (cc);
  left = λ t image may. (
    Old,
    leaves_old size shape tag boot writes true doubt homes held tables s.reads image (opened.head t) opened.room opened.boot_is opened.sizes (opened.clean t)
        (stands_holds shape (safe_of homes tables s.reads) (content_of shape tables s.reads) s (opened.stands t whole) (λ j b at. refl) image may),
  );
}

-- the volume of the same blocks elsewhere
pub volume_same : (shape : Shape) (boot writes : ℕ) (broken : Bool) (doubt : ℕ) (held : ℕ → Held) (tables : ℕ → List ℕ) (old new : Image)
    → HasContent shape tables (content_of shape tables old) new
    → volume_of shape boot writes broken doubt held tables new ≡ volume_of shape boot writes broken doubt held tables old
volume_same shape boot writes broken doubt held tables old new has =
    let of : List File → Volume = λ l. record {
      files = l;
      capacity = shape.blocks * 4096;
      boot = boot;
      writes = writes;
      broken = broken;
      doubt = doubt_of doubt held;
    } in
    let file : Image → ℕ → File = λ image j. live_file (held j) (tables j) (blocks_by shape.files shape.blocks (tables j) image j) in
    ap of (numbered_same (shape.files + 1) (λ j. if j == 0 then no_file else file new j) (λ j. if j == 0 then no_file else file old j)
    (λ j lt. elim (cases_eq j 0) [
      | inl e ↦ pick_same j 0 no_file (file new j) e ∙ sym (pick_same j 0 no_file (file old j) e)
      | inr ne ↦ pick_other j 0 no_file (file new j) ne
          ∙ ap (λ (l : List ℕ). live_file (held j) (tables j) l) (content_joined shape tables (content_of shape tables old) new j (omega arith) (omega arith) has)
          ∙ sym (pick_other j 0 no_file (file old j) ne)
    ]))

-- a commit that failed, as the promise has it
pub fail_commit_is : (shape : Shape) (boot writes : ℕ) (broken : Bool) (none file : ℕ) (held : ℕ → Held) (tables : ℕ → List ℕ) (image : Image)
    → 1 ≤ file → file ≤ shape.files
    → volume_of shape boot writes true file held tables image ≡ fail_commit (volume_of shape boot writes broken none held tables image) file
fail_commit_is shape boot writes broken none file held tables image some there =
    let live : ℕ → File = λ j. live_file (held j) (tables j) (blocks_by shape.files shape.blocks (tables j) image j) in
    let f : ℕ → File = λ j. if j == 0 then no_file else live j in
    let of : Option Doubt → Volume = λ o. record {
      files = numbered (shape.files + 1) f;
      capacity = shape.blocks * 4096;
      boot = boot;
      writes = writes;
      broken = true;
      doubt = o;
    } in
    ap of (pick_other file 0 None (Some (record { file = file; bytes = (held file).now; change = (held file).change })) (omega arith))
    ∙ ap (λ (x : File). of (Some (record { file = file; bytes = x.now; change = x.change })))
    (sym (get-numbered (shape.files + 1) f file no_file (omega arith) ∙ pick_other file 0 no_file (live file) (omega arith)))

-- a file whose bytes are all safe under a table
committed_file : (held : Held) (old table was bytes : List ℕ) (room : ℕ) → size_in table ≡ length held.now → change_in table ≡ held.change
    → bytes ≡ held.now ++ replicate room 0 → live_file held table bytes ≡ committed (live_file held old was)
committed_file held old table was bytes room size change all =
    let safe : take (size_in table) bytes ≡ held.now =
    ap (λ (n : ℕ). take n bytes) size ∙ ap (λ (l : List ℕ). take (length held.now) l) all ∙ take-append_seam held.now (replicate room 0) in
    ap (λ (l : List ℕ). record { now = held.now; safe = l; change = held.change; safe_change = change_in table }) safe
    ∙ ap (λ (n : ℕ). record { now = held.now; safe = held.now; change = held.change; safe_change = n }) change

-- A commit of all bytes of a file under a new table, from the state s to a state that has these.
module _ (told : Type 0) (size : ℕ) (s : DiskState) (shape : Shape) (tag boot writes : ℕ) (broken : Bool) (doubt : ℕ) (homes : ℕ → ℕ) (held : ℕ → Held) (tables : ℕ → List ℕ)
    (opened : IsOpen told size s shape tag boot writes broken doubt homes held tables) (whole : broken ≡ false)
    (file : ℕ) (table bytes : List ℕ) (some : 1 ≤ file) (there : file ≤ shape.files)
    (size_is : size_in table ≡ length (held file).now) (change_is : change_in table ≡ (held file).change)
    (fits : length (held file).now ≤ shape.blocks * 4096)
    (padded : told → bytes ≡ (held file).now ++ replicate (shape.blocks * 4096 - length (held file).now) 0)
    (len : told → length bytes ≡ shape.blocks * 4096) where
  blocks_now : told → (j : ℕ) → j ≡ file → joined shape.blocks (with_bytes (content_of shape tables s.reads) file bytes j) ≡ bytes
  blocks_now t j e =
      joined_same shape.blocks (with_bytes (content_of shape tables s.reads) file bytes j) (piece_of bytes)
      (λ b lt. pick_same j file (piece_of bytes b) (content_of shape tables s.reads j b) e)
      ∙ pieces_whole shape.blocks bytes (len t)

  blocks_kept : (j : ℕ) → j ≢ file
      → joined shape.blocks (with_bytes (content_of shape tables s.reads) file bytes j) ≡ blocks_by shape.files shape.blocks (tables j) s.reads j
  blocks_kept j ne =
      joined_same shape.blocks (with_bytes (content_of shape tables s.reads) file bytes j) (content_of shape tables s.reads j)
      (λ b lt. pick_other j file (piece_of bytes b) (content_of shape tables s.reads j b) ne)

  sizes_later : (j : ℕ) → 1 ≤ j → j ≤ shape.files → size_in ((with_table (safe_of homes tables s.reads) file table).tables j) ≤ shape.blocks * 4096
  sizes_later j low high = elim (cases_eq j file) [
    | inl e ↦
        let is : size_in (if j == file then table else tables j) ≡ length (held file).now = ap size_in (pick_same j file table (tables j) e) ∙ size_is in
        omega (arith, is, fits)
    | inr ne ↦
        let is : size_in (if j == file then table else tables j) ≡ size_in (tables j) = ap size_in (pick_other j file table (tables j) ne) in
        let small = opened.sizes j low high in
        omega (arith, is, small)
  ]

  boot_later : boot_in ((with_table (safe_of homes tables s.reads) file table).tables 0) ≡ boot
  boot_later = ap boot_in (pick_other 0 file table (tables 0) (omega arith)) ∙ opened.boot_is

  clean_later : told → Clean shape (with_table (safe_of homes tables s.reads) file table).tables
      (λ j. joined shape.blocks (with_bytes (content_of shape tables s.reads) file bytes j))
  clean_later t = λ j low high. elim (cases_eq j file) [
    | inl e ↦
        let is : size_in (if j == file then table else tables j) ≡ length (held file).now = ap size_in (pick_same j file table (tables j) e) ∙ size_is in
        ap (λ (n : ℕ). drop n (joined shape.blocks (with_bytes (content_of shape tables s.reads) file bytes j))) is
        ∙ ap (λ (l : List ℕ). drop (length (held file).now) l) (blocks_now t j e ∙ padded t)
        ∙ drop-append_seam (held file).now (replicate (shape.blocks * 4096 - length (held file).now) 0)
        ∙ sym (ap (λ (n : ℕ). replicate (shape.blocks * 4096 - n) 0) is)
    | inr ne ↦
        let is : (if j == file then table else tables j) ≡ tables j = pick_other j file table (tables j) ne in
        ap (λ (l : List ℕ). drop (size_in l) (joined shape.blocks (with_bytes (content_of shape tables s.reads) file bytes j))) is
        ∙ ap (λ (l : List ℕ). drop (size_in (tables j)) l) (blocks_kept j ne)
        ∙ opened.clean t j low high
        ∙ sym (ap (λ (l : List ℕ). replicate (shape.blocks * 4096 - size_in l) 0) is)
  ]

  -- an image that holds the new table and its blocks
  pub leaves_new : told → (image : Image)
      → Holds shape (with_table (safe_of homes tables s.reads) file table) (with_bytes (content_of shape tables s.reads) file bytes) image
      → Leaves size tag homes (volume_of shape boot writes true file held tables s.reads) New image
  leaves_new t image holds =
      holds_leaves size shape tag boot (with_table (safe_of homes tables s.reads) file table) (with_bytes (content_of shape tables s.reads) file bytes) homes
      (volume_of shape boot writes true file held tables s.reads) New image holds (opened.head t) opened.room boot_later sizes_later (clean_later t) refl
      (λ j low high. left_new homes file held j some)
      (crash_new shape boot writes held (safe_of homes tables s.reads) table bytes s.reads file some there size_is change_is (padded t) (len t)
      (content_of shape tables s.reads) (λ j b at. refl))

  pub leaves_either : told → (image : Image)
      → Holds shape (safe_of homes tables s.reads) (content_of shape tables s.reads) image
      ⊎ Holds shape (with_table (safe_of homes tables s.reads) file table) (with_bytes (content_of shape tables s.reads) file bytes) image
      → MayBeLeft size tag homes (volume_of shape boot writes true file held tables s.reads) image
  leaves_either t image is = elim is [
    | inl old ↦ (Old, leaves_old size shape tag boot writes true file homes held tables s.reads image (opened.head t) opened.room opened.boot_is opened.sizes (opened.clean t) old)
    | inr new ↦ (New, leaves_new t image new)
  ]

  -- once the commit is done
  pub open_committed : (later : DiskState) (now : ℕ → Held)
      → (told → Stands shape (with_table (safe_of homes tables s.reads) file table) later)
      → (told → HasContent shape (with_table (safe_of homes tables s.reads) file table).tables (with_bytes (content_of shape tables s.reads) file bytes) later.reads)
      → IsOpen told size later shape tag boot writes broken doubt (with_table (safe_of homes tables s.reads) file table).homes now (with_table (safe_of homes tables s.reads) file table).tables
  open_committed later now stands has =
      let after : Safe = with_table (safe_of homes tables s.reads) file table in
      open_from told size later shape tag boot writes broken doubt after.homes now after.tables opened.room
      (λ j high. elim (cases_eq j file) [
        | inl e ↦ let is : after.homes j ≡ 1 - homes j = pick_same j file (1 - homes j) (homes j) e in omega (arith, is)
        | inr ne ↦
            let is : after.homes j ≡ homes j = pick_other j file (1 - homes j) (homes j) ne in
            let two = opened.two j high in
            omega (arith, is, two)
      ])
      boot_later sizes_later (opened.certain whole)
      (λ t. subst (λ (l : List ℕ). HeadIs size shape tag l) (sym (stands t).head) (opened.head t))
      (λ t j low high.
      ap (λ (l : List ℕ). drop (size_in (after.tables j)) l)
      (content_joined shape after.tables (with_bytes (content_of shape tables s.reads) file bytes) later.reads j low high (has t))
      ∙ clean_later t j low high)
      (λ t. record {
        head_kept = (stands t).head_kept;
        head = refl;
        cells = (stands t).cells;
        tables = (stands t).tables;
        kept = (stands t).kept;
      })

  -- and after it has failed
  pub open_failed : (later : DiskState)
      → (told → HasContent shape tables (content_of shape tables s.reads) later.reads)
      → (told → (image : Image) → MayLeave later image
      → Holds shape (safe_of homes tables s.reads) (content_of shape tables s.reads) image
      ⊎ Holds shape (with_table (safe_of homes tables s.reads) file table) (with_bytes (content_of shape tables s.reads) file bytes) image)
      → IsOpen told size later shape tag boot writes true file homes held tables
  open_failed later has left =
      let head : told → later.reads 0 ≡ s.reads 0 = λ t. elim (left t later.reads (λ b closed. refl)) [ inl old ↦ old.head | inr new ↦ new.head ] in
      record {
        room = opened.room;
        two = opened.two;
        boot_is = opened.boot_is;
        sizes = opened.sizes;
        certain = λ (no : true ≡ false). absurd (cc);
        head = λ t. subst (λ (l : List ℕ). HeadIs size shape tag l) (sym (head t)) (opened.head t);
        clean = λ t j low high.
            ap (λ (l : List ℕ). drop (size_in (tables j)) l) (content_joined shape tables (content_of shape tables s.reads) later.reads j low high (has t))
            ∙ opened.clean t j low high;
        stands = λ t (no : true ≡ false). absurd (cc);
        left = λ t image may.
            subst (λ (v : Volume). MayBeLeft size tag homes v image)
            (sym (volume_same shape boot writes true file held tables s.reads later.reads (has t)))
            (leaves_either t image (left t image may));
      }

  -- the volume is the one that the commit makes
  pub commit_is : told → (later : Image)
      → HasContent shape (with_table (safe_of homes tables s.reads) file table).tables (with_bytes (content_of shape tables s.reads) file bytes) later
      → volume_of shape boot writes broken doubt held (with_table (safe_of homes tables s.reads) file table).tables later
      ≡ commit (volume_of shape boot writes broken doubt held tables s.reads) file
  commit_is t later has =
      let after : Safe = with_table (safe_of homes tables s.reads) file table in
      let live : ℕ → File = λ j. live_file (held j) (tables j) (blocks_by shape.files shape.blocks (tables j) s.reads j) in
      let next : ℕ → File = λ j. live_file (held j) (after.tables j) (blocks_by shape.files shape.blocks (after.tables j) later j) in
      let f : ℕ → File = λ j. if j == 0 then no_file else live j in
      let g : ℕ → File = λ j. if j == 0 then no_file else next j in
      let of : List File → Volume = λ l. record {
        files = l;
        capacity = shape.blocks * 4096;
        boot = boot;
        writes = writes;
        broken = broken;
        doubt = doubt_of doubt held;
      } in
      sym (ap (λ (x : File). of (set (numbered (shape.files + 1) f) file (committed x)))
      (get-numbered (shape.files + 1) f file no_file (omega arith) ∙ pick_other file 0 no_file (live file) (omega arith))
      ∙ ap of (set_of (shape.files + 1) f file (committed (live file)) g
      (λ j lt e.
      pick_other j 0 no_file (next j) (omega arith)
      ∙ ap (λ (h : Held). live_file h (after.tables j) (blocks_by shape.files shape.blocks (after.tables j) later j)) (ap held e)
      ∙ committed_file (held file) (tables file) (after.tables j) (blocks_by shape.files shape.blocks (tables file) s.reads file)
      (blocks_by shape.files shape.blocks (after.tables j) later j) (shape.blocks * 4096 - length (held file).now)
      (ap size_in (pick_same j file table (tables j) e) ∙ size_is)
      (ap change_in (pick_same j file table (tables j) e) ∙ change_is)
      (content_joined shape after.tables (with_bytes (content_of shape tables s.reads) file bytes) later j (omega arith) (omega arith) has ∙ blocks_now t j e ∙ padded t))
      (λ j lt ne. elim (cases_eq j 0) [
        | inl e ↦ pick_same j 0 no_file (next j) e ∙ sym (pick_same j 0 no_file (live j) e)
        | inr nz ↦
            pick_other j 0 no_file (next j) nz
            ∙ ap (λ (l : List ℕ). live_file (held j) (after.tables j) l)
            (content_joined shape after.tables (with_bytes (content_of shape tables s.reads) file bytes) later j (omega arith) (omega arith) has ∙ blocks_kept j ne)
            ∙ ap (λ (t : List ℕ). live_file (held j) t (blocks_by shape.files shape.blocks (tables j) s.reads j)) (pick_other j file table (tables j) ne)
            ∙ sym (pick_other j 0 no_file (live j) nz)
      ])))

-- a write of one file, as the promise has it
pub write_is : (shape : Shape) (boot writes : ℕ) (broken : Bool) (doubt : ℕ) (held after : ℕ → Held) (tables : ℕ → List ℕ) (image : Image) (file off : ℕ) (part : List ℕ)
    → 1 ≤ file → file ≤ shape.files → doubt ≡ 0 → 0 < length part
    → (after file).now ≡ with_bytes_at (held file).now off part → (after file).change ≡ change_of boot (writes + 1)
    → ((j : ℕ) → 1 ≤ j → j ≤ shape.files → j ≢ file → after j ≡ held j)
    → volume_of shape boot (writes + 1) broken doubt after tables image ≡ write (volume_of shape boot writes broken doubt held tables image) file off part
write_is shape boot writes broken doubt held after tables image file off [] some there none long now change other = absurd (omega arith)
write_is shape boot writes broken doubt held after tables image file off (b ∷ bs) some there none long now change other =
    let bytes : ℕ → List ℕ = λ j. blocks_by shape.files shape.blocks (tables j) image j in
    let live : ℕ → File = λ j. live_file (held j) (tables j) (bytes j) in
    let next : ℕ → File = λ j. live_file (after j) (tables j) (bytes j) in
    let f : ℕ → File = λ j. if j == 0 then no_file else live j in
    let g : ℕ → File = λ j. if j == 0 then no_file else next j in
    let of : List File → Option Doubt → Volume = λ fs o. record {
      files = fs;
      capacity = shape.blocks * 4096;
      boot = boot;
      writes = writes + 1;
      broken = broken;
      doubt = o;
    } in
    let to : File → File = λ x. written x off (b ∷ bs) (change_of boot (writes + 1)) in
    sym (ap (λ (x : File). of (set (numbered (shape.files + 1) f) file (to x)) (doubt_of doubt held))
    (get-numbered (shape.files + 1) f file no_file (omega arith) ∙ pick_other file 0 no_file (live file) (omega arith))
    ∙ ap (λ (o : Option Doubt). of (set (numbered (shape.files + 1) f) file (to (live file))) o)
    (pick_same doubt 0 None _ none ∙ sym (pick_same doubt 0 None (Some (record { file = doubt; bytes = (after doubt).now; change = (after doubt).change })) none))
    ∙ ap (λ (fs : List File). of fs (doubt_of doubt after)) (set_of (shape.files + 1) f file (to (live file)) g
    (λ j below e.
    pick_other j 0 no_file (next j) (omega arith)
    ∙ ap next e
    ∙ ap (λ (n : List ℕ). record { now = n; safe = take (size_in (tables file)) (bytes file); change = (after file).change; safe_change = change_in (tables file) }) now
    ∙ ap (λ (n : ℕ). record { now = with_bytes_at (held file).now off (b ∷ bs); safe = take (size_in (tables file)) (bytes file); change = n; safe_change = change_in (tables file) }) change)
    (λ j below ne. elim (cases_eq j 0) [
      | inl e ↦ pick_same j 0 no_file (next j) e ∙ sym (pick_same j 0 no_file (live j) e)
      | inr nz ↦
          pick_other j 0 no_file (next j) nz
          ∙ ap (λ (k : Held). live_file k (tables j) (bytes j)) (other j (omega arith) (omega arith) ne)
          ∙ sym (pick_other j 0 no_file (live j) nz)
    ])))

-- files that are the same now
pub volume_held : (shape : Shape) (boot writes : ℕ) (broken : Bool) (doubt : ℕ) (held after : ℕ → Held) (tables : ℕ → List ℕ) (image : Image) → doubt ≡ 0
    → ((j : ℕ) → 1 ≤ j → j ≤ shape.files → after j ≡ held j)
    → volume_of shape boot writes broken doubt after tables image ≡ volume_of shape boot writes broken doubt held tables image
volume_held shape boot writes broken doubt held after tables image none same =
    let live : (ℕ → Held) → ℕ → File = λ h j. live_file (h j) (tables j) (blocks_by shape.files shape.blocks (tables j) image j) in
    let of : List File → Option Doubt → Volume = λ fs o. record {
      files = fs;
      capacity = shape.blocks * 4096;
      boot = boot;
      writes = writes;
      broken = broken;
      doubt = o;
    } in
    let files : (ℕ → Held) → List File = λ h. numbered (shape.files + 1) (λ j. if j == 0 then no_file else live h j) in
    ap (λ (o : Option Doubt). of (files after) o) (pick_same doubt 0 None _ none ∙ sym (pick_same doubt 0 None (Some (record { file = doubt; bytes = (held doubt).now; change = (held doubt).change })) none))
    ∙ ap (λ (fs : List File). of fs (doubt_of doubt held))
    (numbered_same (shape.files + 1) (λ j. if j == 0 then no_file else live after j) (λ j. if j == 0 then no_file else live held j)
    (λ j lt. elim (cases_eq j 0) [
      | inl e ↦ pick_same j 0 no_file (live after j) e ∙ sym (pick_same j 0 no_file (live held j) e)
      | inr nz ↦
          pick_other j 0 no_file (live after j) nz
          ∙ ap (λ (k : Held). live_file k (tables j) (blocks_by shape.files shape.blocks (tables j) image j)) (same j (omega arith) (omega arith))
          ∙ sym (pick_other j 0 no_file (live held j) nz)
    ]))

-- a file of a volume is one of its shape's
pub file_there : (shape : Shape) (boot writes : ℕ) (broken : Bool) (doubt : ℕ) (held : ℕ → Held) (tables : ℕ → List ℕ) (image : Image) (file : ℕ)
    → file < length (volume_of shape boot writes broken doubt held tables image).files → file ≤ shape.files
file_there shape boot writes broken doubt held tables image file lt =
    let len : length (volume_of shape boot writes broken doubt held tables image).files ≡ shape.files + 1
    = length-numbered (shape.files + 1) (λ j. if j == 0 then no_file else live_file (held j) (tables j) (blocks_by shape.files shape.blocks (tables j) image j)) in
    omega arith

-- the homes and the tables after a commit
pub homes_path : (l : List ℕ) (file x : ℕ) → file < length l → x ≡ 1 - get_or l file 0
    → ◌≡◌ {A = ℕ → ℕ} (λ j. get_or (set l file x) j 0) (λ j. if j == file then 1 - get_or l j 0 else get_or l j 0)
homes_path l file x lt is = λ i j.
    set_by l file x 0 (λ j. if j == file then 1 - get_or l j 0 else get_or l j 0) lt
    (λ j e. pick_same j file (1 - get_or l j 0) (get_or l j 0) e ∙ ap (λ (k : ℕ). 1 - get_or l k 0) e ∙ sym is)
    (λ j ne. pick_other j file (1 - get_or l j 0) (get_or l j 0) ne) j i

pub tables_path : (l : List (List ℕ)) (file : ℕ) (x : List ℕ) → file < length l
    → ◌≡◌ {A = ℕ → List ℕ} (λ j. get_or (set l file x) j []) (λ j. if j == file then x else get_or l j [])
tables_path l file x lt = λ i j.
    set_by l file x [] (λ j. if j == file then x else get_or l j []) lt
    (λ j e. pick_same j file x (get_or l j []) e) (λ j ne. pick_other j file x (get_or l j []) ne) j i

-- the same of a volume whose homes and tables are lists
pub open_set : (told : Type 0) (size : ℕ) (s : DiskState) (shape : Shape) (tag boot writes : ℕ) (broken : Bool) (doubt : ℕ) (homes : List ℕ) (held : ℕ → Held) (tables : List (List ℕ)) (file home : ℕ) (table : List ℕ)
    → file < length homes → file < length tables → home ≡ 1 - get_or homes file 0
    → IsOpen told size s shape tag boot writes broken doubt (λ j. if j == file then 1 - get_or homes j 0 else get_or homes j 0) held (λ j. if j == file then table else get_or tables j [])
    → IsOpen told size s shape tag boot writes broken doubt (λ j. get_or (set homes file home) j 0) held (λ j. get_or (set tables file table) j [])
open_set told size s shape tag boot writes broken doubt homes held tables file home table hlt tlt is opened =
    subst (λ (h : ℕ → ℕ). IsOpen told size s shape tag boot writes broken doubt h held (λ j. get_or (set tables file table) j [])) (sym (homes_path homes file home hlt is))
    (subst (λ (t : ℕ → List ℕ). IsOpen told size s shape tag boot writes broken doubt (λ j. if j == file then 1 - get_or homes j 0 else get_or homes j 0) held t)
    (sym (tables_path tables file table tlt)) opened)

pub volume_set : (shape : Shape) (boot writes : ℕ) (broken : Bool) (doubt : ℕ) (held : ℕ → Held) (tables : List (List ℕ)) (file : ℕ) (table : List ℕ) (image : Image) → file < length tables
    → volume_of shape boot writes broken doubt held (λ j. get_or (set tables file table) j []) image
    ≡ volume_of shape boot writes broken doubt held (λ j. if j == file then table else get_or tables j []) image
volume_set shape boot writes broken doubt held tables file table image lt =
    ap (λ (t : ℕ → List ℕ). volume_of shape boot writes broken doubt held t image) (tables_path tables file table lt)

-- a file of an open volume
pub file_is : (shape : Shape) (boot writes : ℕ) (broken : Bool) (doubt : ℕ) (held : ℕ → Held) (tables : ℕ → List ℕ) (image : Image) (file : ℕ)
    → 1 ≤ file → file ≤ shape.files
    → file_at (volume_of shape boot writes broken doubt held tables image) file ≡ live_file (held file) (tables file) (blocks_by shape.files shape.blocks (tables file) image file)
file_is shape boot writes broken doubt held tables image file some there =
    let live : ℕ → File = λ j. live_file (held j) (tables j) (blocks_by shape.files shape.blocks (tables j) image j) in
    get-numbered (shape.files + 1) (λ j. if j == 0 then no_file else live j) file no_file (omega arith) ∙ pick_other file 0 no_file (live file) (omega arith)

-- what a write that isn't refused may rely on
pub passed_test : (broken : Bool) (writes capacity off len : ℕ) → refusal_of broken writes capacity off len ≡ None
    → (broken ≡ false) × (off + len ≤ capacity) × (writes ≢ 4294967295)
passed_test true writes capacity off len none = absurd (cc)
passed_test false writes capacity off len none =
    let within : off + len ≤ capacity = elim (cases_lt capacity (off + len)) [
      | inl lt ↦
          let far : refusal_of false writes capacity off len ≡ Some TooFar =
          ap (λ (t : Bool). if t then Some TooFar else (if writes == 4294967295 then Some Worn else None)) (lt-ltb capacity (off + len) lt) in
          absurd (cc)
      | inr ge ↦ ge
    ] in (
      refl,
      within,
      λ e.
          let worn : refusal_of false writes capacity off len ≡ Some Worn =
          ap (λ (t : Bool). if t then Some TooFar else (if writes == 4294967295 then Some Worn else None)) (le-ltb capacity (off + len) within)
          ∙ ap (λ (t : Bool). if t then Some Worn else None) (eq-eqb writes 4294967295 e) in
          cc,
    )

refused_by : (far worn : Bool) → (if far then Some TooFar else (if worn then Some Worn else None)) ≡ Some DiskFailed → ⊥
refused_by true worn e = cc
refused_by false true e = cc
refused_by false false e = cc

-- no test finds a disk failure
pub no_failure : (broken : Bool) (writes capacity off len : ℕ) → refusal_of broken writes capacity off len ≡ Some DiskFailed → ⊥
no_failure true writes capacity off len e = cc
no_failure false writes capacity off len e = refused_by (nat_lt capacity (off + len)) (writes == 4294967295) e

pub write_empty : (v : Volume) (file off : ℕ) (part : List ℕ) → length part ≡ 0 → v ≡ write v file off part
write_empty v file off [] none = refl
write_empty v file off (b ∷ bs) none = absurd (omega arith)

pub files_len : (shape : Shape) (boot writes : ℕ) (broken : Bool) (doubt : ℕ) (held : ℕ → Held) (tables : ℕ → List ℕ) (image : Image)
    → length (volume_of shape boot writes broken doubt held tables image).files ≡ shape.files + 1
files_len shape boot writes broken doubt held tables image =
    length-numbered (shape.files + 1) (λ j. if j == 0 then no_file else live_file (held j) (tables j) (blocks_by shape.files shape.blocks (tables j) image j))

-- what is in memory and on the disk matters to none of these
pub same_opening : (shape : Shape) (boot writes later : ℕ) (broken now : Bool) (doubt other : ℕ) (held here : ℕ → Held) (tables next : ℕ → List ℕ) (image after : Image)
    → SameOpening (volume_of shape boot writes broken doubt held tables image) (volume_of shape boot later now other here next after)
same_opening shape boot writes later broken now doubt other held here tables next image after = record {
  files = files_len shape boot later now other here next after ∙ sym (files_len shape boot writes broken doubt held tables image);
  capacity = refl;
  boot = refl;
}
