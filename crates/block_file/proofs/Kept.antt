-- An open volume over its calls of the disk.
use Rattle.std.proofs.Common.{◌≡◌, ◌≢◌, ℕ, ◌+◌, ◌-◌, ◌*◌, ◌<◌, ◌≤◌, ◌==◌, if◌then◌else◌, Bool, true, false, List, [], ◌++◌, ◌⊎◌, length, get_or, set, drop, replicate, inl, inr, refl, sym, ◌∙◌, ap, subst, arith}
use Rattle.std.proofs.lemmas.Bool.{cases_eq}
use Rattle.copy_model.specs.Volume.{File, Volume, Old, file_at, fail_write, fail_commit, commit, write, change_of, bytes_at, with_bytes_at}
use Rattle.disk_model.specs.Disk.{Image, DiskState, MayLeave}
use Rattle.disk_model.specs.declared.fuse.Fuse.{Fuse}
use Rattle.disk_model.specs.Elapsed.{Timeline, present, contents}
use Rattle.disk_model.specs.Passes.{Passes, passes_only}
use Rattle.block_file.specs.declared.shape.Shape.{Shape}
use Rattle.block_file.specs.Layout.{data_at, size_in, change_in}
use Rattle.block_file.specs.Stored.{blocks_by}
use Rattle.block_file.specs.Blocks.{InShape, HasContent, Stands, Holds, with_table, with_bytes}
use Rattle.block_file.specs.Held.{Held, held_by}
use Rattle.block_file.specs.Opened.{MayBeLeft, volume_at, held_of, AreNewest, IsOpen, IsKept}
use Rattle.block_file.proofs.Filed.{content_joined}
use Rattle.block_file.proofs.Newest.{bytes_at-len, blocks_len, padded_is, newest_content, blocks_apart}
use Rattle.block_file.proofs.Openings.{content_of, safe_of, leaves_old, still_open, open_broken, open_failed, open_committed, leaves_either, volume_same, volume_held, write_is, commit_is, fail_commit_is, file_there, file_is, homes_path, tables_path}
use Rattle.block_file.proofs.Standing.{stands_holds}

-- where the disk is as it was, if that is told
pub open_moved : (told : Type 0) (size : ℕ) (s later : DiskState) (shape : Shape) (tag boot writes : ℕ) (broken : Bool) (doubt : ℕ) (homes : ℕ → ℕ) (newest tables : ℕ → List ℕ)
    → (told → s ≡ later) → IsOpen told size s shape tag boot writes broken doubt homes (held_of shape newest s.reads) tables
    → IsOpen told size later shape tag boot writes broken doubt homes (held_of shape newest later.reads) tables
open_moved told size s later shape tag boot writes broken doubt homes newest tables same opened =
    let At : DiskState → Type 0 = λ x. IsOpen told size x shape tag boot writes broken doubt homes (held_of shape newest x.reads) tables in
    record {
      room = opened.room;
      two = opened.two;
      boot_is = opened.boot_is;
      sizes = opened.sizes;
      certain = opened.certain;
      head = λ t. (subst At (same t) opened).head t;
      clean = λ t. (subst At (same t) opened).clean t;
      stands = λ t. (subst At (same t) opened).stands t;
      left = λ t. (subst At (same t) opened).left t;
    }

pub files_moved : (told : Type 0) (shape : Shape) (newest : ℕ → List ℕ) (image other : Image) → (told → ◌≡◌ {A = ℕ → List ℕ} image other)
    → AreNewest told shape newest image → AreNewest told shape newest other
files_moved told shape newest image other same files = record {
  sizes = files.sizes;
  clean = λ t. (subst (λ (i : Image). AreNewest told shape newest i) (same t) files).clean t;
}

module _ (told : Type 0) (size : ℕ) (t : Timeline) (moment : ℕ) (shape : Shape) (tag boot writes : ℕ) (broken : Bool) (doubt : ℕ)
    (homes : ℕ → ℕ) (newest tables : ℕ → List ℕ) where
  -- a volume that stands for what the disk holds now
  pub kept_now : (told → moment ≡ t.latest) → AreNewest told shape newest (contents t)
      → IsOpen told size (present t) shape tag boot writes broken doubt homes (held_of shape newest (contents t)) tables
      → IsKept told size t moment shape tag boot writes broken doubt homes newest tables
  kept_now now files opened =
      let back : told → present t ≡ t.state moment = λ o. sym (ap (λ (m : ℕ). t.state m) (now o)) in
      record {
        latest = λ o _. now o;
        files = files_moved told shape newest (contents t) (t.state moment).reads (λ o. ap (λ (s : DiskState). s.reads) (back o)) files;
        opened = open_moved told size (present t) (t.state moment) shape tag boot writes broken doubt homes newest tables back opened;
        left = λ o. subst (λ (s : DiskState). (image : Image) → MayLeave (present t) image
            → MayBeLeft size tag homes (volume_at shape boot writes broken doubt newest tables s.reads) image) (back o) (opened.left o);
      }

  -- where no disk call has failed
  module _ (kept : IsKept told size t moment shape tag boot writes broken doubt homes newest tables) (whole : broken ≡ false) where
    pub at_now : told → t.state moment ≡ present t
    at_now o = ap (λ (m : ℕ). t.state m) (kept.latest o whole)

    pub opened_now : IsOpen told size (present t) shape tag boot writes broken doubt homes (held_of shape newest (contents t)) tables
    opened_now = open_moved told size (t.state moment) (present t) shape tag boot writes broken doubt homes newest tables at_now kept.opened

    pub files_now : AreNewest told shape newest (contents t)
    files_now = files_moved told shape newest (t.state moment).reads (contents t) (λ o. ap (λ (s : DiskState). s.reads) (at_now o)) kept.files

    pub volume_now : told → volume_at shape boot writes broken doubt newest tables (t.state moment).reads
        ≡ volume_at shape boot writes broken doubt newest tables (contents t)
    volume_now o = ap (λ (s : DiskState). volume_at shape boot writes broken doubt newest tables s.reads) (at_now o)

  -- where the moments stay as they are, if that is told
  pub kept_same : (other : ℕ) (later : Timeline) → size ≡ other → (told → t ≡ later)
      → IsKept told size t moment shape tag boot writes broken doubt homes newest tables
      → IsKept told other later moment shape tag boot writes broken doubt homes newest tables
  kept_same other later e same kept =
      let Of : Timeline → Type 0 = λ x. IsKept told other x moment shape tag boot writes broken doubt homes newest tables in
      let here : Of t = subst (λ (n : ℕ). IsKept told n t moment shape tag boot writes broken doubt homes newest tables) e kept in
      record {
        latest = λ o. (subst Of (same o) here).latest o;
        files = files_moved told shape newest (t.state moment).reads (later.state moment).reads
            (λ o. ap (λ (x : Timeline). (x.state moment).reads) (same o)) here.files;
        opened = open_moved told other (t.state moment) (later.state moment) shape tag boot writes broken doubt homes newest tables
            (λ o. ap (λ (x : Timeline). x.state moment) (same o)) here.opened;
        left = λ o. (subst Of (same o) here).left o;
      }

-- A call of the disk from a volume that isn't broken.
module _ (told : Type 0) (size : ℕ) (t later : Timeline) (moment : ℕ) (shape : Shape) (tag boot writes : ℕ) (broken : Bool) (doubt : ℕ)
    (homes : ℕ → ℕ) (newest tables : ℕ → List ℕ) (kept : IsKept told size t moment shape tag boot writes broken doubt homes newest tables)
    (whole : broken ≡ false) where
  -- the moment before it is still to be seen
  pub before_it : (told → (k : ℕ) → k ≤ t.latest → later.state k ≡ t.state k) → told → t.state moment ≡ later.state moment
  before_it past o =
      let e : moment ≡ t.latest = kept.latest o whole in
      sym (past o moment (omega (arith, e)))

  -- a write of which a crash leaves what was safe, and which has failed
  pub kept_broken : (told → (k : ℕ) → k ≤ t.latest → later.state k ≡ t.state k)
      → (told → (image : Image) → MayLeave (present later) image → Holds shape (safe_of homes tables (contents t)) (content_of shape tables (contents t)) image)
      → IsKept told size later moment shape tag boot writes true doubt homes newest tables
  kept_broken past holds =
      let opened = kept.opened in
      let same = before_it past in
      record {
        latest = λ o (no : true ≡ false). absurd (cc);
        files = files_moved told shape newest (t.state moment).reads (later.state moment).reads (λ o. ap (λ (s : DiskState). s.reads) (same o)) kept.files;
        opened = open_moved told size (t.state moment) (later.state moment) shape tag boot writes true doubt homes newest tables same
            (open_broken told size (t.state moment) shape tag boot writes broken doubt homes (held_of shape newest (t.state moment).reads) tables opened whole);
        left = λ o.
            let now = opened_now told size t moment shape tag boot writes broken doubt homes newest tables kept whole in
            subst (λ (s : DiskState). (image : Image) → MayLeave (present later) image
            → MayBeLeft size tag homes (volume_at shape boot writes true doubt newest tables s.reads) image)
            (sym (at_now told size t moment shape tag boot writes broken doubt homes newest tables kept whole o) ∙ same o)
            (λ image may. (
              Old,
              leaves_old size shape tag boot writes true doubt homes (held_of shape newest (contents t)) tables (contents t) image (now.head o) now.room now.boot_is now.sizes (now.clean o)
                  (holds o image may),
            ));
      }

  -- a commit of a file under its newest table
  module _ (file : ℕ) (some : 1 ≤ file) (there : file ≤ shape.files) (blocks_whole : told → (b : ℕ) → length (contents t b) ≡ 4096) where
    size_is : size_in (newest file) ≡ length (held_of shape newest (contents t) file).now
    size_is = sym (bytes_at-len (blocks_by shape.files shape.blocks (newest file) (contents t) file) (size_in (newest file)))

    fits : length (held_of shape newest (contents t) file).now ≤ shape.blocks * 4096
    fits =
        let files = files_now told size t moment shape tag boot writes broken doubt homes newest tables kept whole in
        subst (λ (n : ℕ). n ≤ shape.blocks * 4096) size_is (files.sizes file some there)

    padded : told → blocks_by shape.files shape.blocks (newest file) (contents t) file
        ≡ (held_of shape newest (contents t) file).now ++ replicate (shape.blocks * 4096 - length (held_of shape newest (contents t) file).now) 0
    padded o =
        let files = files_now told size t moment shape tag boot writes broken doubt homes newest tables kept whole in
        padded_is shape (newest file) file (contents t) (blocks_whole o) (files.sizes file some there) (files.clean o file some there)

    len : told → length (blocks_by shape.files shape.blocks (newest file) (contents t) file) ≡ shape.blocks * 4096
    len o =
        let files = files_now told size t moment shape tag boot writes broken doubt homes newest tables kept whole in
        blocks_len shape (newest file) file (contents t) (blocks_whole o) (files.sizes file some there)

    -- what is put is in place
    pub content_put : told → HasContent shape (with_table (safe_of homes tables (contents t)) file (newest file)).tables
        (with_bytes (content_of shape tables (contents t)) file (blocks_by shape.files shape.blocks (newest file) (contents t) file)) (contents t)
    content_put o =
        let files = files_now told size t moment shape tag boot writes broken doubt homes newest tables kept whole in
        newest_content shape (newest file) file (contents t) (blocks_whole o) (files.sizes file some there) (safe_of homes tables (contents t))

    either : told → (image : Image)
        → Holds shape (safe_of homes tables (contents t)) (content_of shape tables (contents t)) image
        ⊎ Holds shape (with_table (safe_of homes tables (contents t)) file (newest file))
        (with_bytes (content_of shape tables (contents t)) file (blocks_by shape.files shape.blocks (newest file) (contents t) file)) image
        → MayBeLeft size tag homes (volume_at shape boot writes true file newest tables (contents t)) image
    either o image is =
        leaves_either told size (present t) shape tag boot writes broken doubt homes (held_of shape newest (contents t)) tables
        (opened_now told size t moment shape tag boot writes broken doubt homes newest tables kept whole) whole file (newest file)
        (blocks_by shape.files shape.blocks (newest file) (contents t) file) some there size_is refl fits padded len o image is

    pub commit_passes : told → (f g : Fuse) → Passes f g t later (λ image.
        Holds shape (safe_of homes tables (contents t)) (content_of shape tables (contents t)) image
        ⊎ Holds shape (with_table (safe_of homes tables (contents t)) file (newest file))
        (with_bytes (content_of shape tables (contents t)) file (blocks_by shape.files shape.blocks (newest file) (contents t) file)) image)
        → Passes f g t later (MayBeLeft size tag homes (fail_commit (volume_at shape boot writes broken doubt newest tables (t.state moment).reads) file))
    commit_passes o f g passes =
        passes_only (λ image. Holds shape (safe_of homes tables (contents t)) (content_of shape tables (contents t)) image
        ⊎ Holds shape (with_table (safe_of homes tables (contents t)) file (newest file))
        (with_bytes (content_of shape tables (contents t)) file (blocks_by shape.files shape.blocks (newest file) (contents t) file)) image)
        (MayBeLeft size tag homes (fail_commit (volume_at shape boot writes broken doubt newest tables (t.state moment).reads) file)) f g t later
        (λ image is.
        subst (λ (v : Volume). MayBeLeft size tag homes v image)
        (fail_commit_is shape boot writes broken doubt file (held_of shape newest (contents t)) tables (contents t) some there
        ∙ ap (λ (v : Volume). fail_commit v file) (sym (volume_now told size t moment shape tag boot writes broken doubt homes newest tables kept whole o)))
        (either o image is))
        passes

    -- that was done
    pub kept_committed : (number : ℕ) → (told → number ≡ later.latest)
        → (told → Stands shape (with_table (safe_of homes tables (contents t)) file (newest file)) (present later))
        → (told → (names : ℕ → List ℕ) (content : ℕ → ℕ → List ℕ) → HasContent shape names content (contents t) → HasContent shape names content (contents later))
        → IsKept told size later number shape tag boot writes broken doubt (with_table (safe_of homes tables (contents t)) file (newest file)).homes newest
        (with_table (safe_of homes tables (contents t)) file (newest file)).tables
    kept_committed number is stands has =
        let after = with_table (safe_of homes tables (contents t)) file (newest file) in
        let files = files_now told size t moment shape tag boot writes broken doubt homes newest tables kept whole in
        kept_now told size later number shape tag boot writes broken doubt after.homes newest after.tables is
        (record {
          sizes = files.sizes;
          clean = λ o j low high.
              ap (λ (l : List ℕ). drop (size_in (newest j)) l)
              (content_joined shape newest (content_of shape newest (contents t)) (contents later) j low high
              (has o newest (content_of shape newest (contents t)) (λ i b at. refl)))
              ∙ files.clean o j low high;
        })
        (open_committed told size (present t) shape tag boot writes broken doubt homes (held_of shape newest (contents t)) tables
        (opened_now told size t moment shape tag boot writes broken doubt homes newest tables kept whole) whole file (newest file)
        (blocks_by shape.files shape.blocks (newest file) (contents t) file) some there size_is refl fits padded len (present later)
        (held_of shape newest (contents later)) stands
        (λ o. has o after.tables (with_bytes (content_of shape tables (contents t)) file (blocks_by shape.files shape.blocks (newest file) (contents t) file)) (content_put o)))

    pub committed_volume : told → (number : ℕ) → number ≡ later.latest
        → ((names : ℕ → List ℕ) (content : ℕ → ℕ → List ℕ) → HasContent shape names content (contents t) → HasContent shape names content (contents later))
        → volume_at shape boot writes broken doubt newest (with_table (safe_of homes tables (contents t)) file (newest file)).tables (later.state number).reads
        ≡ commit (volume_at shape boot writes broken doubt newest tables (t.state moment).reads) file
    committed_volume o number is has =
        let after = with_table (safe_of homes tables (contents t)) file (newest file) in
        let opened = opened_now told size t moment shape tag boot writes broken doubt homes newest tables kept whole in
        let bytes = blocks_by shape.files shape.blocks (newest file) (contents t) file in
        ap (λ (m : ℕ). volume_at shape boot writes broken doubt newest after.tables (later.state m).reads) is
        ∙ volume_held shape boot writes broken doubt (held_of shape newest (contents t)) (held_of shape newest (contents later)) after.tables (contents later)
        (opened.certain whole)
        (λ j low high.
        ap (λ (l : List ℕ). record { now = bytes_at l 0 (size_in (newest j)); change = change_in (newest j) })
        (content_joined shape newest (content_of shape newest (contents t)) (contents later) j low high
        (has newest (content_of shape newest (contents t)) (λ i b at. refl))))
        ∙ commit_is told size (present t) shape tag boot writes broken doubt homes (held_of shape newest (contents t)) tables opened whole file (newest file)
        bytes some there size_is refl fits padded len o (contents later)
        (has after.tables (with_bytes (content_of shape tables (contents t)) file bytes) (content_put o))
        ∙ ap (λ (v : Volume). commit v file) (sym (volume_now told size t moment shape tag boot writes broken doubt homes newest tables kept whole o))

    -- that has failed
    pub kept_doubted : (told → (k : ℕ) → k ≤ t.latest → later.state k ≡ t.state k)
        → (told → (image : Image) → MayLeave (present later) image
        → Holds shape (safe_of homes tables (contents t)) (content_of shape tables (contents t)) image
        ⊎ Holds shape (with_table (safe_of homes tables (contents t)) file (newest file))
        (with_bytes (content_of shape tables (contents t)) file (blocks_by shape.files shape.blocks (newest file) (contents t) file)) image)
        → IsKept told size later moment shape tag boot writes true file homes newest tables
    kept_doubted past holds =
        let opened = opened_now told size t moment shape tag boot writes broken doubt homes newest tables kept whole in
        let same : told → present t ≡ later.state moment =
        λ o. sym (at_now told size t moment shape tag boot writes broken doubt homes newest tables kept whole o) ∙ before_it past o in
        record {
          latest = λ o (no : true ≡ false). absurd (cc);
          files = files_moved told shape newest (contents t) (later.state moment).reads (λ o. ap (λ (s : DiskState). s.reads) (same o))
              (files_now told size t moment shape tag boot writes broken doubt homes newest tables kept whole);
          opened = open_moved told size (present t) (later.state moment) shape tag boot writes true file homes newest tables same
              (open_failed told size (present t) shape tag boot writes broken doubt homes (held_of shape newest (contents t)) tables opened whole file (newest file)
              (blocks_by shape.files shape.blocks (newest file) (contents t) file) some there size_is refl fits padded len (present t)
              (λ o j b at. refl)
              (λ o image may. inl (stands_holds shape (safe_of homes tables (contents t)) (content_of shape tables (contents t)) (present t) (opened.stands o whole)
              (λ j b at. refl) image may)));
          left = λ o.
              subst (λ (s : DiskState). (image : Image) → MayLeave (present later) image
              → MayBeLeft size tag homes (volume_at shape boot writes true file newest tables s.reads) image) (same o)
              (λ image may. either o image (holds o image may));
        }

    pub doubted_volume : (told → (k : ℕ) → k ≤ t.latest → later.state k ≡ t.state k) → told
        → volume_at shape boot writes true file newest tables (later.state moment).reads
        ≡ fail_commit (volume_at shape boot writes broken doubt newest tables (t.state moment).reads) file
    doubted_volume past o =
        ap (λ (s : DiskState). volume_at shape boot writes true file newest tables s.reads) (sym (before_it past o))
        ∙ fail_commit_is shape boot writes broken doubt file (held_of shape newest (t.state moment).reads) tables (t.state moment).reads some there

  -- a write that has failed leaves the volume as it was
  pub broken_volume : (told → (k : ℕ) → k ≤ t.latest → later.state k ≡ t.state k) → told
      → volume_at shape boot writes true doubt newest tables (later.state moment).reads
      ≡ fail_write (volume_at shape boot writes broken doubt newest tables (t.state moment).reads)
  broken_volume past o =
      ap (λ (s : DiskState). volume_at shape boot writes true doubt newest tables s.reads) (sym (before_it past o))

  pub write_passes : told → (f g : Fuse) → Passes f g t later (Holds shape (safe_of homes tables (contents t)) (content_of shape tables (contents t)))
      → Passes f g t later (MayBeLeft size tag homes (volume_at shape boot writes broken doubt newest tables (t.state moment).reads))
  write_passes o f g passes =
      let now = opened_now told size t moment shape tag boot writes broken doubt homes newest tables kept whole in
      passes_only (Holds shape (safe_of homes tables (contents t)) (content_of shape tables (contents t)))
      (MayBeLeft size tag homes (volume_at shape boot writes broken doubt newest tables (t.state moment).reads)) f g t later
      (λ image is.
      subst (λ (v : Volume). MayBeLeft size tag homes v image)
      (sym (volume_now told size t moment shape tag boot writes broken doubt homes newest tables kept whole o)) (
        Old,
        leaves_old size shape tag boot writes broken doubt homes (held_of shape newest (contents t)) tables (contents t) image (now.head o) now.room now.boot_is now.sizes
            (now.clean o) is,
      ))
      passes

  -- a write of one file that is done, and its next newest table
  module _ (file : ℕ) (next : ℕ → List ℕ) (some : 1 ≤ file) (there : file ≤ shape.files)
      (other : (j : ℕ) → 1 ≤ j → j ≤ shape.files → j ≢ file → next j ≡ newest j)
      (apart : told → (j b h : ℕ) → InShape shape j b → h ≤ 1 → j ≢ file
      → contents later (data_at shape.files shape.blocks j b h) ≡ contents t (data_at shape.files shape.blocks j b h))
      (has : told → HasContent shape tables (content_of shape tables (contents t)) (contents later))
      (number : ℕ) (is : told → number ≡ later.latest) where
    pub kept_written : size_in (next file) ≤ shape.blocks * 4096
        → (told → drop (size_in (next file)) (blocks_by shape.files shape.blocks (next file) (contents later) file) ≡ replicate (shape.blocks * 4096 - size_in (next file)) 0)
        → (told → Stands shape (safe_of homes tables (contents t)) (present later))
        → IsKept told size later number shape tag boot (writes + 1) broken doubt homes next tables
    kept_written sized clean stands =
        let files = files_now told size t moment shape tag boot writes broken doubt homes newest tables kept whole in
        kept_now told size later number shape tag boot (writes + 1) broken doubt homes next tables is
        (record {
          sizes = λ j low high. elim (cases_eq j file) [
            | inl e ↦ subst (λ (k : ℕ). size_in (next k) ≤ shape.blocks * 4096) (sym e) sized
            | inr ne ↦ subst (λ (l : List ℕ). size_in l ≤ shape.blocks * 4096) (sym (other j low high ne)) (files.sizes j low high)
          ];
          clean = λ o j low high. elim (cases_eq j file) [
            | inl e ↦ subst (λ (k : ℕ). drop (size_in (next k)) (blocks_by shape.files shape.blocks (next k) (contents later) k) ≡ replicate (shape.blocks * 4096 - size_in (next k)) 0) (sym e) (clean o)
            | inr ne ↦
                subst (λ (l : List ℕ). drop (size_in l) (blocks_by shape.files shape.blocks l (contents later) j) ≡ replicate (shape.blocks * 4096 - size_in l) 0) (sym (other j low high ne))
                (ap (λ (l : List ℕ). drop (size_in (newest j)) l) (blocks_apart shape (newest j) (contents t) (contents later) file j low high ne (apart o))
                ∙ files.clean o j low high)
          ];
        })
        (still_open told size (present t) (present later) shape tag boot writes (writes + 1) broken doubt homes (held_of shape newest (contents t)) (held_of shape next (contents later)) tables
        (opened_now told size t moment shape tag boot writes broken doubt homes newest tables kept whole) whole stands has)

    pub written_volume : told → (off : ℕ) (part : List ℕ) → 0 < length part
        → held_by shape (next file) (contents later) file
        ≡ record { now = with_bytes_at (held_by shape (newest file) (contents t) file).now off part; change = change_of boot (writes + 1) }
        → volume_at shape boot (writes + 1) broken doubt next tables (later.state number).reads
        ≡ write (volume_at shape boot writes broken doubt newest tables (t.state moment).reads) file off part
    written_volume o off part long held =
        let opened = opened_now told size t moment shape tag boot writes broken doubt homes newest tables kept whole in
        ap (λ (m : ℕ). volume_at shape boot (writes + 1) broken doubt next tables (later.state m).reads) (is o)
        ∙ write_is shape boot writes broken doubt (held_of shape newest (contents t)) (held_of shape next (contents later)) tables (contents later) file off part
        some there (opened.certain whole) long (ap (λ (h : Held). h.now) held) (ap (λ (h : Held). h.change) held)
        (λ j low high ne.
        ap (λ (l : List ℕ). held_by shape l (contents later) j) (other j low high ne)
        ∙ ap (λ (l : List ℕ). record { now = bytes_at l 0 (size_in (newest j)); change = change_in (newest j) })
        (blocks_apart shape (newest j) (contents t) (contents later) file j low high ne (apart o)))
        ∙ ap (λ (v : Volume). write v file off part)
        (volume_same shape boot writes broken doubt (held_of shape newest (contents t)) tables (contents t) (contents later) (has o)
        ∙ sym (volume_now told size t moment shape tag boot writes broken doubt homes newest tables kept whole o))

-- a file of a volume is one of its shape's
pub there_is : (shape : Shape) (boot writes : ℕ) (broken : Bool) (doubt : ℕ) (newest tables : ℕ → List ℕ) (image : Image) (file : ℕ)
    → file < length (volume_at shape boot writes broken doubt newest tables image).files → file ≤ shape.files
there_is shape boot writes broken doubt newest tables image file lt =
    file_there shape boot writes broken doubt (held_of shape newest image) tables image file lt

-- a file's size and change attribute
pub info_is : (shape : Shape) (boot writes : ℕ) (broken : Bool) (doubt : ℕ) (newest tables : ℕ → List ℕ) (image : Image) (file : ℕ) → 1 ≤ file → file ≤ shape.files
    → (length (file_at (volume_at shape boot writes broken doubt newest tables image) file).now ≡ size_in (newest file))
    × ((file_at (volume_at shape boot writes broken doubt newest tables image) file).change ≡ change_in (newest file))
info_is shape boot writes broken doubt newest tables image file some there =
    let is = file_is shape boot writes broken doubt (held_of shape newest image) tables image file some there in (
      ap (λ (f : File). length f.now) is ∙ bytes_at-len (blocks_by shape.files shape.blocks (newest file) image file) (size_in (newest file)),
      ap (λ (f : File). f.change) is,
    )

-- the homes and the tables as lists
pub kept_set : (told : Type 0) (size : ℕ) (t : Timeline) (moment : ℕ) (shape : Shape) (tag boot writes : ℕ) (broken : Bool) (doubt : ℕ)
    (homes : List ℕ) (newest : ℕ → List ℕ) (tables : List (List ℕ)) (file home : ℕ) (table : List ℕ)
    → file < length homes → file < length tables → home ≡ 1 - get_or homes file 0
    → IsKept told size t moment shape tag boot writes broken doubt (λ j. if j == file then 1 - get_or homes j 0 else get_or homes j 0) newest (λ j. if j == file then table else get_or tables j [])
    → IsKept told size t moment shape tag boot writes broken doubt (λ j. get_or (set homes file home) j 0) newest (λ j. get_or (set tables file table) j [])
kept_set told size t moment shape tag boot writes broken doubt homes newest tables file home table hlt tlt is kept =
    subst (λ (h : ℕ → ℕ). IsKept told size t moment shape tag boot writes broken doubt h newest (λ j. get_or (set tables file table) j [])) (sym (homes_path homes file home hlt is))
    (subst (λ (l : ℕ → List ℕ). IsKept told size t moment shape tag boot writes broken doubt (λ j. if j == file then 1 - get_or homes j 0 else get_or homes j 0) newest l)
    (sym (tables_path tables file table tlt)) kept)

pub tables_set : (shape : Shape) (boot writes : ℕ) (broken : Bool) (doubt : ℕ) (newest : ℕ → List ℕ) (tables : List (List ℕ)) (file : ℕ) (table : List ℕ) (image : Image) → file < length tables
    → volume_at shape boot writes broken doubt newest (λ j. get_or (set tables file table) j []) image
    ≡ volume_at shape boot writes broken doubt newest (λ j. if j == file then table else get_or tables j []) image
tables_set shape boot writes broken doubt newest tables file table image lt =
    ap (λ (l : ℕ → List ℕ). volume_at shape boot writes broken doubt newest l image) (tables_path tables file table lt)
