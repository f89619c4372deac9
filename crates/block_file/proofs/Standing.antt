-- What stays safe of a volume's blocks over a write of a block and a put of a table.
use Rattle.std.proofs.Common.{◌≡◌, ◌≢◌, ℕ, ◌+◌, ◌-◌, ◌≤◌, ◌==◌, Bool, if◌then◌else◌, List, ◌⊎◌, inl, inr, sym, ◌∙◌, ap, subst, arith}
use Rattle.std.proofs.lemmas.Bool.{cases_eq, eq-eqb, ne_eqb}
use Rattle.disk_model.specs.declared.disk.Io.{Io}
use Rattle.disk_model.specs.declared.fuse.Fuse.{Fuse}
use Rattle.disk_model.specs.Disk.{Image, DiskState, MayLeave, IsSettled, Writes}
use Rattle.disk_model.specs.Elapsed.{Timeline, present, contents, Elapses}
use Rattle.disk_model.specs.Passes.{Passes, passes_none, passes_one, passes_on, passes_only}
use Rattle.block_file.specs.declared.shape.Shape.{Shape}
use Rattle.block_file.specs.Cell.{gate_of, cell_of, IsCell, IsBefore, IsAfter, OldOrNew, Keeps}
use Rattle.block_file.specs.Layout.{cell_at, home_in, table_of}
use Rattle.block_file.specs.Blocks.{Safe, place_of, next_place, InShape, HasContent, Stands, Holds, KeepsSafe, with_table}
use Rattle.block_file.proofs.Places.{in_force_apart, data_apart, data_outside, home_outside, cell_outside}

-- a choice by a number
pub pick_same : {A : Type 0} (i j : ℕ) (a b : A) → i ≡ j → (if i == j then a else b) ≡ a
pick_same i j a b e = ap (λ (t : Bool). if t then a else b) (eq-eqb i j e)

pub pick_other : {A : Type 0} (i j : ℕ) (a b : A) → i ≢ j → (if i == j then a else b) ≡ b
pick_other i j a b ne = ap (λ (t : Bool). if t then a else b) (ne_eqb i j ne)

-- the homes in force are of two
pub homes_two : (s : DiskState) (at home : ℕ) → IsCell s at home → home ≤ 1
homes_two s at home cell = let e = cell.gate in omega arith

pub table_is : (image : Image) (j home : ℕ) (table : List ℕ) → gate_of (image (cell_at j)) ≡ home
    → image (cell_at j + 1 + home) ≡ table → table_of image j ≡ table
table_is image j home table gate is = ap (λ (h : ℕ). image (cell_at j + 1 + h)) gate ∙ is

-- a crash leaves what is safe
pub stands_holds : (shape : Shape) (safe : Safe) (content : ℕ → ℕ → List ℕ) (s : DiskState) → Stands shape safe s
    → HasContent shape safe.tables content s.reads → (image : Image) → MayLeave s image → Holds shape safe content image
stands_holds shape safe content s stands has image left =
    let gates : (j : ℕ) → j ≤ shape.files → gate_of (image (cell_at j)) ≡ safe.homes j =
    λ j le. ap gate_of (left (cell_at j) (stands.cells j le).gate_kept) ∙ (stands.cells j le).gate in
    record {
      head = left 0 stands.head_kept ∙ stands.head;
      gates = gates;
      tables = λ j le. table_is image j (safe.homes j) (safe.tables j) (gates j le)
          (left (cell_at j + 1 + safe.homes j) (stands.cells j le).home_kept ∙ stands.tables j le);
      blocks = λ j b at. left (place_of shape (safe.tables j) j b) (stands.kept j b at) ∙ has j b at;
    }

add_none : (at : ℕ) → at + 0 ≡ at
add_none at = omega arith

add_two : (at home : ℕ) → at + (1 + home) ≡ at + 1 + home
add_two at home = omega arith

-- what a write of a block leaves
module _ (shape : Shape) (safe : Safe) (table block : List ℕ) (j b : ℕ) (result : Io) (old new : DiskState)
    (at : InShape shape j b) (is : safe.tables j ≡ table) (w : Writes (next_place shape table j b) block result old new) where
  cell_ne : (i h : ℕ) → i ≤ shape.files → h ≤ 2 → cell_at i + h ≢ next_place shape table j b
  cell_ne i h le two = data_apart shape.files shape.blocks j b (1 - home_in table b) (cell_at i + h) (omega arith)

  first_ne : 0 ≢ next_place shape table j b
  first_ne = data_apart shape.files shape.blocks j b (1 - home_in table b) 0 (omega arith)

  pub stands_wrote : Stands shape safe old → Stands shape safe new
  stands_wrote stands =
      record {
        head_kept = (w.elsewhere 0 first_ne).1 ∙ stands.head_kept;
        head = (w.elsewhere 0 first_ne).0 ∙ stands.head;
        cells = λ i le.
            let cell = stands.cells i le in
            let two = homes_two old (cell_at i) (safe.homes i) cell in
            let gate : cell_at i ≢ next_place shape table j b = λ e. cell_ne i 0 le (omega arith) (add_none (cell_at i) ∙ e) in
            let home : cell_at i + 1 + safe.homes i ≢ next_place shape table j b = λ e. cell_ne i (1 + safe.homes i) le (omega arith) (add_two (cell_at i) (safe.homes i) ∙ e) in
            record {
              gate_kept = (w.elsewhere (cell_at i) gate).1 ∙ cell.gate_kept;
              home_kept = (w.elsewhere (cell_at i + 1 + safe.homes i) home).1 ∙ cell.home_kept;
              gate = ap gate_of (w.elsewhere (cell_at i) gate).0 ∙ cell.gate;
            };
        tables = λ i le.
            let two = homes_two old (cell_at i) (safe.homes i) (stands.cells i le) in
            let home : cell_at i + 1 + safe.homes i ≢ next_place shape table j b = λ e. cell_ne i (1 + safe.homes i) le (omega arith) (add_two (cell_at i) (safe.homes i) ∙ e) in
            (w.elsewhere (cell_at i + 1 + safe.homes i) home).0 ∙ stands.tables i le;
        kept = λ i c other.
            (w.elsewhere (place_of shape (safe.tables i) i c) (in_force_apart shape safe.tables table j b i c at other is)).1 ∙ stands.kept i c other;
      }

pub content_wrote : (shape : Shape) (tables : ℕ → List ℕ) (content : ℕ → ℕ → List ℕ) (table block : List ℕ) (j b : ℕ) (result : Io)
    (old new : DiskState) → InShape shape j b → tables j ≡ table → Writes (next_place shape table j b) block result old new
    → HasContent shape tables content old.reads → HasContent shape tables content new.reads
content_wrote shape tables content table block j b result old new at is w has = λ i c other.
    (w.elsewhere (place_of shape (tables i) i c) (in_force_apart shape tables table j b i c at other is)).0 ∙ has i c other

pub wrote_passes : (shape : Shape) (safe : Safe) (content : ℕ → ℕ → List ℕ) (table block : List ℕ) (j b : ℕ) (result : Io)
    (f g : Fuse) (old new : Timeline) → InShape shape j b → safe.tables j ≡ table
    → Writes (next_place shape table j b) block result (present old) (present new) → Elapses f g old new
    → new.latest ≤ old.latest + 1 → Stands shape safe (present old) → HasContent shape safe.tables content (contents old)
    → Passes f g old new (Holds shape safe content)
wrote_passes shape safe content table block j b result f g old new at is w time soon stands has =
    passes_one (Holds shape safe content) f g old new time soon
    (stands_holds shape safe content (present old) stands has)
    (stands_holds shape safe content (present new)
    (stands_wrote shape safe table block j b result (present old) (present new) at is w stands)
    (content_wrote shape safe.tables content table block j b result (present old) (present new) at is w has))

pub safe_wrote : (shape : Shape) (table block : List ℕ) (j b : ℕ) (result : Io) (f g : Fuse) (old new : Timeline) → InShape shape j b
    → Writes (next_place shape table j b) block result (present old) (present new) → Elapses f g old new
    → new.latest ≤ old.latest + 1 → KeepsSafe shape table j f g old new
safe_wrote shape table block j b result f g old new at w time soon = record {
  stands = λ safe is stands. stands_wrote shape safe table block j b result (present old) (present new) at is w stands;
  content = λ tables content is has. content_wrote shape tables content table block j b result (present old) (present new) at is w has;
  any_moment = λ safe content is stands has. wrote_passes shape safe content table block j b result f g old new at is w time soon stands has;
}

-- what no call, and calls in two parts, leave
pub safe_none : (shape : Shape) (table : List ℕ) (j : ℕ) (f : Fuse) (t : Timeline) → KeepsSafe shape table j f f t t
safe_none shape table j f t = record {
  stands = λ safe is stands. stands;
  content = λ tables content is has. has;
  any_moment = λ safe content is stands has.
      passes_none (Holds shape safe content) f t (stands_holds shape safe content (present t) stands has);
}

pub safe_on : (shape : Shape) (table : List ℕ) (j : ℕ) (f g h : Fuse) (old middle new : Timeline)
    → KeepsSafe shape table j f g old middle → KeepsSafe shape table j g h middle new → KeepsSafe shape table j f h old new
safe_on shape table j f g h old middle new before after = record {
  stands = λ safe is stands. after.stands safe is (before.stands safe is stands);
  content = λ tables content is has. after.content tables content is (before.content tables content is has);
  any_moment = λ safe content is stands has.
      passes_on (Holds shape safe content) f g h old middle new (before.any_moment safe content is stands has)
      (after.any_moment safe content is (before.stands safe is stands) (before.content safe.tables content is has));
}

-- an image before the gate of a cell is turned
pub before_holds : (shape : Shape) (safe : Safe) (content : ℕ → ℕ → List ℕ) (s : DiskState) (j : ℕ) → j ≤ shape.files
    → Stands shape safe s → HasContent shape safe.tables content s.reads → (image : Image)
    → IsBefore (cell_at j) s (cell_of s.reads (cell_at j)) image → Holds shape safe content image
before_holds shape safe content s j le stands has image before =
    let gates : (i : ℕ) → i ≤ shape.files → gate_of (image (cell_at i)) ≡ safe.homes i =
    λ i within. elim (cases_eq i j) [
      | inl e ↦
          subst (λ (k : ℕ). gate_of (image (cell_at k)) ≡ safe.homes k) (sym e) (before.gate ∙ (stands.cells j le).gate)
      | inr ne ↦
          ap gate_of (before.rest (cell_at i) (cell_outside j i ne).0 (stands.cells i within).gate_kept) ∙ (stands.cells i within).gate
    ] in
    record {
      head = before.rest 0 (inl (omega arith)) stands.head_kept ∙ stands.head;
      gates = gates;
      tables = λ i within. elim (cases_eq i j) [
        | inl e ↦
            subst (λ (k : ℕ). table_of image k ≡ safe.tables k) (sym e)
            (before.cell ∙ table_is s.reads j (safe.homes j) (safe.tables j) (stands.cells j le).gate (stands.tables j le))
        | inr ne ↦
            let two = homes_two s (cell_at i) (safe.homes i) (stands.cells i within) in
            table_is image i (safe.homes i) (safe.tables i) (gates i within)
            (before.rest (cell_at i + 1 + safe.homes i) (home_outside j i (safe.homes i) ne two) (stands.cells i within).home_kept ∙ stands.tables i within)
      ];
      blocks = λ i c at.
          before.rest (place_of shape (safe.tables i) i c) (data_outside shape.files shape.blocks i c (home_in (safe.tables i) c) j le) (stands.kept i c at) ∙ has i c at;
    }

-- an image after it
pub after_holds : (shape : Shape) (safe : Safe) (content : ℕ → ℕ → List ℕ) (table : List ℕ) (s : DiskState) (j : ℕ) → j ≤ shape.files
    → Stands shape safe s → HasContent shape (with_table safe j table).tables content s.reads → (image : Image)
    → IsAfter (cell_at j) s table image → Holds shape (with_table safe j table) content image
after_holds shape safe content table s j le stands has image after =
    let later = with_table safe j table in
    let gates : (i : ℕ) → i ≤ shape.files → gate_of (image (cell_at i)) ≡ later.homes i =
    λ i within. elim (cases_eq i j) [
      | inl e ↦
          subst (λ (k : ℕ). gate_of (image (cell_at k)) ≡ 1 - safe.homes k) (sym e) (after.gate ∙ ap (λ (h : ℕ). 1 - h) (stands.cells j le).gate)
          ∙ sym (pick_same i j (1 - safe.homes i) (safe.homes i) e)
      | inr ne ↦
          ap gate_of (after.rest (cell_at i) (cell_outside j i ne).0) ∙ (stands.cells i within).gate
          ∙ sym (pick_other i j (1 - safe.homes i) (safe.homes i) ne)
    ] in
    record {
      head = after.rest 0 (inl (omega arith)) ∙ stands.head;
      gates = gates;
      tables = λ i within. elim (cases_eq i j) [
        | inl e ↦
            subst (λ (k : ℕ). table_of image k ≡ table) (sym e) after.cell ∙ sym (pick_same i j table (safe.tables i) e)
        | inr ne ↦
            let two = homes_two s (cell_at i) (safe.homes i) (stands.cells i within) in
            table_is image i (safe.homes i) (safe.tables i) (gates i within ∙ pick_other i j (1 - safe.homes i) (safe.homes i) ne)
            (after.rest (cell_at i + 1 + safe.homes i) (home_outside j i (safe.homes i) ne two) ∙ stands.tables i within)
            ∙ sym (pick_other i j table (safe.tables i) ne)
      ];
      blocks = λ i c at.
          after.rest (place_of shape (later.tables i) i c) (data_outside shape.files shape.blocks i c (home_in (later.tables i) c) j le) ∙ has i c at;
    }

pub put_passes : (shape : Shape) (safe : Safe) (before after : ℕ → ℕ → List ℕ) (table : List ℕ) (j : ℕ) (f g : Fuse) (old new : Timeline)
    → j ≤ shape.files → Stands shape safe (present old) → HasContent shape safe.tables before (contents old)
    → HasContent shape (with_table safe j table).tables after (contents old)
    → Passes f g old new (OldOrNew (cell_at j) (present old) (cell_of (contents old) (cell_at j)) table)
    → Passes f g old new (λ image. Holds shape safe before image ⊎ Holds shape (with_table safe j table) after image)
put_passes shape safe before after table j f g old new le stands had has passes =
    passes_only (OldOrNew (cell_at j) (present old) (cell_of (contents old) (cell_at j)) table)
    (λ image. Holds shape safe before image ⊎ Holds shape (with_table safe j table) after image) f g old new
    (λ image is. elim is [
      | inl b ↦ inl (before_holds shape safe before (present old) j le stands had image b)
      | inr a ↦ inr (after_holds shape safe after table (present old) j le stands has image a)
    ])
    passes

pub stands_put : (shape : Shape) (safe : Safe) (table : List ℕ) (j home : ℕ) (old new : DiskState) → j ≤ shape.files
    → safe.homes j ≡ home → Stands shape safe old → Keeps (cell_at j) old new → IsCell new (cell_at j) (1 - home)
    → new.reads (cell_at j + 1 + (1 - home)) ≡ table → IsSettled new → Stands shape (with_table safe j table) new
stands_put shape safe table j home old new le is stands keeps cell there settled =
    let later = with_table safe j table in
    let turned : (i : ℕ) → i ≡ j → later.homes i ≡ 1 - home =
    λ i e. pick_same i j (1 - safe.homes i) (safe.homes i) e ∙ ap (λ (k : ℕ). 1 - safe.homes k) e ∙ ap (λ (h : ℕ). 1 - h) is in
    record {
      head_kept = settled 0;
      head = keeps.reads 0 (inl (omega arith)) ∙ stands.head;
      cells = λ i within. record {
        gate_kept = settled (cell_at i);
        home_kept = settled (cell_at i + 1 + later.homes i);
        gate = elim (cases_eq i j) [
          | inl e ↦ subst (λ (k : ℕ). gate_of (new.reads (cell_at k)) ≡ 1 - home) (sym e) cell.gate ∙ sym (turned i e)
          | inr ne ↦ ap gate_of (keeps.reads (cell_at i) (cell_outside j i ne).0) ∙ (stands.cells i within).gate
              ∙ sym (pick_other i j (1 - safe.homes i) (safe.homes i) ne)
        ];
      };
      tables = λ i within. elim (cases_eq i j) [
        | inl e ↦
            ap (λ (h : ℕ). new.reads (cell_at i + 1 + h)) (turned i e)
            ∙ subst (λ (k : ℕ). new.reads (cell_at k + 1 + (1 - home)) ≡ table) (sym e) there
            ∙ sym (pick_same i j table (safe.tables i) e)
        | inr ne ↦
            let two = homes_two old (cell_at i) (safe.homes i) (stands.cells i within) in
            ap (λ (h : ℕ). new.reads (cell_at i + 1 + h)) (pick_other i j (1 - safe.homes i) (safe.homes i) ne)
            ∙ keeps.reads (cell_at i + 1 + safe.homes i) (home_outside j i (safe.homes i) ne two) ∙ stands.tables i within
            ∙ sym (pick_other i j table (safe.tables i) ne)
      ];
      kept = λ i c at. settled (place_of shape (later.tables i) i c);
    }

-- The same of a cell whose place and whose new home are given otherwise.
pub put_passes_at : (shape : Shape) (safe : Safe) (before after : ℕ → ℕ → List ℕ) (table : List ℕ) (j at : ℕ) (f g : Fuse) (old new : Timeline)
    → at ≡ cell_at j → j ≤ shape.files → Stands shape safe (present old) → HasContent shape safe.tables before (contents old)
    → HasContent shape (with_table safe j table).tables after (contents old)
    → Passes f g old new (OldOrNew at (present old) (cell_of (contents old) at) table)
    → Passes f g old new (λ image. Holds shape safe before image ⊎ Holds shape (with_table safe j table) after image)
put_passes_at shape safe before after table j at f g old new e le stands had has passes =
    put_passes shape safe before after table j f g old new le stands had has
    (subst (λ (a : ℕ). Passes f g old new (OldOrNew a (present old) (cell_of (contents old) a) table)) e passes)

pub stands_put_at : (shape : Shape) (safe : Safe) (table : List ℕ) (j home at turned : ℕ) (old new : DiskState) → at ≡ cell_at j
    → turned ≡ 1 - home → j ≤ shape.files → safe.homes j ≡ home → Stands shape safe old → Keeps at old new → IsCell new at turned
    → new.reads (at + 1 + turned) ≡ table → IsSettled new → Stands shape (with_table safe j table) new
stands_put_at shape safe table j home at turned old new e t le is stands keeps cell there settled =
    stands_put shape safe table j home old new le is stands (subst (λ (a : ℕ). Keeps a old new) e keeps)
    (subst (λ (h : ℕ). IsCell new (cell_at j) h) t (subst (λ (a : ℕ). IsCell new a turned) e cell))
    (subst (λ (h : ℕ). new.reads (cell_at j + 1 + h) ≡ table) t (subst (λ (a : ℕ). new.reads (a + 1 + turned) ≡ table) e there))
    settled

pub is_cell_at : (s : DiskState) (j at home other : ℕ) → at ≡ cell_at j → other ≡ home → IsCell s (cell_at j) other → IsCell s at home
is_cell_at s j at home other e h cell =
    subst (λ (a : ℕ). IsCell s a home) (sym e) (subst (λ (k : ℕ). IsCell s (cell_at j) k) h cell)
