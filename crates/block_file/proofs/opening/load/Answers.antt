use Rattle.std.proofs.Common.{◌≡◌, ◌≢◌, ℕ, ◌+◌, ◌*◌, List, length, [], slice_index, slice_index_or, sym, ◌∙◌, ap, subst, arith}
use Rattle.disk_model.specs.Disk.{Image}
use Rattle.disk_model.specs.Elapsed.{Timeline, contents}
use Rattle.block_file.specs.Layout.{boot_in}
use Rattle.block_file.specs.Loaded.{AreCells}
use Rattle.block_file.proofs.Loads.{oversized_none}
use Rattle.block_file.proofs.Off.{flaw_cells, sound_cells}
use Rattle.block_file.proofs.opening.load.Goals as goal

pub returns-in-Some-cell_flaw-clause-refused : goal.returns-in-Some-cell_flaw-clause-refused
returns-in-Some-cell_flaw-clause-refused g c = λ told.
    let size = g.D.Disk.size c.args.disk.now in
    let image = contents (g.D.Disk.timeline c.args.disk.now) in
    let shape = c.in-Ok.head.0 in
    let homes : ℕ → ℕ = λ j. slice_index c.in-Some.cells.homes.items j in
    let tables : ℕ → List ℕ = λ j. slice_index_or c.in-Some.cells.tables.items j [] in
    let room = c.in-Ok.ensures.room in
    let some : size ≢ 0 = omega (arith, room) in
    let cells : AreCells shape.files homes tables image =
    subst (λ (i : Image). AreCells shape.files homes tables i) (c.in-Ok.ensures.reads told) (rw c.in-Some.is at (c.in_ok-load_cells.ensures.read told)) in
    flaw_cells size shape c.in-Ok.head.1 homes tables image some (c.in-Ok.ensures.head told) cells ∙ sym c.in-Some-cell_flaw.ensures.flaw

pub returns-clause-refused : goal.returns-clause-refused
returns-clause-refused g c = λ told.
    let size = g.D.Disk.size c.args.disk.now in
    let image = contents (g.D.Disk.timeline c.args.disk.now) in
    let shape = c.in-Ok.head.0 in
    let homes : ℕ → ℕ = λ j. slice_index c.in-Some.cells.homes.items j in
    let tables : ℕ → List ℕ = λ j. slice_index_or c.in-Some.cells.tables.items j [] in
    let room = c.in-Ok.ensures.room in
    let some : size ≢ 0 = omega (arith, room) in
    let cells : AreCells shape.files homes tables image =
    subst (λ (i : Image). AreCells shape.files homes tables i) (c.in-Ok.ensures.reads told) (rw c.in-Some.is at (c.in_ok-load_cells.ensures.read told)) in
    flaw_cells size shape c.in-Ok.head.1 homes tables image some (c.in-Ok.ensures.head told) cells ∙ sym c.in-None-cell_flaw.ensures.flaw

pub returns-clause-loaded : goal.returns-clause-loaded
returns-clause-loaded g c =
    let size = g.D.Disk.size c.args.disk.now in
    let image = contents (g.D.Disk.timeline c.args.disk.now) in
    let shape = c.in-Ok.head.0 in
    let homes : ℕ → ℕ = λ j. slice_index c.in-Some.cells.homes.items j in
    let tables : ℕ → List ℕ = λ j. slice_index_or c.in-Some.cells.tables.items j [] in
    let sound = sound_cells shape.files (shape.blocks * 4096) homes tables (sym c.in-None-cell_flaw.ensures.flaw) in
    let boot : c.boot_in.result ≡ boot_in (tables 0) = c.boot_in.ensures ∙ ap boot_in c.table_at.ensures in
    let low : c.boot_in.result ≢ 4294967295 = λ e. sound.0 (sym boot ∙ e) in
    record {
      room = c.in-Ok.ensures.room;
      two = rw c.in-Some.is at c.in_ok-load_cells.ensures.two;
      boot_is = sym boot;
      next = omega (arith, low, c.boot_in.type_inv);
      sizes = λ j from to. oversized_none (shape.blocks * 4096) tables 1 shape.files sound.1 j from (omega arith);
      whole = λ told.
          subst (λ (i : Image). (b : ℕ) → length (i b) ≡ 4096)
          (ap (λ (t : Timeline). contents t) (c.in_ok-load_cells.ensures.same told) ∙ c.in-Ok.ensures.reads told) (c.blocks-count.ensures.whole told);
      head = λ told. c.in-Ok.ensures.head told;
      cells = λ told.
          subst (λ (i : Image). AreCells shape.files homes tables i) (c.in-Ok.ensures.reads told) (rw c.in-Some.is at (c.in_ok-load_cells.ensures.read told));
    }

pub returns-clause-lists : goal.returns-clause-lists
returns-clause-lists g c =
    let cells = c.in-Some.cells in
    let read = c.in_ok-load_cells.ensures in
    let same : cells.newest.items ≡ cells.tables.items = rw c.in-Some.is at read.newest in
    let len : length cells.tables.items ≡ c.in-Ok.head.0.files + 1 = rw c.in-Some.is at read.tables in
    record {
      homes = rw c.in-Some.is at read.homes;
      tables = len;
      newest = ap (λ (l : List (List ℕ)). length l) same ∙ len;
      same = λ j some there. ap (λ (l : List (List ℕ)). slice_index_or l j []) same;
    }
