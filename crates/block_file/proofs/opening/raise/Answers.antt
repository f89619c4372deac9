use Rattle.std.proofs.Common.{◌≡◌, ℕ, ◌+◌, ◌-◌, ◌<◌, false, List, [], ◌⊎◌, length, set, slice_index, slice_index_or, refl, sym, ◌∙◌, ap, subst, arith}
use Rattle.std.proofs.lemmas.List.{get_or_read, get_or-set_other}
use Rattle.disk_model.specs.Disk.{DiskState}
use Rattle.disk_model.specs.declared.disk.Io.TheVariants.{Done}
use Rattle.disk_model.specs.Elapsed.{present}
use Rattle.disk_model.specs.Passes.{Passes}
use Rattle.block_file.specs.Layout.{boot_in}
use Rattle.block_file.specs.Stored.{tag_of, home_of}
use Rattle.block_file.specs.Blocks.{Safe, Stands, HasContent, Holds}
use Rattle.block_file.specs.Opened.{IsOpen, Reopens, held_of}
use Rattle.block_file.proofs.Openings.{content_of, safe_of, open_set, volume_set}
use Rattle.block_file.proofs.Raised.{raised, settled_stands, settled_holds, has_raised, raise_passes, open_raised, files_raised, volume_raised}
use Rattle.block_file.proofs.opening.raise.Given.{Over}
use Rattle.block_file.proofs.opening.raise.Goals as goal
use Rattle.block_file.proofs.opening.raise.Goals.{After-put_table}

-- an opening that has put the next boot number, or has failed to
module _ (g : Over) (c : After-put_table g) where
  abbrev told : Type 0
  told = g.D.Disk.Told

  abbrev homes : ℕ → ℕ
  homes = λ j. slice_index c.args.loaded.now.cells.homes.items j

  abbrev newest : ℕ → List ℕ
  newest = λ j. slice_index_or c.args.loaded.now.cells.newest.items j []

  abbrev tables : ℕ → List ℕ
  tables = λ j. slice_index_or c.args.loaded.now.cells.tables.items j []

  abbrev first : DiskState
  first = present (g.D.Disk.timeline c.args.disk.now)

  abbrev later : DiskState
  later = present (g.D.Disk.timeline c.put_table.new.disk)

  abbrev table : List ℕ
  table = c.boot_block-table.result

  abbrev after : Safe
  after = raised homes tables first.reads table

  home_there : 0 < length c.args.loaded.now.cells.homes.items
  home_there = omega (arith, c.requires.lists.homes)

  table_there : 0 < length c.args.loaded.now.cells.tables.items
  table_there = omega (arith, c.requires.lists.tables)

  home_is : c.index.result.now ≡ homes 0
  home_is = get_or_read c.args.loaded.now.cells.homes.items _ _ home_there c.index.ensures 0

  boot_is : boot_in table ≡ c.args.loaded.now.boot + 1
  boot_is = c.boot_block-table.ensures

  stood : told → Stands c.args.loaded.now.shape (safe_of homes tables first.reads) first
  stood o = settled_stands c.args.loaded.now.shape homes tables first (c.requires.settled o) (c.requires.loaded.cells o)

  held : told → Holds c.args.loaded.now.shape (safe_of homes tables first.reads) (content_of c.args.loaded.now.shape tables first.reads) first.reads
  held o = settled_holds c.args.loaded.now.shape homes tables first (c.requires.settled o) (c.requires.loaded.cells o)

  leaves : told → Passes (g.D.Disk.fuse c.args.disk.now) (g.D.Disk.fuse c.put_table.new.disk) (g.D.Disk.timeline c.args.disk.now) (g.D.Disk.timeline c.put_table.new.disk)
      (λ image. Reopens (g.D.Disk.size c.args.disk.now) 0 first.reads image ⊎ Reopens (g.D.Disk.size c.args.disk.now) 1 first.reads image)
  leaves o =
      let v = c.args.loaded.now in
      let content = content_of v.shape tables first.reads in
      raise_passes told (g.D.Disk.size c.args.disk.now) v.shape v.tag v.boot homes tables first.reads c.requires.loaded o (c.requires.clean o) (held o) table boot_is _ _ _ _
      (c.put_table.ensures.any_moment o (safe_of homes tables first.reads) content content (sym home_is) (stood o) (λ j b at. refl)
      (has_raised v.shape homes tables first.reads table))

  -- where it is done
  stands : c.put_table.result ≡ Done → told → Stands c.args.loaded.now.shape after later
  stands done o = c.put_table.ensures.stands o done (safe_of homes tables first.reads) (sym home_is) (stood o)

  has : told → HasContent c.args.loaded.now.shape after.tables (content_of c.args.loaded.now.shape tables first.reads) later.reads
  has o = c.put_table.ensures.content o after.tables (content_of c.args.loaded.now.shape tables first.reads) (has_raised c.args.loaded.now.shape homes tables first.reads table)

pub returns-in-Failed-clause-tag : goal.returns-in-Failed-clause-tag
unfolding tag_of
returns-in-Failed-clause-tag g c = λ told. sym (c.requires.loaded.head told).tag_is

pub returns-in-Failed-clause-any_moment : goal.returns-in-Failed-clause-any_moment
returns-in-Failed-clause-any_moment g c = λ told. leaves g (goal.at.returns-in-Failed-clause-any_moment g c).After-put_table told

pub returns-in-Done-clause-tag : goal.returns-in-Done-clause-tag
unfolding tag_of
returns-in-Done-clause-tag g c = λ told. sym (c.requires.loaded.head told).tag_is

pub returns-in-Done-clause-any_moment : goal.returns-in-Done-clause-any_moment
returns-in-Done-clause-any_moment g c = λ told. leaves g (goal.at.returns-in-Done-clause-any_moment g c).After-put_table told

pub returns-in-Failed-clause-homes : goal.returns-in-Failed-clause-homes
unfolding home_of
returns-in-Failed-clause-homes g c = λ told j some there. (c.requires.loaded.cells told).homes_are j there

pub returns-in-Done-clause-homes : goal.returns-in-Done-clause-homes
unfolding home_of
returns-in-Done-clause-homes g c = λ told j some there.
    get_or-set_other c.args.loaded.now.cells.homes.items 0 j c.put_table.new.home 0 (omega arith) ∙ (c.requires.loaded.cells told).homes_are j there

pub returns-in-Done-clause-opened : goal.returns-in-Done-clause-opened
returns-in-Done-clause-opened g c = λ done.
    let v = c.args.loaded.now in
    let put = (goal.at.returns-in-Done-clause-opened g c).After-put_table in
    let held = held_of v.shape (newest g put) (later g put).reads in
    subst (λ (n : ℕ). IsOpen g.D.Disk.Told n (later g put) v.shape v.tag (v.boot + 1) 0 false 0 (λ j. slice_index (set v.cells.homes.items 0 c.put_table.new.home) j) held
    (λ j. slice_index_or (set v.cells.tables.items 0 (table g put)) j [])) (sym c.put_table.ensures.size)
    (open_set g.D.Disk.Told (g.D.Disk.size c.args.disk.now) (later g put) v.shape v.tag (v.boot + 1) 0 false 0 v.cells.homes.items held v.cells.tables.items 0 c.put_table.new.home (table g put)
    (home_there g put) (table_there g put) (c.in-Done.ensures.turned refl ∙ ap (λ (h : ℕ). 1 - h) (home_is g put))
    (open_raised g.D.Disk.Told (g.D.Disk.size c.args.disk.now) v.shape v.tag v.boot (homes g put) (tables g put) (first g put).reads c.requires.loaded (table g put) (boot_is g put) (later g put)
    (stands g put c.in-Done.is) (has g put) held c.requires.clean))

pub returns-in-Done-clause-volume : goal.returns-in-Done-clause-volume
returns-in-Done-clause-volume g c = λ told done.
    let v = c.args.loaded.now in
    let put = (goal.at.returns-in-Done-clause-volume g c).After-put_table in
    volume_set v.shape (v.boot + 1) 0 false 0 (held_of v.shape (newest g put) (later g put).reads) v.cells.tables.items 0 (table g put) (later g put).reads (table_there g put)
    ∙ volume_raised g.D.Disk.Told (g.D.Disk.size c.args.disk.now) v.shape v.tag v.boot (homes g put) (tables g put) (first g put).reads c.requires.loaded (table g put) (boot_is g put) (later g put)
    (stands g put c.in-Done.is) (has g put) (newest g put) c.requires.lists.same told (held g put told) (c.requires.clean told)

pub returns-in-Done-clause-files : goal.returns-in-Done-clause-files
returns-in-Done-clause-files g c = λ done.
    let v = c.args.loaded.now in
    let put = (goal.at.returns-in-Done-clause-files g c).After-put_table in
    files_raised g.D.Disk.Told (g.D.Disk.size c.args.disk.now) v.shape v.tag v.boot (homes g put) (tables g put) (first g put).reads c.requires.loaded (table g put) (boot_is g put) (later g put)
    (stands g put c.in-Done.is) (has g put) (newest g put) c.requires.lists.same c.requires.clean
