use Rattle.std.proofs.Common.{◌≡◌, ℕ, ◌-◌, ◌<◌, ◌≤◌, true, List, [], ◌⊎◌, length, set, slice_index, slice_index_or, refl, sym, ◌∙◌, ap, subst, arith}
use Rattle.std.proofs.lemmas.List.{get_or_read, length-set}
use Rattle.copy_model.specs.Volume.{fail_commit, commit}
use Rattle.disk_model.specs.declared.disk.Io.TheVariants.{Done}
use Rattle.disk_model.specs.Elapsed.{Timeline, present, contents}
use Rattle.disk_model.specs.Passes.{Passes}
use Rattle.block_file.specs.Stored.{blocks_by}
use Rattle.block_file.specs.Blocks.{Safe, HasContent, Stands, Holds, with_table, with_bytes}
use Rattle.block_file.specs.Opened.{Opened, MayBeLeft, homes_by, turned, StandsFor, SameOpening, held_of, volume_at, IsKept}
use Rattle.block_file.proofs.Openings.{content_of, safe_of, same_opening}
use Rattle.block_file.proofs.Kept.{there_is, opened_now, content_put, commit_passes, kept_committed, kept_doubted, committed_volume, doubted_volume, kept_set, tables_set}
use Rattle.block_file.proofs.volume.Volume.commit.Given.{Over}
use Rattle.block_file.proofs.volume.Volume.commit.Goals as goal
use Rattle.block_file.proofs.volume.Volume.commit.Goals.{Else-self, After-put_table}

-- the file is one of the volume's
file_there : (g : Over) (c : Else-self g) → c.args.file ≤ c.self.inside.shape.files
file_there g c =
    let v = c.self.inside in
    let newest : ℕ → List ℕ = λ j. slice_index_or v.newest.items j [] in
    let tables : ℕ → List ℕ = λ j. slice_index_or v.tables.items j [] in
    let image = ((g.D.Disk.timeline v.disk).state v.moment).reads in
    there_is v.shape v.boot v.writes v.broken v.doubt newest tables image c.args.file (rw (← c.self.view_is) at c.requires.there)

-- a commit that has put the file's newest table, or has failed to
module _ (g : Over) (c : After-put_table g) where
  abbrev told : Type 0
  told = g.D.Disk.Told

  abbrev first : Timeline
  first = g.D.Disk.timeline c.self.inside.disk

  abbrev later : Timeline
  later = g.D.Disk.timeline c.put_table.new.disk

  abbrev homes : ℕ → ℕ
  homes = λ j. slice_index c.self.inside.homes.items j

  abbrev newest : ℕ → List ℕ
  newest = λ j. slice_index_or c.self.inside.newest.items j []

  abbrev tables : ℕ → List ℕ
  tables = λ j. slice_index_or c.self.inside.tables.items j []

  abbrev safe : Safe
  safe = safe_of homes tables (contents first)

  abbrev before : ℕ → ℕ → List ℕ
  before = content_of c.self.inside.shape tables (contents first)

  abbrev after : ℕ → ℕ → List ℕ
  after = with_bytes before c.args.file (blocks_by c.self.inside.shape.files c.self.inside.shape.blocks (newest c.args.file) (contents first) c.args.file)

  there : c.args.file ≤ c.self.inside.shape.files
  there =
      let v = c.self.inside in
      there_is v.shape v.boot v.writes v.broken v.doubt newest tables (first.state v.moment).reads c.args.file (rw (← c.self.view_is) at c.requires.there)

  home_there : c.args.file < length c.self.inside.homes.items
  home_there = omega (arith, there, c.self.invariant.0)

  table_there : c.args.file < length c.self.inside.tables.items
  table_there = omega (arith, there, c.self.invariant.1)

  home_is : c.index.result.now ≡ homes c.args.file
  home_is = get_or_read c.self.inside.homes.items _ _ home_there c.index.ensures 0

  table_is : c.table_at-next.result ≡ newest c.args.file
  table_is = c.table_at-next.ensures

  stood : told → Stands c.self.inside.shape safe (present first)
  stood o =
      let v = c.self.inside in
      (opened_now told (g.D.Disk.size v.disk) first v.moment v.shape v.tag v.boot v.writes v.broken v.doubt homes newest tables c.self.invariant.3 c.if-self.false).stands o c.if-self.false

  -- a crash during it leaves the safe table or the newest one
  passes : told → Passes (g.D.Disk.fuse c.self.inside.disk) (g.D.Disk.fuse c.put_table.new.disk) first later
      (λ image. Holds c.self.inside.shape safe before image ⊎ Holds c.self.inside.shape (with_table safe c.args.file (newest c.args.file)) after image)
  passes o =
      let v = c.self.inside in
      subst (λ (l : List ℕ). Passes (g.D.Disk.fuse v.disk) (g.D.Disk.fuse c.put_table.new.disk) first later
      (λ image. Holds v.shape safe before image ⊎ Holds v.shape (with_table safe c.args.file l) after image)) table_is
      (c.put_table.ensures.any_moment o safe before after (sym home_is) (stood o) (λ j b at. refl)
      (subst (λ (l : List ℕ). HasContent v.shape (with_table safe c.args.file l).tables after (contents first)) (sym table_is)
      (content_put told (g.D.Disk.size v.disk) first later v.moment v.shape v.tag v.boot v.writes v.broken v.doubt homes newest tables c.self.invariant.3 c.if-self.false
      c.args.file c.requires.no_root there c.blocks-count.ensures.whole o)))

  past : told → (k : ℕ) → k ≤ first.latest → later.state k ≡ first.state k
  past o = (passes o).time.past

  leaves : told → Passes (g.D.Disk.fuse c.args.self.now.disk) (g.D.Disk.fuse c.put_table.new.disk) (g.D.Disk.timeline c.args.self.now.disk) later
      (MayBeLeft (g.D.Disk.size c.args.self.now.disk) c.args.self.now.tag (homes_by c.args.self.now.homes) (fail_commit c.args.self.now.volume c.args.file))
  leaves o =
      let v = c.self.inside in
      subst (λ (w : Opened g.row.D.Denot). Passes (g.D.Disk.fuse w.disk) (g.D.Disk.fuse c.put_table.new.disk) (g.D.Disk.timeline w.disk) later
      (MayBeLeft (g.D.Disk.size w.disk) w.tag (homes_by w.homes) (fail_commit w.volume c.args.file))) c.self.view_is
      (commit_passes told (g.D.Disk.size v.disk) first later v.moment v.shape v.tag v.boot v.writes v.broken v.doubt homes newest tables c.self.invariant.3 c.if-self.false
      c.args.file c.requires.no_root there c.blocks-count.ensures.whole o _ _ (passes o))

  -- where it has failed
  doubted : let v = c.self.inside in
      IsKept told (g.D.Disk.size c.put_table.new.disk) later v.moment v.shape v.tag v.boot v.writes true c.args.file homes newest tables
  doubted =
      let v = c.self.inside in
      subst (λ (n : ℕ). IsKept told n later v.moment v.shape v.tag v.boot v.writes true c.args.file homes newest tables) (sym c.put_table.ensures.size)
      (kept_doubted told (g.D.Disk.size v.disk) first later v.moment v.shape v.tag v.boot v.writes v.broken v.doubt homes newest tables c.self.invariant.3 c.if-self.false
      c.args.file c.requires.no_root there c.blocks-count.ensures.whole past
      (λ o image may. (passes o).each _ (passes o).time.later (omega arith) image may))

  -- where it is done, at this moment
  committed : c.put_table.result ≡ Done → (moment : ℕ) → (told → moment ≡ later.latest) → let v = c.self.inside in
      IsKept told (g.D.Disk.size c.put_table.new.disk) later moment v.shape v.tag v.boot v.writes v.broken v.doubt
      (λ j. slice_index (set v.homes.items c.args.file c.put_table.new.home) j) newest (λ j. slice_index_or (set v.tables.items c.args.file c.table_at-next.result) j [])
  committed done moment is =
      let v = c.self.inside in
      let file = c.args.file in
      let next = c.table_at-next.result in
      let stands : told → Stands v.shape (with_table safe file (newest file)) (present later) = λ o.
      subst (λ (l : List ℕ). Stands v.shape (with_table safe file l) (present later)) table_is (c.put_table.ensures.stands o done safe (sym home_is) (stood o)) in
      let home : c.put_table.new.home ≡ 1 - homes file = c.put_table.ensures.turned done ∙ ap (λ (h : ℕ). 1 - h) home_is in
      subst (λ (n : ℕ). IsKept told n later moment v.shape v.tag v.boot v.writes v.broken v.doubt
      (λ j. slice_index (set v.homes.items file c.put_table.new.home) j) newest (λ j. slice_index_or (set v.tables.items file next) j [])) (sym c.put_table.ensures.size)
      (kept_set told (g.D.Disk.size v.disk) later moment v.shape v.tag v.boot v.writes v.broken v.doubt v.homes.items newest v.tables.items file c.put_table.new.home next home_there table_there home
      (subst (λ (l : List ℕ). IsKept told (g.D.Disk.size v.disk) later moment v.shape v.tag v.boot v.writes v.broken v.doubt (with_table safe file l).homes newest (with_table safe file l).tables) (sym table_is)
      (kept_committed told (g.D.Disk.size v.disk) first later v.moment v.shape v.tag v.boot v.writes v.broken v.doubt homes newest tables c.self.invariant.3 c.if-self.false
      file c.requires.no_root there c.blocks-count.ensures.whole moment is stands c.put_table.ensures.content)))

pub returns-then-self-clause-stands : goal.returns-then-self-clause-stands
returns-then-self-clause-stands g c = λ told.
    subst (λ (v : Opened g.row.D.Denot). StandsFor g.D.Disk.timeline g.D.Disk.size v) c.self.view_is
    (λ image may. c.self.invariant.3.left told image may)

pub table_at-next-requires : goal.table_at-next-requires
table_at-next-requires g c =
    let there = file_there g (goal.at.table_at-next-requires g c).Else-self in
    omega (arith, there, c.self.invariant.2)

pub index-requires : goal.index-requires
index-requires g c =
    let there = file_there g (goal.at.index-requires g c).Else-self in
    omega (arith, there, c.self.invariant.0)

pub put_table-requires : goal.put_table-requires
put_table-requires g c =
    let there = file_there g (goal.at.put_table-requires g c).Else-self in
    let opened = c.self.invariant.3.opened in
    let inside : c.args.file < length c.self.inside.homes.items = omega (arith, there, c.self.invariant.0) in
    let home_is = get_or_read c.self.inside.homes.items _ _ inside c.index.ensures 0 in
    let two = opened.two c.args.file there in
    record {
      within = there;
      home = omega (arith, home_is, two);
      room = omega (arith, opened.room, c.blocks-count.ensures.count);
    }

pub invariant_of-self : goal.invariant_of-self
invariant_of-self g c = (
  c.self.invariant.0,
  c.self.invariant.1,
  c.self.invariant.2,
  doubted g (goal.at.invariant_of-self g c).After-put_table,
)

pub returns-in-Failed-clause-failed : goal.returns-in-Failed-clause-failed
returns-in-Failed-clause-failed g c = λ told is.
    let v = c.self.inside in
    let put = (goal.at.returns-in-Failed-clause-failed g c).After-put_table in
    subst (λ (w : Opened g.row.D.Denot). volume_at v.shape v.boot v.writes true c.args.file (newest g put) (tables g put) ((later g put).state v.moment).reads ≡ fail_commit w.volume c.args.file) c.self.view_is
    (doubted_volume g.D.Disk.Told (g.D.Disk.size v.disk) (first g put) (later g put) v.moment v.shape v.tag v.boot v.writes v.broken v.doubt (homes g put) (newest g put) (tables g put)
    c.self.invariant.3 c.if-self.false c.args.file c.requires.no_root (there g put) c.blocks-count.ensures.whole (past g put) told)

pub returns-in-Failed-clause-any_moment : goal.returns-in-Failed-clause-any_moment
returns-in-Failed-clause-any_moment g c = λ told unbroken. leaves g (goal.at.returns-in-Failed-clause-any_moment g c).After-put_table told

pub returns-in-Failed-clause-stands : goal.returns-in-Failed-clause-stands
returns-in-Failed-clause-stands g c = λ told left may. (doubted g (goal.at.returns-in-Failed-clause-stands g c).After-put_table).left told left may

pub invariant_of-self-in-Done : goal.invariant_of-self-in-Done
invariant_of-self-in-Done g c = (
  length-set c.self.inside.homes.items c.args.file c.put_table.new.home ∙ c.self.invariant.0,
  length-set c.self.inside.tables.items c.args.file c.table_at-next.result ∙ c.self.invariant.1,
  c.self.invariant.2,
  committed g (goal.at.invariant_of-self-in-Done g c).After-put_table c.in-Done.is c.moment-self-inside.result c.moment-self-inside.ensures.latest,
)

pub returns-in-Done-clause-committed : goal.returns-in-Done-clause-committed
returns-in-Done-clause-committed g c = λ told ok.
    let v = c.self.inside in
    let file = c.args.file in
    let next = c.table_at-next.result in
    let moment = c.moment-self-inside.result in
    let put = (goal.at.returns-in-Done-clause-committed g c).After-put_table in
    subst (λ (w : Opened g.row.D.Denot). volume_at v.shape v.boot v.writes v.broken v.doubt (newest g put) (λ j. slice_index_or (set v.tables.items file next) j []) ((later g put).state moment).reads
    ≡ commit w.volume file) c.self.view_is
    (tables_set v.shape v.boot v.writes v.broken v.doubt (newest g put) v.tables.items file next ((later g put).state moment).reads (table_there g put)
    ∙ ap (λ (l : List ℕ). volume_at v.shape v.boot v.writes v.broken v.doubt (newest g put) (with_table (safe g put) file l).tables ((later g put).state moment).reads) (table_is g put)
    ∙ committed_volume g.D.Disk.Told (g.D.Disk.size v.disk) (first g put) (later g put) v.moment v.shape v.tag v.boot v.writes v.broken v.doubt (homes g put) (newest g put) (tables g put)
    c.self.invariant.3 c.if-self.false file c.requires.no_root (there g put) c.blocks-count.ensures.whole told moment (c.moment-self-inside.ensures.latest told) (c.put_table.ensures.content told))

pub returns-in-Done-clause-any_moment : goal.returns-in-Done-clause-any_moment
returns-in-Done-clause-any_moment g c = λ told unbroken. leaves g (goal.at.returns-in-Done-clause-any_moment g c).After-put_table told

pub returns-in-Done-clause-stands : goal.returns-in-Done-clause-stands
returns-in-Done-clause-stands g c = λ told left may.
    (committed g (goal.at.returns-in-Done-clause-stands g c).After-put_table c.in-Done.is c.moment-self-inside.result c.moment-self-inside.ensures.latest).left told left may

pub returns-in-Failed-clause-opening : goal.returns-in-Failed-clause-opening
returns-in-Failed-clause-opening g c =
    let v = c.self.inside in
    let put = (goal.at.returns-in-Failed-clause-opening g c).After-put_table in
    let image = ((first g put).state v.moment).reads in
    let now = ((later g put).state v.moment).reads in
    subst (λ (w : Opened g.row.D.Denot). SameOpening w.volume (volume_at v.shape v.boot v.writes true c.args.file (newest g put) (tables g put) now)) c.self.view_is
    (same_opening v.shape v.boot v.writes v.writes v.broken true v.doubt c.args.file (held_of v.shape (newest g put) image) (held_of v.shape (newest g put) now) (tables g put) (tables g put) image now)

pub returns-in-Done-clause-opening : goal.returns-in-Done-clause-opening
returns-in-Done-clause-opening g c =
    let v = c.self.inside in
    let put = (goal.at.returns-in-Done-clause-opening g c).After-put_table in
    let image = ((first g put).state v.moment).reads in
    let now = ((later g put).state c.moment-self-inside.result).reads in
    let next : ℕ → List ℕ = λ j. slice_index_or (set v.tables.items c.args.file c.table_at-next.result) j [] in
    subst (λ (w : Opened g.row.D.Denot). SameOpening w.volume (volume_at v.shape v.boot v.writes v.broken v.doubt (newest g put) next now)) c.self.view_is
    (same_opening v.shape v.boot v.writes v.writes v.broken v.broken v.doubt v.doubt (held_of v.shape (newest g put) image) (held_of v.shape (newest g put) now) (tables g put) next image now)

pub returns-in-Done-clause-homes : goal.returns-in-Done-clause-homes
returns-in-Done-clause-homes g c = λ done.
    let put = (goal.at.returns-in-Done-clause-homes g c).After-put_table in
    subst (λ (w : Opened g.row.D.Denot). set c.self.inside.homes.items c.args.file c.put_table.new.home ≡ turned w.homes c.args.file) c.self.view_is
    (ap (set c.self.inside.homes.items c.args.file) (c.in-Done.ensures.turned refl ∙ ap (λ n. 1 - n) (home_is g put)))
