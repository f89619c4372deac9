use Rattle.std.proofs.Common.{◌≡◌, ◌≢◌, ℕ, ◌+◌, ◌-◌, ◌*◌, ◌<◌, ◌≤◌, true, List, [], length, set, drop, replicate, slice_index, slice_index_or, false, Some, None, refl, sym, ◌∙◌, ap, subst, arith}
use Rattle.std.proofs.lemmas.Bool.{eqb-false, eqb-true}
use Rattle.std.proofs.lemmas.List.{get_or-set_same, get_or-set_other, length-set}
use Rattle.copy_model.specs.Volume.{write, fail_write, with_bytes_at}
use Rattle.disk_model.specs.declared.disk.Io.TheVariants.{Done}
use Rattle.disk_model.specs.Elapsed.{Timeline, present, contents}
use Rattle.disk_model.specs.Passes.{Passes, passes_none}
use Rattle.block_file.specs.Layout.{size_in}
use Rattle.block_file.specs.Stored.{blocks_by}
use Rattle.block_file.specs.Blocks.{Safe, HasContent, Stands, Holds}
use Rattle.block_file.specs.Held.{held_by}
use Rattle.block_file.specs.Opened.{Opened, MayBeLeft, homes_by, StandsFor, SameOpening, held_of, volume_at, IsKept, refusal_of}
use Rattle.block_file.proofs.Openings.{content_of, safe_of, passed_test, no_failure, write_empty, same_opening}
use Rattle.block_file.proofs.Kept.{there_is, opened_now, files_now, kept_broken, broken_volume, write_passes, kept_written, written_volume}
use Rattle.block_file.proofs.volume.Volume.write.Given.{Over}
use Rattle.block_file.proofs.volume.Volume.write.Goals as goal
use Rattle.block_file.proofs.volume.Volume.write.Goals.{After-refusal, After-write_file}

-- the file is one of the volume's
file_there : (g : Over) (c : After-refusal g) → c.args.file ≤ c.self.inside.shape.files
file_there g c =
    let v = c.self.inside in
    let newest : ℕ → List ℕ = λ j. slice_index_or v.newest.items j [] in
    let tables : ℕ → List ℕ = λ j. slice_index_or v.tables.items j [] in
    let image = ((g.D.Disk.timeline v.disk).state v.moment).reads in
    there_is v.shape v.boot v.writes v.broken v.doubt newest tables image c.args.file (rw (← c.self.view_is) at c.requires.there)

-- what was tested is the volume as contracts see it
tested : (g : Over) (c : After-refusal g) → let v = c.args.self.now.volume in
    refusal_of v.broken v.writes v.capacity c.args.off (length c.args.bytes.now) ≡ c.refusal.result
tested g c =
    let v = c.self.inside in
    subst (λ (w : Opened g.row.D.Denot). refusal_of w.volume.broken w.volume.writes w.volume.capacity c.args.off (length c.args.bytes.now) ≡ c.refusal.result) c.self.view_is
    (ap (λ (n : ℕ). refusal_of v.broken v.writes (n * 4096) c.args.off (length c.args.bytes.now)) (sym c.from-capacity.ensures) ∙ sym c.refusal.ensures)

-- a crash before the disk is called
untouched : (g : Over) (c : After-refusal g) → g.D.Disk.Told → let w = c.args.self.now in
    Passes (g.D.Disk.fuse w.disk) (g.D.Disk.fuse w.disk) (g.D.Disk.timeline w.disk) (g.D.Disk.timeline w.disk) (MayBeLeft (g.D.Disk.size w.disk) w.tag (homes_by w.homes) w.volume)
untouched g c told =
    subst (λ (w : Opened g.row.D.Denot). Passes (g.D.Disk.fuse w.disk) (g.D.Disk.fuse w.disk) (g.D.Disk.timeline w.disk) (g.D.Disk.timeline w.disk)
    (MayBeLeft (g.D.Disk.size w.disk) w.tag (homes_by w.homes) w.volume)) c.self.view_is
    (passes_none _ _ _ (c.self.invariant.3.left told))

-- a write that has written, or has failed to
module _ (g : Over) (c : After-write_file g) where
  abbrev told : Type 0
  told = g.D.Disk.Told

  abbrev first : Timeline
  first = g.D.Disk.timeline c.self.inside.disk

  abbrev later : Timeline
  later = g.D.Disk.timeline c.write_file.new.disk

  abbrev homes : ℕ → ℕ
  homes = λ j. slice_index c.self.inside.homes.items j

  abbrev newest : ℕ → List ℕ
  newest = λ j. slice_index_or c.self.inside.newest.items j []

  abbrev tables : ℕ → List ℕ
  tables = λ j. slice_index_or c.self.inside.tables.items j []

  abbrev next : ℕ → List ℕ
  next = λ j. slice_index_or (set c.self.inside.newest.items c.args.file c.write_file.new.newest) j []

  abbrev safe : Safe
  safe = safe_of homes tables (contents first)

  abbrev before : ℕ → ℕ → List ℕ
  before = content_of c.self.inside.shape tables (contents first)

  there : c.args.file ≤ c.self.inside.shape.files
  there =
      let v = c.self.inside in
      there_is v.shape v.boot v.writes v.broken v.doubt newest tables (first.state v.moment).reads c.args.file (rw (← c.self.view_is) at c.requires.there)

  whole : c.self.inside.broken ≡ false
  whole = (passed_test c.self.inside.broken c.self.inside.writes (c.from-capacity.result * 4096) c.args.off (length c.args.bytes.now) (sym c.refusal.ensures ∙ c.in-None.is)).0

  table_is : tables c.args.file ≡ c.table_at-table.result
  table_is = sym c.table_at-table.ensures

  stood : told → Stands c.self.inside.shape safe (present first)
  stood o =
      let v = c.self.inside in
      (opened_now told (g.D.Disk.size v.disk) first v.moment v.shape v.tag v.boot v.writes v.broken v.doubt homes newest tables c.self.invariant.3 whole).stands o whole

  -- a crash during it leaves what was safe
  passes : told → Passes (g.D.Disk.fuse c.self.inside.disk) (g.D.Disk.fuse c.write_file.new.disk) first later (Holds c.self.inside.shape safe before)
  passes o = (c.write_file.ensures.safe o).any_moment safe before table_is (stood o) (λ j b at. refl)

  past : told → (k : ℕ) → k ≤ first.latest → later.state k ≡ first.state k
  past o = (passes o).time.past

  leaves : told → let w = c.args.self.now in
      Passes (g.D.Disk.fuse w.disk) (g.D.Disk.fuse c.write_file.new.disk) (g.D.Disk.timeline w.disk) later (MayBeLeft (g.D.Disk.size w.disk) w.tag (homes_by w.homes) w.volume)
  leaves o =
      let v = c.self.inside in
      subst (λ (w : Opened g.row.D.Denot). Passes (g.D.Disk.fuse w.disk) (g.D.Disk.fuse c.write_file.new.disk) (g.D.Disk.timeline w.disk) later
      (MayBeLeft (g.D.Disk.size w.disk) w.tag (homes_by w.homes) w.volume)) c.self.view_is
      (write_passes told (g.D.Disk.size v.disk) first later v.moment v.shape v.tag v.boot v.writes v.broken v.doubt homes newest tables c.self.invariant.3 whole o _ _ (passes o))

  -- where it has failed
  broken : let v = c.self.inside in
      IsKept told (g.D.Disk.size c.write_file.new.disk) later v.moment v.shape v.tag v.boot v.writes true v.doubt homes newest tables
  broken =
      let v = c.self.inside in
      subst (λ (n : ℕ). IsKept told n later v.moment v.shape v.tag v.boot v.writes true v.doubt homes newest tables) (sym c.write_file.ensures.size)
      (kept_broken told (g.D.Disk.size v.disk) first later v.moment v.shape v.tag v.boot v.writes v.broken v.doubt homes newest tables c.self.invariant.3 whole past
      (λ o image may. (passes o).each _ (passes o).time.later (omega arith) image may))

  next_is : next c.args.file ≡ c.write_file.new.newest
  next_is =
      let inside : c.args.file < length c.self.inside.newest.items = omega (arith, there, c.self.invariant.2) in
      get_or-set_same c.self.inside.newest.items c.args.file c.write_file.new.newest [] inside

  other : (j : ℕ) → 1 ≤ j → j ≤ c.self.inside.shape.files → j ≢ c.args.file → next j ≡ newest j
  other j low high ne = get_or-set_other c.self.inside.newest.items c.args.file j c.write_file.new.newest [] ne

  has : told → HasContent c.self.inside.shape tables before (contents later)
  has o = (c.write_file.ensures.safe o).content tables before table_is (λ j b at. refl)

  -- where it is done, at this moment
  written : c.write_file.result ≡ Done → (moment : ℕ) → (told → moment ≡ later.latest) → let v = c.self.inside in
      IsKept told (g.D.Disk.size c.write_file.new.disk) later moment v.shape v.tag v.boot (v.writes + 1) v.broken v.doubt homes next tables
  written done moment is =
      let v = c.self.inside in
      let file = c.args.file in
      subst (λ (n : ℕ). IsKept told n later moment v.shape v.tag v.boot (v.writes + 1) v.broken v.doubt homes next tables) (sym c.write_file.ensures.size)
      (kept_written told (g.D.Disk.size v.disk) first later v.moment v.shape v.tag v.boot v.writes v.broken v.doubt homes newest tables c.self.invariant.3 whole
      file next c.requires.no_root there other c.write_file.ensures.others has moment is
      (subst (λ (l : List ℕ). size_in l ≤ v.shape.blocks * 4096) (sym next_is) (c.write_file.ensures.sized done))
      (λ o. subst (λ (l : List ℕ). drop (size_in l) (blocks_by v.shape.files v.shape.blocks l (contents later) file) ≡ replicate (v.shape.blocks * 4096 - size_in l) 0) (sym next_is)
      (c.write_file.ensures.clean o done))
      (λ o. (c.write_file.ensures.safe o).stands safe table_is (stood o)))

pub returns-in-Some-clause-tested : goal.returns-in-Some-clause-tested
returns-in-Some-clause-tested g c = λ fault is.
    let test = tested g (goal.at.returns-in-Some-clause-tested g c).After-refusal in
    let same : Some c.in-Some.fault ≡ Some fault = sym c.in-Some.is ∙ (sym test ∙ is) in
    cc

pub returns-in-Some-clause-passed : goal.returns-in-Some-clause-passed
returns-in-Some-clause-passed g c = λ none err.
    let test = tested g (goal.at.returns-in-Some-clause-passed g c).After-refusal in
    let same : Some c.in-Some.fault ≡ None = sym c.in-Some.is ∙ (sym test ∙ none) in
    cc

pub returns-in-Some-clause-failed : goal.returns-in-Some-clause-failed
returns-in-Some-clause-failed g c = λ told is.
    let v = c.self.inside in
    absurd (no_failure v.broken v.writes (c.from-capacity.result * 4096) c.args.off (length c.args.bytes.now) (sym c.refusal.ensures ∙ (c.in-Some.is ∙ (cc))))

pub returns-in-Some-clause-cause : goal.returns-in-Some-clause-cause
returns-in-Some-clause-cause g c = λ is.
    let v = c.self.inside in
    absurd (no_failure v.broken v.writes (c.from-capacity.result * 4096) c.args.off (length c.args.bytes.now) (sym c.refusal.ensures ∙ (c.in-Some.is ∙ (cc))))

pub returns-in-Some-clause-any_moment : goal.returns-in-Some-clause-any_moment
returns-in-Some-clause-any_moment g c = λ told whole. untouched g (goal.at.returns-in-Some-clause-any_moment g c).After-refusal told

pub returns-in-Some-clause-stands : goal.returns-in-Some-clause-stands
returns-in-Some-clause-stands g c = λ told.
    subst (λ (v : Opened g.row.D.Denot). StandsFor g.D.Disk.timeline g.D.Disk.size v) c.self.view_is
    (λ image may. c.self.invariant.3.left told image may)

pub returns-then-is_empty-clause-tested : goal.returns-then-is_empty-clause-tested
returns-then-is_empty-clause-tested g c = λ fault is.
    let test = tested g (goal.at.returns-then-is_empty-clause-tested g c).After-refusal in
    let same : None ≡ Some fault = sym c.in-None.is ∙ (sym test ∙ is) in
    cc

pub returns-then-is_empty-clause-written : goal.returns-then-is_empty-clause-written
returns-then-is_empty-clause-written g c = λ told is.
    let none : length c.args.bytes.now ≡ 0 = eqb-true (length c.args.bytes.now) 0 (sym c.is_empty.ensures ∙ c.if-is_empty.true) in
    write_empty c.args.self.now.volume c.args.file c.args.off c.args.bytes.now none

pub returns-then-is_empty-clause-any_moment : goal.returns-then-is_empty-clause-any_moment
returns-then-is_empty-clause-any_moment g c = λ told whole. untouched g (goal.at.returns-then-is_empty-clause-any_moment g c).After-refusal told

pub returns-then-is_empty-clause-stands : goal.returns-then-is_empty-clause-stands
returns-then-is_empty-clause-stands g c = λ told.
    subst (λ (v : Opened g.row.D.Denot). StandsFor g.D.Disk.timeline g.D.Disk.size v) c.self.view_is
    (λ image may. c.self.invariant.3.left told image may)

pub overflow_add-number : goal.overflow_add-number
overflow_add-number g c =
    let v = c.self.inside in
    let off = c.args.off in
    let part = c.args.bytes.now in
    let passed = passed_test v.broken v.writes (c.from-capacity.result * 4096) off (length part) (sym c.refusal.ensures ∙ c.in-None.is) in
    let whole = passed.0 in
    omega (arith, passed.2)

pub table_at-table-requires : goal.table_at-table-requires
table_at-table-requires g c =
    let there = file_there g (goal.at.table_at-table-requires g c).After-refusal in
    omega (arith, there, c.self.invariant.1)

pub table_at-newest-requires : goal.table_at-newest-requires
table_at-newest-requires g c =
    let there = file_there g (goal.at.table_at-newest-requires g c).After-refusal in
    omega (arith, there, c.self.invariant.2)

pub write_file-requires : goal.write_file-requires
write_file-requires g c =
    let v = c.self.inside in
    let t = g.D.Disk.timeline v.disk in
    let file = c.args.file in
    let some = c.requires.no_root in
    let homes : ℕ → ℕ = λ j. slice_index v.homes.items j in
    let newest : ℕ → List ℕ = λ j. slice_index_or v.newest.items j [] in
    let tables : ℕ → List ℕ = λ j. slice_index_or v.tables.items j [] in
    let kept = c.self.invariant.3 in
    let off = c.args.off in
    let part = c.args.bytes.now in
    let there = file_there g (goal.at.write_file-requires g c).After-refusal in
    let passed = passed_test v.broken v.writes (c.from-capacity.result * 4096) off (length part) (sym c.refusal.ensures ∙ c.in-None.is) in
    let whole = passed.0 in
    let newest_is : c.table_at-newest.result ≡ newest file = c.table_at-newest.ensures in
    let files = files_now g.D.Disk.Told (g.D.Disk.size v.disk) t v.moment v.shape v.tag v.boot v.writes v.broken v.doubt homes newest tables kept whole in
    record {
      some = some;
      there = there;
      fits = omega (arith, passed.1, c.from-capacity.ensures);
      sized = subst (λ (l : List ℕ). size_in l ≤ v.shape.blocks * 4096) (sym newest_is) (files.sizes file some there);
      clean = λ told.
          subst (λ (l : List ℕ). drop (size_in l) (blocks_by v.shape.files v.shape.blocks l (contents t) file) ≡ replicate (v.shape.blocks * 4096 - size_in l) 0) (sym newest_is)
          (files.clean told file some there);
      room = kept.opened.room;
    }

pub invariant_of-self : goal.invariant_of-self
invariant_of-self g c = (
  c.self.invariant.0,
  c.self.invariant.1,
  c.self.invariant.2,
  broken g (goal.at.invariant_of-self g c).After-write_file,
)

pub returns-in-Failed-clause-tested : goal.returns-in-Failed-clause-tested
returns-in-Failed-clause-tested g c = λ fault is.
    let test = tested g (goal.at.returns-in-Failed-clause-tested g c).After-refusal in
    let same : None ≡ Some fault = sym c.in-None.is ∙ (sym test ∙ is) in
    cc

pub returns-in-Done-clause-tested : goal.returns-in-Done-clause-tested
returns-in-Done-clause-tested g c = λ fault is.
    let test = tested g (goal.at.returns-in-Done-clause-tested g c).After-refusal in
    let same : None ≡ Some fault = sym c.in-None.is ∙ (sym test ∙ is) in
    cc

pub returns-in-Failed-clause-failed : goal.returns-in-Failed-clause-failed
returns-in-Failed-clause-failed g c = λ told is.
    let v = c.self.inside in
    let put = (goal.at.returns-in-Failed-clause-failed g c).After-write_file in
    subst (λ (w : Opened g.row.D.Denot). volume_at v.shape v.boot v.writes true v.doubt (newest g put) (tables g put) ((later g put).state v.moment).reads ≡ fail_write w.volume) c.self.view_is
    (broken_volume g.D.Disk.Told (g.D.Disk.size v.disk) (first g put) (later g put) v.moment v.shape v.tag v.boot v.writes v.broken v.doubt (homes g put) (newest g put) (tables g put)
    c.self.invariant.3 (whole g put) (past g put) told)

pub returns-in-Failed-clause-any_moment : goal.returns-in-Failed-clause-any_moment
returns-in-Failed-clause-any_moment g c = λ told unbroken. leaves g (goal.at.returns-in-Failed-clause-any_moment g c).After-write_file told

pub returns-in-Failed-clause-stands : goal.returns-in-Failed-clause-stands
returns-in-Failed-clause-stands g c = λ told left may. (broken g (goal.at.returns-in-Failed-clause-stands g c).After-write_file).left told left may

pub returns-in-Failed-clause-opening : goal.returns-in-Failed-clause-opening
returns-in-Failed-clause-opening g c =
    let v = c.self.inside in
    let put = (goal.at.returns-in-Failed-clause-opening g c).After-write_file in
    let image = ((first g put).state v.moment).reads in
    let now = ((later g put).state v.moment).reads in
    subst (λ (w : Opened g.row.D.Denot). SameOpening w.volume (volume_at v.shape v.boot v.writes true v.doubt (newest g put) (tables g put) now)) c.self.view_is
    (same_opening v.shape v.boot v.writes v.writes v.broken true v.doubt v.doubt (held_of v.shape (newest g put) image) (held_of v.shape (newest g put) now) (tables g put) (tables g put) image now)

pub invariant_of-self-in-Done : goal.invariant_of-self-in-Done
invariant_of-self-in-Done g c = (
  c.self.invariant.0,
  c.self.invariant.1,
  length-set c.self.inside.newest.items c.args.file c.write_file.new.newest ∙ c.self.invariant.2,
  written g (goal.at.invariant_of-self-in-Done g c).After-write_file c.in-Done.is c.moment-self-inside.result c.moment-self-inside.ensures.latest,
)

pub returns-in-Done-clause-written : goal.returns-in-Done-clause-written
returns-in-Done-clause-written g c = λ told ok.
    let v = c.self.inside in
    let file = c.args.file in
    let off = c.args.off in
    let part = c.args.bytes.now in
    let moment = c.moment-self-inside.result in
    let put = (goal.at.returns-in-Done-clause-written g c).After-write_file in
    let some_bytes : length part ≢ 0 = eqb-false (length part) 0 (sym c.is_empty.ensures ∙ c.if-is_empty.false) in
    subst (λ (w : Opened g.row.D.Denot). volume_at v.shape v.boot (v.writes + 1) v.broken v.doubt (next g put) (tables g put) ((later g put).state moment).reads ≡ write w.volume file off part) c.self.view_is
    (written_volume g.D.Disk.Told (g.D.Disk.size v.disk) (first g put) (later g put) v.moment v.shape v.tag v.boot v.writes v.broken v.doubt (homes g put) (newest g put) (tables g put)
    c.self.invariant.3 (whole g put) file (next g put) c.requires.no_root (there g put) (other g put) c.write_file.ensures.others (has g put) moment c.moment-self-inside.ensures.latest told off part (omega arith)
    (ap (λ (l : List ℕ). held_by v.shape l (contents (later g put)) file) (next_is g put)
    ∙ c.in-Done.ensures.written told refl
    ∙ ap (λ (l : List ℕ). record { now = with_bytes_at (held_by v.shape l (contents (first g put)) file).now off part; change = c.change_after-change.result }) c.table_at-newest.ensures
    ∙ ap (λ (n : ℕ). record { now = with_bytes_at (held_by v.shape (newest g put file) (contents (first g put)) file).now off part; change = n }) c.change_after-change.ensures))

pub returns-in-Done-clause-any_moment : goal.returns-in-Done-clause-any_moment
returns-in-Done-clause-any_moment g c = λ told unbroken. leaves g (goal.at.returns-in-Done-clause-any_moment g c).After-write_file told

pub returns-in-Done-clause-stands : goal.returns-in-Done-clause-stands
returns-in-Done-clause-stands g c = λ told left may.
    (written g (goal.at.returns-in-Done-clause-stands g c).After-write_file c.in-Done.is c.moment-self-inside.result c.moment-self-inside.ensures.latest).left told left may

pub returns-in-Done-clause-opening : goal.returns-in-Done-clause-opening
returns-in-Done-clause-opening g c =
    let v = c.self.inside in
    let put = (goal.at.returns-in-Done-clause-opening g c).After-write_file in
    let image = ((first g put).state v.moment).reads in
    let now = ((later g put).state c.moment-self-inside.result).reads in
    subst (λ (w : Opened g.row.D.Denot). SameOpening w.volume (volume_at v.shape v.boot (v.writes + 1) v.broken v.doubt (next g put) (tables g put) now)) c.self.view_is
    (same_opening v.shape v.boot v.writes (v.writes + 1) v.broken v.broken v.doubt v.doubt (held_of v.shape (newest g put) image) (held_of v.shape (next g put) now) (tables g put) (tables g put) image now)
