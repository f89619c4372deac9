use Rattle.std.proofs.Common.{◌≡◌, ℕ, ◌+◌, false, List, [], length, slice_index, slice_index_or, refl, ◌∙◌, ap, arith}
use Rattle.block_file.specs.Opened.{held_of, volume_at, IsKept}
use Rattle.block_file.proofs.Kept.{kept_now}
use Rattle.block_file.proofs.Openings.{files_len}
use Rattle.block_file.proofs.Raised.{can_be_opened, fresh_is}
use Rattle.block_file.proofs.volume.Volume.open.Goals as goal

pub returns-in-Err-clause-again : goal.returns-in-Err-clause-again
returns-in-Err-clause-again g c = λ told image left.
    can_be_opened (g.D.Disk.size c.args.disk) (g.D.Disk.size c.start.new.disk) _ _ _ _ c.start.ensures.size (c.requires told)
    (c.in_ok-fault.ensures.any_moment told refl) image left

pub returns-in-Ok-clause-volume : goal.returns-in-Ok-clause-volume
returns-in-Ok-clause-volume g c = λ told.
    let v = c.in-Ok.started in
    let newest : ℕ → List ℕ = λ j. slice_index_or v.cells.newest.items j [] in
    let tables : ℕ → List ℕ = λ j. slice_index_or v.cells.tables.items j [] in
    ap (λ (m : ℕ). volume_at v.shape v.boot 0 false 0 newest tables ((g.D.Disk.timeline c.start.new.disk).state m).reads) (c.moment-moment.ensures.latest told)
    ∙ (rw c.in-Ok.is at (c.in_ok-fault.ensures.volume told))

pub returns-in-Ok-clause-homes : goal.returns-in-Ok-clause-homes
returns-in-Ok-clause-homes g c = λ told j some there.
    let v = c.in-Ok.started in
    let newest : ℕ → List ℕ = λ j. slice_index_or v.cells.newest.items j [] in
    let tables : ℕ → List ℕ = λ j. slice_index_or v.cells.tables.items j [] in
    let image = ((g.D.Disk.timeline c.start.new.disk).state c.moment-moment.result).reads in
    let len : length (volume_at v.shape v.boot 0 false 0 newest tables image).files ≡ v.shape.files + 1 = files_len v.shape v.boot 0 false 0 (held_of v.shape newest image) tables image in
    (rw c.in-Ok.is at (c.in_ok-fault.ensures.homes told)) j some (omega (arith, len, there))

pub returns-in-Ok-clause-stands : goal.returns-in-Ok-clause-stands
returns-in-Ok-clause-stands g c = λ told image may.
    let v = c.in-Ok.started in
    let homes : ℕ → ℕ = λ j. slice_index v.cells.homes.items j in
    let newest : ℕ → List ℕ = λ j. slice_index_or v.cells.newest.items j [] in
    let tables : ℕ → List ℕ = λ j. slice_index_or v.cells.tables.items j [] in
    let kept : IsKept g.D.Disk.Told (g.D.Disk.size c.start.new.disk) (g.D.Disk.timeline c.start.new.disk) c.moment-moment.result v.shape v.tag v.boot 0 false 0 homes newest tables =
    kept_now g.D.Disk.Told (g.D.Disk.size c.start.new.disk) (g.D.Disk.timeline c.start.new.disk) c.moment-moment.result v.shape v.tag v.boot 0 false 0 homes newest tables
    c.moment-moment.ensures.latest (rw c.in-Ok.is at c.in_ok-fault.ensures.files) (rw c.in-Ok.is at c.in_ok-fault.ensures.opened) in
    kept.left told image may

pub returns-in-Ok-clause-fresh : goal.returns-in-Ok-clause-fresh
returns-in-Ok-clause-fresh g c =
    let v = c.in-Ok.started in
    let newest : ℕ → List ℕ = λ j. slice_index_or v.cells.newest.items j [] in
    let tables : ℕ → List ℕ = λ j. slice_index_or v.cells.tables.items j [] in
    let image = ((g.D.Disk.timeline c.start.new.disk).state c.moment-moment.result).reads in
    let boot = rw c.in-Ok.is at c.in_ok-fault.ensures.boot in
    fresh_is v.shape v.boot (held_of v.shape newest image) tables image boot.0 boot.1

pub invariant_of-result : goal.invariant_of-result
invariant_of-result g c =
    let v = c.in-Ok.started in
    let homes : ℕ → ℕ = λ j. slice_index v.cells.homes.items j in
    let newest : ℕ → List ℕ = λ j. slice_index_or v.cells.newest.items j [] in
    let tables : ℕ → List ℕ = λ j. slice_index_or v.cells.tables.items j [] in
    let all = rw c.in-Ok.is at c.in_ok-fault.ensures.lists in (
      all.homes,
      all.tables,
      all.newest,
      kept_now g.D.Disk.Told (g.D.Disk.size c.start.new.disk) (g.D.Disk.timeline c.start.new.disk) c.moment-moment.result v.shape v.tag v.boot 0 false 0 homes newest tables
          c.moment-moment.ensures.latest (rw c.in-Ok.is at c.in_ok-fault.ensures.files) (rw c.in-Ok.is at c.in_ok-fault.ensures.opened),
    )
