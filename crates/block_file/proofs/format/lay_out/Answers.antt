use Rattle.std.proofs.Common.{◌≢◌, ℕ, ◌+◌, ◌*◌, List, refl, sym, ◌∙◌, subst, arith}
use Rattle.block_file.specs.Opened.{HeadIs}
use Rattle.disk_model.specs.Elapsed.{present}
use Rattle.disk_model.specs.Passes.{passes_on}
use Rattle.block_file.specs.Stored.{LeftByFormat}
use Rattle.block_file.proofs.Laying.{keeps_sync, head_one, head_on, format_head, IsLaid, laid_synced, laid_write, laid_sync, laid_one}
use Rattle.block_file.proofs.format.lay_out.Goals as goal

pub returns-clause-head : goal.returns-clause-head
returns-clause-head g c = λ told done.
    subst (λ (l : List ℕ). HeadIs c.args.size c.args.shape c.args.tag l)
    (sym ((c.sync-2.ensures.synced told).same 0 ∙ (c.in-Done-write.ensures.written told).here refl))
    c.head_block-head.ensures

pub returns-clause-cleared : goal.returns-clause-cleared
returns-clause-cleared g c = λ told done.
    let before = c.in-Done.ensures.cleared told refl in
    record {
      slots = λ slot lt.
          let at = 4 + 3 * c.args.shape.files + 2 * slot in
          let ne : 4 + 3 * c.args.shape.files + 2 * slot ≢ 0 = omega arith in
          (c.sync-2.ensures.synced told).same at ∙ ((c.write.ensures.written told).elsewhere at ne).0
          ∙ (c.sync.ensures.synced told).same at ∙ before.slots slot lt;
      cells = λ j lt.
          let one : 1 + 3 * j ≢ 0 = omega arith in
          let two : 2 + 3 * j ≢ 0 = omega arith in (
            (c.sync-2.ensures.synced told).same (1 + 3 * j) ∙ ((c.write.ensures.written told).elsewhere (1 + 3 * j) one).0
                ∙ (c.sync.ensures.synced told).same (1 + 3 * j) ∙ (before.cells j lt).0,
            (c.sync-2.ensures.synced told).same (2 + 3 * j) ∙ ((c.write.ensures.written told).elsewhere (2 + 3 * j) two).0
                ∙ (c.sync.ensures.synced told).same (2 + 3 * j) ∙ (before.cells j lt).1,
          );
    }

pub returns-in-Failed-write-clause-any_moment : goal.returns-in-Failed-write-clause-any_moment
returns-in-Failed-write-clause-any_moment g c = λ told.
    let files = c.args.shape.files in
    let blocks = c.args.shape.blocks in
    let s = present (g.D.Disk.timeline c.args.disk.now) in
    let head = head_on _ _ _ _ _ _ (c.clear.ensures.any_moment told) (c.clear.ensures.keeps told)
    (head_one _ _ _ _ (keeps_sync _ _ _ (c.sync.ensures.synced told)) (c.sync.ensures.time told) (c.sync.ensures.soon told)) in
    let before : IsLaid files blocks (present (g.D.Disk.timeline c.sync.new.self)) =
    laid_synced files blocks (present (g.D.Disk.timeline c.clear.new.disk)) _ (c.in-Done.ensures.cleared told refl) (c.in-Done-sync.ensures.synced told) in
    let after : IsLaid files blocks (present (g.D.Disk.timeline c.write.new.self)) = laid_write files blocks _ _ _ _ before (c.write.ensures.written told) in
    let written = passes_on (LeftByFormat files blocks s) _ _ _ _ _ _ (format_head files blocks s _ _ _ _ head)
    (laid_one files blocks s _ _ _ _ before after (c.write.ensures.time told) (c.write.ensures.soon told)) in
    written

pub returns-clause-any_moment : goal.returns-clause-any_moment
returns-clause-any_moment g c = λ told.
    let files = c.args.shape.files in
    let blocks = c.args.shape.blocks in
    let s = present (g.D.Disk.timeline c.args.disk.now) in
    let head = head_on _ _ _ _ _ _ (c.clear.ensures.any_moment told) (c.clear.ensures.keeps told)
    (head_one _ _ _ _ (keeps_sync _ _ _ (c.sync.ensures.synced told)) (c.sync.ensures.time told) (c.sync.ensures.soon told)) in
    let before : IsLaid files blocks (present (g.D.Disk.timeline c.sync.new.self)) =
    laid_synced files blocks (present (g.D.Disk.timeline c.clear.new.disk)) _ (c.in-Done.ensures.cleared told refl) (c.in-Done-sync.ensures.synced told) in
    let after : IsLaid files blocks (present (g.D.Disk.timeline c.write.new.self)) = laid_write files blocks _ _ _ _ before (c.write.ensures.written told) in
    let written = passes_on (LeftByFormat files blocks s) _ _ _ _ _ _ (format_head files blocks s _ _ _ _ head)
    (laid_one files blocks s _ _ _ _ before after (c.write.ensures.time told) (c.write.ensures.soon told)) in
    let last : IsLaid files blocks (present (g.D.Disk.timeline c.sync-2.new.self)) = laid_sync files blocks _ _ _ after (c.sync-2.ensures.synced told) in
    passes_on (LeftByFormat files blocks s) _ _ _ _ _ _ written
    (laid_one files blocks s _ _ _ _ after last (c.sync-2.ensures.time told) (c.sync-2.ensures.soon told))
