use Rattle.std.proofs.Common.{◌≡◌, ℕ, List, sym, ◌∙◌, subst}
use Rattle.disk_model.specs.declared.fuse.Fuse.{Fuse}
use Rattle.disk_model.specs.Elapsed.{Timeline, contents}
use Rattle.block_file.specs.declared.shape.Shape.{Shape}
use Rattle.block_file.specs.Blocks.{place_of, KeepsSafe}
use Rattle.block_file.proofs.Standing.{safe_none}
use Rattle.block_file.proofs.Pieces.{whole_put}
use Rattle.block_file.proofs.runs.write_next.Goals as goal

-- only reads came before
after_reads : (shape : Shape) (table : List ℕ) (file : ℕ) (f h g : Fuse) (t u v : Timeline) → h ≡ f → u ≡ t
    → KeepsSafe shape table file h g u v → KeepsSafe shape table file f g t v
after_reads shape table file f h g t u v e s safe =
    subst (λ (x : Fuse). KeepsSafe shape table file x g t v) e (subst (λ (x : Timeline). KeepsSafe shape table file h g x v) s safe)

pub returns-in-Some-clause-written : goal.returns-in-Some-clause-written
returns-in-Some-clause-written g c = λ told ok.
    let at = place_of c.args.shape c.args.newest.now c.args.file c.args.number in
    let all = c.in-Some.ensures.cases in
    c.write_block.ensures.written told ok
    ∙ all.same
    ∙ sym (whole_put c.args.part.now (contents (g.D.Disk.timeline c.args.disk.now) at) c.args.from all.long c.requires.fits (c.blocks-count.ensures.whole told at))

pub returns-in-Some-patched-clause-safe : goal.returns-in-Some-patched-clause-safe
returns-in-Some-patched-clause-safe g c = λ told.
    after_reads c.args.shape c.args.table.now c.args.file _ _ _ _ _ _ c.patched.ensures.fuse (c.patched.ensures.same told)
    (c.write_block-in-Some-patched.ensures.safe told)

pub returns-in-None-patched-clause-safe : goal.returns-in-None-patched-clause-safe
returns-in-None-patched-clause-safe g c = λ told.
    after_reads c.args.shape c.args.table.now c.args.file _ _ _ _ _ _ c.patched.ensures.fuse (c.patched.ensures.same told)
    (safe_none c.args.shape c.args.table.now c.args.file _ _)
