use Rattle.std.proofs.Common.{◌≡◌, ◌≢◌, ℕ, List, refl, sym, ◌∙◌, ap, subst}
use Rattle.disk_model.specs.declared.fuse.Fuse.{Fuse}
use Rattle.disk_model.specs.Disk.{MayLeave}
use Rattle.disk_model.specs.Elapsed.{Timeline, present, contents}
use Rattle.disk_model.specs.Passes.{Passes}
use Rattle.block_file.specs.Stored.{head_flaw}
use Rattle.block_file.specs.Opened.{HeadIs}
use Rattle.block_file.proofs.Off.{sync_reads, sync_leaves, flaw_none, flaw_head}
use Rattle.block_file.proofs.opening.load_head.Goals as goal

pub returns-then-size-eq0-clause-refused : goal.returns-then-size-eq0-clause-refused
returns-then-size-eq0-clause-refused g c = λ told.
    flaw_none (g.D.Disk.size c.args.disk.now) (contents (g.D.Disk.timeline c.args.disk.now))
    (sym c.sync.ensures.size ∙ sym c.blocks-size.ensures.count ∙ c.if-size-eq0.true)

pub returns-in-Err-clause-refused : goal.returns-in-Err-clause-refused
returns-in-Err-clause-refused g c = λ told.
    let size : c.blocks-size.result ≡ g.D.Disk.size c.args.disk.now = c.blocks-size.ensures.count ∙ c.sync.ensures.size in
    let some : g.D.Disk.size c.args.disk.now ≢ 0 = λ e. c.if-size-eq0.false (size ∙ e) in
    let block : c.read.new.block ≡ contents (g.D.Disk.timeline c.args.disk.now) 0 =
    c.in-Done-read.ensures.bytes told refl ∙ (c.sync.ensures.synced told).same 0 in
    flaw_head (g.D.Disk.size c.args.disk.now) (contents (g.D.Disk.timeline c.args.disk.now)) c.in-Err.at some
    (sym (ap (λ (n : ℕ). head_flaw n (contents (g.D.Disk.timeline c.args.disk.now) 0)) size)
    ∙ sym (ap (λ (l : List ℕ). head_flaw c.blocks-size.result l) block) ∙ c.in-Err.ensures.flaw)

pub returns-in-Err-clause-reads : goal.returns-in-Err-clause-reads
returns-in-Err-clause-reads g c = λ told.
    ap (λ (t : Timeline). contents t) (c.read.ensures.same told)
    ∙ sync_reads c.sync.result (present (g.D.Disk.timeline c.args.disk.now)) (present (g.D.Disk.timeline c.sync.new.self)) (c.sync.ensures.synced told)

pub returns-in-Err-clause-any_moment : goal.returns-in-Err-clause-any_moment
returns-in-Err-clause-any_moment g c = λ told.
    let old = g.D.Disk.timeline c.args.disk.now in
    subst (λ (t : Timeline). Passes (g.D.Disk.fuse c.args.disk.now) (g.D.Disk.fuse c.read.new.self) old t (MayLeave (present old))) (sym (c.read.ensures.same told))
    (subst (λ (f : Fuse). Passes (g.D.Disk.fuse c.args.disk.now) f old (g.D.Disk.timeline c.sync.new.self) (MayLeave (present old))) (sym c.read.ensures.fuse)
    (sync_leaves c.sync.result (g.D.Disk.fuse c.args.disk.now) (g.D.Disk.fuse c.sync.new.self) old (g.D.Disk.timeline c.sync.new.self)
    (c.sync.ensures.synced told) (c.sync.ensures.time told) (c.sync.ensures.soon told)))

pub returns-in-Ok-clause-head : goal.returns-in-Ok-clause-head
returns-in-Ok-clause-head g c = λ told.
    let size : c.blocks-size.result ≡ g.D.Disk.size c.args.disk.now = c.blocks-size.ensures.count ∙ c.sync.ensures.size in
    let block : c.read.new.block ≡ contents (g.D.Disk.timeline c.args.disk.now) 0 =
    c.in-Done-read.ensures.bytes told refl ∙ (c.sync.ensures.synced told).same 0 in
    subst (λ (n : ℕ). HeadIs n c.in-Ok.shape c.tag_in.result (contents (g.D.Disk.timeline c.args.disk.now) 0)) size
    (subst (λ (l : List ℕ). HeadIs c.blocks-size.result c.in-Ok.shape c.tag_in.result l) block
    (subst (λ (t : ℕ). HeadIs c.blocks-size.result c.in-Ok.shape t c.read.new.block) (sym c.tag_in.ensures) c.in-Ok.ensures.shape))

pub returns-in-Ok-clause-reads : goal.returns-in-Ok-clause-reads
returns-in-Ok-clause-reads g c = λ told.
    ap (λ (t : Timeline). contents t) (c.read.ensures.same told)
    ∙ sync_reads c.sync.result (present (g.D.Disk.timeline c.args.disk.now)) (present (g.D.Disk.timeline c.sync.new.self)) (c.sync.ensures.synced told)
