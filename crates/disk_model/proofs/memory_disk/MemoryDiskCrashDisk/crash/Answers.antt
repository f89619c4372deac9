use Rattle.std.proofs.Common.{◌≡◌, ◌∙◌, true, sym, ap, ℕ, List}
use Rattle.disk_model.specs.declared.store.Call.{Call}
use Rattle.disk_model.specs.Elapsed.{contents, crash_moment}
use Rattle.disk_model.specs.Passes.{crash_at_stop, crash_now}
use Rattle.disk_model.specs.MemoryDisk.{timeline_of, fuse_of}
use Rattle.disk_model.specs.Pick.{left_by}
use Rattle.disk_model.specs.Replay.{base_of, moments}
use Rattle.disk_model.proofs.memory_disk.MemoryDiskCrashDisk.crash.Goals as goal
use Rattle.disk_model.proofs.memory_disk.MemoryDiskCrashDisk.crash.Goals.{then-is_out, else-is_out}

pub returns-clause-picked : goal.returns-clause-picked
returns-clause-picked c = λ b.
    let moment : c.if-is_out.until ≡ crash_moment (fuse_of c.args.self.now) (timeline_of c.args.self.now) =
    elim c.if-is_out.branch [
      | then-is_out w ↦ w.until-is ∙ sym (crash_at_stop (fuse_of c.args.self.now) (timeline_of c.args.self.now) (c.is_out.ensures.0 w.if-is_out.true))
      | else-is_out w ↦ w.until-is ∙ (w.moment-until.ensures ∙ sym (crash_now (fuse_of c.args.self.now) (timeline_of c.args.self.now)
          (λ out. let yes : c.is_out.result ≡ true = c.is_out.ensures.1 out in cc w.if-is_out.false)))
    ] in
    ap (λ (calls : List Call). contents (moments (base_of c.crash.new.self.left) calls 0) b) c.crash.ensures.none
    ∙ (c.crash.ensures.left b ∙ ap (λ (k : ℕ). left_by c.args.pick (timeline_of c.args.self.now) k b) moment)
