use Rattle.std.proofs.Common.{ℕ, Bool, Result, sym, ap, ◌∙◌}
use Rattle.compound_server.specs.Serves.{told_of}
use Rattle.copy_ops.specs.declared.res.CopyRes.TheVariants as results
use Rattle.file_server.specs.Answering.{going_of, machine_of}
use Rattle.nfs_base.specs.declared.answer.Answer.TheVariants.{Refused}
use Rattle.nfs_base.specs.declared.status.Status.{Status}
use Rattle.source_core.specs.Serving.{notify_allowed, notify_file, strings_of}
use Rattle.source_core.specs.declared.serving.GrantStrings.{GrantStrings}
use Rattle.compound_server.specs.SayingLaws.{notify_refused_spelled, serves_said}
use Rattle.source_core.proofs.granting.notify.Goals as goal

pub returns-in-Err-clause-serves : goal.returns-in-Err-clause-serves
returns-in-Err-clause-serves g c = λ choice agrees.
    let size = g.D.Disk.size in
    let files = c.args.files.now in
    let p = c.args.p.now in
    ap (λ (file : Result ℕ Status). told_of (notify_file c.args.second c.args.carry.now file c.args.args (going_of size files p)) p.page.bytes) (sym c.current_file.ensures.file ∙ c.in-Err.is)
    ∙ serves_said (machine_of size files) (results.CopyNotify (Refused c.in-Err.status)) p c.refuse.new.self _ c.refuse.result
    c.refuse.ensures.says (notify_refused_spelled c.in-Err.status) (sym c.refuse.ensures.status)

pub returns-in-Ok-clause-serves : goal.returns-in-Ok-clause-serves
returns-in-Ok-clause-serves g c = λ choice agrees.
    let size = g.D.Disk.size in
    let p = c.args.p.now in
    let old = going_of size c.args.files.now p in
    let args = c.args.args in
    let file = c.in-Ok.file in
    ap (λ (at : Result ℕ Status). told_of (notify_file c.args.second c.args.carry.now at args old) p.page.bytes) (sym c.current_file.ensures.file ∙ c.in-Ok.is)
    ∙ ap (λ (allowed : Bool). told_of (notify_allowed allowed c.args.second file args (strings_of c.args.carry.now) old) p.page.bytes) (sym c.allows-allowed.ensures)
    ∙ ap (λ (strings : GrantStrings). told_of (notify_allowed c.allows-allowed.result c.args.second file args strings old) p.page.bytes) (sym c.requires.strings)
    ∙ c.notify_allowed.ensures.serves choice agrees
