use Rattle.std.proofs.Common.{◌+◌, length, sym, subst, ap, ◌∙◌, arith}
use Rattle.block_file.specs.Opened.{Opened}
use Rattle.block_file.specs.declared.info.FileInfo.{FileInfo}
use Rattle.copy_model.specs.Volume.{file_at}
use Rattle.wire_run.specs.Stage.{SourceSized}
use Rattle.wire_run.specs.declared.ends.SourceEnd.{SourceEnd}
use Rattle.wire_run.proofs.ends.SourceEnd.size.Goals as goal

pub returns-then-files-file : goal.returns-then-files-file
returns-then-files-file g c =
    let few = c.files.ensures.count ∙ ap (λ (v : Opened _). length v.volume.files) c.volume-volume.ensures in
    let past = c.if-files-file.true in
    subst (λ (e : SourceEnd _ _). SourceSized c.args.file e 0) (sym c.in-Open.is) (λ there. absurd (omega (arith, few, past, there)))

pub returns : goal.returns
returns g c =
    subst (λ (e : SourceEnd _ _). SourceSized c.args.file e c.file.result.size) (sym c.in-Open.is) (λ there. ap (λ (i : FileInfo). i.size) c.file.ensures.info
    ∙ ap (λ (v : Opened _). length (file_at v.volume c.args.file).now) c.volume-volume.ensures)
