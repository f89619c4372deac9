use Rattle.std.proofs.Common.{sym, ap, ◌∙◌, Option}
use Rattle.nfs_base.specs.declared.status.Status.{Status}
use Rattle.file_server.specs.Machine.{shown}
use Rattle.file_server.specs.Answering.{going_of}
use Rattle.file_server.specs.Opening as opening
use Rattle.file_server.proofs.files.Files.open_by_name.Goals as goal

pub returns-in-None-clause-does : goal.returns-in-None-clause-does
unfolding opening.open_by_name
returns-in-None-clause-does g c = λ choice agrees.
    let old = going_of g.D.Disk.size c.args.self.now c.args.p.now in
    ap (λ (r : Option Status). shown (opening.open_unless r c.args.caller.now.client c.args.args old) c.args.p.now.page.bytes) (sym c.in-None.ensures)
    ∙ c.open_in_root.ensures.does choice agrees
