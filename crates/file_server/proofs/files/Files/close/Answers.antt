use Rattle.std.proofs.Common.{ℕ, sym, ap, ◌∙◌, Result}
use Rattle.nfs_base.specs.declared.status.Status.{Status}
use Rattle.file_server.specs.Machine.{shown}
use Rattle.file_server.specs.Answering.{going_of}
use Rattle.file_server.specs.Closing as closing
use Rattle.file_server.proofs.files.Files.close.Goals as goal

pub returns-in-Ok-clause-does : goal.returns-in-Ok-clause-does
unfolding closing.close
returns-in-Ok-clause-does g c = λ choice agrees.
    let old = going_of g.D.Disk.size c.args.self.now c.args.p.now in
    ap (λ (r : Result ℕ Status). shown (closing.close_file c.args.args.now.state_id r old) c.args.p.now.page.bytes) (sym c.in-Ok.ensures.file)
    ∙ c.close_file.ensures.does choice agrees
