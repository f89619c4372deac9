use Rattle.std.proofs.Common.{sym, ◌∙◌, ◌≡◌}
use Rattle.disk_model.specs.Disk.{zero_block}
use Rattle.disk_model.proofs.Stored.{contents_now, latest_none}
use Rattle.disk_model.specs.Replay.{base_of, latest_of}
use Rattle.disk_model.proofs.store.Store.read.Goals as goal

pub returns-in-None-get : goal.returns-in-None-get
unfolding zero_block
returns-in-None-get c =
    let none : latest_of c.args.self.now.written c.args.self.now.left c.args.at ≡ zero_block =
    latest_none c.args.self.now.written c.args.self.now.left c.args.at (sym c.in-None.ensures.value) (sym c.in-None-get.ensures.value) in
    sym none ∙ (c.args.self.now.reads c.args.at
    ∙ sym (contents_now (base_of c.args.self.now.left) c.args.self.now.calls.items c.args.at))
