use Rattle.disk_model.specs.Replay.{base_of}
use Rattle.disk_model.proofs.Whole.{read_whole}
use Rattle.disk_model.proofs.memory_disk.MemoryDiskDisk.blocks.Goals as goal

pub returns-clause-whole : goal.returns-clause-whole
returns-clause-whole c = λ told.
    let store = c.args.self.now.store in
    read_whole store.left (base_of store.left) store.calls.items store.placed store.whole
