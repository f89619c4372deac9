use Rattle.streams.proofs.Progress.{given_of}
use Rattle.streams.proofs.memory.MemSourceSource.take.Goals as goal

pub returns-clause-bytes : goal.returns-clause-bytes
returns-clause-bytes c =
    rw (← c.self.view_is) (given_of _ _ _ _ _ c.as_slice.ensures.value c.copy_front-count.ensures.front)
