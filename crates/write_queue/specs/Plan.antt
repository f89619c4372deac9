-- What is to become of a queue, while it stays as it is: how many of its first works are answered, how far the next one is,
-- and what writes were answered.
use Rattle.std.specs.Prelude.{ℕ, List, drop}
use Rattle.write_queue.specs.declared.queue.Head.{Head}
use Rattle.write_queue.specs.declared.seen.Seen.{Seen}
use Rattle.write_queue.specs.Queue.{Queued}

pub record Plan : Type 0 where
  pub gone : ℕ
  pub head : Head
  pub seen : List Seen

-- what the queue is to be
abbrev pub planned : Plan → Queued → Queued
planned p q = record { works = drop p.gone q.works; head = p.head; seen = p.seen }
