-- What a server answers to a record on a connection.
use Rattle.std.specs.Prelude.{◌≡◌, true}
use Rattle.std.specs.List.{AllByRecursion}
use Rattle.nfs_base.specs.declared.seal.End.{End}
use Rattle.outbox.specs.declared.outgoing.Outbox.{Outbox}
use Rattle.outbox.specs.declared.outgoing.Outgoing.{Outgoing}
use Rattle.wire_spelling.specs.Replies.{is_reply}
pub use Rattle.call_replies.specs.Sealed.{IsSealedBy}

abbrev pub IsAnswer : End → Outgoing → Type 0
IsAnswer owner one = (is_reply one.bytes ≡ true) × IsSealedBy owner one.seal

-- it sends replies alone, and seals them, and accepts what it takes, under contexts of its own
pub record Answers (owner : End) (out : Outbox) : Type 0 where
  pub sent : AllByRecursion (IsAnswer owner) out.sent
  pub accepted : IsSealedBy owner out.accepted
