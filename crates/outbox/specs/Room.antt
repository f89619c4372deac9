-- The memory of an outbox with one record, or one note. Own.
use Rattle.std.specs.Prelude.{◌≡◌, ◌≤◌, ℕ, List, []}
use Rattle.outbox.specs.declared.note.Note.{Note}
use Rattle.outbox.specs.declared.outgoing.Outgoing.{Outgoing}
use Rattle.server_volume.specs.declared.used.Used.{Used}

-- nothing stands in it, and there is room for a record
pub record IsRoom (sent : List Outgoing) (capacity : ℕ) (notes : List Note) (used : List Used) : Type 0 where
  pub none_sent : sent ≡ []
  pub room : 1 ≤ capacity
  pub none_told : notes ≡ []
  pub none_made : used ≡ []
