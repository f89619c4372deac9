-- The jobs of a destination, as its steps leave them. Own definitions.
use Rattle.std.specs.Prelude.{◌≡◌, ◌⊎◌, [], ◌∷◌, ◌++◌}
use Rattle.copy_model.specs.Job.{Entry}
use Rattle.dest_core.specs.Stepping.{DestState}
use Rattle.dest_core.specs.declared.destination.Destination.{Destination}
use Rattle.dest_laws.specs.Histories.Kinds.{TakesAndEnds}
use Rattle.dest_laws.specs.Histories.Seen.{Seen}
use Rattle.job_book.specs.Book.{BookView}

abbrev pub jobs_in : {M : Type 0} → DestState M → BookView
jobs_in s = s.state.machine.extra.copier.copies.book

-- copies are taken by it, and jobs end: no job gets an entry
abbrev pub TakesAlong : {M : Type 0} → Destination M → Destination M → Type 0
TakesAlong x y = TakesAndEnds x.copier.copies.book y.copier.copies.book

-- a job's entries are those before, or one more
abbrev pub GetsOne : Seen → Seen → Type 0
GetsOne old new = (new.entries ≡ old.entries) ⊎ ((entry : Entry) × (new.entries ≡ old.entries ++ entry ∷ []))
