-- From one book to another by deeds of some kinds. What is done to a book, one thing after another, is that of dest_tasks. Own
-- definitions.
use Rattle.std.specs.Prelude.{◌≡◌, Bool, true, false, List, [], ◌∷◌}
use Rattle.dest_tasks.specs.Completing.{Accepts, Comes, Deed, Retires}
use Rattle.job_book.specs.Book.{BookView}

abbrev pub AreOf : (Deed → Bool) → List Deed → Type 0
AreOf kind [] = Unit {0}
AreOf kind (deed ∷ deeds) = (kind deed ≡ true) × AreOf kind deeds

pub record GoesBy (kind : Deed → Bool) (b c : BookView) : Type 0 where
  pub deeds : List Deed
  pub come : Comes deeds b c
  pub are : AreOf kind deeds

-- a job's place ends
abbrev pub is_end : Deed → Bool
is_end (Retires name) = true
is_end _ = false

-- or a copy is taken
abbrev pub is_taking : Deed → Bool
is_taking (Accepts plan) = true
is_taking deed = is_end deed

-- jobs end, and nothing else
abbrev pub Ends : BookView → BookView → Type 0
Ends b c = GoesBy is_end b c

-- copies are taken, and jobs end: no job gets an entry
abbrev pub TakesAndEnds : BookView → BookView → Type 0
TakesAndEnds b c = GoesBy is_taking b c
