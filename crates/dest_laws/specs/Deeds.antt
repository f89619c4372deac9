-- What the steps of a destination do to its jobs, as lists of what is done to a book.
use Rattle.std.specs.Prelude.{ℕ, ◌≤◌, List, sum_by}
use Rattle.dest_steps.specs.Landing.{Doing}
use Rattle.dest_tasks.specs.Completing.{Accepts, Comes, Commits, Deed, Lands, Sizes, Stops}
use Rattle.job_book.specs.Book.{BookView}

abbrev pub book_in : Doing → BookView
book_in d = d.copier.copies.book

-- from one book to another by some deeds, one after another
abbrev pub ByDeeds : BookView → BookView → Type 0
ByDeeds b c = (deeds : List Deed) × Comes deeds b c

-- ---- how many copies are taken by a deed, and how many entries it gives to jobs

abbrev pub accept_in : Deed → ℕ
accept_in (Accepts plan) = 1
accept_in _ = 0

abbrev pub entry_in : Deed → ℕ
entry_in (Sizes spare len name) = 1
entry_in (Lands name chunk) = 1
entry_in (Stops cause name) = 1
entry_in (Commits name) = 1
entry_in _ = 0

-- From one book to another by deeds that take so many copies at most, and give so many entries at most.
pub record GoesWithin (accepts entries : ℕ) (b c : BookView) : Type 0 where
  pub deeds : List Deed
  pub come : Comes deeds b c
  pub few_accepts : sum_by accept_in deeds ≤ accepts
  pub few_entries : sum_by entry_in deeds ≤ entries
