-- What a net tells of its links, and what dialing and hanging up does to that. Own definitions.
use Rattle.std.specs.Prelude.{◌≡◌, ℕ, ◌+◌, ◌≤◌, List, [], ◌∷◌, ◌++◌, length}
use Rattle.net_links.specs.Links.{Standing, IsNew, IsTold}

-- How many connections are left to come, how many were accepted, how many links are up, and those that were hung up.
pub record Books : Type 0 where
  pub coming : ℕ
  pub accepted : ℕ
  pub up : ℕ
  pub hung : List Standing

abbrev pub books_of : {N : Type 0} → (coming accepted up : N → ℕ) → (hung : N → List Standing) → N → Books
books_of coming accepted up hung net = record { coming = coming net; accepted = accepted net; up = up net; hung = hung net }

-- The words in which a net speaks of its links: whether it tells of them, its books, and its count of faults.
pub record NetWords (N : Type 0) : Type 1 where
  pub told : Type 0
  pub books : N → Books
  pub faults : N → ℕ

abbrev pub net_words : {N : Type 0} → Type 0 → (N → Books) → (N → ℕ) → NetWords N
net_words told books faults = record { told = told; books = books; faults = faults }

-- ---- one call after another

abbrev pub AllTold : List Standing → Type 0
AllTold [] = Unit {0}
AllTold (link ∷ links) = IsTold link × AllTold links

-- So many links more are up, and nothing else was done.
abbrev pub Dials : (count : ℕ) → (before now : Books) → Type 0
Dials count before now = now ≡ record before { up = before.up + count }

-- These links were hung up, in their order, and nothing else was done.
pub record HangsUp (links : List Standing) (before now : Books) : Type 0 where
  pub is : now ≡ record before { up = now.up; hung = before.hung ++ links }
  pub up : before.up ≡ now.up + length links
  pub told : AllTold links

-- the same, where the net tells of its links
abbrev pub HungUp : (told : Type 0) → (before now : Books) → List Standing → Type 0
HungUp told before now links = told → HangsUp links before now

-- ---- from the first dial to the last hanging up

-- These links were dialed and were hung up, in their order, and nothing else was done with the net.
pub record Returns (links : List Standing) (before now : Books) : Type 0 where
  pub is : now ≡ record before { hung = before.hung ++ links }
  pub told : AllTold links

abbrev pub Returned : (told : Type 0) → (before now : Books) → List Standing → Type 0
Returned told before now links = told → Returns links before now

-- ---- no copy was begun

abbrev pub AllNew : List Standing → Type 0
AllNew [] = Unit {0}
AllNew (link ∷ links) = IsNew link × AllNew links

-- Both links weren't dialed: of those that were, at most one, nothing was taken and nothing was put to them.
pub record Unpaired (told : Type 0) (before now : Books) : Type 0 where
  pub links : List Standing
  pub few : length links ≤ 1
  pub new : AllNew links
  pub hung : Returned told before now links
