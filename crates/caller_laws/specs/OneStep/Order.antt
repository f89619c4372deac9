-- In which order a mount's steps go that are seen as one.
use Rattle.std.specs.Prelude.{ℕ, ◌≡◌, ◌⊎◌, ◌≤◌, ◌+◌, ◌++◌, Bool, true, false, List, [], ◌∷◌}
use Rattle.std.specs.List.{AllByRecursion}
use Rattle.caller_laws.specs.Moves.{Again, Falls, Finish, Forgets, GivesUp, Move, Rests, Sends, Takes}
use Rattle.caller_laws.specs.OneStep.Runs.{MountStep}
use Rattle.caller_laws.specs.View.{Above}
use Rattle.mount.specs.State.{Mounted}
use Rattle.mount.specs.Taking.{Means, taken_at}
use Rattle.mount.specs.declared.taking.Told.TheVariants as tells
use Rattle.mount.specs.declared.taking.Told.{Told}

-- what is awaited is given up, a child is forgotten, or the mount begins again
abbrev pub is_losing : Move → Bool
is_losing (GivesUp place) = true
is_losing (Forgets child) = true
is_losing Falls = true
is_losing Rests = true
is_losing _ = false

abbrev pub AreLosing : List MountStep → Type 0
AreLosing steps = AllByRecursion (λ (step : MountStep). is_losing step.move ≡ true) steps

-- calls go out, none of them once more, and none that ends what there is; no record is taken, and nothing is lost
abbrev pub is_anew : Move → Bool
is_anew (Sends at Again) = false
is_anew (Sends at (Finish ending)) = false
is_anew (Sends at send) = true
is_anew Rests = true
is_anew _ = false

abbrev pub AreAnew : List MountStep → Type 0
AreAnew steps = AllByRecursion (λ (step : MountStep). is_anew step.move ≡ true) steps

-- what is awaited goes out once more, upwards from a place on
abbrev pub MayAgain : ℕ → Move → Type 0
MayAgain low (Sends at Again) = low ≤ at.place
MayAgain low Rests = Unit {0}
MayAgain low _ = ⊥

abbrev pub next_place : ℕ → Move → ℕ
next_place low (Sends at Again) = at.place + 1
next_place low _ = low

abbrev pub AreAgain : ℕ → List MountStep → Type 0
AreAgain low [] = Unit {0}
AreAgain low (step ∷ more) = MayAgain low step.move × AreAgain (next_place low step.move) more

-- a record is taken that tells the root
abbrev pub is_root : Told → Bool
is_root tells.Rooted = true
is_root _ = false

abbrev pub tells_root : Means → Move → Mounted → Bool
tells_root means (Takes place message) m = is_root (taken_at means place message m).0.told
tells_root means _ m = false

-- one record is taken
pub record IsTake (means : Means) (m : Mounted) (root : Bool) (steps : List MountStep) : Type 0 where
  pub place : ℕ
  pub message : List ℕ
  pub above : Above
  pub is : steps ≡ (record { move = Takes place message; above = above }) ∷ []
  pub root_is : tells_root means (Takes place message) m ≡ root

-- no record is taken, or one is; then what is awaited may be lost, though not where the root was told; then calls go out
pub record IsEarlyLate (means : Means) (steps : List MountStep) (m : Mounted) : Type 0 where
  pub head : List MountStep
  pub losing : List MountStep
  pub late : List MountStep
  pub is : steps ≡ head ++ (losing ++ late)
  pub root : Bool
  pub takes : (head ≡ []) ⊎ IsTake means m root head
  pub loses : AreLosing losing
  pub anew : AreAnew late
  pub keeps_root : root ≡ true → losing ≡ []

-- or all of it goes out once more
abbrev pub IsOrdered : Means → List MountStep → Mounted → Type 0
IsOrdered means steps m = IsEarlyLate means steps m ⊎ AreAgain 0 steps
