-- A link, as a net tells of it, and what its calls do to a net. Own definitions.
use Rattle.std.specs.Prelude.{◌≡◌, ℕ, ◌+◌, ◌≤◌, ◌++◌, List, [], ◌∷◌, ⊤, IfSome}
use Rattle.std.specs.declared.option.Option.{Option}
use Rattle.std.specs.declared.option.Option.TheVariants.{None, Some}
use Rattle.outcome.specs.Causes.{Rose}
use Rattle.streams.specs.Stream.{Giving, Taking}
use Rattle.net_links.specs.declared.net.Dialed.{Dialed}
use Rattle.net_links.specs.declared.net.Dialed.TheVariants as dialed

-- How a link stands: as a source, what it brings, has left and counted; and as a sink, what it took and counted.
pub record Standing : Type 0 where
  pub brings : Giving
  pub takes : Taking

-- Nothing was taken from it or put to it, and no call of it failed. What it brings is told by it or by no one.
pub record IsNew (link : Standing) : Type 0 where
  pub told : IfSome link.brings.whole (λ all. (link.brings.left ≡ Some all) × (link.takes.taken ≡ Some []))
  pub reads : link.brings.faults ≡ 0
  pub puts : link.takes.faults ≡ 0

-- It tells all that it brings.
abbrev pub IsTold : Standing → Type 0
IsTold link = (all : List ℕ) × (link.brings.whole ≡ Some all)

-- ---- what a call that asks for a link answers

-- the link that is up, as it stands
abbrev pub IfUp : {L : Type 0} → Dialed L → (L → Type 0) → Type 0
IfUp (dialed.Up link) holds = holds link
IfUp dialed.End holds = ⊤
IfUp dialed.Failed holds = ⊤

abbrev pub ups : {L : Type 0} → Dialed L → ℕ
ups (dialed.Up link) = 1
ups dialed.End = 0
ups dialed.Failed = 0

-- A connection that came is one fewer to come, and the end is told exactly where none is left.
abbrev pub Accepts : {L : Type 0} → (coming now : ℕ) → Dialed L → Type 0
Accepts coming now (dialed.Up link) = coming ≡ now + 1
Accepts coming now dialed.End = (coming ≡ 0) × (now ≡ 0)
Accepts coming now dialed.Failed = (now ≡ coming) × (1 ≤ coming)

-- A dial is answered by a link or by a failure.
abbrev pub IsNoEnd : {L : Type 0} → Dialed L → Type 0
IsNoEnd (dialed.Up link) = ⊤
IsNoEnd dialed.End = ⊥
IsNoEnd dialed.Failed = ⊤

-- The count of faults never falls, and `Failed` comes only where it rose.
abbrev pub DialHasCause : {L : Type 0} → (before now : ℕ) → Dialed L → Type 0
DialHasCause before now (dialed.Up link) = before ≤ now
DialHasCause before now dialed.End = before ≤ now
DialHasCause before now dialed.Failed = (before ≤ now) × Rose before now

-- ---- hanging up

-- One link more was hung up: this one, which tells all that it brings.
pub record HangsUp (before now : List Standing) (link : Standing) : Type 0 where
  pub told : IsTold link
  pub kept : now ≡ before ++ link ∷ []
