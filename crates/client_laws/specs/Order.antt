-- By which numbers a mount's calls go out in a turn of the client, and which of them never do.
use Rattle.std.specs.Prelude.{ℕ, ◌≡◌, ◌+◌, ◌&&◌, ◌++◌, Bool, true, false, List, [], ◌∷◌, map}
use Rattle.std.specs.List.{AllByRecursion}
use Rattle.caller_laws.specs.Moves.{BeginAnew, Move, Sends, done}
use Rattle.caller_laws.specs.OneStep.Runs.{MountStep}
use Rattle.client_laws.specs.CallerLaws.{goes_to, is_call}
use Rattle.mount.specs.State.{Mounted}
use Rattle.mount.specs.Taking.{Means}
use Rattle.nfs_base.specs.declared.side.Side.{Side}
use Rattle.outbox.specs.declared.outgoing.Outgoing.{Outgoing}
use Rattle.wire_model.specs.Wire.{Sent}

-- A client never begins a mount anew by the token that it has. The first is said of a call, the second of a run.
abbrev pub begins_anew : Move → Bool
begins_anew (Sends at BeginAnew) = true
begins_anew _ = false

abbrev pub NoneBeginsAnew : List MountStep → Type 0
NoneBeginsAnew steps = AllByRecursion (λ (step : MountStep). begins_anew step.move ≡ false) steps

-- ---- the numbers of calls: each has the next one, to both servers

abbrev pub numbers_of : Move → List Sent → List ℕ
numbers_of (Sends at send) sent = map (λ (one : Sent). at.xid) sent
numbers_of _ sent = []

-- those of a run's calls, in their order
abbrev pub numbers_in : Means → List MountStep → Mounted → List ℕ
numbers_in means [] m = []
numbers_in means (step ∷ more) m = numbers_of step.move (done means step.move m).shown.out ++ numbers_in means more (done means step.move m).mount

abbrev pub counted_if : Bool → ℕ → ℕ
counted_if true n = n + 1
counted_if false n = n

-- how many calls there were behind these records, n before
abbrev pub count_behind : ℕ → List Outgoing → ℕ
count_behind n [] = n
count_behind n (one ∷ more) = count_behind (counted_if (is_call one.label) n) more

-- the numbers of those calls that go to a server
abbrev pub number_if : Bool → ℕ → List ℕ
number_if true n = n ∷ []
number_if false n = []

abbrev pub numbers_to : Side → ℕ → List Outgoing → List ℕ
numbers_to side n [] = []
numbers_to side n (one ∷ more) = number_if (goes_to side one.to && is_call one.label) (n + 1) ++ numbers_to side (counted_if (is_call one.label) n) more
