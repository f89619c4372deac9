-- How workers end, and what is so of each then. Own definitions.
use Rattle.std.specs.Prelude.{◌≡◌, ℕ, ◌+◌, ◌*◌, ◌≤◌, Bool, true, false, List, [], ◌∷◌, Option, Some, None, sum_by}
use Rattle.rpc_msg.specs.Watching.{Watch, is_down}
use Rattle.copy_workers.specs.Desk.{chunk_limit, given_to, IsModest}
use Rattle.outbox.specs.Counting.{landed_in}
use Rattle.copy_workers.specs.declared.holding.Held.{Held}
use Rattle.copy_workers.specs.declared.holding.Held.TheVariants as held
use Rattle.copy_workers.specs.declared.report.Ended.{Ended}
use Rattle.copy_workers.specs.declared.report.WorkerEnd.{WorkerEnd}
use Rattle.copy_workers.specs.declared.report.WorkerEnd.TheVariants as ends

-- ---- one holding: what it adds to the worker's shares

abbrev pub held_landed : {Z : Type 0} → Held Z → ℕ
held_landed (held.Gave out) = landed_in out.notes
held_landed _ = 0

abbrev pub held_turns : {Z : Type 0} → Held Z → ℕ
held_turns (held.Closed shut) = 0
held_turns _ = 1

abbrev pub held_given : {Z : Type 0} → (worker : ℕ) → Held Z → ℕ
held_given worker (held.Gave out) = given_to worker out.sent
held_given worker _ = 0

abbrev pub HeldIsModest : {Z : Type 0} → (worker : ℕ) → Held Z → Type 0
HeldIsModest worker (held.Gave out) = IsModest worker out
HeldIsModest worker _ = Unit {0}

abbrev pub held_shut : {Z : Type 0} → Held Z → Option Z
held_shut (held.Closed shut) = Some shut
held_shut _ = None

-- ---- why the desk was closed

-- Where it was, some state of the desk tells why.
abbrev pub WasShut : {K Z : Type 0} → (K → Option Z) → Option Z → Type 0
WasShut shut_by None = Unit {0}
WasShut {K} shut_by (Some why) = (k : K) × (shut_by k ≡ Some why)

-- what the first tells, or the others
abbrev pub first_shut : {Z : Type 0} → Option Z → Option Z → Option Z
first_shut (Some why) others = Some why
first_shut None others = others

-- ---- what a link took

-- Of so many bytes a link took all, or, where it is down then, at most all.
pub record Sends (len before now : ℕ) (down : Bool) : Type 0 where
  pub later : before ≤ now
  pub most : now ≤ before + len
  pub whole : down ≡ false → now ≡ before + len

-- ---- one worker at its end

-- Why it ended: its link is down, or it isn't and the worker had all its turns, or the desk was closed, as a desk told.
abbrev pub EndIs : WorkerEnd → (turned turns : ℕ) → (down shut : Bool) → Type 0
EndIs ends.NoLink turned turns down shut = ⊥
EndIs ends.Down turned turns down shut = down ≡ true
EndIs ends.Turns turned turns down shut = (down ≡ false) × (turned ≡ turns)
EndIs ends.Closed turned turns down shut = (down ≡ false) × (shut ≡ true)

pub record WorkerIs {L : Type 0} (turns : ℕ) (shut : Bool) (link : Watch L) (ended : Ended) : Type 0 where
  pub turned : ended.turned ≤ turns
  pub landed : ended.share ≤ chunk_limit * ended.turned
  pub sends : Sends ended.given 0 link.sent (is_down link.signs)
  pub cause : EndIs ended.end ended.turned turns (is_down link.signs) shut

-- a worker without a link
pub record IsNobody (ended : Ended) : Type 0 where
  pub share : ended.share ≡ 0
  pub turned : ended.turned ≡ 0
  pub given : ended.given ≡ 0
  pub is : ended.end ≡ ends.NoLink

abbrev pub AllNobody : List Ended → Type 0
AllNobody [] = Unit {0}
AllNobody (ended ∷ others) = IsNobody ended × AllNobody others

-- ---- all workers: one for each link, in their order, and nobody beyond the links

abbrev pub AllWorkers : {L : Type 0} → (turns : ℕ) → (shut : Bool) → List (Watch L) → List Ended → Type 0
AllWorkers turns shut [] ended = AllNobody ended
AllWorkers turns shut (link ∷ links) [] = ⊥
AllWorkers turns shut (link ∷ links) (ended ∷ others) = WorkerIs turns shut link ended × AllWorkers turns shut links others

abbrev pub AllUnsent : {L : Type 0} → List (Watch L) → Type 0
AllUnsent [] = Unit {0}
AllUnsent (link ∷ links) = (link.sent ≡ 0) × AllUnsent links

-- ---- their sums

abbrev pub landed_of : List Ended → ℕ
landed_of ended = sum_by (λ e. e.share) ended

abbrev pub turns_of : List Ended → ℕ
turns_of ended = sum_by (λ e. e.turned) ended

abbrev pub given_of : List Ended → ℕ
given_of ended = sum_by (λ e. e.given) ended

-- ---- a report's four lists, row by row

abbrev pub rows : (shares turned given : List ℕ) → List WorkerEnd → List Ended
rows (s ∷ ss) (t ∷ ts) (g ∷ gs) (e ∷ es) = record { share = s; turned = t; given = g; end = e } ∷ rows ss ts gs es
rows _ _ _ _ = []
