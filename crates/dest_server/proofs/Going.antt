-- A machine goes on by one step more.
use Rattle.std.proofs.Common.{◌≡◌, ◌⊎◌, ℕ, ◌<◌, ◌≤◌, List, [], ◌∷◌, ◌++◌, refl, ap, subst, sym, inl, inr, Some, None, Ok, Err}
use Rattle.std.proofs.lemmas.Bool.{cases_lt}
use Rattle.std.specs.Prelude.{Option, Result, IfOk, OnErr}
use Rattle.core_desk.specs.Core.{same_sent, DeskState, Gave, TurnIs}
use Rattle.core_desk.specs.Kept.{Gives}
use Rattle.core_desk.specs.declared.machine.TheConstants.{MOST_CALLS}
use Rattle.outbox.specs.declared.outgoing.Outbox.{Outbox}
use Rattle.outbox.specs.declared.outgoing.Outgoing.{Outgoing}
use Rattle.outcome.specs.declared.memory.NoMemory.{NoMemory}
use Rattle.dest_server.specs.Coming.{ComesFrom, CoreWords, Follows, Moves}

pub on_err : {T E X : Type 0} (result : Result T E) → X → OnErr result X
on_err (Ok out) holds = tt
on_err (Err e) holds = holds

-- the desk is as before, and so is its machine
pub core_same : {K W : Type 0} (old new : DeskState K W) → new ≡ old → new.core ≡ old.core
core_same {K = K} {W = W} old new same = ap (λ (d : DeskState K W). d.core) same

pub core_same_on_err : {K W : Type 0} (result : Result Outbox NoMemory) (old new : DeskState K W) → OnErr result (new ≡ old)
    → OnErr result (new.core ≡ old.core)
core_same_on_err (Ok out) old new same = tt
core_same_on_err (Err e) old new same = core_same old new same

module _ {K W : Type 0} (c : CoreWords K W) where
  follows_more : (first old new : K) (states : List K) → Follows c first states old → Moves c old new → Follows c first (states ++ new ∷ []) new
  follows_more first old new [] follows moved = (rw (← follows) moved, refl)
  follows_more first old new (next ∷ states) follows moved = (follows.0, follows_more next old new states follows.1 moved)

  pub comes_first : (origin : Option K) (first : K) → origin ≡ Some first → ComesFrom c origin first
  comes_first origin first is = subst (λ (o : Option K). ComesFrom c o first) (sym is) (record { states = []; follows = refl })

  pub comes_same : (origin : Option K) (old new : K) → new ≡ old → ComesFrom c origin old → ComesFrom c origin new
  comes_same origin old new same came = subst (λ (k : K). ComesFrom c origin k) (sym same) came

  pub comes_more : (origin : Option K) (old new : K) → Moves c old new → ComesFrom c origin old → ComesFrom c origin new
  comes_more (Some first) old new moved came = record {
    states = came.states ++ new ∷ [];
    follows = follows_more first old new came.states came.follows moved;
  }
  comes_more None old new moved came = absurd came

  -- ---- a call of a desk is one step of its machine, or leaves it as it was

  if_ran : (origin : Option K) (step : ℕ → K → Outbox → K → Type 0) (sends : List Outgoing → List Outgoing → Type 0) (old new : K)
      (result : Result Outbox NoMemory) → ((now : ℕ) (told : Outbox) → step now old told new → Moves c old new)
      → IfOk result (λ out. Gave step sends old out new) → OnErr result (new ≡ old) → ComesFrom c origin old → ComesFrom c origin new
  if_ran origin step sends old new (Ok out) moves gave same came = comes_more origin old new (moves gave.now gave.told gave.step_is) came
  if_ran origin step sends old new (Err e) moves gave same came = comes_same origin old new same came

  by_room : (origin : Option K) (step : ℕ → K → Outbox → K → Type 0) (sends : List Outgoing → List Outgoing → Type 0) (old new : K) (steps : ℕ)
      (result : Result Outbox NoMemory) → ((steps < MOST_CALLS) ⊎ (MOST_CALLS ≤ steps))
      → ((now : ℕ) (told : Outbox) → step now old told new → Moves c old new)
      → (steps < MOST_CALLS → IfOk result (λ out. Gave step sends old out new)) → (MOST_CALLS ≤ steps → new ≡ old)
      → OnErr result (new ≡ old) → ComesFrom c origin old → ComesFrom c origin new
  by_room origin step sends old new steps result (inl room) moves gave full same came =
      if_ran origin step sends old new result moves (gave room) same came
  by_room origin step sends old new steps result (inr none) moves gave full same came = comes_same origin old new (full none) came

  pub comes_by : (origin : Option K) (step : ℕ → K → Outbox → K → Type 0) (sends : List Outgoing → List Outgoing → Type 0) (old new : K) (steps : ℕ)
      (result : Result Outbox NoMemory) → ((now : ℕ) (told : Outbox) → step now old told new → Moves c old new)
      → (steps < MOST_CALLS → IfOk result (λ out. Gave step sends old out new)) → (MOST_CALLS ≤ steps → new ≡ old)
      → OnErr result (new ≡ old) → ComesFrom c origin old → ComesFrom c origin new
  comes_by origin step sends old new steps result = by_room origin step sends old new steps result (cases_lt steps MOST_CALLS)

  -- a worker's turn, with a record that came for the worker or without one
  pub comes_turn : (origin : Option K) (works : ℕ → W → W → K → Outbox → K → Type 0) (takes : List ℕ → ℕ → K → Outbox → K → Type 0) (worker : ℕ)
      (reply : Option (List ℕ)) (old : DeskState K W) (result : Result Outbox NoMemory) (new : DeskState K W) (steps : K → ℕ)
      → ((now : ℕ) (told : Outbox) → works now old.draws new.draws old.core told new.core → Moves c old.core new.core)
      → ((message : List ℕ) (now : ℕ) (told : Outbox) → takes message now old.core told new.core → Moves c old.core new.core)
      → TurnIs steps works takes worker reply old result new → ComesFrom c origin old.core → ComesFrom c origin new.core
  comes_turn origin works takes worker None old result new steps worked took turn =
      comes_by origin (λ now before told after. works now old.draws new.draws before told after) (Gives worker old.kept new.kept) old.core new.core
      (steps old.core) result worked turn.step (λ full. (turn.full full).1) turn.err
  comes_turn origin works takes worker (Some message) old result new steps worked took turn =
      comes_by origin (takes message) same_sent old.core new.core (steps old.core) result (took message) turn.step (λ full. (turn.full full).1) turn.err

  -- ---- the same, where what it gives is just what the step told

  if_failed : (origin : Option K) (fails : K → Outbox → K → Type 0) (old new : K) (result : Result Outbox NoMemory)
      → ((out : Outbox) → fails old out new → Moves c old new) → IfOk result (λ out. fails old out new) → OnErr result (new ≡ old)
      → ComesFrom c origin old → ComesFrom c origin new
  if_failed origin fails old new (Ok out) moves gave same came = comes_more origin old new (moves out gave) came
  if_failed origin fails old new (Err e) moves gave same came = comes_same origin old new same came

  failed_by_room : (origin : Option K) (fails : K → Outbox → K → Type 0) (old new : K) (steps : ℕ) (result : Result Outbox NoMemory)
      → ((steps < MOST_CALLS) ⊎ (MOST_CALLS ≤ steps)) → ((out : Outbox) → fails old out new → Moves c old new)
      → (steps < MOST_CALLS → IfOk result (λ out. fails old out new)) → (MOST_CALLS ≤ steps → new ≡ old) → OnErr result (new ≡ old)
      → ComesFrom c origin old → ComesFrom c origin new
  failed_by_room origin fails old new steps result (inl room) moves gave full same came =
      if_failed origin fails old new result moves (gave room) same came
  failed_by_room origin fails old new steps result (inr none) moves gave full same came = comes_same origin old new (full none) came

  pub comes_failed : (origin : Option K) (fails : K → Outbox → K → Type 0) (old new : K) (steps : ℕ) (result : Result Outbox NoMemory)
      → ((out : Outbox) → fails old out new → Moves c old new) → (steps < MOST_CALLS → IfOk result (λ out. fails old out new))
      → (MOST_CALLS ≤ steps → new ≡ old) → OnErr result (new ≡ old) → ComesFrom c origin old → ComesFrom c origin new
  comes_failed origin fails old new steps result = failed_by_room origin fails old new steps result (cases_lt steps MOST_CALLS)
