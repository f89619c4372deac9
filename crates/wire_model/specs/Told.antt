-- A wire whose server and callers obey their laws, and what an answer that a caller takes comes from.
use Rattle.std.specs.Prelude.{◌≡◌, ℕ, suc, ◌<◌, true, Some, List}
use Rattle.nfs_base.specs.declared.seal.End.{End}
use Rattle.nfs_base.specs.declared.seal.Seal.{Seal}
use Rattle.wire_model.specs.Spelling.{SlotName, Spelling}
use Rattle.wire_model.specs.Wire.{Acts, Wire, Slotted, Call}
use Rattle.wire_model.specs.ServerLaws.{ServerLaws, ServerStart, Executes}
use Rattle.wire_model.specs.CallerLaws.{CallerLaws, CallerStart, Takes}
use Rattle.wire_model.specs.Check.{IsUnmistaken}

-- the number of each end's present opening, as a caller
abbrev pub opening : Wire → End → ℕ → ℕ
opening w e k = (w.caller e k).boot

-- the server obeys its laws, each other end obeys those of a caller, and no end is mistaken
pub record IsLawfulWire (spell : Spelling) (w : Wire) : Type 0 where
  pub server_start : ServerStart (w.server 0)
  pub server : (k : ℕ) → ServerLaws spell w.owner (w.server k) (w.server (suc k)) (w.acts w.owner k)
  pub caller_start : (e : End) → (e ≡ w.owner → ⊥) → CallerStart (w.caller e 0)
  pub caller : (e : End) → (e ≡ w.owner → ⊥) → (k : ℕ) → CallerLaws spell w.owner e (w.caller e k) (w.caller e (suc k)) (w.acts e k)
  pub unmistaken : IsUnmistaken spell w.acts (opening w)

-- The server told these results of a caller's call in an earlier step, in which it executed the call's
-- operations, in the opening that made the call's root, and after a step in which the call was sent and all that
-- it is for was ready.
pub record WasTold (w : Wire) (k : ℕ) (e : End) (call : Call) (results : List ℕ) : Type 0 where
  pub sent : ℕ
  pub ready : (w.caller e (suc sent)).ready call.purpose ≡ true
  pub step : ℕ
  pub after : sent < step
  pub before : step < k
  pub boot : (w.server step).boot ≡ call.root.boot
  pub same_boot : (w.server (suc step)).boot ≡ call.root.boot
  pub executed : (w.acts w.owner step).executed ≡ Some (record { ops = call.ops; results = results })

-- Whatever a caller takes as the answer to a call of a slot, the server told it so: a retry's answer too, and
-- one that was kept.
abbrev pub AreAnswersTold : Spelling → Wire → Type 0
AreAnswersTold spell w =
    (k : ℕ) (e : End) (call : Call) (seal : Seal) (reply : List ℕ) → (e ≡ w.owner → ⊥)
    → Takes spell (w.caller e k) (w.acts e k) seal (Slotted seal call) reply
    → WasTold w k e call (spell.results_of reply)

-- in an opening a number of a slot runs once
abbrev pub IsExecutedOnce : Spelling → Wire → Type 0
IsExecutedOnce spell w =
    (i k : ℕ) (name : SlotName) (root root' : ℕ) (results results' : List ℕ)
    → Executes spell w.owner (w.server i) (w.server (suc i)) (w.acts w.owner i) name root results
    → spell.has_run results ≡ true
    → Executes spell w.owner (w.server k) (w.server (suc k)) (w.acts w.owner k) name root' results'
    → spell.has_run results' ≡ true
    → (w.server i).boot ≡ (w.server k).boot → i ≡ k

-- what a server accepts of a slot calls its volume once at most
abbrev pub TakesSimple : Spelling → End → Acts → Type 0
TakesSimple spell owner a =
    (call : List ℕ) (seal : Seal) (name : SlotName) → a.took ≡ Some call → a.accepted ≡ Some seal → seal.owner ≡ owner
    → spell.slot_of call ≡ Some name → spell.is_simple (spell.ops_of call) ≡ true

abbrev pub AreCallsSimple : Spelling → Wire → Type 0
AreCallsSimple spell w = (k : ℕ) → TakesSimple spell w.owner (w.acts w.owner k)
