-- What a step tells: the results that its COMPOUND gives.
use Rattle.std.specs.Prelude.{◌≡◌, ◌⊎◌, ℕ, max, false, List, Some}
use Rattle.context_laws.specs.View.{root_number}
use Rattle.compound_server.specs.State.{Given}
use Rattle.session_server.specs.Host.{Codes, HostState, Rules, Stepped}
use Rattle.slot_laws.specs.Turns.{is_retry}
use Rattle.wire_model.specs.Wire.{Executed}
use Rattle.server_laws.specs.Acts.{acts_of}
use Rattle.server_laws.specs.Slots.{IsCompoundStep, IsOtherStep, given_under}

-- what the COMPOUND of a step gives
abbrev pub given_in : {X C : Type 0} (rules : Rules X C) (codes : Codes) (conn : ℕ) (bytes : List ℕ) (second : ℕ) (s : HostState X C) (t : Stepped X C)
    → IsCompoundStep rules codes conn bytes second s t → Given X
given_in rules codes conn bytes second s t k =
    given_under rules k.choice second conn k.asked.number k.asked.seq k.asked.context k.compound s

-- These operations and results are those of a COMPOUND that the step carries out, and that isn't a retry.
pub record IsTold {X C : Type 0} (rules : Rules X C) (codes : Codes) (bytes : List ℕ) (now : ℕ) (s : HostState X C) (t : Stepped X C) (e : Executed) : Type 0 where
  pub conn : ℕ
  pub step : IsCompoundStep rules codes conn bytes (max s.second now) s t
  pub new : is_retry (root_number step.asked.context.parent step.asked.number) step.compound s.state.sessions ≡ false
  pub ops : e.ops ≡ step.args
  pub results : e.results ≡ (given_in rules codes conn bytes (max s.second now) s t step).body

-- A step carries a COMPOUND out, or is another.
abbrev pub HasKind : {X C : Type 0} → Rules X C → Codes → List ℕ → ℕ → HostState X C → Stepped X C → Type 0
HasKind rules codes bytes now s t =
    ((conn : ℕ) × IsCompoundStep rules codes conn bytes (max s.second now) s t) ⊎ IsOtherStep codes bytes (max s.second now) s t

-- What it tells is what a COMPOUND gives.
abbrev pub TellsGiven : {X C : Type 0} → Rules X C → Codes → List ℕ → ℕ → HostState X C → Stepped X C → Type 0
TellsGiven rules codes bytes now s t = (e : Executed) → (acts_of codes bytes now s t).executed ≡ Some e → IsTold rules codes bytes now s t e
