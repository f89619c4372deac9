-- What a destination shows in an opening, behind the copies of its openings before: its own first copy has the number behind them.
-- Own definitions.
use Rattle.std.specs.Prelude.{◌≡◌, ℕ, suc, ◌+◌, ◌-◌, ◌<◌, ◌≤◌, Bool, true, nat_lt, if◌then◌else◌}
use Rattle.std.specs.Option.{option_map}
use Rattle.copy_model.specs.Marks.{len_of}
use Rattle.nfs_base.specs.declared.seal.End.TheVariants.{Dest, Source}
use Rattle.wire_model.specs.Copies.{Deed, Plain, Lands, LandFails, is_safe}
use Rattle.wire_model.specs.System.{Chunk, System}
use Rattle.wire_model.specs.Wire.{Awaited, Begins, Call, Caller, ForJob, Makes, Other, Purpose, Slotted, What}

-- ---- a caller whose calls are for these copies

abbrev pub purpose_behind : (base : ℕ) → Purpose → Purpose
purpose_behind base (ForJob job) = ForJob (base + job)
purpose_behind base purpose = purpose

abbrev pub call_behind : (base : ℕ) → Call → Call
call_behind base call = record call { purpose = purpose_behind base call.purpose }

abbrev pub what_behind : (base : ℕ) → What → What
what_behind base Begins = Begins
what_behind base (Makes seal) = Makes seal
what_behind base (Slotted seal call) = Slotted seal (call_behind base call)
what_behind base Other = Other

abbrev pub awaited_behind : (base : ℕ) → Awaited → Awaited
awaited_behind base x = record x { what = what_behind base x.what }

-- all that a copy of an opening before waited for has come about
abbrev pub ready_behind : (base : ℕ) → (Purpose → Bool) → Purpose → Bool
ready_behind base ready (ForJob job) = if nat_lt job base then true else ready (ForJob (job - base))
ready_behind base ready purpose = ready purpose

abbrev pub caller_behind : (base : ℕ) → Caller → Caller
caller_behind base v = record v { awaits = λ place. option_map (awaited_behind base) (v.awaits place); ready = ready_behind base v.ready }

-- ---- what it does to its volume, and what its workers hold

abbrev pub deed_behind : (base : ℕ) → Deed → Deed
deed_behind base (Plain effect) = Plain effect
deed_behind base (Lands copy off bytes) = Lands (base + copy) off bytes
deed_behind base LandFails = LandFails

abbrev pub chunk_behind : (base : ℕ) → Chunk → Chunk
chunk_behind base chunk = record chunk { copy = base + chunk.copy }

-- ---- a system that shows another one, of one opening, behind so many copies

-- at a moment of both
pub record ShowsBehind (base : ℕ) (own : System) (i : ℕ) (s : System) (k : ℕ) : Type 0 where
  pub made : s.made k ≡ base + own.made i
  pub job : (j : ℕ) → s.job k (base + j) ≡ own.job i j
  pub name : (j : ℕ) → s.name k (base + j) ≡ own.name i j
  pub holds : (worker : ℕ) → s.holds k worker ≡ option_map (chunk_behind base) (own.holds i worker)
  pub caller : s.caller Source Dest k ≡ caller_behind base (own.caller Source Dest i)

-- In the step from a moment of both. The copies of the openings before are lost, and stay as they are. At a place at which this opening
-- accepts no copy one of a later opening may stand, so that only a copy that is accepted takes as much room in both.
pub record GoesBehind (base : ℕ) (own : System) (i : ℕ) (s : System) (k : ℕ) : Type 0 where
  pub before : ShowsBehind base own i s k
  pub after : ShowsBehind base own (suc i) s (suc k)
  pub deed : s.deed k ≡ deed_behind base (own.deed i)
  pub acts : s.acts Dest k ≡ own.acts Dest i
  pub reach : (j : ℕ) → j < own.made (suc i) → s.reach (base + j) ≡ own.reach j
  pub past : (j : ℕ) → j < base → s.job (suc k) j ≡ s.job k j
  pub lost : (j : ℕ) → j < base → (s.job k j).lost ≡ true
  pub room : (j : ℕ) → j < base → len_of (s.job k j).entries ≤ s.reach j
  pub safe : (j : ℕ) → j < base → (s.job k j).stable ≡ true → is_safe (s.job k j) ≡ true
  pub names : (j : ℕ) → j < base → s.name (suc k) j ≡ s.name k j
  pub others : (j l : ℕ) → j < base → s.name k j ≡ own.name (suc i) l → ⊥
