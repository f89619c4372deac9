-- When a list of records is true of a run, and what the check of seals over it then says. Own definitions.
use Rattle.std.specs.Prelude.{◌≡◌, ℕ, suc, ◌<◌, true, List, Some}
use Rattle.std.specs.List.{AllByRecursion}
use Rattle.nfs_base.specs.declared.seal.End.{End}
use Rattle.nfs_base.specs.declared.seal.Seal.{Seal}
use Rattle.wire_model.specs.Spelling.{Spelling}
use Rattle.wire_model.specs.Wire.{Acts, Sends}
use Rattle.wire_machine.specs.Check.{Reading, is_right}
use Rattle.wire_machine.specs.World.{Posted}

-- what the check reads of a record
abbrev pub reading_of : Spelling → Reading
reading_of spell = record { is_reply = spell.is_reply; xid_of = spell.xid_of }

-- Before step k a record was sent as it is listed: by its end, in its step, which took this; and behind that step the end was
-- in this opening.
pub record WasSent (acts : End → ℕ → Acts) (boot : End → ℕ → ℕ) (k : ℕ) (r : Posted) : Type 0 where
  pub before : r.step < k
  pub sent : Sends (acts r.from r.step) r.bytes r.seal
  pub took : (acts r.from r.step).took ≡ r.took
  pub opening : boot r.from (suc r.step) ≡ r.opening

abbrev pub WereSent : (acts : End → ℕ → Acts) → (boot : End → ℕ → ℕ) → (k : ℕ) → List Posted → Type 0
WereSent acts boot k log = AllByRecursion (WasSent acts boot k) log

-- whatever the end accepts under a seal in step k passes the check over this list
abbrev pub Passes : Spelling → (acts : End → ℕ → Acts) → (boot : End → ℕ → ℕ) → (k : ℕ) → End → List Posted → Type 0
Passes spell acts boot k e log =
    (seal : Seal) (bytes : List ℕ) → (acts e k).accepted ≡ Some seal → (acts e k).took ≡ Some bytes
    → is_right (reading_of spell) log e (boot e k) seal bytes ≡ true
