-- The runner's check: whatever an end accepts under a seal was sealed so by another end, and a reply was sealed
-- in a step that took the awaited call, after that call was sent. Nothing is assumed of the strength of a code;
-- a run in which an end accepts anything else is cut before that step. Own definitions.
use Rattle.std.specs.Prelude.{◌≡◌, ℕ, suc, ◌<◌, true, false, Option, Some, List}
use Rattle.nfs_base.specs.declared.seal.End.{End}
use Rattle.nfs_base.specs.declared.seal.Seal.{Seal}
use Rattle.wire_model.specs.Spelling.{Spelling}
use Rattle.wire_model.specs.Wire.{Acts, Sends}

-- before step k an end other than e sealed these bytes with exactly this seal
pub record WasSealed (acts : End → ℕ → Acts) (k : ℕ) (e : End) (seal : Seal) (bytes : List ℕ) : Type 0 where
  pub by : End
  pub other : by ≡ e → ⊥
  pub step : ℕ
  pub before : step < k
  pub sealed : Sends (acts by step) bytes (Some seal)

-- it did so in a step that took the call with the reply's xid that e sent in its present opening, after that
-- call was sent
pub record AnswersCall (spell : Spelling) (acts : End → ℕ → Acts) (boot : End → ℕ → ℕ) (k : ℕ) (e : End) (seal : Seal) (reply : List ℕ) : Type 0 where
  pub by : End
  pub other : by ≡ e → ⊥
  pub step : ℕ
  pub before : step < k
  pub sealed : Sends (acts by step) reply (Some seal)
  pub call : List ℕ
  pub took : (acts by step).took ≡ Some call
  pub sent : ℕ
  pub in_order : sent < step
  pub seal_sent : Option Seal
  pub sends : Sends (acts e sent) call seal_sent
  pub is_call : spell.is_reply call ≡ false
  pub xid : spell.xid_of call ≡ spell.xid_of reply
  pub opening : boot e (suc sent) ≡ boot e k

-- The step from moment k passes the check at this end.
pub record IsRight (spell : Spelling) (acts : End → ℕ → Acts) (boot : End → ℕ → ℕ) (k : ℕ) (e : End) : Type 0 where
  pub sealed : (seal : Seal) (bytes : List ℕ) → (acts e k).accepted ≡ Some seal → (acts e k).took ≡ Some bytes
      → WasSealed acts k e seal bytes
  pub answers : (seal : Seal) (reply : List ℕ) → (acts e k).accepted ≡ Some seal → (acts e k).took ≡ Some reply
      → spell.is_reply reply ≡ true → AnswersCall spell acts boot k e seal reply

-- no end is mistaken in any step
abbrev pub IsUnmistaken : Spelling → (End → ℕ → Acts) → (End → ℕ → ℕ) → Type 0
IsUnmistaken spell acts boot = (k : ℕ) (e : End) → IsRight spell acts boot k e
