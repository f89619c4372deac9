-- The numbered list of records that a runner keeps, and its check made over that list. Own definitions.
use Rattle.std.specs.Prelude.{◌≡◌, ◌⊎◌, ℕ, zero, suc, ◌<◌, true, false, Option, Some, List, [], ◌∷◌, ◌++◌}
use Rattle.nfs_base.specs.declared.seal.End.{End}
use Rattle.nfs_base.specs.declared.seal.End.TheVariants.{Source, Dest, Client}
use Rattle.nfs_base.specs.declared.seal.Seal.{Seal}
use Rattle.wire_model.specs.Spelling.{Spelling}
use Rattle.wire_model.specs.Wire.{Sent, Acts}

-- A record that was sent: its bytes and seal, the end that sent it and the step in which it did, what that step
-- took, and the number of the end's opening after it.
pub record Logged : Type 0 where
  pub bytes : List ℕ
  pub seal : Option Seal
  pub by : End
  pub step : ℕ
  pub took : Option (List ℕ)
  pub opening : ℕ

abbrev pub logged : End → ℕ → Option (List ℕ) → ℕ → List Sent → List Logged
logged e k took opening [] = []
logged e k took opening (x ∷ xs) =
    record { bytes = x.bytes; seal = x.seal; by = e; step = k; took = took; opening = opening } ∷ logged e k took opening xs

-- what an end sends in a step
abbrev pub sent_in : (End → ℕ → Acts) → (End → ℕ → ℕ) → ℕ → End → List Logged
sent_in acts boot k e = logged e k (acts e k).took (boot e (suc k)) (acts e k).out

-- all records that were sent before step k, in order
abbrev pub log : (End → ℕ → Acts) → (End → ℕ → ℕ) → ℕ → List Logged
log acts boot zero = []
log acts boot (suc k) =
    log acts boot k ++ (sent_in acts boot k Source ++ (sent_in acts boot k Dest ++ sent_in acts boot k Client))

abbrev pub IsAmong : Logged → List Logged → Type 0
IsAmong r [] = ⊥
IsAmong r (x ∷ xs) = (x ≡ r) ⊎ IsAmong r xs

-- the list has a record of these bytes that another end than e sealed with exactly this seal
pub record FindsSealed (records : List Logged) (e : End) (seal : Seal) (bytes : List ℕ) : Type 0 where
  pub found : Logged
  pub listed : IsAmong found records
  pub other : found.by ≡ e → ⊥
  pub seal_is : found.seal ≡ Some seal
  pub bytes_are : found.bytes ≡ bytes

-- and one that was sent in a step that took the call with the reply's xid that e sent in its present opening,
-- after that call was sent
pub record FindsAnswer (spell : Spelling) (records : List Logged) (opening : ℕ) (e : End) (seal : Seal) (reply : List ℕ) : Type 0 where
  pub found : Logged
  pub listed : IsAmong found records
  pub other : found.by ≡ e → ⊥
  pub seal_is : found.seal ≡ Some seal
  pub bytes_are : found.bytes ≡ reply
  pub call : Logged
  pub call_listed : IsAmong call records
  pub own : call.by ≡ e
  pub in_order : call.step < found.step
  pub took : found.took ≡ Some call.bytes
  pub is_call : spell.is_reply call.bytes ≡ false
  pub xid : spell.xid_of call.bytes ≡ spell.xid_of reply
  pub present : call.opening ≡ opening

-- the step from moment k passes the check over the list
pub record PassesCheck (spell : Spelling) (acts : End → ℕ → Acts) (boot : End → ℕ → ℕ) (k : ℕ) (e : End) : Type 0 where
  pub sealed : (seal : Seal) (bytes : List ℕ) → (acts e k).accepted ≡ Some seal → (acts e k).took ≡ Some bytes
      → FindsSealed (log acts boot k) e seal bytes
  pub answers : (seal : Seal) (reply : List ℕ) → (acts e k).accepted ≡ Some seal → (acts e k).took ≡ Some reply
      → spell.is_reply reply ≡ true → FindsAnswer spell (log acts boot k) (boot e k) e seal reply
