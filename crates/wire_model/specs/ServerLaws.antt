-- What a server owes in a step from v to w, in which it did a.
use Rattle.std.specs.Prelude.{◌≡◌, ◌⊎◌, ℕ, ◌<◌, ◌≤◌, true, None, Some, List}
use Rattle.nfs_base.specs.declared.seal.End.{End}
use Rattle.nfs_base.specs.declared.seal.Seal.{Seal}
use Rattle.wire_model.specs.Spelling.{Context, SlotName, Spelling}
use Rattle.wire_model.specs.Wire.{Acts, Sends, Server}

-- A context of this number is made in the step, and has this root. A number is given once.
pub record IsMade (v w : Server) (number root : ℕ) : Type 0 where
  pub same_boot : v.boot ≡ w.boot
  pub new : v.made < number
  pub counted : number ≤ w.made
  pub root_is : w.root number ≡ Some root

-- The step accepts a call of this slot under the seal, whose context has this root, and tells these results of it: it
-- isn't answered as kept. Where SEQUENCE itself is refused, that refusal is all that is told.
pub record Executes (spell : Spelling) (owner : End) (v w : Server) (a : Acts) (name : SlotName) (root : ℕ) (results : List ℕ) : Type 0 where
  pub call : List ℕ
  pub seal : Seal
  pub took : a.took ≡ Some call
  pub accepted : a.accepted ≡ Some seal
  pub own : seal.owner ≡ owner
  pub same_boot : v.boot ≡ w.boot
  pub in_boot : seal.boot ≡ v.boot
  pub name_is : spell.slot_of call ≡ Some name
  pub root_is : v.root seal.number ≡ Some root
  pub executed : a.executed ≡ Some (record { ops = spell.ops_of call; results = results })

-- the reply that is kept for a slot is this one
abbrev pub Keeps : Server → SlotName → ℕ → List ℕ → Type 0
Keeps v name root results = v.kept name.session name.slot ≡ Some (record { number = name.number; root = root; results = results })

-- the number executed last in a slot
abbrev pub last_of : Server → SlotName → ℕ
last_of v name = v.last name.session name.slot

-- What a call of a slot is answered by: it was accepted under the seal of its reply, whose context is there,
-- and the results are those of executing it now, or those kept for its slot, number and root.
pub record IsAnswered (spell : Spelling) (owner : End) (v w : Server) (a : Acts) (name : SlotName) (seal : Seal) (reply : List ℕ) : Type 0 where
  pub accepted : a.accepted ≡ Some seal
  pub in_boot : seal.boot ≡ v.boot
  pub same_boot : v.boot ≡ w.boot
  pub root : ℕ
  pub root_is : v.root seal.number ≡ Some root
  pub results : Executes spell owner v w a name root (spell.results_of reply) ⊎ Keeps v name root (spell.results_of reply)

-- The laws of a server. boot, made: the opening's number never falls, nor within an opening the count of
-- contexts made (own). root: a context that is there was there, or is made now (RFC 2203 section 5.2.2).
-- init: an INIT that is answered with a context makes it, and it is its own root (RFC 2203 section 5.2.2; that
-- the answer is sealed with it is own). create: a CREATE makes its context under the seal of its answer
-- (RFC 7861 section 2.5). slot: a call of a slot is executed or answered as kept (RFC 8881 section 2.10.6.1).
-- kept: a reply that is kept was kept, or is that of the call executed now (RFC 8881 section 2.10.6.1.3). once:
-- what runs has a number above the last (RFC 8881 section 2.10.6.1); last: the last number never falls.
pub record ServerLaws (spell : Spelling) (owner : End) (v w : Server) (a : Acts) : Type 0 where
  pub boot : v.boot ≤ w.boot
  pub made : v.boot ≡ w.boot → v.made ≤ w.made
  pub root : (number root : ℕ) → w.root number ≡ Some root
      → ((v.boot ≡ w.boot) × (v.root number ≡ Some root)) ⊎ IsMade v w number root
  pub init : (call reply : List ℕ) (seal : Seal) (by : End) → a.took ≡ Some call → spell.begun_by call ≡ Some by
      → Sends a reply (Some seal) → spell.is_reply reply ≡ true
      → (seal.boot ≡ w.boot) × IsMade v w seal.number seal.number
  pub create : (call reply : List ℕ) (seal : Seal) (child : Context) → a.took ≡ Some call → spell.is_create call ≡ true
      → Sends a reply (Some seal) → spell.is_reply reply ≡ true → spell.context_in reply ≡ Some child
      → (child.boot ≡ w.boot) × (seal.boot ≡ w.boot) × IsMade v w child.number seal.number
  pub slot : (call reply : List ℕ) (seal : Seal) (name : SlotName) → a.took ≡ Some call → spell.slot_of call ≡ Some name
      → Sends a reply (Some seal) → spell.is_reply reply ≡ true → IsAnswered spell owner v w a name seal reply
  pub kept : (name : SlotName) (root : ℕ) (results : List ℕ) → Keeps w name root results
      → ((v.boot ≡ w.boot) × Keeps v name root results) ⊎ Executes spell owner v w a name root results
  pub once : (name : SlotName) (root : ℕ) (results : List ℕ) → Executes spell owner v w a name root results
      → spell.has_run results ≡ true → (last_of v name < name.number) × (name.number ≤ last_of w name)
  pub last : (name : SlotName) → v.boot ≡ w.boot → last_of v name ≤ last_of w name

-- a server that was just opened for the first time has no context and keeps nothing
pub record ServerStart (v : Server) : Type 0 where
  pub no_context : (number : ℕ) → v.root number ≡ None
  pub none_kept : (session slot : ℕ) → v.kept session slot ≡ None
