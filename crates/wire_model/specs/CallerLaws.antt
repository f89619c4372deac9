-- What a caller of a server owes in a step from v to w, in which it did a.
use Rattle.std.specs.Prelude.{◌≡◌, ◌⊎◌, ℕ, ◌<◌, ◌≤◌, true, false, None, Option, Some, List}
use Rattle.nfs_base.specs.declared.seal.End.{End}
use Rattle.nfs_base.specs.declared.seal.Seal.{Seal}
use Rattle.wire_model.specs.Spelling.{Context, SlotName, Spelling}
use Rattle.wire_model.specs.Wire.{Acts, Sends, Caller, Awaited, What, Begins, Makes, Slotted, Other, Call, context_of}

-- bytes sealed so are the call that is awaited
abbrev pub FitsWhat : Spelling → End → End → List ℕ → Option Seal → What → Type 0
FitsWhat spell owner own bytes sealed Begins = spell.begun_by bytes ≡ Some own
FitsWhat spell owner own bytes sealed (Makes seal) = (sealed ≡ Some seal) × (seal.owner ≡ owner) × (spell.is_create bytes ≡ true)
FitsWhat spell owner own bytes sealed (Slotted seal call) =
    (sealed ≡ Some seal)
    × (seal.owner ≡ owner)
    × ((name : SlotName) × (spell.slot_of bytes ≡ Some name) × (name.slot ≡ call.slot) × (name.number ≡ call.number))
    × (spell.ops_of bytes ≡ call.ops)
FitsWhat spell owner own bytes sealed Other = Unit {0}

-- The step sends the call that is awaited.
pub record IsSent (spell : Spelling) (owner own : End) (a : Acts) (x : Awaited) : Type 0 where
  pub bytes : List ℕ
  pub seal : Option Seal
  pub sent : Sends a bytes seal
  pub xid : spell.xid_of bytes ≡ x.xid
  pub is_call : spell.is_reply bytes ≡ false
  pub no_callback : spell.is_callback bytes ≡ false
  pub fits : FitsWhat spell owner own bytes seal x.what

-- A reply to an awaited call is accepted under the seal.
pub record Takes (spell : Spelling) (v : Caller) (a : Acts) (seal : Seal) (what : What) (reply : List ℕ) : Type 0 where
  pub place : ℕ
  pub took : a.took ≡ Some reply
  pub is_reply : spell.is_reply reply ≡ true
  pub accepted : a.accepted ≡ Some seal
  pub awaited : v.awaits place ≡ Some (record { xid = spell.xid_of reply; what = what })

-- An answer to INIT gives this root context: that of its seal.
pub record LearnsRoot (spell : Spelling) (owner : End) (v : Caller) (a : Acts) (root : Context) : Type 0 where
  pub seal : Seal
  pub reply : List ℕ
  pub takes : Takes spell v a seal Begins reply
  pub own : seal.owner ≡ owner
  pub root_is : context_of seal ≡ root

-- An answer to CREATE under a root context gives this child.
pub record LearnsChild (spell : Spelling) (v : Caller) (a : Acts) (child root : Context) : Type 0 where
  pub seal : Seal
  pub reply : List ℕ
  pub takes : Takes spell v a seal (Makes seal) reply
  pub child_is : spell.context_in reply ≡ Some child
  pub root_is : context_of seal ≡ root
  pub has_root : v.has root root ≡ true

-- A call of a slot is new: it is made under the mounted root, it takes a number that no call of its slot had,
-- and what it is for is ready.
pub record IsNew (v w : Caller) (call : Call) : Type 0 where
  pub mounted : w.mount ≡ Some call.root
  pub unused : v.mount ≡ Some call.root → v.next call.slot ≤ call.number
  pub used : call.number < w.next call.slot
  pub ready : w.ready call.purpose ≡ true

-- it was awaited before, maybe by another xid and under another seal
abbrev pub GoesOn : Caller → Caller → ℕ → Call → Type 0
GoesOn v w place call =
    (v.boot ≡ w.boot) × ((xid : ℕ) × (seal : Seal) × (v.awaits place ≡ Some (record { xid = xid; what = Slotted seal call })))

-- a call of a slot that is sent is awaited after the step, in the place of its slot, under a context that the
-- caller has
pub record IsAwaited (spell : Spelling) (w : Caller) (bytes : List ℕ) (seal : Seal) (name : SlotName) : Type 0 where
  pub call : Call
  pub slot : call.slot ≡ name.slot
  pub number : call.number ≡ name.number
  pub ops : call.ops ≡ spell.ops_of bytes
  pub awaited : w.awaits name.slot ≡ Some (record { xid = spell.xid_of bytes; what = Slotted seal call })

-- The laws of a caller. boot, calls: its opening's number never falls, nor within an opening the count of its
-- calls (own). fresh, one: each call that it sends has an xid of its own (RFC 5531 section 9; by counting: own).
-- directed: what it seals for the server is a call, or the answer to a callback (RFC 8881 section 2.10.3.1).
-- simple: its operations call a volume once at most (own). has: a context that it has it had, or learns now
-- (RFC 2203 section 5.2.2, RFC 7861 section 2.5). begin: having learnt a root it awaits no INIT (own). mount:
-- its mount stays, with numbers that never fall, or is learnt now (RFC 8881 section 2.10.6.1). awaits: what it
-- awaits it did, or sends now. goes_on: an awaited call of a slot goes on, or is new (RFC 8881 section
-- 2.10.6.1). sends: what it sends in a slot it awaits. in_slot: a slot's call is awaited in the place of the
-- slot, under a context that the caller has (own).
pub record CallerLaws (spell : Spelling) (owner own : End) (v w : Caller) (a : Acts) : Type 0 where
  pub boot : v.boot ≤ w.boot
  pub calls : v.boot ≡ w.boot → v.calls ≤ w.calls
  pub fresh : (bytes : List ℕ) (seal : Option Seal) → Sends a bytes seal → spell.is_reply bytes ≡ false
      → (v.boot ≡ w.boot) × (v.calls < spell.xid_of bytes) × (spell.xid_of bytes ≤ w.calls)
  pub one : (bytes other : List ℕ) (seal seal' : Option Seal) → Sends a bytes seal → Sends a other seal'
      → spell.is_reply bytes ≡ false → spell.is_reply other ≡ false → spell.xid_of bytes ≡ spell.xid_of other → bytes ≡ other
  pub directed : (bytes call : List ℕ) (seal : Seal) → Sends a bytes (Some seal) → seal.owner ≡ owner
      → spell.is_reply bytes ≡ true → a.took ≡ Some call → spell.is_callback call ≡ true
  pub simple : (bytes : List ℕ) (seal : Seal) (name : SlotName) → Sends a bytes (Some seal) → seal.owner ≡ owner
      → spell.slot_of bytes ≡ Some name → spell.is_simple (spell.ops_of bytes) ≡ true
  pub has : (context root : Context) → w.has context root ≡ true
      → (v.has context root ≡ true)
      ⊎ (((context ≡ root) × LearnsRoot spell owner v a root) ⊎ LearnsChild spell v a context root)
  pub begin : (root : Context) → LearnsRoot spell owner v a root
      → (place xid : ℕ) → w.awaits place ≡ Some (record { xid = xid; what = Begins }) → ⊥
  pub mount : (root : Context) → w.mount ≡ Some root
      → ((v.mount ≡ Some root) × ((slot : ℕ) → v.next slot ≤ w.next slot)) ⊎ LearnsRoot spell owner v a root
  pub awaits : (place : ℕ) (x : Awaited) → w.awaits place ≡ Some x
      → ((v.boot ≡ w.boot) × (v.awaits place ≡ Some x)) ⊎ ((v.boot ≡ w.boot) × IsSent spell owner own a x)
  pub goes_on : (place xid : ℕ) (seal : Seal) (call : Call) → w.awaits place ≡ Some (record { xid = xid; what = Slotted seal call })
      → GoesOn v w place call ⊎ IsNew v w call
  pub sends : (bytes : List ℕ) (seal : Seal) (name : SlotName) → Sends a bytes (Some seal) → seal.owner ≡ owner
      → spell.slot_of bytes ≡ Some name → IsAwaited spell w bytes seal name
  pub in_slot : (place xid : ℕ) (seal : Seal) (call : Call) → w.awaits place ≡ Some (record { xid = xid; what = Slotted seal call })
      → (place ≡ call.slot) × (w.has (context_of seal) call.root ≡ true)

-- a caller that was just opened has no context, no mount, and awaits nothing
pub record CallerStart (v : Caller) : Type 0 where
  pub no_context : (context root : Context) → v.has context root ≡ false
  pub no_mount : v.mount ≡ None
  pub none_awaited : (place : ℕ) → v.awaits place ≡ None
