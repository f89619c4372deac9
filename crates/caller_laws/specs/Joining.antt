-- Steps of a caller one after the other, as one step: a machine that takes a record and then sends several calls, or that sends
-- to another server too, shows all of it at once.
use Rattle.std.specs.Prelude.{◌≡◌, ◌⊎◌, ℕ, true, false, List, [], ◌++◌, Option, Some, None}
use Rattle.nfs_base.specs.declared.seal.End.{End}
use Rattle.nfs_base.specs.declared.seal.Seal.{Seal}
use Rattle.wire_model.specs.CallerLaws.{LearnsRoot}
use Rattle.wire_model.specs.Spelling.{Context, SlotName, Spelling}
use Rattle.wire_model.specs.Wire.{Acts, Awaited, Begins, Caller, Purpose, Sends}

-- what was taken in the first, and what is sent in either
abbrev pub joined : Acts → Acts → Acts
joined a b = record { took = a.took; accepted = a.accepted; executed = a.executed; out = a.out ++ b.out }

-- the mount that is there stays, and what is awaited
pub record Keeps (v w : Caller) : Type 0 where
  pub mount : (root : Context) → v.mount ≡ Some root → w.mount ≡ Some root
  pub awaited : (place : ℕ) (x : Awaited) → v.awaits place ≡ Some x → w.awaits place ≡ Some x

-- the mount that is there stays, what is ready, and what is awaited of the calls that these acts sent
pub record KeepsSent (spell : Spelling) (owner : End) (a : Acts) (u w : Caller) : Type 0 where
  pub mount : (root : Context) → u.mount ≡ Some root → w.mount ≡ Some root
  pub ready : (purpose : Purpose) → u.ready purpose ≡ true → w.ready purpose ≡ true
  pub sent : (bytes : List ℕ) (seal : Seal) (name : SlotName) (x : Awaited) → Sends a bytes (Some seal) → seal.owner ≡ owner → spell.slot_of bytes ≡ Some name
      → u.awaits name.slot ≡ Some x → w.awaits name.slot ≡ Some x

-- The second step, from u to w, goes on from the first, from v to u: all in one opening; it takes nothing and sends no replies. The
-- first sent nothing, or what it sent stays. A root is learnt only by a caller without a mount, and where one was, no INIT is awaited
-- in the end.
pub record Follows (spell : Spelling) (owner : End) (v u w : Caller) (a b : Acts) : Type 0 where
  pub opening : v.boot ≡ u.boot
  pub same_opening : u.boot ≡ w.boot
  pub takes_nothing : b.took ≡ None
  pub calls : (bytes : List ℕ) (seal : Option Seal) → Sends b bytes seal → spell.is_reply bytes ≡ false
  pub keeps : (a.out ≡ []) ⊎ KeepsSent spell owner a u w
  pub unmounted : (root : Context) → LearnsRoot spell owner v a root → v.mount ≡ None
  pub begun : (root : Context) → LearnsRoot spell owner v a root → (place xid : ℕ) → w.awaits place ≡ Some (record { xid = xid; what = Begins }) → ⊥
