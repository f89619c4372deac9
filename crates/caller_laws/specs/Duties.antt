-- The laws of a wire in words of a mount's own, a law a group: what is sent, which contexts are held, how numbers go on, and what is
-- awaited.
use Rattle.std.specs.Prelude.{◌≡◌, ◌⊎◌, ℕ, ◌<◌, ◌≤◌, true, false, List, Option, Some}
use Rattle.nfs_base.specs.declared.seal.Seal.{Seal}
use Rattle.mount.specs.State.{Mounted}
use Rattle.mount.specs.Taking.{Means}
use Rattle.wire_model.specs.CallerLaws as laws
use Rattle.wire_model.specs.Spelling.{Context, SlotName}
use Rattle.wire_model.specs.Wire.{Acts, Begins, Call, Caller, Sends, Slotted, context_of}
use Rattle.wire_spelling.specs.Calls.{is_callback, xid_in}
use Rattle.wire_spelling.specs.Replies.{is_reply}
use Rattle.wire_spelling.specs.Slots.{is_simple, ops_of, slot_of}
use Rattle.wire_spelling.specs.Spelling.{spelling}
use Rattle.caller_laws.specs.Good.{Identity}
use Rattle.caller_laws.specs.Moves.{Done, Move, done}
use Rattle.caller_laws.specs.View.{Above, caller_of}

-- A record that goes out is a call, and to no callback program, by an xid that the machine gave in this step.
pub record IsOwnCall (before after : Above) (bytes : List ℕ) : Type 0 where
  pub is_call : is_reply bytes ≡ false
  pub no_callback : is_callback bytes ≡ false
  pub fresh : before.calls < xid_in bytes
  pub counted : xid_in bytes ≤ after.calls

abbrev pub SendsOwnCalls : Above → Above → Acts → Type 0
SendsOwnCalls before after shown = (bytes : List ℕ) (seal : Option Seal) → Sends shown bytes seal → IsOwnCall before after bytes

-- what a law speaks of in a step: the caller before and after, and what is shown
abbrev pub Law : Type 1
Law = Identity → Mounted → Caller → Caller → Acts → Type 0

abbrev pub InStep : Law → Identity → Means → Above → Above → Mounted → Move → Type 0
InStep law who means before after m move =
    let told : Done = done means move m in
    law who m (caller_of before m) (caller_of after told.mount) told.shown

-- a context that is held was, or is learnt now: a root by its own INIT, a child by the answer to its CREATE, under a root that was held
abbrev pub OwnsContexts : Law
OwnsContexts who m v w shown =
    (context root : Context) → w.has context root ≡ true
    → (v.has context root ≡ true)
    ⊎ (((context ≡ root) × laws.LearnsRoot (spelling who.accepts who.whose) m.server v shown root) ⊎ laws.LearnsChild (spelling who.accepts who.whose) v shown context root)

-- the mount stays, and no slot's next number falls, or it is the root that is learnt now, and then no INIT is awaited any more
pub record NumbersGrow (who : Identity) (m : Mounted) (v w : Caller) (shown : Acts) : Type 0 where
  pub mount : (root : Context) → w.mount ≡ Some root
      → ((v.mount ≡ Some root) × ((slot : ℕ) → v.next slot ≤ w.next slot)) ⊎ laws.LearnsRoot (spelling who.accepts who.whose) m.server v shown root
  pub begin : (root : Context) → laws.LearnsRoot (spelling who.accepts who.whose) m.server v shown root
      → (place xid : ℕ) → w.awaits place ≡ Some (record { xid = xid; what = Begins }) → ⊥

-- What is awaited was, or is sent now. A call of a slot goes on as it is, or has a number that no call of its slot had; it is awaited
-- in the place of its slot, under a context that is held; and what is sent in a slot is awaited, and calls a volume once at most.
pub record AwaitsOwn (who : Identity) (m : Mounted) (v w : Caller) (shown : Acts) : Type 0 where
  pub goes_on : (place xid : ℕ) (seal : Seal) (call : Call) → w.awaits place ≡ Some (record { xid = xid; what = Slotted seal call })
      → laws.GoesOn v w place call ⊎ laws.IsNew v w call
  pub in_slot : (place xid : ℕ) (seal : Seal) (call : Call) → w.awaits place ≡ Some (record { xid = xid; what = Slotted seal call })
      → (place ≡ call.slot) × (w.has (context_of seal) call.root ≡ true)
  pub sends : (bytes : List ℕ) (seal : Seal) (name : SlotName) → Sends shown bytes (Some seal) → seal.owner ≡ m.server → slot_of bytes ≡ Some name
      → laws.IsAwaited (spelling who.accepts who.whose) w bytes seal name × (is_simple (ops_of bytes) ≡ true)
