-- Each call in a slot is awaited under the root that is mounted, and its operations are bytes.
use Rattle.std.proofs.Common.{◌≡◌, ◌∙◌, ℕ, List, Option, Some, None, refl, sym, ap, subst, inl, inr, ◌⊎◌, ◌≤◌}
use Rattle.std.specs.Prelude.{option_map}
use Rattle.caller_laws.specs.Good.{Identity, IsGood}
use Rattle.caller_laws.specs.View.{Above, Face, awaited_in, caller_of, face_of, handle_named, mount_in, purpose_of, root_seen, what_asked, what_named, what_under}
use Rattle.client_laws.proofs.speaking.Mounts.{IsIdle, some_is}
use Rattle.client_laws.specs.Speaking.Carried.{AreUnderRoot, AskBytes, SendsBytes}
use Rattle.mount.specs.State.{Mounted, pending_at, root_name}
use Rattle.mount.specs.declared.state.Aim.{Aim}
use Rattle.mount.specs.declared.state.Pending.{Pending}
use Rattle.mount.specs.declared.state.Pending.TheVariants.{Init, Under}
use Rattle.mount.specs.declared.state.Standing.{Standing}
use Rattle.mount.specs.declared.state.Standing.TheVariants.{Down, Rooted}
use Rattle.nfs_base.specs.declared.seal.End.{End}
use Rattle.nfs_base.specs.declared.seal.Seal.{Seal}
use Rattle.session_client.specs.Pending.{Asking, Beginning}
use Rattle.session_client.specs.declared.asked.Asked.{Asked}
use Rattle.session_client.specs.declared.asked.Asked.TheVariants.{Compound, Create, Destroy}
use Rattle.slot_calls.specs.BytesLaws.{ops_are_bytes}
use Rattle.wire_model.specs.CallerLaws.{CallerLaws, IsNew, IsSent, LearnsRoot}
use Rattle.wire_model.specs.Spelling.{Context, SlotName}
use Rattle.wire_model.specs.Wire.{Acts, Awaited, Begins, Call, Purpose, Slotted, What}
use Rattle.wire_spelling.specs.Spelling.{spelling}
use Rattle.wire_xdr.specs.Cursor.{IsBytes}

-- ---- what a wire sees as awaited

record IsMapped (f : Pending → Awaited) (o : Option Pending) (x : Awaited) : Type 0 where
  from : Pending
  is : o ≡ Some from
  gives : f from ≡ x

mapped : (f : Pending → Awaited) (o : Option Pending) (x : Awaited) → option_map f o ≡ Some x → IsMapped f o x
mapped f None x e = absurd cc
mapped f (Some p) x e = record { from = p; is = refl; gives = some_is (f p) x e }

pub record IsUnderSeen (a : Above) (m : Mounted) (place : ℕ) (what : What) : Type 0 where
  pub context : ℕ
  pub aim : Aim
  pub asking : Asking
  pub there : pending_at m place ≡ Some (Under context aim asking)
  pub sees : what_under (face_of context m.contexts) asking.seal (purpose_of aim (a.purpose place)) asking.asked ≡ what

pub slotted_at : (a : Above) (m : Mounted) (place xid : ℕ) (seal : Seal) (call : Call) → (caller_of a m).awaits place ≡ Some (record { xid = xid; what = Slotted seal call })
    → IsUnderSeen a m place (Slotted seal call)
slotted_at a m place xid seal call e =
    let it = mapped (awaited_in m.contexts (a.purpose place)) (pending_at m place) (record { xid = xid; what = Slotted seal call }) e in
    by it.from it.is it.gives
  where
    by : (p : Pending) → pending_at m place ≡ Some p → awaited_in m.contexts (a.purpose place) p ≡ record { xid = xid; what = Slotted seal call } → IsUnderSeen a m place (Slotted seal call)
    by (Init init) is gives =
        let both : Begins ≡ Slotted seal call = ap (λ (x : Awaited). x.what) gives in
        absurd cc
    by (Under context aim asking) is gives = record { context = context; aim = aim; asking = asking; there = is; sees = ap (λ (x : Awaited). x.what) gives }

record IsInitSeen (m : Mounted) (place : ℕ) : Type 0 where
  init : Beginning
  there : pending_at m place ≡ Some (Init init)

named_begins : {A : Type 0} (seal : Seal) (root : Context) (ops : List ℕ) (purpose : Purpose) (o : Option SlotName) → what_named seal root ops purpose o ≡ Begins → A
named_begins seal root ops purpose None e = absurd cc
named_begins seal root ops purpose (Some name) e = absurd cc

asked_begins : {A : Type 0} (seal : Seal) (root : Context) (purpose : Purpose) (asked : Asked) → what_asked seal root purpose asked ≡ Begins → A
asked_begins seal root purpose (Compound c) e = named_begins seal root _ purpose _ e
asked_begins seal root purpose (Create args) e = absurd cc
asked_begins seal root purpose Destroy e = absurd cc

under_begins : {A : Type 0} (o : Option Face) (seal : Seal) (purpose : Purpose) (asked : Asked) → what_under o seal purpose asked ≡ Begins → A
under_begins None seal purpose asked e = absurd cc
under_begins (Some f) seal purpose asked e = asked_begins seal (handle_named f.root) purpose asked e

init_at : (a : Above) (m : Mounted) (place xid : ℕ) → (caller_of a m).awaits place ≡ Some (record { xid = xid; what = Begins }) → IsInitSeen m place
init_at a m place xid e =
    let it = mapped (awaited_in m.contexts (a.purpose place)) (pending_at m place) (record { xid = xid; what = Begins }) e in
    by it.from it.is it.gives
  where
    by : (p : Pending) → pending_at m place ≡ Some p → awaited_in m.contexts (a.purpose place) p ≡ record { xid = xid; what = Begins } → IsInitSeen m place
    by (Init init) is gives = record { init = init; there = is }
    by (Under context aim asking) is gives =
        under_begins (face_of context m.contexts) asking.seal (purpose_of aim (a.purpose place)) asking.asked (ap (λ (x : Awaited). x.what) gives)

-- ---- the root

record IsMounted (a : Above) (m : Mounted) : Type 0 where
  root : Context
  is : (caller_of a m).mount ≡ Some root

mounted : (who : Identity) (a : Above) (m : Mounted) → IsGood who m → (root_name m.standing ≡ None → ⊥) → IsMounted a m
mounted who a m good rooted = by m.standing refl
  where
    by : (st : Standing) → m.standing ≡ st → IsMounted a m
    by (Down kept) is = absurd (rooted (ap root_name is))
    by (Rooted root) is =
        let r = good.root root.name (ap root_name is) in
        record {
          root = handle_named r.face.root;
          is = ap (λ (st : Standing). mount_in st m.contexts) is ∙ ap root_seen r.there;
        }

module _ (who : Identity) (owner : End) (a b : Above) (m n : Mounted) (acts : Acts)
    (laws : CallerLaws (spelling who.accepts who.whose) owner who.own (caller_of a m) (caller_of b n) acts) (good : IsGood who m) (good_after : IsGood who n) (idle : IsIdle m)
    (idle_after : IsIdle n) where
  -- no root is learnt where a call in a slot is awaited
  unlearnt : (root : Context) → LearnsRoot (spelling who.accepts who.whose) owner (caller_of a m) acts root → (place xid : ℕ) (seal : Seal) (call : Call)
      → (caller_of a m).awaits place ≡ Some (record { xid = xid; what = Slotted seal call }) → ⊥
  unlearnt root learns place xid seal call awaits =
      let i = init_at a m learns.takes.place _ learns.takes.awaited in
      let down = (good.fair learns.takes.place (Init i.init) i.there).down in
      let u = slotted_at a m place xid seal call awaits in
      idle down place u.context u.aim u.asking u.there

  pub rooted_after : AreUnderRoot (caller_of a m) → AreUnderRoot (caller_of b n)
  rooted_after old place xid seal call awaits = by (laws.goes_on place xid seal call awaits)
    where
      by : ((caller_of a m).boot ≡ (caller_of b n).boot × ((x : ℕ) × (s : Seal) × ((caller_of a m).awaits place ≡ Some (record { xid = x; what = Slotted s call }))))
          ⊎ IsNew (caller_of a m) (caller_of b n) call → (caller_of b n).mount ≡ Some call.root
      by (inr new) = new.mounted
      by (inl on) =
          let was = on.1 in
          let u = slotted_at b n place xid seal call awaits in
          let here = mounted who b n good_after (λ none. idle_after none place u.context u.aim u.asking u.there) in
          let before = old place was.0 was.1 call was.2 in
          same here before was (laws.mount here.root here.is)
        where
          same : (here : IsMounted b n) → (caller_of a m).mount ≡ Some call.root → (x : ℕ) × (s : Seal) × ((caller_of a m).awaits place ≡ Some (record { xid = x; what = Slotted s call }))
              → (((caller_of a m).mount ≡ Some here.root) × ((slot : ℕ) → (caller_of a m).next slot ≤ (caller_of b n).next slot))
              ⊎ LearnsRoot (spelling who.accepts who.whose) owner (caller_of a m) acts here.root → (caller_of b n).mount ≡ Some call.root
          same here before was (inl kept) = here.is ∙ sym kept.0 ∙ before
          same here before was (inr learns) = absurd (unlearnt here.root learns place was.0 was.1 call was.2)

  pub bytes_after : AskBytes (caller_of a m) → SendsBytes acts → AskBytes (caller_of b n)
  bytes_after old sends place xid seal call awaits = by (laws.awaits place (record { xid = xid; what = Slotted seal call }) awaits)
    where
      by : ((caller_of a m).boot ≡ (caller_of b n).boot × ((caller_of a m).awaits place ≡ Some (record { xid = xid; what = Slotted seal call })))
          ⊎ ((caller_of a m).boot ≡ (caller_of b n).boot × IsSent (spelling who.accepts who.whose) owner who.own acts (record { xid = xid; what = Slotted seal call }))
          → IsBytes call.ops
      by (inl was) = old place xid seal call was.1
      by (inr sent) = subst IsBytes sent.1.fits.3 (ops_are_bytes sent.1.bytes (sends sent.1.bytes sent.1.seal sent.1.sent))
