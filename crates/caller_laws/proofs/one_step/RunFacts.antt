-- What a step of a mount leaves, as a wire sees it: what is awaited at other places, and the mount.
use Rattle.std.proofs.Common.{◌≡◌, ◌≢◌, ◌∙◌, inl, inr, ℕ, ◌-◌, ◌<◌, ◌≤◌, List, Option, Some, None, refl, sym, ap, arith}
use Rattle.std.specs.Prelude.{option_map}
use Rattle.std.proofs.lemmas.Bool.{cases_eq}
use Rattle.caller_laws.proofs.one_step.Knowing.{Keeping, Obeying}
use Rattle.caller_laws.proofs.one_step.Servers.{LeavesRoot, sent_root}
use Rattle.caller_laws.specs.Duties.{SendsOwnCalls}
use Rattle.caller_laws.specs.Good.{Identity, IsFair, IsGood}
use Rattle.caller_laws.specs.Lawful.{IsStep, Suits}
use Rattle.caller_laws.specs.Moves.{Again, Begin, BeginAnew, Finish, InSlot, Make, Move, Reclaim, Send, Sends, SetUp, done, sent_by}
use Rattle.caller_laws.specs.View.{Above, Face, awaited_in, caller_of, face_of, handle_named, mount_in, root_seen, what_asked, what_named, what_under}
use Rattle.mount.specs.Laws.{Goes, Went}
use Rattle.mount.specs.Places.{xid_awaited}
use Rattle.mount.specs.State.{Mounted, awaited_at, pending_at, pending_in, root_name}
use Rattle.mount.specs.Taking.{Means}
use Rattle.mount.specs.declared.machine.SendAt.{SendAt}
use Rattle.mount.specs.declared.machine.Sent as out
use Rattle.mount.specs.declared.state.Context as held
use Rattle.mount.specs.declared.state.Pending.{Pending}
use Rattle.mount.specs.declared.state.Pending.TheVariants.{Init, Under}
use Rattle.mount.specs.declared.state.Standing.{Standing}
use Rattle.mount.specs.declared.state.Standing.TheVariants.{Down, Rooted}
use Rattle.nfs_base.specs.declared.seal.End.{End}
use Rattle.nfs_base.specs.declared.seal.Seal.{Seal}
use Rattle.session_client.specs.Pending.{Beginning}
use Rattle.session_client.specs.declared.asked.Asked.{Asked}
use Rattle.session_client.specs.declared.asked.Asked.TheVariants.{Compound, Create, Destroy}
use Rattle.wire_model.specs.CallerLaws.{LearnsRoot}
use Rattle.wire_model.specs.Spelling.{Context, SlotName, Spelling}
use Rattle.wire_model.specs.Wire as wire
use Rattle.wire_model.specs.Wire.{Acts, Awaited, Begins, Call, Caller, Purpose, Slotted, What}
use Rattle.wire_spelling.specs.Calls.{xid_in}
use Rattle.wire_spelling.specs.Slots.{slot_of}

-- ---- what is awaited

pub record IsMapped {X Y : Type 0} (f : X → Y) (o : Option X) (y : Y) : Type 0 where
  pub from : X
  pub is : o ≡ Some from
  pub gives : f from ≡ y

pub mapped : {X Y : Type 0} (f : X → Y) (o : Option X) (y : Y) → option_map f o ≡ Some y → IsMapped f o y
mapped f None y e = absurd cc
mapped f (Some x) y e = record { from = x; is = refl; gives = cc }

pub some_is : {X : Type 0} (x y : X) → Some x ≡ Some y → x ≡ y
some_is x y e = cc

pub none_some : {X A : Type 0} (x : X) → None ≡ Some x → A
none_some x e = absurd cc

named_begins : (seal : Seal) (root : Context) (ops : List ℕ) (purpose : Purpose) (o : Option SlotName) → what_named seal root ops purpose o ≡ Begins → ⊥
named_begins seal root ops purpose None e = absurd cc
named_begins seal root ops purpose (Some name) e = absurd cc

asked_begins : (seal : Seal) (root : Context) (purpose : Purpose) (asked : Asked) → what_asked seal root purpose asked ≡ Begins → ⊥
asked_begins seal root purpose (Compound c) e = named_begins seal root _ purpose _ e
asked_begins seal root purpose (Create args) e = absurd cc
asked_begins seal root purpose Destroy e = absurd cc

under_begins : (o : Option Face) (seal : Seal) (purpose : Purpose) (asked : Asked) → what_under o seal purpose asked ≡ Begins → ⊥
under_begins None seal purpose asked e = absurd cc
under_begins (Some f) seal purpose asked e = asked_begins seal _ purpose asked e

pub record IsInit (p : Pending) (xid : ℕ) : Type 0 where
  pub init : Beginning
  pub is : p ≡ Init init
  pub xid_is : init.xid ≡ xid

awaits_init : (contexts : List held.Context) (purpose : Purpose) (p : Pending) (xid : ℕ) → awaited_in contexts purpose p ≡ record { xid = xid; what = Begins } → IsInit p xid
awaits_init contexts purpose (Init init) xid e = record { init = init; is = refl; xid_is = ap (λ (x : Awaited). x.xid) e }
awaits_init contexts purpose (Under context aim call) xid e = absurd (under_begins _ _ _ _ (ap (λ (x : Awaited). x.what) e))

-- an INIT is awaited
pub record AwaitsInit (m : Mounted) (place xid : ℕ) : Type 0 where
  pub init : Beginning
  pub there : pending_at m place ≡ Some (Init init)
  pub xid_is : init.xid ≡ xid

pub init_at : (a : Above) (m : Mounted) (place xid : ℕ) → (caller_of a m).awaits place ≡ Some (record { xid = xid; what = Begins }) → AwaitsInit m place xid
init_at a m place xid there =
    let it = mapped (awaited_in m.contexts (a.purpose place)) (pending_at m place) (record { xid = xid; what = Begins }) there in
    let i = awaits_init m.contexts (a.purpose place) it.from xid it.gives in
    record { init = i.init; there = it.is ∙ ap (λ (p : Pending). Some p) i.is; xid_is = i.xid_is }

pub init_down : (who : Identity) (m : Mounted) (place : ℕ) (init : Beginning) → IsGood who m → pending_at m place ≡ Some (Init init) → root_name m.standing ≡ None
init_down who m place init g there = (g.fair place (Init init) there).down

down_mount : (st : Standing) (contexts : List held.Context) → root_name st ≡ None → mount_in st contexts ≡ None
down_mount (Down kept) contexts e = refl
down_mount (Rooted root) contexts e = absurd cc

-- a root is learnt only where there is none
pub unmounted : (spell : Spelling) (owner : End) (who : Identity) (a : Above) (m : Mounted) (acts : Acts) (root : Context) → IsGood who m
    → LearnsRoot spell owner (caller_of a m) acts root → (caller_of a m).mount ≡ None
unmounted spell owner who a m acts root g learnt =
    let it = init_at a m learnt.takes.place (spell.xid_of learnt.reply) learnt.takes.awaited in
    down_mount m.standing m.contexts (init_down who m learnt.takes.place it.init g it.there)

-- while there is a root, no INIT is awaited
pub no_init : (who : Identity) (a : Above) (m : Mounted) → IsGood who m → (root_name m.standing ≡ None → ⊥)
    → (place xid : ℕ) → (caller_of a m).awaits place ≡ Some (record { xid = xid; what = Begins }) → ⊥
no_init who a m g rooted place xid there =
    let it = init_at a m place xid there in
    rooted (init_down who m place it.init g it.there)

-- ---- an answer is awaited by an xid that the mount had given

pub xid_of_awaited : (contexts : List held.Context) (purpose : Purpose) (p : Pending) → (awaited_in contexts purpose p).xid ≡ xid_awaited p
xid_of_awaited contexts purpose (Init init) = refl
xid_of_awaited contexts purpose (Under context aim call) = refl

fair_below : (who : Identity) (m : Mounted) (place : ℕ) (p : Pending) → IsFair who m place p → xid_awaited p ≤ m.calls
fair_below who m place (Init init) fair = fair.numbered.below
fair_below who m place (Under context aim call) fair = fair.numbered.below

-- what is known of every step of every mount
pub record Known (who : Identity) (means : Means) : Type 0 where
  pub obeys : Obeying who means
  pub keeps : Keeping who means
  pub calls : (a b : Above) (m : Mounted) (move : Move) → IsStep who means a b m move → SendsOwnCalls a b (done means move m).shown
  pub went : (at : SendAt) (send : Send) (m : Mounted) → Went at m (sent_by means.mic at send m)

suits_by : (who : Identity) (above : Above) (calls : ℕ) (m : Mounted) (at : SendAt) (send : Send) → Suits who above m at send → Suits who (record above { calls = calls }) m at send
suits_by who above calls m at (Begin nonce token) s = s
suits_by who above calls m at BeginAnew s = s
suits_by who above calls m at (SetUp me back) s = s
suits_by who above calls m at Reclaim s = s
suits_by who above calls m at (InSlot under call) s = s
suits_by who above calls m at (Make child name privilege) s = s
suits_by who above calls m at (Finish ending) s = s
suits_by who above calls m at Again s = s

module _ (who : Identity) (means : Means) (known : Known who means) (a b : Above) (m : Mounted) (at : SendAt) (send : Send) (step : IsStep who means a b m (Sends at send)) where
  -- what goes out is a call by just this xid
  pub exact : (bytes : List ℕ) (seal : Option Seal) → wire.Sends (done means (Sends at send) m).shown bytes seal → xid_in bytes ≡ at.xid
  exact bytes seal sends =
      let may = step.may in
      let unused : m.calls < at.xid = may.unused in
      let before = at.xid - 1 in
      let first : before < at.xid = omega arith in
      let low : before ≤ at.xid = omega arith in
      let it = known.calls (record a { calls = before }) (record b { calls = at.xid }) m (Sends at send)
      (record {
        good = step.good;
        goes_on = record { boot = step.goes_on.boot; calls = low; purpose = step.goes_on.purpose };
        may = record {
          place = may.place;
          unused = may.unused;
          fresh = first;
          counted = omega arith;
          small = may.small;
          suits = suits_by who b at.xid m at send may.suits;
          fits = may.fits;
          are_bytes = may.are_bytes;
        };
      }) bytes seal sends in
      let fresh : before < xid_in bytes = it.fresh in
      let counted : xid_in bytes ≤ at.xid = it.counted in
      omega arith

  elsewhere_by : (o : Option out.Sent) (w : Mounted) → Goes at m o w → (other : ℕ) → other ≢ at.place → awaited_at w other ≡ awaited_at m other
  elsewhere_by None w same other apart = ap (λ (x : Mounted). awaited_at x other) same
  elsewhere_by (Some sent) w goes other apart = goes.others other apart

  pub elsewhere : (other : ℕ) → other ≢ at.place → pending_at (sent_by means.mic at send m).1 other ≡ pending_at m other
  elsewhere other apart =
      ap pending_in (elsewhere_by (sent_by means.mic at send m).0 (sent_by means.mic at send m).1 (known.went at send m) other apart)

  -- what goes out isn't awaited elsewhere
  pub unlike : (other : ℕ) (p : Pending) → pending_at m other ≡ Some p → (bytes : List ℕ) (seal : Option Seal) → wire.Sends (done means (Sends at send) m).shown bytes seal
      → xid_in bytes ≡ xid_awaited p → ⊥
  unlike other p there bytes seal sends same =
      let unused : m.calls < at.xid = step.may.unused in
      let below : xid_awaited p ≤ m.calls = fair_below who m other p (step.good.fair other p there) in
      let xid : xid_in bytes ≡ at.xid = exact bytes seal sends in
      omega (arith, unused, below, xid, same)

  pub stays_elsewhere : (other : ℕ) (x : Awaited) → other ≢ at.place → (caller_of a m).awaits other ≡ Some x → (caller_of b (done means (Sends at send) m).mount).awaits other ≡ Some x
  stays_elsewhere other x apart there =
      let n = (done means (Sends at send) m).mount in
      let it = mapped (awaited_in m.contexts (a.purpose other)) (pending_at m other) x there in
      let p = it.from in
      let now = awaited_in n.contexts (b.purpose other) p in
      let later : (caller_of b n).awaits other ≡ Some now = ap (option_map (awaited_in n.contexts (b.purpose other))) (elsewhere other apart ∙ it.is) in
      elim ((known.obeys a b m (Sends at send) step).awaits other now later) [
        | inl was ↦ later ∙ ap (λ (y : Awaited). Some y) (some_is now x (sym was.1 ∙ there))
        | inr sent ↦ absurd (unlike other p it.is sent.1.bytes sent.1.seal sent.1.sent (sent.1.xid ∙ xid_of_awaited n.contexts (b.purpose other) p))
      ]

  -- what is sent in a slot is awaited in its place
  pub own_place : (bytes : List ℕ) (seal : Seal) (name : SlotName) → wire.Sends (done means (Sends at send) m).shown bytes (Some seal) → seal.owner ≡ m.server
      → slot_of bytes ≡ Some name → name.slot ≡ at.place
  own_place bytes seal name sends is_own named =
      let n = (done means (Sends at send) m).mount in
      let it = (known.obeys a b m (Sends at send) step).sends bytes seal name sends is_own named in
      elim (cases_eq name.slot at.place) [
        | inl is ↦ is
        | inr apart ↦
            let there = mapped (awaited_in n.contexts (b.purpose name.slot)) (pending_at n name.slot) (record { xid = xid_in bytes; what = Slotted seal it.call }) it.awaited in
            let was : pending_at m name.slot ≡ Some there.from = sym (elsewhere name.slot apart) ∙ there.is in
            absurd (unlike name.slot there.from was bytes (Some seal) sends (sym (ap (λ (x : Awaited). x.xid) there.gives) ∙ xid_of_awaited n.contexts (b.purpose name.slot) there.from))
      ]

  root_same : LeavesRoot send → root_name (done means (Sends at send) m).mount.standing ≡ root_name m.standing
  root_same leaves = sent_root who b means.mic at send m step.good step.may.suits leaves

  pub rooted_on : LeavesRoot send → (root_name m.standing ≡ None → ⊥) → root_name (done means (Sends at send) m).mount.standing ≡ None → ⊥
  rooted_on leaves rooted none = rooted (sym (root_same leaves) ∙ none)

  mounted_by : (st : Standing) (contexts : List held.Context) (name : ℕ) (f : Face) → root_name st ≡ Some name → face_of name contexts ≡ Some f
      → mount_in st contexts ≡ Some (handle_named f.root)
  mounted_by (Down kept) contexts name f is there = absurd cc
  mounted_by (Rooted root) contexts name f is there =
      let same : root.name ≡ name = cc in
      ap (λ (k : ℕ). root_seen (face_of k contexts)) same ∙ ap root_seen there

  -- there is a root
  record IsRooted (st : Standing) : Type 0 where
    name : ℕ
    is : root_name st ≡ Some name

  rooted_name : (st : Standing) (contexts : List held.Context) (root : Context) → mount_in st contexts ≡ Some root → IsRooted st
  rooted_name (Down kept) contexts root e = absurd cc
  rooted_name (Rooted root) contexts seen e = record { name = root.name; is = refl }

  pub mount_on : LeavesRoot send → (root : Context) → (caller_of a m).mount ≡ Some root → (caller_of b (done means (Sends at send) m).mount).mount ≡ Some root
  mount_on leaves root there =
      let n = (done means (Sends at send) m).mount in
      let r = rooted_name m.standing m.contexts root there in
      let now : root_name n.standing ≡ Some r.name = root_same leaves ∙ r.is in
      let f = (known.keeps a b m (Sends at send) step).root r.name now in
      let seen = handle_named f.face.root in
      let later : (caller_of b n).mount ≡ Some seen = mounted_by n.standing n.contexts r.name f.face now f.there in
      elim ((known.obeys a b m (Sends at send) step).mount seen later) [
        | inl was ↦ later ∙ ap (λ (x : Context). Some x) (some_is seen root (sym was.0 ∙ there))
        | inr learnt ↦ none_some learnt.reply learnt.takes.took
      ]
