-- A caller whose calls for copies are counted behind others obeys the laws that it obeys by its own numbers.
use Rattle.std.proofs.Common.{◌≡◌, ◌⊎◌, ℕ, ◌+◌, ◌-◌, ◌≤◌, Bool, true, Option, None, Some, List, refl, ap, subst, inl, inr, ◌∙◌, arith}
use Rattle.std.specs.Prelude.{nat_lt}
use Rattle.std.specs.Option.{option_map}
use Rattle.std.proofs.lemmas.Bool.{cond-false, le-ltb}
use Rattle.nfs_base.specs.declared.seal.End.{End}
use Rattle.nfs_base.specs.declared.seal.Seal.{Seal}
use Rattle.wire_model.specs.CallerLaws.{CallerLaws, FitsWhat, GoesOn, IsAwaited, IsNew, IsSent, LearnsChild, LearnsRoot, Takes}
use Rattle.wire_model.specs.Spelling.{Context, SlotName, Spelling}
use Rattle.wire_model.specs.Wire.{Acts, Awaited, Begins, Call, Caller, ForCopy, ForFirst, ForJob, ForLast, ForOther, ForStatus, Makes, Other, Purpose, Slotted, What, context_of}
use Rattle.opening_laws.proofs.Options.{none_is_some, some_same}
use Rattle.opening_laws.specs.Behind.{awaited_behind, call_behind, caller_behind, purpose_behind, ready_behind, what_behind}

-- ---- what a purpose waits for

pub ready_same : (base : ℕ) (ready : Purpose → Bool) (purpose : Purpose) → ready_behind base ready (purpose_behind base purpose) ≡ ready purpose
ready_same base ready (ForJob job) =
    let back : base + job - base ≡ job = omega arith in
    cond-false (nat_lt (base + job) base) true (ready (ForJob (base + job - base))) (le-ltb (base + job) base (omega arith))
    ∙ ap (λ (n : ℕ). ready (ForJob n)) back
ready_same base ready (ForFirst copy) = refl
ready_same base ready (ForCopy copy) = refl
ready_same base ready (ForStatus copy) = refl
ready_same base ready (ForLast copy) = refl
ready_same base ready ForOther = refl

-- ---- what is awaited

abbrev awaiting : ℕ → What → Awaited
awaiting xid what = record { xid = xid; what = what }

pub record WasAwaited (base : ℕ) (o : Option Awaited) (x : Awaited) : Type 0 where
  pub own : Awaited
  pub there : o ≡ Some own
  pub is : awaited_behind base own ≡ x

pub was_awaited : (base : ℕ) (o : Option Awaited) (x : Awaited) → option_map (awaited_behind base) o ≡ Some x → WasAwaited base o x
was_awaited base None x e = absurd (none_is_some None x refl e)
was_awaited base (Some own) x e = record { own = own; there = refl; is = some_same (awaited_behind base own) x e }

what_begins : (base : ℕ) (what : What) → what_behind base what ≡ Begins → what ≡ Begins
what_begins base Begins e = refl
what_begins base (Makes seal) e = absurd (cc)
what_begins base (Slotted seal call) e = absurd (cc)
what_begins base Other e = absurd (cc)

was_begun : (base : ℕ) (o : Option Awaited) (xid : ℕ) → option_map (awaited_behind base) o ≡ Some (awaiting xid Begins) → o ≡ Some (awaiting xid Begins)
was_begun base o xid e =
    let was = was_awaited base o (awaiting xid Begins) e in
    let own = was.own in
    let number : own.xid ≡ xid = ap (λ (x : Awaited). x.xid) was.is in
    let what : own.what ≡ Begins = what_begins base own.what (ap (λ (x : Awaited). x.what) was.is) in
    was.there ∙ ap (λ (n : ℕ). Some (awaiting n own.what)) number ∙ ap (λ (w : What). Some (awaiting xid w)) what

pub record WasSlotted (base : ℕ) (what : What) (seal : Seal) (call : Call) : Type 0 where
  pub own : Call
  pub there : what ≡ Slotted seal own
  pub is : call_behind base own ≡ call

slotted_seal : (a b : Seal) (x y : Call) → Slotted a x ≡ Slotted b y → a ≡ b
slotted_seal a b x y e = cc

slotted_call : (a b : Seal) (x y : Call) → Slotted a x ≡ Slotted b y → x ≡ y
slotted_call a b x y e = cc

what_slotted : (base : ℕ) (what : What) (seal : Seal) (call : Call) → what_behind base what ≡ Slotted seal call → WasSlotted base what seal call
what_slotted base Begins seal call e = absurd (cc)
what_slotted base (Makes other) seal call e = absurd (cc)
what_slotted base (Slotted other own) seal call e = record {
  own = own;
  there = ap (λ (x : Seal). Slotted x own) (slotted_seal other seal (call_behind base own) call e);
  is = slotted_call other seal (call_behind base own) call e;
}
what_slotted base Other seal call e = absurd (cc)

pub record WasCall (base : ℕ) (o : Option Awaited) (xid : ℕ) (seal : Seal) (call : Call) : Type 0 where
  pub own : Call
  pub there : o ≡ Some (awaiting xid (Slotted seal own))
  pub is : call_behind base own ≡ call

pub was_call : (base : ℕ) (o : Option Awaited) (xid : ℕ) (seal : Seal) (call : Call)
    → option_map (awaited_behind base) o ≡ Some (awaiting xid (Slotted seal call)) → WasCall base o xid seal call
was_call base o xid seal call e =
    let was = was_awaited base o (awaiting xid (Slotted seal call)) e in
    let own = was.own in
    let slotted = what_slotted base own.what seal call (ap (λ (x : Awaited). x.what) was.is) in
    let number : own.xid ≡ xid = ap (λ (x : Awaited). x.xid) was.is in
    record {
      own = slotted.own;
      there = was.there ∙ ap (λ (n : ℕ). Some (awaiting n own.what)) number ∙ ap (λ (w : What). Some (awaiting xid w)) slotted.there;
      is = slotted.is;
    }

-- ---- answers that are taken

pub takes_behind : (spell : Spelling) (base : ℕ) (v : Caller) (a : Acts) (seal : Seal) (what : What) (reply : List ℕ) → Takes spell v a seal what reply
    → Takes spell (caller_behind base v) a seal (what_behind base what) reply
takes_behind spell base v a seal what reply t = record {
  place = t.place;
  took = t.took;
  is_reply = t.is_reply;
  accepted = t.accepted;
  awaited = ap (λ (o : Option Awaited). option_map (awaited_behind base) o) t.awaited;
}

learns_behind : (spell : Spelling) (owner : End) (base : ℕ) (v : Caller) (a : Acts) (root : Context) → LearnsRoot spell owner v a root
    → LearnsRoot spell owner (caller_behind base v) a root
learns_behind spell owner base v a root l = record {
  seal = l.seal;
  reply = l.reply;
  takes = takes_behind spell base v a l.seal Begins l.reply l.takes;
  own = l.own;
  root_is = l.root_is;
}

learns_before : (spell : Spelling) (owner : End) (base : ℕ) (v : Caller) (a : Acts) (root : Context) → LearnsRoot spell owner (caller_behind base v) a root
    → LearnsRoot spell owner v a root
learns_before spell owner base v a root l =
    let t = l.takes in
    record {
      seal = l.seal;
      reply = l.reply;
      takes = record {
        place = t.place;
        took = t.took;
        is_reply = t.is_reply;
        accepted = t.accepted;
        awaited = was_begun base (v.awaits t.place) (spell.xid_of l.reply) t.awaited;
      };
      own = l.own;
      root_is = l.root_is;
    }

child_behind : (spell : Spelling) (base : ℕ) (v : Caller) (a : Acts) (child root : Context) → LearnsChild spell v a child root
    → LearnsChild spell (caller_behind base v) a child root
child_behind spell base v a child root l = record {
  seal = l.seal;
  reply = l.reply;
  takes = takes_behind spell base v a l.seal (Makes l.seal) l.reply l.takes;
  child_is = l.child_is;
  root_is = l.root_is;
  has_root = l.has_root;
}

-- ---- calls that are sent

fits_behind : (spell : Spelling) (owner own : End) (base : ℕ) (bytes : List ℕ) (sealed : Option Seal) (what : What)
    → FitsWhat spell owner own bytes sealed what → FitsWhat spell owner own bytes sealed (what_behind base what)
fits_behind spell owner own base bytes sealed Begins fits = fits
fits_behind spell owner own base bytes sealed (Makes seal) fits = fits
fits_behind spell owner own base bytes sealed (Slotted seal call) fits = fits
fits_behind spell owner own base bytes sealed Other fits = fits

sent_behind : (spell : Spelling) (owner own : End) (base : ℕ) (a : Acts) (x : Awaited) → IsSent spell owner own a x
    → IsSent spell owner own a (awaited_behind base x)
sent_behind spell owner own base a x sent = record {
  bytes = sent.bytes;
  seal = sent.seal;
  sent = sent.sent;
  xid = sent.xid;
  is_call = sent.is_call;
  no_callback = sent.no_callback;
  fits = fits_behind spell owner own base sent.bytes sent.seal x.what sent.fits;
}

new_behind : (base : ℕ) (v w : Caller) (call : Call) → IsNew v w call → IsNew (caller_behind base v) (caller_behind base w) (call_behind base call)
new_behind base v w call new = record {
  mounted = new.mounted;
  unused = new.unused;
  used = new.used;
  ready = ready_same base w.ready call.purpose ∙ new.ready;
}

goes_behind : (base : ℕ) (v w : Caller) (place : ℕ) (call : Call) → GoesOn v w place call ⊎ IsNew v w call
    → GoesOn (caller_behind base v) (caller_behind base w) place (call_behind base call)
    ⊎ IsNew (caller_behind base v) (caller_behind base w) (call_behind base call)
goes_behind base v w place call (inl goes) =
    let was = goes.1 in
    inl (goes.0, (was.0, was.1, ap (λ (o : Option Awaited). option_map (awaited_behind base) o) was.2))
goes_behind base v w place call (inr new) = inr (new_behind base v w call new)

awaited_in : (spell : Spelling) (base : ℕ) (w : Caller) (bytes : List ℕ) (seal : Seal) (name : SlotName) → IsAwaited spell w bytes seal name
    → IsAwaited spell (caller_behind base w) bytes seal name
awaited_in spell base w bytes seal name x = record {
  call = call_behind base x.call;
  slot = x.slot;
  number = x.number;
  ops = x.ops;
  awaited = ap (λ (o : Option Awaited). option_map (awaited_behind base) o) x.awaited;
}

-- ---- all of it

module _ (spell : Spelling) (owner own : End) (base : ℕ) (v w : Caller) (a : Acts) (laws : CallerLaws spell owner own v w a) where
  has : (context root : Context) → w.has context root ≡ true
      → (v.has context root ≡ true)
      ⊎ (((context ≡ root) × LearnsRoot spell owner (caller_behind base v) a root) ⊎ LearnsChild spell (caller_behind base v) a context root)
  has context root there = elim (laws.has context root there) [
    | inl was ↦ inl was
    | inr learnt ↦ elim learnt [
      | inl begun ↦ inr (inl (begun.0, learns_behind spell owner base v a root begun.1))
      | inr child ↦ inr (inr (child_behind spell base v a context root child))
    ]
  ]

  mount : (root : Context) → w.mount ≡ Some root
      → ((v.mount ≡ Some root) × ((slot : ℕ) → v.next slot ≤ w.next slot)) ⊎ LearnsRoot spell owner (caller_behind base v) a root
  mount root mounted = elim (laws.mount root mounted) [
    | inl was ↦ inl was
    | inr learns ↦ inr (learns_behind spell owner base v a root learns)
  ]

  awaits : (place : ℕ) (x : Awaited) → (caller_behind base w).awaits place ≡ Some x
      → ((v.boot ≡ w.boot) × ((caller_behind base v).awaits place ≡ Some x)) ⊎ ((v.boot ≡ w.boot) × IsSent spell owner own a x)
  awaits place x there =
      let was = was_awaited base (w.awaits place) x there in
      elim (laws.awaits place was.own was.there) [
        | inl before ↦
            inl (before.0, ap (λ (o : Option Awaited). option_map (awaited_behind base) o) before.1 ∙ ap (λ (y : Awaited). Some y) was.is)
        | inr sent ↦
            inr (sent.0, subst (λ (y : Awaited). IsSent spell owner own a y) was.is (sent_behind spell owner own base a was.own sent.1))
      ]

  goes_on : (place xid : ℕ) (seal : Seal) (call : Call) → (caller_behind base w).awaits place ≡ Some (awaiting xid (Slotted seal call))
      → GoesOn (caller_behind base v) (caller_behind base w) place call ⊎ IsNew (caller_behind base v) (caller_behind base w) call
  goes_on place xid seal call there =
      let was = was_call base (w.awaits place) xid seal call there in
      subst (λ (c : Call). GoesOn (caller_behind base v) (caller_behind base w) place c ⊎ IsNew (caller_behind base v) (caller_behind base w) c) was.is
      (goes_behind base v w place was.own (laws.goes_on place xid seal was.own was.there))

  in_slot : (place xid : ℕ) (seal : Seal) (call : Call) → (caller_behind base w).awaits place ≡ Some (awaiting xid (Slotted seal call))
      → (place ≡ call.slot) × (w.has (context_of seal) call.root ≡ true)
  in_slot place xid seal call there =
      let was = was_call base (w.awaits place) xid seal call there in
      subst (λ (c : Call). (place ≡ c.slot) × (w.has (context_of seal) c.root ≡ true)) was.is (laws.in_slot place xid seal was.own was.there)

  pub callers_behind : CallerLaws spell owner own (caller_behind base v) (caller_behind base w) a
  callers_behind = record {
    boot = laws.boot;
    calls = laws.calls;
    fresh = laws.fresh;
    one = laws.one;
    directed = laws.directed;
    simple = laws.simple;
    has = has;
    begin = λ root learns place xid there.
        laws.begin root (learns_before spell owner base v a root learns) place xid (was_begun base (w.awaits place) xid there);
    mount = mount;
    awaits = awaits;
    goes_on = goes_on;
    sends = λ bytes seal name sends owned slot. awaited_in spell base w bytes seal name (laws.sends bytes seal name sends owned slot);
    in_slot = in_slot;
  }
