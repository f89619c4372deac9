-- Two steps of a caller that obey the laws obey them as one, where nothing is lost of what the first sent.
use Rattle.std.proofs.Common.{◌≡◌, ◌⊎◌, inl, inr, ℕ, ◌<◌, ◌≤◌, false, List, [], Contains, Option, Some, None, sym, subst, ◌∙◌, arith}
use Rattle.std.proofs.lemmas.List.Elements.{Contains-append_cases, Contains-append_left, Contains-append_right}
use Rattle.nfs_base.specs.declared.seal.End.{End}
use Rattle.nfs_base.specs.declared.seal.Seal.{Seal}
use Rattle.wire_model.specs.CallerLaws.{CallerLaws, GoesOn, IsAwaited, IsNew, IsSent, LearnsChild, LearnsRoot, Takes}
use Rattle.wire_model.specs.Spelling.{Context, SlotName, Spelling}
use Rattle.wire_model.specs.Wire.{Acts, Awaited, Call, Caller, Sends, Sent, Slotted, What}
use Rattle.caller_laws.specs.Joining.{Follows, KeepsSent, joined}

none_sent : (a : Acts) (bytes : List ℕ) (seal : Option Seal) → a.out ≡ [] → Sends a bytes seal → ⊥
none_sent a bytes seal none sends =
    let it : Sent = record { bytes = bytes; seal = seal } in
    let there = subst (λ (out : List Sent). Contains out it) none sends in
    let lt = there.1 in
    omega arith

module _ (spell : Spelling) (owner own : End) (v u w : Caller) (a b : Acts) (first : CallerLaws spell owner own v u a) (second : CallerLaws spell owner own u w b)
    (f : Follows spell owner v u w a b) where
  either : (bytes : List ℕ) (seal : Option Seal) → Sends (joined a b) bytes seal → Sends a bytes seal ⊎ Sends b bytes seal
  either bytes seal sends =
      let x : Sent = record { bytes = bytes; seal = seal } in
      Contains-append_cases a.out b.out x sends

  takes_both : (seal : Seal) (what : What) (reply : List ℕ) → Takes spell v a seal what reply → Takes spell v (joined a b) seal what reply
  takes_both seal what reply t = record { place = t.place; took = t.took; is_reply = t.is_reply; accepted = t.accepted; awaited = t.awaited }

  takes_first : (seal : Seal) (what : What) (reply : List ℕ) → Takes spell v (joined a b) seal what reply → Takes spell v a seal what reply
  takes_first seal what reply t = record { place = t.place; took = t.took; is_reply = t.is_reply; accepted = t.accepted; awaited = t.awaited }

  root_both : (root : Context) → LearnsRoot spell owner v a root → LearnsRoot spell owner v (joined a b) root
  root_both root l = record { seal = l.seal; reply = l.reply; takes = takes_both l.seal _ l.reply l.takes; own = l.own; root_is = l.root_is }

  root_first : (root : Context) → LearnsRoot spell owner v (joined a b) root → LearnsRoot spell owner v a root
  root_first root l = record { seal = l.seal; reply = l.reply; takes = takes_first l.seal _ l.reply l.takes; own = l.own; root_is = l.root_is }

  child_both : (child root : Context) → LearnsChild spell v a child root → LearnsChild spell v (joined a b) child root
  child_both child root l = record {
    seal = l.seal;
    reply = l.reply;
    takes = takes_both l.seal _ l.reply l.takes;
    child_is = l.child_is;
    root_is = l.root_is;
    has_root = l.has_root;
  }

  never_takes : (x : Caller) (seal : Seal) (what : What) (reply : List ℕ) → Takes spell x b seal what reply → ⊥
  never_takes x seal what reply t =
      let took = t.took in
      let none = f.takes_nothing in
      cc

  sent_first : (x : Awaited) → IsSent spell owner own a x → IsSent spell owner own (joined a b) x
  sent_first x s = record {
    bytes = s.bytes;
    seal = s.seal;
    sent = Contains-append_left a.out b.out _ s.sent;
    xid = s.xid;
    is_call = s.is_call;
    no_callback = s.no_callback;
    fits = s.fits;
  }

  sent_second : (x : Awaited) → IsSent spell owner own b x → IsSent spell owner own (joined a b) x
  sent_second x s = record {
    bytes = s.bytes;
    seal = s.seal;
    sent = Contains-append_right a.out b.out _ s.sent;
    xid = s.xid;
    is_call = s.is_call;
    no_callback = s.no_callback;
    fits = s.fits;
  }

  mount_was : (root : Context) → w.mount ≡ Some root → (u.mount ≡ Some root) × ((slot : ℕ) → u.next slot ≤ w.next slot)
  mount_was root is =
      elim (second.mount root is) [
        | inl was ↦ was
        | inr learnt ↦ absurd (never_takes u learnt.seal _ learnt.reply learnt.takes)
      ]

  -- the number was unused before both
  unused_before : (call : Call) → u.mount ≡ Some call.root → (u.mount ≡ Some call.root → u.next call.slot ≤ call.number) → v.mount ≡ Some call.root → v.next call.slot ≤ call.number
  unused_before call there unused was =
      elim (first.mount call.root there) [
        | inl had ↦
            let grown : v.next call.slot ≤ u.next call.slot = had.1 call.slot in
            let free : u.next call.slot ≤ call.number = unused there in
            omega arith
        | inr learnt ↦ let none : v.mount ≡ None = f.unmounted call.root learnt in absurd cc
      ]

  new_first : KeepsSent spell owner a u w → (call : Call) → IsNew v u call → IsNew v w call
  new_first k call n =
      let mounted = k.mount call.root n.mounted in
      let grown : u.next call.slot ≤ w.next call.slot = (mount_was call.root mounted).1 call.slot in
      let used = n.used in
      record { mounted = mounted; unused = n.unused; used = omega arith; ready = k.ready call.purpose n.ready }

  new_second : (call : Call) → IsNew u w call → IsNew v w call
  new_second call n =
      record { mounted = n.mounted; unused = unused_before call (mount_was call.root n.mounted).0 n.unused; used = n.used; ready = n.ready }

  on_first : KeepsSent spell owner a u w → (place : ℕ) (call : Call) → GoesOn v u place call ⊎ IsNew v u call → GoesOn v w place call ⊎ IsNew v w call
  on_first k place call (inl on) = inl (on.0 ∙ f.same_opening, on.1)
  on_first k place call (inr n) = inr (new_first k call n)

  -- what is awaited before the second step in a slot
  awaited_first : (a.out ≡ []) ⊎ KeepsSent spell owner a u w → (place xid : ℕ) (seal : Seal) (call : Call) → u.awaits place ≡ Some (record { xid = xid; what = Slotted seal call })
      → GoesOn v w place call ⊎ IsNew v w call
  awaited_first (inl none) place xid seal call there =
      elim (first.awaits place (record { xid = xid; what = Slotted seal call }) there) [
        | inl had ↦ inl (had.0 ∙ f.same_opening, (xid, seal, had.1))
        | inr sent ↦ absurd (none_sent a sent.1.bytes sent.1.seal none sent.1.sent)
      ]
  awaited_first (inr k) place xid seal call there = on_first k place call (first.goes_on place xid seal call there)

  sends_first : (a.out ≡ []) ⊎ KeepsSent spell owner a u w → (bytes : List ℕ) (seal : Seal) (name : SlotName) → Sends a bytes (Some seal) → seal.owner ≡ owner
      → spell.slot_of bytes ≡ Some name → IsAwaited spell w bytes seal name
  sends_first (inl none) bytes seal name sends is_own named = absurd (none_sent a bytes (Some seal) none sends)
  sends_first (inr k) bytes seal name sends is_own named =
      let it = first.sends bytes seal name sends is_own named in
      record {
        call = it.call;
        slot = it.slot;
        number = it.number;
        ops = it.ops;
        awaited = k.sent bytes seal name (record { xid = spell.xid_of bytes; what = Slotted seal it.call }) sends is_own named it.awaited;
      }

  fresh_first : (bytes : List ℕ) (seal : Option Seal) → Sends a bytes seal → spell.is_reply bytes ≡ false
      → (v.boot ≡ w.boot) × (v.calls < spell.xid_of bytes) × (spell.xid_of bytes ≤ w.calls)
  fresh_first bytes seal sends call =
      let it = first.fresh bytes seal sends call in
      let after : u.calls ≤ w.calls = second.calls f.same_opening in
      let low : v.calls < spell.xid_of bytes = it.1 in
      let high : spell.xid_of bytes ≤ u.calls = it.2 in
      (it.0 ∙ f.same_opening, low, omega arith)

  fresh_second : (bytes : List ℕ) (seal : Option Seal) → Sends b bytes seal → spell.is_reply bytes ≡ false
      → (v.boot ≡ w.boot) × (v.calls < spell.xid_of bytes) × (spell.xid_of bytes ≤ w.calls)
  fresh_second bytes seal sends call =
      let it = second.fresh bytes seal sends call in
      let before : v.calls ≤ u.calls = first.calls f.opening in
      let low : u.calls < spell.xid_of bytes = it.1 in
      (f.opening ∙ f.same_opening, omega arith, it.2)

  -- an xid of the second is above all of the first
  apart : (one other : List ℕ) (seal seal' : Option Seal) → Sends a one seal → Sends b other seal' → spell.is_reply one ≡ false → spell.is_reply other ≡ false
      → spell.xid_of one ≡ spell.xid_of other → ⊥
  apart one other seal seal' sends sends' call call' same =
      let low = (first.fresh one seal sends call).2 in
      let high = (second.fresh other seal' sends' call').1 in
      omega (arith, low, high, same)

  pub joined_obey : CallerLaws spell owner own v w (joined a b)
  joined_obey = record {
    boot = let low = first.boot in let high = second.boot in omega arith;
    calls = λ same.
        let after = second.calls f.same_opening in
        let before = first.calls f.opening in
        omega arith;
    fresh = λ bytes seal sends call.
        elim (either bytes seal sends) [
          | inl early ↦ fresh_first bytes seal early call
          | inr late ↦ fresh_second bytes seal late call
        ];
    one = λ bytes other seal seal' sends sends' call call' same.
        elim (either bytes seal sends) [
          | inl early ↦ elim (either other seal' sends') [
            | inl too ↦ first.one bytes other seal seal' early too call call' same
            | inr late ↦ absurd (apart bytes other seal seal' early late call call' same)
          ]
          | inr late ↦ elim (either other seal' sends') [
            | inl early ↦ absurd (apart other bytes seal' seal early late call' call (sym same))
            | inr too ↦ second.one bytes other seal seal' late too call call' same
          ]
        ];
    directed = λ bytes call seal sends is_own is_reply took.
        elim (either bytes (Some seal) sends) [
          | inl early ↦ first.directed bytes call seal early is_own is_reply took
          | inr late ↦ let no_reply = f.calls bytes (Some seal) late in absurd cc
        ];
    simple = λ bytes seal name sends is_own named.
        elim (either bytes (Some seal) sends) [
          | inl early ↦ first.simple bytes seal name early is_own named
          | inr late ↦ second.simple bytes seal name late is_own named
        ];
    has = λ context root there.
        elim (second.has context root there) [
          | inl was ↦ elim (first.has context root was) [
            | inl had ↦ inl had
            | inr learnt ↦ elim learnt [
              | inl l ↦ inr (inl (l.0, root_both root l.1))
              | inr l ↦ inr (inr (child_both context root l))
            ]
          ]
          | inr learnt ↦ elim learnt [
            | inl l ↦ absurd (never_takes u l.1.seal _ l.1.reply l.1.takes)
            | inr l ↦ absurd (never_takes u l.seal _ l.reply l.takes)
          ]
        ];
    begin = λ root learnt. f.begun root (root_first root learnt);
    mount = λ root there.
        let was = mount_was root there in
        elim (first.mount root was.0) [
          | inl had ↦
              inl (
                had.0,
                λ slot.
                    let low : v.next slot ≤ u.next slot = had.1 slot in
                    let high : u.next slot ≤ w.next slot = was.1 slot in
                    omega arith,
              )
          | inr learnt ↦ inr (root_both root learnt)
        ];
    awaits = λ place x there.
        elim (second.awaits place x there) [
          | inl was ↦ elim (first.awaits place x was.1) [
            | inl had ↦ inl (had.0 ∙ was.0, had.1)
            | inr sent ↦ inr (sent.0 ∙ was.0, sent_first x sent.1)
          ]
          | inr sent ↦ inr (f.opening ∙ f.same_opening, sent_second x sent.1)
        ];
    goes_on = λ place xid seal call there.
        elim (second.goes_on place xid seal call there) [
          | inl on ↦ awaited_first f.keeps place on.1.0 on.1.1 call on.1.2
          | inr n ↦ inr (new_second call n)
        ];
    sends = λ bytes seal name sends is_own named.
        elim (either bytes (Some seal) sends) [
          | inl early ↦ sends_first f.keeps bytes seal name early is_own named
          | inr late ↦ second.sends bytes seal name late is_own named
        ];
    in_slot = second.in_slot;
  }
