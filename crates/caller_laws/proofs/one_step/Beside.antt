-- What a machine does besides, to other ends, breaks no law of a server's wire.
use Rattle.std.proofs.Common.{◌≡◌, ◌∙◌, ◌⊎◌, inl, inr, ℕ, ◌<◌, ◌≤◌, Bool, true, false, List, [], ◌∷◌, Contains, length, Option, Some, None, zero, suc, refl, sym, ap, subst, arith}
use Rattle.std.proofs.lemmas.List.Elements.{Contains-append_cases, Contains-append_left}
use Rattle.std.specs.Prelude.{get_or}
use Rattle.caller_laws.specs.OneStep.Besides.{AreBesides, GoesBeside, IsElsewhere}
use Rattle.nfs_base.specs.declared.seal.End.{End}
use Rattle.nfs_base.specs.declared.seal.Seal.{Seal}
use Rattle.wire_model.specs.CallerLaws.{CallerLaws, IsNew, IsSent, LearnsChild, LearnsRoot, Takes}
use Rattle.wire_model.specs.Spelling.{Context, Spelling}
use Rattle.wire_model.specs.Wire.{Acts, Awaited, Call, Caller, Sends, Sent, What, context_of}

first_or : {X : Type 0} (y x : X) (ys : List X) → Contains (y ∷ ys) x → (y ≡ x) ⊎ Contains ys x
first_or y x ys c = by c.0 c.1 c.2
  where
    by : (k : ℕ) → k < length (y ∷ ys) → get_or (y ∷ ys) k x ≡ x → (y ≡ x) ⊎ Contains ys x
    by zero lt is = inl is
    by (suc k) lt is = inr (k, omega arith, is)

some_seal : {A : Type 0} (seal : Seal) → None ≡ Some seal → A
some_seal seal e = absurd cc

-- ---- numbers

pub record IsCounted (low last number : ℕ) : Type 0 where
  pub above : low < number
  pub below : number ≤ last

module _ (spell : Spelling) (owner : End) where
  ends_above : (low last : ℕ) (more : List Sent) → AreBesides spell owner low more last → low ≤ last
  ends_above low last [] are = are
  ends_above low last (one ∷ more) are =
      elim are.1 [
        | inl reply ↦ ends_above low last more reply.1
        | inr call ↦
            let rest : spell.xid_of one.bytes ≤ last = ends_above (spell.xid_of one.bytes) last more call.1 in
            let here : low < spell.xid_of one.bytes = call.0 in
            omega arith
      ]

  counted_in : (low last : ℕ) (more : List Sent) (x : Sent) → AreBesides spell owner low more last → Contains more x → spell.is_reply x.bytes ≡ false
      → IsCounted low last (spell.xid_of x.bytes)
  counted_in low last [] x are there none = let lt = there.1 in absurd (omega arith)
  counted_in low last (one ∷ more) x are there none =
      elim (first_or one x more there) [
        | inl same ↦ elim are.1 [
          | inl reply ↦
              let both : true ≡ false = sym reply.0 ∙ ap (λ (s : Sent). spell.is_reply s.bytes) same ∙ none in
              absurd cc
          | inr call ↦
              let is : spell.xid_of one.bytes ≡ spell.xid_of x.bytes = ap (λ (s : Sent). spell.xid_of s.bytes) same in
              let high = ends_above (spell.xid_of one.bytes) last more call.1 in
              let here = call.0 in
              record { above = omega (arith, is, here); below = omega (arith, is, high) }
        ]
        | inr later ↦ elim are.1 [
          | inl reply ↦ counted_in low last more x reply.1 later none
          | inr call ↦
              let it = counted_in (spell.xid_of one.bytes) last more x call.1 later none in
              let here = call.0 in
              let above = it.above in
              record { above = omega (arith, here, above); below = it.below }
        ]
      ]

  once : (low last : ℕ) (more : List Sent) (x y : Sent) → AreBesides spell owner low more last → Contains more x → Contains more y
      → spell.is_reply x.bytes ≡ false → spell.is_reply y.bytes ≡ false → spell.xid_of x.bytes ≡ spell.xid_of y.bytes → x ≡ y
  once low last [] x y are there too call call' is = let lt = there.1 in absurd (omega arith)
  once low last (one ∷ more) x y are there too call call' is =
      elim (first_or one x more there) [
        | inl same ↦ elim (first_or one y more too) [
          | inl also ↦ sym same ∙ also
          | inr later ↦ elim are.1 [
            | inl reply ↦
                let both : true ≡ false = sym reply.0 ∙ ap (λ (s : Sent). spell.is_reply s.bytes) same ∙ call in
                absurd cc
            | inr sent ↦
                let above = (counted_in (spell.xid_of one.bytes) last more y sent.1 later call').above in
                let here : spell.xid_of one.bytes ≡ spell.xid_of x.bytes = ap (λ (s : Sent). spell.xid_of s.bytes) same in
                absurd (omega (arith, above, here, is))
          ]
        ]
        | inr later ↦ elim (first_or one y more too) [
          | inl also ↦ elim are.1 [
            | inl reply ↦
                let both : true ≡ false = sym reply.0 ∙ ap (λ (s : Sent). spell.is_reply s.bytes) also ∙ call' in
                absurd cc
            | inr sent ↦
                let above = (counted_in (spell.xid_of one.bytes) last more x sent.1 later call).above in
                let here : spell.xid_of one.bytes ≡ spell.xid_of y.bytes = ap (λ (s : Sent). spell.xid_of s.bytes) also in
                absurd (omega (arith, above, here, is))
          ]
          | inr both ↦ elim are.1 [
            | inl reply ↦ once low last more x y reply.1 later both call call' is
            | inr sent ↦ once (spell.xid_of one.bytes) last more x y sent.1 later both call call' is
          ]
        ]
      ]

  elsewhere : (low last : ℕ) (more : List Sent) (x : Sent) → AreBesides spell owner low more last → Contains more x → IsElsewhere owner x
  elsewhere low last [] x are there = let lt = there.1 in absurd (omega arith)
  elsewhere low last (one ∷ more) x are there =
      elim (first_or one x more there) [
        | inl same ↦ subst (IsElsewhere owner) same are.0
        | inr later ↦ elim are.1 [
          | inl reply ↦ elsewhere low last more x reply.1 later
          | inr call ↦ elsewhere (spell.xid_of one.bytes) last more x call.1 later
        ]
      ]

-- ---- all of it

module _ (spell : Spelling) (owner own : End) (v u w : Caller) (a c : Acts) (first : CallerLaws spell owner own v u a) (g : GoesBeside spell owner v u w a c) where
  either : (bytes : List ℕ) (seal : Option Seal) → Sends c bytes seal → Sends a bytes seal ⊎ Contains g.besides (record { bytes = bytes; seal = seal })
  either bytes seal sends =
      let x : Sent = record { bytes = bytes; seal = seal } in
      Contains-append_cases a.out g.besides x (subst (λ (out : List Sent). Contains out x) g.out sends)

  -- what is sealed for the server it was sent there
  own_sent : (bytes : List ℕ) (seal : Seal) → Sends c bytes (Some seal) → seal.owner ≡ owner → Sends a bytes (Some seal)
  own_sent bytes seal sends is_own =
      elim (either bytes (Some seal) sends) [
        | inl there ↦ there
        | inr beside ↦ absurd (elsewhere spell owner u.calls w.calls g.besides (record { bytes = bytes; seal = Some seal }) g.are beside seal refl is_own)
      ]

  -- ---- what is taken

  takes_all : (seal : Seal) (what : What) (reply : List ℕ) → Takes spell v a seal what reply → Takes spell v c seal what reply
  takes_all seal what reply t =
      elim g.takes [
        | inl same ↦ record { place = t.place; took = same.0 ∙ t.took; is_reply = t.is_reply; accepted = same.1 ∙ t.accepted; awaited = t.awaited }
        | inr none ↦ let both : None ≡ Some reply = sym none.0 ∙ t.took in absurd cc
      ]

  root_all : (root : Context) → LearnsRoot spell owner v a root → LearnsRoot spell owner v c root
  root_all root l = record { seal = l.seal; reply = l.reply; takes = takes_all l.seal _ l.reply l.takes; own = l.own; root_is = l.root_is }

  child_all : (child root : Context) → LearnsChild spell v a child root → LearnsChild spell v c child root
  child_all child root l =
      record { seal = l.seal; reply = l.reply; takes = takes_all l.seal _ l.reply l.takes; child_is = l.child_is; root_is = l.root_is; has_root = l.has_root }

  root_own : (root : Context) → LearnsRoot spell owner v c root → LearnsRoot spell owner v a root
  root_own root l =
      elim g.takes [
        | inl same ↦ record {
          seal = l.seal;
          reply = l.reply;
          takes = record {
            place = l.takes.place;
            took = sym same.0 ∙ l.takes.took;
            is_reply = l.takes.is_reply;
            accepted = sym same.1 ∙ l.takes.accepted;
            awaited = l.takes.awaited;
          };
          own = l.own;
          root_is = l.root_is;
        }
        | inr none ↦ absurd (none.1 root l)
      ]

  -- ---- as a caller it is the same afterwards

  awaits_was : (place : ℕ) (x : Awaited) → w.awaits place ≡ Some x → u.awaits place ≡ Some x
  awaits_was place x there = ap (λ (f : ℕ → Option Awaited). f place) (sym g.stays.awaits) ∙ there

  awaits_is : (place : ℕ) (x : Awaited) → u.awaits place ≡ Some x → w.awaits place ≡ Some x
  awaits_is place x there = ap (λ (f : ℕ → Option Awaited). f place) g.stays.awaits ∙ there

  has_was : (context root : Context) → w.has context root ≡ true → u.has context root ≡ true
  has_was context root there = ap (λ (f : Context → Context → Bool). f context root) (sym g.stays.has) ∙ there

  has_is : (context root : Context) → u.has context root ≡ true → w.has context root ≡ true
  has_is context root there = ap (λ (f : Context → Context → Bool). f context root) g.stays.has ∙ there

  next_is : (slot : ℕ) → w.next slot ≡ u.next slot
  next_is slot = ap (λ (f : ℕ → ℕ). f slot) g.stays.next

  counts : u.calls ≤ w.calls
  counts = ends_above spell owner u.calls w.calls g.besides g.are

  sent_all : (x : Awaited) → IsSent spell owner own a x → IsSent spell owner own c x
  sent_all x s = record {
    bytes = s.bytes;
    seal = s.seal;
    sent =
        subst (λ (out : List Sent). Contains out (record { bytes = s.bytes; seal = s.seal })) (sym g.out)
        (Contains-append_left a.out g.besides (record { bytes = s.bytes; seal = s.seal }) s.sent);
    xid = s.xid;
    is_call = s.is_call;
    no_callback = s.no_callback;
    fits = s.fits;
  }

  new_all : (call : Call) → IsNew v u call → IsNew v w call
  new_all call n =
      let used = n.used in
      let same = next_is call.slot in
      record { mounted = g.stays.mount ∙ n.mounted; unused = n.unused; used = omega (arith, used, same); ready = g.stays.ready call.purpose n.ready }

  fresh_all : (bytes : List ℕ) (seal : Option Seal) → Sends c bytes seal → spell.is_reply bytes ≡ false
      → (v.boot ≡ w.boot) × (v.calls < spell.xid_of bytes) × (spell.xid_of bytes ≤ w.calls)
  fresh_all bytes seal sends call =
      let after : u.calls ≤ w.calls = counts in
      let before : v.calls ≤ u.calls = first.calls g.opening in
      elim (either bytes seal sends) [
        | inl there ↦
            let it = first.fresh bytes seal there call in
            let low : v.calls < spell.xid_of bytes = it.1 in
            let high : spell.xid_of bytes ≤ u.calls = it.2 in
            (g.opening ∙ g.stays.boot, low, omega arith)
        | inr beside ↦
            let it = counted_in spell owner u.calls w.calls g.besides (record { bytes = bytes; seal = seal }) g.are beside call in
            let low : u.calls < spell.xid_of bytes = it.above in
            (g.opening ∙ g.stays.boot, omega arith, it.below)
      ]

  apart : (bytes other : List ℕ) (seal seal' : Option Seal) → Sends a bytes seal → Contains g.besides (record { bytes = other; seal = seal' })
      → spell.is_reply bytes ≡ false → spell.is_reply other ≡ false → spell.xid_of bytes ≡ spell.xid_of other → ⊥
  apart bytes other seal seal' there beside call call' same =
      let high = (first.fresh bytes seal there call).2 in
      let low = (counted_in spell owner u.calls w.calls g.besides (record { bytes = other; seal = seal' }) g.are beside call').above in
      omega (arith, high, low, same)

  one_all : (bytes other : List ℕ) (seal seal' : Option Seal) → Sends c bytes seal → Sends c other seal' → spell.is_reply bytes ≡ false → spell.is_reply other ≡ false
      → spell.xid_of bytes ≡ spell.xid_of other → bytes ≡ other
  one_all bytes other seal seal' sends sends' call call' same =
      elim (either bytes seal sends) [
        | inl here ↦ elim (either other seal' sends') [
          | inl there ↦ first.one bytes other seal seal' here there call call' same
          | inr beside ↦ absurd (apart bytes other seal seal' here beside call call' same)
        ]
        | inr beside ↦ elim (either other seal' sends') [
          | inl there ↦ absurd (apart other bytes seal' seal there beside call' call (sym same))
          | inr too ↦
              ap (λ (s : Sent). s.bytes)
              (once spell owner u.calls w.calls g.besides (record { bytes = bytes; seal = seal }) (record { bytes = other; seal = seal' }) g.are beside too call call' same)
        ]
      ]

  pub beside_obeys : CallerLaws spell owner own v w c
  beside_obeys = record {
    boot = let le = first.boot in let is = g.stays.boot in omega (arith, le, is);
    calls = λ same.
        let after = counts in
        let before = first.calls g.opening in
        omega (arith, after, before);
    fresh = fresh_all;
    one = one_all;
    directed = λ bytes call seal sends is_own is_reply took.
        let none = g.calls bytes (Some seal) (own_sent bytes seal sends is_own) in
        let both : true ≡ false = sym is_reply ∙ none in
        absurd cc;
    simple = λ bytes seal name sends is_own named. first.simple bytes seal name (own_sent bytes seal sends is_own) is_own named;
    has = λ context root there.
        elim (first.has context root (has_was context root there)) [
          | inl was ↦ inl was
          | inr learnt ↦ elim learnt [
            | inl l ↦ inr (inl (l.0, root_all root l.1))
            | inr l ↦ inr (inr (child_all context root l))
          ]
        ];
    begin = λ root learnt place xid there. first.begin root (root_own root learnt) place xid (awaits_was place _ there);
    mount = λ root there.
        elim (first.mount root (sym g.stays.mount ∙ there)) [
          | inl was ↦ inl (was.0, λ slot. let le = was.1 slot in let is = next_is slot in omega (arith, le, is))
          | inr learnt ↦ inr (root_all root learnt)
        ];
    awaits = λ place x there.
        elim (first.awaits place x (awaits_was place x there)) [
          | inl was ↦ inl (was.0 ∙ g.stays.boot, was.1)
          | inr sent ↦ inr (sent.0 ∙ g.stays.boot, sent_all x sent.1)
        ];
    goes_on = λ place xid seal call there.
        elim (first.goes_on place xid seal call (awaits_was place _ there)) [
          | inl on ↦ inl (on.0 ∙ g.stays.boot, on.1)
          | inr n ↦ inr (new_all call n)
        ];
    sends = λ bytes seal name sends is_own named.
        let it = first.sends bytes seal name (own_sent bytes seal sends is_own) is_own named in
        record { call = it.call; slot = it.slot; number = it.number; ops = it.ops; awaited = awaits_is name.slot _ it.awaited };
    in_slot = λ place xid seal call there.
        let it = first.in_slot place xid seal call (awaits_was place _ there) in
        (it.0, has_is (context_of seal) call.root it.1);
  }
