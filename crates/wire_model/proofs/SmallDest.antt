-- The destination of the small wire obeys the laws of a caller.
use Rattle.std.proofs.Common.{◌≡◌, ◌⊎◌, inl, inr, ℕ, zero, suc, ◌<◌, ◌≤◌, true, ◌&&◌, eqb, Option, None, Some, List, Contains, refl, sym, ◌∙◌, ap, subst, arith}
use Rattle.std.proofs.lemmas.Bool.{and_parts, false≢true, eqb-true}
use Rattle.nfs_base.specs.declared.seal.End.{End}
use Rattle.nfs_base.specs.declared.seal.End.TheVariants.{Source, Dest, Client}
use Rattle.nfs_base.specs.declared.seal.Seal.{Seal}
use Rattle.wire_model.specs.Spelling.{Context, SlotName}
use Rattle.wire_model.specs.Wire.{Sent, What, Begins, Makes, Slotted, Other, Call, Awaited, Caller, context_of}
use Rattle.wire_model.specs.CallerLaws.{IsSent, LearnsRoot, IsNew, IsAwaited, CallerLaws}
use Rattle.wire_model.specs.Examples.{spelling, init, begun, called, called_again, kept_answer, root, seal_of, call, name, idle, sealed, begins, calls, retries, takes, at_zero, has_root, unknown, begun_call, awaited, beginning, mounted, retried, answered, wire}
use Rattle.wire_model.proofs.Answered.{same_context}
use Rattle.wire_model.proofs.SmallSource.{only, none, bytes_are, seal_is, some}

-- the seal and the call of what is awaited
abbrev call_in : What → Option (Seal × Call)
call_in Begins = None
call_in (Makes seal) = None
call_in (Slotted seal c) = Some (seal, c)
call_in Other = None

abbrev pub call_of : Option Awaited → Option (Seal × Call)
call_of None = None
call_of (Some x) = call_in x.what

-- a state law: an awaited call stands in the place of its slot, under a context that is there
abbrev IsInSlot : Caller → Type 0
IsInSlot w = (place xid : ℕ) (seal : Seal) (c : Call) → w.awaits place ≡ Some (record { xid = xid; what = Slotted seal c })
    → (place ≡ c.slot) × (w.has (context_of seal) c.root ≡ true)

-- the call that is awaited in place 0 under a seal
at_place : (x seq place xid : ℕ) (seal : Seal) (c : Call) → at_zero (awaited x seq) place ≡ Some (record { xid = xid; what = Slotted seal c })
    → (place ≡ 0) × (call ≡ c) × (seal_of seq ≡ seal)
at_place x seq zero xid seal c is =
    let same = some {A = Seal × Call} (seal_of seq, call) (seal, c) (ap call_of is) in
    (refl, ap (λ (p : Seal × Call). p.1) same, ap (λ (p : Seal × Call). p.0) same)
at_place x seq (suc place) xid seal c is = absurd (cc)

call_in_slot : (x seq place xid : ℕ) (seal : Seal) (c : Call) → at_zero (awaited x seq) place ≡ Some (record { xid = xid; what = Slotted seal c })
    → (place ≡ c.slot) × (has_root (context_of seal) c.root ≡ true)
call_in_slot x seq place xid seal c is =
    let at = at_place x seq place xid seal c is in (
      at.0 ∙ ap (λ (d : Call). d.slot) at.1,
      subst (λ (o : Seal). has_root (context_of o) c.root ≡ true) at.2 (subst (λ (d : Call). has_root root d.root ≡ true) at.1 refl),
    )

no_call : (place xid : ℕ) (seal : Seal) (c : Call) → at_zero begun_call place ≡ Some (record { xid = xid; what = Slotted seal c }) → ⊥
no_call zero xid seal c is = absurd (let nothing = ap call_of is in cc)
no_call (suc place) xid seal c is = absurd (cc)

no_begin : (x seq place xid : ℕ) → at_zero (awaited x seq) place ≡ Some (record { xid = xid; what = Begins }) → ⊥
no_begin x seq zero xid is = absurd (let nothing = ap call_of is in cc)
no_begin x seq (suc place) xid is = absurd (cc)

-- a step that sends nothing, and after which no more is awaited than before
quiet : (owner own : End) (v : Caller) (left : ℕ → Option Awaited) (took : Option (List ℕ)) (accepted : Option Seal)
    → ((place : ℕ) (x : Awaited) → left place ≡ Some x → v.awaits place ≡ Some x)
    → ((r : Context) → LearnsRoot spelling owner v (record idle { took = took; accepted = accepted }) r
    → (place xid : ℕ) → left place ≡ Some (record { xid = xid; what = Begins }) → ⊥)
    → IsInSlot (record v { awaits = left })
    → CallerLaws spelling owner own v (record v { awaits = left }) (record idle { took = took; accepted = accepted })
quiet owner own v left took accepted still begin in_slot =
    record {
      boot = omega arith;
      calls = λ same. omega arith;
      fresh = λ bytes seal sends. absurd (none _ sends);
      one = λ bytes other seal seal' sends. absurd (none _ sends);
      directed = λ bytes c seal sends. absurd (none _ sends);
      simple = λ bytes seal n sends owned named. refl;
      has = λ context r has. inl has;
      begin = begin;
      mount = λ r is. inl (is, λ slot. omega arith);
      awaits = λ place x is. inl (refl, still place x is);
      goes_on = λ place xid seal c is. inl (refl, (xid, seal, still place _ is));
      sends = λ bytes seal n sends. absurd (none _ sends);
      in_slot = in_slot;
    }

pub rests : (owner own : End) (v : Caller) → IsInSlot v → CallerLaws spelling owner own v v idle
rests owner own v in_slot =
    quiet owner own v v.awaits None None (λ place x is. is) (λ r learns. absurd (let took = learns.takes.took in cc)) in_slot

-- the record that is sent has the next xid
has_xid : (v w : Caller) (b bytes : List ℕ) → b ≡ bytes → v.boot ≡ w.boot → v.calls < spelling.xid_of b → spelling.xid_of b ≤ w.calls
    → (v.boot ≡ w.boot) × (v.calls < spelling.xid_of bytes) × (spelling.xid_of bytes ≤ w.calls)
has_xid v w b bytes same boot above most =
    (boot, subst (λ x. v.calls < spelling.xid_of x) same above, subst (λ x. spelling.xid_of x ≤ w.calls) same most)

begins_lawful : CallerLaws spelling Source Dest unknown beginning begins
begins_lawful =
    record {
      boot = omega arith;
      calls = λ same. omega arith;
      fresh = λ bytes seal sends is_call. has_xid unknown beginning init bytes (bytes_are _ bytes seal sends) refl (omega arith) (omega arith);
      one = λ bytes other seal seal' sends sends' is_call is_call' xid. sym (bytes_are _ bytes seal sends) ∙ bytes_are _ other seal' sends';
      directed = λ bytes c seal sends owned is_reply took. absurd (cc);
      simple = λ bytes seal n sends owned named. refl;
      has = λ context r has. absurd (false≢true has);
      begin = λ r learns. absurd (let took = learns.takes.took in cc);
      mount = λ r is. absurd (cc);
      awaits = sent;
      goes_on = λ place xid seal c is. absurd (no_call place xid seal c is);
      sends = λ bytes seal n sends. absurd (let nothing = ap (λ (x : Sent). x.seal) (only _ _ sends) in cc);
      in_slot = λ place xid seal c is. absurd (no_call place xid seal c is);
    }
  where
    sent : (place : ℕ) (x : Awaited) → at_zero begun_call place ≡ Some x
        → ((unknown.boot ≡ beginning.boot) × (None ≡ Some x)) ⊎ ((unknown.boot ≡ beginning.boot) × IsSent spelling Source Dest begins x)
    sent zero x is =
        inr (
          refl,
          subst (IsSent spelling Source Dest begins) (some begun_call x is)
              (record { bytes = init; seal = None; sent = (0, omega arith, refl); xid = refl; is_call = refl; no_callback = refl; fits = refl }),
        )
    sent (suc place) x is = absurd (cc)

-- what is sent is the one record that is awaited
one_awaited : (w : Caller) (b : List ℕ) (seq : ℕ) → IsAwaited spelling w b (seal_of seq) name → spelling.slot_of b ≡ Some name
    → (bytes : List ℕ) (seal : Seal) (n : SlotName) → Contains (sealed b seq) (record { bytes = bytes; seal = Some seal })
    → spelling.slot_of bytes ≡ Some n → IsAwaited spelling w bytes seal n
one_awaited w b seq is slot bytes seal n sends named =
    let here = bytes_are _ bytes (Some seal) sends in
    subst (λ m. IsAwaited spelling w bytes seal m) (some name n (sym slot ∙ ap spelling.slot_of here ∙ named))
    (subst (λ x. IsAwaited spelling w x seal name) here
    (subst (λ o. IsAwaited spelling w b o name) (seal_is _ (seal_of seq) bytes seal refl sends) is))

-- it has one context alone, the root
are_root : (c r : Context) → has_root c r ≡ true → (c ≡ root) × (r ≡ root)
are_root c r has =
    let both = and_parts (eqb c.boot 1 && eqb c.number 1) (eqb r.boot 1 && eqb r.number 1) has in
    let first = and_parts (eqb c.boot 1) (eqb c.number 1) both.0 in
    let second = and_parts (eqb r.boot 1) (eqb r.number 1) both.1 in (
      same_context c root (eqb-true c.boot 1 first.0) (eqb-true c.number 1 first.1),
      same_context r root (eqb-true r.boot 1 second.0) (eqb-true r.number 1 second.1),
    )

calls_lawful : CallerLaws spelling Source Dest beginning mounted calls
calls_lawful =
    record {
      boot = omega arith;
      calls = λ same. omega arith;
      fresh = λ bytes seal sends is_call. has_xid beginning mounted called bytes (bytes_are _ bytes seal sends) refl (omega arith) (omega arith);
      one = λ bytes other seal seal' sends sends' is_call is_call' xid. sym (bytes_are _ bytes seal sends) ∙ bytes_are _ other seal' sends';
      directed = λ bytes c seal sends owned is_reply.
          absurd (false≢true (subst (λ b. spelling.is_reply b ≡ true) (sym (bytes_are _ bytes _ sends)) is_reply));
      simple = λ bytes seal n sends owned named. refl;
      has = λ context r has.
          let are = are_root context r has in
          inr (inl (are.0 ∙ sym are.1, subst (LearnsRoot spelling Source beginning calls) (sym are.1) learns));
      begin = λ r learnt place xid is. no_begin 2 1 place xid is;
      mount = λ r is. inr (subst (LearnsRoot spelling Source beginning calls) (some root r is) learns);
      awaits = sent;
      goes_on = λ place xid seal c is.
          inr (subst (IsNew beginning mounted) (at_place 2 1 place xid seal c is).1
          (record { mounted = refl; unused = λ before. absurd (cc); used = omega arith; ready = refl }));
      sends = λ bytes seal n sends owned named.
          one_awaited mounted called 1 (record { call = call; slot = refl; number = refl; ops = refl; awaited = refl }) refl bytes seal n sends named;
      in_slot = call_in_slot 2 1;
    }
  where
    learns : LearnsRoot spelling Source beginning calls root
    learns = record {
      seal = seal_of 0;
      reply = begun;
      takes = record { place = 0; took = refl; is_reply = refl; accepted = refl; awaited = refl };
      own = refl;
      root_is = refl;
    }

    sent : (place : ℕ) (x : Awaited) → at_zero (awaited 2 1) place ≡ Some x
        → ((beginning.boot ≡ mounted.boot) × (at_zero begun_call place ≡ Some x)) ⊎ ((beginning.boot ≡ mounted.boot) × IsSent spelling Source Dest calls x)
    sent zero x is =
        inr (
          refl,
          subst (IsSent spelling Source Dest calls) (some (awaited 2 1) x is)
              (record { bytes = called; seal = Some (seal_of 1); sent = (0, omega arith, refl); xid = refl; is_call = refl; no_callback = refl; fits = (refl, refl, (name, refl, refl, refl), refl) }),
        )
    sent (suc place) x is = absurd (cc)

retries_lawful : CallerLaws spelling Source Dest mounted retried retries
retries_lawful =
    record {
      boot = omega arith;
      calls = λ same. omega arith;
      fresh = λ bytes seal sends is_call. has_xid mounted retried called_again bytes (bytes_are _ bytes seal sends) refl (omega arith) (omega arith);
      one = λ bytes other seal seal' sends sends' is_call is_call' xid. sym (bytes_are _ bytes seal sends) ∙ bytes_are _ other seal' sends';
      directed = λ bytes c seal sends owned is_reply took. absurd (cc);
      simple = λ bytes seal n sends owned named. refl;
      has = λ context r has. inl has;
      begin = λ r learns. absurd (let took = learns.takes.took in cc);
      mount = λ r is. inl (is, λ slot. omega arith);
      awaits = sent;
      goes_on = λ place xid seal c is.
          let at = at_place 3 2 place xid seal c is in
          inl (refl, (2, seal_of 1, subst (λ p. at_zero (awaited 2 1) p ≡ Some (record { xid = 2; what = Slotted (seal_of 1) c })) (sym at.0) (ap (λ (d : Call). Some (record { xid = 2; what = Slotted (seal_of 1) d })) at.1)));
      sends = λ bytes seal n sends owned named.
          one_awaited retried called_again 2 (record { call = call; slot = refl; number = refl; ops = refl; awaited = refl }) refl bytes seal n sends named;
      in_slot = call_in_slot 3 2;
    }
  where
    sent : (place : ℕ) (x : Awaited) → at_zero (awaited 3 2) place ≡ Some x
        → ((mounted.boot ≡ retried.boot) × (at_zero (awaited 2 1) place ≡ Some x)) ⊎ ((mounted.boot ≡ retried.boot) × IsSent spelling Source Dest retries x)
    sent zero x is =
        inr (
          refl,
          subst (IsSent spelling Source Dest retries) (some (awaited 3 2) x is)
              (record { bytes = called_again; seal = Some (seal_of 2); sent = (0, omega arith, refl); xid = refl; is_call = refl; no_callback = refl; fits = (refl, refl, (name, refl, refl, refl), refl) }),
        )
    sent (suc place) x is = absurd (cc)

takes_lawful : CallerLaws spelling Source Dest retried answered takes
takes_lawful =
    quiet Source Dest retried (λ place. None) (Some kept_answer) (Some (seal_of 2)) (λ place x is. absurd (cc)) (λ r learns place xid is. absurd (cc)) (λ place xid seal c is. absurd (cc))

dest_steps_lawful : (k : ℕ) → CallerLaws spelling Source Dest (wire.caller Dest k) (wire.caller Dest (suc k)) (wire.acts Dest k)
dest_steps_lawful zero = begins_lawful
dest_steps_lawful (suc zero) = rests Source Dest beginning (λ place xid seal c is. absurd (no_call place xid seal c is))
dest_steps_lawful (suc (suc zero)) = calls_lawful
dest_steps_lawful (suc (suc (suc zero))) = rests Source Dest mounted (call_in_slot 2 1)
dest_steps_lawful (suc (suc (suc (suc zero)))) = retries_lawful
dest_steps_lawful (suc (suc (suc (suc (suc zero))))) = rests Source Dest retried (call_in_slot 3 2)
dest_steps_lawful (suc (suc (suc (suc (suc (suc zero)))))) = takes_lawful
dest_steps_lawful (suc (suc (suc (suc (suc (suc (suc k))))))) = rests Source Dest answered (λ place xid seal c is. absurd (cc))

pub caller_steps : (e : End) → (e ≡ Source → ⊥) → (k : ℕ) → CallerLaws spelling Source e (wire.caller e k) (wire.caller e (suc k)) (wire.acts e k)
caller_steps Source out k = absurd (out refl)
caller_steps Dest out k = dest_steps_lawful k
caller_steps Client out k = rests Source Client unknown (λ place xid seal c is. absurd (cc))
