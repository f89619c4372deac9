-- Where all records of a list were sent as they are listed, what passes the check over the list is right: another end sealed
-- it so, and a reply in a step that took the call that it answers, after that was sent.
use Rattle.std.proofs.Common.{◌≡◌, ⊎_elim, ℕ, suc, ◌==◌, ◌<◌, Bool, true, false, not, ◌&&◌, if◌then◌else◌, nat_lt, bytes_eq, List, [], ◌∷◌, Option, None, Some, refl, sym, ap, subst, ◌∙◌}
use Rattle.std.proofs.lemmas.Bool.{and_parts, or_cases, cases_Bool, eqb-true, ltb-true, not-true}
use Rattle.std.proofs.lemmas.Slice.Eq.{bytes_eq-Decides}
use Rattle.std.specs.List.{AllByRecursion, list_any}
use Rattle.nfs_base.specs.declared.seal.End.{End}
use Rattle.nfs_base.specs.declared.seal.End.TheVariants.{Source, Dest, Client}
use Rattle.nfs_base.specs.declared.seal.Seal.{Seal}
use Rattle.wire_model.specs.Check.{AnswersCall, IsRight, WasSealed}
use Rattle.wire_model.specs.Spelling.{Spelling}
use Rattle.wire_model.specs.Wire.{Acts, Sends}
use Rattle.wire_machine.specs.Check.{answers, answers_awaited, has_seal, is_awaited, is_sealed, same_end, same_seal, took_bytes}
use Rattle.wire_machine.specs.World.{Posted}
use Rattle.run_checks.specs.Listed.{Passes, WasSent, WereSent, reading_of}

-- ---- equality of ends, seals and bytes

same_end_is : (a b : End) → same_end a b ≡ true → a ≡ b
same_end_is Source Source same = refl
same_end_is Dest Dest same = refl
same_end_is Client Client same = refl
same_end_is _ _ same = absurd (cc)

same_end_self : (a : End) → same_end a a ≡ true
same_end_self Source = refl
same_end_self Dest = refl
same_end_self Client = refl

other_end : (a b : End) → not (same_end a b) ≡ true → a ≡ b → ⊥
other_end a b other same =
    let apart : same_end a b ≡ false = not-true (same_end a b) other in
    let alike : same_end a b ≡ true = subst (λ o. same_end a o ≡ true) same (same_end_self a) in
    absurd (cc)

abbrev seal_with : End → (boot number seq : ℕ) → Seal
seal_with owner boot number seq = record { owner = owner; boot = boot; number = number; seq = seq }

same_seal_is : (a b : Seal) → same_seal a b ≡ true → a ≡ b
same_seal_is a b same =
    let owner = and_parts (same_end a.owner b.owner) ((a.boot == b.boot) && ((a.number == b.number) && (a.seq == b.seq))) same in
    let boot = and_parts (a.boot == b.boot) ((a.number == b.number) && (a.seq == b.seq)) owner.1 in
    let last = and_parts (a.number == b.number) (a.seq == b.seq) boot.1 in
    ap (λ o. seal_with o a.boot a.number a.seq) (same_end_is a.owner b.owner owner.0)
    ∙ ap (λ n. seal_with b.owner n a.number a.seq) (eqb-true a.boot b.boot boot.0)
    ∙ ap (λ n. seal_with b.owner b.boot n a.seq) (eqb-true a.number b.number last.0)
    ∙ ap (λ n. seal_with b.owner b.boot b.number n) (eqb-true a.seq b.seq last.1)

has_seal_is : (seal : Seal) (o : Option Seal) → has_seal seal o ≡ true → o ≡ Some seal
has_seal_is seal None has = absurd (cc)
has_seal_is seal (Some other) has = ap (λ s. Some s) (sym (same_seal_is seal other has))

took_is : (bytes : List ℕ) (o : Option (List ℕ)) → took_bytes bytes o ≡ true → o ≡ Some bytes
took_is bytes None took = absurd (cc)
took_is bytes (Some other) took = ap (λ b. Some b) ((bytes_eq-Decides other bytes).0 took)

-- ---- what is found in a list

found : {X : Type 0} (P : X → Type 0) (p : X → Bool) (xs : List X) → AllByRecursion P xs → list_any p xs ≡ true → (x : X) × P x × (p x ≡ true)
found P p [] all any = absurd (cc)
found P p (x ∷ xs) all any =
    ⊎_elim (λ (here : p x ≡ true). (x, all.0, here)) (λ (later : list_any p xs ≡ true). found P p xs all.1 later) (or_cases (p x) (list_any p xs) any)

if_true : (b x y : Bool) → (if b then x else y) ≡ true → b ≡ true → x ≡ true
if_true true x y is so = is
if_true false x y is so = absurd (cc)

if_false : (b x y : Bool) → (if b then x else y) ≡ true → b ≡ false → y ≡ true
if_false true x y is so = absurd (cc)
if_false false x y is so = is

-- ---- records

-- another end sealed these bytes so
record SealsSo (e : End) (seal : Seal) (bytes : List ℕ) (r : Posted) : Type 0 where
  other : r.from ≡ e → ⊥
  seal_is : r.seal ≡ Some seal
  bytes_are : r.bytes ≡ bytes

abbrev seals_so : (e : End) (seal : Seal) (bytes : List ℕ) (r : Posted) → is_sealed e seal bytes r ≡ true → SealsSo e seal bytes r
seals_so e seal bytes r is =
    let from = and_parts (not (same_end r.from e)) (has_seal seal r.seal && bytes_eq r.bytes bytes) is in
    let rest = and_parts (has_seal seal r.seal) (bytes_eq r.bytes bytes) from.1 in
    record { other = other_end r.from e from.0; seal_is = has_seal_is seal r.seal rest.0; bytes_are = (bytes_eq-Decides r.bytes bytes).0 rest.1 }

-- the end sent this call in its present opening, with the reply's xid
record IsCallOf (spell : Spelling) (e : End) (opening : ℕ) (reply : List ℕ) (r : Posted) : Type 0 where
  own : r.from ≡ e
  present : r.opening ≡ opening
  is_call : spell.is_reply r.bytes ≡ false
  xid : spell.xid_of r.bytes ≡ spell.xid_of reply

abbrev call_of : (spell : Spelling) (e : End) (opening : ℕ) (reply : List ℕ) (r : Posted) → is_awaited (reading_of spell) e opening reply r ≡ true
    → IsCallOf spell e opening reply r
call_of spell e opening reply r is =
    let from = and_parts (same_end r.from e) ((r.opening == opening) && (not (spell.is_reply r.bytes) && (spell.xid_of r.bytes == spell.xid_of reply))) is in
    let present = and_parts (r.opening == opening) (not (spell.is_reply r.bytes) && (spell.xid_of r.bytes == spell.xid_of reply)) from.1 in
    let rest = and_parts (not (spell.is_reply r.bytes)) (spell.xid_of r.bytes == spell.xid_of reply) present.1 in
    record {
      own = same_end_is r.from e from.0;
      present = eqb-true r.opening opening present.0;
      is_call = not-true (spell.is_reply r.bytes) rest.0;
      xid = eqb-true (spell.xid_of r.bytes) (spell.xid_of reply) rest.1;
    }

-- an answer was sent in a later step, which took this call
record TookCall (answer call : Posted) : Type 0 where
  in_order : call.step < answer.step
  took : answer.took ≡ Some call.bytes

abbrev took_call : (answer call : Posted) → answers answer call ≡ true → TookCall answer call
took_call answer call is =
    let both = and_parts (nat_lt call.step answer.step) (took_bytes call.bytes answer.took) is in
    record { in_order = ltb-true call.step answer.step both.0; took = took_is call.bytes answer.took both.1 }

-- ---- the check

module _ (spell : Spelling) (acts : End → ℕ → Acts) (boot : End → ℕ → ℕ) (k : ℕ) (e : End) (log : List Posted) (were : WereSent acts boot k log) where
  sealed_as : (seal : Seal) (bytes : List ℕ) (r : Posted) → WasSent acts boot k r → SealsSo e seal bytes r → Sends (acts r.from r.step) bytes (Some seal)
  sealed_as seal bytes r was so =
      subst (λ s. Sends (acts r.from r.step) bytes s) so.seal_is (subst (λ b. Sends (acts r.from r.step) b r.seal) so.bytes_are was.sent)

  was_sealed : (seal : Seal) (bytes : List ℕ) (r : Posted) → WasSent acts boot k r → is_sealed e seal bytes r ≡ true → WasSealed acts k e seal bytes
  was_sealed seal bytes r was is =
      let so = seals_so e seal bytes r is in
      record { by = r.from; other = so.other; step = r.step; before = was.before; sealed = sealed_as seal bytes r was so }

  -- as a reply passes, and as any record does
  abbrev passes_reply : Seal → List ℕ → Posted → Bool
  passes_reply seal bytes r = is_sealed e seal bytes r && answers_awaited (reading_of spell) e (boot e k) bytes log r

  abbrev any_reply : Seal → List ℕ → Bool
  any_reply seal bytes = list_any (passes_reply seal bytes) log

  abbrev any_sealed : Seal → List ℕ → Bool
  any_sealed seal bytes = list_any (is_sealed e seal bytes) log

  sealed_reply : (seal : Seal) (bytes : List ℕ) → any_reply seal bytes ≡ true → WasSealed acts k e seal bytes
  sealed_reply seal bytes any =
      let f = found (WasSent acts boot k) (passes_reply seal bytes) log were any in
      was_sealed seal bytes f.0 f.1 (and_parts (is_sealed e seal bytes f.0) (answers_awaited (reading_of spell) e (boot e k) bytes log f.0) f.2).0

  sealed_any : (seal : Seal) (bytes : List ℕ) → any_sealed seal bytes ≡ true → WasSealed acts k e seal bytes
  sealed_any seal bytes any =
      let f = found (WasSent acts boot k) (is_sealed e seal bytes) log were any in
      was_sealed seal bytes f.0 f.1 f.2

  answered_by : (seal : Seal) (reply : List ℕ) (r c : Posted) → WasSent acts boot k r → WasSent acts boot k c → SealsSo e seal reply r
      → IsCallOf spell e (boot e k) reply c → TookCall r c → AnswersCall spell acts boot k e seal reply
  answered_by seal reply r c was called so call took =
      record {
        by = r.from;
        other = so.other;
        step = r.step;
        before = was.before;
        sealed = sealed_as seal reply r was so;
        call = c.bytes;
        took = was.took ∙ took.took;
        sent = c.step;
        in_order = took.in_order;
        seal_sent = c.seal;
        sends = subst (λ o. Sends (acts o c.step) c.bytes c.seal) call.own called.sent;
        is_call = call.is_call;
        xid = call.xid;
        opening = subst (λ o. boot o (suc c.step) ≡ boot e k) call.own (called.opening ∙ call.present);
      }

  answered : (seal : Seal) (reply : List ℕ) → any_reply seal reply ≡ true → AnswersCall spell acts boot k e seal reply
  answered seal reply any =
      let read = reading_of spell in
      let f = found (WasSent acts boot k) (passes_reply seal reply) log were any in
      let both = and_parts (is_sealed e seal reply f.0) (answers_awaited read e (boot e k) reply log f.0) f.2 in
      let g = found (WasSent acts boot k) (λ c. is_awaited read e (boot e k) reply c && answers f.0 c) log were both.1 in
      let call = and_parts (is_awaited read e (boot e k) reply g.0) (answers f.0 g.0) g.2 in
      answered_by seal reply f.0 g.0 f.1 g.1 (seals_so e seal reply f.0 both.0) (call_of spell e (boot e k) reply g.0 call.0) (took_call f.0 g.0 call.1)

  pub right_by : Passes spell acts boot k e log → IsRight spell acts boot k e
  right_by passes =
      record {
        sealed = λ seal bytes accepted took.
            let is = passes seal bytes accepted took in
            ⊎_elim
            (λ (so : spell.is_reply bytes ≡ true). sealed_reply seal bytes (if_true (spell.is_reply bytes) (any_reply seal bytes) (any_sealed seal bytes) is so))
            (λ (so : spell.is_reply bytes ≡ false). sealed_any seal bytes (if_false (spell.is_reply bytes) (any_reply seal bytes) (any_sealed seal bytes) is so))
            (cases_Bool (spell.is_reply bytes));
        answers = λ seal reply accepted took so.
            answered seal reply (if_true (spell.is_reply reply) (any_reply seal reply) (any_sealed seal reply) (passes seal reply accepted took) so);
      }
