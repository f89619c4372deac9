-- A call is sealed under the first context of its name.
use Rattle.std.proofs.Common.{◌≡◌, ℕ, Bool, true, false, List, [], ◌∷◌, get_or, set, Option, Some, None, Result, Ok, Err, refl, ap, sym, ◌∙◌, arith}
use Rattle.std.specs.Prelude.{position, find, ◌==◌, nat_lt, IfOk}
use Rattle.std.proofs.lemmas.Grind.{common_steps}
use Rattle.std.proofs.lemmas.List.{set-get_or}
use Rattle.outcome.specs.declared.NoMemory.{NoMemory}
use Rattle.nfs_base.specs.ChangedLaws.{changed_by}
use Rattle.gss_ctx.specs.Calls.{Side}
use Rattle.gss_ctx.specs.Seals.{Mic}
use Rattle.session_client.specs.Asked.{called_if, called_under}
use Rattle.session_client.specs.declared.asked.Asked.{Asked}
use Rattle.session_client.specs.declared.sealing.SealedCall.{SealedCall}
use Rattle.mount.specs.Sending.{sealed_so, sealed_by}
use Rattle.mount.specs.State.{context_of}
use Rattle.mount.specs.declared.state.Context.{Context}

found_at : {X : Type 0} (test : X → Bool) (xs : List X) (i : ℕ) (d : X) → position test xs ≡ Some i → find test xs ≡ Some (get_or xs i d)
found_at test [] i d h = cc
found_at test (x ∷ xs) i d h = grind (arith, common_steps, found_at test xs)

found_none : {X : Type 0} (test : X → Bool) (xs : List X) → position test xs ≡ None → find test xs ≡ None
found_none test [] h = refl
found_none test (x ∷ xs) h = grind (arith, common_steps, found_none test xs)

-- without a call the context is as it was
none_same : (b : Bool) (mic : Mic) (side : Side) (xid : ℕ) (asked : Asked) → None ≡ (called_if b mic side xid asked).0 → (called_if b mic side xid asked).1 ≡ side
none_same true mic side xid asked e = absurd cc
none_same false mic side xid asked e = refl

-- a context that is as it was, put back
kept_at : (i : ℕ) (contexts : List Context) (x : Context) (new : Side) → x ≡ get_or contexts i x → new ≡ x.caller
    → set contexts i (record x { caller = new }) ≡ contexts
kept_at i contexts x new value same =
    ap (λ (s : Side). set contexts i (record x { caller = s })) same
    ∙ (ap (λ (y : Context). set contexts i y) value ∙ set-get_or contexts i x)

-- the context of a name is there
found : (name i : ℕ) (contexts : List Context) (x : Context) (r : Option ℕ)
    → r ≡ position (λ c. c.name == name) contexts → r ≡ Some i → x ≡ get_or contexts i x → context_of name contexts ≡ Some x
found name i contexts x r places is value =
    found_at (λ c. c.name == name) contexts i x (sym places ∙ is) ∙ ap (λ (c : Context). Some c) (sym value)

sealed_with : (mic : Mic) (name xid i : ℕ) (asked : Asked) (contexts : List Context) (x : Context) (told : Option SealedCall) (r : Option ℕ)
    → r ≡ position (λ c. c.name == name) contexts → r ≡ Some i → x ≡ get_or contexts i x
    → told ≡ (called_under mic x.caller xid asked).0
    → set contexts i (record x { caller = (called_under mic x.caller xid asked).1 }) ≡ sealed_so name told (called_under mic x.caller xid asked).1 contexts
sealed_with mic name xid i asked contexts x None r places is value e =
    kept_at i contexts x (called_under mic x.caller xid asked).1 value (none_same (nat_lt x.caller.next 2147483648) mic x.caller xid asked e)
sealed_with mic name xid i asked contexts x (Some call) r places is value e =
    changed_by (λ c. c.name == name) (λ c. record c { caller = (called_under mic x.caller xid asked).1 }) contexts r i x places is value

pub told_at : (mic : Mic) (name xid i : ℕ) (asked : Asked) (contexts : List Context) (x : Context) (out : Result (Option SealedCall) NoMemory) (r : Option ℕ)
    → r ≡ position (λ c. c.name == name) contexts → r ≡ Some i → x ≡ get_or contexts i x
    → IfOk out (λ told. told ≡ (called_under mic x.caller xid asked).0)
    → IfOk out (λ told. told ≡ (sealed_by mic name xid asked contexts).0)
told_at mic name xid i asked contexts x (Err e) r places is value h = tt
told_at mic name xid i asked contexts x (Ok told) r places is value h = rw (found name i contexts x r places is value) h

pub after_at : (mic : Mic) (name xid i : ℕ) (asked : Asked) (contexts : List Context) (x : Context) (new : Side) (out : Result (Option SealedCall) NoMemory) (r : Option ℕ)
    → r ≡ position (λ c. c.name == name) contexts → r ≡ Some i → x ≡ get_or contexts i x
    → IfOk out (λ told. told ≡ (called_under mic x.caller xid asked).0)
    → IfOk out (λ told. new ≡ (called_under mic x.caller xid asked).1)
    → IfOk out (λ told. set contexts i (record x { caller = new }) ≡ (sealed_by mic name xid asked contexts).1)
after_at mic name xid i asked contexts x new (Err e) r places is value h k = tt
after_at mic name xid i asked contexts x new (Ok told) r places is value h k =
    rw (found name i contexts x r places is value, k, ← h) (sealed_with mic name xid i asked contexts x told r places is value h)

-- where there is no context of the name, nothing is sealed
pub nowhere : (name : ℕ) (contexts : List Context) (r : Option ℕ)
    → r ≡ position (λ c. c.name == name) contexts → r ≡ None → context_of name contexts ≡ None
nowhere name contexts r places is = found_none (λ c. c.name == name) contexts (sym places ∙ is)
