-- How far the loops have come, and what one more step adds.
use Rattle.std.proofs.Common.{◌≡◌, ℕ, ◌+◌, ◌-◌, ◌<◌, ◌≤◌, List, [], ◌∷◌, ◌++◌, refl, append-nil, append_assoc, subst, length, take, drop, Result, Ok, Err, sym, ap, ◌∙◌, take-append-drop, length-drop, arith}
use Rattle.std.specs.Prelude.{OnErr}
use Rattle.std.specs.declared.option.Option.{Option}
use Rattle.std.specs.declared.option.Option.TheVariants.{None, Some}
use Rattle.std.specs.Io.KnownBytes.{Appends, Consumes}
use Rattle.std.proofs.KnownBytes.{Appends-trans, Appends-nil, Consumes-trans}
use Rattle.std.proofs.Math.Seq.{take-add}
use Rattle.std.proofs.lemmas.List.{take_rest, drop-drop}
use Rattle.streams.specs.Stream.{with_pieces, with_piece}
use Rattle.streams.specs.Sink.{OffersFrom, Offers}
use Rattle.streams.specs.Whole.{TakesFront}

-- the first `at` bytes were put
pub record HasPut (start now : Option (List ℕ)) (before faults : ℕ) (bytes : List ℕ) (at : ℕ) : Type 0 where
  pub within : at ≤ length bytes
  pub put : Appends start now (take at bytes)
  pub later : before ≤ faults

-- the text was taken
pub record HasTaken (start now : Option (List ℕ)) (before faults : ℕ) (text : List ℕ) : Type 0 where
  pub taken : Consumes start now text
  pub later : before ≤ faults

-- nothing was put yet
pub put_none : (start : Option (List ℕ)) (faults : ℕ) (bytes : List ℕ) → HasPut start start faults faults bytes 0
put_none start faults bytes = record { within = omega arith; put = Appends-nil start; later = omega arith }

-- the sink took n more bytes, from the front of the rest
pub put_more : (start old now : Option (List ℕ)) (before earlier faults : ℕ) (bytes : List ℕ) (at n : ℕ)
    → HasPut start old before earlier bytes at
    → n ≤ length (take (length bytes - at) (drop at bytes))
    → Appends old now (take n (take (length bytes - at) (drop at bytes)))
    → earlier ≤ faults → HasPut start now before faults bytes (at + n)
put_more start old now before earlier faults bytes at n has within put later =
    let inside : n ≤ length (drop at bytes) = rw take_rest at within in
    record {
      within = omega (arith, length-drop at bytes, has.within);
      put = rw take-add (Appends-trans _ _ _ _ _ has.put (rw take_rest at put));
      later = omega (arith, has.later);
    }

-- the source gave some more bytes, and no more is said
pub takes_front : {start old now : Option (List ℕ)} {before faults : ℕ} {text : List ℕ} (more : List ℕ)
    → HasTaken start old before faults text → Consumes old now more → TakesFront start now
takes_front {text = text} more has given =
    record { bytes = text ++ more; taken = Consumes-trans _ _ _ _ _ has.taken given }

-- the source gave the bytes that are now at the front of the buffer
pub given_of : (bytes told buf : List ℕ) (at n : ℕ) → told ≡ bytes
    → take n buf ≡ take n (take (length told - at) (drop at told))
    → drop at bytes ≡ take n buf ++ drop (at + n) bytes
given_of bytes told buf at n same copied =
    let given : take n buf ≡ take n (drop at bytes) = copied ∙ ap (take n) (take_rest told at) ∙ ap (λ l. take n (drop at l)) same in
    rw (given, ← drop-drop n at bytes) (sym (take-append-drop n (drop at bytes)))

pub on_err : {T E : Type 0} (result : Result T E) (P : Type 0) → P → OnErr result P
on_err (Ok value) P holds = tt
on_err (Err error) P holds = holds

-- the bytes up to this place were offered
abbrev pub OffersTo : List ℕ → ℕ → List (List ℕ) → ℕ → Type 0
OffersTo bytes place [] until = place ≡ until
OffersTo bytes place (piece ∷ pieces) until =
    (place < length bytes) × (piece ≡ drop place bytes) × (next : ℕ) × (place < next) × OffersTo bytes next pieces until

pub record HasOffered (old now : Option (List (List ℕ))) (bytes : List ℕ) (at : ℕ) : Type 0 where
  pub pieces : List (List ℕ)
  pub told : now ≡ with_pieces old pieces
  pub offered : OffersTo bytes 0 pieces at

pub offered_none : (old : Option (List (List ℕ))) (bytes : List ℕ) → HasOffered old old bytes 0
offered_none None bytes = record { pieces = []; told = refl; offered = refl }
offered_none (Some earlier) bytes = record { pieces = []; told = rw (append-nil earlier) refl; offered = refl }

offers_more : (bytes : List ℕ) (place : ℕ) (pieces : List (List ℕ)) (at next : ℕ) → OffersTo bytes place pieces at
    → at < length bytes → at < next → OffersTo bytes place (pieces ++ drop at bytes ∷ []) next
offers_more bytes place [] at next here inside later = rw here (inside, refl, next, later, refl)
offers_more bytes place (piece ∷ pieces) at next has inside later =
    (has.0, has.1, has.2, has.3, offers_more bytes has.2 pieces at next has.4 inside later)

told_more : (old middle now : Option (List (List ℕ))) (pieces : List (List ℕ)) (piece : List ℕ)
    → middle ≡ with_pieces old pieces → now ≡ with_piece middle piece → now ≡ with_pieces old (pieces ++ piece ∷ [])
told_more None middle now pieces piece is more = rw (more, is) refl
told_more (Some earlier) middle now pieces piece is more = rw (more, is) (ap Some (append_assoc earlier pieces (piece ∷ [])))

-- one more piece was offered, all that was left, and n bytes of it were taken
pub offered_more : {old middle now : Option (List (List ℕ))} {bytes piece : List ℕ} {at : ℕ} (n : ℕ)
    → HasOffered old middle bytes at → piece ≡ take (length bytes - at) (drop at bytes) → now ≡ with_piece middle piece
    → (0 < length piece → 0 < n) → at < length bytes → HasOffered old now bytes (at + n)
offered_more {old = old} {middle = middle} {now = now} {bytes = bytes} {piece = piece} {at = at} n has is more some inside =
    let rest : piece ≡ drop at bytes = is ∙ take_rest bytes at in
    let len : length piece ≡ length bytes - at = ap length rest ∙ length-drop at bytes in
    let later : 0 < n = some (omega (arith, len, inside)) in
    record {
      pieces = has.pieces ++ drop at bytes ∷ [];
      told = told_more old middle now has.pieces (drop at bytes) has.told (subst (λ p. now ≡ with_piece middle p) rest more);
      offered = offers_more bytes 0 has.pieces at (at + n) has.offered inside (omega (arith, later));
    }

offers_from : (bytes : List ℕ) (place : ℕ) (pieces : List (List ℕ)) (until : ℕ) → OffersTo bytes place pieces until → OffersFrom bytes place pieces
offers_from bytes place [] until has = tt
offers_from bytes place (piece ∷ pieces) until has = (has.0, has.1, has.2, has.3, offers_from bytes has.2 pieces until has.4)

some_to : (bytes : List ℕ) (pieces : List (List ℕ)) (until : ℕ) → OffersTo bytes 0 pieces until → 0 < until → 0 < length pieces
some_to bytes [] until has some = absurd (omega (arith, has, some))
some_to bytes (piece ∷ pieces) until has some = omega arith

-- bytes that were offered up to any place were offered as one piece
pub offers_whole : {old now : Option (List (List ℕ))} {bytes : List ℕ} {at : ℕ} → HasOffered old now bytes at
    → (0 < length bytes → 0 < at) → Offers old now bytes
offers_whole {bytes = bytes} {at = at} has far = record {
  pieces = has.pieces;
  told = has.told;
  whole = offers_from bytes 0 has.pieces at has.offered;
  some = λ some. some_to bytes has.pieces at has.offered (far some);
}
