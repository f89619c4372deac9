-- A body: operations behind their count, read from left to right up to the first that can't be read or isn't
-- served (RFC 8881 sections 16.2 and 20.2).
use Rattle.std.specs.Prelude.{◌≡◌, ℕ, zero, suc, ◌+◌, ◌==◌, length, Bool, if◌then◌else◌, MatchBool, List, [], ◌∷◌, ◌++◌, Result, Ok, Err}
use Rattle.outcome.specs.declared.memory.NoMemory.{NoMemory}
use Rattle.wire_xdr.specs.Cursor.{Cursor, ◌>>=◌}
use Rattle.wire_xdr.specs.Form.{Passes, Form}
use Rattle.wire_xdr.specs.WordReads.{word_read}
use Rattle.file_ops.specs.declared.operation.TheConstants.{OP_ILLEGAL}
use Rattle.nfs_compound.specs.declared.tail.Tail.{Tail}
use Rattle.nfs_compound.specs.declared.tail.Tail.TheVariants.{Whole, Unreadable, Unsupported, Illegal}
use Rattle.nfs_compound.specs.declared.operation.Class.{Class}
use Rattle.nfs_compound.specs.declared.operation.Class.TheVariants as class

-- ---- one operation: its number, and what that number says stands behind it

abbrev pub or_unreadable : {X : Type 0} → ℕ → ℕ → Result X ℕ → Result X Tail
or_unreadable place op (Ok x) = Ok x
or_unreadable place op (Err at) = Err (Unreadable place op at)

abbrev pub by_class : {A : Type 0} → Class → (ℕ → Form A) → ℕ → ℕ → Cursor → Result (A × Cursor) Tail
by_class class.Listed form place op c = or_unreadable place op ((form op).read c)
by_class class.Unsupported form place op c = Err (Unsupported place op)
by_class class.Illegal form place op c = Err (Illegal place op)

-- an operation whose number is cut short is told under the number of ILLEGAL
abbrev pub behind_number : {A : Type 0} → (ℕ → Class) → (ℕ → Form A) → ℕ → Result (ℕ × Cursor) ℕ → Result (A × Cursor) Tail
behind_number class form place (Ok op) = by_class (class op.0) form place op.0 op.1
behind_number class form place (Err at) = Err (Unreadable place OP_ILLEGAL at)

-- the operation at a place of the body
unfoldable pub one_at : {A : Type 0} → (ℕ → Class) → (ℕ → Form A) → ℕ → Cursor → Result (A × Cursor) Tail
one_at class form place c = behind_number class form place (word_read c)

-- ---- several operations

-- these operations, and then those that are told
abbrev pub with_front : {A : Type 0} → List A → Result (List A × Tail) ℕ → Result (List A × Tail) ℕ
with_front front told = do
  body ← told
  Ok (front ++ body.0, body.1)

-- the end of the bytes; where some follow, the place where they begin is refused
abbrev pub end_at : {A : Type 0} → List ℕ → ℕ → Result (List A × Tail) ℕ
end_at rest at = if length rest == 0 then Ok ([], Whole) else Err at

-- behind an operation at which the reading is cut nothing is looked at
abbrev pub after_one : {A : Type 0} → (A → Bool) → (Cursor → Result (List A × Tail) ℕ) → Result (A × Cursor) Tail → Result (List A × Tail) ℕ
after_one is_cut more (Ok x) = if is_cut x.0 then Ok (x.0 ∷ [], Whole) else with_front (x.0 ∷ []) (more x.1)
after_one is_cut more (Err tail) = Ok ([], tail)

-- So many operations, of which the first stands at a place. `one` says how an operation is read.
unfoldable pub body_at : {A : Type 0} → (ℕ → Cursor → Result (A × Cursor) Tail) → (A → Bool) → ℕ → ℕ → Cursor → Result (List A × Tail) ℕ
body_at one is_cut zero place c = end_at c.rest c.at
body_at one is_cut (suc n) place c = after_one is_cut (λ d. body_at one is_cut n (place + 1) d) (one place c)

-- ---- the same, told by the spelling of operations

-- The bytes from a cursor on are these operations, of so many, the first of which stands at a place. Each is
-- spelled, and the next one follows, unless nothing is looked at behind it. Where they end, all are there and no
-- byte follows, or the next one can't be read or isn't served, as the tail says.
abbrev pub IsBody : {A : Type 0} → Form A → (ℕ → Cursor → Result (A × Cursor) Tail) → (A → Bool) → ℕ → ℕ → Cursor → List A → Tail → Type 0
IsBody item one is_cut zero place c [] tail = (tail ≡ Whole) × (c.rest ≡ [])
IsBody item one is_cut zero place c (v ∷ vs) tail = ⊥
IsBody item one is_cut (suc n) place c [] tail = one place c ≡ Err tail
IsBody item one is_cut (suc n) place c (v ∷ vs) tail =
    (after : Cursor) × Passes c (item.spell v) after × item.Fits v
    × MatchBool (is_cut v) ((vs ≡ []) × (tail ≡ Whole)) (IsBody item one is_cut n (place + 1) after vs tail)

-- ---- what a call answers: what is told, unless memory ran out

abbrev pub TakesOne : {A : Type 0} → Result (Result A Tail) NoMemory → Cursor → Result (A × Cursor) Tail → Type 0
TakesOne (Ok (Ok v)) new told = told ≡ Ok (v, new)
TakesOne (Ok (Err tail)) new told = told ≡ Err tail
TakesOne (Err e) new told = Unit {0}
