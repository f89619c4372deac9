-- The value that all of some bytes spell: nothing stands behind its spelling.
use Rattle.std.specs.Prelude.{◌≡◌, ◌↔◌, ℕ, ◌≤◌, List, [], ◌∷◌, length, Option, Result, Ok, Err, IfOk, IfErr}
use Rattle.std.specs.Result.{result_ok}
use Rattle.wire_xdr.specs.declared.form.bad.BadXdr.{BadXdr}
use Rattle.wire_xdr.specs.Cursor.{Cursor, IsBytes}
use Rattle.wire_xdr.specs.Form.{Form, Spells}

-- before the first byte
abbrev pub start : List ℕ → Cursor
start bytes = record { at = 0; rest = bytes }

-- the value, where nothing stands behind it; else the place of what does
abbrev pub nothing_behind : {A : Type 0} → A → ℕ → List ℕ → Result A BadXdr
nothing_behind v at [] = Ok v
nothing_behind v at (byte ∷ bytes) = Err (record { at = at })

abbrev pub closed : {A : Type 0} → Result (A × Cursor) ℕ → Result A BadXdr
closed (Ok read) = nothing_behind read.0 read.1.at read.1.rest
closed (Err at) = Err (record { at = at })

-- what reading all of the bytes from left to right gives
unfoldable pub all_of : {A : Type 0} → Form A → List ℕ → Result A BadXdr
all_of form bytes = closed (form.read (start bytes))

-- the value that all of the bytes spell, where they spell one
abbrev pub value_of : {A : Type 0} → Form A → List ℕ → Option A
value_of form bytes = result_ok (all_of form bytes)

-- What is answered for bytes that are to spell a value and nothing more.
pub record ReadsAll {A : Type 0} (form : Form A) (bytes : List ℕ) (told : Result A BadXdr) : Type 0 where
  pub exact : told ≡ all_of form bytes
  pub found : IfOk told (λ v. Spells form v bytes)
  pub only : (v : A) → Spells form v bytes → told ≡ Ok v
  -- a refusal is at a byte, or behind the last one
  pub within : IfErr told (λ bad. bad.at ≤ length bytes)

-- It is the value exactly where the bytes are its spelling.
abbrev pub IsAllSpelled : {A : Type 0} → Form A → Type 0
IsAllSpelled {A} form = (v : A) (bytes : List ℕ) → IsBytes bytes → (all_of form bytes ≡ Ok v) ↔ Spells form v bytes
