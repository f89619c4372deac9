-- What a call that reads a value of a form answers.
use Rattle.std.specs.Prelude.{◌≡◌, ℕ, List, ◌++◌, Result, Ok, Err}
use Rattle.outcome.specs.declared.memory.NoMemory.{NoMemory}
use Rattle.wire_xdr.specs.declared.form.bad.BadXdr.{BadXdr}
use Rattle.wire_xdr.specs.declared.form.bad.ReadError.{ReadError}
use Rattle.wire_xdr.specs.declared.form.bad.ReadError.TheVariants.{Memory, Bad}
use Rattle.wire_xdr.specs.Cursor.{Cursor}
use Rattle.wire_xdr.specs.Form.{Passes, Form}

-- Within a value: what is told is answered, unless memory ran out. After an error the reader may stand
-- anywhere.
abbrev pub Fails : {A : Type 0} → ReadError → Result A ℕ → Type 0
Fails Memory told = Unit {0}
Fails (Bad bad) told = told ≡ Err bad.at

abbrev pub Reads : {A : Type 0} → Result A ReadError → Cursor → Result (A × Cursor) ℕ → Type 0
Reads (Ok v) new told = told ≡ Ok (v, new)
Reads (Err e) new told = Fails e told

-- Of a whole value: what a read answered is what reading from left to right gives, and after a refusal
-- and without memory the reader stands where it stood.
abbrev pub IsExact : {A : Type 0} → Form A → Result (Result A BadXdr) NoMemory → Cursor → Cursor → Type 0
IsExact form (Ok (Ok v)) old new = form.read old ≡ Ok (v, new)
IsExact form (Ok (Err bad)) old new = (form.read old ≡ Err bad.at) × (new ≡ old)
IsExact form (Err e) old new = new ≡ old

-- what was read has a spelling, and the bytes passed are that spelling
abbrev pub IsFound : {A : Type 0} → Form A → Result (Result A BadXdr) NoMemory → Cursor → Cursor → Type 0
IsFound form (Ok (Ok v)) old new = Passes old (form.spell v) new × form.Fits v
IsFound form (Ok (Err bad)) old new = Unit {0}
IsFound form (Err e) old new = Unit {0}

-- the answer was this value, with this rest behind it, unless memory ran out
abbrev pub Answers : {A : Type 0} → Result (Result A BadXdr) NoMemory → A → Cursor → List ℕ → Type 0
Answers (Ok r) v new rest = (r ≡ Ok v) × (new.rest ≡ rest)
Answers (Err e) v new rest = Unit {0}

pub record IsRead {A : Type 0} (form : Form A) (result : Result (Result A BadXdr) NoMemory) (old new : Cursor) : Type 0 where
  pub exact : IsExact form result old new
  pub found : IsFound form result old new
  -- where the bytes begin with the spelling of a value, that value is read
  pub only : (v : A) (rest : List ℕ) → form.Fits v → old.rest ≡ form.spell v ++ rest → Answers result v new rest

-- the value that was read is of that number
abbrev pub HasNumber : {A : Type 0} → (A → ℕ) → ℕ → Result (Result A BadXdr) NoMemory → Type 0
HasNumber number_of n (Ok (Ok v)) = number_of v ≡ n
HasNumber number_of n (Ok (Err bad)) = Unit {0}
HasNumber number_of n (Err e) = Unit {0}
