-- What a call answers that reads all of the bytes.
use Rattle.std.specs.Prelude.{◌≡◌, ℕ, Result, Ok, Err}
use Rattle.wire_xdr.specs.declared.form.bad.BadXdr.{BadXdr}
use Rattle.wire_xdr.specs.declared.form.bad.ReadError.{ReadError}
use Rattle.wire_xdr.specs.Reads.{Fails}

-- within a value: what is told is answered, unless memory ran out
abbrev pub IsTold : {A : Type 0} → Result A ReadError → Result A ℕ → Type 0
IsTold (Ok v) told = told ≡ Ok v
IsTold (Err e) told = Fails e told

-- what was read, or the place that was refused, is what is told
abbrev pub Answers : {A : Type 0} → Result A ℕ → Result A BadXdr → Type 0
Answers told (Ok v) = told ≡ Ok v
Answers told (Err bad) = told ≡ Err bad.at
