-- What reading the head of a message answers, and where its body begins (RFC 5531 section 9).
use Rattle.std.specs.Prelude.{◌≡◌, ℕ, ◌==◌, Option, Some, None, List, [], ◌∷◌, ◌++◌, length, drop, Result, Ok, Err, IfOk, if◌then◌else◌}
use Rattle.std.specs.Int.{w32, from_be_bytes}
use Rattle.wire_xdr.specs.declared.form.bad.BadXdr.{BadXdr}
use Rattle.wire_xdr.specs.Cursor.{Cursor}
use Rattle.wire_xdr.specs.Form.{Form, Spells}
use Rattle.rpc_msg.specs.declared.messages.RpcFault.{RpcFault}
use Rattle.rpc_msg.specs.declared.messages.RpcFault.TheVariants as faults

-- a reader at the first of the bytes
abbrev pub first : List ℕ → Cursor
first bytes = record { at = 0; rest = bytes }

-- the message type: the second word
abbrev pub kind_of : List ℕ → Option ℕ
kind_of (w ∷ x ∷ y ∷ z ∷ a ∷ b ∷ c ∷ d ∷ bytes) = Some (from_be_bytes w32 (a ∷ b ∷ c ∷ d ∷ []))
kind_of _ = None

-- the head and the place where its body begins, or the place that is refused
abbrev pub behind : {A : Type 0} → Result (A × Cursor) ℕ → Result (A × ℕ) RpcFault
behind (Ok read) = Ok (read.0, read.1.at)
behind (Err at) = Err (faults.BadXdr at)

-- a message of the other type isn't read
abbrev pub unless_other : {A : Type 0} → ℕ → Option ℕ → Result (A × ℕ) RpcFault → Result (A × ℕ) RpcFault
unless_other other None told = told
unless_other other (Some kind) told = if kind == other then Err (faults.OtherKind kind) else told

abbrev pub head_told : {A : Type 0} → Form A → ℕ → List ℕ → Result (A × ℕ) RpcFault
head_told form other bytes = unless_other other (kind_of bytes) (behind (form.read (first bytes)))

-- The bytes are the spelling of this head and then a body, which begins at this place.
pub record IsHead {A : Type 0} (form : Form A) (bytes : List ℕ) (head : A) (at : ℕ) : Type 0 where
  pub fits : form.Fits head
  pub spelled : bytes ≡ form.spell head ++ drop at bytes
  pub by : at ≡ length (form.spell head)

-- What is answered for the head of a message, where `other` is the type of other messages.
pub record ReadsHead {A : Type 0} (form : Form A) (other : ℕ) (bytes : List ℕ) (told : Result (A × ℕ) RpcFault) : Type 0 where
  pub exact : told ≡ head_told form other bytes
  pub found : IfOk told (λ head. IsHead form bytes head.0 head.1)
  -- where the bytes begin with the spelling of a head, that head is read
  pub only : (head : A) (body : List ℕ) → form.Fits head → bytes ≡ form.spell head ++ body → told ≡ Ok (head, length (form.spell head))

-- a value, where nothing stands behind it; else the place of what does
abbrev pub nothing_behind : {A : Type 0} → A → ℕ → List ℕ → Result A BadXdr
nothing_behind v at [] = Ok v
nothing_behind v at (byte ∷ bytes) = Err (record { at = at })

abbrev pub whole : {A : Type 0} → Result (A × Cursor) ℕ → Result A BadXdr
whole (Ok read) = nothing_behind read.0 read.1.at read.1.rest
whole (Err at) = Err (record { at = at })

-- What is answered for bytes that are to spell a value and nothing more.
pub record ReadsWhole {A : Type 0} (form : Form A) (bytes : List ℕ) (told : Result A BadXdr) : Type 0 where
  pub exact : told ≡ whole (form.read (first bytes))
  pub found : IfOk told (λ v. Spells form v bytes)
  pub only : (v : A) → Spells form v bytes → told ≡ Ok v
