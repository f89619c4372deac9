-- COMPOUND and CB_COMPOUND as they are read and spelled (RFC 8881 sections 16.2 and 20.2).
use Rattle.std.specs.Prelude.{ℕ, ◌<◌, ◌≤◌, ◌^◌, List, ◌++◌, length, Result, Ok, Err}
use Rattle.std.proofs.Common.{lit<}
use Rattle.wire_xdr.specs.declared.form.bad.BadXdr.{BadXdr}
use Rattle.wire_xdr.specs.Cursor.{Cursor, ◌>>=◌}
use Rattle.wire_xdr.specs.Form.{Passes, Form}
use Rattle.wire_xdr.specs.Words.{word_bytes, opaque_bytes}
use Rattle.wire_xdr.specs.Forms.{word, opaque, both}
use Rattle.wire_xdr.specs.Parts.{list_spell, list_Fits}
use Rattle.nfs_base.specs.declared.limits.TheConstants.{TEXT_LIMIT}
use Rattle.nfs_compound.specs.declared.limits.TheConstants.{NO_LIMIT}
use Rattle.nfs_compound.specs.declared.compound.Compound.{Compound}
use Rattle.nfs_compound.specs.declared.cb_compound.CbCompound.{CbCompound}
use Rattle.nfs_compound.specs.Body.{one_at, body_at, IsBody}
use Rattle.wire_xdr.specs.All.{start}
use Rattle.nfs_compound.specs.Ops.{op_class, op_arg, op_is_cut, operation}
use Rattle.nfs_compound.specs.Callbacks.{cb_class, cb_arg, cb_is_cut, cb_operation}

-- ---- COMPOUND: a tag, a minor version, and operations behind their count

abbrev pub compound_head : Form (List ℕ × (ℕ × ℕ))
compound_head = both (opaque TEXT_LIMIT (lit< tt)) (both word word)

unfoldable pub compound_at : Cursor → Result Compound ℕ
compound_at c = do
  head ← compound_head.read c
  body ← body_at (one_at op_class op_arg) op_is_cut head.0.1.1 0 head.1
  Ok (record { tag = head.0.0; minor = head.0.1.0; count = head.0.1.1; ops = body.0; tail = body.1 })

-- what the bytes are as a COMPOUND, or the place that is refused
abbrev pub compound_of : List ℕ → Result Compound ℕ
compound_of bytes = compound_at (start bytes)

-- the spelling of a compound that is whole
unfoldable pub compound_bytes : Compound → List ℕ
compound_bytes c = opaque_bytes c.tag ++ (word_bytes c.minor ++ list_spell operation c.ops)

pub record CompoundFits (c : Compound) : Type 0 where
  pub tag : length c.tag ≤ TEXT_LIMIT
  pub minor : c.minor < 2 ^ 32
  pub ops : list_Fits NO_LIMIT operation c.ops

-- The bytes are this compound: a tag, a minor version and a number are spelled, and then the operations, up to the
-- tail.
pub record IsCompound (c : Compound) (bytes : List ℕ) : Type 0 where
  pub behind : Cursor
  pub head : Passes (start bytes) (compound_head.spell (c.tag, (c.minor, c.count))) behind
  pub body : IsBody operation (one_at op_class op_arg) op_is_cut c.count 0 behind c.ops c.tail
  pub count : c.count < 2 ^ 32
  pub fits : CompoundFits c

abbrev pub IsFound : List ℕ → Result Compound BadXdr → Type 0
IsFound bytes (Ok c) = IsCompound c bytes
IsFound bytes (Err bad) = Unit {0}

-- ---- CB_COMPOUND: a tag, a minor version, a callback_ident, and operations behind their count

abbrev pub cb_compound_head : Form (List ℕ × (ℕ × (ℕ × ℕ)))
cb_compound_head = both (opaque TEXT_LIMIT (lit< tt)) (both word (both word word))

unfoldable pub cb_compound_at : Cursor → Result CbCompound ℕ
cb_compound_at c = do
  head ← cb_compound_head.read c
  body ← body_at (one_at cb_class cb_arg) cb_is_cut head.0.1.1.1 0 head.1
  Ok (record { tag = head.0.0; minor = head.0.1.0; ident = head.0.1.1.0; count = head.0.1.1.1; ops = body.0; tail = body.1 })

-- what the bytes are as a CB_COMPOUND, or the place that is refused
abbrev pub cb_compound_of : List ℕ → Result CbCompound ℕ
cb_compound_of bytes = cb_compound_at (start bytes)

unfoldable pub cb_compound_bytes : CbCompound → List ℕ
cb_compound_bytes c = opaque_bytes c.tag ++ (word_bytes c.minor ++ (word_bytes c.ident ++ list_spell cb_operation c.ops))

pub record CbCompoundFits (c : CbCompound) : Type 0 where
  pub tag : length c.tag ≤ TEXT_LIMIT
  pub minor : c.minor < 2 ^ 32
  pub ident : c.ident < 2 ^ 32
  pub ops : list_Fits NO_LIMIT cb_operation c.ops

pub record IsCbCompound (c : CbCompound) (bytes : List ℕ) : Type 0 where
  pub behind : Cursor
  pub head : Passes (start bytes) (cb_compound_head.spell (c.tag, (c.minor, (c.ident, c.count)))) behind
  pub body : IsBody cb_operation (one_at cb_class cb_arg) cb_is_cut c.count 0 behind c.ops c.tail
  pub count : c.count < 2 ^ 32
  pub fits : CbCompoundFits c

abbrev pub IsCbFound : List ℕ → Result CbCompound BadXdr → Type 0
IsCbFound bytes (Ok c) = IsCbCompound c bytes
IsCbFound bytes (Err bad) = Unit {0}
