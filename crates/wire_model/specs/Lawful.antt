-- A system whose machines obey their laws.
use Rattle.std.specs.Prelude.{◌≡◌, ℕ, suc, Some, List}
use Rattle.copy_model.specs.Volume.{formatted}
use Rattle.copy_model.specs.Effect.{after}
use Rattle.nfs_base.specs.declared.seal.End.TheVariants.{Source, Dest, Client}
use Rattle.nfs_base.specs.declared.seal.Seal.{Seal}
use Rattle.wire_model.specs.Spelling.{Spelling}
use Rattle.wire_model.specs.Meaning.{Meaning}
use Rattle.wire_model.specs.Wire.{Sends}
use Rattle.wire_model.specs.Copies.{bare_effect}
use Rattle.wire_model.specs.Told.{IsLawfulWire, TakesSimple}
use Rattle.wire_model.specs.System.{System, wire_of, dest_effect}
use Rattle.wire_model.specs.CopyLaws.{VolumeLaws, TellsRight, CopiesLaws, CopiesStart}
use Rattle.wire_model.specs.NameLaws.{NameLaws}
use Rattle.wire_model.specs.WordLaws.{WordLaws, WordStart}

-- Both wires obey their laws; the volumes start as they are formatted and go on by what the steps do; the source
-- tells what its volume holds; the destination's copies obey theirs.
pub record IsLawfulSystem (spell : Spelling) (meaning : Meaning) (s : System) : Type 0 where
  pub source_wire : IsLawfulWire spell (wire_of s Source)
  pub dest_wire : IsLawfulWire spell (wire_of s Dest)
  pub source_files : ℕ
  pub source_capacity : ℕ
  pub source_start : s.source 0 ≡ formatted source_files source_capacity
  pub source : (k : ℕ) → TakesSimple spell Source (s.acts Source k) → VolumeLaws (s.source k) (s.source (suc k)) (s.effect k)
  pub tells : (k : ℕ) (ops results : List ℕ) → (s.acts Source k).executed ≡ Some (record { ops = ops; results = results })
      → TellsRight meaning (s.source k) ops results
  pub dest_files : ℕ
  pub dest_capacity : ℕ
  pub dest_start : s.dest 0 ≡ formatted dest_files dest_capacity
  pub dest : (k : ℕ) → TakesSimple spell Dest (s.acts Dest k) → VolumeLaws (s.dest k) (s.dest (suc k)) (dest_effect s k)
  pub bare_start : s.bare 0 ≡ s.dest 0
  pub bare : (k : ℕ) → s.bare (suc k) ≡ after (s.bare k) (bare_effect (s.deed k))
  pub copies_start : CopiesStart s
  pub copies : (k : ℕ) → CopiesLaws spell meaning s k

-- What the client's word rests on besides: the source's opening is that of its volume, and it seals nothing for the
-- client; the destination's names and reports obey their laws, and so does the client for its word.
pub record IsTruthful (spell : Spelling) (meaning : Meaning) (s : System) : Type 0 where
  pub opening : (k : ℕ) → (s.server Source k).boot ≡ (s.source k).boot
  pub silent : (k : ℕ) (bytes : List ℕ) (seal : Seal) → Sends (s.acts Source k) bytes (Some seal) → seal.owner ≡ Client → ⊥
  pub names : (k : ℕ) → NameLaws spell meaning s k
  pub word_start : WordStart s
  pub word : (k : ℕ) → WordLaws spell meaning s k
