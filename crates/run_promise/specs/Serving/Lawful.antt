-- What the source owes in a system: the parts of `wire_model`'s `IsLawfulSystem` and `IsTruthful` that are its own.
use Rattle.std.specs.Prelude.{◌≡◌, ℕ, suc, true, List, Option, Some}
use Rattle.copy_model.specs.Effect.{after}
use Rattle.copy_model.specs.Volume.{formatted}
use Rattle.nfs_base.specs.declared.seal.End.TheVariants.{Client, Dest, Source}
use Rattle.nfs_base.specs.declared.seal.Seal.{Seal}
use Rattle.wire_model.specs.CallerLaws.{CallerLaws, CallerStart}
use Rattle.wire_model.specs.Copies.{bare_effect}
use Rattle.wire_model.specs.CopyLaws.{TellsRight, VolumeLaws}
use Rattle.wire_model.specs.Meaning.{Meaning}
use Rattle.wire_model.specs.ServerLaws.{ServerLaws, ServerStart}
use Rattle.wire_model.specs.Spelling.{Spelling}
use Rattle.wire_model.specs.System.{System}
use Rattle.wire_model.specs.Told.{TakesSimple}
use Rattle.wire_model.specs.Wire.{Acts, Sends}

-- each record that is sent in the step is a reply
abbrev pub SendsReplies : Spelling → Acts → Type 0
SendsReplies spell a = (bytes : List ℕ) (seal : Option Seal) → Sends a bytes seal → spell.is_reply bytes ≡ true

-- It obeys the laws of a server; its volume starts as it is formatted and goes on by what its steps do; what it tells is right of
-- its volume; its opening is that of its volume; all that it sends are replies; and what it seals bears its own seals, so that it seals nothing for
-- the client.
pub record IsLawfulSource (spell : Spelling) (meaning : Meaning) (s : System) : Type 0 where
  pub start : ServerStart (s.server Source 0)
  pub server : (k : ℕ) → ServerLaws spell Source (s.server Source k) (s.server Source (suc k)) (s.acts Source k)
  pub files : ℕ
  pub capacity : ℕ
  pub formatted_so : s.source 0 ≡ formatted files capacity
  pub volume : (k : ℕ) → TakesSimple spell Source (s.acts Source k) → VolumeLaws (s.source k) (s.source (suc k)) (s.effect k)
  pub tells : (k : ℕ) (ops results : List ℕ) → (s.acts Source k).executed ≡ Some (record { ops = ops; results = results })
      → TellsRight meaning (s.source k) ops results
  pub opening : (k : ℕ) → (s.server Source k).boot ≡ (s.source k).boot
  pub replies : (k : ℕ) → SendsReplies spell (s.acts Source k)
  pub seals : (k : ℕ) (bytes : List ℕ) (seal : Seal) → Sends (s.acts Source k) bytes (Some seal) → seal.owner ≡ Source
  pub silent : (k : ℕ) (bytes : List ℕ) (seal : Seal) → Sends (s.acts Source k) bytes (Some seal) → seal.owner ≡ Client → ⊥

-- What the destination owes as a server: it obeys the laws of one, its volume starts as it is formatted, and the volume that it would
-- have had no chunk landed goes on beside it.
pub record IsLawfulDest (spell : Spelling) (s : System) : Type 0 where
  pub start : ServerStart (s.server Dest 0)
  pub server : (k : ℕ) → ServerLaws spell Dest (s.server Dest k) (s.server Dest (suc k)) (s.acts Dest k)
  pub files : ℕ
  pub capacity : ℕ
  pub formatted_so : s.dest 0 ≡ formatted files capacity
  pub bare_start : s.bare 0 ≡ s.dest 0
  pub bare : (k : ℕ) → s.bare (suc k) ≡ after (s.bare k) (bare_effect (s.deed k))

-- What the source owes as a caller of the destination, which it never calls.
pub record IsSilentCaller (spell : Spelling) (s : System) : Type 0 where
  pub start : CallerStart (s.caller Dest Source 0)
  pub laws : (k : ℕ) → CallerLaws spell Dest Source (s.caller Dest Source k) (s.caller Dest Source (suc k)) (s.acts Source k)
