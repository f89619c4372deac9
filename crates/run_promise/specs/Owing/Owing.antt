-- What a destination owes in a system, besides what it owes as a server: the parts of `wire_model`'s `IsLawfulSystem` and `IsTruthful`
-- that are its own.
use Rattle.std.specs.Prelude.{ℕ, suc}
use Rattle.nfs_base.specs.declared.seal.End.TheVariants.{Dest}
use Rattle.run_promise.specs.Dest.Kept.{IsLawfulCaller}
use Rattle.wire_model.specs.CopyLaws.{CopiesLaws, CopiesStart, VolumeLaws}
use Rattle.wire_model.specs.Meaning.{Meaning}
use Rattle.wire_model.specs.NameLaws.{NameLaws}
use Rattle.wire_model.specs.Spelling.{Spelling}
use Rattle.wire_model.specs.System.{System, dest_effect}
use Rattle.wire_model.specs.Told.{TakesSimple}

-- It obeys the laws of a caller of the source; its volume goes on by one effect that is allowed, where it takes only what calls a volume
-- once at most; there is no copy at first, and copies and names obey their laws.
pub record OwesAll (spell : Spelling) (meaning : Meaning) (s : System) : Type 0 where
  pub calls : IsLawfulCaller spell s
  pub volume : (k : ℕ) → TakesSimple spell Dest (s.acts Dest k) → VolumeLaws (s.dest k) (s.dest (suc k)) (dest_effect s k)
  pub start : CopiesStart s
  pub copies : (k : ℕ) → CopiesLaws spell meaning s k
  pub names : (k : ℕ) → NameLaws spell meaning s k
