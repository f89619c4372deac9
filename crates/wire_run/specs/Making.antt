-- What becomes of a stage in which a server is to be made.
use Rattle.std.specs.Prelude.{◌≡◌, ℕ, Result}
use Rattle.nfs_base.specs.declared.side.Side.{Side}
use Rattle.nfs_base.specs.declared.side.Side.TheVariants.{Source, Dest}
use Rattle.wire_run.specs.Fresh.{DestMakes, IsDestDisk, IsSourceDisk, SourceMakes}
use Rattle.run_ends.specs.First.{Shape}
use Rattle.wire_run.specs.Stage.{peeked_at}
use Rattle.wire_run.specs.declared.ends.DestEnd.TheVariants as dest_end
use Rattle.wire_run.specs.declared.ends.SourceEnd.TheVariants as source_end
use Rattle.wire_run.specs.declared.fresh.Unmade.{Unmade}
use Rattle.wire_run.specs.declared.stage.Stage.{Stage}

-- its disk is there, and no server
abbrev pub IsDiskAt : {D M : Type 0} → Side → Stage D M → Type 0
IsDiskAt Source s = IsSourceDisk s.source
IsDiskAt Dest s = IsDestDisk s.dest

-- it was made, or not; all else is as it was
abbrev pub MakesBy : {D M : Type 0} → (told : Type 0) → (faults size : D → ℕ) → M → Shape → Side → Stage D M → Stage D M → Result (Unit {0}) Unmade → Type 0
MakesBy told faults size mech shape Source old new answer = SourceMakes told faults size mech shape old.source new.source answer
MakesBy told faults size mech shape Dest old new answer = DestMakes told faults size mech shape old.dest new.dest answer

pub record MakesAt {D M : Type 0} (told : Type 0) (faults size : D → ℕ) (mech : M) (shape : Shape) (side : Side) (old new : Stage D M) (answer : Result (Unit {0}) Unmade) : Type 0 where
  pub makes : MakesBy told faults size mech shape side old new answer
  pub rest : new ≡ peeked_at side old new

-- memory ran out, and the disk is gone
abbrev pub AwayAt : {D M : Type 0} → Side → Stage D M → Stage D M → Type 0
AwayAt Source old new = new ≡ record old { source = source_end.Away }
AwayAt Dest old new = new ≡ record old { dest = dest_end.Away }
