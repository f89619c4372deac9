-- What putting lines answers. Own definitions.
use Rattle.std.specs.Prelude.{◌≡◌, ℕ, ◌⊎◌, Option, List}
use Rattle.std.specs.Io.KnownBytes.{Keeps, Appends}
use Rattle.outcome.specs.Causes.{Rose}
use Rattle.streams.specs.Sink.{AppendsFront}
use Rattle.nfs_base.specs.declared.status.Status.{Status}
use Rattle.single_copy.specs.declared.answers.Copied.{Copied}
use Rattle.single_copy.specs.declared.answers.Copied.TheVariants.{Failed}
use Rattle.linked_copy.specs.Lines.{end_of, lines_of}
use Rattle.linked_copy.specs.declared.ends.CopyEnd.{CopyEnd}
use Rattle.linked_copy.specs.declared.ends.CopyEnd.TheVariants as ends

module _ (taken taken_now : Option (List ℕ)) (writes writes_now : ℕ) where
  -- a front of the lines was put, since the sink failed
  pub record Cut (lines : List ℕ) (result : CopyEnd) : Type 0 where
    pub end_is : result ≡ ends.WriteFault
    pub rose : Rose writes writes_now
    pub puts : AppendsFront taken taken_now lines

  -- all of them were put, under the end that goes with them; or a front
  abbrev pub Puts : (lines : List ℕ) → (end result : CopyEnd) → Type 0
  Puts lines end result = ((result ≡ end) × Appends taken taken_now lines) ⊎ Cut lines result

  -- nothing was put, since the line of a copy that failed found no memory
  pub record Unput (copied : Copied) (result : CopyEnd) : Type 0 where
    pub status : Status
    pub is : copied ≡ Failed status
    pub end_is : result ≡ ends.NoMemory
    pub puts : Keeps taken taken_now

  -- all or a front of a copy's lines were put, or nothing
  abbrev pub Tells : Copied → (result : CopyEnd) → Type 0
  Tells copied result = Puts (lines_of copied) (end_of copied) result ⊎ Unput copied result
