-- What putting one line answers. Own definitions.
use Rattle.std.specs.Prelude.{◌≡◌, ℕ, Option, List}
use Rattle.std.specs.Io.KnownBytes.{Keeps, Appends}
use Rattle.outcome.specs.Causes.{Rose}
use Rattle.streams.specs.Sink.{AppendsFront}

-- all of it was put, under the end that it goes with
pub record AllPut {E : Type 0} (old new : Option (List ℕ)) (line : List ℕ) (end result : E) : Type 0 where
  pub end_is : result ≡ end
  pub puts : Appends old new line

-- or a front of it, where the sink failed
pub record FrontPut {E : Type 0} (fault : E) (old new : Option (List ℕ)) (before now : ℕ) (line : List ℕ) (result : E) : Type 0 where
  pub end_is : result ≡ fault
  pub rose : Rose before now
  pub puts : AppendsFront old new line

-- nothing was put, under this end
pub record NonePut {E : Type 0} (old new : Option (List ℕ)) (end result : E) : Type 0 where
  pub end_is : result ≡ end
  pub keeps : Keeps old new
