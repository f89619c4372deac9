-- What was done to a store in some calls, without what a crash inside them may leave (`Ran` has that too).
use Rattle.std.specs.Prelude.{◌≡◌, List, ◌++◌}
use Rattle.server_volume.specs.declared.used.Used.{Used}
use Rattle.server_volume.specs.Moments.{Made, AreTaken, after_calls, uses_of}
use Rattle.server_volume.specs.Store.{Store}

-- A store came to be another by calls alone. Each of them was refused, or is one that the volume takes, and they are noted
-- behind those before.
pub record CameByCalls (old new : Store) (used more : List Used) : Type 0 where
  pub calls : List Made
  pub noted : more ≡ used ++ uses_of old calls
  pub taken : AreTaken old calls
  pub store : new ≡ after_calls old calls
