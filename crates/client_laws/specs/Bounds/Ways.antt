-- What a client's mechanism gives is bytes, and what is drawn has 32 of them.
use Rattle.std.specs.Prelude.{ℕ, IfSome, List}
use Rattle.caller_laws.specs.Fitting.Bounds.{FixedFits}
use Rattle.caller_laws.specs.Fitting.Moving.{GivesBytes}
use Rattle.client_core.specs.Endings.{Ways}
use Rattle.streams.specs.declared.draws.Drawn.{Drawn}
use Rattle.streams.specs.declared.draws.Drawn.TheVariants.{Got}
use Rattle.wire_xdr.specs.Cursor.{IsBytes}

pub record WaysAreFit {W : Type 0} (ways : Ways) (draws : W → Drawn → W → Type 0) : Type 0 where
  pub codes : GivesBytes ways.means.mic
  pub nonces : (v w : W) (nonce : List ℕ) → draws v (Got nonce) w → FixedFits 32 nonce
  pub tokens : (nonce : List ℕ) → FixedFits 32 nonce → IfSome (ways.started nonce) IsBytes
