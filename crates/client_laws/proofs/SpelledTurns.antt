-- From a fit client what a turn asks can be spelled, and the client behind it is fit.
use Rattle.std.proofs.Common.{ℕ, ◌<◌, sym, subst}
use Rattle.caller_laws.specs.Fitting.Fitting.{MountIsFit}
use Rattle.caller_laws.specs.Good.{Identity}
use Rattle.caller_laws.specs.OneStep.Counting.{Counted}
use Rattle.client_core.specs.Endings.{Ways}
use Rattle.client_core.specs.State.{ClientState}
use Rattle.client_core.specs.Telling.{mount_at}
use Rattle.client_laws.proofs.MountRuns.{fit_spelled}
use Rattle.client_laws.proofs.MountTurns.{IsFitTurn, Sure, turn_runs}
use Rattle.client_laws.specs.Bounds.Known.{ClientIsFit}
use Rattle.client_laws.specs.Bounds.StepLaws.{asks_fit, begins_fit, hears_fit, retries_fit, ticks_fit, works_fit}
use Rattle.client_laws.specs.Bounds.Ways.{WaysAreFit}
use Rattle.client_laws.specs.CallerLaws.{StartsOwn}
use Rattle.client_laws.specs.Fits.{TurnIsFit}
use Rattle.client_laws.specs.MountTurns.{TakesBytes}
use Rattle.client_laws.specs.Turns.{IsTurn, MayTurn, Turn, Asks, Begins, Hears, Retries, Ticks, Works}
use Rattle.client_laws.specs.WholeTurns.{IsSpelledTurn, Purposes}
use Rattle.nfs_base.specs.declared.side.Side.{Side}
use Rattle.nfs_base.specs.declared.side.Side.TheVariants.{Source, Dest}
use Rattle.outbox.specs.declared.outgoing.Outbox.{Outbox}
use Rattle.streams.specs.declared.draws.Drawn.{Drawn}

mount_fits : {M : Type 0} (side : Side) (c : ClientState M) → ClientIsFit c → MountIsFit (mount_at side c)
mount_fits Source c h = h.parts.at_source.mount
mount_fits Dest c h = h.parts.at_dest.mount

pub spelled_turn : {M W : Type 0} (counted : Counted) (ways : Ways) (gives : W → Drawn → W → Type 0) (who : Identity) (boot : ℕ) (purposes : Purposes) (turn : Turn)
    (c d : ClientState M) (v w : W) (out : Outbox) → StartsOwn who ways gives → MayTurn turn c → WaysAreFit ways gives → ClientIsFit c → TurnIsFit turn
    → IsTurn ways gives turn c v w (d, out) → d.calls < 4294967295 → IsSpelledTurn who ways boot purposes turn c d out
spelled_turn counted ways gives who boot purposes turn c d v w out own may fits h told step left =
    let known : Sure ways turn c = record { is = Unit {0}; codes = λ sure. fits.codes; client = λ sure. h; told = λ sure. told } in
    let at : (side : Side) → IsFitTurn who ways boot counted side (purposes side) turn c known (d, out) =
    λ side. turn_runs counted ways gives who boot side (purposes side) turn c d v w out known (own, λ sure. (fits.nonces, fits.tokens)) may step left in
    record {
      turns = λ side. (at side).turns;
      spelled = λ side. fit_spelled ways.means (at side).turns.steps (mount_at side c) fits.codes (mount_fits side c h) ((at side).fit tt);
    }

pub fit_turn : {M W : Type 0} (ways : Ways) (gives : W → Drawn → W → Type 0) (turn : Turn) (c d : ClientState M) (v w : W) (out : Outbox) → WaysAreFit ways gives → ClientIsFit c
    → TurnIsFit turn → IsTurn ways gives turn c v w (d, out) → ClientIsFit d
fit_turn ways gives (Begins j spec now) c d v w out fits h told step = begins_fit ways gives fits c h j spec now v w (d, out) told step
fit_turn {M} ways gives (Asks query j now) c d v w out fits h told step =
    subst (λ (end : ClientState M × Outbox). ClientIsFit end.0) (sym step.0) (asks_fit ways gives fits c h j query now)
fit_turn ways gives (Works side work now) c d v w out fits h told step = works_fit ways gives fits c h side work now v w (d, out) told step
fit_turn {M} ways gives (Ticks now) c d v w out fits h told step =
    subst (λ (end : ClientState M × Outbox). ClientIsFit end.0) (sym step.0) (ticks_fit ways gives fits c h now)
fit_turn {M} ways gives (Retries now) c d v w out fits h told step =
    subst (λ (end : ClientState M × Outbox). ClientIsFit end.0) (sym step.0) (retries_fit ways gives fits c h now)
fit_turn ways gives (Hears side message now) c d v w out fits h told step = hears_fit ways gives fits c h side message now v w (d, out) told step

-- what comes is bytes
pub takes_bytes : (turn : Turn) → TurnIsFit turn → TakesBytes turn
takes_bytes (Begins j spec now) told = tt
takes_bytes (Asks query j now) told = tt
takes_bytes (Works side work now) told = tt
takes_bytes (Ticks now) told = tt
takes_bytes (Retries now) told = tt
takes_bytes (Hears side message now) told = told
