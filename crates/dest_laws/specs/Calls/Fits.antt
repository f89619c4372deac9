-- What goes out of a mount in a step has numbers within their bounds, and its bytes are bytes (`caller_laws::fitting`).
use Rattle.std.specs.Prelude.{◌≡◌, ℕ, List, [], ◌∷◌, Option, Some}
use Rattle.std.specs.List.{AllByRecursion}
use Rattle.caller_laws.specs.Fitting.Bounds.{FixedFits}
use Rattle.caller_laws.specs.Fitting.Moving.{GivesBytes, MoveIsFit, SendIsFit}
use Rattle.caller_laws.specs.Moves.{Move, Sends, done}
use Rattle.caller_laws.specs.OneStep.Runs.{MountStep}
use Rattle.dest_steps.specs.declared.copier.Copier.{Copier}
use Rattle.gss_ctx.specs.Seals.{Mic}
use Rattle.job_table.specs.Fits.{PlanIsFit}
use Rattle.job_table.specs.Table.{JobTable}
use Rattle.job_table.specs.declared.job.Job.{Job}
use Rattle.mount.specs.State.{Mounted}
use Rattle.mount.specs.Taking.{Means}
use Rattle.streams.specs.declared.draws.Drawn.{Drawn}
use Rattle.streams.specs.declared.draws.Drawn.TheVariants.{Got}
use Rattle.wire_xdr.specs.Cursor.{IsBytes}

-- what the destination gives with what it sends
abbrev pub GivesFit : Move → Type 0
GivesFit (Sends at send) = SendIsFit send
GivesFit _ = Unit {0}

abbrev pub SendsAreFit : List MountStep → Type 0
SendsAreFit steps = AllByRecursion (λ (step : MountStep). GivesFit step.move) steps

-- each step keeps to the bounds of the mount
abbrev pub MovesAreFit : Means → List MountStep → Mounted → Type 0
MovesAreFit means [] m = Unit {0}
MovesAreFit means (step ∷ more) m = MoveIsFit m step.move × MovesAreFit means more (done means step.move m).mount

-- ---- what a destination's calls are made of

abbrev pub JobIsFit : Job → Type 0
JobIsFit job = PlanIsFit job.plan

abbrev pub EachPlanIsFit : JobTable → Type 0
EachPlanIsFit t = AllByRecursion JobIsFit t.jobs

-- a nonce has 32 bytes, and the token that is started with one is bytes
pub record DrawsAreFit {W : Type 0} (gives : W → Drawn → W → Type 0) (started : List ℕ → Option (List ℕ)) : Type 0 where
  pub nonces : (v w : W) (nonce : List ℕ) → gives v (Got nonce) w → FixedFits 32 nonce
  pub tokens : (nonce token : List ℕ) → FixedFits 32 nonce → started nonce ≡ Some token → IsBytes token

-- all that a worker's turn may ask by
pub record WorkIsFit {W : Type 0} (mic : Mic) (gives : W → Drawn → W → Type 0) (started : List ℕ → List ℕ → Option (List ℕ)) (x : Copier) : Type 0 where
  pub codes : GivesBytes mic
  pub plans : EachPlanIsFit x.copies.book.table
  pub principal : IsBytes x.principal
  pub drawn : DrawsAreFit gives (started x.principal)
