-- What a worker's turn and a record of the source do to the volume: they change it by calls alone, none of which goes to the root.
use Rattle.std.proofs.Common.{ℕ, List, Option}
use Rattle.dest_core.specs.Stepping.{DestState, DestStep, IsReply, IsWork}
use Rattle.dest_laws.specs.Landings.CallingLaws.{reply_comes, work_comes}
use Rattle.dest_steps.specs.Copier.{Codes}
use Rattle.run_promise.proofs.serving.Steady.{CameOffRoot, came_none, came_one}
use Rattle.streams.specs.declared.draws.Drawn.{Drawn}

abbrev pub StepCame : {M : Type 0} → DestState M → DestStep M → Type 0
StepCame s t = CameOffRoot s.state.machine.store t.host.state.machine.store t.out.used

pub work_came : {M W : Type 0} (gives : W → Drawn → W → Type 0) (started : List ℕ → List ℕ → Option (List ℕ)) (codes : Codes) (place now : ℕ)
    (s : DestState M) (before after : W) (t : DestStep M) → IsWork gives started codes place now s before after t → StepCame s t
work_came gives started codes place now s before after t work =
    work_comes CameOffRoot came_none came_one gives started codes place now s before after t work

pub reply_came : {M : Type 0} (codes : Codes) (finish : List ℕ → List ℕ → Option (List ℕ)) (place : ℕ) (message : List ℕ) (now : ℕ)
    (s : DestState M) (t : DestStep M) → IsReply codes finish place message now s t → StepCame s t
reply_came codes finish place message now s t reply = reply_comes CameOffRoot came_none came_one codes finish place message now s t reply
