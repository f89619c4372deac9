-- In a worker's turn, and where a record of the source comes, one call at most is made on the volume.
use Rattle.std.proofs.Common.{ℕ, ◌≤◌, List, Option, length, refl, sym, subst}
use Rattle.dest_core.specs.Stepping.{DestState, DestStep, IsReply, IsWork, doing_in, second_in, with_copier, without_lapsed}
use Rattle.dest_laws.proofs.landings.Outcomes.{effect_outcome, outcome_few, turn_outcome}
use Rattle.dest_steps.specs.Copier.{Codes}
use Rattle.dest_steps.specs.Replying.{effect_done}
use Rattle.dest_steps.specs.Working.{turn_made}
use Rattle.server_volume.specs.Choices.{choice_of}
use Rattle.streams.specs.declared.draws.Drawn.{Drawn}

pub work_once : {M W : Type 0} (gives : W → Drawn → W → Type 0) (started : List ℕ → List ℕ → Option (List ℕ)) (codes : Codes) (place now : ℕ)
    (s : DestState M) (before after : W) (t : DestStep M) → IsWork gives started codes place now s before after t → length t.out.used ≤ 1
work_once {M} gives started codes place now s before after t work =
    let choice = choice_of t.out.used in
    let start : DestState M = with_copier work.copier s in
    let d = doing_in (without_lapsed (second_in now start)) in
    subst (λ (v : DestStep M). length v.out.used ≤ 1) (sym (work.is choice (λ n below. refl)))
    (outcome_few d (turn_made choice place work.turn d).doing (turn_outcome choice place work.turn d refl))

pub reply_once : {M : Type 0} (codes : Codes) (finish : List ℕ → List ℕ → Option (List ℕ)) (place : ℕ) (message : List ℕ) (now : ℕ)
    (s : DestState M) (t : DestStep M) → IsReply codes finish place message now s t → length t.out.used ≤ 1
reply_once {M} codes finish place message now s t reply =
    let choice = choice_of t.out.used in
    let start : DestState M = with_copier reply.copier s in
    let d = doing_in (second_in now start) in
    subst (λ (v : DestStep M). length v.out.used ≤ 1) (sym (reply.is choice (λ n below. refl)))
    (outcome_few d (effect_done choice place reply.heard.effect d).doing (effect_outcome choice place reply.heard.effect d refl))
