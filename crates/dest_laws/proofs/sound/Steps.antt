-- The steps of a destination leave its table kept.
use Rattle.std.proofs.Common.{List, Option, refl, subst, sym, ℕ}
use Rattle.std.specs.Prelude.{max}
use Rattle.dest_core.specs.Stepping.{DestState, DestStep, IsReply, IsWork, around, copier_in, doing_in, failure_step, second_in, tick_step, turn_step, with_copier, without_lapsed}
use Rattle.dest_laws.proofs.sound.Deeds.{quiet_keeps}
use Rattle.dest_laws.proofs.sound.Doings.{Keeps, effect_keeps, failed_keeps, heard_keeps, turn_keeps}
use Rattle.dest_laws.proofs.sound.Logs.{LogLaws}
use Rattle.dest_laws.specs.Own.Begins.{BeginsQuietly}
use Rattle.dest_laws.specs.Own.Going.{jobs_in}
use Rattle.dest_laws.specs.Sound.Kept.{IsKept}
use Rattle.dest_steps.specs.Copier.{Codes}
use Rattle.dest_steps.specs.Failing.{failing}
use Rattle.dest_steps.specs.declared.turning.Turn.{Turn as DueTurn}
use Rattle.server_volume.specs.Choices.{Choice, choice_of}
use Rattle.streams.specs.declared.draws.Drawn.{Drawn}

module _ {M W : Type 0} (gives : W → Drawn → W → Type 0) (logs : LogLaws) (quiet : BeginsQuietly M gives) where
  lapsed_keeps : (s : DestState M) → Keeps (jobs_in s) (jobs_in (without_lapsed s))
  lapsed_keeps s =
      quiet_keeps logs (jobs_in s) (jobs_in (without_lapsed s)) (quiet.lapsed s)

  pub tick_keeps : (codes : Codes) (now : ℕ) (s : DestState M) → Keeps (jobs_in s) (jobs_in (tick_step codes now s).host)
  tick_keeps codes now s = lapsed_keeps (second_in now s)

  step_keeps : (choice : Choice) (place now : ℕ) (turn : DueTurn) (s : DestState M) → Keeps (jobs_in s) (jobs_in (turn_step choice place now turn s).host)
  step_keeps choice place now turn s kept =
      let t = without_lapsed (second_in now s) in
      turn_keeps logs choice place turn (doing_in t) (lapsed_keeps (second_in now s) kept)

  pub work_keeps : (started : List ℕ → List ℕ → Option (List ℕ)) (codes : Codes) (place now : ℕ)
      (s : DestState M) (before after : W) (t : DestStep M) → IsWork gives started codes place now s before after t → Keeps (jobs_in s) (jobs_in t.host)
  work_keeps started codes place now s before after t work kept =
      let choice = choice_of t.out.used in
      let start : DestState M = with_copier work.copier s in
      let is = work.is choice (λ n below. refl) in
      let claimed = quiet_keeps logs (jobs_in s) (jobs_in start)
      (quiet.due started codes (around (max s.second now) s) place (copier_in s) before after (work.turn, work.copier) work.due) kept in
      subst (λ (u : DestStep M). IsKept (jobs_in u.host).table) (sym is) (step_keeps choice place now work.turn start claimed)

  pub reply_keeps : (codes : Codes) (finish : List ℕ → List ℕ → Option (List ℕ)) (place : ℕ) (message : List ℕ) (now : ℕ)
      (s : DestState M) (t : DestStep M) → IsReply codes finish place message now s t → Keeps (jobs_in s) (jobs_in t.host)
  reply_keeps codes finish place message now s t reply kept =
      let choice = choice_of t.out.used in
      let start : DestState M = with_copier reply.copier s in
      let is = reply.is choice (λ n below. refl) in
      let heard = heard_keeps logs codes finish (around (max s.second now) s) place message (copier_in s) reply.heard reply.copier reply.is_heard kept in
      subst (λ (u : DestStep M). IsKept (jobs_in u.host).table) (sym is)
      (effect_keeps logs choice place reply.heard.effect (doing_in (second_in now start)) heard)

  pub failure_keeps : (codes : Codes) (place : ℕ) (s : DestState M) → Keeps (jobs_in s) (jobs_in (failure_step codes place s).host)
  failure_keeps codes place s kept =
      failed_keeps logs place (failing codes (around s.second s) place (copier_in s)) (copier_in (second_in s.second s)) kept
