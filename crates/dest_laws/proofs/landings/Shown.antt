-- What a step is to the volume, as the system shows it.
use Rattle.std.proofs.Common.{◌≡◌, ◌∙◌, ℕ, ◌<◌, List, [], Option, refl, sym, ap, subst}
use Rattle.std.specs.Prelude.{◌^◌, suc}
use Rattle.copy_model.specs.Effect.{Effect, Rests}
use Rattle.copy_model.specs.Volume.{Volume}
use Rattle.dest_core.specs.Stepping.{DestState, DestStep, failure_step, tick_step}
use Rattle.dest_laws.proofs.landings.Outcomes.{is_writing}
use Rattle.dest_laws.proofs.landings.VolumeCalls.{StepGoes, volume_in}
use Rattle.dest_laws.proofs.landings.Wells.{none_effect}
use Rattle.dest_laws.specs.Landings.Orderly.{LandsAndHolds}
use Rattle.dest_laws.specs.View.Steps.{Shows, ShowsStep, part_by}
use Rattle.dest_steps.specs.Copier.{Codes}
use Rattle.server_volume.specs.declared.used.Used.{Used}
use Rattle.wire_lines.specs.declared.letters.Speaker.{Speaker}
use Rattle.wire_machine.specs.History.{effect_of, is_call, landing_in}
use Rattle.wire_model.specs.Copies as copies
use Rattle.wire_model.specs.Copies.{Plain}
use Rattle.wire_model.specs.CopyLaws.{VolumeLaws}
use Rattle.wire_model.specs.Meaning.{Meaning}
use Rattle.wire_model.specs.Spelling.{Spelling}
use Rattle.wire_model.specs.System.{System, dest_effect, plan_at}
use Rattle.wire_model.specs.Wire.{Executed}

shown_as : (a v b w : Volume) (e f : Effect) → a ≡ v → b ≡ w → e ≡ f → VolumeLaws v w f → VolumeLaws a b e
shown_as a v b w e f first second effect law =
    subst (λ (x : Volume). VolumeLaws x b e) (sym first) (subst (λ (x : Volume). VolumeLaws v x e) (sym second) (subst (VolumeLaws v w) (sym effect) law))

still : (v : Volume) → VolumeLaws v v Rests
still v = record { allowed = tt; goes_on = refl }

module _ {M : Type 0} (spell : Spelling) (meaning : Meaning) (s : System) (k : ℕ) (took : Option (List ℕ)) (speaker : Speaker) (executed : Option Executed) (d : DestState M) where
  pub step_shown : (t : DestStep M) → ShowsStep spell meaning s k took speaker executed d t → StepGoes d t → LandsAndHolds spell meaning s k t → (volume_in d).writes < 2 ^ 32
      → VolumeLaws (s.dest k) (s.dest (suc k)) (dest_effect s k)
  step_shown t shows goes well few =
      shown_as (s.dest k) (volume_in d) (s.dest (suc k)) (volume_in t.host) (dest_effect s k) (effect_of (volume_in t.host) t.out.used)
      shows.before.volume shows.after.volume well.effect (goes few)

  -- no call was made
  quiet_shown : (t : DestStep M) → ShowsStep spell meaning s k took speaker executed d t → t.out.used ≡ [] → volume_in t.host ≡ volume_in d
      → VolumeLaws (s.dest k) (s.dest (suc k)) (dest_effect s k)
  quiet_shown t shows used same =
      let v = volume_in t.host in
      let effect : dest_effect s k ≡ Rests
      = ap (copies.effect_of (plan_at s k)) shows.deed
      ∙ (none_effect (plan_at s k) (is_call (part_by took speaker t)) (effect_of v t.out.used) (landing_in t.out.notes) (ap (λ (u : List Used). is_writing (effect_of v u)) used)
      ∙ ap (effect_of v) used) in
      shown_as (s.dest k) (volume_in d) (s.dest (suc k)) (volume_in d) (dest_effect s k) Rests shows.before.volume (shows.after.volume ∙ same) effect (still (volume_in d))

  pub failure_shown : (codes : Codes) (place : ℕ) → ShowsStep spell meaning s k took speaker executed d (failure_step codes place d)
      → VolumeLaws (s.dest k) (s.dest (suc k)) (dest_effect s k)
  failure_shown codes place shows = quiet_shown (failure_step codes place d) shows refl refl

  pub tick_shown : (codes : Codes) (now : ℕ) → ShowsStep spell meaning s k took speaker executed d (tick_step codes now d)
      → VolumeLaws (s.dest k) (s.dest (suc k)) (dest_effect s k)
  tick_shown codes now shows = quiet_shown (tick_step codes now d) shows refl refl

-- a moment in which nothing happens
pub rest_shown : {M : Type 0} (s : System) (k : ℕ) (d : DestState M) → Shows s k d → Shows s (suc k) d → s.deed k ≡ Plain Rests
    → VolumeLaws (s.dest k) (s.dest (suc k)) (dest_effect s k)
rest_shown s k d before after deed =
    shown_as (s.dest k) (volume_in d) (s.dest (suc k)) (volume_in d) (dest_effect s k) Rests before.volume after.volume (ap (copies.effect_of (plan_at s k)) deed) (still (volume_in d))
