-- The client along a run: each moment of it is a rest or a turn.
use Rattle.std.proofs.Common.{◌≡◌, ℕ, suc, List, slice_get, Option, Some, None, refl, sym, ap, subst}
use Rattle.caller_laws.specs.Good.{Identity}
use Rattle.client_laws.specs.Bounds.Known.{ClientIsFit}
use Rattle.client_laws.specs.Bounds.Ways.{WaysAreFit}
use Rattle.client_laws.specs.CallerLaws.{StartsOwn}
use Rattle.client_laws.specs.WholeTurns.{IsSettled}
use Rattle.run_ends.specs.Ends.{RunStep, RunWorld, Words, machines, ways}
use Rattle.run_promise.proofs.client.Turning.{Laws, fit_at, goes_at, purposes_at, setting_at, settled_at}
use Rattle.run_promise.specs.Client.Along.{GoesAlong, MayGo, act_at, act_by, client_at, codes_of, part_by, run_at, second_at, second_by}
use Rattle.run_promise.specs.Client.Steps.{step_does}
use Rattle.run_promise.specs.Client.Turns.{Does, act_in, second_in}
use Rattle.run_promise.specs.System.Moments.{made_at, rests_at}
use Rattle.run_promise.specs.System.System.{telling}
use Rattle.wire_machine.specs.Steps.{AreSteps}
use Rattle.wire_model.specs.Meaning.{Meaning}
use Rattle.wire_model.specs.Spelling.{Spelling}

module _ {M : Type 0} (words : Words M ℕ) (spell : Spelling) (meaning : Meaning) (first : RunWorld M) (steps : List (RunStep M)) (are : AreSteps (machines words) first steps) where
  does_by : (k : ℕ) (o : Option (RunStep M)) → slice_get steps k ≡ o
      → Does words (act_by o (run_at words spell meaning first steps k)) (second_by o (run_at words spell meaning first steps k))
      (client_at words spell meaning first steps k) (client_at words spell meaning first steps (suc k)) (part_by o)
  does_by k None is =
      record { same = ap (λ (w : RunWorld M). w.client) (rests_at (machines words) (telling (codes_of words)) spell meaning first steps k is); idle_is = refl }
  does_by k (Some s) is =
      let made = made_at (machines words) (telling (codes_of words)) spell meaning first steps k s are is in
      let before = run_at words spell meaning first steps k in
      subst (λ (w : RunWorld M). Does words (act_in s.event before.log) (second_in s.event before.clock) before.client w.client s.parts.client) (sym made.after)
      (step_does words before s made.step)

  does_at : (k : ℕ) → Does words (act_at words spell meaning first steps k) (second_at words spell meaning first steps k)
      (client_at words spell meaning first steps k) (client_at words spell meaning first steps (suc k)) (part_by (slice_get steps k))
  does_at k = does_by k (slice_get steps k) refl

  pub goes_along : (who : Identity) → Laws words who → StartsOwn who (ways words first.client) words.gives → WaysAreFit (ways words first.client) words.gives
      → ClientIsFit first.client → IsSettled who first.client → MayGo words spell meaning first steps → GoesAlong words spell meaning first steps who
  goes_along who laws starts fits fit settled may =
      let o = act_at words spell meaning first steps in
      let now = second_at words spell meaning first steps in
      let c = client_at words spell meaning first steps in
      let part = λ (k : ℕ). part_by (slice_get steps k) in
      record {
        purposes = purposes_at words who laws first.client.setting starts fits o now c part does_at may refl fit;
        goes = goes_at words who laws first.client.setting starts fits o now c part does_at may refl fit;
        settled = settled_at words who laws first.client.setting starts fits o now c part does_at may refl fit settled;
        fit = fit_at words who laws first.client.setting starts fits o now c part does_at may refl fit;
        setting = setting_at words who laws first.client.setting starts fits o now c part does_at may refl fit;
      }
