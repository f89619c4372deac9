-- Each opening of a run begins with a destination that was just opened.
use Rattle.std.proofs.Common.{◌≡◌, ◌⊎◌, inl, inr, ℕ, suc, List, sym, ap, subst, ◌∙◌}
use Rattle.dest_core.specs.Stepping.{DestState}
use Rattle.dest_core.specs.declared.destination.Destination.{Destination}
use Rattle.run_ends.specs.Ends.{RunMachines, RunStep, RunWorld}
use Rattle.run_ends.specs.Opening.{IsDestAnew}
use Rattle.run_promise.specs.Dest.Begun.{IsBegun}
use Rattle.run_promise.specs.Opening.Openings.{began}
use Rattle.run_promise.specs.Opening.Stops.{OpensAnew}
use Rattle.run_promise.specs.System.Moments.{world_at}
use Rattle.run_promise.specs.System.System.{telling}
use Rattle.server_volume.specs.declared.used.Used.{Used}
use Rattle.session_server.specs.Host.{Codes}
use Rattle.volume_stops.specs.declared.kept.Kept.{Kept}
use Rattle.wire_model.specs.Meaning.{Meaning}
use Rattle.wire_model.specs.Spelling.{Spelling}

module _ {M : Type 0} (m : RunMachines M) (codes : Codes) (spell : Spelling) (meaning : Meaning) (mech : M) (first : RunWorld M) (steps : List (RunStep M))
    (begun : IsBegun mech first.dest)
    (anew : (s t : DestState M) (used : List Used) (kept : Kept) → IsDestAnew s used kept t → IsBegun s.state.machine.extra.mech t)
    (stays : (k : ℕ) → (world_at m (telling codes) spell meaning first steps k).dest.state.machine.extra.mech ≡ first.dest.state.machine.extra.mech) where
  abbrev dest : ℕ → DestState M
  dest k = (world_at m (telling codes) spell meaning first steps k).dest

  mech_is : first.dest.state.machine.extra.mech ≡ mech
  mech_is = ap (λ (x : Destination M). x.mech) begun.opened.extra

  pub begun_at : (k : ℕ) → (began m (telling codes) spell meaning first steps k ≡ 0) ⊎ OpensAnew m codes spell meaning first steps k
      → IsBegun mech (world_at m (telling codes) spell meaning first steps (began m (telling codes) spell meaning first steps k)).dest
  begun_at k (inl zeroth) = subst (λ (n : ℕ). IsBegun mech (dest n)) (sym zeroth) begun
  begun_at k (inr o) =
      subst (λ (n : ℕ). IsBegun mech (dest n)) (sym o.follows)
      (subst (λ (x : M). IsBegun x (dest (suc o.before))) (stays o.before ∙ mech_is)
      (anew (dest o.before) (dest (suc o.before)) o.stops.step.parts.dest.out.used o.kept o.stops.anew))
