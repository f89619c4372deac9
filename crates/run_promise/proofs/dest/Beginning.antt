-- A destination begins when it was just opened: on a volume that was just formatted, or on what a crash left.
use Rattle.std.proofs.Common.{◌≡◌, ◌∙◌, inl, inr, ℕ, ◌<◌, ◌^◌, List, [], ◌∷◌, sym, ap, subst, arith}
use Rattle.copy_model.specs.Volume.{Volume}
use Rattle.dest_core.specs.Core.{no_contexts, no_copies, no_opens, no_sessions}
use Rattle.dest_core.specs.Stepping.{DestState}
use Rattle.run_ends.specs.First.{IsFreshDest, Shape}
use Rattle.run_ends.specs.Opening.{IsDestAnew}
use Rattle.run_ends.specs.Setting.{dest_name, dest_place, dest_source}
use Rattle.run_promise.specs.Dest.Begun.{IsBegun}
use Rattle.server_volume.specs.Moments.{stores_within}
use Rattle.server_volume.specs.Store.{Store}
use Rattle.server_volume.specs.declared.used.Used.{Used}
use Rattle.volume_stops.specs.Stops.{IsLeftBy}
use Rattle.volume_stops.specs.declared.kept.Kept.{Kept}

pub fresh_begins : {M : Type 0} (mech : M) (shape : Shape) (d : DestState M) → IsFreshDest mech shape d → IsBegun mech d
fresh_begins mech shape d is =
    let boot : 1 ≡ d.state.machine.store.volume.boot = sym (ap (λ (v : Volume). v.boot) is.volume) in
    record {
      opened = record {
        contexts = is.contexts ∙ ap no_contexts boot;
        opens = is.opens ∙ ap no_opens boot;
        sessions = is.sessions ∙ ap no_sessions boot;
        extra = is.extra ∙ ap (λ (v : Volume). no_copies v.boot v.capacity mech dest_source dest_name dest_place) (sym is.volume);
        second = is.second;
        steps = is.steps;
      };
      numbered = subst (λ (n : ℕ). n < 2 ^ 32) boot (omega arith);
      unwritten = ap (λ (v : Volume). v.writes) is.volume;
    }

-- what a crash leaves has no write
left_unwritten : (stores : List Store) (t : Store) → IsLeftBy stores t → t.volume.writes ≡ 0
left_unwritten [] t left = absurd left
left_unwritten (s ∷ stores) t (inl left) = ap (λ (v : Volume). v.writes) left.volume
left_unwritten (s ∷ stores) t (inr left) = left_unwritten stores t left

pub anew_begins : {M : Type 0} (s : DestState M) (used : List Used) (kept : Kept) (t : DestState M) → IsDestAnew s used kept t
    → IsBegun s.state.machine.extra.mech t
anew_begins s used kept t is = record {
  opened = is.opened;
  numbered = is.numbered;
  unwritten = left_unwritten (s.state.machine.store ∷ stores_within s.state.machine.store is.stops.calls) t.state.machine.store is.stops.left;
}
