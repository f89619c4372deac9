-- The system of a run and those of its openings. Own definitions.
use Rattle.std.specs.Prelude.{◌≡◌, ℕ, ◌+◌, ◌-◌, List, None, length}
use Rattle.client_laws.specs.WholeTurns.{Purposes}
use Rattle.dest_core.specs.Stepping.{DestState}
use Rattle.dest_laws.specs.View.Dues.{AreSafe}
use Rattle.dest_laws.specs.View.Steps.{table_in}
use Rattle.nfs_base.specs.declared.side.Side.TheVariants as sides
use Rattle.run_ends.specs.Ends.{RunMachines, RunStep, RunWorld}
use Rattle.run_promise.specs.Opening.Openings.{began, opened_at, seen_by, segment}
use Rattle.run_promise.specs.System.System.{ClientView, opening_of, telling}
use Rattle.session_server.specs.Host.{Codes}
use Rattle.wire_machine.specs.Steps.{IsStep, cut_of}
use Rattle.wire_model.specs.Meaning.{Meaning}
use Rattle.wire_model.specs.Spelling.{Spelling}
use Rattle.wire_model.specs.System.{System}

-- ---- what a step leaves as it is in which the destination doesn't stop: the number of its opening, by its volume and by its jobs, and its mechanism

pub record KeepsOpening {M : Type 0} (before now : DestState M) : Type 0 where
  pub volume : now.state.machine.store.volume.boot ≡ before.state.machine.store.volume.boot
  pub table : (table_in now).boot ≡ (table_in before).boot
  pub mech : now.state.machine.extra.mech ≡ before.state.machine.extra.mech

abbrev pub StepsKeepOpenings : {M : Type 0} → RunMachines M → Type 0
StepsKeepOpenings {M} m = (before : RunWorld M) (s : RunStep M) → IsStep m before s → cut_of sides.Dest before s ≡ None → KeepsOpening before.dest s.after.dest

-- ---- at a moment of a run

module _ {M : Type 0} (m : RunMachines M) (codes : Codes) (spell : Spelling) (meaning : Meaning) (seen : ClientView M) (first : RunWorld M)
    (steps : List (RunStep M)) (purposes : ℕ → Purposes) where
  -- how many steps its opening has made then
  abbrev pub turn_at : ℕ → ℕ
  turn_at k = k - began m (telling codes) spell meaning first steps k

  -- how many copies the openings before it had
  abbrev pub base_at : ℕ → ℕ
  base_at k = length (seen_by m (telling codes) spell meaning first steps k).past

  -- that opening as a system
  abbrev pub own_system : ℕ → System
  own_system k =
      opening_of m codes spell meaning seen (opened_at m (telling codes) spell meaning first steps k) (segment m (telling codes) spell meaning first steps k)
      (λ i. purposes (began m (telling codes) spell meaning first steps k + i))

  -- a copy of an opening that was reported as stable was safe
  abbrev pub OpeningsAreSafe : Type 0
  OpeningsAreSafe = (k i : ℕ) → AreSafe (own_system k) i
