-- Events are carried out, and their lines are counted. Own definitions.
use Rattle.std.specs.Prelude.{◌≡◌, ◌≤◌, ◌+◌, ◌^◌, ℕ, true, List, ◌++◌, Option, Some, is_some}
use Rattle.run_ends.specs.Ends.{RunMachines}
use Rattle.wire_machine.specs.Check.{Reading}
use Rattle.wire_machine.specs.Runs.{numbered}
use Rattle.wire_run.specs.LargeRuns.Large.{as_taken}
use Rattle.wire_run.specs.Running.{Running}
use Rattle.wire_run.specs.Trace.{Happen}
use Rattle.wire_run.specs.declared.run.Ran.{Ran}
use Rattle.wire_run.specs.declared.run.Ran.TheVariants as ran
use Rattle.wire_schedule.specs.declared.event.Event.{Event}
use Rattle.wire_tally.specs.Tally.{IsWholeText, tallied}
use Rattle.wire_tally.specs.declared.tally.Tally.{Tally}

-- a server is there where its volume was asked for
pub record IsServed {D M : Type 0} (r : Running D M) : Type 0 where
  pub source : is_some r.context.source ≡ true → is_some r.source_state ≡ true
  pub dest : is_some r.context.dest ≡ true → is_some r.dest_state ≡ true

-- one more text can be counted
pub record HasRoom (t : Tally) : Type 0 where
  pub stable : t.stable + 2 ^ 64 ≤ 2 ^ 128
  pub exact : t.exact + 2 ^ 64 ≤ 2 ^ 128
  pub landed : t.landed + 2 ^ 96 ≤ 2 ^ 128

-- one more text was counted
pub record HasGrown (old new : Tally) : Type 0 where
  pub stable : new.stable ≤ old.stable + 2 ^ 64
  pub exact : new.exact ≤ old.exact + 2 ^ 64
  pub landed : new.landed ≤ old.landed + 2 ^ 96

-- Events happen, up to their end or to that of the run; a sink would take this text of them, behind any other, and its lines are counted.
pub record Tallies {D M : Type 0} (told : Type 0) (m : RunMachines M) (read : Reading) (faults size : D → ℕ) (events : List Event)
    (old new : Running D M) (tally_old tally_new : Tally) (result : Option Ran) : Type 0 where
  pub text : List ℕ
  pub happen : (before : List ℕ)
      → Happen told m read faults size (numbered 1 events) old new (as_taken before) (as_taken (before ++ text)) result
  pub tally : told → tally_new ≡ tallied text tally_old
  pub whole : told → IsWholeText text
  pub ends : result ≡ Some ran.Whole → ⊥
