-- A server and its mechanism. Own definitions.
use Rattle.std.specs.Prelude.{◌≡◌, ℕ}
use Rattle.dest_core.specs.Stepping.{DestState}
use Rattle.dest_core.specs.declared.destination.Destination.{Destination}
use Rattle.outbox.specs.declared.outgoing.Outbox.{Outbox}
use Rattle.run_ends.specs.Ends.{RunMachines, SourceState}
use Rattle.source_core.specs.declared.source.Source.{Source}
use Rattle.wire_machine.specs.Ends.{DestAct, SourceAct}

-- what a server has besides its files, to what it had: its mechanism is the same
abbrev pub SameSource : {M : Type 0} → Source M → Source M → Type 0
SameSource x y = y.mech ≡ x.mech

abbrev pub SameDest : {M : Type 0} → Destination M → Destination M → Type 0
SameDest x y = y.mech ≡ x.mech

-- so it is in each step of the servers
pub record KeepMechanisms {M : Type 0} (m : RunMachines M) : Type 0 where
  pub source : (act : SourceAct) (now : ℕ) (s : SourceState M) (before : ℕ) (t : SourceState M) (after : ℕ) (out : Outbox)
      → m.source act now s before t after out → SameSource s.state.machine.extra t.state.machine.extra
  pub dest : (act : DestAct) (now : ℕ) (s : DestState M) (before : ℕ) (t : DestState M) (after : ℕ) (out : Outbox)
      → m.dest act now s before t after out → SameDest s.state.machine.extra t.state.machine.extra
