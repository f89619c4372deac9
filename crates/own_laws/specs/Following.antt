-- What a particular server adds goes along a relation in all that it does (own).
use Rattle.std.specs.Prelude.{ℕ, ◌+◌, ◌≤◌, List, Option}
use Rattle.copy_ops.specs.declared.arg.CopyArg.{CopyArg}
use Rattle.file_server.specs.Machine.{Going}
use Rattle.file_server.specs.declared.extension.Ask.{Ask}
use Rattle.file_server.specs.declared.extension.Caller.{Caller}
use Rattle.gss_mech.specs.declared.mechanism.Accepted.{Accepted}
use Rattle.nfs_base.specs.declared.limits.TheConstants.{MOST_OPERATIONS}
use Rattle.server_volume.specs.Choices.{Choice}
use Rattle.streams.specs.declared.draws.Drawn.{Drawn}
use Rattle.compound_server.specs.Course.{Service}
use Rattle.compound_server.specs.State.{Parting}
use Rattle.compound_server.specs.declared.client_end.ClientEnd.{ClientEnd}
use Rattle.session_server.specs.Host.{Codes, HostState, Rules, Stepped}
use Rattle.session_server.specs.Steps.{IsTurn, ticked}

-- The relation holds of what is the same, and joins; and it holds between what a server has before and after each of its own
-- rules: before an operation goes on, in an operation of its own, where a client has ended, in a second, and once all is told.
pub record Follows {X C : Type 0} (goes : X → X → Type 0) (service : Service X C) (parting : Parting X) (silenced : X → X) : Type 0 where
  pub same : (x : X) → goes x x
  pub joins : (x y z : X) → goes x y → goes y z → goes x z
  pub gate : (x : X) (caller : Caller) (carry : Option C) (ask : Ask) → goes x (service.gate x caller carry ask).0
  pub serve : (choice : Choice) (caller : Caller) (carry : Option C) (op : CopyArg) (g : Going X)
      → goes g.machine.extra (service.serve choice caller carry op g).going.machine.extra
  pub leave : (client : ℕ) (why : ClientEnd) (x : X) → goes x (parting.leave client why x)
  pub lapse : (second : ℕ) (x : X) → goes x (parting.lapse second x)
  pub silent : (x : X) → goes x (silenced x)

abbrev pub FollowsIn : {X C : Type 0} → (X → X → Type 0) → Rules X C → Type 0
FollowsIn goes rules = Follows goes rules.service rules.parting rules.silent

-- what a server has of its own
abbrev pub own_of : {X C : Type 0} → HostState X C → X
own_of s = s.state.machine.extra

-- in each step in which a record is taken
abbrev pub InTurns : {X C W : Type 0} → (X → X → Type 0) → Rules X C → Codes → (List ℕ → List ℕ → Option Accepted) → (W → Drawn → W → Type 0) → Type 0
InTurns {X} {C} {W} goes rules codes accepted gives =
    (conn : ℕ) (bytes : List ℕ) (now : ℕ) (s : HostState X C) (before after : W) (t : Stepped X C)
    → IsTurn rules codes accepted gives conn bytes now s before after t → goes (own_of s) (own_of t.host)

-- and in a second that comes by itself
abbrev pub InSeconds : {X C : Type 0} → (X → X → Type 0) → Rules X C → Type 0
InSeconds {X} {C} goes rules = (now : ℕ) (s : HostState X C) → goes (own_of s) (own_of (ticked rules now s))

-- ---- what a server gives out of something, as of numbers

-- An operation of its own gives out one at most, and no other of its own rules gives any.
pub record GivesOne {X C : Type 0} (given : X → ℕ) (rules : Rules X C) : Type 0 where
  pub gate : (x : X) (caller : Caller) (carry : Option C) (ask : Ask) → given (rules.service.gate x caller carry ask).0 ≤ given x
  pub serve : (choice : Choice) (caller : Caller) (carry : Option C) (op : CopyArg) (g : Going X)
      → given (rules.service.serve choice caller carry op g).going.machine.extra ≤ given g.machine.extra + 1
  pub leave : (client : ℕ) (why : ClientEnd) (x : X) → given (rules.parting.leave client why x) ≤ given x
  pub lapse : (second : ℕ) (x : X) → given (rules.parting.lapse second x) ≤ given x
  pub silent : (x : X) → given (rules.silent x) ≤ given x

-- as many as a COMPOUND has operations
abbrev pub GivesFew : {X : Type 0} → (X → ℕ) → X → X → Type 0
GivesFew given x y = given y ≤ given x + MOST_OPERATIONS
