-- A mount whose numbers are below their bounds, and whose handles, tokens and calls are bytes.
use Rattle.std.specs.Prelude.{ℕ, ◌+◌, ◌<◌, ◌≤◌, ◌^◌, IfSome, Option, Some, None, slice_index}
use Rattle.std.specs.List.{AllByRecursion}
use Rattle.caller_laws.specs.Fitting.Asking.{AskedIsFit}
use Rattle.caller_laws.specs.Fitting.Bounds.{FixedFits}
use Rattle.mount.specs.State.{Mounted, awaited_at}
use Rattle.mount.specs.declared.state.Awaiting.{Awaiting}
use Rattle.mount.specs.declared.state.Context.{Context}
use Rattle.mount.specs.declared.state.Pending.{Pending}
use Rattle.mount.specs.declared.state.Pending.TheVariants.{Init, Under}
use Rattle.mount.specs.declared.state.Root.{Root}
use Rattle.mount.specs.declared.state.Standing.{Standing}
use Rattle.mount.specs.declared.state.Standing.TheVariants.{Down, Rooted}
use Rattle.session_client.specs.Pending.{Beginning}
use Rattle.session_client.specs.declared.setup.Setup.{Setup}
use Rattle.session_client.specs.declared.setup.Setup.TheVariants as setups
use Rattle.wire_xdr.specs.Cursor.{IsBytes}

-- an INIT: its nonce has 32 bytes
pub record BeginningIsFit (init : Beginning) : Type 0 where
  pub nonce : FixedFits 32 init.nonce
  pub token : IsBytes init.token

abbrev pub PendingIsFit : Pending → Type 0
PendingIsFit (Init init) = BeginningIsFit init
PendingIsFit (Under context aim call) = AskedIsFit call.asked

-- what is awaited at a place
abbrev pub PlaceIsFit : Option Awaiting → Type 0
PlaceIsFit None = Unit {0}
PlaceIsFit (Some a) = PendingIsFit a.pending

-- a context: its handle, and the 8 bytes of its root's
pub record ContextIsFit (c : Context) : Type 0 where
  pub handle : IsBytes c.caller.handle
  pub root : FixedFits 8 c.root

abbrev pub SetupIsFit : Setup → Type 0
SetupIsFit setups.Down = Unit {0}
SetupIsFit (setups.Rooted verifier) = FixedFits 8 verifier
SetupIsFit (setups.Registered client sequence) = (client < 2 ^ 64) × (sequence < 2 ^ 32)
SetupIsFit (setups.Joined client session) = (client < 2 ^ 64) × FixedFits 16 session
SetupIsFit (setups.Up client session) = (client < 2 ^ 64) × FixedFits 16 session

-- No slot's next number is far above the xid of the last call: each new call in a slot has an xid of its own.
pub record RootIsFit (calls : ℕ) (root : Root) : Type 0 where
  pub set_up : SetupIsFit root.setup
  pub numbers : (slot : ℕ) → slice_index root.numbers slot ≤ calls + 1

abbrev pub StandingIsFit : ℕ → Standing → Type 0
StandingIsFit calls (Down kept) = IfSome kept BeginningIsFit
StandingIsFit calls (Rooted root) = RootIsFit calls root

pub record MountIsFit (m : Mounted) : Type 0 where
  pub contexts : AllByRecursion ContextIsFit m.contexts
  pub standing : StandingIsFit m.calls m.standing
  pub places : (place : ℕ) → PlaceIsFit (awaited_at m place)
