-- A step of a destination, as its source sees it: a run of the steps of its mount there, and the rest is nothing to the source.
use Rattle.std.specs.Prelude.{◌≡◌, ℕ, false, List, Option, Some}
use Rattle.std.specs.List.{AllByRecursion}
use Rattle.caller_laws.specs.Good.{Identity, IsOwnToken}
use Rattle.caller_laws.specs.OneStep.Whole.{IsWholeStep}
use Rattle.caller_laws.specs.View.{Above}
use Rattle.dest_core.specs.Stepping.{DestState, copier_in}
use Rattle.dest_laws.specs.Calls.Fits.{MovesAreFit, SendsAreFit}
use Rattle.dest_laws.specs.Calls.Settled.{AreClients}
use Rattle.dest_laws.specs.View.View.{above_in}
use Rattle.mount.specs.State.{Mounted}
use Rattle.mount.specs.Taking.{Means}
use Rattle.outbox.specs.declared.outgoing.Outgoing.{Outgoing}
use Rattle.streams.specs.declared.draws.Drawn.{Drawn}
use Rattle.streams.specs.declared.draws.Drawn.TheVariants.{Got}
use Rattle.wire_model.specs.Wire.{Acts}
use Rattle.wire_spelling.specs.Replies.{is_reply}

-- its mount of the source, and what it adds to that
abbrev pub mount_of : {M : Type 0} → DestState M → Mounted
mount_of s = (copier_in s).work.mount

abbrev pub above_of : {M : Type 0} → DestState M → Above
above_of s = above_in s.state.machine.store.volume.boot (copier_in s)

-- From this state to that one, where this is shown: where what is sent keeps to the bounds, all of the step does; callbacks stay under
-- contexts of the clients'.
pub record IsSeen {M : Type 0} (who : Identity) (means : Means) (s t : DestState M) (shown : Acts) : Type 0 where
  pub step : IsWholeStep who means (above_of s) (above_of t) (mount_of s) (mount_of t) shown
  pub fits : SendsAreFit step.steps → MovesAreFit means step.steps (mount_of s)
  pub clients : AreClients (copier_in t).back

-- where nothing is asked that wasn't before
pub record IsSeenPlain {M : Type 0} (who : Identity) (means : Means) (s t : DestState M) (shown : Acts) : Type 0 where
  pub seen : IsSeen who means s t shown
  pub sends : SendsAreFit seen.step.steps

-- where what is asked keeps to the bounds where this holds
pub record IsSeenWhere {M : Type 0} (fit : Type 0) (who : Identity) (means : Means) (s t : DestState M) (shown : Acts) : Type 0 where
  pub seen : IsSeen who means s t shown
  pub sends : fit → SendsAreFit seen.step.steps

-- what goes out are calls
abbrev pub AreCalls : List Outgoing → Type 0
AreCalls sent = AllByRecursion (λ (o : Outgoing). is_reply o.bytes ≡ false) sent

-- The tokens that it starts with drawn nonces are its own; `tokens_are_their_senders` of `caller_laws` says so of every mechanism.
abbrev pub StartsOwn : {W : Type 0} → Identity → (started : List ℕ → Option (List ℕ)) → (W → Drawn → W → Type 0) → Type 0
StartsOwn {W} who started gives =
    (v w : W) (nonce token : List ℕ) → gives v (Got nonce) w → started nonce ≡ Some token → IsOwnToken who token
