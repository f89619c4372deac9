use Rattle.std.proofs.Common.{◌≡◌, ◌∙◌, sym, None, Some, ℕ, Bool, true}
use Rattle.caller_laws.specs.Good.{Identity, IsGood}
use Rattle.caller_laws.specs.View.{Above, caller_of}
use Rattle.client_core.specs.State.{new_client}
use Rattle.client_core.specs.Telling.{mount_at}
use Rattle.client_laws.proofs.RunWords.{none_at}
use Rattle.client_laws.specs.CallerLaws.{PurposesFit, above_at}
use Rattle.client_steps.specs.declared.setting.Setting.{Setting}
use Rattle.mount.specs.State.{fresh}
use Rattle.nfs_base.specs.declared.seal.End.{End}
use Rattle.nfs_base.specs.declared.seal.End.TheVariants as ends
use Rattle.nfs_base.specs.declared.side.Side.{Side}
use Rattle.nfs_base.specs.declared.side.Side.TheVariants.{Source, Dest}
use Rattle.wire_model.specs.CallerLaws.{CallerStart}
use Rattle.wire_model.specs.Wire.{Purpose}
use Rattle.client_laws.proofs.callers.clients_begin_lawful.Goals as goal

begins_good : {M : Type 0} → ((who : Identity) (server : End) (reclaims : Bool) → IsGood who (fresh server reclaims)) → (who : Identity) (side : Side) (s : Setting M)
    → IsGood who (mount_at side (new_client s))
begins_good good who Source s = good who ends.Source true
begins_good good who Dest s = good who ends.Dest true

begins_lawful : {M : Type 0} → ((above : Above) (server : End) (reclaims : Bool) → CallerStart (caller_of above (fresh server reclaims))) → (boot : ℕ) (purpose : ℕ → Purpose) (side : Side)
    (s : Setting M) → CallerStart (caller_of (above_at boot purpose (new_client s)) (mount_at side (new_client s)))
begins_lawful start boot purpose Source s = start (above_at boot purpose (new_client s)) ends.Source true
begins_lawful start boot purpose Dest s = start (above_at boot purpose (new_client s)) ends.Dest true

begins_fit : {M : Type 0} (purpose : ℕ → Purpose) (side : Side) (s : Setting M) → PurposesFit side purpose (new_client s).copies
begins_fit purpose side s = record {
  each = λ j some copy there.
      let gone : None ≡ Some copy = sym (none_at j) ∙ there in
      absurd cc;
}

pub returns : goal.returns
returns g c = record {
  good = λ who side s. begins_good c.mounts_begin_lawful.ensures.good who side s;
  fits = λ purpose side s. begins_fit purpose side s;
  start = λ boot purpose side s. begins_lawful c.mounts_begin_lawful.ensures.start boot purpose side s;
}
