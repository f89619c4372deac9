use Rattle.std.proofs.Common.{◌≡◌, ◌∙◌, refl}
use Rattle.caller_laws.specs.Good.{Identity, IsGood}
use Rattle.client_core.specs.State.{new_client}
use Rattle.client_core.specs.Telling.{mount_at}
use Rattle.client_laws.proofs.BackOwner.{turn_owner}
use Rattle.client_laws.proofs.WholeRuns.{Knows}
use Rattle.client_laws.proofs.Wholes.{good_after, server_after}
use Rattle.client_site.specs.Sites.{end_of}
use Rattle.client_steps.specs.declared.setting.Setting.{Setting}
use Rattle.mount.specs.State.{fresh}
use Rattle.mount.specs.Taking.{Means}
use Rattle.nfs_base.specs.declared.seal.End.{End}
use Rattle.nfs_base.specs.declared.seal.End.TheVariants as ends
use Rattle.nfs_base.specs.declared.side.Side.{Side}
use Rattle.nfs_base.specs.declared.side.Side.TheVariants.{Source, Dest}
use Rattle.std.proofs.Common.{Bool, true}
use Rattle.client_laws.proofs.whole.clients_stay_settled.Goals as goal

begins_good : {M : Type 0} → ((who : Identity) (server : End) (reclaims : Bool) → IsGood who (fresh server reclaims)) → (who : Identity) (s : Setting M) (side : Side)
    → IsGood who (mount_at side (new_client s))
begins_good good who s Source = good who ends.Source true
begins_good good who s Dest = good who ends.Dest true

begins_at : {M : Type 0} (s : Setting M) (side : Side) → (mount_at side (new_client s)).server ≡ end_of side
begins_at s Source = refl
begins_at s Dest = refl

pub returns : goal.returns
returns g c =
    record {
      begin = λ who s. record { good = λ side. begins_good c.mounts_begin_lawful.ensures.good who s side; server = λ side. begins_at s side; owner = refl };
      stay = λ s who boot purposes turn before after v w out t step settled bytes spelled.
          let means : Means = record { mic = g.M.Mechanism.mic_of; derived = g.M.Mechanism.derived; finished = g.M.Mechanism.finished s.mech s.me } in
          let knows : Knows who means = record {
            keeps = c.steps_are_lawful.ensures.good s.mech s.me who;
            server = c.servers_stay.ensures means;
            xids = c.calls_have_their_xids.ensures s.mech s.me who;
            one = c.runs_are_lawful.ensures s.mech s.me who;
          } in
          record {
            good = λ side. good_after who _ knows boot purposes turn before after out t settled c.tokens_agree.ensures.codes bytes spelled side;
            server = λ side. server_after who _ knows boot purposes turn before after out t settled c.tokens_agree.ensures.codes bytes spelled side;
            owner = turn_owner _ _ turn before v w (after, out) step ∙ settled.owner;
          };
    }
