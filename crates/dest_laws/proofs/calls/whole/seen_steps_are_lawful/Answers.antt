use Rattle.dest_laws.proofs.calls.Staying.{own_laws, shown_laws, stays}
use Rattle.dest_laws.proofs.calls.whole.seen_steps_are_lawful.Goals as goal
use Rattle.dest_laws.specs.Calls.Steps.{above_of, mount_of}
use Rattle.dest_laws.specs.View.Steps.{part_by}
use Rattle.mount.specs.Taking.{Means}
use Rattle.wire_machine.specs.History.{part_acts}

pub returns : goal.returns
returns g c = record {
  laws = λ mech principal who s t shown seen spelled settled.
      let means : Means = record { mic = g.M.Mechanism.mic_of; derived = g.M.Mechanism.derived; finished = g.M.Mechanism.finished mech principal } in
      own_laws who means s t shown settled
      (c.whole_steps_are_lawful.ensures mech principal who (above_of s) (above_of t) (mount_of s) (mount_of t) shown seen.step spelled settled.good);
  settled = λ mech principal who s t shown seen spelled settled deeds.
      let means : Means = record { mic = g.M.Mechanism.mic_of; derived = g.M.Mechanism.derived; finished = g.M.Mechanism.finished mech principal } in
      stays who means s t shown seen settled
      (c.whole_steps_are_lawful.ensures mech principal who (above_of s) (above_of t) (mount_of s) (mount_of t) shown seen.step spelled settled.good) deeds;
  shown = λ mech principal who meaning y k took speaker executed d t shows seen spelled settled own.
      let means : Means = record { mic = g.M.Mechanism.mic_of; derived = g.M.Mechanism.derived; finished = g.M.Mechanism.finished mech principal } in
      let shown = part_acts (part_by took speaker t) executed in
      shown_laws who means meaning y k took speaker executed d t shows own
      (own_laws who means d t.host shown settled
      (c.whole_steps_are_lawful.ensures mech principal who (above_of d) (above_of t.host) (mount_of d) (mount_of t.host) shown seen.step spelled settled.good));
}
