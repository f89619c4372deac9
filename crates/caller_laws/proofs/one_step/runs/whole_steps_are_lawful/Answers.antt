use Rattle.caller_laws.proofs.one_step.runs.whole_steps_are_lawful.Goals as goal
use Rattle.caller_laws.specs.OneStep.Runs.{whole}
use Rattle.caller_laws.specs.View.{caller_of}
use Rattle.mount.specs.Taking.{Means}
use Rattle.wire_spelling.specs.Spelling.{spelling}

pub returns : goal.returns
returns g c mech principal who a b m n shown step spelled good =
    let means : Means = record { mic = g.M.Mechanism.mic_of; derived = g.M.Mechanism.derived; finished = g.M.Mechanism.finished mech principal } in
    let one = c.runs_are_lawful.ensures mech principal who step.steps a step.middle m n step.run spelled step.ordered good in
    record {
      laws =
          c.others_go_beside.ensures (spelling who.accepts who.whose) m.server who.own (caller_of a m) (caller_of step.middle n) (caller_of b n)
          (whole means step.steps m) shown one.laws
          (record { besides = step.besides; opening = one.opening; stays = step.stays; calls = one.calls; takes = step.takes; out = step.out; are = step.are });
      good = one.good;
      server = one.server;
    }
