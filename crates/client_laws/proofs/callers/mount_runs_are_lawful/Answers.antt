use Rattle.client_laws.proofs.MountRuns.{run_keeps, run_obeys}
use Rattle.client_laws.proofs.callers.mount_runs_are_lawful.Goals as goal

pub returns : goal.returns
returns g c = record {
  laws = λ mech principal who steps a b m n run spelled good.
      run_obeys who _ (c.steps_are_lawful.ensures.laws mech principal who) (c.steps_are_lawful.ensures.good mech principal who) steps a b m n run spelled good;
  good = λ mech principal who steps a b m n run spelled good.
      run_keeps who _ (c.steps_are_lawful.ensures.good mech principal who) steps a b m n run spelled good;
}
