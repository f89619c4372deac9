use Rattle.std.proofs.Common.{◌≡◌, List, None, Some, MatchOption, ap, subst}
use Rattle.wire_log.specs.Keeping as keeping
use Rattle.wire_machine.specs.World.{Posted, posted_at}
use Rattle.wire_run.specs.Running.{Running}
use Rattle.wire_run.proofs.system.System.record.Goals as goal

pub returns : goal.returns
returns g c =
    subst (λ (log : List Posted). MatchOption c.record.result (posted_at c.args.number log ≡ None) (λ bytes. keeping.bytes_at log c.args.number ≡ Some bytes.now))
    (ap (λ (r : Running _ _). r.log) c.self.view_is) c.record.ensures
