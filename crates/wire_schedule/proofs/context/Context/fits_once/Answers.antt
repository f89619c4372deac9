use Rattle.std.proofs.Common.{◌∙◌}
use Rattle.wire_schedule.proofs.ExpansionLemmas.{once_fits}
use Rattle.wire_schedule.proofs.context.Context.fits_once.Goals as goal

pub returns : goal.returns
returns c = c.admits.ensures ∙ once_fits c.args.self.now c.args.event.now
