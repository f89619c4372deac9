use Rattle.std.proofs.Common.{◌∙◌, sym}
use Rattle.wire_schedule.proofs.ExpansionLemmas.{rounds_after, rounds_small}
use Rattle.wire_schedule.proofs.context.Context.after_rounds.Goals as goal

pub after_plain-requires : goal.after_plain-requires
after_plain-requires c = rounds_small c.args.self c.args.times c.requires

pub returns : goal.returns
returns c = c.after_plain.ensures ∙ sym (rounds_after c.args.times c.args.self)
