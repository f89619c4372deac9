use Rattle.std.proofs.Common.{◌∙◌, sym}
use Rattle.wire_schedule.proofs.ExpansionLemmas.{flows_after, flows_small}
use Rattle.wire_schedule.proofs.context.Context.after_flows.Goals as goal

pub after_plain-requires : goal.after_plain-requires
after_plain-requires c = flows_small c.args.self c.args.times c.requires

pub returns : goal.returns
returns c = c.after_plain.ensures ∙ sym (flows_after c.args.times c.args.self)
