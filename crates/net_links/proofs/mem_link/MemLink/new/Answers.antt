use Rattle.std.proofs.Common.{rules}
use Rattle.net_links.proofs.Plans.{made_new}
use Rattle.net_links.proofs.mem_link.MemLink.new.Goals as goal

pub returns-clause-new : goal.returns-clause-new
returns-clause-new c = made_new _ c.args.connection (search rules)
