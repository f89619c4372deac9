use Rattle.std.proofs.Common.{refl}
use Rattle.mount.specs.Places.{awaits_xid}
use Rattle.mount.proofs.PlaceLemmas.{found_awaits, found_nowhere, found_within}
use Rattle.mount.proofs.finding.found.Goals as goal

pub returns-clause-within : goal.returns-clause-within
returns-clause-within c = found_within (awaits_xid c.args.xid) c.args.places.now c.position_of.result c.position_of.ensures

pub returns-clause-awaits : goal.returns-clause-awaits
returns-clause-awaits c = found_awaits (awaits_xid c.args.xid) c.args.places.now c.position_of.result c.position_of.ensures

pub returns-clause-none : goal.returns-clause-none
returns-clause-none c = found_nowhere (awaits_xid c.args.xid) c.args.places.now c.position_of.result refl c.position_of.ensures
