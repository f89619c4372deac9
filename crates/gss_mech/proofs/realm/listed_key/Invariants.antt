use Rattle.std.proofs.Common.{◌≡◌, drop}
use Rattle.gss_mech.specs.Realm.{listed_key}
use Rattle.gss_mech.proofs.realm.listed_key.Given as goal

abbrev pub invariant-loop-entry : goal.invariant-loop-entry
invariant-loop-entry l = listed_key l.keys l.name ≡ listed_key (drop l.entry-index l.keys) l.name
