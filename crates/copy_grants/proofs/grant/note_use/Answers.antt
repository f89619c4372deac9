use Rattle.std.proofs.Common.{◌==◌}
use Rattle.nfs_base.specs.ChangedLaws.{changed_by, unchanged_by}
use Rattle.copy_grants.specs.declared.grant.Grant.{Grant}
use Rattle.copy_grants.proofs.grant.note_use.Goals as goal

pub returns-in-Some-clause-items : goal.returns-in-Some-clause-items
returns-in-Some-clause-items c =
    let f : Grant → Grant = λ g. record g { used = c.args.now } in
    changed_by (λ g. g.number == c.args.number) f c.args.grants.now.items c.place_of.result c.in-Some.at c.index_mut.result.now (rw c.as_slice.ensures.value at c.place_of.ensures) c.in-Some.is c.index_mut.ensures.value

pub returns-in_default-clause-items : goal.returns-in_default-clause-items
returns-in_default-clause-items c =
    let f : Grant → Grant = λ g. record g { used = c.args.now } in
    unchanged_by (λ g. g.number == c.args.number) f c.args.grants.now.items c.place_of.result (rw c.as_slice.ensures.value at c.place_of.ensures) c.in_default.is
