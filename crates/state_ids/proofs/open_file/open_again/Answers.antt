use Rattle.state_ids.specs.Opens.{is_same, opened_again}
use Rattle.nfs_base.specs.ChangedLaws.{changed_by, unchanged_by}
use Rattle.state_ids.proofs.open_file.open_again.Goals as goal

pub returns-in-Some-clause-items : goal.returns-in-Some-clause-items
returns-in-Some-clause-items c =
    rw c.open_again.ensures
    (changed_by (is_same c.args.client c.args.owner.now c.args.file) (opened_again c.args.access) c.args.opens.now.items c.place_of.result c.in-Some.at c.index_mut.result.now (rw c.as_slice.ensures.value at c.place_of.ensures) c.in-Some.is c.index_mut.ensures.value)

pub returns-in_default-clause-items : goal.returns-in_default-clause-items
returns-in_default-clause-items c =
    unchanged_by (is_same c.args.client c.args.owner.now c.args.file) (opened_again c.args.access) c.args.opens.now.items c.place_of.result (rw c.as_slice.ensures.value at c.place_of.ensures) c.in_default.is
