use Rattle.std.proofs.Common.{sym, ◌∙◌}
use Rattle.disk_model.proofs.Stored.{base_kept}
use Rattle.disk_model.specs.Disk.{zero_block}
use Rattle.disk_model.proofs.store.make_place.Goals as goal

pub returns-in_ok-insert-clause-same : goal.returns-in_ok-insert-clause-same
unfolding zero_block
returns-in_ok-insert-clause-same c = λ i b. base_kept c.args.left.now c.insert.new.self c.args.at c.in_ok-new.field-0 b
    (sym c.contains_key.ensures ∙ c.if-not-contains_key.true) c.in_ok-new.ensures.ok c.in_ok-insert.ensures.updates i
