use Rattle.std.proofs.Common.{rules, ap, ◌∙◌}
use Rattle.std.specs.Prelude.{not, filter}
use Rattle.std.proofs.lemmas.Fn.{filter_same}
use Rattle.slab.specs.Slab.{get}
use Rattle.job_table.specs.Keys.{Keys}
use Rattle.job_table.specs.Table.{is_job, passes}
use Rattle.job_table.proofs.key_row.KeyRow.forget.Goals as goal

pub returns : goal.returns
returns c =
    filter_same _ _ _ (λ x b f' k. search rules) _ _ c.retain.ensures.filtered
    ∙ ap (λ (row : Keys). filter (λ key. not (passes (is_job c.args.boot c.args.id) (get c.args.slots.now key))) row.items) c.self.view_is
