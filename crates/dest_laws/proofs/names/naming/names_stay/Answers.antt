use Rattle.std.proofs.Common.{◌≡◌, ◌∙◌, ◌+◌, ℕ, ap, arith, sym}
use Rattle.dest_laws.proofs.names.naming.names_stay.Goals as goal
use Rattle.dest_laws.specs.Histories.Linked.{name_at}
use Rattle.nfs_base.specs.declared.job.JobName.{JobName}

pub returns : goal.returns
returns g c = record {
  stays = λ spell meaning s k took speaker executed d t shows by j.
      shows.after.names j ∙ ap (λ (boot : ℕ). name_at boot j) (c.entries_grow_by_deeds.ensures.later by.0 _ _ by.1).boot ∙ sym (shows.before.names j);
  one = λ spell meaning s k took speaker executed d t shows j l below same.
      let numbers : j + 1 ≡ l + 1 = ap (λ (n : JobName). n.number) (sym (shows.after.names j) ∙ same ∙ shows.after.names l) in
      absurd (omega (arith, below, numbers));
}
