use Rattle.std.proofs.Common.{◌≡◌, ℕ, List, Option, Some, None, ap, sym, ◌∙◌}
use Rattle.std.specs.Prelude.{IsSome}
use Rattle.job_table.specs.declared.job.Job.{Job}
use Rattle.job_table.specs.Table.{JobTable, is_job, job_of}
use Rattle.job_table.proofs.Writes.{searched, seen, has_key, found_none, stored_less, seen_less}
use Rattle.job_table.proofs.jobs.Jobs.retire.Goals as goal

pub remove-requires : goal.remove-requires
remove-requires c = has_key (searched c.self.inside.boot c.self.inside.slots c.args.job c.key_of.ensures c.as_slice.ensures.value) c.in-Some.is

pub invariant_of-self : goal.invariant_of-self
invariant_of-self c =
    rw c.forget.ensures
    (stored_less c.self.inside.boot c.self.inside.capacity c.self.inside.made c.self.inside.slots c.remove.new.self c.self.inside.keys.items c.args.job c.in-Some.key
    c.self.invariant (sym (searched c.self.inside.boot c.self.inside.slots c.args.job c.key_of.ensures c.as_slice.ensures.value).is ∙ c.in-Some.is) c.remove.ensures.updates
    c.remove.ensures.len c.remove.ensures.capacity)

pub returns-in-Some : goal.returns-in-Some
returns-in-Some c =
    ap (λ (ks : List ℕ). seen c.self.inside.boot c.self.inside.capacity c.self.inside.made c.remove.new.self ks) c.forget.ensures
    ∙ seen_less c.self.inside.boot c.self.inside.capacity c.self.inside.made c.self.inside.slots c.remove.new.self c.self.inside.keys.items c.args.job c.in-Some.key
    c.args.self.now c.self.view_is (sym (searched c.self.inside.boot c.self.inside.slots c.args.job c.key_of.ensures c.as_slice.ensures.value).is ∙ c.in-Some.is) c.remove.ensures.updates

pub returns-in_default : goal.returns-in_default
returns-in_default c =
    let none : None ≡ job_of c.args.self.now c.args.job =
    found_none (is_job c.self.inside.boot c.args.job) c.self.inside.slots c.self.inside.keys.items c.key_of.result (searched c.self.inside.boot c.self.inside.slots c.args.job c.key_of.ensures c.as_slice.ensures.value).is c.in_default.is ∙ ap (λ (t : JobTable). job_of t c.args.job) c.self.view_is in
    absurd (no_job _ none c.requires)
  where
    no_job : (o : Option Job) → None ≡ o → IsSome o → ⊥
    no_job None is some = cc
    no_job (Some x) is some = cc
