use Rattle.std.proofs.Common.{ℕ, List, Option, refl, ap, sym, ◌∙◌, subst}
use Rattle.std.specs.Prelude.{IfSome, IsSome, nat_lt}
use Rattle.slab.specs.Slab.{get}
use Rattle.job_table.specs.declared.job.Job.{Job}
use Rattle.job_table.specs.Table.{JobTable, job_above, Names}
use Rattle.job_table.proofs.Writes.{search_by, has_job, found_job, found_none, name_found}
use Rattle.job_table.proofs.jobs.Jobs.next.Goals as goal

pub id_at-requires : goal.id_at-requires
id_at-requires c = has_job (λ job. nat_lt c.args.after job.number) c.self.inside.slots c.self.inside.keys.items c.key_above.result c.in-Some.key (c.key_above.ensures ∙ ap (λ (ks : List ℕ). search_by (λ job. nat_lt c.args.after job.number) c.self.inside.slots ks) c.as_slice.ensures.value) c.in-Some.is

pub returns-in-Some-clause-name : goal.returns-in-Some-clause-name
returns-in-Some-clause-name c =
    subst (λ (t : JobTable). IfSome (job_above t c.args.after) (λ job. Names t.boot job c.id_at.result)) c.self.view_is
    (name_found (λ job. nat_lt c.args.after job.number) c.self.inside.slots c.self.inside.keys.items c.key_above.result c.in-Some.key (λ job. Names c.self.inside.boot job c.id_at.result) (c.key_above.ensures ∙ ap (λ (ks : List ℕ). search_by (λ job. nat_lt c.args.after job.number) c.self.inside.slots ks) c.as_slice.ensures.value) c.in-Some.is c.id_at.ensures)

pub returns-in-Some-clause-exactly : goal.returns-in-Some-clause-exactly
returns-in-Some-clause-exactly c =
    subst (λ (t : JobTable). IsSome (job_above t c.args.after)) c.self.view_is
    (subst (λ (o : Option Job). IsSome o) (found_job (λ job. nat_lt c.args.after job.number) c.self.inside.slots c.self.inside.keys.items c.key_above.result c.in-Some.key (get c.self.inside.slots c.in-Some.key) (c.key_above.ensures ∙ ap (λ (ks : List ℕ). search_by (λ job. nat_lt c.args.after job.number) c.self.inside.slots ks) c.as_slice.ensures.value) c.in-Some.is refl)
    (has_job (λ job. nat_lt c.args.after job.number) c.self.inside.slots c.self.inside.keys.items c.key_above.result c.in-Some.key (c.key_above.ensures ∙ ap (λ (ks : List ℕ). search_by (λ job. nat_lt c.args.after job.number) c.self.inside.slots ks) c.as_slice.ensures.value) c.in-Some.is))

pub returns-in-None-clause-exactly : goal.returns-in-None-clause-exactly
returns-in-None-clause-exactly c =
    ap (λ (t : JobTable). job_above t c.args.after) (sym c.self.view_is)
    ∙ sym (found_none (λ job. nat_lt c.args.after job.number) c.self.inside.slots c.self.inside.keys.items c.key_above.result (c.key_above.ensures ∙ ap (λ (ks : List ℕ). search_by (λ job. nat_lt c.args.after job.number) c.self.inside.slots ks) c.as_slice.ensures.value) c.in-None.is)
