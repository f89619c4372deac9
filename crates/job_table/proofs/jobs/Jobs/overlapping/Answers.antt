use Rattle.std.proofs.Common.{ℕ, List, Option, refl, ap, sym, ◌∙◌, subst}
use Rattle.std.specs.Prelude.{IfSome, IsSome}
use Rattle.slab.specs.Slab.{get}
use Rattle.job_table.specs.declared.job.Job.{Job}
use Rattle.job_table.specs.Table.{JobTable, overlapped, overlaps, Names}
use Rattle.job_table.proofs.Writes.{search_by, has_job, found_job, found_none, name_found}
use Rattle.job_table.proofs.jobs.Jobs.overlapping.Goals as goal

pub id_at-requires : goal.id_at-requires
id_at-requires c = has_job (overlaps c.self.inside.capacity c.args.plan.now) c.self.inside.slots c.self.inside.keys.items c.key_met.result c.in-Some.key (c.key_met.ensures ∙ ap (λ (ks : List ℕ). search_by (overlaps c.self.inside.capacity c.args.plan.now) c.self.inside.slots ks) c.as_slice.ensures.value) c.in-Some.is

pub returns-in-Some-clause-name : goal.returns-in-Some-clause-name
returns-in-Some-clause-name c =
    subst (λ (t : JobTable). IfSome (overlapped t c.args.plan.now) (λ job. Names t.boot job c.id_at.result)) c.self.view_is
    (name_found (overlaps c.self.inside.capacity c.args.plan.now) c.self.inside.slots c.self.inside.keys.items c.key_met.result c.in-Some.key (λ job. Names c.self.inside.boot job c.id_at.result) (c.key_met.ensures ∙ ap (λ (ks : List ℕ). search_by (overlaps c.self.inside.capacity c.args.plan.now) c.self.inside.slots ks) c.as_slice.ensures.value) c.in-Some.is c.id_at.ensures)

pub returns-in-Some-clause-exactly : goal.returns-in-Some-clause-exactly
returns-in-Some-clause-exactly c =
    subst (λ (t : JobTable). IsSome (overlapped t c.args.plan.now)) c.self.view_is
    (subst (λ (o : Option Job). IsSome o) (found_job (overlaps c.self.inside.capacity c.args.plan.now) c.self.inside.slots c.self.inside.keys.items c.key_met.result c.in-Some.key (get c.self.inside.slots c.in-Some.key) (c.key_met.ensures ∙ ap (λ (ks : List ℕ). search_by (overlaps c.self.inside.capacity c.args.plan.now) c.self.inside.slots ks) c.as_slice.ensures.value) c.in-Some.is refl)
    (has_job (overlaps c.self.inside.capacity c.args.plan.now) c.self.inside.slots c.self.inside.keys.items c.key_met.result c.in-Some.key (c.key_met.ensures ∙ ap (λ (ks : List ℕ). search_by (overlaps c.self.inside.capacity c.args.plan.now) c.self.inside.slots ks) c.as_slice.ensures.value) c.in-Some.is))

pub returns-in-None-clause-exactly : goal.returns-in-None-clause-exactly
returns-in-None-clause-exactly c =
    ap (λ (t : JobTable). overlapped t c.args.plan.now) (sym c.self.view_is)
    ∙ sym (found_none (overlaps c.self.inside.capacity c.args.plan.now) c.self.inside.slots c.self.inside.keys.items c.key_met.result (c.key_met.ensures ∙ ap (λ (ks : List ℕ). search_by (overlaps c.self.inside.capacity c.args.plan.now) c.self.inside.slots ks) c.as_slice.ensures.value) c.in-None.is)
