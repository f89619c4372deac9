use Rattle.std.proofs.Common.{◌≡◌, ℕ, ◌+◌, ◌≤◌, ◌<◌, List, [], ◌∷◌, ◌++◌, length, None, refl, ap, sym, ◌∙◌, subst, arith}
use Rattle.copy_model.specs.Job.{size_of}
use Rattle.job_log.specs.Log.{JobView}
use Rattle.slab.specs.Slab.{get}
use Rattle.job_table.specs.declared.job.Job.{Job}
use Rattle.job_table.specs.Table.{JobTable, overlapped, with_job}
use Rattle.job_table.specs.Stored.{jobs_at, IsStored}
use Rattle.job_table.proofs.KeyRows.{length_values}
use Rattle.job_table.proofs.Tables.{table_push}
use Rattle.job_table.proofs.Writes.{seen, stored_more, jobs_more}
use Rattle.job_table.proofs.jobs.Jobs.add.Goals as goal

pub insert_reserved-key-requires : goal.insert_reserved-key-requires
insert_reserved-key-requires c =
    let few : length (jobs_at c.self.inside.slots c.self.inside.keys.items) < 16 = subst (λ (t : JobTable). length t.jobs < 16) (sym c.self.view_is) c.requires.few in
    let keys = length_values (λ k. get c.self.inside.slots k) c.self.inside.keys.items c.self.invariant.filled in
    let no_other = c.self.invariant.no_other in
    let room = c.self.invariant.room in
    omega arith

pub push-requires : goal.push-requires
push-requires c =
    let few : length (jobs_at c.self.inside.slots c.self.inside.keys.items) < 16 = subst (λ (t : JobTable). length t.jobs < 16) (sym c.self.view_is) c.requires.few in
    let keys = length_values (λ k. get c.self.inside.slots k) c.self.inside.keys.items c.self.invariant.filled in
    omega arith

pub invariant_of-self : goal.invariant_of-self
invariant_of-self c =
    let y : Job = record { number = c.self.inside.made + 1; plan = c.args.plan; log = c.args.log } in
    let few : JobTable → Type 0 = λ t. length t.jobs < 16 in
    let fits : JobTable → Type 0 = λ t. c.args.plan.dst_off + c.args.plan.count ≤ t.capacity in
    let apart : JobTable → Type 0 = λ t. overlapped t c.args.plan ≡ None in
    subst (λ (ks : List ℕ). IsStored c.self.inside.capacity (c.self.inside.made + 1) c.insert_reserved-key.new.self ks) (sym c.push.ensures.items)
    (stored_more c.self.inside.capacity c.self.inside.made c.self.inside.slots c.insert_reserved-key.new.self c.self.inside.keys.items c.insert_reserved-key.result y c.self.invariant
    c.insert_reserved-key.ensures.was_vacant c.insert_reserved-key.ensures.updates c.insert_reserved-key.ensures.len c.insert_reserved-key.ensures.capacity
    (table_push c.self.inside.capacity c.self.inside.made (jobs_at c.self.inside.slots c.self.inside.keys.items) y c.self.invariant.table
    (subst few (sym c.self.view_is) c.requires.few) refl
    (ap (λ (v : JobView). v.consecutive) c.requires.new) (ap (λ (v : JobView). size_of v.entries) c.requires.new)
    (subst fits (sym c.self.view_is) c.requires.fits) (subst apart (sym c.self.view_is) c.requires.apart)))

pub returns-clause-done : goal.returns-clause-done
returns-clause-done c =
    let y : Job = record { number = c.self.inside.made + 1; plan = c.args.plan; log = c.args.log } in
    let put : List Job → JobTable = λ js. record { boot = c.self.inside.boot; capacity = c.self.inside.capacity; made = c.self.inside.made + 1; jobs = js } in
    ap (λ (ks : List ℕ). seen c.self.inside.boot c.self.inside.capacity (c.self.inside.made + 1) c.insert_reserved-key.new.self ks) c.push.ensures.items
    ∙ ap put (jobs_more c.self.inside.capacity c.self.inside.made c.self.inside.slots c.insert_reserved-key.new.self c.self.inside.keys.items c.insert_reserved-key.result y c.self.invariant
    c.insert_reserved-key.ensures.was_vacant c.insert_reserved-key.ensures.updates)
    ∙ ap (λ (v : JobView). put (jobs_at c.self.inside.slots c.self.inside.keys.items ++ record { number = c.self.inside.made + 1; plan = c.args.plan; log = v } ∷ [])) c.requires.new
    ∙ ap (λ (t : JobTable). with_job t c.args.plan) c.self.view_is
