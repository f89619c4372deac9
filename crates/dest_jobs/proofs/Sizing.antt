-- A job gets room for its chunks, and then its length.
use Rattle.std.proofs.Common.{◌≡◌, ℕ, ◌≤◌, Bool, true, false, List, [], ◌∷◌, refl, sym, ap, subst, ◌∙◌}
use Rattle.std.specs.Prelude.{find, if◌then◌else◌, IfSome, IsSome, Option, Some, None, option_map}
use Rattle.job_log.specs.Log.{JobView, sized}
use Rattle.job_table.specs.declared.job.Job.{Job}
use Rattle.job_table.specs.declared.job.JobId.{JobId}
use Rattle.job_table.specs.Table.{CanSize, GetsRoom, JobTable, changed, is_job, with_log}
use Rattle.job_book.specs.Book.{BookView, id_of, named}
use Rattle.job_book.specs.Working.{with_its}
use Rattle.nfs_base.specs.declared.job.JobName.{JobName}
use Rattle.dest_jobs.specs.Progress.{MaySize}

-- ---- the first job of a name, twice changed

twice_at : (test : Job → Bool) (f g : Job → Job) (x : Job) (xs : List Job) (b : Bool) → test x ≡ b → test (g x) ≡ test x
    → changed test f (changed test g xs) ≡ changed test (λ y. f (g y)) xs
    → changed test f (if b then g x ∷ xs else x ∷ changed test g xs) ≡ (if b then f (g x) ∷ xs else x ∷ changed test (λ y. f (g y)) xs)
twice_at test f g x xs true is keeps rest = rw (keeps, is) refl
twice_at test f g x xs false is keeps rest = rw is (ap (λ (ys : List Job). x ∷ ys) rest)

twice : (test : Job → Bool) (f g : Job → Job) (xs : List Job) → ((x : Job) → test (g x) ≡ test x)
    → changed test f (changed test g xs) ≡ changed test (λ y. f (g y)) xs
twice test f g [] keeps = refl
twice test f g (x ∷ xs) keeps = twice_at test f g x xs (test x) refl (keeps x) (twice test f g xs keeps)

abbrev relogged : (JobView → JobView) → Job → Job
relogged f job = record job { log = f job.log }

logged_twice : (t : JobTable) (id : JobId) (f g : JobView → JobView) → with_log (with_log t id g) id f ≡ with_log t id (λ log. f (g log))
logged_twice t id f g = ap (λ (jobs : List Job). record t { jobs = jobs }) (twice (is_job t.boot id) (relogged f) (relogged g) t.jobs (λ x. refl))

abbrev roomy : ℕ → JobView → JobView
roomy spare log = record log { spare = spare }

pub sized_book : (b c : BookView) (name : JobName) (spare len : ℕ) → c.table ≡ with_log b.table (id_of name) (λ log. record log { spare = spare }) → c.past ≡ b.past
    → with_its name (λ log. sized log len) c ≡ with_its name (λ log. sized (record log { spare = spare }) len) b
sized_book b c name spare len table past =
    let first : with_its name (λ log. sized log len) c ≡ record { table = with_log (with_log b.table (id_of name) (roomy spare)) (id_of name) (λ log. sized log len); past = c.past } =
    ap (λ (t : JobTable). record { table = with_log t (id_of name) (λ log. sized log len); past = c.past }) table in
    first
    ∙ ap (λ (t : JobTable). record { table = t; past = c.past }) (logged_twice b.table (id_of name) (λ log. sized log len) (roomy spare))
    ∙ ap (λ (n : ℕ). record { table = with_log b.table (id_of name) (λ log. sized (roomy spare log) len); past = n }) past

-- ---- what the length wants of the job is as before

found_at : (test : Job → Bool) (g : Job → Job) (x : Job) (xs : List Job) (b : Bool) → test x ≡ b → test (g x) ≡ test x
    → find test (changed test g xs) ≡ option_map g (find test xs)
    → find test (if b then g x ∷ xs else x ∷ changed test g xs) ≡ option_map g (if b then Some x else find test xs)
found_at test g x xs true is keeps rest = rw (keeps, is) refl
found_at test g x xs false is keeps rest = rw is rest

found : (test : Job → Bool) (g : Job → Job) (xs : List Job) → ((x : Job) → test (g x) ≡ test x) → find test (changed test g xs) ≡ option_map g (find test xs)
found test g [] keeps = refl
found test g (x ∷ xs) keeps = found_at test g x xs (test x) refl (keeps x) (found test g xs keeps)

named_roomy : (t : JobTable) (name : JobName) (spare : ℕ) → named (with_log t (id_of name) (λ log. record log { spare = spare })) name ≡ option_map (relogged (roomy spare)) (named t name)
named_roomy t name spare = found (is_job t.boot (id_of name)) (relogged (roomy spare)) t.jobs (λ x. refl)

there_at : (spare : ℕ) (job : Option Job) → IsSome job → IsSome (option_map (relogged (roomy spare)) job)
there_at spare (Some job) there = refl
there_at spare None there = absurd (cc)

can_at : (capacity len spare : ℕ) (job : Option Job) → len ≤ spare → IfSome job (MaySize capacity len)
    → IfSome (option_map (relogged (roomy spare)) job) (λ j. CanSize capacity j len)
can_at capacity len spare None room may = tt
can_at capacity len spare (Some job) room may =
    record { not_sized = may.not_sized; running = may.running; asked = may.asked; fits = may.fits; room = room }

pub there_still : (t u : JobTable) (name : JobName) (len : ℕ) → GetsRoom t u (id_of name) len → IsSome (named t name) → IsSome (named u name)
there_still t u name len room there =
    subst (λ (v : JobTable). IsSome (named v name)) (sym room.only)
    (subst (λ (job : Option Job). IsSome job) (sym (named_roomy t name room.spare)) (there_at room.spare (named t name) there))

pub can_size : (t u : JobTable) (name : JobName) (len : ℕ) → GetsRoom t u (id_of name) len → IfSome (named t name) (MaySize t.capacity len)
    → IfSome (named u name) (λ job. CanSize u.capacity job len)
can_size t u name len room may =
    subst (λ (v : JobTable). IfSome (named v name) (λ job. CanSize v.capacity job len)) (sym room.only)
    (subst (λ (found : Option Job). IfSome found (λ job. CanSize t.capacity job len)) (sym (named_roomy t name room.spare))
    (can_at t.capacity len room.spare (named t name) room.enough may))
