-- What holds of every book still does when a job has another log.
use Rattle.std.proofs.Common.{◌≡◌, ℕ, suc, ◌+◌, ◌*◌, ◌^◌, ◌≤◌, Bool, true, false, List, [], ◌∷◌, length, refl, sym, ap, subst, ◌∙◌, arith}
use Rattle.std.specs.Prelude.{if◌then◌else◌, Result, Ok, Err, OnErr, OnOk}
use Rattle.job_log.specs.Log.{JobView}
use Rattle.job_table.specs.declared.job.Job.{Job}
use Rattle.job_table.specs.declared.job.JobId.{JobId}
use Rattle.job_table.specs.Table.{GetsRoom, JobTable, changed, is_job, with_log}
use Rattle.job_book.specs.Book.{IsWithin}

as_many_at : {X : Type 0} (f : X → X) (x : X) (xs ys : List X) (b : Bool) → length ys ≡ length xs
    → length (if b then f x ∷ xs else x ∷ ys) ≡ suc (length xs)
as_many_at f x xs ys true same = refl
as_many_at f x xs ys false same = ap (λ n. suc n) same

as_many : {X : Type 0} (test : X → Bool) (f : X → X) (xs : List X) → length (changed test f xs) ≡ length xs
as_many test f [] = refl
as_many test f (x ∷ xs) = as_many_at f x xs (changed test f xs) (test x) (as_many test f xs)

pub within_logged : (past : ℕ) (t u : JobTable) (id : JobId) (f : JobView → JobView) → u ≡ with_log t id f → IsWithin past t → IsWithin past u
within_logged past t u id f is within =
    let same = as_many (is_job t.boot id) (λ job. record job { log = f job.log }) t.jobs in
    let P : JobTable → Type 0 = λ v. IsWithin past v in
    let Q : ℕ → Type 0 = λ n. past + n * 2 ^ 64 ≤ t.made * 2 ^ 64 in
    subst P (sym is) (subst Q (sym same) within)

pub within_roomy : {A E : Type 0} (past : ℕ) (t u : JobTable) (id : JobId) (len : ℕ) (told : Result A E) → OnOk told (GetsRoom t u id len) → OnErr told (u ≡ t)
    → IsWithin past t → IsWithin past u
within_roomy past t u id len (Ok x) room same within = within_logged past t u id (λ log. record log { spare = room.spare }) room.only within
within_roomy past t u id len (Err e) room same within = subst (λ v. IsWithin past v) (sym same) within
