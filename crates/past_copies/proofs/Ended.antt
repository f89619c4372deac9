-- What a crash makes of the copies of an opening.
use Rattle.std.proofs.Common.{◌≡◌, ℕ, zero, suc, ◌+◌, ◌-◌, ◌<◌, ◌≤◌, Bool, true, List, [], ◌∷◌, length, refl, ap, ◌∙◌, arith, length-append}
use Rattle.std.specs.Prelude.{slice_get, slice_index_or}
use Rattle.nfs_base.specs.declared.job.JobName.{JobName}
use Rattle.opening_laws.specs.Anew.{lost}
use Rattle.past_copies.specs.Past.{ArePast, Past, all_copies, copy_at, ended, name_at, name_of, named_by, past_after}
use Rattle.past_copies.proofs.Ordered.{count}
use Rattle.wire_model.specs.Copies.{Job}

-- ---- how many there are

ended_count : (boot number : ℕ) (jobs : List Job) → length (ended boot number jobs) ≡ length jobs
ended_count boot number [] = refl
ended_count boot number (job ∷ jobs) = ap suc (ended_count boot (number + 1) jobs)

pub count_after : (boot : ℕ) (past : List Past) (jobs : List Job) → length (past_after boot past jobs) ≡ length past + length jobs
count_after boot past jobs = length-append past (ended boot 1 jobs) ∙ ap (λ (n : ℕ). length past + n) (ended_count boot 1 jobs)

at_end : (none : Job) (jobs : List Job) (j : ℕ) → length jobs ≤ j → slice_index_or jobs j none ≡ none
at_end none [] j le = refl
at_end none (job ∷ jobs) zero le = absurd (omega (arith, le))
at_end none (job ∷ jobs) (suc j) le = at_end none jobs j (omega (arith, le))

pub blank_after : (none : Job) (boot : ℕ) (past : List Past) (jobs : List Job) (j : ℕ) → length past + length jobs ≤ j
    → copy_at none (past_after boot past jobs) [] j ≡ none
blank_after none boot past jobs j le =
    let after = past_after boot past jobs in
    let all : length (all_copies after []) ≡ length after + 0 = count after [] in
    at_end none (all_copies after []) j (omega (arith, all, count_after boot past jobs, le))

-- ---- each is lost

ended_lost : (none : Job) (boot number : ℕ) (jobs : List Job) (j : ℕ) → j < length jobs
    → copy_at none (ended boot number jobs) [] j ≡ lost (slice_index_or jobs j none)
ended_lost none boot number [] j there = absurd (omega (arith, there))
ended_lost none boot number (job ∷ jobs) zero there = refl
ended_lost none boot number (job ∷ jobs) (suc j) there = ended_lost none boot (number + 1) jobs j (omega (arith, there))

lost_already : (job : Job) → job.lost ≡ true → job ≡ lost job
lost_already job gone = ap (λ (b : Bool). record job { lost = b }) gone

pub lost_after : (none : Job) (boot : ℕ) (past : List Past) (jobs : List Job) (j : ℕ) → ArePast boot past → j < length past + length jobs
    → copy_at none (past_after boot past jobs) [] j ≡ lost (copy_at none past jobs j)
lost_after none boot [] jobs j are there = ended_lost none boot 1 jobs j (omega (arith, there))
lost_after none boot (p ∷ past) jobs zero are there = lost_already p.job are.0.0
lost_after none boot (p ∷ past) jobs (suc j) are there = lost_after none boot past jobs j are.1 (omega (arith, there))

-- ---- and keeps its name

ended_name : (boot number : ℕ) (jobs : List Job) (j : ℕ) (other : JobName) → j < length jobs
    → named_by (slice_get (ended boot number jobs) j) other ≡ name_of boot (number + j)
ended_name boot number [] j other there = absurd (omega (arith, there))
ended_name boot number (job ∷ jobs) zero other there =
    let first : number ≡ number + 0 = omega arith in
    ap (λ (n : ℕ). name_of boot n) first
ended_name boot number (job ∷ jobs) (suc j) other there =
    let next : number + 1 + j ≡ number + suc j = omega arith in
    ended_name boot (number + 1) jobs j other (omega (arith, there)) ∙ ap (λ (n : ℕ). name_of boot n) next

named_after : (boot : ℕ) (past : List Past) (jobs : List Job) (j : ℕ) (other : JobName) → j < length past + length jobs
    → named_by (slice_get (past_after boot past jobs) j) other ≡ name_at boot past j
named_after boot [] jobs j other there =
    let number : 1 + j ≡ j - 0 + 1 = omega arith in
    ended_name boot 1 jobs j other (omega (arith, there)) ∙ ap (λ (n : ℕ). name_of boot n) number
named_after boot (p ∷ past) jobs zero other there = refl
named_after boot (p ∷ past) jobs (suc j) other there =
    let number : j - length past + 1 ≡ suc j - suc (length past) + 1 = omega arith in
    named_after boot past jobs j other (omega (arith, there)) ∙ ap (λ (n : ℕ). named_by (slice_get past j) (name_of boot n)) number

pub name_after : (boot later : ℕ) (past : List Past) (jobs : List Job) (j : ℕ) → j < length past + length jobs
    → name_at later (past_after boot past jobs) j ≡ name_at boot past j
name_after boot later past jobs j there = named_after boot past jobs j (name_of later (j - length (past_after boot past jobs) + 1)) there

-- ---- all are of openings before

ended_past : (boot later number : ℕ) (jobs : List Job) → boot < later → ArePast later (ended boot number jobs)
ended_past boot later number [] below = tt
ended_past boot later number (job ∷ jobs) below = ((refl, below), ended_past boot later (number + 1) jobs below)

pub past_later : (boot later : ℕ) (past : List Past) (jobs : List Job) → ArePast boot past → boot < later → ArePast later (past_after boot past jobs)
past_later boot later [] jobs are below = ended_past boot later 1 jobs below
past_later boot later (p ∷ past) jobs are below = ((are.0.0, omega (arith, are.0.1, below)), past_later boot later past jobs are.1 below)
