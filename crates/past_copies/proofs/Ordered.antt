-- The copies of the openings before, and those of the present one behind them.
use Rattle.std.proofs.Common.{◌≡◌, ℕ, zero, suc, ◌+◌, ◌-◌, ◌<◌, ◌≤◌, true, List, [], ◌∷◌, Option, None, length, map, refl, sym, ap, ◌∙◌, arith, length-append, get_or-append-add}
use Rattle.std.specs.Prelude.{slice_get, slice_index_or}
use Rattle.nfs_base.specs.declared.job.JobName.{JobName}
use Rattle.past_copies.specs.Past.{ArePast, Past, all_copies, copy_at, name_at, name_of, named_by}
use Rattle.wire_model.specs.Copies.{Job}

-- ---- those of the present opening

count_past : (past : List Past) → length (map (λ (p : Past). p.job) past) ≡ length past
count_past [] = refl
count_past (p ∷ past) = ap suc (count_past past)

pub count : (past : List Past) (jobs : List Job) → length (all_copies past jobs) ≡ length past + length jobs
count past jobs = length-append (map (λ (p : Past). p.job) past) jobs ∙ ap (λ (n : ℕ). n + length jobs) (count_past past)

pub copy_behind : (none : Job) (past : List Past) (jobs : List Job) (j : ℕ) → copy_at none past jobs (length past + j) ≡ slice_index_or jobs j none
copy_behind none past jobs j =
    ap (λ (n : ℕ). slice_index_or (all_copies past jobs) (n + j) none) (sym (count_past past))
    ∙ get_or-append-add (map (λ (p : Past). p.job) past) jobs j none

past_none : (past : List Past) (place : ℕ) → length past ≤ place → slice_get past place ≡ None
past_none [] place le = refl
past_none (p ∷ past) zero le = absurd (omega (arith, le))
past_none (p ∷ past) (suc place) le = past_none past place (omega (arith, le))

pub name_behind : (boot : ℕ) (past : List Past) (j : ℕ) → name_at boot past (length past + j) ≡ name_of boot (j + 1)
name_behind boot past j =
    let place = length past + j in
    let number : place - length past + 1 ≡ j + 1 = omega arith in
    ap (λ (o : Option Past). named_by o (name_of boot (place - length past + 1))) (past_none past place (omega arith))
    ∙ ap (λ (n : ℕ). name_of boot n) number

-- ---- those of the openings before

pub copy_stays : (none : Job) (past : List Past) (jobs others : List Job) (j : ℕ) → j < length past → copy_at none past jobs j ≡ copy_at none past others j
copy_stays none [] jobs others j there = absurd (omega (arith, there))
copy_stays none (p ∷ past) jobs others zero there = refl
copy_stays none (p ∷ past) jobs others (suc j) there = copy_stays none past jobs others j (omega (arith, there))

same_name : (past : List Past) (j : ℕ) (a b : JobName) → j < length past → named_by (slice_get past j) a ≡ named_by (slice_get past j) b
same_name [] j a b there = absurd (omega (arith, there))
same_name (p ∷ past) zero a b there = refl
same_name (p ∷ past) (suc j) a b there = same_name past j a b (omega (arith, there))

pub name_stays : (boot other : ℕ) (past : List Past) (j : ℕ) → j < length past → name_at boot past j ≡ name_at other past j
name_stays boot other past j there = same_name past j (name_of boot (j - length past + 1)) (name_of other (j - length past + 1)) there

pub was_lost : (boot : ℕ) (none : Job) (past : List Past) (jobs : List Job) (j : ℕ) → ArePast boot past → j < length past
    → (copy_at none past jobs j).lost ≡ true
was_lost boot none [] jobs j are there = absurd (omega (arith, there))
was_lost boot none (p ∷ past) jobs zero are there = are.0.0
was_lost boot none (p ∷ past) jobs (suc j) are there = was_lost boot none past jobs j are.1 (omega (arith, there))

was_before : (boot : ℕ) (past : List Past) (j : ℕ) (name : JobName) → ArePast boot past → j < length past → (named_by (slice_get past j) name).boot < boot
was_before boot [] j name are there = absurd (omega (arith, there))
was_before boot (p ∷ past) zero name are there = are.0.1
was_before boot (p ∷ past) (suc j) name are there = was_before boot past j name are.1 (omega (arith, there))

pub other_name : (boot number other : ℕ) (past : List Past) (j : ℕ) → ArePast boot past → j < length past
    → name_at other past j ≡ name_of boot number → ⊥
other_name boot number other past j are there same =
    let below = was_before boot past j (name_of other (j - length past + 1)) are there in
    let at : (name_at other past j).boot ≡ boot = ap (λ (n : JobName). n.boot) same in
    omega (arith, below, at)
