-- The other runs of the examples break the promise.
use Rattle.std.proofs.Common.{◌≡◌, inl, inr, ⊎_elim, ℕ, zero, suc, ◌<◌, ◌≤◌, eqb, refl, sym, ◌∙◌, arith}
use Rattle.std.proofs.lemmas.Bool.{false≢true, cases_lt, eqb-true}
use Rattle.copy_model.specs.Promise.{IsDuring, IsOutside, Reaches, source_byte, IsKept, IsStopped}
use Rattle.copy_model.specs.Examples.{plan, uncommitted, unsized, changed, never_held, spilled, unclean, late_landing, late_commit}
use Rattle.copy_model.proofs.Runs.{passes_at, untouched}

pub uncommitted_refused : IsKept uncommitted → ⊥
uncommitted_refused kept =
    let alone = untouched uncommitted 6 refl plan 3 5 (omega arith) in
    let settled = kept.stable 0 5 5 3 refl (omega arith, omega arith) (omega arith) alone in
    let seen : 7 ≡ settled.value = settled.stays 5 (omega arith) alone 7 (inl (refl, refl)) in
    let left : 0 ≡ settled.value = settled.stays 5 (omega arith) alone 0 (inr (inl refl)) in
    absurd (omega arith)

pub unsized_refused : IsKept unsized → ⊥
unsized_refused kept =
    let whole = kept.whole 0 3 refl in
    let asked : ◌≡◌ {A = ℕ} 0 2 = whole.1.counted (omega arith) in
    absurd (omega arith)

pub changed_refused : IsKept changed → ⊥
changed_refused kept =
    let settled = kept.stable 0 5 6 3 refl (omega arith, omega arith) (omega arith) (untouched changed 7 refl plan 3 6 (omega arith)) in
    let first : 7 ≡ settled.value = settled.stays 5 (omega arith) (untouched changed 7 refl plan 3 5 (omega arith)) 7 (inl (refl, refl)) in
    let then_seen : 9 ≡ settled.value = settled.stays 6 (omega arith) (untouched changed 7 refl plan 3 6 (omega arith)) 9 (inl (refl, refl)) in
    absurd (omega arith)

-- a moment during the copy is before its completion
during_early : (i : ℕ) → IsDuring never_held 0 i → i < 5
during_early i during =
    ⊎_elim (λ (early : i < 5). early) (λ (late : 5 ≤ i). absurd (false≢true (sym (during.1 4 (omega arith))))) (cases_lt i 5)

pub never_held_refused : IsKept never_held → ⊥
never_held_refused kept =
    let alone = untouched never_held 6 refl plan 3 5 (omega arith) in
    let settled = kept.stable 0 5 5 3 refl (omega arith, omega arith) (omega arith) alone in
    let seen : 9 ≡ settled.value = settled.stays 5 (omega arith) alone 9 (inl (refl, refl)) in
    let moment = settled.held.moment in
    let source : source_byte (never_held moment) plan 3 ≡ 7 = eqb-true (source_byte (never_held moment) plan 3) 7 (passes_at never_held 5 (λ m. eqb (source_byte m plan 3) 7) refl moment (during_early moment settled.held.during)) in
    let same : 7 ≡ settled.value = sym source ∙ settled.held.byte in
    absurd (omega arith)

-- the place behind the two bytes is in no range
behind : IsOutside spilled 3 1 5
behind zero accepted same within = absurd (omega arith)
behind (suc j) accepted same within = absurd (omega arith)

pub spilled_refused : IsKept spilled → ⊥
spilled_refused kept = let same : ◌≡◌ {A = ℕ} 9 0 = (kept.others 3 1 5 behind).now refl in absurd (omega arith)

nothing_accepted : IsOutside unclean 0 1 9
nothing_accepted j accepted same within = absurd (omega arith)

pub unclean_refused : IsKept unclean → ⊥
unclean_refused kept =
    let same : ◌≡◌ {A = ℕ} 5 0 = kept.zeros 0 1 9 nothing_accepted (λ i before. absurd (omega arith)) 5 (inl (refl, refl)) in
    absurd (omega arith)

pub late_landing_refused : IsStopped late_landing → ⊥
late_landing_refused stopped = stopped.lands 0 3 3 refl (omega arith) refl

pub late_commit_refused : IsStopped late_commit → ⊥
late_commit_refused stopped = false≢true (stopped.completes 0 4 4 refl (omega arith) refl)

rests : Reaches (changed 6) 1 3 → ⊥
rests (inl written) = written
rests (inr landing) = landing.1

pub moved_refused : IsStopped changed → ⊥
moved_refused stopped = let same : ◌≡◌ {A = ℕ} 9 7 = stopped.moves 5 1 3 (λ crash. crash) refl rests in absurd (omega arith)
