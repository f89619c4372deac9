-- How far a disk's count of faults rises in some calls.
use Rattle.std.proofs.Common.{◌≡◌, ℕ, ◌+◌, ◌≤◌, Bool, true, List, [], ◌∷◌, ◌++◌, sym, subst, arith}
use Rattle.std.specs.Prelude.{◌||◌}
use Rattle.outcome.specs.Causes.{Rose, RoseBy}
use Rattle.server_volume.specs.Moments.{Counted, failed_in, failures_in}
use Rattle.server_volume.specs.Store.{Seat}
use Rattle.server_volume.specs.declared.used.CallAnswer.{CallAnswer}
use Rattle.server_volume.specs.declared.used.CallAnswer.TheVariants.{Done, DiskFailed, Refused}
use Rattle.server_volume.specs.declared.used.Used.{Used}
use Rattle.volume_laws.specs.Failing.{any_failed, has_failed}
use Rattle.std.proofs.lemmas.List.{append_cancel_left}

first_or_later : (answer : CallAnswer) (later : Bool) (rest : ℕ) → (has_failed answer || later) ≡ true → (later ≡ true → 1 ≤ rest) → 1 ≤ failed_in answer + rest
first_or_later Done later rest any some = omega (arith, some any)
first_or_later DiskFailed later rest any some = omega arith
first_or_later Refused later rest any some = omega (arith, some any)

some_failed : (us : List Used) → any_failed us ≡ true → 1 ≤ failures_in us
some_failed [] any = absurd cc
some_failed (u ∷ us) any = first_or_later u.answer (any_failed us) (failures_in us) any (some_failed us)

-- what was added is what stands behind those before
added_are : (used added more : List Used) → used ++ more ≡ used ++ added → more ≡ added
added_are used added more noted = append_cancel_left used more added noted

pub count_rose : (told : Type 0) (old new : Seat) (used more : List Used) → Counted told old new used (used ++ more) → RoseBy (failures_in more) old.faults new.faults
count_rose told old new used more counted =
    subst (λ (us : List Used). RoseBy (failures_in us) old.faults new.faults) (sym (added_are used counted.added more counted.noted)) counted.rose

pub count_any : (told : Type 0) (old new : Seat) (used more : List Used) → Counted told old new used (used ++ more) → any_failed more ≡ true → Rose old.faults new.faults
count_any told old new used more counted any = omega (arith, count_rose told old new used more counted, some_failed more any)

pub count_quiet : (told : Type 0) (old new : Seat) (used more : List Used) → Counted told old new used (used ++ more) → (Rose old.faults new.faults → ⊥) → failures_in more ≡ 0
count_quiet told old new used more counted quiet = omega (arith, count_rose told old new used more counted, quiet)

pub count_later : (told : Type 0) (old new : Seat) (used more : List Used) → Counted told old new used more → RoseBy 0 old.faults new.faults
count_later told old new used more counted = omega (arith, counted.rose)
