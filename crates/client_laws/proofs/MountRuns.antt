-- Runs of a mount's steps: they can be joined, and from a mount that is as it should be each step obeys the laws.
use Rattle.std.proofs.Common.{◌≡◌, List, [], ◌∷◌, ◌++◌, sym, ap, subst}
use Rattle.caller_laws.specs.Fitting.Fitting.{MountIsFit}
use Rattle.caller_laws.specs.Fitting.Moving.{GivesBytes, MoveIsFit}
use Rattle.caller_laws.specs.Fitting.StepLaws.{moved_fits, spelled_at}
use Rattle.caller_laws.specs.Good.{Identity, IsGood}
use Rattle.caller_laws.specs.Lawful.{IsStep, Obeys}
use Rattle.caller_laws.specs.Moves.{Falls, Forgets, GivesUp, Move, Rests, Sends, Takes, done}
use Rattle.caller_laws.specs.OneStep.Runs.{AreSpelled, IsSpelled, MountStep}
use Rattle.caller_laws.specs.View.{Above}
use Rattle.client_laws.specs.CallerLaws.{AllObey, IsMountRun, acts_in}
use Rattle.gss_ctx.specs.Seals.{Mic}
use Rattle.mount.specs.State.{Mounted}
use Rattle.mount.specs.Taking.{Means}
use Rattle.wire_model.specs.Wire.{Acts}

pub run_append : (who : Identity) (means : Means) (xs ys : List MountStep) (a : Above) (m : Mounted) (b : Above) (n : Mounted) (c : Above) (o : Mounted)
    → IsMountRun who means xs a m b n → IsMountRun who means ys b n c o → IsMountRun who means (xs ++ ys) a m c o
run_append who means [] ys a m b n c o r s =
    subst (λ (x : Above). IsMountRun who means ys x m c o) r.0 (subst (λ (y : Mounted). IsMountRun who means ys b y c o) r.1 s)
run_append who means (x ∷ xs) ys a m b n c o r s =
    (r.0, r.1, r.2, run_append who means xs ys x.above (done means x.move m).mount b n c o r.3 s)

pub acts_append : (who : Identity) (means : Means) (xs ys : List MountStep) (a : Above) (m : Mounted) (b : Above) (n : Mounted)
    → IsMountRun who means xs a m b n → acts_in means (xs ++ ys) m ≡ acts_in means xs m ++ acts_in means ys n
acts_append who means [] ys a m b n r = ap (acts_in means ys) (sym r.1)
acts_append who means (x ∷ xs) ys a m b n r =
    ap (λ (acts : List Acts). (done means x.move m).shown ∷ acts) (acts_append who means xs ys x.above (done means x.move m).mount b n r.3)

-- each step keeps to the bounds of numbers and bytes
abbrev pub AllFit : Means → List MountStep → Mounted → Type 0
AllFit means [] m = Unit {0}
AllFit means (step ∷ more) m = MoveIsFit m step.move × AllFit means more (done means step.move m).mount

pub fit_append : (who : Identity) (means : Means) (xs ys : List MountStep) (a : Above) (m : Mounted) (b : Above) (n : Mounted)
    → IsMountRun who means xs a m b n → AllFit means xs m → AllFit means ys n → AllFit means (xs ++ ys) m
fit_append who means [] ys a m b n r x y = subst (AllFit means ys) r.1 y
fit_append who means (x ∷ xs) ys a m b n r f g = (f.0, fit_append who means xs ys x.above (done means x.move m).mount b n r.3 f.1 g)

spelled_move : (mic : Mic) (m : Mounted) (move : Move) → GivesBytes mic → MountIsFit m → MoveIsFit m move → IsSpelled mic m move
spelled_move mic m (Sends at send) gives h fit = let s = spelled_at mic at send m gives h fit in (s.asked, s.are_bytes)
spelled_move mic m (Takes place message) gives h fit = fit
spelled_move mic m (GivesUp place) gives h fit = tt
spelled_move mic m (Forgets child) gives h fit = tt
spelled_move mic m Falls gives h fit = tt
spelled_move mic m Rests gives h fit = tt

-- from a fit mount these are spelled
pub fit_spelled : (means : Means) (steps : List MountStep) (m : Mounted) → GivesBytes means.mic → MountIsFit m → AllFit means steps m → AreSpelled means steps m
fit_spelled means [] m gives h fit = tt
fit_spelled means (x ∷ xs) m gives h fit =
    (spelled_move means.mic m x.move gives h fit.0, fit_spelled means xs (done means x.move m).mount gives (moved_fits means x.move m gives h fit.0) fit.1)

-- each step is lawful
abbrev pub Obeying : Identity → Means → Type 0
Obeying who means = (a b : Above) (m : Mounted) (move : Move) → IsStep who means a b m move → Obeys who means a b m move

abbrev pub Keeping : Identity → Means → Type 0
Keeping who means = (a b : Above) (m : Mounted) (move : Move) → IsStep who means a b m move → IsGood who (done means move m).mount

pub run_obeys : (who : Identity) (means : Means) → Obeying who means → Keeping who means → (steps : List MountStep) (a b : Above) (m n : Mounted)
    → IsMountRun who means steps a m b n → AreSpelled means steps m → IsGood who m → AllObey who means steps a m
run_obeys who means obeys keeps [] a b m n run spelled good = tt
run_obeys who means obeys keeps (x ∷ xs) a b m n run spelled good =
    let step : IsStep who means a x.above m x.move = record { good = good; goes_on = run.0; may = run.2 spelled.0 } in (
      obeys a x.above m x.move step,
      run_obeys who means obeys keeps xs x.above b (done means x.move m).mount n run.3 spelled.1 (keeps a x.above m x.move step),
    )

pub run_keeps : (who : Identity) (means : Means) → Keeping who means → (steps : List MountStep) (a b : Above) (m n : Mounted)
    → IsMountRun who means steps a m b n → AreSpelled means steps m → IsGood who m → IsGood who n
run_keeps who means keeps [] a b m n run spelled good = subst (IsGood who) (sym run.1) good
run_keeps who means keeps (x ∷ xs) a b m n run spelled good =
    let step : IsStep who means a x.above m x.move = record { good = good; goes_on = run.0; may = run.2 spelled.0 } in
    run_keeps who means keeps xs x.above b (done means x.move m).mount n run.3 spelled.1 (keeps a x.above m x.move step)
