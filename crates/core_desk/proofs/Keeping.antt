-- Calls that are kept, one after another.
use Rattle.std.proofs.Common.{◌≡◌, ℕ, ◌+◌, ◌-◌, ◌<◌, ◌≤◌, zero, suc, true, List, [], ◌∷◌, ◌++◌, length, take, drop, slice_index_or, slice_set, All, refl, sym, ap, ◌∙◌, add-one, arith}
use Rattle.std.specs.Prelude.{Option, Some, None}
use Rattle.std.proofs.Math.Seq.{drop-append_seam, drop-cons, take-append_seam}
use Rattle.std.proofs.lemmas.Bool.{le-leb}
use Rattle.std.proofs.lemmas.List.{length-take-le}
use Rattle.std.proofs.lemmas.List.Elements.{All-append, All-cons, All-drop, All-head, All-nil, All-tail}
use Rattle.outbox.specs.declared.outgoing.Outgoing.{Outgoing}
use Rattle.outbox.specs.declared.outgoing.To.TheVariants as to
use Rattle.core_desk.specs.Kept.{is_call, is_worker, kept_of, keeping, number_of, passed_of, passing}

-- what was taken out and put back
set_back : (kept : List (Option Outgoing)) (i : ℕ) (call : Outgoing) → Some call ≡ slice_index_or kept i None
    → slice_set (slice_set kept i None) i (Some call) ≡ kept
set_back [] zero call is = refl
set_back [] (suc i) call is = refl
set_back (x ∷ xs) zero call is = ap (λ (o : Option Outgoing). o ∷ xs) is
set_back (x ∷ xs) (suc i) call is = ap (λ (l : List (Option Outgoing)). x ∷ l) (set_back xs i call is)

pub put_back : (kept mid now : List (Option Outgoing)) (i : ℕ) (call back : Outgoing) → Some call ≡ slice_index_or kept i None
    → mid ≡ slice_set kept i None → back ≡ call → now ≡ slice_set mid i (Some back) → now ≡ kept
put_back kept mid now i call back is taken same put =
    put ∙ ap (λ (l : List (Option Outgoing)). slice_set l i (Some back)) taken
    ∙ ap (λ (o : Outgoing). slice_set (slice_set kept i None) i (Some o)) same ∙ set_back kept i call is

-- ---- a call is kept, and another record passes

worker_is : (number : ℕ) → 1 ≤ number → number ≤ 8 → is_worker number ≡ true
worker_is number low high = rw (le-leb 1 number low, le-leb number 8 high) refl

passes_call : (o : Outgoing) (sent : List Outgoing) → is_call o.to ≡ true → passing o sent ≡ sent
passes_call o sent is = rw is refl

keeps_call : (o : Outgoing) (kept : List (Option Outgoing)) → is_call o.to ≡ true → keeping o kept ≡ slice_set kept (number_of o.to - 1) (Some o)
keeps_call o kept is = rw is refl

all_take : {X : Type 0} (P : X → Type 0) (n : ℕ) (xs : List X) → All P xs → All P (take n xs)
all_take P zero [] are = All-nil P
all_take P zero (x ∷ xs) are = All-nil P
all_take P (suc n) [] are = All-nil P
all_take P (suc n) (x ∷ xs) are = All-cons P x (take n xs) (All-head P x xs are) (all_take P n xs (All-tail P x xs are))

pub all_without : {X : Type 0} (P : X → Type 0) (i : ℕ) (xs ys : List X) → ys ≡ take i xs ++ drop (i + 1) xs → All P xs → All P ys
all_without P i xs ys is are = rw is (All-append P (take i xs) (drop (i + 1) xs) (all_take P i xs are) (All-drop P (i + 1) xs are))

front_is : (i : ℕ) (xs ys : List Outgoing) → i ≤ length xs → ys ≡ take i xs ++ drop (i + 1) xs → take i ys ≡ take i xs
front_is i xs ys within is =
    ap (take i) is ∙ ap (λ (n : ℕ). take n (take i xs ++ drop (i + 1) xs)) (sym (length-take-le i xs within)) ∙ take-append_seam (take i xs) (drop (i + 1) xs)

rest_is : (i : ℕ) (xs ys : List Outgoing) → i ≤ length xs → ys ≡ take i xs ++ drop (i + 1) xs → drop i ys ≡ drop (i + 1) xs
rest_is i xs ys within is =
    ap (drop i) is ∙ ap (λ (n : ℕ). drop n (take i xs ++ drop (i + 1) xs)) (sym (length-take-le i xs within)) ∙ drop-append_seam (take i xs) (drop (i + 1) xs)

cut_is : (i : ℕ) (xs : List Outgoing) (o : Outgoing) → i < length xs → o ≡ slice_index_or xs i o → drop i xs ≡ o ∷ drop (i + 1) xs
cut_is i xs o there is =
    drop-cons xs i o there ∙ ap (λ (x : Outgoing). x ∷ drop (suc i) xs) (sym is) ∙ ap (λ (n : ℕ). o ∷ drop n xs) (sym (add-one i))

pub call_kept : (start xs ys : List Outgoing) (first kept now : List (Option Outgoing)) (i number : ℕ) (o : Outgoing)
    → i < length xs → o ≡ slice_index_or xs i o → ys ≡ take i xs ++ drop (i + 1) xs
    → o.to ≡ to.Source number → 1 ≤ number → number ≤ 8 → now ≡ slice_set kept (number - 1) (Some o)
    → passed_of start ≡ take i xs ++ passed_of (drop i xs) → kept_of start first ≡ kept_of (drop i xs) kept
    → (passed_of start ≡ take i ys ++ passed_of (drop i ys)) × (kept_of start first ≡ kept_of (drop i ys) now)
call_kept start xs ys first kept now i number o there is without source low high put passed keeps =
    let within : i ≤ length xs = omega (arith, there) in
    let call : is_call o.to ≡ true = ap is_call source ∙ worker_is number low high in
    let cut = cut_is i xs o there is in
    let rest = rest_is i xs ys within without in
    let front = front_is i xs ys within without in
    let kept_is : keeping o kept ≡ now = keeps_call o kept call
    ∙ ap (λ (n : ℕ). slice_set kept (n - 1) (Some o)) (ap number_of source) ∙ sym put in (
      passed ∙ ap (λ (l : List Outgoing). take i xs ++ passed_of l) cut
          ∙ ap (λ (l : List Outgoing). take i xs ++ l) (passes_call o (passed_of (drop (i + 1) xs)) call)
          ∙ ap (λ (l : List Outgoing). take i xs ++ passed_of l) (sym rest)
          ∙ ap (λ (l : List Outgoing). l ++ passed_of (drop i ys)) (sym front),
      keeps ∙ ap (λ (l : List Outgoing). kept_of l kept) cut
          ∙ ap (λ (l : List (Option Outgoing)). kept_of (drop (i + 1) xs) l) kept_is
          ∙ ap (λ (l : List Outgoing). kept_of l now) (sym rest),
    )
