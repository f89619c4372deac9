-- Where a record isn't for the call at one seat, it is what it is to those at the next.
use Rattle.std.proofs.Common.{◌≡◌, ℕ, zero, suc, ◌+◌, ◌-◌, ◌<◌, List, [], ◌∷◌, length, get_or, Option, None, Result, Ok, Err, refl, sym, ap, ◌∙◌, arith}
use Rattle.std.specs.Prelude.{IfOk}
use Rattle.gss_ctx.specs.Seals.{Mic}
use Rattle.dest_back.specs.Hearing.{heard_at, heard_from, or_heard}
use Rattle.dest_back.specs.declared.callbacks.Post.{Post}
use Rattle.dest_back.specs.declared.hearing.Hearing.{Hearing}
use Rattle.dest_back.specs.declared.hearing.Hearing.TheVariants as hears

-- past no end it doesn't matter what stands for nothing
within : {X : Type 0} (xs : List X) (i : ℕ) (d e : X) → i < length xs → get_or xs i d ≡ get_or xs i e
within [] i d e lt = absurd (omega arith)
within (x ∷ xs) zero d e lt = refl
within (x ∷ xs) (suc i) d e lt = within xs i d e (omega arith)

one_less : (n : ℕ) → suc n - 1 ≡ n
one_less n = omega arith

goes_on : (mic : Mic) (message : List ℕ) (posts : List (Option Post)) (n seat : ℕ) → heard_at mic message (get_or posts seat None) ≡ hears.Unmatched
    → heard_from mic message posts (suc n - 1) (seat + 1) ≡ heard_from mic message posts (suc n) seat
unfolding heard_from
goes_on mic message posts n seat unmatched =
    ap (λ (k : ℕ). heard_from mic message posts k (seat + 1)) (one_less n)
    ∙ ap (λ (h : Hearing). or_heard h (heard_from mic message posts n (seat + 1))) (sym unmatched)

pub hear_next : {E : Type 0} (mic : Mic) (message : List ℕ) (inside posts : List (Option Post)) (left seat : ℕ) (d : Option Post) (r : Result Hearing E)
    → (left ≡ 0 → ⊥) → inside ≡ posts → seat < length inside → heard_at mic message (get_or inside seat d) ≡ hears.Unmatched
    → IfOk r (λ hearing. hearing ≡ heard_from mic message posts (left - 1) (seat + 1)) → IfOk r (λ hearing. hearing ≡ heard_from mic message posts left seat)
hear_next mic message inside posts left seat d (Err e) some same lt unmatched is = tt
hear_next mic message inside posts zero seat d (Ok hearing) some same lt unmatched is = absurd (some refl)
hear_next mic message inside posts (suc n) seat d (Ok hearing) some same lt unmatched is =
    let found : get_or posts seat None ≡ get_or inside seat d = sym (ap (λ (ps : List (Option Post)). get_or ps seat None) same) ∙ within inside seat None d lt in
    is ∙ goes_on mic message posts n seat (ap (λ (p : Option Post). heard_at mic message p) found ∙ unmatched)
