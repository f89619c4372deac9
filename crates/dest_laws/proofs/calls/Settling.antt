-- Workers whose answers aren't awaited any more become idle; what the others are at stays.
use Rattle.std.proofs.Common.{◌≡◌, ◌≢◌, ◌∙◌, inl, inr, ℕ, zero, suc, ◌+◌, ◌<◌, ◌≤◌, Bool, true, false, List, length, refl, sym, ap, arith}
use Rattle.std.proofs.lemmas.Bool.{cases_eq}
use Rattle.std.proofs.lemmas.List.{get_or-set_other, get_or-set_same, length-replicate, length-set}
use Rattle.std.specs.Prelude.{◌&&◌, is_some, not, replicate, slice_index_or, slice_set, if◌then◌else◌}
use Rattle.dest_laws.proofs.calls.Landings.{KeepsPurposes}
use Rattle.dest_laws.specs.View.View.{post_purpose}
use Rattle.dest_tasks.specs.Posts.{awaits, followed, following, post_at, put_at}
use Rattle.dest_tasks.specs.declared.post.Post.{Post}
use Rattle.dest_tasks.specs.declared.post.Post.TheVariants.{Idle}
use Rattle.dest_tasks.specs.declared.workers.TheConstants.{WORKERS}
use Rattle.dest_work.specs.Work.{awaited_from, awaited_of, settled, with_mount}
use Rattle.dest_work.specs.declared.work.Work.{Work}
use Rattle.mount.specs.State.{Mounted, awaited_at}

-- ---- at which places an answer is awaited

early : (m : Mounted) (left place : ℕ) (seen : List Bool) (q : ℕ) → q < place → slice_index_or (awaited_from m left place seen) q false ≡ slice_index_or seen q false
unfolding awaited_from
early m zero place seen q lt = refl
early m (suc left) place seen q lt =
    let apart : q ≢ place = λ e. absurd (omega arith) in
    early m left (place + 1) (slice_set seen place (is_some (awaited_at m place))) q (omega arith)
    ∙ get_or-set_other seen place q (is_some (awaited_at m place)) false apart

told_at : (m : Mounted) (left place : ℕ) (seen : List Bool) (q : ℕ) → place ≤ q → q < place + left → q < length seen
    → slice_index_or (awaited_from m left place seen) q false ≡ is_some (awaited_at m q)
unfolding awaited_from
told_at m zero place seen q low high there = absurd (omega arith)
told_at m (suc left) place seen q low high there =
    let next = slice_set seen place (is_some (awaited_at m place)) in
    elim (cases_eq q place) [
      | inl same ↦
          early m left (place + 1) next q (omega arith)
          ∙ ap (λ (k : ℕ). slice_index_or next k false) same
          ∙ get_or-set_same seen place (is_some (awaited_at m place)) false (omega arith)
          ∙ ap (λ (k : ℕ). is_some (awaited_at m k)) (sym same)
      | inr apart ↦
          let above : place + 1 ≤ q = omega (arith, low, apart) in
          told_at m left (place + 1) next q above (omega arith) (omega (arith, there, length-set seen place (is_some (awaited_at m place))))
    ]

told : (m : Mounted) (q : ℕ) → q < WORKERS → slice_index_or (awaited_of m) q false ≡ is_some (awaited_at m q)
told m q lt = told_at m WORKERS 0 (replicate WORKERS false) q (omega arith) (omega arith) (omega (arith, lt, length-replicate WORKERS false))

-- ---- posts

following_keeps : (awaited : Bool) (place : ℕ) (posts : List Post) (q : ℕ) → (q ≡ place → awaited ≡ true) → post_at (following awaited place posts) q ≡ post_at posts q
following_keeps true place posts q waits = refl
following_keeps false place posts q waits = by (awaits (post_at posts place))
  where
    by : (b : Bool) → post_at (if not false && b then put_at place Idle posts else posts) q ≡ post_at posts q
    by true = get_or-set_other posts place q Idle Idle (λ e. let both = waits e in absurd cc)
    by false = refl

followed_keeps : (awaited : List Bool) (left place : ℕ) (posts : List Post) (q : ℕ) → (q < place + left → slice_index_or awaited q false ≡ true)
    → post_at (followed awaited left place posts) q ≡ post_at posts q
unfolding followed
followed_keeps awaited zero place posts q waits = refl
followed_keeps awaited (suc left) place posts q waits =
    followed_keeps awaited left (place + 1) (following (slice_index_or awaited place false) place posts) q (λ lt. waits (omega arith))
    ∙ following_keeps (slice_index_or awaited place false) place posts q
    (λ same. let lt : q < place + suc left = omega arith in ap (λ (k : ℕ). slice_index_or awaited k false) (sym same) ∙ waits lt)

pub settled_keeps : (m : Mounted) (w : Work) → KeepsPurposes m w.workers (settled (with_mount m w)).workers
settled_keeps m w place a there =
    ap post_purpose
    (followed_keeps (awaited_of m) WORKERS 0 w.workers place
    (λ lt. let below : place < WORKERS = lt in told m place below ∙ ap is_some there))
