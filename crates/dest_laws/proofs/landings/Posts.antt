-- What holds of each worker's post and of what is awaited at its place stays as posts, places and jobs go on.
use Rattle.std.proofs.Common.{◌≡◌, ◌∙◌, ◌⊎◌, inl, inr, ℕ, zero, suc, ◌+◌, ◌≤◌, Bool, true, false, List, Option, Some, None, sym, subst, arith}
use Rattle.std.specs.Prelude.{◌≢◌, ◌&&◌, not, if◌then◌else◌, slice_index_or}
use Rattle.dest_laws.proofs.landings.Places.{Fewer, set_cases}
use Rattle.dest_laws.specs.Histories.Seen.{IsGiven}
use Rattle.dest_laws.specs.Landings.Posted.{ArePostedIn, Asks, AsksBy, IsErrand, IsPosted, asked_at}
use Rattle.dest_tasks.specs.Posts.{awaits, followed, post_at, put_at}
use Rattle.dest_tasks.specs.declared.post.Errand.{Errand}
use Rattle.dest_tasks.specs.declared.post.Errand.TheVariants as errands
use Rattle.dest_tasks.specs.declared.post.Post.{Post}
use Rattle.dest_tasks.specs.declared.post.Post.TheVariants.{Awaits, Holds, Idle}
use Rattle.dest_tasks.specs.declared.workers.TheConstants.{WORKERS}
use Rattle.dest_work.specs.Work.{awaited_of, plan_in, settled, with_mount}
use Rattle.dest_work.specs.declared.work.Work.{Work}
use Rattle.job_book.specs.Book.{named}
use Rattle.job_table.specs.Table.{JobTable}
use Rattle.job_table.specs.declared.job.Plan.{Plan}
use Rattle.mount.specs.State.{Mounted}
use Rattle.nfs_base.specs.declared.job.JobName.{JobName}
use Rattle.session_calls.specs.declared.slot_call.SlotCall.{SlotCall}
use Rattle.session_client.specs.declared.asked.Asked.{Asked}

-- ---- posts one after another, by what holds of each that is idle

module _ (P : ℕ → Post → Type 0) (idle : (p : ℕ) → P p Idle) where
  abbrev pub Has : List Post → Type 0
  Has posts = (p : ℕ) → P p (post_at posts p)

  pub put_has : (place : ℕ) (post : Post) (posts : List Post) → Has posts → P place post → Has (put_at place post posts)
  put_has place post posts has new p = set_cases (P p) posts place p post Idle (λ here. subst (λ (i : ℕ). P i post) (sym here) new) (idle p) (λ _. has p)

  following_has : (gone : Bool) (place : ℕ) (posts : List Post) → Has posts → Has (if gone then put_at place Idle posts else posts)
  following_has true place posts has = put_has place Idle posts has (idle place)
  following_has false place posts has = has

  followed_has : (awaited : List Bool) (left place : ℕ) (posts : List Post) → Has posts → Has (followed awaited left place posts)
  unfolding followed
  followed_has awaited zero place posts has = has
  followed_has awaited (suc left) place posts has =
      let gone = not (slice_index_or awaited place false) && awaits (post_at posts place) in
      followed_has awaited left (place + 1) (if gone then put_at place Idle posts else posts) (following_has gone place posts has)

  pub settled_has : (w : Work) → Has w.workers → Has (settled w).workers
  settled_has w has = followed_has (awaited_of w.mount) WORKERS 0 w.workers has

-- ---- less is awaited

asks_fewer : (o u : Option (Option Asked)) (call : SlotCall) → (u ≡ o) ⊎ (u ≡ None) → Asks o call → Asks u call
asks_fewer o u call (inl same) asks = subst (λ (x : Option (Option Asked)). Asks x call) (sym same) asks
asks_fewer o u call (inr none) asks = λ asked is. let both : None ≡ Some asked = sym none ∙ is in absurd cc

by_fewer : (t : JobTable) (job : JobName) (o u : Option (Option Asked)) (call : Plan → SlotCall) → (u ≡ o) ⊎ (u ≡ None) → AsksBy t job o call → AsksBy t job u call
by_fewer t job o u call less by = record { given = by.given; asks = λ plan is. asks_fewer o u (call plan) less (by.asks plan is) }

errand_fewer : (t : JobTable) (job : JobName) (o u : Option (Option Asked)) (errand : Errand) → (u ≡ o) ⊎ (u ≡ None) → IsErrand t job o errand → IsErrand t job u errand
errand_fewer t job o u errands.Setup less is = tt
errand_fewer t job o u errands.Confirm less is = tt
errand_fewer t job o u errands.Size less is = by_fewer t job o u _ less is
errand_fewer t job o u (errands.Bytes chunk) less is = by_fewer t job o u _ less is

pub posted_fewer : (t : JobTable) (o u : Option (Option Asked)) (post : Post) → (u ≡ o) ⊎ (u ≡ None) → IsPosted t o post → IsPosted t u post
posted_fewer t o u Idle less is = tt
posted_fewer t o u (Awaits job errand) less is = errand_fewer t job o u errand less is
posted_fewer t o u (Holds job chunk bytes) less is = is

pub work_fewer : (t : JobTable) (w : Work) (m : Mounted) → Fewer w.mount m → ArePostedIn t w → ArePostedIn t (with_mount m w)
work_fewer t w m less posted p = posted_fewer t (asked_at w.mount p) (asked_at m p) (post_at w.workers p) (less p) (posted p)

pub work_settled : (t : JobTable) (w : Work) → ArePostedIn t w → ArePostedIn t (settled w)
work_settled t w posted = settled_has (λ p post. IsPosted t (asked_at w.mount p) post) (λ p. tt) w posted

-- ---- jobs keep their plans, and none comes back

pub record KeepsPlans (t u : JobTable) : Type 0 where
  pub later : t.made ≤ u.made
  pub plans : (job : JobName) (plan : Plan) → IsGiven t job → plan_in (named u job) ≡ Some plan → plan_in (named t job) ≡ Some plan

by_on : (t u : JobTable) (job : JobName) (o : Option (Option Asked)) (call : Plan → SlotCall) → KeepsPlans t u → AsksBy t job o call → AsksBy u job o call
by_on t u job o call keeps by = record {
  given = let later = keeps.later in let given = by.given in omega (arith, later, given);
  asks = λ plan is. by.asks plan (keeps.plans job plan by.given is);
}

errand_on : (t u : JobTable) (job : JobName) (o : Option (Option Asked)) (errand : Errand) → KeepsPlans t u → IsErrand t job o errand → IsErrand u job o errand
errand_on t u job o errands.Setup keeps is = tt
errand_on t u job o errands.Confirm keeps is = tt
errand_on t u job o errands.Size keeps is = by_on t u job o _ keeps is
errand_on t u job o (errands.Bytes chunk) keeps is = by_on t u job o _ keeps is

posted_on : (t u : JobTable) (o : Option (Option Asked)) (post : Post) → KeepsPlans t u → IsPosted t o post → IsPosted u o post
posted_on t u o Idle keeps is = tt
posted_on t u o (Awaits job errand) keeps is = errand_on t u job o errand keeps is
posted_on t u o (Holds job chunk bytes) keeps is = is

pub work_on : (t u : JobTable) (w : Work) → KeepsPlans t u → ArePostedIn t w → ArePostedIn u w
work_on t u w keeps posted p = posted_on t u (asked_at w.mount p) (post_at w.workers p) keeps (posted p)

-- ---- a call goes out, and its answer is awaited

pub record IsAsking (t : JobTable) (place : ℕ) (w v : Work) : Type 0 where
  pub job : JobName
  pub errand : Errand
  pub workers : v.workers ≡ put_at place (Awaits job errand) w.workers
  pub others : (p : ℕ) → p ≢ place → asked_at v.mount p ≡ asked_at w.mount p
  pub asks : IsErrand t job (asked_at v.mount place) errand

abbrev pub Moves : JobTable → ℕ → Work → Work → Type 0
Moves t place w v = (v ≡ w) ⊎ IsAsking t place w v

asking_posted : (t : JobTable) (place : ℕ) (w v : Work) → IsAsking t place w v → ArePostedIn t w → ArePostedIn t v
asking_posted t place w v is posted p =
    let new = Awaits is.job is.errand in
    subst (λ (posts : List Post). IsPosted t (asked_at v.mount p) (post_at posts p)) (sym is.workers)
    (set_cases (IsPosted t (asked_at v.mount p)) w.workers place p new Idle
    (λ here. subst (λ (i : ℕ). IsPosted t (asked_at v.mount i) new) (sym here) is.asks) tt
    (λ other. posted_fewer t (asked_at w.mount p) (asked_at v.mount p) (post_at w.workers p) (inl (is.others p other)) (posted p)))

pub moves_posted : (t : JobTable) (place : ℕ) (w v : Work) → Moves t place w v → ArePostedIn t w → ArePostedIn t v
moves_posted t place w v (inl same) posted = subst (ArePostedIn t) (sym same) posted
moves_posted t place w v (inr is) posted = asking_posted t place w v is posted

pub moves_has : (P : ℕ → Post → Type 0) (idle : (p : ℕ) → P p Idle) (asking : (p : ℕ) (job : JobName) (errand : Errand) → P p (Awaits job errand))
    (t : JobTable) (place : ℕ) (w v : Work) → Moves t place w v → Has P idle w.workers → Has P idle v.workers
moves_has P idle asking t place w v (inl same) has = subst (λ (x : Work). Has P idle x.workers) (sym same) has
moves_has P idle asking t place w v (inr is) has =
    subst (Has P idle) (sym is.workers) (put_has P idle place (Awaits is.job is.errand) w.workers has (asking place is.job is.errand))
