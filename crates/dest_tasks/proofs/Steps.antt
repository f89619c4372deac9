-- What is done to a book leaves a sized job as far as it was, but for its own landings.
use Rattle.std.proofs.Common.{◌≡◌, ⊎_elim, ◌⊎◌, ℕ, zero, suc, ◌+◌, ◌*◌, ◌/◌, ◌%◌, ◌<◌, Bool, true, false, List, [], ◌∷◌, ◌++◌, refl, sym, ap, subst, ◌∙◌, arith}
use Rattle.std.proofs.lemmas.Bool.{eqb-true}
use Rattle.std.proofs.lemmas.List.Folds.{list_any-append}
use Rattle.std.specs.Prelude.{◌==◌, ◌&&◌, ◌||◌, not, if◌then◌else◌, Option, Some, None, option_map, find}
use Rattle.copy_model.specs.Job.{Entry, Landed, Sized, Stopped, Committed, Reported, chunk_len, chunk_size, chunks_of, has_ended, has_landed, is_end, size_of}
use Rattle.job_log.specs.Bits.{flag}
use Rattle.job_log.specs.Log.{ClaimsAreNew, JobView, after_landing, given_back, is_claimed, landed, landing_of, sized, total, total_of, waits, with_claim, with_entry}
use Rattle.job_log.specs.declared.chunk.Chunk.{Chunk}
use Rattle.job_log.specs.declared.chunk.Landing.TheVariants as landings
use Rattle.job_table.specs.Table.{is_job, landing_at, table_landing}
use Rattle.job_table.specs.declared.job.Job.{Job}
use Rattle.job_table.specs.declared.job.Plan.{Plan}
use Rattle.job_book.specs.Book.{BookView, accept_answer, after_accept, id_of, named, retired}
use Rattle.job_book.specs.declared.acceptance.Acceptance.{Acceptance}
use Rattle.job_book.specs.declared.acceptance.Acceptance.TheVariants as answers
use Rattle.job_book.specs.Working.{chunk_at, claimed, first_free, is_taken, next_chunk, next_unless, size_in, stopped, with_its}
use Rattle.nfs_base.specs.declared.job.JobName.{JobName}
use Rattle.dest_tasks.specs.FlagLaws.{set_true, set_false}
use Rattle.dest_tasks.specs.NamedLaws.{find_changed, find_other, find_without, same_name, two_names}
use Rattle.dest_tasks.specs.Posts.{is_same}
use Rattle.dest_tasks.specs.Completing.{Deed, Accepts, Sizes, Claims, GivesBack, Lands, Stops, Commits, Retires, Does, ends, landing_in, left_of, one_if}
use Rattle.dest_tasks.proofs.Left.{landed_else, left_lower}

-- ---- both of two

both : (a b : Bool) → (a && b) ≡ true → (a ≡ true) × (b ≡ true)
both true b is = (refl, is)
both false b is = absurd (cc)

-- ---- a job among others, with more behind them

more_at : (q : Job → Bool) (x y : Job) (xs ys : List Job) (b : Bool) → (if b then Some x else find q xs) ≡ Some y
    → (find q xs ≡ Some y → find q (xs ++ ys) ≡ Some y) → (if b then Some x else find q (xs ++ ys)) ≡ Some y
more_at q x y xs ys true found rest = found
more_at q x y xs ys false found rest = rest found

find_more : (q : Job → Bool) (y : Job) (xs ys : List Job) → find q xs ≡ Some y → find q (xs ++ ys) ≡ Some y
find_more q y [] ys found = absurd (cc)
find_more q y (x ∷ xs) ys found = more_at q x y xs ys (q x) found (find_more q y xs ys)

-- ---- the log of a sized job goes on

pub record Goes (len count : ℕ) (v w : JobView) : Type 0 where
  pub is_sized : size_of w.entries ≡ Some len
  pub claims : ClaimsAreNew w
  pub as_far : has_ended w.entries ≡ has_ended v.entries
  pub left : left_of w.entries (chunks_of len) + count ≡ left_of v.entries (chunks_of len)

stays : (len : ℕ) (v : JobView) → size_of v.entries ≡ Some len → ClaimsAreNew v → Goes len 0 v v
stays len v is new = record { is_sized = is; claims = new; as_far = refl; left = omega arith }

-- a claim of the next chunk
neither : (a b : Bool) → (a || b) ≡ false → (a ≡ false) × (b ≡ false)
neither false b is = (refl, is)
neither true b is = absurd (cc)

if_some : (b : Bool) (x y : Option ℕ) (m : ℕ) {P : Type 0} → (if b then x else y) ≡ Some m → (b ≡ true → x ≡ Some m → P) → (b ≡ false → y ≡ Some m → P) → P
if_some true x y m is holds fails = holds refl is
if_some false x y m is holds fails = fails refl is

record IsFree (taken : ℕ → Bool) (end at : ℕ) : Type 0 where
  below : at < end
  free : taken at ≡ false

free_at : (taken : ℕ → Bool) (left from at : ℕ) → first_free taken left from ≡ Some at → IsFree taken (from + left) at
free_at taken zero from at is = absurd (cc)
free_at taken (suc left) from at is = if_some (taken from) _ _ at is
    (λ (b : taken from ≡ true) more. let rest = free_at taken left (from + 1) at more in let lt = rest.below in record { below = omega arith; free = rest.free })
    (λ (b : taken from ≡ false) (here : Some from ≡ Some at).
    let same : from ≡ at = cc in
    record { below = omega arith; free = subst (λ (n : ℕ). taken n ≡ false) same b })

number_of : (number : ℕ) → (number * chunk_size) / chunk_size ≡ number
number_of number = omega arith

claims_at : (len : ℕ) (v : JobView) (number : ℕ) → size_of v.entries ≡ Some len → ClaimsAreNew v → IsFree (is_taken v) (0 + chunks_of (total v.entries)) number
    → Goes len 0 v (with_claim v (chunk_at v number) true)
claims_at len v number is new free = record {
  is_sized = is;
  claims = λ j there. ⊎_elim
      (λ (here : j ≡ (number * chunk_size) / chunk_size).
      let same : j ≡ number = here ∙ number_of number in
      let lt : number < 0 + chunks_of (total v.entries) = free.below in
      let unlanded = (neither (flag v.claims number) (has_landed v.entries (number * chunk_size)) free.free).1 in
      (omega arith, subst (λ (n : ℕ). has_landed v.entries (n * chunk_size) ≡ false) (sym same) unlanded))
      (λ (old : flag v.claims j ≡ true). new j old)
      (set_true v.claims ((number * chunk_size) / chunk_size) j there);
  as_far = refl;
  left = omega arith;
}

next_at : (len : ℕ) (v : JobView) (number : Option ℕ) (chunk : Chunk) → size_of v.entries ≡ Some len → ClaimsAreNew v
    → first_free (is_taken v) (chunks_of (total v.entries)) 0 ≡ number → option_map (chunk_at v) number ≡ Some chunk
    → Goes len 0 v (with_claim v chunk true)
next_at len v None chunk is new found at = absurd (cc)
next_at len v (Some number) chunk is new found at =
    let here : chunk_at v number ≡ chunk = cc in
    subst (λ (c : Chunk). Goes len 0 v (with_claim v c true)) here
    (claims_at len v number is new (free_at (is_taken v) (chunks_of (total v.entries)) 0 number found))

claim_goes : (len : ℕ) (v : JobView) (chunk : Chunk) (ended : Bool) → size_of v.entries ≡ Some len → ClaimsAreNew v → next_unless ended v ≡ Some chunk
    → Goes len 0 v (with_claim v chunk true)
claim_goes len v chunk true is new next = absurd (cc)
claim_goes len v chunk false is new next = next_at len v (first_free (is_taken v) (chunks_of (total v.entries)) 0) chunk is new refl next

-- a claim that goes back
back_if : (len : ℕ) (v : JobView) (chunk : Chunk) (claimed : Bool) → size_of v.entries ≡ Some len → ClaimsAreNew v
    → Goes len 0 v (if claimed then with_claim v chunk false else v)
back_if len v chunk true is new = record {
  is_sized = is;
  claims = λ j there. new j (set_false v.claims (chunk.off / chunk_size) j there).1;
  as_far = refl;
  left = omega arith;
}
back_if len v chunk false is new = stays len v is new

-- a landing
size_same : (es : List Entry) (off n : ℕ) → size_of (es ++ Landed off n ∷ []) ≡ size_of es
size_same [] off n = refl
size_same (Sized len ∷ es) off n = refl
size_same (Landed at len ∷ es) off n = size_same es off n
size_same (Stopped ∷ es) off n = size_same es off n
size_same (Committed ∷ es) off n = size_same es off n
size_same (Reported ∷ es) off n = size_same es off n

or_none : (a : Bool) → (a || false) ≡ a
or_none true = refl
or_none false = refl

ended_same : (es : List Entry) (off n : ℕ) → has_ended (es ++ Landed off n ∷ []) ≡ has_ended es
ended_same es off n = list_any-append is_end es (Landed off n ∷ []) ∙ or_none (has_ended es)

record Lands_now (v : JobView) (chunk : Chunk) : Type 0 where
  start : chunk.off % chunk_size ≡ 0
  claim : flag v.claims (chunk.off / chunk_size) ≡ true

now_claimed : (v : JobView) (chunk : Chunk) → is_claimed v chunk ≡ true → Lands_now v chunk
now_claimed v chunk is =
    let first = both (chunk.off % chunk_size == 0) (flag v.claims (chunk.off / chunk_size) && (chunk.len == chunk_len (total v.entries) chunk.off)) is in
    let second = both (flag v.claims (chunk.off / chunk_size)) (chunk.len == chunk_len (total v.entries) chunk.off) first.1 in
    record { start = eqb-true (chunk.off % chunk_size) 0 first.0; claim = second.0 }

landing_if : (ended claimed late : Bool) → (if ended || not claimed then landings.Late else (if late then landings.Held else landings.Landed)) ≡ landings.Landed → claimed ≡ true
landing_if true claimed late is = absurd (cc)
landing_if false true late is = refl
landing_if false false late is = absurd (cc)

chunk_start : (off : ℕ) → off % chunk_size ≡ 0 → off ≡ (off / chunk_size) * chunk_size
chunk_start off is = omega arith

land_goes : (len : ℕ) (v : JobView) (chunk : Chunk) → size_of v.entries ≡ Some len → ClaimsAreNew v → landing_of v chunk ≡ landings.Landed
    → Goes len 1 v (landed v chunk)
land_goes len v chunk is new lands =
    let now = now_claimed v chunk (landing_if (has_ended v.entries) (is_claimed v chunk) (waits v chunk) lands) in
    let m : ℕ = chunk.off / chunk_size in
    let start : chunk.off ≡ m * chunk_size = chunk_start chunk.off now.start in
    let mine = new m now.claim in
    let unlanded : has_landed v.entries chunk.off ≡ false = subst (λ (off : ℕ). has_landed v.entries off ≡ false) (sym start) mine.1 in
    let whole : total v.entries ≡ len = ap total_of is in
    let same : size_of (v.entries ++ Landed chunk.off chunk.len ∷ []) ≡ size_of v.entries = size_same v.entries chunk.off chunk.len in
    let within : m * chunk_size < total v.entries = mine.0 in
    record {
      is_sized = same ∙ is;
      claims = λ j there.
          let old = set_false v.claims m j there in
          let before = new j old.1 in
          let apart : (chunk.off ≡ j * chunk_size → ⊥) = λ (at : chunk.off ≡ j * chunk_size). old.0 (omega (arith, start)) in
          (subst (λ (n : Option ℕ). j * chunk_size < total_of n) (sym same) before.0, landed_else v.entries (j * chunk_size) chunk.off chunk.len apart ∙ before.1);
      as_far = ended_same v.entries chunk.off chunk.len;
      left = left_lower v.entries m chunk.off chunk.len (chunks_of len) start (omega (arith, within, whole)) unlanded;
    }

-- ---- the job of a name, after what is done to the book

abbrev pub relogged : (JobView → JobView) → Job → Job
relogged f job = record job { log = f job.log }

elsewhere : (b : BookView) (job name : JobName) (f : JobView → JobView) → is_same job name ≡ false → named (with_its job f b).table name ≡ named b.table name
elsewhere b job name f other =
    find_other (is_job b.table.boot (id_of job)) (is_job b.table.boot (id_of name)) (relogged f) b.table.jobs (λ x. refl)
    (λ x first second. two_names b.table.boot job name x other first second)

pub its_own : (b : BookView) (name : JobName) (f : JobView → JobView) → named (with_its name f b).table name ≡ option_map (relogged f) (named b.table name)
its_own b name f = find_changed (is_job b.table.boot (id_of name)) (relogged f) b.table.jobs (λ x. refl)

-- it is there still, and its log has gone on
pub record IsThere (name : JobName) (len count : ℕ) (job : Job) (c : BookView) : Type 0 where
  pub after : Job
  pub there : named c.table name ≡ Some after
  pub goes : Goes len count job.log after.log

unmoved : (name : JobName) (len : ℕ) (job : Job) (b c : BookView) → size_of job.log.entries ≡ Some len → ClaimsAreNew job.log
    → named b.table name ≡ Some job → named c.table name ≡ named b.table name → IsThere name len 0 job c
unmoved name len job b c is new there same = record { after = job; there = same ∙ there; goes = stays len job.log is new }

moved : (name : JobName) (len count : ℕ) (job : Job) (f : JobView → JobView) (b : BookView) → named b.table name ≡ Some job → Goes len count job.log (f job.log)
    → IsThere name len count job (with_its name f b)
moved name len count job f b there goes =
    record { after = relogged f job; there = its_own b name f ∙ ap (λ (o : Option Job). option_map (relogged f) o) there; goes = goes }

abbrev count_if : Bool → ℕ → ℕ
count_if true n = n
count_if false n = 0

-- by whether it is done to this job
by_name : (name : JobName) (len count : ℕ) (job : Job) (f : JobView → JobView) (b : BookView) (other : JobName) (same : Bool) → is_same other name ≡ same
    → size_of job.log.entries ≡ Some len → ClaimsAreNew job.log → named b.table name ≡ Some job
    → (other ≡ name → Goes len count job.log (f job.log))
    → IsThere name len (count_if same count) job (with_its other f b)
by_name name len count job f b other true is size new there goes =
    let this : other ≡ name = same_name other name is in
    subst (λ (n : JobName). IsThere name len count job (with_its n f b)) (sym this) (moved name len count job f b there (goes this))
by_name name len count job f b other false is size new there goes =
    unmoved name len job b (with_its other f b) size new there (elsewhere b other name f is)

none_at : (same : Bool) → count_if same 0 ≡ 0
none_at true = refl
none_at false = refl

one_at : (same : Bool) → count_if same 1 ≡ one_if same
one_at true = refl
one_at false = refl

quiet : (name : JobName) (len : ℕ) (job : Job) (f : JobView → JobView) (b : BookView) (other : JobName)
    → size_of job.log.entries ≡ Some len → ClaimsAreNew job.log → named b.table name ≡ Some job
    → (other ≡ name → Goes len 0 job.log (f job.log)) → IsThere name len 0 job (with_its other f b)
quiet name len job f b other size new there goes =
    subst (λ (n : ℕ). IsThere name len n job (with_its other f b)) (none_at (is_same other name))
    (by_name name len 0 job f b other (is_same other name) refl size new there goes)

-- one that isn't done to this job
not_this_one : (name : JobName) (len : ℕ) (job : Job) (f : JobView → JobView) (b : BookView) (other : JobName) → is_same other name ≡ false
    → size_of job.log.entries ≡ Some len → ClaimsAreNew job.log → named b.table name ≡ Some job → IsThere name len 0 job (with_its other f b)
not_this_one name len job f b other is size new there = unmoved name len job b (with_its other f b) size new there (elsewhere b other name f is)

-- ---- each of them

no_size : (len : ℕ) (b : BookView) (name other : JobName) (job : Job) {P : Type 0} → size_of job.log.entries ≡ Some len → named b.table name ≡ Some job
    → size_in (named b.table other) ≡ None → other ≡ name → P
no_size len b name other job size there none this =
    let is : size_in (named b.table name) ≡ None = subst (λ (n : JobName). size_in (named b.table n) ≡ None) this none in
    let has : size_in (named b.table name) ≡ Some len = ap size_in there ∙ size in
    absurd (cc)

claimed_some : (name : JobName) (len : ℕ) (job : Job) (b : BookView) (other : JobName) (chunk : Option Chunk) → next_chunk (named b.table other) ≡ chunk
    → size_of job.log.entries ≡ Some len → ClaimsAreNew job.log → named b.table name ≡ Some job → IsThere name len 0 job (claimed chunk other b)
claimed_some name len job b other None next size new there = unmoved name len job b b size new there refl
claimed_some name len job b other (Some chunk) next size new there =
    quiet name len job (λ log. with_claim log chunk true) b other size new there
    (λ (this : other ≡ name).
    let mine : next_chunk (named b.table name) ≡ Some chunk = subst (λ (n : JobName). next_chunk (named b.table n) ≡ Some chunk) this next in
    claim_goes len job.log chunk (has_ended job.log.entries) size new (sym (ap next_chunk there) ∙ mine))

accepted_by : (name : JobName) (len : ℕ) (job : Job) (b : BookView) (plan : Plan) (answer : Acceptance) → size_of job.log.entries ≡ Some len → ClaimsAreNew job.log
    → named b.table name ≡ Some job → IsThere name len 0 job (after_accept answer plan b)
accepted_by name len job b plan (answers.Accepted at) size new there =
    record { after = job; there = find_more (is_job b.table.boot (id_of name)) job b.table.jobs _ there; goes = stays len job.log size new }
accepted_by name len job b plan (answers.Overlap at) size new there = unmoved name len job b b size new there refl
accepted_by name len job b plan answers.Full size new there = unmoved name len job b b size new there refl
accepted_by name len job b plan answers.TooFar size new there = unmoved name len job b b size new there refl

landing_mine : (b : BookView) (name other : JobName) (job : Job) (chunk : Chunk) → named b.table name ≡ Some job
    → table_landing b.table (id_of other) chunk ≡ landings.Landed → other ≡ name → landing_of job.log chunk ≡ landings.Landed
landing_mine b name other job chunk there lands this =
    let mine : table_landing b.table (id_of name) chunk ≡ landings.Landed = subst (λ (n : JobName). table_landing b.table (id_of n) chunk ≡ landings.Landed) this lands in
    sym (ap (λ (o : Option Job). landing_at o chunk) there) ∙ mine

pub one_deed : (name : JobName) (len : ℕ) (job : Job) (deed : Deed) (b c : BookView) → size_of job.log.entries ≡ Some len → ClaimsAreNew job.log
    → named b.table name ≡ Some job → ends name deed ≡ false → Does deed b c → IsThere name len (landing_in name deed) job c
one_deed name len job (Accepts plan) b c size new there spares done =
    subst (λ (d : BookView). IsThere name len 0 job d) (sym done) (accepted_by name len job b plan (accept_answer b.table plan) size new there)
one_deed name len job (Sizes spare to other) b c size new there spares done =
    subst (λ (d : BookView). IsThere name len 0 job d) (sym done.1)
    (quiet name len job (λ log. sized (record log { spare = spare }) to) b other size new there (λ this. no_size len b name other job size there done.0 this))
one_deed name len job (Claims other) b c size new there spares done =
    subst (λ (d : BookView). IsThere name len 0 job d) (sym done) (claimed_some name len job b other (next_chunk (named b.table other)) refl size new there)
one_deed name len job (GivesBack other chunk) b c size new there spares done =
    subst (λ (d : BookView). IsThere name len 0 job d) (sym done)
    (quiet name len job (λ log. given_back log chunk) b other size new there (λ this. back_if len job.log chunk (is_claimed job.log chunk) size new))
one_deed name len job (Lands other chunk) b c size new there spares done =
    subst (λ (d : BookView). IsThere name len (one_if (is_same other name)) job d) (sym done.1)
    (subst (λ (n : ℕ). IsThere name len n job (with_its other (λ log. after_landing log chunk landings.Landed) b)) (one_at (is_same other name))
    (by_name name len 1 job (λ log. after_landing log chunk landings.Landed) b other (is_same other name) refl size new there
    (λ this. land_goes len job.log chunk size new (landing_mine b name other job chunk there done.0 this))))
one_deed name len job (Stops cause other) b c size new there spares done =
    subst (λ (d : BookView). IsThere name len 0 job d) (sym done) (not_this_one name len job (λ log. stopped cause log) b other spares size new there)
one_deed name len job (Commits other) b c size new there spares done =
    subst (λ (d : BookView). IsThere name len 0 job d) (sym done) (not_this_one name len job (λ log. with_entry log Committed) b other spares size new there)
one_deed name len job (Retires other) b c size new there spares done =
    subst (λ (d : BookView). IsThere name len 0 job d) (sym done)
    (unmoved name len job b (retired other b) size new there
    (find_without (is_job b.table.boot (id_of other)) (is_job b.table.boot (id_of name)) b.table.jobs
    (λ x first second. two_names b.table.boot other name x spares first second)))
