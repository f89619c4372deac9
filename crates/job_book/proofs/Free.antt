-- The lowest chunk that is neither landed nor claimed is the first that is found to be free.
use Rattle.std.proofs.Common.{◌≡◌, ⊎_elim, ℕ, zero, suc, ◌+◌, ◌-◌, ◌*◌, ◌/◌, ◌<◌, ◌≤◌, Bool, true, false, List, refl, sym, ap, subst, ◌∙◌, arith}
use Rattle.std.proofs.Math.Nat.{eq-or-lt_of_le}
use Rattle.std.specs.Prelude.{◌||◌, if◌then◌else◌, Option, Some, None, option_map, is_none, IfNone, IfSome, IsSome}
use Rattle.std.specs.Bool.{OnFalse, OnTrue}
use Rattle.copy_model.specs.Job.{AllowsCommit, Entry, IsChunk, chunk_len, chunk_size, chunks_of, has_ended, has_landed, size_of, unlanded}
use Rattle.job_log.specs.Bits.{flag}
use Rattle.job_log.specs.Log.{HasNoClaim, IsNextClaim, JobView, total, with_claim}
use Rattle.job_log.specs.declared.chunk.Chunk.{Chunk}
use Rattle.job_table.specs.Table.{JobTable, with_log}
use Rattle.job_table.specs.declared.job.Job.{Job}
use Rattle.job_table.specs.declared.job.JobId.{JobId}
use Rattle.job_book.specs.Book.{IsWithin}
use Rattle.job_book.specs.Working.{chunk_at, first_free, is_taken, is_whole, is_whole_by, next_chunk, next_free, next_unless}
use Rattle.job_book.proofs.Logged.{within_logged}

if_taken : {X : Type 0} (b : Bool) (x y : X) → b ≡ true → (if b then x else y) ≡ x
if_taken true x y is = refl
if_taken false x y is = absurd (cc)

if_free : {X : Type 0} (b : Bool) (x y : X) → b ≡ false → (if b then x else y) ≡ y
if_free false x y is = refl
if_free true x y is = absurd (cc)

-- all before it are taken, and it isn't
first_is : (taken : ℕ → Bool) (left number at : ℕ) → number ≤ at → at < number + left → ((j : ℕ) → j < at → taken j ≡ true) → taken at ≡ false
    → first_free taken left number ≡ Some at
first_is taken zero number at from to before free = absurd (omega arith)
first_is taken (suc left) number at from to before free = ⊎_elim
    (λ (here : number ≡ at). if_free (taken number) _ _ (subst (λ (n : ℕ). taken n ≡ false) (sym here) free) ∙ ap (λ (n : ℕ). Some n) here)
    (λ (below : number < at). if_taken (taken number) _ _ (before number below) ∙ first_is taken left (number + 1) at (omega arith) (omega arith) before free)
    (eq-or-lt_of_le from)

-- all are taken
first_none : (taken : ℕ → Bool) (left number : ℕ) → ((j : ℕ) → j < number + left → taken j ≡ true) → first_free taken left number ≡ None
first_none taken zero number all = refl
first_none taken (suc left) number all =
    if_taken (taken number) _ _ (all number (omega arith)) ∙ first_none taken left (number + 1) (λ j lt. all j (omega arith))

-- ---- the chunk that is claimed

neither : (a b : Bool) → a ≡ false → b ≡ false → (a || b) ≡ false
neither false b is more = more
neither true b is more = absurd (cc)

abbrev made : (off len : ℕ) → Chunk
made off len = record { off = off; len = len }

chunk_is : (v : JobView) (chunk : Chunk) (claim : IsNextClaim v chunk) → chunk_at v claim.number ≡ chunk
chunk_is v chunk claim =
    ap (λ (off : ℕ). made off (chunk_len (total v.entries) off)) (sym claim.start) ∙ ap (λ (len : ℕ). made chunk.off len) (sym claim.length_is)

free_is : (v : JobView) (chunk : Chunk) → IsNextClaim v chunk → next_free v ≡ Some chunk
free_is v chunk claim =
    let within : claim.number * chunk_size < total v.entries = subst (λ (off : ℕ). off < total v.entries) claim.start claim.within in
    let landed = subst (λ (off : ℕ). has_landed v.entries off ≡ false) claim.start claim.not_landed in
    ap (λ (n : Option ℕ). option_map (chunk_at v) n)
    (first_is (is_taken v) (chunks_of (total v.entries)) 0 claim.number (omega arith) (omega arith) claim.earlier (neither _ _ claim.not_claimed landed))
    ∙ ap (λ (c : Chunk). Some c) (chunk_is v chunk claim)

goes_on : (v : JobView) (ended : Bool) → ended ≡ false → next_unless ended v ≡ next_free v
goes_on v false is = refl
goes_on v true is = absurd (cc)

none_is : (v : JobView) (ended : Bool) → has_ended v.entries ≡ ended → HasNoClaim v → next_unless ended v ≡ None
none_is v true is none = refl
none_is v false is none =
    ap (λ (n : Option ℕ). option_map (chunk_at v) n) (first_none (is_taken v) (chunks_of (total v.entries)) 0 (λ j lt. none is j (omega arith)))

pub claim_is : (found : Option Job) (told : Option Chunk) → IfSome told (λ chunk. IfSome found (λ job. IsNextClaim job.log chunk) × IsSome found)
    → IfNone told (IfSome found (λ job. HasNoClaim job.log)) → told ≡ next_chunk found
claim_is (Some job) (Some chunk) is none = sym (goes_on job.log (has_ended job.log.entries) is.0.running ∙ free_is job.log chunk is.0)
claim_is (Some job) None is none = sym (none_is job.log (has_ended job.log.entries) refl none)
claim_is None (Some chunk) is none = let there = is.1 in absurd (cc)
claim_is None None is none = refl

pub claim_within : (past : ℕ) (t u : JobTable) (id : JobId) (told : Option Chunk)
    → IfSome told (λ chunk. u ≡ with_log t id (λ log. with_claim log chunk true)) → IfNone told (u ≡ t) → IsWithin past t → IsWithin past u
claim_within past t u id (Some chunk) is same within = within_logged past t u id (λ log. with_claim log chunk true) is within
claim_within past t u id None is same within = subst (λ v. IsWithin past v) (sym same) within

-- ---- whether all has landed

abbrev NoneLeft : Type 0
NoneLeft = (es : List Entry) (total : ℕ) → unlanded es total ≡ None → (off : ℕ) → IsChunk total off → has_landed es off ≡ true

abbrev AllLanded : Type 0
AllLanded = (es : List Entry) (total : ℕ) → ((off : ℕ) → IsChunk total off → has_landed es off ≡ true) → unlanded es total ≡ None

whole_yes : AllLanded → (es : List Entry) → AllowsCommit es → is_whole_by es (size_of es) ≡ true
whole_yes law es allows =
    ap (λ (len : Option ℕ). is_whole_by es len) allows.is_sized ∙ ap (λ (off : Option ℕ). is_none off) (law es allows.total allows.all_landed)

left_over : NoneLeft → (es : List Entry) (len : ℕ) (off : Option ℕ) → size_of es ≡ Some len → unlanded es len ≡ off → (AllowsCommit es → ⊥) → is_none off ≡ false
left_over law es len None sized is never = absurd (never (record { total = len; is_sized = sized; all_landed = law es len is }))
left_over law es len (Some off) sized is never = refl

whole_no : NoneLeft → (es : List Entry) (len : Option ℕ) → size_of es ≡ len → (AllowsCommit es → ⊥) → is_whole_by es len ≡ false
whole_no law es None is never = refl
whole_no law es (Some len) is never = left_over law es len (unlanded es len) is refl never

pub whole_is : AllLanded → NoneLeft → (found : Option Job) (told : Bool) → OnTrue told (IsSome found)
    → OnTrue told (IfSome found (λ job. AllowsCommit job.log.entries)) → OnFalse told (IfSome found (λ job. AllowsCommit job.log.entries → ⊥))
    → told ≡ is_whole found
whole_is whole left (Some job) true there allows never = sym (whole_yes whole job.log.entries allows)
whole_is whole left (Some job) false there allows never = sym (whole_no left job.log.entries (size_of job.log.entries) refl never)
whole_is whole left None true there allows never = absurd (cc)
whole_is whole left None false there allows never = refl
