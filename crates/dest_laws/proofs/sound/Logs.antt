-- How the log of one job goes on, as its job may.
use Rattle.std.proofs.Common.{◌≡◌, ◌⊎◌, inl, inr, ⊎_elim, ℕ, zero, suc, ◌+◌, ◌*◌, ◌/◌, ◌%◌, ◌<◌, ◌≤◌, Bool, true, false, List, [], ◌∷◌, ◌++◌, Option, Some, None, replicate, refl, sym, ap, subst, ◌∙◌, arith}
use Rattle.std.proofs.lemmas.Bool.{and_parts, cases_lt, eqb-true, ltb-false, ne_eqb, or_parts}
use Rattle.std.specs.List.{list_any}
use Rattle.std.specs.Prelude.{◌==◌, ◌&&◌, ◌||◌, ◌-◌, not, nat_lt, is_none, if◌then◌else◌, option_map, slice_get, take, Ok, Err}
use Rattle.copy_model.specs.Job.{Allows, AllowsCommit, AllowsLanding, Committed, Entry, IsChunk, IsLawful, Landed, Sized, Stopped, chunk_len, chunk_size, chunks_of, has_ended, has_landed, is_end, is_landing, size_of, unlanded}
use Rattle.dest_work.specs.Findings.{len_of as length_for, range_len}
use Rattle.job_book.specs.Working.{chunk_at, first_free, is_taken, is_whole_by, next_unless, stopped}
use Rattle.dest_tasks.specs.FlagLaws.{set_false, set_true}
use Rattle.job_log.specs.Bits.{flag}
use Rattle.job_log.specs.Log.{ClaimsAreNew, JobView, given_back, have_landed, is_claimed, landed, landing_of, sized, total, total_of, waits, with_claim, with_entry}
use Rattle.job_log.specs.declared.chunk.Chunk.{Chunk}
use Rattle.job_log.specs.declared.chunk.Landing.TheVariants as landings
use Rattle.job_table.specs.Table.{end_of}
use Rattle.job_table.specs.declared.job.Plan.{Plan}
use Rattle.nfs_base.specs.declared.job.Stop.{Stop}
use Rattle.nfs_base.specs.declared.job.Stop.TheVariants.{NoRoom, PastEnd}

-- the laws of copy_model
pub record LogLaws : Type 0 where
  pub same : (es : List Entry) (e : Entry) → size_of (e ∷ []) ≡ None → size_of (es ++ e ∷ []) ≡ size_of es
  pub first : (es : List Entry) (e : Entry) → size_of es ≡ None → size_of (es ++ e ∷ []) ≡ size_of (e ∷ [])
  pub stays : (test : Entry → Bool) (es : List Entry) (e : Entry) → list_any test es ≡ true → list_any test (es ++ e ∷ []) ≡ true
  pub fails : (test : Entry → Bool) (es : List Entry) (e : Entry) → test e ≡ false → list_any test (es ++ e ∷ []) ≡ list_any test es
  pub none : (es : List Entry) (total : ℕ) → unlanded es total ≡ None → (off : ℕ) → IsChunk total off → has_landed es off ≡ true

-- ---- a log of a plan, and another in its stead

pub record IsGood (plan : Plan) (v : JobView) : Type 0 where
  pub lawful : IsLawful plan.consecutive v.entries
  pub claims : ClaimsAreNew v
  pub order : v.consecutive ≡ plan.consecutive

-- the other is as good; its job runs only where it ran, and covers no more
pub record Follows (capacity : ℕ) (plan : Plan) (v w : JobView) : Type 0 where
  pub good : IsGood plan w
  pub runs : has_ended w.entries ≡ false → has_ended v.entries ≡ false
  pub covers : (byte : ℕ) → byte < end_of capacity plan (size_of w.entries) → byte < end_of capacity plan (size_of v.entries)

-- ---- one more entry

push_cases : (es : List Entry) (new : Entry) (i : ℕ) (e : Entry) → slice_get (es ++ new ∷ []) i ≡ Some e
    → ((slice_get es i ≡ Some e) × (take i (es ++ new ∷ []) ≡ take i es)) ⊎ ((new ≡ e) × (take i (es ++ new ∷ []) ≡ es))
push_cases [] new zero e is = inr (cc, refl)
push_cases [] new (suc i) e is = absurd (cc)
push_cases (x ∷ es) new zero e is = inl (is, refl)
push_cases (x ∷ es) new (suc i) e is =
    ⊎_elim
    (λ old. inl (old.0, ap (λ l. x ∷ l) old.1))
    (λ last. inr (last.0, ap (λ l. x ∷ l) last.1))
    (push_cases es new i e is)

pushed : (consecutive : Bool) (es : List Entry) (new : Entry) → IsLawful consecutive es → Allows consecutive es new → IsLawful consecutive (es ++ new ∷ [])
pushed consecutive es new lawful allowed i e is =
    ⊎_elim
    (λ old. subst (λ l. Allows consecutive l e) (sym old.1) (lawful i e old.0))
    (λ last. subst (λ l. Allows consecutive l e) (sym last.1) (subst (Allows consecutive es) last.0 allowed))
    (push_cases es new i e is)

none_so : (o : Option ℕ) → is_none o ≡ true → o ≡ None
none_so None is = refl
none_so (Some n) is = absurd (cc)

module _ (laws : LogLaws) (capacity : ℕ) (plan : Plan) where
  ran_before : (es : List Entry) (e : Entry) → has_ended (es ++ e ∷ []) ≡ false → (b : Bool) → has_ended es ≡ b → b ≡ false
  ran_before es e runs true is = let up = laws.stays is_end es e is in absurd (cc)
  ran_before es e runs false is = refl

  -- an entry that gives no length and lands nothing
  quiet_follows : (v w : JobView) (e : Entry) → IsGood plan v → Allows plan.consecutive v.entries e → size_of (e ∷ []) ≡ None
      → ((off : ℕ) → is_landing off e ≡ false) → w.entries ≡ v.entries ++ e ∷ [] → w.claims ≡ v.claims → w.consecutive ≡ v.consecutive → Follows capacity plan v w
  quiet_follows v w e good allowed no_size no_landing entries claims order =
      let size : size_of w.entries ≡ size_of v.entries = ap size_of entries ∙ laws.same v.entries e no_size in
      record {
        good = record {
          lawful = subst (IsLawful plan.consecutive) (sym entries) (pushed plan.consecutive v.entries e good.lawful allowed);
          claims = λ j there.
              let was = good.claims j (subst (λ (c : List Bool). flag c j ≡ true) claims there) in (
                subst (λ (n : Option ℕ). j * chunk_size < total_of n) (sym size) was.0,
                ap (λ (es : List Entry). has_landed es (j * chunk_size)) entries ∙ laws.fails (is_landing (j * chunk_size)) v.entries e (no_landing (j * chunk_size)) ∙ was.1,
              );
          order = order ∙ good.order;
        };
        runs = λ runs. ran_before v.entries e (ap has_ended (sym entries) ∙ runs) (has_ended v.entries) refl;
        covers = λ byte low. subst (λ (n : Option ℕ). byte < end_of capacity plan n) size low;
      }

  pub stop_follows : (cause : Stop) (v : JobView) → IsGood plan v → has_ended v.entries ≡ false → Follows capacity plan v (stopped cause v)
  stop_follows cause v good runs = quiet_follows v (stopped cause v) Stopped good runs refl (λ off. refl) refl refl refl

  -- ---- it is committed, each chunk having landed

  whole_allows : (es : List Entry) (size : Option ℕ) → size_of es ≡ size → is_whole_by es size ≡ true → AllowsCommit es
  whole_allows es None is whole = absurd (cc)
  whole_allows es (Some len) is whole =
      record { total = len; is_sized = is; all_landed = laws.none es len (none_so (unlanded es len) whole) }

  pub commit_follows : (v : JobView) → IsGood plan v → has_ended v.entries ≡ false → is_whole_by v.entries (size_of v.entries) ≡ true
      → Follows capacity plan v (with_entry v Committed)
  commit_follows v good runs whole =
      quiet_follows v (with_entry v Committed) Committed good (whole_allows v.entries (size_of v.entries) refl whole, runs) refl (λ off. refl) refl refl refl

  -- ---- its length becomes known

  no_flag : (n j : ℕ) → flag (replicate n false) j ≡ true → ⊥
  no_flag zero j is = absurd (cc)
  no_flag (suc n) zero is = absurd (cc)
  no_flag (suc n) (suc j) is = no_flag n j is

  fits_by : (past far to_end : Bool) (len count from size : ℕ) → nat_lt capacity (from + (if to_end then size else count)) ≡ far
      → (if past then Err PastEnd else (if far then Err NoRoom else Ok (if to_end then size else count))) ≡ Ok len
      → (byte : ℕ) → byte < (if to_end then from + len else from + count) → byte < (if to_end then capacity else from + count)
  fits_by true far to_end len count from size is gives byte low = absurd (cc)
  fits_by false true to_end len count from size is gives byte low = absurd (cc)
  fits_by false false true len count from size is gives byte low =
      let most = ltb-false capacity (from + size) is in
      let e : size ≡ len = (let g = gives in cc) in
      omega (arith, most, e, low)
  fits_by false false false len count from size is gives byte low = low

  pub size_follows : (spare len size : ℕ) (v : JobView) → IsGood plan v → has_ended v.entries ≡ false → size_of v.entries ≡ None
      → length_for plan capacity size ≡ Ok len → Follows capacity plan v (sized (record v { spare = spare }) len)
  size_follows spare len size v good runs unsized gives =
      let now : size_of (v.entries ++ Sized len ∷ []) ≡ Some len = laws.first v.entries (Sized len) unsized in
      record {
        good = record {
          lawful = pushed plan.consecutive v.entries (Sized len) good.lawful (unsized, runs);
          claims = λ j there. absurd (no_flag (chunks_of len) j there);
          order = good.order;
        };
        runs = λ after. runs;
        covers = λ byte low.
            subst (λ (n : Option ℕ). byte < end_of capacity plan n) (sym unsized)
            (fits_by (nat_lt size (plan.src_off + plan.count)) (nat_lt capacity (plan.dst_off + range_len plan size)) (plan.count == 0) len plan.count plan.dst_off
            (size - plan.src_off) refl gives byte (subst (λ (n : Option ℕ). byte < end_of capacity plan n) now low));
      }

  -- ---- a chunk is claimed, goes back, or lands

  pub same_follows : (v : JobView) → IsGood plan v → Follows capacity plan v v
  same_follows v good = record { good = good; runs = λ runs. runs; covers = λ byte low. low }

  record IsFree (taken : ℕ → Bool) (end at : ℕ) : Type 0 where
    below : at < end
    free : taken at ≡ false

  free_by : (here : Bool) (taken : ℕ → Bool) (left from at : ℕ) → taken from ≡ here → (if here then first_free taken left (from + 1) else Some from) ≡ Some at
      → ((first_free taken left (from + 1) ≡ Some at) → IsFree taken (from + 1 + left) at) → IsFree taken (from + suc left) at
  free_by true taken left from at is found rest = let more = rest found in let low = more.below in record { below = omega (arith, low); free = more.free }
  free_by false taken left from at is found rest =
      let same : from ≡ at = (let f = found in cc) in
      record { below = omega (arith, same); free = subst (λ (n : ℕ). taken n ≡ false) same is }

  free_at : (taken : ℕ → Bool) (left from at : ℕ) → first_free taken left from ≡ Some at → IsFree taken (from + left) at
  free_at taken zero from at is = absurd (cc)
  free_at taken (suc left) from at is = free_by (taken from) taken left from at refl is (λ more. free_at taken left (from + 1) at more)

  claims_at : (v : JobView) (number : ℕ) → IsGood plan v → IsFree (is_taken v) (0 + chunks_of (total v.entries)) number
      → Follows capacity plan v (with_claim v (chunk_at v number) true)
  claims_at v number good free = record {
    good = record {
      lawful = good.lawful;
      claims = λ j there. ⊎_elim
          (λ (here : j ≡ (number * chunk_size) / chunk_size).
          let back : (number * chunk_size) / chunk_size ≡ number = omega arith in
          let same : j ≡ number = here ∙ back in
          let low : number < 0 + chunks_of (total v.entries) = free.below in
          let untaken = (or_parts (flag v.claims number) (has_landed v.entries (number * chunk_size)) free.free).1 in
          (omega (arith, same, low), subst (λ (n : ℕ). has_landed v.entries (n * chunk_size) ≡ false) (sym same) untaken))
          (λ (old : flag v.claims j ≡ true). good.claims j old)
          (set_true v.claims ((number * chunk_size) / chunk_size) j there);
      order = good.order;
    };
    runs = λ runs. runs;
    covers = λ byte low. low;
  }

  next_at : (v : JobView) (number : Option ℕ) (chunk : Chunk) → IsGood plan v → first_free (is_taken v) (chunks_of (total v.entries)) 0 ≡ number
      → option_map (chunk_at v) number ≡ Some chunk → Follows capacity plan v (with_claim v chunk true)
  next_at v None chunk good found is = absurd (cc)
  next_at v (Some number) chunk good found is =
      let here : chunk_at v number ≡ chunk = (let e = is in cc) in
      subst (λ (c : Chunk). Follows capacity plan v (with_claim v c true)) here
      (claims_at v number good (free_at (is_taken v) (chunks_of (total v.entries)) 0 number found))

  pub claim_follows : (v : JobView) (chunk : Chunk) (ended : Bool) → IsGood plan v → next_unless ended v ≡ Some chunk → Follows capacity plan v (with_claim v chunk true)
  claim_follows v chunk true good next = absurd (cc)
  claim_follows v chunk false good next = next_at v (first_free (is_taken v) (chunks_of (total v.entries)) 0) chunk good refl next

  back_if : (v : JobView) (chunk : Chunk) (claimed : Bool) → IsGood plan v → Follows capacity plan v (if claimed then with_claim v chunk false else v)
  back_if v chunk true good = record {
    good = record {
      lawful = good.lawful;
      claims = λ j there. good.claims j (set_false v.claims (chunk.off / chunk_size) j there).1;
      order = good.order;
    };
    runs = λ runs. runs;
    covers = λ byte low. low;
  }
  back_if v chunk false good = same_follows v good

  pub back_follows : (v : JobView) (chunk : Chunk) → IsGood plan v → Follows capacity plan v (given_back v chunk)
  back_follows v chunk good = back_if v chunk (is_claimed v chunk) good

  record Lands (v : JobView) (chunk : Chunk) : Type 0 where
    runs : has_ended v.entries ≡ false
    claimed : is_claimed v chunk ≡ true
    waits_not : waits v chunk ≡ false

  landing_if : (v : JobView) (chunk : Chunk) (ended claimed late : Bool) → has_ended v.entries ≡ ended → is_claimed v chunk ≡ claimed → waits v chunk ≡ late
      → (if ended || not claimed then landings.Late else (if late then landings.Held else landings.Landed)) ≡ landings.Landed → Lands v chunk
  landing_if v chunk true claimed late e c w is = absurd (cc)
  landing_if v chunk false false late e c w is = absurd (cc)
  landing_if v chunk false true true e c w is = absurd (cc)
  landing_if v chunk false true false e c w is = record { runs = e; claimed = c; waits_not = w }

  each_landed : (es : List Entry) (n : ℕ) → have_landed es n ≡ true → (i : ℕ) → i < n → has_landed es (i * chunk_size) ≡ true
  each_landed es zero all i low = absurd (omega (arith, low))
  each_landed es (suc n) all i low =
      let parts = and_parts (have_landed es n) (has_landed es (n * chunk_size)) all in
      ⊎_elim (λ (before : i < n). each_landed es n parts.0 i before)
      (λ (last : n ≤ i). let same : n ≡ i = omega (arith, low, last) in subst (λ (m : ℕ). has_landed es (m * chunk_size) ≡ true) same parts.1)
      (cases_lt i n)

  in_order : (consecutive have : Bool) → (consecutive && not have) ≡ false → consecutive ≡ true → have ≡ true
  in_order true true w is = refl
  in_order true false w is = absurd (cc)
  in_order false have w is = absurd (cc)

  size_there : (size : Option ℕ) (low : ℕ) → low < total_of size → (len : ℕ) × (size ≡ Some len)
  size_there None low is = absurd (omega (arith, is))
  size_there (Some len) low is = (len, refl)

  pub land_follows : (v : JobView) (chunk : Chunk) → IsGood plan v → landing_of v chunk ≡ landings.Landed → Follows capacity plan v (landed v chunk)
  land_follows v chunk good lands =
      let now = landing_if v chunk (has_ended v.entries) (is_claimed v chunk) (waits v chunk) refl refl refl lands in
      let first = and_parts (chunk.off % chunk_size == 0) (flag v.claims (chunk.off / chunk_size) && (chunk.len == chunk_len (total v.entries) chunk.off)) now.claimed in
      let second = and_parts (flag v.claims (chunk.off / chunk_size)) (chunk.len == chunk_len (total v.entries) chunk.off) first.1 in
      let m : ℕ = chunk.off / chunk_size in
      let even : chunk.off % chunk_size ≡ 0 = eqb-true (chunk.off % chunk_size) 0 first.0 in
      let start : chunk.off ≡ m * chunk_size = omega (arith, even) in
      let mine = good.claims m second.0 in
      let there = size_there (size_of v.entries) (m * chunk_size) mine.0 in
      let sum : total v.entries ≡ there.0 = ap total_of there.1 in
      let within = mine.0 in
      let allowed : AllowsLanding plan.consecutive v.entries chunk.off chunk.len = record {
        total = there.0;
        is_sized = there.1;
        chunk = record { number = m; start = start; within = omega (arith, start, within, sum) };
        length_is = eqb-true chunk.len (chunk_len (total v.entries) chunk.off) second.1 ∙ ap (λ (n : ℕ). chunk_len n chunk.off) sum;
        is_new = subst (λ (off : ℕ). has_landed v.entries off ≡ false) (sym start) mine.1;
        in_order = λ ordered earlier piece before.
            let number = piece.number in
            let at_start = piece.start in
            subst (λ (off : ℕ). has_landed v.entries off ≡ true) (sym at_start)
            (each_landed v.entries m (in_order v.consecutive (have_landed v.entries m) now.waits_not (good.order ∙ ordered)) number (omega (arith, at_start, start, before)));
      } in
      let same : size_of (v.entries ++ Landed chunk.off chunk.len ∷ []) ≡ size_of v.entries = laws.same v.entries (Landed chunk.off chunk.len) refl in
      record {
        good = record {
          lawful = pushed plan.consecutive v.entries (Landed chunk.off chunk.len) good.lawful (allowed, now.runs);
          claims = λ j set_then.
              let old = set_false v.claims m j set_then in
              let before = good.claims j old.1 in
              let apart : (chunk.off == j * chunk_size) ≡ false = ne_eqb chunk.off (j * chunk_size) (λ (at : chunk.off ≡ j * chunk_size). old.0 (omega (arith, start, at))) in (
                subst (λ (n : Option ℕ). j * chunk_size < total_of n) (sym same) before.0,
                laws.fails (is_landing (j * chunk_size)) v.entries (Landed chunk.off chunk.len) apart ∙ before.1,
              );
          order = good.order;
        };
        runs = λ runs. ran_before v.entries (Landed chunk.off chunk.len) runs (has_ended v.entries) refl;
        covers = λ byte low. subst (λ (n : Option ℕ). byte < end_of capacity plan n) same low;
      }
