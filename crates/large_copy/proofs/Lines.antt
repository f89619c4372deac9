-- The lines of a large copy, place by place.
use Rattle.std.proofs.Common.{◌≡◌, ℕ, zero, suc, ◌+◌, ◌-◌, ◌%◌, ◌<◌, ◌≤◌, List, [], ◌∷◌, ◌++◌, length, get_or, refl, ap, ◌∙◌, arith, length-append}
use Rattle.std.proofs.lemmas.List.{get_or_append_left, get_or-append_right, get_or-replicate, length-replicate}
use Rattle.std.proofs.lemmas.List.FromFn.{get_or-map-range_with_len, length-map-range_with_len, map-range_with_len_more}
use Rattle.std.specs.Prelude.{Result, Ok, Err, IfOk}
use Rattle.nfs_base.specs.declared.side.Side.TheVariants.{Source, Dest}
use Rattle.wire_schedule.specs.ScheduleText.{entry}
use Rattle.wire_schedule.specs.Spelling.{entries_from}
use Rattle.wire_schedule.specs.declared.directive.Directive.{Directive}
use Rattle.wire_schedule.specs.declared.directive.Directive.TheVariants.{Once, Rounds}
use Rattle.wire_schedule.specs.declared.directive.Entry.{Entry}
use Rattle.wire_schedule.specs.declared.event.Event.TheVariants.{Volume, Flow}
use Rattle.large_copy.specs.Large.{blocks_of, copy, entries_of, file_bytes, flows, flows_of, large_lines, large_schedule, rounds, rounds_of, volumes, write, writes, writes_of}

-- ---- bytes

pub no_bytes : (off : ℕ) → file_bytes off 0 ≡ []
unfolding file_bytes
no_bytes off = refl

pub one_more_byte : (off k : ℕ) → file_bytes off (k + 1) ≡ file_bytes off k ++ (off + k) % 251 ∷ []
unfolding file_bytes
one_more_byte off k = map-range_with_len_more (λ (i : ℕ). i % 251) off k (off + k) refl

pub length-file_bytes : (off count : ℕ) → length (file_bytes off count) ≡ count
unfolding file_bytes
length-file_bytes off count = length-map-range_with_len (λ (i : ℕ). i % 251) off count

pub file_bytes_at : (off count k d : ℕ) → k < count → get_or (file_bytes off count) k d ≡ (off + k) % 251
unfolding file_bytes
file_bytes_at off count k d lt = get_or-map-range_with_len (λ (i : ℕ). i % 251) off count k (off + k) d lt refl

-- ---- lines that are counted on from a number

pub length-entries_from : (number : ℕ) (lines : List Directive) → length (entries_from number lines) ≡ length lines
length-entries_from number [] = refl
length-entries_from number (line ∷ lines) = ap suc (length-entries_from (number + 1) lines)

pub numbered_at : (number : ℕ) (lines : List Directive) (i : ℕ) (d : Entry) → i < length lines
    → get_or (entries_from number lines) i d ≡ entry (number + i) (get_or lines i d.directive)
numbered_at number [] i d lt = absurd (omega arith)
numbered_at number (line ∷ lines) zero d lt = let same : number ≡ number + 0 = omega arith in ap (λ (n : ℕ). entry n line) same
numbered_at number (line ∷ lines) (suc i) d lt =
    let same : number + 1 + i ≡ number + suc i = omega arith in
    numbered_at (number + 1) lines i d (omega arith) ∙ ap (λ (n : ℕ). entry n (get_or lines i d.directive)) same

-- ---- how many there are

module _ (n : ℕ) where
  pub length-writes : length (writes n) ≡ writes_of n
  length-writes = length-map-range_with_len write 0 (writes_of n)

  pub length-flows : length (flows n) ≡ flows_of n
  length-flows = length-replicate (flows_of n) (Once Flow)

  length-rounds : length (rounds n) ≡ rounds_of n
  length-rounds = length-replicate (rounds_of n) (Rounds 1)

  length-last : length (copy ∷ rounds n) ≡ 1 + rounds_of n
  length-last = omega (arith, length-rounds)

  length-later : length (flows n ++ copy ∷ rounds n) ≡ flows_of n + (1 + rounds_of n)
  length-later = length-append (flows n) (copy ∷ rounds n) ∙ omega (arith, length-flows, length-last)

  length-written : length (writes n ++ (flows n ++ copy ∷ rounds n)) ≡ writes_of n + (flows_of n + (1 + rounds_of n))
  length-written = length-append (writes n) (flows n ++ copy ∷ rounds n) ∙ omega (arith, length-writes, length-later)

  pub length-lines : length (large_lines n) ≡ entries_of n
  unfolding large_lines
  length-lines = omega (arith, length-written)

  pub length-schedule : length (large_schedule n) ≡ entries_of n
  unfolding large_schedule
  length-schedule = length-entries_from 1 (large_lines n) ∙ length-lines

  -- ---- which stands where

  written_at : (i : ℕ) (d : Directive) → get_or (large_lines n) (2 + i) d ≡ get_or (writes n ++ (flows n ++ copy ∷ rounds n)) i d
  unfolding large_lines
  written_at i d =
      get_or-append_right (volumes n) (writes n ++ (flows n ++ copy ∷ rounds n)) 2 (2 + i) d refl (omega arith)
      ∙ ap (λ (k : ℕ). get_or (writes n ++ (flows n ++ copy ∷ rounds n)) k d) (omega arith)

  later_at : (i : ℕ) (d : Directive) → get_or (large_lines n) (2 + (writes_of n + i)) d ≡ get_or (flows n ++ copy ∷ rounds n) i d
  later_at i d =
      written_at (writes_of n + i) d
      ∙ (get_or-append_right (writes n) (flows n ++ copy ∷ rounds n) (writes_of n) (writes_of n + i) d length-writes (omega arith)
      ∙ ap (λ (k : ℕ). get_or (flows n ++ copy ∷ rounds n) k d) (omega arith))

  last_at : (i : ℕ) (d : Directive) → get_or (large_lines n) (2 + (writes_of n + (flows_of n + i))) d ≡ get_or (copy ∷ rounds n) i d
  last_at i d =
      later_at (flows_of n + i) d
      ∙ (get_or-append_right (flows n) (copy ∷ rounds n) (flows_of n) (flows_of n + i) d length-flows (omega arith)
      ∙ ap (λ (k : ℕ). get_or (copy ∷ rounds n) k d) (omega arith))

  pub source_at : (i : ℕ) (d : Directive) → i ≡ 0 → get_or (large_lines n) i d ≡ Once (Volume Source 1 (blocks_of n))
  unfolding large_lines
  source_at i d is = ap (λ (k : ℕ). get_or (large_lines n) k d) is

  pub dest_at : (i : ℕ) (d : Directive) → i ≡ 1 → get_or (large_lines n) i d ≡ Once (Volume Dest 1 (blocks_of n))
  unfolding large_lines
  dest_at i d is = ap (λ (k : ℕ). get_or (large_lines n) k d) is

  pub write_at : (i : ℕ) (d : Directive) → 2 ≤ i → i < 2 + writes_of n → get_or (large_lines n) i d ≡ write (i - 2)
  write_at i d above below =
      ap (λ (k : ℕ). get_or (large_lines n) k d) (omega arith)
      ∙ (written_at (i - 2) d
      ∙ (get_or_append_left (writes n) (flows n ++ copy ∷ rounds n) d (i - 2) (omega (arith, length-writes))
      ∙ get_or-map-range_with_len write 0 (writes_of n) (i - 2) (i - 2) d (omega arith) (omega arith)))

  pub flow_at : (i : ℕ) (d : Directive) → 2 + writes_of n ≤ i → i < 2 + writes_of n + flows_of n → get_or (large_lines n) i d ≡ Once Flow
  flow_at i d above below =
      let k : ℕ = i - (2 + writes_of n) in
      ap (λ (j : ℕ). get_or (large_lines n) j d) (omega arith)
      ∙ (later_at k d
      ∙ (get_or_append_left (flows n) (copy ∷ rounds n) d k (omega (arith, length-flows))
      ∙ get_or-replicate (flows_of n) k (Once Flow) d (omega arith)))

  pub copy_at : (i : ℕ) (d : Directive) → i ≡ 2 + writes_of n + flows_of n → get_or (large_lines n) i d ≡ copy
  copy_at i d is = ap (λ (j : ℕ). get_or (large_lines n) j d) (omega arith) ∙ last_at 0 d

  pub round_at : (i : ℕ) (d : Directive) → 2 + writes_of n + flows_of n < i → i < entries_of n → get_or (large_lines n) i d ≡ Rounds 1
  round_at i d above below =
      let k : ℕ = i - (3 + writes_of n + flows_of n) in
      ap (λ (j : ℕ). get_or (large_lines n) j d) (omega arith)
      ∙ (last_at (1 + k) d
      ∙ (get_or-append_right (copy ∷ []) (rounds n) 1 (1 + k) d refl (omega arith)
      ∙ (ap (λ (j : ℕ). get_or (rounds n) j d) (omega arith)
      ∙ get_or-replicate (rounds_of n) k (Rounds 1) d (omega arith))))

  pub entry_at : (i : ℕ) (d : Entry) → i < entries_of n → get_or (large_schedule n) i d ≡ entry (1 + i) (get_or (large_lines n) i d.directive)
  unfolding large_schedule
  entry_at i d lt = numbered_at 1 (large_lines n) i d (omega (arith, length-lines))

-- ---- an answer with more to it

pub if_ok : {T E : Type 0} (r : Result T E) (P Q : T → Type 0) → ((x : T) → P x → Q x) → IfOk r P → IfOk r Q
if_ok (Ok x) P Q more p = more x p
if_ok (Err e) P Q more p = tt
