-- The events of a large copy, place by place: one for each line but the rounds, and two for each of those.
use Rattle.std.proofs.Common.{◌≡◌, true, inl, inr, ℕ, zero, suc, ◌+◌, ◌-◌, ◌*◌, ◌/◌, ◌%◌, ◌<◌, ◌≤◌, List, [], ◌∷◌, ◌++◌, length, get_or, replicate, refl, sym, ap, subst, ◌∙◌, arith, append_assoc, length-append}
use Rattle.std.proofs.lemmas.Bool.{cases_lt}
use Rattle.std.proofs.lemmas.List.{get_or_append_left, get_or-append_right, length-replicate}
use Rattle.std.proofs.lemmas.List.Concat.{flat_map-append}
use Rattle.nfs_base.specs.declared.side.Side.TheVariants.{Source, Dest}
use Rattle.wire_schedule.specs.Expansion.{events_of}
use Rattle.wire_schedule.specs.declared.directive.Directive.{Directive}
use Rattle.wire_schedule.specs.declared.directive.Directive.TheVariants.{Once, Rounds}
use Rattle.wire_schedule.specs.declared.event.Event.{Event}
use Rattle.wire_schedule.specs.declared.event.Event.TheVariants.{Volume, Write, Copy, Flow, Work}
use Rattle.large_copy.specs.Large.{blocks_of, copy, events_count, file_bytes, flows, flows_of, large_events, large_lines, large_schedule, rounds, rounds_of, singles_of, volumes, writes, writes_of}
use Rattle.large_copy.proofs.Admitted.{events_in, events_numbered}
use Rattle.large_copy.proofs.Lines.{copy_at, dest_at, flow_at, length-flows, length-writes, source_at, write_at}

-- ---- lines of one event each

record IsOnce (line : Directive) : Type 0 where
  event : Event
  is : line ≡ Once event

-- the first so many lines are
abbrev AreOnce : List Directive → ℕ → Type 0
AreOnce lines count = (i : ℕ) (d : Directive) → i < count → IsOnce (get_or lines i d)

rest_once : (line : Directive) (lines : List Directive) (count : ℕ) → AreOnce (line ∷ lines) (suc count) → AreOnce lines count
rest_once line lines count once = λ i d lt. once (suc i) d (omega arith)

first_once : (line : Directive) (lines : List Directive) (count : ℕ) → AreOnce (line ∷ lines) (suc count) → IsOnce line
first_once line lines count once = once 0 line (omega arith)

-- each gives the event at its place
once_at : (lines : List Directive) (count i : ℕ) (e : Event) → AreOnce lines count → i < count → i < length lines
    → Once (get_or (events_in lines) i e) ≡ get_or lines i (Once e)
once_at [] count i e once lt there = absurd (omega arith)
once_at (line ∷ lines) zero i e once lt there = absurd (omega arith)
once_at (line ∷ lines) (suc count) zero e once lt there =
    let first = first_once line lines count once in
    ap (λ (d : Directive). Once (get_or (events_of d ++ events_in lines) 0 e)) first.is ∙ sym first.is
once_at (line ∷ lines) (suc count) (suc i) e once lt there =
    let first = first_once line lines count once in
    ap (λ (d : Directive). Once (get_or (events_of d ++ events_in lines) (suc i) e)) first.is
    ∙ once_at lines count i e (rest_once line lines count once) (omega arith) (omega arith)

-- and no more
length_once : (lines : List Directive) → AreOnce lines (length lines) → length (events_in lines) ≡ length lines
length_once [] once = refl
length_once (line ∷ lines) once =
    let first = first_once line lines (length lines) once in
    ap (λ (d : Directive). length (events_of d ++ events_in lines)) first.is ∙ ap suc (length_once lines (rest_once line lines (length lines) once))

-- ---- rounds

abbrev twice : ℕ → ℕ
twice zero = zero
twice (suc q) = suc (suc (twice q))

twice_is : (q : ℕ) → twice q ≡ 2 * q
twice_is zero = refl
twice_is (suc q) = let more = twice_is q in omega (arith, more)

flow_at_round : (k q : ℕ) (e : Event) → q < k → get_or (events_in (replicate k (Rounds 1))) (twice q) e ≡ Flow
flow_at_round zero q e lt = absurd (omega arith)
flow_at_round (suc k) zero e lt = refl
flow_at_round (suc k) (suc q) e lt = flow_at_round k q e (omega arith)

work_at_round : (k q : ℕ) (e : Event) → q < k → get_or (events_in (replicate k (Rounds 1))) (suc (twice q)) e ≡ Work 1
work_at_round zero q e lt = absurd (omega arith)
work_at_round (suc k) zero e lt = refl
work_at_round (suc k) (suc q) e lt = work_at_round k q e (omega arith)

length_rounds : (k : ℕ) → length (events_in (replicate k (Rounds 1))) ≡ 2 * k
length_rounds zero = refl
length_rounds (suc k) = let more = length_rounds k in omega (arith, more)

-- ---- the lines before the rounds

module _ (n : ℕ) where
  abbrev front : List Directive
  front = volumes n ++ (writes n ++ (flows n ++ copy ∷ []))

  lines_are : large_lines n ≡ front ++ rounds n
  unfolding large_lines
  lines_are =
      ap (λ (xs : List Directive). volumes n ++ xs)
      (ap (λ (xs : List Directive). writes n ++ xs) (sym (append_assoc (flows n) (copy ∷ []) (rounds n)))
      ∙ sym (append_assoc (writes n) (flows n ++ copy ∷ []) (rounds n)))

  length_front : length front ≡ singles_of n
  length_front =
      let last = length-append (flows n) (copy ∷ []) in
      let written = length-append (writes n) (flows n ++ copy ∷ []) in
      omega (arith, last, written, length-writes n, length-flows n)

  is_once : (i : ℕ) (d : Directive) → i < singles_of n → IsOnce (get_or (large_lines n) i d)
  is_once zero d lt = record { event = Volume Source 1 (blocks_of n); is = source_at n 0 d refl }
  is_once (suc zero) d lt = record { event = Volume Dest 1 (blocks_of n); is = dest_at n 1 d refl }
  is_once (suc (suc i)) d lt =
      elim (cases_lt i (writes_of n)) [
        | inl below ↦
            record {
              event = Write Source 1 (65536 * (suc (suc i) - 2)) (file_bytes (65536 * (suc (suc i) - 2)) 65536);
              is = write_at n (suc (suc i)) d (omega arith) (omega (arith, below));
            }
        | inr above ↦ behind above
      ]
    where
      behind : writes_of n ≤ i → IsOnce (get_or (large_lines n) (suc (suc i)) d)
      behind above =
          elim (cases_lt i (writes_of n + flows_of n)) [
            | inl below ↦ record { event = Flow; is = flow_at n (suc (suc i)) d (omega (arith, above)) (omega (arith, below)) }
            | inr past ↦
                record {
                  event = Copy 1 (record { src_file = 1; src_off = 0; dst_file = 1; dst_off = 0; count = 0; consecutive = true });
                  is = copy_at n (suc (suc i)) d (omega (arith, past, lt));
                }
          ]

  are_once : AreOnce (large_lines n) (singles_of n)
  are_once = is_once

  pub events_are : large_events n ≡ events_in (large_lines n)
  unfolding large_schedule
  events_are = events_numbered 1 (large_lines n)

  front_once : AreOnce front (length front)
  front_once = λ i d lt.
      subst (λ (x : Directive). IsOnce x) (sym (in_front i d lt)) (is_once i d (omega (arith, lt, length_front)))
    where
      in_front : (i : ℕ) (d : Directive) → i < length front → get_or front i d ≡ get_or (large_lines n) i d
      in_front i d lt = sym (ap (λ (xs : List Directive). get_or xs i d) lines_are ∙ get_or_append_left front (rounds n) d i lt)

  split : large_events n ≡ events_in front ++ events_in (rounds n)
  split = events_are ∙ (ap events_in lines_are ∙ flat_map-append events_of front (rounds n))

  length_singles : length (events_in front) ≡ singles_of n
  length_singles = length_once front front_once ∙ length_front

  pub length-events : length (large_events n) ≡ events_count n
  length-events =
      ap (λ (es : List Event). length es) split
      ∙ (length-append (events_in front) (events_in (rounds n)) ∙ omega (arith, length_singles, length_rounds (rounds_of n)))

  pub single_is : (i : ℕ) (e : Event) → i < singles_of n → Once e ≡ get_or (large_lines n) i (Once e) → e ≡ get_or (large_events n) i e
  single_is i e lt is =
      event_of e (get_or (events_in (large_lines n)) i e)
      (is ∙ sym (once_at (large_lines n) (singles_of n) i e are_once lt (omega (arith, lt, whole))))
      ∙ ap (λ (es : List Event). get_or es i e) (sym events_are)
    where
      event_of : (a b : Event) → Once a ≡ Once b → a ≡ b
      event_of a b same = cc

      whole : length (large_lines n) ≡ singles_of n + rounds_of n
      whole =
          ap (λ (xs : List Directive). length xs) lines_are
          ∙ (length-append front (rounds n) ∙ omega (arith, length_front, length-replicate (rounds_of n) (Rounds 1)))

  in_rounds : (i : ℕ) (e : Event) → singles_of n ≤ i → get_or (large_events n) i e ≡ get_or (events_in (rounds n)) (i - singles_of n) e
  in_rounds i e le =
      ap (λ (es : List Event). get_or es i e) split
      ∙ get_or-append_right (events_in front) (events_in (rounds n)) (singles_of n) i e length_singles le

  pub flow_in_round : (i : ℕ) (e : Event) → singles_of n ≤ i → (i - singles_of n) % 2 ≡ 0 → i < events_count n → get_or (large_events n) i e ≡ Flow
  flow_in_round i e le even lt =
      let q : ℕ = (i - singles_of n) / 2 in
      in_rounds i e le
      ∙ (ap (λ (j : ℕ). get_or (events_in (rounds n)) j e) (omega (arith, even, twice_is q)) ∙ flow_at_round (rounds_of n) q e (omega (arith, lt, even)))

  pub work_in_round : (i : ℕ) (e : Event) → singles_of n ≤ i → (i - singles_of n) % 2 ≡ 1 → i < events_count n → get_or (large_events n) i e ≡ Work 1
  work_in_round i e le odd lt =
      let q : ℕ = (i - singles_of n) / 2 in
      in_rounds i e le
      ∙ (ap (λ (j : ℕ). get_or (events_in (rounds n)) j e) (omega (arith, odd, twice_is q)) ∙ work_at_round (rounds_of n) q e (omega (arith, lt, odd)))
