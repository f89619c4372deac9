-- The good run of the examples is kept.
use Rattle.std.proofs.Common.{◌≡◌, ◌⊎◌, inl, inr, ⊎_elim, ℕ, zero, suc, ◌+◌, ◌<◌, ◌≤◌, true, false, None, List, [], ◌∷◌, refl, sym, ◌∙◌, ap, subst, arith}
use Rattle.std.proofs.lemmas.Bool.{false≢true}
use Rattle.copy_model.specs.Job.{Plan}
use Rattle.copy_model.specs.Volume.{File, Volume, no_file, formatted, file_at, byte_at}
use Rattle.copy_model.specs.Moment.{Dest, Copy, Moment, seen_dest}
use Rattle.copy_model.specs.Promise.{InRange, IsStableBy, IsTouched, IsDuring, source_byte, Shows, IsSettled, HasExtent, IsAlike, IsOutside, IsCompletedBy, IsKept}
use Rattle.copy_model.specs.Examples.{plan, accepted, reported, landed, safe, at_start, at_accept, at_size, at_landing, at_commit, at_report, at_crash, at_rest, good}
use Rattle.copy_model.proofs.Runs.{each_moment, shows_only}

abbrev moments : List Moment
moments = at_start ∷ at_accept ∷ at_size ∷ at_landing ∷ at_commit ∷ at_report ∷ at_crash ∷ []

-- what holds of each moment from the report on
since_report : (P : Moment → Type 0) → P at_report → P at_crash → P at_rest → (k : ℕ) → 5 ≤ k → P (good k)
since_report P report crash rest (suc (suc (suc (suc (suc k))))) le = each_moment P (at_report ∷ at_crash ∷ []) at_rest (report, (crash, tt)) rest k
since_report P report crash rest k le = absurd (omega arith)

-- no copy but the first is ever more than accepted
others_wait : (k j : ℕ) → (good k).copy (suc j) ≡ accepted
others_wait k j =
    each_moment (λ m. m.copy (suc j) ≡ accepted) moments at_rest (refl, (refl, (refl, (refl, (refl, (refl, (refl, tt))))))) refl k

one_plan : (k : ℕ) → ((good k).copy 0).plan ≡ plan
one_plan k =
    each_moment (λ m. (m.copy 0).plan ≡ plan) moments at_rest (refl, (refl, (refl, (refl, (refl, (refl, (refl, tt))))))) refl k

two_bytes : (k place : ℕ) → InRange ((good k).copy 0) place → (place ≡ 3) ⊎ (place ≡ 4)
two_bytes k place =
    each_moment (λ m. InRange (m.copy 0) place → (place ≡ 3) ⊎ (place ≡ 4)) moments at_rest (none, (none, (two, (two, (two, (two, (two, tt))))))) two k
  where
    none : (3 ≤ place) × (place < 3 + 0) → (place ≡ 3) ⊎ (place ≡ 4)
    none within = absurd (omega arith)

    two : (3 ≤ place) × (place < 3 + 2) → (place ≡ 3) ⊎ (place ≡ 4)
    two within = grind arith

stable_late : (s : ℕ) → IsStableBy good 0 s → 5 ≤ s
stable_late zero stable = absurd (false≢true stable)
stable_late (suc zero) stable = absurd (false≢true stable)
stable_late (suc (suc zero)) stable = absurd (false≢true stable)
stable_late (suc (suc (suc zero))) stable = absurd (false≢true stable)
stable_late (suc (suc (suc (suc zero)))) stable = absurd (false≢true stable)
stable_late (suc (suc (suc (suc (suc s))))) stable = omega arith

-- once reported, the copy is completed, and its two bytes are those that were asked for
stable_whole : (j s : ℕ) → IsStableBy good j s → IsCompletedBy good j s × HasExtent good j ((good s).copy j)
stable_whole zero s stable =
    subst
    (λ (c : Copy). (c.completed ≡ true) × HasExtent good 0 c)
    (sym (since_report (λ m. m.copy 0 ≡ reported) refl refl refl s (stable_late s stable)))
    (refl, record { counted = λ some. refl; to_end = λ none. absurd (omega arith) })
stable_whole (suc j) s stable = absurd (false≢true (sym (ap (λ (c : Copy). c.stable) (others_wait s j)) ∙ stable))

-- the copy was there, and not complete, when its chunk landed
during_landing : IsDuring good 0 3
during_landing = (omega arith, not_yet)
  where
    not_yet : (l : ℕ) → l < 3 → ((good l).copy 0).completed ≡ false
    not_yet zero before = refl
    not_yet (suc zero) before = refl
    not_yet (suc (suc zero)) before = refl
    not_yet (suc (suc (suc l))) before = absurd (omega arith)

-- a byte that the source always held, and that is all that is shown from the report on
settled : (s place value : ℕ) → 5 ≤ s → ((i : ℕ) → source_byte (good i) plan place ≡ value)
    → ((k : ℕ) → 5 ≤ k → (x : ℕ) → Shows (good k).dest 1 place x → x ≡ value) → IsSettled good 0 plan s place
settled s place value late source shown = record {
  value = value;
  held = record { moment = 3; during = during_landing; readable = refl; byte = source 3 };
  stays = λ k le untouched. shown k (omega arith);
  exact = λ still i during readable. source i;
}

settled_each : (s place : ℕ) → 5 ≤ s → (place ≡ 3) ⊎ (place ≡ 4) → IsSettled good 0 plan s place
settled_each s place late (inl first) =
    subst (IsSettled good 0 plan s) (sym first) (settled s 3 7 late
    (each_moment (λ m. source_byte m plan 3 ≡ 7) moments at_rest (refl, (refl, (refl, (refl, (refl, (refl, (refl, tt))))))) refl)
    (since_report (λ m. (x : ℕ) → Shows m.dest 1 3 x → x ≡ 7) (shows_only at_report.dest 1 3 7 refl refl refl) (shows_only at_crash.dest 1 3 7 refl refl refl) (shows_only at_rest.dest 1 3 7 refl refl refl)))
settled_each s place late (inr second) =
    subst (IsSettled good 0 plan s) (sym second) (settled s 4 8 late
    (each_moment (λ m. source_byte m plan 4 ≡ 8) moments at_rest (refl, (refl, (refl, (refl, (refl, (refl, (refl, tt))))))) refl)
    (since_report (λ m. (x : ℕ) → Shows m.dest 1 4 x → x ≡ 8) (shows_only at_report.dest 1 4 8 refl refl refl) (shows_only at_crash.dest 1 4 8 refl refl refl) (shows_only at_rest.dest 1 4 8 refl refl refl)))

stable_settled : (j s k place : ℕ) → IsStableBy good j s → InRange ((good s).copy j) place → s ≤ k
    → (IsTouched good j ((good s).copy j).plan place k → ⊥) → IsSettled good j ((good s).copy j).plan s place
stable_settled zero s k place stable within le untouched =
    subst (λ (p : Plan). IsSettled good 0 p s place) (sym (one_plan s)) (settled_each s place (stable_late s stable) (two_bytes s place within))
stable_settled (suc j) s k place stable within le untouched =
    absurd (false≢true (sym (ap (λ (c : Copy). c.stable) (others_wait s j)) ∙ stable))

-- at a place each byte of both volumes is 0, and nothing is in doubt
record IsClear (d bare : Dest) (file place : ℕ) : Type 0 where
  readable : bare.broken ≡ false
  now : d.now file place ≡ 0
  safe : d.safe file place ≡ 0
  certain : d.doubt file place ≡ None
  bare_now : bare.now file place ≡ 0
  bare_safe : bare.safe file place ≡ 0
  bare_certain : bare.doubt file place ≡ None

clear_alike : (d bare : Dest) (file place : ℕ) → IsClear d bare file place → IsAlike d bare file place
clear_alike d bare file place clear = record {
  broken = λ readable. clear.readable;
  now = λ readable. clear.now ∙ sym clear.bare_now;
  safe = clear.safe ∙ sym clear.bare_safe;
  doubt = clear.certain ∙ sym clear.bare_certain;
}

abbrev with_file : File → Volume
with_file f = record (formatted 1 64) { files = no_file ∷ f ∷ [] }

-- where only file 1 holds bytes, it is enough to look at that
clear_of : (f : File) (file place : ℕ) → (1 ≡ file → byte_at f.now place ≡ 0) → (1 ≡ file → byte_at f.safe place ≡ 0)
    → IsClear (seen_dest (with_file f)) (seen_dest (with_file no_file)) file place
clear_of f zero place shown left = record { readable = refl; now = refl; safe = refl; certain = refl; bare_now = refl; bare_safe = refl; bare_certain = refl }
clear_of f (suc zero) place shown left = record { readable = refl; now = shown refl; safe = left refl; certain = refl; bare_now = refl; bare_safe = refl; bare_certain = refl }
clear_of f (suc (suc file)) place shown left = record { readable = refl; now = refl; safe = refl; certain = refl; bare_now = refl; bare_safe = refl; bare_certain = refl }

beside : (place : ℕ) → ((place ≡ 3) ⊎ (place ≡ 4) → ⊥) → byte_at (0 ∷ 0 ∷ 0 ∷ 7 ∷ 8 ∷ []) place ≡ 0
beside zero apart = refl
beside (suc zero) apart = refl
beside (suc (suc zero)) apart = refl
beside (suc (suc (suc zero))) apart = absurd (apart (inl refl))
beside (suc (suc (suc (suc zero)))) apart = absurd (apart (inr refl))
beside (suc (suc (suc (suc (suc place))))) apart = refl

-- once the copy is sized, what is outside is beside its two bytes
outside_beside : (k file place : ℕ) → IsOutside good (suc (suc k)) file place → 1 ≡ file → (place ≡ 3) ⊎ (place ≡ 4) → ⊥
outside_beside k file place outside same two =
    outside 0 made (ap (λ (p : Plan). p.dst_file) (one_plan (suc (suc k))) ∙ same) (within k)
  where
    here : (3 ≤ place) × (place < 3 + 2)
    here = ⊎_elim (λ (e : place ≡ 3). (omega arith, omega arith)) (λ (e : place ≡ 4). (omega arith, omega arith)) two

    made : 0 < (good (suc (suc k))).made
    made = each_moment (λ m. 0 < m.made) (at_size ∷ at_landing ∷ at_commit ∷ at_report ∷ at_crash ∷ []) at_rest (omega arith, (omega arith, (omega arith, (omega arith, (omega arith, tt))))) (omega arith) k

    within : (l : ℕ) → InRange ((good (suc (suc l))).copy 0) place
    within l = each_moment (λ m. InRange (m.copy 0) place) (at_size ∷ at_landing ∷ at_commit ∷ at_report ∷ at_crash ∷ []) at_rest (here, (here, (here, (here, (here, tt))))) here l

clear_outside : (k file place : ℕ) → IsOutside good k file place → IsClear (good k).dest (good k).bare file place
clear_outside zero file place outside = clear_of no_file file place (λ here. refl) (λ here. refl)
clear_outside (suc zero) file place outside = clear_of no_file file place (λ here. refl) (λ here. refl)
clear_outside (suc (suc k)) file place outside =
    each_moment (λ m. IsClear m.dest m.bare file place) (at_size ∷ at_landing ∷ at_commit ∷ at_report ∷ at_crash ∷ []) at_rest (
      clear_of no_file file place (λ here. refl) (λ here. refl),
      (clear_of (file_at landed 1) file place zero_now (λ here. refl), (committed, (committed, (committed, tt)))),
    )
    committed k
  where
    zero_now : 1 ≡ file → byte_at (0 ∷ 0 ∷ 0 ∷ 7 ∷ 8 ∷ []) place ≡ 0
    zero_now here = beside place (outside_beside k file place outside here)

    committed : IsClear at_commit.dest at_commit.bare file place
    committed = clear_of (file_at safe 1) file place zero_now zero_now

completes : (j k : ℕ) → IsCompletedBy good j k → IsCompletedBy good j (suc k)
completes zero zero completed = absurd (false≢true completed)
completes zero (suc zero) completed = absurd (false≢true completed)
completes zero (suc (suc zero)) completed = absurd (false≢true completed)
completes zero (suc (suc (suc zero))) completed = absurd (false≢true completed)
completes zero (suc (suc (suc (suc k)))) completed =
    each_moment (λ m. (m.copy 0).completed ≡ true) (at_report ∷ at_crash ∷ []) at_rest (refl, (refl, tt)) refl k
completes (suc j) k completed = absurd (false≢true (sym (ap (λ (c : Copy). c.completed) (others_wait k j)) ∙ completed))

reports : (j k : ℕ) → IsStableBy good j k → IsStableBy good j (suc k)
reports zero k stable =
    since_report (λ m. (m.copy 0).stable ≡ true) refl refl refl (suc k) (let late = stable_late k stable in omega arith)
reports (suc j) k stable = absurd (false≢true (sym (ap (λ (c : Copy). c.stable) (others_wait k j)) ∙ stable))

pub good_kept : IsKept good
good_kept = record {
  whole = stable_whole;
  stable = stable_settled;
  others = λ k file place outside. clear_alike _ _ file place (clear_outside k file place outside);
  zeros = λ k file place outside unwritten x shows.
      let clear = clear_outside k file place outside in
      shows_only (good k).dest file place 0 clear.now clear.safe clear.certain x shows;
  completes = completes;
  reports = reports;
}
