-- The copies of a lawful system over its run: their logs, plans and marks.
use Rattle.std.proofs.Common.{◌≡◌, inl, inr, ⊎_elim, ℕ, zero, suc, ◌<◌, ◌≤◌, Bool, true, false, ◌&&◌, ◌||◌, not, nat_lt, Some, List, refl, sym, ◌∙◌, ap, subst, arith}
use Rattle.std.specs.List.{list_any}
use Rattle.std.proofs.lemmas.Bool.{both_ways, false_from_ne_true, and_parts, and_from, or_cases, or_left, or_right, cases_lt, cases_Bool, not-true, not_from_false, false≢true, lt-ltb}
use Rattle.copy_model.specs.Job.{Plan, Entry, Sized, Landed, Stopped, Committed, Reported, size_of, has_ended, is_end, Allows}
use Rattle.copy_model.specs.Marks.{len_of, is_stop, is_commit, is_stopped, is_committed, AreSound}
use Rattle.copy_model.specs.Laws.{CopyLaws, MomentLaws}
use Rattle.wire_model.specs.Spelling.{Spelling}
use Rattle.wire_model.specs.Meaning.{Meaning}
use Rattle.wire_model.specs.Copies.{Job, is_safe, may_land, copy_of, IsBlank}
use Rattle.wire_model.specs.System.{System, plan_at, history, progress}
use Rattle.wire_model.specs.CopyLaws.{IsDue, Enters}
use Rattle.wire_model.specs.Lawful.{IsLawfulSystem}
use Rattle.wire_model.proofs.Ends.{from_on}
use Rattle.wire_model.proofs.Below.{Below}

-- a job that may land has neither ended, nor been retired, nor lost
pub may_parts : (job : Job) → may_land job ≡ true → (has_ended job.entries ≡ false) × (job.retired ≡ false) × (job.lost ≡ false)
may_parts job may =
    let parts = and_parts (not (has_ended job.entries)) (not job.retired && not job.lost) may in
    let rest = and_parts (not job.retired) (not job.lost) parts.1 in
    (not-true (has_ended job.entries) parts.0, not-true job.retired rest.0, not-true job.lost rest.1)

pub may_from : (job : Job) → has_ended job.entries ≡ false → job.retired ≡ false → job.lost ≡ false → may_land job ≡ true
may_from job going kept there =
    and_from
    (not (has_ended job.entries))
    (not job.retired && not job.lost)
    (not_from_false (has_ended job.entries) going)
    (and_from (not job.retired) (not job.lost) (not_from_false job.retired kept) (not_from_false job.lost there))

-- before a mark rose it was down
pub was_down : (before now : Bool) → (before ≡ true → now ≡ true) → now ≡ false → before ≡ false
was_down before now rises down = false_from_ne_true before (λ up. both_ways now down (rises up))

module _ (spell : Spelling) (meaning : Meaning) (s : System) (lawful : IsLawfulSystem spell meaning s) (below : Below) where
  abbrev entries : ℕ → ℕ → List Entry
  entries k j = (s.job k j).entries

  pub made_rises : (i k : ℕ) → i ≤ k → s.made i ≤ s.made k
  made_rises i k le =
      from_on (λ n. s.made i ≤ s.made n) i (omega arith) (λ n after so_far. let step = (lawful.copies n).made in omega arith) k le

  pub blank_at : (k j : ℕ) → s.made k ≤ j → IsBlank (s.job k j)
  blank_at zero j past = lawful.copies_start.blank j
  blank_at (suc k) j past = (lawful.copies k).fresh j (let step = (lawful.copies k).made in omega arith)

  unretired_at : (k j : ℕ) → s.made k ≤ j → (s.job k j).retired ≡ false
  unretired_at zero j past = lawful.copies_start.none_retired j
  unretired_at (suc k) j past = (lawful.copies k).unmade j past

  pub plan_stays : (j i k : ℕ) → i ≤ k → j < s.made i → plan_at s k j ≡ plan_at s i j
  plan_stays j i k le accepted =
      from_on
      (λ n. plan_at s n j ≡ plan_at s i j)
      i
      refl
      (λ n after so_far. (lawful.copies n).plan j (let rises = made_rises i n after in omega arith) ∙ so_far)
      k
      le

  -- a test that an entry of a log passes goes on to be passed
  pub any_stays : (test : Entry → Bool) (k j : ℕ) → j < s.made k → list_any test (entries k j) ≡ true → list_any test (entries (suc k) j) ≡ true
  any_stays test k j there passes =
      ⊎_elim
      (λ (same : entries (suc k) j ≡ entries k j). subst (λ (es : List Entry). list_any test es ≡ true) (sym same) passes)
      (λ (e : Enters spell meaning s k j).
      subst (λ (es : List Entry). list_any test es ≡ true) (sym e.pushed) (below.stays test (entries k j) e.entry passes))
      ((lawful.copies k).entries j there)

  pub sound_at : (k j : ℕ) → AreSound (plan_at s k j).consecutive (entries k j)
  sound_at zero j =
      subst (λ (es : List Entry). AreSound (plan_at s 0 j).consecutive es) (sym (lawful.copies_start.blank j).entries) (below.sound_none (plan_at s 0 j).consecutive)
  sound_at (suc k) j =
      ⊎_elim
      (λ (there : j < s.made k).
      let plan = ap (λ (p : Plan). p.consecutive) ((lawful.copies k).plan j there) in
      subst (λ (b : Bool). AreSound b (entries (suc k) j)) (sym plan) (⊎_elim
      (λ (same : entries (suc k) j ≡ entries k j). subst (AreSound (plan_at s k j).consecutive) (sym same) (sound_at k j))
      (λ (e : Enters spell meaning s k j).
      subst (AreSound (plan_at s k j).consecutive) (sym e.pushed) (below.sound (plan_at s k j).consecutive (entries k j) e.entry (sound_at k j) e.allowed))
      ((lawful.copies k).entries j there)))
      (λ (new : s.made k ≤ j).
      subst
      (λ (es : List Entry). AreSound (plan_at s (suc k) j).consecutive es)
      (sym ((lawful.copies k).fresh j new).entries)
      (below.sound_none (plan_at s (suc k) j).consecutive))
      (cases_lt j (s.made k))

  committed_there : (k j : ℕ) → is_committed (entries k j) ≡ true → j < s.made k
  committed_there k j committed =
      ⊎_elim
      (λ (there : j < s.made k). there)
      (λ (past : s.made k ≤ j).
      absurd (false≢true (sym (ap (λ (es : List Entry). is_committed es) (blank_at k j past).entries) ∙ committed)))
      (cases_lt j (s.made k))

  pub committed_stays : (j i k : ℕ) → i ≤ k → is_committed (entries i j) ≡ true → is_committed (entries k j) ≡ true
  committed_stays j i k le committed =
      from_on (λ n. is_committed (entries n j) ≡ true) i committed (λ n after so_far. any_stays is_commit n j (committed_there n j so_far) so_far) k le

  pub live_before : (k j : ℕ) → j < s.made k → may_land (s.job (suc k) j) ≡ true → may_land (s.job k j) ≡ true
  live_before k j there may =
      let parts = may_parts (s.job (suc k) j) may in
      let marks = (lawful.copies k).marks j there in
      may_from
      (s.job k j)
      (was_down _ _ (any_stays is_end k j there) parts.0)
      (was_down _ _ marks.retired parts.1)
      (was_down _ _ marks.lost parts.2)

  pub was_live : (j i k : ℕ) → i ≤ k → j < s.made i → may_land (s.job k j) ≡ true → may_land (s.job i j) ≡ true
  was_live j i k le accepted =
      from_on
      (λ n. may_land (s.job n j) ≡ true → may_land (s.job i j) ≡ true)
      i
      (λ may. may)
      (λ n after so_far may. so_far (live_before n j (let rises = made_rises i n after in omega arith) may))
      k
      le

  -- a job that may land was not complete at any moment before
  pub incomplete : (j i k : ℕ) → i ≤ k → may_land (s.job k j) ≡ true → is_committed (entries i j) ≡ false
  incomplete j i k le may =
      false_from_ne_true
      (is_committed (entries i j))
      (λ committed. both_ways (has_ended (entries k j)) (may_parts (s.job k j) may).0 (below.committed (entries k j) (committed_stays j i k le committed)))

  pub moment_laws : (k : ℕ) → MomentLaws (history s k) (progress s k)
  moment_laws k =
      record {
        stable = λ j stable. stable_safe k j stable;
        durable = λ j durable. durable;
        completed = λ j completed. not_live k j (λ may. both_ways _ (incomplete j k k (omega arith) may) completed);
        stopped = λ j stopped. not_live k j (λ may. both_ways _ (not_stopped k j may) stopped);
        completed_made = λ j completed. committed_there k j completed;
        stopped_made = λ j stopped. stopped_there k j stopped;
        within = λ j q landed. (sound_at k j).within q landed;
      }
    where
      stable_safe : (k j : ℕ) → (s.job k j).stable ≡ true → is_safe (s.job k j) ≡ true
      stable_safe zero j stable = absurd (both_ways _ (lawful.copies_start.blank j).stable stable)
      stable_safe (suc k) j stable = (lawful.copies k).stable j stable

      not_live : (k j : ℕ) → (may_land (s.job k j) ≡ true → ⊥) → may_land (s.job k j) ≡ false
      not_live k j never = false_from_ne_true (may_land (s.job k j)) never

      not_stopped : (k j : ℕ) → may_land (s.job k j) ≡ true → (is_stopped (entries k j) || (s.job k j).retired) ≡ false
      not_stopped k j may =
          let parts = may_parts (s.job k j) may in
          false_from_ne_true _ (λ up. ⊎_elim
          (λ (ended : is_stopped (entries k j) ≡ true). both_ways _ parts.0 (below.stopped (entries k j) ended))
          (λ (retired : (s.job k j).retired ≡ true). both_ways _ parts.1 retired)
          (or_cases (is_stopped (entries k j)) (s.job k j).retired up))

      stopped_there : (k j : ℕ) → (is_stopped (entries k j) || (s.job k j).retired) ≡ true → j < s.made k
      stopped_there k j stopped =
          ⊎_elim
          (λ (there : j < s.made k). there)
          (λ (past : s.made k ≤ j). absurd (⊎_elim
          (λ (ended : is_stopped (entries k j) ≡ true).
          false≢true (sym (ap (λ (es : List Entry). is_stopped es) (blank_at k j past).entries) ∙ ended))
          (λ (retired : (s.job k j).retired ≡ true). both_ways _ (unretired_at k j past) retired)
          (or_cases (is_stopped (entries k j)) (s.job k j).retired stopped)))
          (cases_lt j (s.made k))

  len_grows : (k j : ℕ) → j < s.made k → len_of (entries k j) ≤ len_of (entries (suc k) j)
  len_grows k j there =
      ⊎_elim
      (λ (same : entries (suc k) j ≡ entries k j). let equal = ap (λ (es : List Entry). len_of es) same in omega arith)
      (λ (e : Enters spell meaning s k j).
      let equal = ap (λ (es : List Entry). len_of es) e.pushed in
      let grows = below.grows (plan_at s k j).consecutive (entries k j) e.entry e.allowed in
      omega arith)
      ((lawful.copies k).entries j there)

  len_fixed : (k j : ℕ) → j < s.made k → is_committed (entries k j) ≡ true → len_of (entries (suc k) j) ≡ len_of (entries k j)
  len_fixed k j there committed =
      ⊎_elim
      (λ (same : entries (suc k) j ≡ entries k j). ap (λ (es : List Entry). len_of es) same)
      (λ (e : Enters spell meaning s k j).
      ap (λ (es : List Entry). len_of es) e.pushed ∙ below.fixed (plan_at s k j).consecutive (entries k j) e.entry e.allowed committed)
      ((lawful.copies k).entries j there)

  due_commit : (k j : ℕ) (e : Entry) → is_commit e ≡ true → IsDue spell meaning s k j e → IsDue spell meaning s k j Committed
  due_commit k j (Sized len) commit due = absurd (false≢true commit)
  due_commit k j (Landed off len) commit due = absurd (false≢true commit)
  due_commit k j Stopped commit due = absurd (false≢true commit)
  due_commit k j Committed commit due = due
  due_commit k j Reported commit due = absurd (false≢true commit)

  -- a commit of a job that was not committed is due in the step that enters it
  pub commits : (k j : ℕ) → j < s.made k → is_committed (entries k j) ≡ false → is_committed (entries (suc k) j) ≡ true
      → (e : Enters spell meaning s k j) × (is_commit e.entry ≡ true) × IsDue spell meaning s k j Committed
  commits k j there before now =
      ⊎_elim
      (λ (same : entries (suc k) j ≡ entries k j).
      absurd (both_ways _ before (subst (λ (es : List Entry). is_committed es ≡ true) same now)))
      (λ (e : Enters spell meaning s k j).
      ⊎_elim
      (λ (old : is_committed (entries k j) ≡ true). absurd (both_ways _ before old))
      (λ (new : is_commit e.entry ≡ true). (e, new, due_commit k j e.entry new e.due))
      (below.rises is_commit (entries k j) e.entry (subst (λ (es : List Entry). is_committed es ≡ true) e.pushed now)))
      ((lawful.copies k).entries j there)

  pub copy_laws : (k j : ℕ) → j < s.made k → CopyLaws (copy_of (s.job k j)) (copy_of (s.job (suc k) j)) (progress s k j) (progress s (suc k) j)
  copy_laws k j there =
      let marks = (lawful.copies k).marks j there in
      record {
        plan = (lawful.copies k).plan j there;
        grows = len_grows k j there;
        fixed = λ completed. len_fixed k j there completed;
        completed = λ completed. any_stays is_commit k j there completed;
        stopped = λ stopped.
            ⊎_elim
            (λ (ended : is_stopped (entries k j) ≡ true). or_left (is_stopped (entries (suc k) j)) (s.job (suc k) j).retired (any_stays is_stop k j there ended))
            (λ (retired : (s.job k j).retired ≡ true). or_right (is_stopped (entries (suc k) j)) (s.job (suc k) j).retired (marks.retired retired))
            (or_cases (is_stopped (entries k j)) (s.job k j).retired stopped);
        stable = marks.stable;
        durable = λ durable. any_stays is_commit k j there durable;
        live = λ may. live_before k j there may;
        intact = λ intact.
            let parts = and_parts (nat_lt j (s.made (suc k))) (not (s.job (suc k) j).lost) intact in
            and_from (nat_lt j (s.made k)) (not (s.job k j).lost) (lt-ltb j (s.made k) there) (not_from_false (s.job k j).lost (was_down _ _ marks.lost (not-true _ parts.1)));
        completes = λ completed.
            ⊎_elim
            (λ (before : is_committed (entries k j) ≡ true). inl before)
            (λ (before : is_committed (entries k j) ≡ false). inr (commits k j there before completed).2.0)
            (cases_Bool (is_committed (entries k j)));
      }

  by_commit : (k j : ℕ) (e : Entry) → is_commit e ≡ true → Allows (plan_at s k j).consecutive (entries k j) e → (len : ℕ) × (size_of (entries k j) ≡ Some len)
  by_commit k j (Sized len) commit allowed = absurd (false≢true commit)
  by_commit k j (Landed off len) commit allowed = absurd (false≢true commit)
  by_commit k j Stopped commit allowed = absurd (false≢true commit)
  by_commit k j Committed commit allowed = (allowed.0.total, allowed.0.is_sized)
  by_commit k j Reported commit allowed = absurd (false≢true commit)

  -- the size of a committed job is known
  pub committed_size : (k j : ℕ) → is_committed (entries k j) ≡ true → (len : ℕ) × (size_of (entries k j) ≡ Some len)
  committed_size zero j committed =
      absurd (false≢true (sym (ap (λ (es : List Entry). is_committed es) (lawful.copies_start.blank j).entries) ∙ committed))
  committed_size (suc k) j committed =
      ⊎_elim
      (λ (there : j < s.made k). ⊎_elim
      (λ (same : entries (suc k) j ≡ entries k j).
      let found = committed_size k j (subst (λ (es : List Entry). is_committed es ≡ true) same committed) in
      (found.0, ap (λ (es : List Entry). size_of es) same ∙ found.1))
      (λ (e : Enters spell meaning s k j).
      let known : (len : ℕ) × (size_of (entries k j) ≡ Some len) =
      ⊎_elim
      (λ (old : is_committed (entries k j) ≡ true). committed_size k j old)
      (λ (new : is_commit e.entry ≡ true). by_commit k j e.entry new e.allowed)
      (below.rises is_commit (entries k j) e.entry (subst (λ (es : List Entry). is_committed es ≡ true) e.pushed committed)) in
      (known.0, ap (λ (es : List Entry). size_of es) e.pushed ∙ below.sized (entries k j) e.entry known.0 known.1))
      ((lawful.copies k).entries j there))
      (λ (new : s.made k ≤ j).
      absurd (false≢true (sym (ap (λ (es : List Entry). is_committed es) ((lawful.copies k).fresh j new).entries) ∙ committed)))
      (cases_lt j (s.made k))
