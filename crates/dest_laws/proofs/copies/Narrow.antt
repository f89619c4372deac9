-- How much room copies may come to need, step by step and in the end.
use Rattle.std.proofs.Common.{◌≡◌, ◌⊎◌, inl, inr, ⊎_elim, ℕ, zero, suc, ◌+◌, ◌-◌, ◌<◌, ◌≤◌, true, false, List, [], ◌∷◌, Option, Some, None, refl, sym, ap, subst, ◌∙◌, arith}
use Rattle.std.proofs.lemmas.Bool.{cases_Bool, cases_lt}
use Rattle.std.specs.Prelude.{unwrap_or}
use Rattle.copy_model.specs.Job.{Entry, Plan as CopyPlan, size_of}
use Rattle.copy_model.specs.Marks.{len_of}
use Rattle.dest_core.specs.Stepping.{DestState, DestStep}
use Rattle.dest_laws.specs.Copies.GivenLaws.{was_sized}
use Rattle.dest_laws.proofs.copies.Goes.{DeedLaws, Grew, begins_blank, goes_later, grows, is_allowed, is_given, keeps}
use Rattle.dest_laws.proofs.copies.Rooms.{Comes, Sizing, Stays, length_fits, room_retired, room_running, sizing}
use Rattle.dest_laws.specs.Copies.Rooms.{AllFit, ReachesLast, RoomsNarrow}
use Rattle.dest_laws.specs.Copies.Story.{HasLength, Story}
use Rattle.dest_laws.specs.Histories.Linked.{name_at}
use Rattle.dest_laws.specs.Histories.Seen.{Seen, seen, seen_in}
use Rattle.dest_laws.specs.Own.Going.{jobs_in}
use Rattle.dest_laws.specs.View.Dues.{ReachesWithin}
use Rattle.dest_laws.specs.View.Steps.{ShowsStep}
use Rattle.dest_laws.specs.View.View.{plan_seen, room_by, room_of}
use Rattle.job_book.specs.Book.{BookView, IsSound}
use Rattle.nfs_base.specs.declared.job.JobName.{JobName}
use Rattle.wire_lines.specs.declared.letters.Speaker.{Speaker}
use Rattle.wire_model.specs.Copies.{Job as Copy}
use Rattle.wire_model.specs.Meaning.{Meaning}
use Rattle.wire_model.specs.Spelling.{Spelling}
use Rattle.wire_model.specs.System.{System}
use Rattle.wire_model.specs.Wire.{Executed}

-- ---- one copy

-- its length doesn't fall, what it may come to need doesn't rise, and the one stays within the other
record Narrows (capacity : ℕ) (was now : Copy) : Type 0 where
  grows : len_of was.entries ≤ len_of now.entries
  narrows : room_of capacity now ≤ room_of capacity was
  fits : len_of now.entries ≤ room_of capacity now

-- one whose log is as before
same_narrows : (capacity : ℕ) (was now : Copy) → now.plan ≡ was.plan → now.entries ≡ was.entries → (was.retired ≡ true → now.retired ≡ true)
    → len_of was.entries ≤ room_of capacity was → ((now.retired ≡ true) ⊎ (now.retired ≡ false)) → ((was.retired ≡ true) ⊎ (was.retired ≡ false)) → Narrows capacity was now
same_narrows capacity was now plan entries stays fits (inl gone) before =
    let len = ap len_of entries in
    let room = room_retired capacity now gone in
    record { grows = omega (arith, len); narrows = omega (arith, len, room, fits); fits = omega (arith, room) }
same_narrows capacity was now plan entries stays fits (inr runs) (inl gone) = let up = stays gone in absurd (cc)
same_narrows capacity was now plan entries stays fits (inr runs) (inr ran) =
    let len = ap len_of entries in
    let room : room_of capacity now ≡ room_of capacity was =
    room_running capacity now runs ∙ ap (λ (p : CopyPlan). room_by capacity p (size_of now.entries)) plan
    ∙ ap (λ (es : List Entry). room_by capacity was.plan (size_of es)) entries ∙ sym (room_running capacity was ran) in
    record { grows = omega (arith, len); narrows = omega (arith, room); fits = omega (arith, len, room, fits) }

-- one that runs, by the lengths before and then
sized_narrows : (capacity : ℕ) (was now : Copy) → now.plan ≡ was.plan → was.retired ≡ false → now.retired ≡ false → len_of was.entries ≤ room_of capacity was
    → (before after : Option ℕ) → size_of was.entries ≡ before → size_of now.entries ≡ after → unwrap_or before 0 ≤ unwrap_or after 0
    → room_by capacity was.plan after ≤ room_by capacity was.plan before
    → (len_of was.entries ≤ room_by capacity was.plan before → unwrap_or after 0 ≤ room_by capacity was.plan after) → Narrows capacity was now
sized_narrows capacity was now plan ran runs fits before after was_sized now_sized more less within =
    let len_was : len_of was.entries ≡ unwrap_or before 0 = ap (λ (o : Option ℕ). unwrap_or o 0) was_sized in
    let len_now : len_of now.entries ≡ unwrap_or after 0 = ap (λ (o : Option ℕ). unwrap_or o 0) now_sized in
    let room_was : room_of capacity was ≡ room_by capacity was.plan before =
    room_running capacity was ran ∙ ap (λ (o : Option ℕ). room_by capacity was.plan o) was_sized in
    let room_now : room_of capacity now ≡ room_by capacity was.plan after =
    room_running capacity now runs ∙ ap (λ (p : CopyPlan). room_by capacity p (size_of now.entries)) plan
    ∙ ap (λ (o : Option ℕ). room_by capacity was.plan o) now_sized in
    let inside = within (omega (arith, room_was, fits)) in
    record {
      grows = omega (arith, len_was, len_now, more);
      narrows = omega (arith, room_was, room_now, less);
      fits = omega (arith, len_now, room_now, inside);
    }

-- ---- of a system that shows the step

module _ {M : Type 0} (laws : DeedLaws) (spell : Spelling) (meaning : Meaning) (s : System) (k : ℕ) (took : Option (List ℕ)) (speaker : Speaker)
    (executed : Option Executed) (d : DestState M) (t : DestStep M) (shows : ShowsStep spell meaning s k took speaker executed d t)
    (story : Story (jobs_in d) (jobs_in t.host) t.out.used) (was_sound : IsSound (jobs_in d).table) (sound : IsSound (jobs_in t.host).table)
    (fit : AllFit s k (jobs_in d).table.capacity) where
  abbrev b : BookView
  b = jobs_in d

  abbrev c : BookView
  c = jobs_in t.host

  abbrev name : ℕ → JobName
  name j = name_at b.table.boot j

  abbrev cap : ℕ
  cap = b.table.capacity

  there_before : (j : ℕ) → j < s.made k → j < b.table.made
  there_before j there = let e : s.made k ≡ b.table.made = shows.before.made in omega (arith, e, there)

  -- the source gave this length
  length_given : (j : ℕ) → (g : Grew b c t.out.used (name j) (s.job k j) (s.job (suc k) j)) → j < b.table.made → (len : ℕ) → HasLength b (name j) len
      → (len ≤ room_by cap (s.job k j).plan (Some len)) × (room_by cap (s.job k j).plan (Some len) ≤ room_by cap (s.job k j).plan None)
  length_given j g there len has =
      let was = has.there in
      let m : Seen = record { plan = was.job.plan; entries = was.job.log.entries } in
      let found : seen_in was.book.table (name j) ≡ Some m = ap seen was.found in
      let grown = laws.grows was.come.0 b was.book (name j) g.old m was.come.1 (is_given laws spell meaning s k took speaker executed d t shows story j there) g.was_seen found in
      let plan : plan_seen was.job.plan ≡ (s.job k j).plan = ap plan_seen grown.plan ∙ sym g.plan in
      subst (λ (p : CopyPlan). (len ≤ room_by cap p (Some len)) × (room_by cap p (Some len) ≤ room_by cap p None)) plan (length_fits was.job.plan cap has.size len has.gives)

  by_entry : (j : ℕ) → (there : j < b.table.made) → (g : Grew b c t.out.used (name j) (s.job k j) (s.job (suc k) j)) → (s.job (suc k) j).plan ≡ (s.job k j).plan
      → len_of (s.job k j).entries ≤ room_of cap (s.job k j) → Sizing (s.job k j).entries g.entry → Narrows cap (s.job k j) (s.job (suc k) j)
  by_entry j there g plan fits (Stays same) =
      let now_sized : size_of (s.job (suc k) j).entries ≡ size_of (s.job k j).entries = ap size_of g.pushed ∙ same in
      sized_narrows cap (s.job k j) (s.job (suc k) j) plan g.ran g.runs fits (size_of (s.job k j).entries) (size_of (s.job k j).entries) refl now_sized
      (omega arith) (omega arith) (λ inside. inside)
  by_entry j there g plan fits (Comes len is none now) =
      let now_sized : size_of (s.job (suc k) j).entries ≡ Some len = ap size_of g.pushed ∙ now in
      let given = length_given j g there len (was_sized b t.out.used (name j) c g.goes len (g.gives ∙ ap (λ (e : Entry). e ∷ []) is)) in
      sized_narrows cap (s.job k j) (s.job (suc k) j) plan g.ran g.runs fits None (Some len) none now_sized (omega arith) given.1 (λ inside. given.0)

  narrows_at : (j : ℕ) → j < s.made k → Narrows cap (s.job k j) (s.job (suc k) j)
  narrows_at j there =
      let early = there_before j there in
      let kept = keeps laws spell meaning s k took speaker executed d t shows story j early in
      ⊎_elim
      (λ (same : (s.job (suc k) j).entries ≡ (s.job k j).entries).
      same_narrows cap (s.job k j) (s.job (suc k) j) kept.plan same kept.retired (fit j there) (cases_Bool (s.job (suc k) j).retired) (cases_Bool (s.job k j).retired))
      (λ (g : Grew b c t.out.used (name j) (s.job k j) (s.job (suc k) j)).
      by_entry j early g kept.plan (fit j there)
      (sizing (s.job k j).plan.consecutive (s.job k j).entries g.entry
      (is_allowed laws b c t.out.used story (name j) (s.job k j) (s.job (suc k) j) sound g)))
      (grows laws spell meaning s k took speaker executed d t shows story j early)

  fits_then : (j : ℕ) → j < s.made (suc k) → len_of (s.job (suc k) j).entries ≤ room_of cap (s.job (suc k) j)
  fits_then j there =
      ⊎_elim (λ (early : j < s.made k). (narrows_at j early).fits)
      (λ (new : s.made k ≤ j).
      let e : s.made k ≡ b.table.made = shows.before.made in
      let f : s.made (suc k) ≡ c.table.made = shows.after.made in
      let blank = begins_blank laws spell meaning s k took speaker executed d t shows story j was_sound (omega (arith, e, new)) (omega (arith, f, there)) in
      let none : len_of (s.job (suc k) j).entries ≡ 0 = ap len_of blank in
      omega (arith, none))
      (cases_lt j (s.made k))

  pub rooms_narrow : RoomsNarrow s k cap
  rooms_narrow = record {
    made =
        let e : s.made k ≡ b.table.made = shows.before.made in
        let f : s.made (suc k) ≡ c.table.made = shows.after.made in
        let more = (goes_later laws spell meaning s k took speaker executed d t shows story).made in
        omega (arith, e, f, more);
    grows = λ j there. (narrows_at j there).grows;
    narrows = λ j there. (narrows_at j there).narrows;
    fits = fits_then;
  }

-- ---- in the end

module _ (s : System) (capacity last : ℕ) (all : (k : ℕ) → RoomsNarrow s k capacity) (first : AllFit s 0 capacity) (ends : ReachesLast s last) where
  fits_at : (k : ℕ) → AllFit s k capacity
  fits_at zero = first
  fits_at (suc k) = (all k).fits

  -- from a moment on for some steps
  record Onward (k m j : ℕ) : Type 0 where
    there : j < s.made m
    longer : len_of (s.job k j).entries ≤ len_of (s.job m j).entries
    narrower : room_of capacity (s.job m j) ≤ room_of capacity (s.job k j)

  onward : (k n j : ℕ) → j < s.made k → Onward k (n + k) j
  onward k zero j there =
      let is : 0 + k ≡ k = omega arith in
      subst (λ (m : ℕ). Onward k m j) (sym is) (record { there = there; longer = omega arith; narrower = omega arith })
  onward k (suc n) j there =
      let before = onward k n j there in
      let here = before.there in
      let step = all (n + k) in
      let made = step.made in
      let longer = before.longer in
      let narrower = before.narrower in
      let grows = step.grows j here in
      let narrows = step.narrows j here in
      let is : suc n + k ≡ suc (n + k) = omega arith in
      subst (λ (m : ℕ). Onward k m j) (sym is)
      (record { there = omega (arith, here, made); longer = omega (arith, longer, grows); narrower = omega (arith, narrower, narrows) })

  until : (k j : ℕ) → k ≤ last → j < s.made k → Onward k last j
  until k j early there =
      let is : (last - k) + k ≡ last = omega (arith, early) in subst (λ (m : ℕ). Onward k m j) is (onward k (last - k) j there)

  pub within : (k : ℕ) → ReachesWithin s k capacity
  within k j there =
      ⊎_elim
      (λ (early : k < last).
      let on = until k j (omega (arith, early)) there in
      let reach = ends.reach j in
      let longer = on.longer in
      let narrower = on.narrower in
      let fits = fits_at last j on.there in
      (omega (arith, reach, longer), omega (arith, reach, fits, narrower)))
      (λ (late : last ≤ k).
      let reach = ends.reach j in
      let len : len_of (s.job k j).entries ≡ len_of (s.job last j).entries = ap (λ (x : Copy). len_of x.entries) (ends.still k j late) in
      let fits = fits_at k j there in
      (omega (arith, reach, len), omega (arith, reach, len, fits)))
      (cases_lt k last)

pub begins_fit : (s : System) (capacity : ℕ) → s.made 0 ≡ 0 → AllFit s 0 capacity
begins_fit s capacity none j there = absurd (omega (arith, none, there))
