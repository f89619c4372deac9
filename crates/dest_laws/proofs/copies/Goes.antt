-- How a copy goes on that was there: its log is as before, or gets the one entry that a deed gave its job.
use Rattle.std.proofs.Common.{◌≡◌, ◌⊎◌, inl, inr, ℕ, suc, ◌<◌, ◌≤◌, Bool, true, false, List, [], ◌∷◌, ◌++◌, Option, Some, None, length, refl, sym, ap, subst, ◌∙◌, arith, append-nil}
use Rattle.copy_model.specs.Job.{Allows, Entry, Plan as CopyPlan}
use Rattle.dest_core.specs.Stepping.{DestState, DestStep}
use Rattle.dest_laws.proofs.copies.Found.{last_allowed, seen_lawful}
use Rattle.dest_laws.specs.Copies.GivenLaws.{all_give, none_made}
use Rattle.dest_laws.specs.Copies.Story.{GoesWell, IsMet, Story}
use Rattle.dest_laws.specs.Deeds.{ByDeeds}
use Rattle.dest_laws.specs.Histories.Kinds.{TakesAndEnds}
use Rattle.dest_laws.specs.Histories.Linked.{AreLinked, CopyKeeps, GoOn, IsSeenAs, IsShown, Planned, looked_up, name_at}
use Rattle.dest_laws.specs.Histories.Seen.{GrowsBy, IsGiven, Later, Seen, entries_in, seen_in}
use Rattle.dest_laws.specs.Own.Going.{jobs_in}
use Rattle.dest_laws.specs.View.Steps.{ShowsStep}
use Rattle.dest_laws.specs.View.View.{plan_seen}
use Rattle.dest_tasks.specs.Completing.{Comes, Deed}
use Rattle.job_book.specs.Book.{BookView, IsSound}
use Rattle.job_table.specs.declared.job.Plan.{Plan}
use Rattle.nfs_base.specs.declared.job.JobName.{JobName}
use Rattle.server_volume.specs.declared.used.Used.{Used}
use Rattle.wire_lines.specs.declared.letters.Speaker.{Speaker}
use Rattle.wire_model.specs.Copies.{Job as Copy}
use Rattle.wire_model.specs.Meaning.{Meaning}
use Rattle.wire_model.specs.Spelling.{Spelling}
use Rattle.wire_model.specs.System.{System}
use Rattle.wire_model.specs.Wire.{Executed}

-- the laws of `histories`
pub record DeedLaws : Type 0 where
  pub later : (deeds : List Deed) (b c : BookView) → Comes deeds b c → Later b.table c.table
  pub grows : (deeds : List Deed) (b c : BookView) (name : JobName) (old new : Seen) → Comes deeds b c → IsGiven b.table name
      → seen_in b.table name ≡ Some old → seen_in c.table name ≡ Some new → GrowsBy (entries_in name deeds) old new
  pub kept : (b c : BookView) (name : JobName) (old new : Seen) → TakesAndEnds b c → IsGiven b.table name
      → seen_in b.table name ≡ Some old → seen_in c.table name ≡ Some new → GrowsBy [] old new
  pub blank : (b c : BookView) (name : JobName) (new : Seen) → IsSound b.table → TakesAndEnds b c → b.table.made < name.number
      → seen_in c.table name ≡ Some new → new.entries ≡ []
  pub keeps : (plan_of : Planned) (deeds : List Deed) (b c : BookView) → Comes deeds b c → (old new : ℕ → Copy) → AreLinked plan_of b.table old
      → GoOn plan_of b.table c.table old new → (place : ℕ) → place < b.table.made
      → CopyKeeps (entries_in (name_at c.table.boot place) deeds) (old place) (new place)

-- A copy got an entry that a deed gave its job, which was there before and is there then.
pub record Grew (b c : BookView) (used : List Used) (name : JobName) (was now : Copy) : Type 0 where
  pub old : Seen
  pub new : Seen
  pub was_seen : seen_in b.table name ≡ Some old
  pub now_seen : seen_in c.table name ≡ Some new
  pub ran : was.retired ≡ false
  pub runs : now.retired ≡ false
  pub plan : was.plan ≡ plan_seen old.plan
  pub entries : was.entries ≡ old.entries
  pub same_plan : new.plan ≡ old.plan
  pub entry : Entry
  pub pushed : now.entries ≡ was.entries ++ entry ∷ []
  pub logged : new.entries ≡ old.entries ++ entry ∷ []
  pub goes : GoesWell (IsMet b used) 0 1 b c
  pub gives : entries_in name goes.deeds ≡ entry ∷ []

pub deeds_in : (b c : BookView) (used : List Used) → Story b c used → ByDeeds b c
deeds_in b c used (inl takes) = (takes.deeds, takes.come)
deeds_in b c used (inr goes) = (goes.deeds, goes.come)

module _ (laws : DeedLaws) (b c : BookView) (used : List Used) (story : Story b c used) where
  pub came : ByDeeds b c
  came = deeds_in b c used story

  pub later : Later b.table c.table
  later = let done = came in laws.later done.0 b c done.1

  -- ---- one job

  module _ (name : JobName) (given : IsGiven b.table name) (was now : Copy) where
    grew_by : (more : List Entry) (old new : Seen) (goes : GoesWell (IsMet b used) 0 1 b c) → entries_in name goes.deeds ≡ more → length more ≤ 1
        → GrowsBy more old new → seen_in b.table name ≡ Some old → seen_in c.table name ≡ Some new
        → IsShown plan_seen (Some old) was → IsShown plan_seen (Some new) now → (now.entries ≡ was.entries) ⊎ Grew b c used name was now
    grew_by [] old new goes is few grown was_seen now_seen shown shows =
        inl (shows.2 ∙ grown.entries ∙ append-nil old.entries ∙ sym shown.2)
    grew_by (entry ∷ []) old new goes is few grown was_seen now_seen shown shows = inr (record {
      old = old;
      new = new;
      was_seen = was_seen;
      now_seen = now_seen;
      ran = shown.0;
      runs = shows.0;
      plan = shown.1;
      entries = shown.2;
      same_plan = grown.plan;
      entry = entry;
      pushed = shows.2 ∙ grown.entries ∙ ap (λ (es : List Entry). es ++ entry ∷ []) (sym shown.2);
      logged = grown.entries;
      goes = goes;
      gives = is;
    })
    grew_by (entry ∷ other ∷ more) old new goes is few grown was_seen now_seen shown shows = absurd (omega (arith, few))

    told_by : Story b c used → (old new : Seen) → seen_in b.table name ≡ Some old → seen_in c.table name ≡ Some new
        → IsShown plan_seen (Some old) was → IsShown plan_seen (Some new) now → (now.entries ≡ was.entries) ⊎ Grew b c used name was now
    told_by (inl takes) old new was_seen now_seen shown shows =
        let grown = laws.kept b c name old new takes given was_seen now_seen in
        inl (shows.2 ∙ grown.entries ∙ append-nil old.entries ∙ sym shown.2)
    told_by (inr goes) old new was_seen now_seen shown shows =
        let few = goes.few_entries in
        grew_by (entries_in name goes.deeds) old new goes refl (let all = all_give name goes.deeds in omega (arith, few, all))
        (laws.grows goes.deeds b c name old new goes.come given was_seen now_seen) was_seen now_seen shown shows

    goes_by : (before after : Option Seen) → seen_in b.table name ≡ before → seen_in c.table name ≡ after
        → IsShown plan_seen before was → IsShown plan_seen after now → IsSeenAs (looked_up plan_seen after was) now
        → (now.entries ≡ was.entries) ⊎ Grew b c used name was now
    goes_by before None was_seen now_seen shown shows sees = inl sees.entries
    goes_by None (Some new) was_seen now_seen shown shows sees =
        let first : was.retired ≡ true = shown in
        let running : now.retired ≡ false = shows.0 in
        let kept : now.retired ≡ was.retired = sees.retired in
        absurd (cc)
    goes_by (Some old) (Some new) was_seen now_seen shown shows sees = told_by story old new was_seen now_seen shown shows

  -- the entry is allowed behind those before
  pub is_allowed : (name : JobName) (was now : Copy) → IsSound c.table → (g : Grew b c used name was now) → Allows was.plan.consecutive was.entries g.entry
  is_allowed name was now sound g =
      let lawful = seen_lawful c.table name g.new sound g.now_seen in
      let here = last_allowed g.new.plan.consecutive g.old.entries g.new.entries g.entry lawful g.logged in
      let same : g.new.plan.consecutive ≡ was.plan.consecutive = ap (λ (p : Plan). p.consecutive) g.same_plan ∙ sym (ap (λ (p : CopyPlan). p.consecutive) g.plan) in
      subst (λ (es : List Entry). Allows was.plan.consecutive es g.entry) (sym g.entries)
      (subst (λ (consecutive : Bool). Allows consecutive g.old.entries g.entry) same here)

-- ---- of a system that shows the step

module _ {M : Type 0} (laws : DeedLaws) (spell : Spelling) (meaning : Meaning) (s : System) (k : ℕ) (took : Option (List ℕ)) (speaker : Speaker)
    (executed : Option Executed) (d : DestState M) (t : DestStep M) (shows : ShowsStep spell meaning s k took speaker executed d t)
    (story : Story (jobs_in d) (jobs_in t.host) t.out.used) where
  abbrev pub old_book : BookView
  old_book = jobs_in d

  abbrev pub new_book : BookView
  new_book = jobs_in t.host

  abbrev pub name : ℕ → JobName
  name j = name_at old_book.table.boot j

  pub goes_later : Later old_book.table new_book.table
  goes_later = later laws old_book new_book t.out.used story

  pub was_there : (j : ℕ) → j < s.made k → j < old_book.table.made
  was_there j there = let e : s.made k ≡ old_book.table.made = shows.before.made in omega (arith, e, there)

  pub wasnt_there : (j : ℕ) → s.made k ≤ j → old_book.table.made ≤ j
  wasnt_there j above = let e : s.made k ≡ old_book.table.made = shows.before.made in omega (arith, e, above)

  pub still_there : (j : ℕ) → j < old_book.table.made → j < new_book.table.made
  still_there j there = let more = goes_later.made in omega (arith, more, there)

  one_name : (j : ℕ) → name_at new_book.table.boot j ≡ name j
  one_name j = ap (λ (boot : ℕ). name_at boot j) goes_later.boot

  pub was_shown : (j : ℕ) → j < old_book.table.made → IsShown plan_seen (seen_in old_book.table (name j)) (s.job k j)
  was_shown j there = shows.before.linked j there

  pub now_shown : (j : ℕ) → j < new_book.table.made → IsShown plan_seen (seen_in new_book.table (name j)) (s.job (suc k) j)
  now_shown j there =
      subst (λ (n : JobName). IsShown plan_seen (seen_in new_book.table n) (s.job (suc k) j)) (one_name j) (shows.after.linked j there)

  pub sees : (j : ℕ) → j < new_book.table.made → IsSeenAs (looked_up plan_seen (seen_in new_book.table (name j)) (s.job k j)) (s.job (suc k) j)
  sees j there =
      subst (λ (n : JobName). IsSeenAs (looked_up plan_seen (seen_in new_book.table n) (s.job k j)) (s.job (suc k) j)) (one_name j)
      (shows.goes.seen_as j there)

  pub keeps : (j : ℕ) → (there : j < old_book.table.made)
      → CopyKeeps (entries_in (name_at new_book.table.boot j) (came laws old_book new_book t.out.used story).0) (s.job k j) (s.job (suc k) j)
  keeps j there =
      let done = came laws old_book new_book t.out.used story in
      laws.keeps plan_seen done.0 old_book new_book done.1 (λ i. s.job k i) (λ i. s.job (suc k) i) shows.before.linked shows.goes j there

  pub is_given : (j : ℕ) → j < old_book.table.made → IsGiven old_book.table (name j)
  is_given j there = omega (arith, there)

  pub grows : (j : ℕ) → j < old_book.table.made
      → ((s.job (suc k) j).entries ≡ (s.job k j).entries) ⊎ Grew old_book new_book t.out.used (name j) (s.job k j) (s.job (suc k) j)
  grows j there =
      let after = still_there j there in
      goes_by laws old_book new_book t.out.used story (name j) (is_given j there) (s.job k j) (s.job (suc k) j)
      (seen_in old_book.table (name j)) (seen_in new_book.table (name j)) refl refl (was_shown j there) (now_shown j after) (sees j after)

  -- ---- a copy that wasn't there begins blank

  blank_by : Story old_book new_book t.out.used → (j : ℕ) → IsSound old_book.table → old_book.table.made ≤ j → j < new_book.table.made → (after : Option Seen)
      → seen_in new_book.table (name j) ≡ after → IsSeenAs (looked_up plan_seen after (s.job k j)) (s.job (suc k) j) → (s.job (suc k) j).entries ≡ []
  blank_by told j sound new there None is seen = seen.entries ∙ ap (λ (c : Copy). c.entries) (shows.before.none_yet j new)
  blank_by (inl takes) j sound new there (Some n) is seen =
      seen.entries ∙ laws.blank old_book new_book (name j) n sound takes (omega (arith, new)) is
  blank_by (inr goes) j sound new there (Some n) is seen =
      let same = none_made goes.deeds old_book new_book goes.come goes.few_accepts in absurd (omega (arith, same, new, there))

  pub begins_blank : (j : ℕ) → IsSound old_book.table → old_book.table.made ≤ j → j < new_book.table.made → (s.job (suc k) j).entries ≡ []
  begins_blank j sound new there = blank_by story j sound new there (seen_in new_book.table (name j)) refl (sees j there)
