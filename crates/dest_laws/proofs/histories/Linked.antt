-- A history that goes on as the table shows it stays linked to it.
use Rattle.std.proofs.Common.{◌≡◌, ◌⊎◌, inl, inr, ⊎_elim, ℕ, suc, ◌+◌, ◌<◌, ◌≤◌, Bool, true, false, List, ◌++◌, Option, Some, None, refl, sym, ap, subst, ◌∙◌, arith}
use Rattle.std.proofs.lemmas.Bool.{cases_lt}
use Rattle.copy_model.specs.Job.{Entry}
use Rattle.dest_laws.proofs.histories.Entries.{all_later, grows, stays_gone}
use Rattle.dest_laws.specs.Histories.Linked.{AreLinked, CopyKeeps, GoOn, IsSeenAs, IsShown, Planned, looked_up, name_at}
use Rattle.dest_laws.specs.Histories.Seen.{GrowsBy, IsGiven, Seen, entries_in, seen_in}
use Rattle.dest_tasks.specs.Completing.{Comes, Deed}
use Rattle.job_book.specs.Book.{BookView}
use Rattle.job_table.specs.Table.{JobTable}
use Rattle.job_table.specs.declared.job.Plan.{Plan}
use Rattle.nfs_base.specs.declared.job.JobName.{JobName}
use Rattle.wire_model.specs.Copies.{Job as Copy}

module _ (plan_of : Planned) where
  -- what is shown of a copy that was seen as this one
  shown_as : (job : Option Seen) (was old new : Copy) → was ≡ looked_up plan_of job old → IsSeenAs was new → ((s : Seen) → job ≡ Some s → old.retired ≡ false)
      → IsShown plan_of job new
  shown_as None was old new is sees runs = sees.retired ∙ ap (λ (c : Copy). c.retired) is
  shown_as (Some s) was old new is sees runs =
      (sees.retired ∙ ap (λ (c : Copy). c.retired) is ∙ runs s refl, sees.plan ∙ ap (λ (c : Copy). c.plan) is, sees.entries ∙ ap (λ (c : Copy). c.entries) is)

  -- a copy that is linked runs where its job is there
  runs_there : (job : Option Seen) (s : Seen) (copy : Copy) → IsShown plan_of job copy → job ≡ Some s → copy.retired ≡ false
  runs_there None s copy shown is = absurd cc
  runs_there (Some t) s copy shown is = shown.0

  -- ---- one copy that was there

  keeps_gone : (more : List Entry) (old new : Copy) → IsSeenAs (looked_up plan_of None old) new → CopyKeeps more old new
  keeps_gone more old new sees = record {
    plan = sees.plan;
    retired = λ was. sees.retired;
    lost = sees.lost;
    entries = inr (sees.retired, sees.entries);
  }

  keeps_there : (more : List Entry) (s t : Seen) (old new : Copy) → IsShown plan_of (Some s) old → GrowsBy more s t
      → IsSeenAs (looked_up plan_of (Some t) old) new → CopyKeeps more old new
  keeps_there more s t old new shown grown sees = record {
    plan = sees.plan ∙ ap plan_of grown.plan ∙ sym shown.1;
    retired = λ was. let runs = shown.0 in absurd cc;
    lost = sees.lost;
    entries = inl (sees.entries ∙ grown.entries ∙ ap (λ (es : List Entry). es ++ more) (sym shown.2));
  }

  keeps_by : (more : List Entry) (before now : Option Seen) (old new : Copy) → IsShown plan_of before old → (before ≡ None → now ≡ None)
      → ((s t : Seen) → before ≡ Some s → now ≡ Some t → GrowsBy more s t) → IsSeenAs (looked_up plan_of now old) new → CopyKeeps more old new
  keeps_by more before None old new shown gone grown sees = keeps_gone more old new sees
  keeps_by more None (Some t) old new shown gone grown sees = let none = gone refl in absurd cc
  keeps_by more (Some s) (Some t) old new shown gone grown sees = keeps_there more s t old new shown (grown s t refl refl) sees

  -- ---- all of them

  module _ (deeds : List Deed) (b c : BookView) (come : Comes deeds b c) (old new : ℕ → Copy) (linked : AreLinked plan_of b.table old)
      (on : GoOn plan_of b.table c.table old new) where
    abbrev later_name : ℕ → JobName
    later_name place = name_at c.table.boot place

    one_name : (place : ℕ) → name_at c.table.boot place ≡ name_at b.table.boot place
    one_name place = ap (λ (boot : ℕ). name_at boot place) (all_later deeds b c come).boot

    was_shown : (place : ℕ) → place < b.table.made → IsShown plan_of (seen_in b.table (later_name place)) (old place)
    was_shown place below =
        subst (λ (name : JobName). IsShown plan_of (seen_in b.table name) (old place)) (sym (one_name place)) (linked place below)

    is_given : (place : ℕ) → place < b.table.made → IsGiven b.table (later_name place)
    is_given place below = omega (arith, below)

    gone_stays : (place : ℕ) → place < b.table.made → seen_in b.table (later_name place) ≡ None → seen_in c.table (later_name place) ≡ None
    gone_stays place below none = stays_gone deeds b c (later_name place) come (is_given place below) none

    runs_if : (before : Option Seen) (place : ℕ) (s : Seen) → seen_in b.table (later_name place) ≡ before → place < b.table.made
        → seen_in c.table (later_name place) ≡ Some s → IsShown plan_of before (old place) → (old place).retired ≡ false
    runs_if None place s is below there shown = let none = gone_stays place below is in absurd cc
    runs_if (Some t) place s is below there shown = shown.0

    runs : (place : ℕ) (s : Seen) → seen_in c.table (later_name place) ≡ Some s → (old place).retired ≡ false
    runs place s there =
        ⊎_elim
        (λ (below : place < b.table.made). runs_if (seen_in b.table (later_name place)) place s refl below there (was_shown place below))
        (λ (above : b.table.made ≤ place). on.fresh place above)
        (cases_lt place b.table.made)

    pub links : AreLinked plan_of c.table new
    links place below =
        shown_as (seen_in c.table (later_name place)) (looked_up plan_of (seen_in c.table (later_name place)) (old place)) (old place) (new place) refl
        (on.seen_as place below) (runs place)

    pub copy_keeps : (place : ℕ) → place < b.table.made → CopyKeeps (entries_in (later_name place) deeds) (old place) (new place)
    copy_keeps place below =
        let more = (all_later deeds b c come).made in
        keeps_by (entries_in (later_name place) deeds) (seen_in b.table (later_name place)) (seen_in c.table (later_name place)) (old place) (new place)
        (was_shown place below) (gone_stays place below)
        (λ s t was now. grows deeds b c (later_name place) s t come (is_given place below) was now)
        (on.seen_as place (omega (arith, more, below)))
