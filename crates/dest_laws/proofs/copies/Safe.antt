-- What is safe stays so.
use Rattle.std.proofs.Common.{◌≡◌, ⊎_elim, ℕ, suc, ◌<◌, ◌≤◌, Bool, true, false, List, [], ◌∷◌, ◌++◌, Option, refl, sym, ap, ◌∙◌}
use Rattle.std.proofs.lemmas.Bool.{cases_lt, or_cases}
use Rattle.std.specs.Prelude.{◌||◌}
use Rattle.copy_model.specs.Job.{Entry}
use Rattle.copy_model.specs.Marks.{is_commit, is_committed}
use Rattle.dest_core.specs.Stepping.{DestState, DestStep}
use Rattle.dest_laws.proofs.copies.Goes.{DeedLaws, Grew, grows}
use Rattle.dest_laws.specs.Copies.Story.{Story}
use Rattle.dest_laws.specs.Histories.Linked.{name_at}
use Rattle.dest_laws.specs.Own.Going.{jobs_in}
use Rattle.dest_laws.specs.View.Dues.{AreSafe}
use Rattle.dest_laws.specs.View.Steps.{ShowsStep}
use Rattle.job_book.specs.Book.{BookView}
use Rattle.nfs_base.specs.declared.seal.End.TheVariants.{Dest}
use Rattle.wire_lines.specs.declared.letters.Speaker.{Speaker}
use Rattle.wire_machine.specs.History.{is_reported}
use Rattle.wire_model.specs.Copies.{Job as Copy, is_safe}
use Rattle.wire_model.specs.Meaning.{Meaning}
use Rattle.wire_model.specs.Spelling.{Spelling}
use Rattle.wire_model.specs.System.{System}
use Rattle.wire_model.specs.Wire.{Executed}

keeps_or : (x y z : Bool) → (y ≡ true → z ≡ true) → (x || y) ≡ true → (x || z) ≡ true
keeps_or true y z keeps is = refl
keeps_or false y z keeps is = keeps is

committed_behind : (old more : List Entry) → is_committed old ≡ true → is_committed (old ++ more) ≡ true
committed_behind [] more is = absurd (cc)
committed_behind (e ∷ old) more is = keeps_or (is_commit e) (is_committed old) (is_committed (old ++ more)) (committed_behind old more) is

module _ {M : Type 0} (laws : DeedLaws) (spell : Spelling) (meaning : Meaning) (s : System) (k : ℕ) (took : Option (List ℕ)) (speaker : Speaker)
    (executed : Option Executed) (d : DestState M) (t : DestStep M) (shows : ShowsStep spell meaning s k took speaker executed d t)
    (story : Story (jobs_in d) (jobs_in t.host) t.out.used) (safe : AreSafe s k) where
  abbrev b : BookView
  b = jobs_in d

  abbrev c : BookView
  c = jobs_in t.host

  -- one that was safe
  still_safe : (j : ℕ) → j < b.table.made → is_safe (s.job k j) ≡ true → is_safe (s.job (suc k) j) ≡ true
  still_safe j there was =
      ⊎_elim (λ (same : (s.job (suc k) j).entries ≡ (s.job k j).entries). ap is_committed same ∙ was)
      (λ (g : Grew b c t.out.used (name_at b.table.boot j) (s.job k j) (s.job (suc k) j)).
      ap is_committed g.pushed ∙ committed_behind (s.job k j).entries (g.entry ∷ []) was)
      (grows laws spell meaning s k took speaker executed d t shows story j there)

  -- one that was stable
  was_stable : (j : ℕ) → (s.job k j).stable ≡ true → is_safe (s.job (suc k) j) ≡ true
  was_stable j up =
      ⊎_elim (λ (there : j < b.table.made). still_safe j there (safe j up))
      (λ (past : b.table.made ≤ j). let none : (s.job k j).stable ≡ false = ap (λ (x : Copy). x.stable) (shows.before.none_yet j past) in absurd (cc))
      (cases_lt j b.table.made)

  pub stay_safe : ((j : ℕ) → j < c.table.made → is_reported spell meaning (s.acts Dest k) (name_at c.table.boot j) ≡ true → is_safe (s.job (suc k) j) ≡ true)
      → AreSafe s (suc k)
  stay_safe reports j up =
      ⊎_elim
      (λ (there : j < c.table.made).
      ⊎_elim (λ (was : (s.job k j).stable ≡ true). was_stable j was)
      (λ (now : is_reported spell meaning (s.acts Dest k) (name_at c.table.boot j) ≡ true). reports j there now)
      (or_cases (s.job k j).stable (is_reported spell meaning (s.acts Dest k) (name_at c.table.boot j)) (sym (shows.marked j there) ∙ up)))
      (λ (past : c.table.made ≤ j). let none : (s.job (suc k) j).stable ≡ false = ap (λ (x : Copy). x.stable) (shows.after.none_yet j past) in absurd (cc))
      (cases_lt j c.table.made)
