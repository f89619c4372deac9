-- Deeds one after another, each of which has a property.
use Rattle.std.proofs.Common.{◌≡◌, ℕ, ◌+◌, ◌≤◌, List, [], ◌∷◌, ◌++◌, refl, arith}
use Rattle.std.proofs.lemmas.List.Sums.{sum_by-append}
use Rattle.std.specs.Prelude.{sum_by}
use Rattle.dest_laws.specs.Copies.Story.{AllAre, GoesWell}
use Rattle.dest_laws.specs.Deeds.{GoesWithin, accept_in, entry_in}
use Rattle.dest_laws.specs.Own.GoingLaws.{after_those}
use Rattle.dest_tasks.specs.Completing.{Comes, Deed, Does}
use Rattle.job_book.specs.Book.{BookView}

module _ (P : Deed → Type 0) where
  pub none : {a e : ℕ} (b c : BookView) → c ≡ b → GoesWell P a e b c
  unfolding Comes
  none b c same = record { deeds = []; come = same; few_accepts = omega arith; few_entries = omega arith; well = tt }

  pub one : {a e : ℕ} (deed : Deed) (b c : BookView) → Does deed b c → accept_in deed ≤ a → entry_in deed ≤ e → P deed → GoesWell P a e b c
  unfolding Comes
  one deed b c done accepts entries is = record {
    deeds = deed ∷ [];
    come = (c, done, refl);
    few_accepts = omega (arith, accepts);
    few_entries = omega (arith, entries);
    well = (is, tt);
  }

  all_both : (deeds more : List Deed) → AllAre P deeds → AllAre P more → AllAre P (deeds ++ more)
  all_both [] more first second = second
  all_both (deed ∷ deeds) more first second = (first.0, all_both deeds more first.1 second)

  pub both : {a e : ℕ} (b c d : BookView) → GoesWell P 0 0 b c → GoesWell P a e c d → GoesWell P a e b d
  both b c d first second = record {
    deeds = first.deeds ++ second.deeds;
    come = after_those first.deeds second.deeds b c d first.come second.come;
    few_accepts = let m = first.few_accepts in let n = second.few_accepts in omega (arith, sum_by-append accept_in first.deeds second.deeds, m, n);
    few_entries = let m = first.few_entries in let n = second.few_entries in omega (arith, sum_by-append entry_in first.deeds second.deeds, m, n);
    well = all_both first.deeds second.deeds first.well second.well;
  }

  -- what gives none gives one at most
  pub few_entries_of : (b c : BookView) → GoesWell P 0 0 b c → GoesWell P 0 1 b c
  few_entries_of b c goes = record {
    deeds = goes.deeds;
    come = goes.come;
    few_accepts = goes.few_accepts;
    few_entries = let m = goes.few_entries in omega (arith, m);
    well = goes.well;
  }

  -- deeds that give no entry
  module _ (silent : (deed : Deed) → entry_in deed ≡ 0 → P deed) where
    all_silent : (deeds : List Deed) → sum_by entry_in deeds ≤ 0 → AllAre P deeds
    all_silent [] few = tt
    all_silent (deed ∷ deeds) few =
        let single : sum_by entry_in (deed ∷ []) ≡ 0 + entry_in deed = refl in
        let total : sum_by entry_in (deed ∷ deeds) ≡ sum_by entry_in (deed ∷ []) + sum_by entry_in deeds = sum_by-append entry_in (deed ∷ []) deeds in
        (silent deed (omega (arith, single, total, few)), all_silent deeds (omega (arith, single, total, few)))

    pub well_by : {a : ℕ} (b c : BookView) → GoesWithin a 0 b c → GoesWell P a 0 b c
    well_by b c goes = record {
      deeds = goes.deeds;
      come = goes.come;
      few_accepts = goes.few_accepts;
      few_entries = goes.few_entries;
      well = all_silent goes.deeds goes.few_entries;
    }
