-- Deeds one after another.
use Rattle.std.proofs.Common.{◌≡◌, ℕ, ◌+◌, ◌≤◌, List, [], ◌∷◌, ◌++◌, refl, subst, arith}
use Rattle.std.proofs.lemmas.List.Sums.{sum_by-append}
use Rattle.dest_tasks.specs.Completing.{Comes, Deed, Does}
use Rattle.job_book.specs.Book.{BookView}
use Rattle.dest_laws.specs.Deeds.{ByDeeds, GoesWithin, accept_in, entry_in}

pub by_deeds : (accepts entries : ℕ) (b c : BookView) → GoesWithin accepts entries b c → ByDeeds b c
by_deeds accepts entries b c goes = (goes.deeds, goes.come)

pub none : {a e : ℕ} (b c : BookView) → c ≡ b → GoesWithin a e b c
unfolding Comes
none b c same = record { deeds = []; come = same; few_accepts = omega arith; few_entries = omega arith }

pub one : {a e : ℕ} (deed : Deed) (b c : BookView) → Does deed b c → accept_in deed ≤ a → entry_in deed ≤ e → GoesWithin a e b c
unfolding Comes
one deed b c done accepts entries = record {
  deeds = deed ∷ [];
  come = (c, done, refl);
  few_accepts = omega (arith, accepts);
  few_entries = omega (arith, entries);
}

after_those : (deeds more : List Deed) (b c d : BookView) → Comes deeds b c → Comes more c d → Comes (deeds ++ more) b d
unfolding Comes
after_those [] more b c d come rest = subst (λ (x : BookView). Comes more x d) come rest
after_those (deed ∷ deeds) more b c d come rest = (come.0, come.1, after_those deeds more come.0 c d come.2 rest)

-- the counts of both add up
pub both : {a e : ℕ} (b c d : BookView) → GoesWithin 0 0 b c → GoesWithin a e c d → GoesWithin a e b d
both b c d first second = record {
  deeds = first.deeds ++ second.deeds;
  come = after_those first.deeds second.deeds b c d first.come second.come;
  few_accepts = let m = first.few_accepts in let n = second.few_accepts in omega (arith, sum_by-append accept_in first.deeds second.deeds, m, n);
  few_entries = let m = first.few_entries in let n = second.few_entries in omega (arith, sum_by-append entry_in first.deeds second.deeds, m, n);
}

-- what gives none lets others give as many
pub looser : {a e : ℕ} (b c : BookView) → GoesWithin 0 0 b c → GoesWithin a e b c
looser b c goes = record {
  deeds = goes.deeds;
  come = goes.come;
  few_accepts = let m = goes.few_accepts in omega (arith, m);
  few_entries = let m = goes.few_entries in omega (arith, m);
}
