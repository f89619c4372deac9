-- The works that a plan leaves.
use Rattle.std.proofs.Common.{◌≡◌, ◌∙◌, ℕ, ◌+◌, ◌≤◌, List, [], ◌∷◌, length, drop, refl, sym, ap, suc, zero}
use Rattle.std.proofs.Math.ListN.{drop_of_length-le}
use Rattle.std.proofs.lemmas.List.{drop-drop}
use Rattle.write_queue.specs.declared.work.Work.{Work}

-- one more of them is answered
pub drop_one_more : (n : ℕ) (works : List Work) → drop (n + 1) works ≡ drop 1 (drop n works)
drop_one_more n works = sym (drop-drop 1 n works)

-- none is left
pub drop_none_more : (n : ℕ) (works : List Work) → length works ≤ n → drop n works ≡ drop 1 (drop n works)
drop_none_more n works few = drop_of_length-le works few ∙ sym (ap (drop 1) (drop_of_length-le works few))
