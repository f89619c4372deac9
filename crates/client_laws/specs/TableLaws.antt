-- What is written of a copy in the table is there, and the others stay.
use Rattle.std.proofs.Common.{◌≡◌, ◌≢◌, ℕ, zero, suc, List, [], ◌∷◌, Option, None, refl, sym, get_or, set, get_or-set_other}
use Rattle.client_copies.specs.Table.{Copies, copy_after, copy_at, with_copy}
use Rattle.client_copies.specs.declared.copy.ClientCopy.{ClientCopy}
use Rattle.client_copies.specs.declared.event.Event.{Event}

set_after : {A : Type 0} (f : A → A) (l : List A) (n : ℕ) (d : A) → f d ≡ d → get_or (set l n (f (get_or l n d))) n d ≡ f (get_or l n d)
set_after f [] zero d e = sym e
set_after f [] (suc n) d e = sym e
set_after f (x ∷ xs) zero d e = refl
set_after f (x ∷ xs) (suc n) d e = set_after f xs n d e

pub copy_written : (event : Event) (i : ℕ) (t : Copies) → copy_at i (with_copy i (copy_after event (copy_at i t)) t) ≡ copy_after event (copy_at i t)
copy_written event i t = set_after (copy_after event) t.copies i None refl

pub copy_kept : (i j : ℕ) (x : Option ClientCopy) (t : Copies) → j ≢ i → copy_at j (with_copy i x t) ≡ copy_at j t
copy_kept i j x t other = get_or-set_other t.copies i j x None other
