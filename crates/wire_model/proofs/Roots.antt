-- A context is made once in an opening, and whenever it is there it has the root that it was made with.
use Rattle.std.proofs.Common.{◌≡◌, ◌⊎◌, ⊎_elim, ℕ, zero, suc, ◌<◌, ◌≤◌, Some, sym, ◌∙◌, arith}
use Rattle.std.proofs.lemmas.Bool.{cases_order, cases_lt}
use Rattle.wire_model.specs.Spelling.{Spelling}
use Rattle.wire_model.specs.Wire.{Wire}
use Rattle.wire_model.specs.ServerLaws.{IsMade}
use Rattle.wire_model.specs.Told.{IsLawfulWire}
use Rattle.wire_model.proofs.Ends.{from_on}

module _ (spell : Spelling) (w : Wire) (lawful : IsLawfulWire spell w) where
  -- the number of the server's opening at a moment
  abbrev boot : ℕ → ℕ
  boot k = (w.server k).boot

  pub boot_rises : (i k : ℕ) → i ≤ k → (w.server i).boot ≤ (w.server k).boot
  boot_rises i k le =
      from_on (λ n. boot i ≤ boot n) i (omega arith) (λ n after so_far. let step = (lawful.server n).boot in omega arith) k le

  made_rises : (i k : ℕ) → i ≤ k → boot i ≡ boot k → (w.server i).made ≤ (w.server k).made
  made_rises i k le =
      from_on
      (λ n. boot i ≡ boot n → (w.server i).made ≤ (w.server n).made)
      i
      (λ same. omega arith)
      (λ n after so_far same.
      let step = (lawful.server n).boot in
      let rises = boot_rises i n after in
      let early = so_far (omega arith) in
      let now = (lawful.server n).made (omega arith) in
      omega arith)
      k
      le

  never_again : (i k number root root' : ℕ) → i < k → IsMade (w.server i) (w.server (suc i)) number root
      → IsMade (w.server k) (w.server (suc k)) number root' → boot (suc i) ≡ boot (suc k) → ⊥
  never_again i k number root root' before first then_ same =
      let counted = first.counted in
      let new = then_.new in
      let here = then_.same_boot in
      let rises = made_rises (suc i) k (omega arith) (omega arith) in
      absurd (omega arith)

  pub made_once : (i k number root root' : ℕ) → IsMade (w.server i) (w.server (suc i)) number root
      → IsMade (w.server k) (w.server (suc k)) number root' → boot (suc i) ≡ boot (suc k) → i ≡ k
  made_once i k number root root' first then_ same =
      ⊎_elim
      (λ (here : i ≡ k). here)
      (λ (other : (i < k) ⊎ (k < i)). absurd (⊎_elim
      (λ (before : i < k). never_again i k number root root' before first then_ same)
      (λ (after : k < i). never_again k i number root' root after then_ first (sym same))
      other))
      (cases_order i k)

  -- a context that is there was counted
  counted : (k number root : ℕ) → (w.server k).root number ≡ Some root → number ≤ (w.server k).made
  counted zero number root there = absurd (let none = lawful.server_start.no_context number in cc)
  counted (suc k) number root there =
      ⊎_elim
      (λ (old : (boot k ≡ boot (suc k)) × ((w.server k).root number ≡ Some root)).
      let so_far = counted k number root old.1 in
      let rises = (lawful.server k).made old.0 in
      omega arith)
      (λ (new : IsMade (w.server k) (w.server (suc k)) number root). new.counted)
      ((lawful.server k).root number root there)

  -- a context that was made was there since, with its root
  there_since : (i number root x : ℕ) → IsMade (w.server i) (w.server (suc i)) number root → (k : ℕ) → suc i ≤ k
      → boot (suc i) ≡ boot k → (w.server k).root number ≡ Some x → (w.server (suc i)).root number ≡ Some x
  there_since i number root x made k le =
      from_on
      (λ n. boot (suc i) ≡ boot n → (w.server n).root number ≡ Some x → (w.server (suc i)).root number ≡ Some x)
      (suc i)
      (λ same there. there)
      (λ n after so_far same there.
      ⊎_elim
      (λ (old : (boot n ≡ boot (suc n)) × ((w.server n).root number ≡ Some x)). so_far (same ∙ sym old.0) old.1)
      (λ (new : IsMade (w.server n) (w.server (suc n)) number x). absurd (never_again i n number root x (omega arith) made new same))
      ((lawful.server n).root number x there))
      k
      le

  pub root_is : (i number root k x : ℕ) → IsMade (w.server i) (w.server (suc i)) number root → boot (suc i) ≡ boot k
      → (w.server k).root number ≡ Some x → x ≡ root
  root_is i number root k x made same there =
      ⊎_elim
      (λ (early : k < suc i).
      let count = counted k number x there in
      let here = made.same_boot in
      let rises = made_rises k i (omega arith) (omega arith) in
      let new = made.new in
      absurd (omega arith))
      (λ (late : suc i ≤ k).
      let then_ = there_since i number root x made k late same there in
      let first = made.root_is in
      cc)
      (cases_lt k (suc i))
