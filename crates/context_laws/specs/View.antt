-- A server's contexts as a wire sees them: each has a number, and a root, which is the context under which it was made, or
-- else itself (RFC 2203 section 5.2.2, RFC 7861 section 2.7).
use Rattle.std.specs.Prelude.{◌≡◌, ◌⊎◌, ℕ, ◌+◌, ◌<◌, ◌≤◌, List, Option, Some, None}
use Rattle.std.specs.List.{AllByRecursion}
use Rattle.gss_ctx.specs.Table.{ContextTable, AreDistinct, entry_of}
use Rattle.gss_ctx.specs.declared.context.Entry.{Entry}

abbrev pub root_number : Option ℕ → (number : ℕ) → ℕ
root_number None number = number
root_number (Some parent) number = parent

abbrev pub root_at : {P : Type 0} → (number : ℕ) → Option (Entry P) → Option ℕ
root_at number None = None
root_at number (Some e) = Some (root_number e.context.parent number)

-- the root of the context with a number, where it is there
abbrev pub root_in : {P : Type 0} → List (Entry P) → (number : ℕ) → Option ℕ
root_in entries number = root_at number (entry_of number entries)

-- No context has a number that wasn't given out yet, and no two have one.
pub record AreNumbered {P : Type 0} (made : ℕ) (entries : List (Entry P)) : Type 0 where
  pub given : AllByRecursion (λ e. e.number ≤ made) entries
  pub distinct : AreDistinct entries

-- Contexts are gone, and none has come: what is there was there, with the same root.
pub record IsPart {P : Type 0} (made : ℕ) (old new : List (Entry P)) : Type 0 where
  pub roots : (number root : ℕ) → root_in new number ≡ Some root → root_in old number ≡ Some root
  pub numbered : AreNumbered made new

-- What a step leaves of contexts: they are the same server's, in the same opening; each was there, or is new; and one is new
-- at most.
pub record Follows {P : Type 0} (old new : ContextTable P) : Type 0 where
  pub boot : new.boot ≡ old.boot
  pub owner : new.owner ≡ old.owner
  pub made : old.made ≤ new.made
  pub few : new.made ≤ old.made + 1
  pub roots : (number root : ℕ) → root_in new.entries number ≡ Some root
      → (root_in old.entries number ≡ Some root) ⊎ ((old.made < number) × (number ≤ new.made))
  pub numbered : AreNumbered new.made new.entries

-- the context of this number is made, with this root
pub record IsNewIn {P : Type 0} (old new : ContextTable P) (number root : ℕ) : Type 0 where
  pub next : number ≡ old.made + 1
  pub counted : new.made ≡ number
  pub root_is : root_in new.entries number ≡ Some root
