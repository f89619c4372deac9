-- Numbers of grants are given out one after the other.
use Rattle.std.proofs.Common.{◌≡◌, ℕ, zero, suc, ◌+◌, ◌<◌, true, false, List, [], ◌∷◌, ◌++◌, length, ◌∙◌, arith}
use Rattle.std.specs.Prelude.{slice_index, if◌then◌else◌}
use Rattle.copy_grants.specs.Grants.{GrantTable, is_full, with_grant}
use Rattle.copy_grants.specs.Runs.{GrantCall, Notifies, Uses, Cancels, Expires, after_call, given}

head_more : (m : ℕ) (rest : List ℕ) (k : ℕ) → ((j : ℕ) → j < length rest → slice_index rest j ≡ m + 1 + 1 + j) → k < length ((m + 1) ∷ rest) → slice_index ((m + 1) ∷ rest) k ≡ m + 1 + k
head_more m rest zero all h = omega arith
head_more m rest (suc j) all h = let later : slice_index rest j ≡ m + 1 + 1 + j = all j (omega arith) in later ∙ omega arith

pub counted : (table : GrantTable) (calls : List GrantCall) (k : ℕ) → k < length (given table calls) → slice_index (given table calls) k ≡ table.made + 1 + k
counted table [] k h = omega arith
counted table (Notifies now file destination user secret ∷ calls) k h =
    (elim (is_full table) as (λ b. k < length ((if b then [] else (table.made + 1) ∷ []) ++ given (if b then table else with_grant table now file destination user secret) calls) → slice_index ((if b then [] else (table.made + 1) ∷ []) ++ given (if b then table else with_grant table now file destination user secret) calls) k ≡ table.made + 1 + k) [
      | true ↦ (λ there. counted table calls k there)
      | false ↦ (λ there. head_more table.made (given (with_grant table now file destination user secret) calls) k (counted (with_grant table now file destination user secret) calls) there)
    ]) h
counted table (Uses number now ∷ calls) k h = counted (after_call table (Uses number now)) calls k h
counted table (Cancels number ∷ calls) k h = counted (after_call table (Cancels number)) calls k h
counted table (Expires now ∷ calls) k h = counted (after_call table (Expires now)) calls k h
