-- Numbers of opens are given out one after the other.
use Rattle.std.proofs.Common.{◌≡◌, ℕ, zero, suc, ◌+◌, ◌<◌, true, false, List, [], ◌∷◌, ◌++◌, length, Option, None, Some, ◌∙◌, arith}
use Rattle.std.specs.Prelude.{slice_index, if◌then◌else◌, nat_le}
use Rattle.nfs_base.specs.declared.limits.TheConstants.{MOST_OPENS}
use Rattle.state_ids.specs.declared.open_file.OpenFile.{OpenFile}
use Rattle.state_ids.specs.Opens.{OpenTable, same_open, open_table_at, reopened, with_open}
use Rattle.state_ids.specs.Runs.{OpenCall, Opens, Closes, Ends, after_call, given_at, given}

-- the numbers count on from those that were given out
abbrev CountsOn : ℕ → List ℕ → Type 0
CountsOn made numbers = (k : ℕ) → k < length numbers → slice_index numbers k ≡ made + 1 + k

one_more : (made : ℕ) (rest : List ℕ) → CountsOn (made + 1) rest → CountsOn made ((made + 1) ∷ rest)
one_more made rest all zero h = omega arith
one_more made rest all (suc k) h = let later : slice_index rest k ≡ made + 1 + 1 + k = all k (omega arith) in later ∙ omega arith

opened : (found : Option OpenFile) (table : OpenTable) (client : ℕ) (owner : List ℕ) (file access : ℕ) (calls : List OpenCall) → ((next : OpenTable) → CountsOn next.numbers (given next calls)) → CountsOn table.numbers (given_at found table ++ given (open_table_at found table client owner file access) calls)
opened (Some o) table client owner file access calls later = later (reopened table client owner file access)
opened None table client owner file access calls later =
    elim (nat_le MOST_OPENS (length table.opens)) as (λ b. CountsOn table.numbers ((if b then [] else (table.numbers + 1) ∷ []) ++ given (if b then table else with_open table client owner file access) calls)) [
      | true ↦ later table
      | false ↦ one_more table.numbers (given (with_open table client owner file access) calls) (later (with_open table client owner file access))
    ]

pub counted : (table : OpenTable) (calls : List OpenCall) → CountsOn table.numbers (given table calls)
counted table [] = λ k h. omega arith
counted table (Opens client owner file access ∷ calls) = opened (same_open table client owner file) table client owner file access calls (λ next. counted next calls)
counted table (Closes number ∷ calls) = counted (after_call table (Closes number)) calls
counted table (Ends client ∷ calls) = counted (after_call table (Ends client)) calls
