-- What is known of the copies of all openings (`past_copies`).
use Rattle.std.proofs.Common.{◌≡◌, ℕ, ◌+◌, ◌<◌, ◌≤◌, true, List, [], length}
use Rattle.std.specs.Prelude.{slice_index_or}
use Rattle.opening_laws.specs.Anew.{lost}
use Rattle.past_copies.specs.Past.{ArePast, Past, all_copies, copy_at, name_at, name_of, past_after}
use Rattle.wire_model.specs.Copies.{Job}

pub record AreOrdered : Type 0 where
  pub count : (past : List Past) (jobs : List Job) → length (all_copies past jobs) ≡ length past + length jobs
  pub copies : (none : Job) (past : List Past) (jobs : List Job) (j : ℕ) → copy_at none past jobs (length past + j) ≡ slice_index_or jobs j none
  pub names : (boot : ℕ) (past : List Past) (j : ℕ) → name_at boot past (length past + j) ≡ name_of boot (j + 1)

pub record TheyStay : Type 0 where
  pub copies : (none : Job) (past : List Past) (jobs others : List Job) (j : ℕ) → j < length past → copy_at none past jobs j ≡ copy_at none past others j
  pub names : (boot other : ℕ) (past : List Past) (j : ℕ) → j < length past → name_at boot past j ≡ name_at other past j
  pub gone : (boot : ℕ) (none : Job) (past : List Past) (jobs : List Job) (j : ℕ) → ArePast boot past → j < length past → (copy_at none past jobs j).lost ≡ true
  pub others : (boot number other : ℕ) (past : List Past) (j : ℕ) → ArePast boot past → j < length past → name_at other past j ≡ name_of boot number → ⊥

pub record TheyEnd : Type 0 where
  pub count : (boot : ℕ) (past : List Past) (jobs : List Job) → length (past_after boot past jobs) ≡ length past + length jobs
  pub copies : (none : Job) (boot : ℕ) (past : List Past) (jobs : List Job) (j : ℕ) → ArePast boot past → j < length past + length jobs
      → copy_at none (past_after boot past jobs) [] j ≡ lost (copy_at none past jobs j)
  pub names : (boot later : ℕ) (past : List Past) (jobs : List Job) (j : ℕ) → j < length past + length jobs
      → name_at later (past_after boot past jobs) j ≡ name_at boot past j
  pub blank : (none : Job) (boot : ℕ) (past : List Past) (jobs : List Job) (j : ℕ) → length past + length jobs ≤ j
      → copy_at none (past_after boot past jobs) [] j ≡ none
  pub past : (boot later : ℕ) (past : List Past) (jobs : List Job) → ArePast boot past → boot < later → ArePast later (past_after boot past jobs)
