-- By deeds that give one entry at most, no job gets more.
use Rattle.std.proofs.Common.{◌≡◌, inl, inr, ℕ, ◌+◌, ◌≤◌, Bool, true, false, List, [], ◌∷◌, Some, length, refl, ◌∙◌, arith, append-nil}
use Rattle.std.proofs.lemmas.List.{length-append}
use Rattle.std.proofs.lemmas.List.Sums.{sum_by-append}
use Rattle.std.specs.Prelude.{sum_by}
use Rattle.copy_model.specs.Job.{Entry}
use Rattle.dest_laws.specs.Deeds.{GoesWithin, entry_in}
use Rattle.dest_laws.specs.Histories.Seen.{GrowsBy, IsGiven, Seen, entries_by, entries_if, entries_in, seen_in}
use Rattle.dest_laws.specs.Own.Going.{GetsOne}
use Rattle.dest_tasks.specs.Completing as deeds
use Rattle.dest_tasks.specs.Completing.{Comes, Deed}
use Rattle.dest_tasks.specs.Posts.{is_same}
use Rattle.job_book.specs.Book.{BookView}
use Rattle.nfs_base.specs.declared.job.JobName.{JobName}

one_if : (same : Bool) (entry : Entry) → length (entries_if same entry) ≤ 1
one_if true entry = omega arith
one_if false entry = omega arith

deed_gives : (name : JobName) (d : Deed) → length (entries_by name d) ≤ entry_in d
deed_gives name (deeds.Accepts plan) = omega arith
deed_gives name (deeds.Sizes spare len job) = one_if (is_same job name) _
deed_gives name (deeds.Claims job) = omega arith
deed_gives name (deeds.GivesBack job chunk) = omega arith
deed_gives name (deeds.Lands job chunk) = one_if (is_same job name) _
deed_gives name (deeds.Stops cause job) = one_if (is_same job name) _
deed_gives name (deeds.Commits job) = one_if (is_same job name) _
deed_gives name (deeds.Retires job) = omega arith

all_give : (name : JobName) (ds : List Deed) → length (entries_in name ds) ≤ sum_by entry_in ds
all_give name [] = omega arith
all_give name (d ∷ ds) =
    let single : sum_by entry_in (d ∷ []) ≡ 0 + entry_in d = refl in
    let total : sum_by entry_in (d ∷ ds) ≡ sum_by entry_in (d ∷ []) + sum_by entry_in ds = sum_by-append entry_in (d ∷ []) ds in
    let joined = length-append (entries_by name d) (entries_in name ds) in
    let here = deed_gives name d in
    let rest = all_give name ds in
    omega (arith, single, total, joined, here, rest)

gets_by : (more : List Entry) (old new : Seen) → length more ≤ 1 → GrowsBy more old new → GetsOne old new
gets_by [] old new few grown = inl (grown.entries ∙ append-nil old.entries)
gets_by (entry ∷ []) old new few grown = inr (entry, grown.entries)
gets_by (entry ∷ other ∷ more) old new few grown = absurd (omega (arith, few))

-- the law of `histories`
abbrev pub Grows : Type 0
Grows = (deeds : List Deed) (b c : BookView) (name : JobName) (old new : Seen) → Comes deeds b c → IsGiven b.table name
    → seen_in b.table name ≡ Some old → seen_in c.table name ≡ Some new → GrowsBy (entries_in name deeds) old new

pub gets_one : Grows → (accepts : ℕ) (b c : BookView) (name : JobName) (old new : Seen) → GoesWithin accepts 1 b c → IsGiven b.table name
    → seen_in b.table name ≡ Some old → seen_in c.table name ≡ Some new → (new.plan ≡ old.plan) × GetsOne old new
gets_one law accepts b c name old new goes given was now =
    let grown = law goes.deeds b c name old new goes.come given was now in
    let few = goes.few_entries in
    (grown.plan, gets_by (entries_in name goes.deeds) old new (omega (arith, all_give name goes.deeds, few)) grown)
