-- Which deed gave a job an entry.
use Rattle.std.proofs.Common.{◌≡◌, ℕ, ◌+◌, ◌≤◌, Bool, true, false, List, [], ◌∷◌, ◌++◌, length, refl, ap, subst, ◌∙◌, arith}
use Rattle.std.proofs.lemmas.Bool.{and_parts, eqb-true}
use Rattle.std.proofs.lemmas.List.{length-append}
use Rattle.std.proofs.lemmas.List.Sums.{sum_by-append}
use Rattle.std.specs.Prelude.{◌==◌, slice_index_or, sum_by}
use Rattle.std.specs.Prelude.{Option, Some, None}
use Rattle.copy_model.specs.Job.{Committed, Entry, Landed, Reported, Sized, Stopped}
use Rattle.dest_laws.specs.Copies.Story.{AllAre, GoesWell, HasLength, IsCommitted, IsMet}
use Rattle.dest_laws.specs.Deeds.{accept_in, entry_in}
use Rattle.dest_laws.specs.Histories.Seen.{entries_by, entries_if, entries_in}
use Rattle.dest_tasks.specs.Completing as does
use Rattle.dest_tasks.specs.Completing.{Comes, Deed, Does}
use Rattle.dest_tasks.specs.Posts.{is_same}
use Rattle.job_book.specs.Book.{BookView, named}
use Rattle.job_book.specs.Working.{claimed, next_chunk}
use Rattle.job_log.specs.declared.chunk.Chunk.{Chunk}
use Rattle.nfs_base.specs.declared.job.JobName.{JobName}
use Rattle.server_volume.specs.declared.used.Used.{Used}

-- ---- names

same_name : (job name : JobName) → is_same job name ≡ true → job ≡ name
same_name job name is =
    let parts = and_parts (job.boot == name.boot) (job.number == name.number) is in
    let boots : job.boot ≡ name.boot = eqb-true job.boot name.boot parts.0 in
    let numbers : job.number ≡ name.number = eqb-true job.number name.number parts.1 in
    ap (λ (n : ℕ). let x : JobName = record { boot = job.boot; number = n } in x) numbers
    ∙ ap (λ (b : ℕ). let x : JobName = record { boot = b; number = name.number } in x) boots

-- ---- one job's entries by deeds are no more than all that they give

one_if : (same : Bool) (entry : Entry) → length (entries_if same entry) ≤ 1
one_if true entry = omega arith
one_if false entry = omega arith

deed_gives : (name : JobName) (d : Deed) → length (entries_by name d) ≤ entry_in d
deed_gives name (does.Accepts plan) = omega arith
deed_gives name (does.Sizes spare len job) = one_if (is_same job name) _
deed_gives name (does.Claims job) = omega arith
deed_gives name (does.GivesBack job chunk) = omega arith
deed_gives name (does.Lands job chunk) = one_if (is_same job name) _
deed_gives name (does.Stops cause job) = one_if (is_same job name) _
deed_gives name (does.Commits job) = one_if (is_same job name) _
deed_gives name (does.Retires job) = omega arith

pub all_give : (name : JobName) (ds : List Deed) → length (entries_in name ds) ≤ sum_by entry_in ds
all_give name [] = omega arith
all_give name (d ∷ ds) =
    let single : sum_by entry_in (d ∷ []) ≡ 0 + entry_in d = refl in
    let total : sum_by entry_in (d ∷ ds) ≡ sum_by entry_in (d ∷ []) + sum_by entry_in ds = sum_by-append entry_in (d ∷ []) ds in
    let joined = length-append (entries_by name d) (entries_in name ds) in
    let here = deed_gives name d in
    let rest = all_give name ds in
    omega (arith, single, total, joined, here, rest)

-- ---- the deed that gave the one entry

pub record GivenBy (P : Deed → Type 0) (name : JobName) (entry : Entry) : Type 0 where
  pub deed : Deed
  pub is : P deed
  pub gives : entries_by name deed ≡ entry ∷ []

first_is : (x e : Entry) (xs : List Entry) → x ∷ xs ≡ e ∷ [] → x ≡ e
first_is x e xs is = ap (λ (es : List Entry). slice_index_or es 0 e) is

given_or : (P : Deed → Type 0) (name : JobName) (entry : Entry) (deed : Deed) (here rest : List Entry) → P deed → entries_by name deed ≡ here
    → here ++ rest ≡ entry ∷ [] → (rest ≡ entry ∷ [] → GivenBy P name entry) → GivenBy P name entry
given_or P name entry deed [] rest is here all later = later all
given_or P name entry deed (x ∷ []) rest is here all later =
    record { deed = deed; is = is; gives = here ∙ ap (λ (e : Entry). e ∷ []) (first_is x entry rest all) }
given_or P name entry deed (x ∷ y ∷ more) rest is here all later = absurd (cc)

pub given_by : (P : Deed → Type 0) (name : JobName) (entry : Entry) (ds : List Deed) → AllAre P ds → entries_in name ds ≡ entry ∷ [] → GivenBy P name entry
given_by P name entry [] all is = absurd (cc)
given_by P name entry (d ∷ ds) all is =
    given_or P name entry d (entries_by name d) (entries_in name ds) all.0 refl is (λ rest. given_by P name entry ds all.1 rest)

-- ---- by its kind

pub record Gave (same : Bool) (given entry : Entry) : Type 0 where
  pub same_is : same ≡ true
  pub entry_is : given ≡ entry

gave : (same : Bool) (given entry : Entry) → entries_if same given ≡ entry ∷ [] → Gave same given entry
gave true given entry is = record { same_is = refl; entry_is = first_is given entry [] is }
gave false given entry is = absurd (cc)

module _ (b : BookView) (used : List Used) (name : JobName) where
  committed_by : (deed : Deed) → IsMet b used deed → entries_by name deed ≡ Committed ∷ [] → IsCommitted b name used
  committed_by (does.Accepts plan) met is = absurd (cc)
  committed_by (does.Sizes spare len job) met is = let e = (gave (is_same job name) (Sized len) Committed is).entry_is in absurd (cc)
  committed_by (does.Claims job) met is = absurd (cc)
  committed_by (does.GivesBack job chunk) met is = absurd (cc)
  committed_by (does.Lands job chunk) met is = let e = (gave (is_same job name) (Landed chunk.off chunk.len) Committed is).entry_is in absurd (cc)
  committed_by (does.Stops cause job) met is = let e = (gave (is_same job name) Stopped Committed is).entry_is in absurd (cc)
  committed_by (does.Commits job) met is =
      subst (λ (n : JobName). IsCommitted b n used) (same_name job name (gave (is_same job name) Committed Committed is).same_is) met
  committed_by (does.Retires job) met is = absurd (cc)

  length_in : (given len : ℕ) → Sized given ≡ Sized len → given ≡ len
  length_in given len is = ap (λ (e : Entry). elim e as (λ x. ℕ) [ Sized n ↦ n | Landed off n ↦ 0 | Stopped ↦ 0 | Committed ↦ 0 | Reported ↦ 0 ]) is

  sized_by : (len : ℕ) (deed : Deed) → IsMet b used deed → entries_by name deed ≡ Sized len ∷ [] → HasLength b name len
  sized_by len (does.Accepts plan) met is = absurd (cc)
  sized_by len (does.Sizes spare given job) met is =
      let told = gave (is_same job name) (Sized given) (Sized len) is in
      subst (λ (n : JobName). HasLength b n len) (same_name job name told.same_is)
      (subst (λ (l : ℕ). HasLength b job l) (length_in given len told.entry_is) met)
  sized_by len (does.Claims job) met is = absurd (cc)
  sized_by len (does.GivesBack job chunk) met is = absurd (cc)
  sized_by len (does.Lands job chunk) met is = let e = (gave (is_same job name) (Landed chunk.off chunk.len) (Sized len) is).entry_is in absurd (cc)
  sized_by len (does.Stops cause job) met is = let e = (gave (is_same job name) Stopped (Sized len) is).entry_is in absurd (cc)
  sized_by len (does.Commits job) met is = let e = (gave (is_same job name) Committed (Sized len) is).entry_is in absurd (cc)
  sized_by len (does.Retires job) met is = absurd (cc)

  module _ {accepts entries : ℕ} (c : BookView) (goes : GoesWell (IsMet b used) accepts entries b c) where
    pub was_committed : entries_in name goes.deeds ≡ Committed ∷ [] → IsCommitted b name used
    was_committed is = let told = given_by (IsMet b used) name Committed goes.deeds goes.well is in committed_by told.deed told.is told.gives

    pub was_sized : (len : ℕ) → entries_in name goes.deeds ≡ Sized len ∷ [] → HasLength b name len
    was_sized len is = let told = given_by (IsMet b used) name (Sized len) goes.deeds goes.well is in sized_by len told.deed told.is told.gives

-- ---- where no copy is taken no number is given out

claimed_made : (chunk : Option Chunk) (name : JobName) (b : BookView) → (claimed chunk name b).table.made ≡ b.table.made
claimed_made None name b = refl
claimed_made (Some chunk) name b = refl

deed_made : (deed : Deed) (b c : BookView) → Does deed b c → accept_in deed ≡ 0 → c.table.made ≡ b.table.made
deed_made (does.Accepts plan) b c done is = absurd (omega (arith, is))
deed_made (does.Sizes spare len job) b c done is = ap (λ (x : BookView). x.table.made) done.1
deed_made (does.Claims job) b c done is = ap (λ (x : BookView). x.table.made) done ∙ claimed_made (next_chunk (named b.table job)) job b
deed_made (does.GivesBack job chunk) b c done is = ap (λ (x : BookView). x.table.made) done
deed_made (does.Lands job chunk) b c done is = ap (λ (x : BookView). x.table.made) done.1
deed_made (does.Stops cause job) b c done is = ap (λ (x : BookView). x.table.made) done
deed_made (does.Commits job) b c done is = ap (λ (x : BookView). x.table.made) done
deed_made (does.Retires job) b c done is = ap (λ (x : BookView). x.table.made) done

pub none_made : (ds : List Deed) (b c : BookView) → Comes ds b c → sum_by accept_in ds ≤ 0 → c.table.made ≡ b.table.made
unfolding Comes
none_made [] b c come few = ap (λ (x : BookView). x.table.made) come
none_made (d ∷ ds) b c come few =
    let single : sum_by accept_in (d ∷ []) ≡ 0 + accept_in d = refl in
    let total : sum_by accept_in (d ∷ ds) ≡ sum_by accept_in (d ∷ []) + sum_by accept_in ds = sum_by-append accept_in (d ∷ []) ds in
    none_made ds come.0 c come.2 (omega (arith, single, total, few)) ∙ deed_made d b come.0 come.1 (omega (arith, single, total, few))
