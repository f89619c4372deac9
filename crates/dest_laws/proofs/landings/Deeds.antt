-- Deeds by kinds: those that give no job a length or a landing, and those by which jobs end alone.
use Rattle.std.proofs.Common.{◌≡◌, ◌∙◌, ℕ, ◌+◌, ◌≤◌, Bool, true, false, List, [], ◌∷◌, ◌++◌, refl, sym, ap, subst, arith}
use Rattle.std.specs.Prelude.{All, if◌then◌else◌, not, sum_by}
use Rattle.std.proofs.lemmas.List.Elements.{All-filter}
use Rattle.std.proofs.lemmas.List.Sums.{sum_by-append}
use Rattle.copy_model.specs.Job.{Committed, Entry, Landed, Sized, Stopped}
use Rattle.dest_laws.specs.Deeds.{GoesWithin, entry_in}
use Rattle.dest_laws.specs.Histories.Kinds.{AreOf, GoesBy, is_end}
use Rattle.dest_laws.specs.Histories.Seen.{entries_by, entries_in}
use Rattle.dest_tasks.specs.Completing as deeds
use Rattle.dest_tasks.specs.Completing.{Comes, Deed, Does}
use Rattle.dest_tasks.specs.Posts.{is_same}
use Rattle.job_book.specs.Book.{BookView, id_of, retired}
use Rattle.job_table.specs.Table.{is_job}
use Rattle.job_table.specs.declared.job.Job.{Job}
use Rattle.nfs_base.specs.declared.job.JobName.{JobName}

-- ---- no length and no landing

abbrev pub is_plain : Deed → Bool
is_plain (deeds.Sizes spare len name) = false
is_plain (deeds.Lands name chunk) = false
is_plain deed = true

abbrev pub plain_entry : Entry → Bool
plain_entry (Sized len) = false
plain_entry (Landed off len) = false
plain_entry entry = true

abbrev pub ArePlain : List Entry → Type 0
ArePlain [] = Unit {0}
ArePlain (entry ∷ more) = (plain_entry entry ≡ true) × ArePlain more

if_plain : (same : Bool) (entry : Entry) → plain_entry entry ≡ true → ArePlain (if same then entry ∷ [] else [])
if_plain true entry is = (is, tt)
if_plain false entry is = tt

by_plain : (name : JobName) (deed : Deed) → is_plain deed ≡ true → ArePlain (entries_by name deed)
by_plain name (deeds.Accepts plan) is = tt
by_plain name (deeds.Sizes spare len job) is = absurd cc
by_plain name (deeds.Claims job) is = tt
by_plain name (deeds.GivesBack job chunk) is = tt
by_plain name (deeds.Lands job chunk) is = absurd cc
by_plain name (deeds.Stops cause job) is = if_plain (is_same job name) Stopped refl
by_plain name (deeds.Commits job) is = if_plain (is_same job name) Committed refl
by_plain name (deeds.Retires job) is = tt

plain_joins : (es fs : List Entry) → ArePlain es → ArePlain fs → ArePlain (es ++ fs)
plain_joins [] fs first second = second
plain_joins (e ∷ es) fs first second = (first.0, plain_joins es fs first.1 second)

pub all_plain : (name : JobName) (all : List Deed) → AreOf is_plain all → ArePlain (entries_in name all)
all_plain name [] are = tt
all_plain name (deed ∷ more) are = plain_joins (entries_by name deed) (entries_in name more) (by_plain name deed are.0) (all_plain name more are.1)

-- deeds that give no entry are such
none_given : (deed : Deed) → entry_in deed ≤ 0 → is_plain deed ≡ true
none_given (deeds.Accepts plan) none = refl
none_given (deeds.Sizes spare len name) none = absurd (omega (arith, none))
none_given (deeds.Claims name) none = refl
none_given (deeds.GivesBack name chunk) none = refl
none_given (deeds.Lands name chunk) none = absurd (omega (arith, none))
none_given (deeds.Stops cause name) none = refl
none_given (deeds.Commits name) none = refl
none_given (deeds.Retires name) none = refl

all_given : (all : List Deed) → sum_by entry_in all ≤ 0 → AreOf is_plain all
all_given [] none = tt
all_given (deed ∷ more) none =
    let both : sum_by entry_in (deed ∷ more) ≡ (0 + entry_in deed) + sum_by entry_in more = sum_by-append entry_in (deed ∷ []) more in
    let sum : entry_in deed + sum_by entry_in more ≤ 0 = omega (arith, both, none) in
    (none_given deed (omega (arith, sum)), all_given more (omega (arith, sum)))

pub within_plain : (accepts : ℕ) (b c : BookView) → GoesWithin accepts 0 b c → GoesBy is_plain b c
within_plain accepts b c goes = record { deeds = goes.deeds; come = goes.come; are = all_given goes.deeds goes.few_entries }

-- ---- jobs end

pub end_entries : (name : JobName) (all : List Deed) → AreOf is_end all → entries_in name all ≡ []
end_entries name [] are = refl
end_entries name (deeds.Accepts plan ∷ more) are = absurd cc
end_entries name (deeds.Sizes spare len job ∷ more) are = absurd cc
end_entries name (deeds.Claims job ∷ more) are = absurd cc
end_entries name (deeds.GivesBack job chunk ∷ more) are = absurd cc
end_entries name (deeds.Lands job chunk ∷ more) are = absurd cc
end_entries name (deeds.Stops cause job ∷ more) are = absurd cc
end_entries name (deeds.Commits job ∷ more) are = absurd cc
end_entries name (deeds.Retires job ∷ more) are = end_entries name more are.1

-- what holds of each job that is there holds of those that are left, and as many numbers were given out
pub record Keeps (P : Job → Type 0) (b c : BookView) : Type 0 where
  pub all : All P b.table.jobs → All P c.table.jobs
  pub made : c.table.made ≡ b.table.made

keeps_same : (P : Job → Type 0) (b c : BookView) → c ≡ b → Keeps P b c
keeps_same P b c same = record {
  all = λ all. subst (λ (x : BookView). All P x.table.jobs) (sym same) all;
  made = ap (λ (x : BookView). x.table.made) same;
}

keeps_joins : (P : Job → Type 0) (b c d : BookView) → Keeps P b c → Keeps P c d → Keeps P b d
keeps_joins P b c d first second = record { all = λ all. second.all (first.all all); made = second.made ∙ first.made }

retired_keeps : (P : Job → Type 0) (name : JobName) (b c : BookView) → c ≡ retired name b → Keeps P b c
retired_keeps P name b c is = record {
  all = λ all. subst (λ (x : BookView). All P x.table.jobs) (sym is) (All-filter (λ job. not (is_job b.table.boot (id_of name) job)) P b.table.jobs all);
  made = ap (λ (x : BookView). x.table.made) is;
}

one_keeps : (P : Job → Type 0) (deed : Deed) (b c : BookView) → is_end deed ≡ true → Does deed b c → Keeps P b c
one_keeps P (deeds.Accepts plan) b c is does = absurd cc
one_keeps P (deeds.Sizes spare len job) b c is does = absurd cc
one_keeps P (deeds.Claims job) b c is does = absurd cc
one_keeps P (deeds.GivesBack job chunk) b c is does = absurd cc
one_keeps P (deeds.Lands job chunk) b c is does = absurd cc
one_keeps P (deeds.Stops cause job) b c is does = absurd cc
one_keeps P (deeds.Commits job) b c is does = absurd cc
one_keeps P (deeds.Retires name) b c is does = retired_keeps P name b c does

pub ends_keep : (P : Job → Type 0) (all : List Deed) (b c : BookView) → Comes all b c → AreOf is_end all → Keeps P b c
unfolding Comes
ends_keep P [] b c come are = keeps_same P b c come
ends_keep P (deed ∷ more) b c come are = keeps_joins P b come.0 c (one_keeps P deed b come.0 are.0 come.1) (ends_keep P more come.0 c come.2 are.1)
