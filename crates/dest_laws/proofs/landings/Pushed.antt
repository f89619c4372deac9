-- Which entry a copy gets, by the deeds of a step.
use Rattle.std.proofs.Common.{◌≡◌, ◌∙◌, inl, inr, ℕ, ◌<◌, Bool, true, false, List, [], ◌∷◌, ◌++◌, length, Option, refl, sym, ap, subst, arith, append-nil}
use Rattle.std.specs.Prelude.{suc}
use Rattle.std.proofs.lemmas.List.{length-append}
use Rattle.copy_model.specs.Job.{Entry}
use Rattle.dest_core.specs.Stepping.{DestState, DestStep}
use Rattle.dest_laws.proofs.landings.Deeds.{ArePlain, all_plain, is_plain, plain_entry}
use Rattle.dest_laws.specs.Histories.Kinds.{GoesBy}
use Rattle.dest_laws.specs.Histories.Linked.{AreLinked, CopyKeeps, GoOn, GotOrRetired, Planned, name_at}
use Rattle.dest_laws.specs.Histories.Seen.{entries_by, entries_if, entries_in}
use Rattle.dest_laws.specs.Own.Going.{jobs_in}
use Rattle.dest_laws.specs.View.Dues.{IsPushed}
use Rattle.dest_laws.specs.View.Steps.{ShowsStep}
use Rattle.dest_laws.specs.View.View.{plan_seen}
use Rattle.dest_tasks.specs.Completing.{Comes, Deed, Does}
use Rattle.job_book.specs.Book.{BookView}
use Rattle.nfs_base.specs.declared.job.JobName.{JobName}
use Rattle.wire_lines.specs.declared.letters.Speaker.{Speaker}
use Rattle.wire_model.specs.Copies.{Job as Copy}
use Rattle.wire_model.specs.Meaning.{Meaning}
use Rattle.wire_model.specs.Spelling.{Spelling}
use Rattle.wire_model.specs.System.{System}
use Rattle.wire_model.specs.Wire.{Executed}

-- the law of histories
abbrev pub KeepsLaw : Type 0
KeepsLaw = (plan_of : Planned) (all : List Deed) (b c : BookView) → Comes all b c → (old new : ℕ → Copy) → AreLinked plan_of b.table old
    → GoOn plan_of b.table c.table old new → (place : ℕ) → place < b.table.made → CopyKeeps (entries_in (name_at c.table.boot place) all) (old place) (new place)

cancel : (xs ys zs : List Entry) → xs ++ ys ≡ xs ++ zs → ys ≡ zs
cancel [] ys zs is = is
cancel (x ∷ xs) ys zs is = let rest : xs ++ ys ≡ xs ++ zs = cc in cancel xs ys zs rest

pub not_longer : {A : Type 0} (es : List Entry) (entry : Entry) → es ≡ es ++ entry ∷ [] → A
not_longer es entry is =
    let lengths : length es ≡ length (es ++ entry ∷ []) = ap (λ (l : List Entry). length l) is in
    absurd (omega (arith, lengths, length-append es (entry ∷ [])))

pub got : (more : List Entry) (old new : Copy) (entry : Entry) → GotOrRetired more old new → new.entries ≡ old.entries ++ entry ∷ [] → more ≡ entry ∷ []
got more old new entry (inl pushed) is = cancel old.entries more (entry ∷ []) (sym pushed ∙ is)
got more old new entry (inr retired) is = not_longer old.entries entry (sym retired.1 ∙ is)

-- in a step that the system shows
pub keeps_in : {M : Type 0} (law : KeepsLaw) (spell : Spelling) (meaning : Meaning) (s : System) (k : ℕ) (took : Option (List ℕ)) (speaker : Speaker) (executed : Option Executed)
    (d : DestState M) (t : DestStep M) → ShowsStep spell meaning s k took speaker executed d t → (all : List Deed) → Comes all (jobs_in d) (jobs_in t.host)
    → (j : ℕ) → j < s.made k → CopyKeeps (entries_in (name_at (jobs_in t.host).table.boot j) all) (s.job k j) (s.job (suc k) j)
keeps_in law spell meaning s k took speaker executed d t shows all come j below =
    law plan_seen all (jobs_in d) (jobs_in t.host) come (λ i. s.job k i) (λ i. s.job (suc k) i) shows.before.linked shows.goes j
    (subst (λ (n : ℕ). j < n) shows.before.made below)

pub pushed_in : {M : Type 0} (law : KeepsLaw) (spell : Spelling) (meaning : Meaning) (s : System) (k : ℕ) (took : Option (List ℕ)) (speaker : Speaker) (executed : Option Executed)
    (d : DestState M) (t : DestStep M) → ShowsStep spell meaning s k took speaker executed d t → (all : List Deed) → Comes all (jobs_in d) (jobs_in t.host)
    → (j : ℕ) (entry : Entry) → IsPushed s k j entry → entries_in (name_at (jobs_in t.host).table.boot j) all ≡ entry ∷ []
pushed_in law spell meaning s k took speaker executed d t shows all come j entry pushed =
    got (entries_in (name_at (jobs_in t.host).table.boot j) all) (s.job k j) (s.job (suc k) j) entry
    (keeps_in law spell meaning s k took speaker executed d t shows all come j pushed.0).entries pushed.1

-- ---- no length and no landing comes by plain deeds

plain_one : (es : List Entry) (entry : Entry) → ArePlain es → es ≡ entry ∷ [] → plain_entry entry ≡ true
plain_one es entry are is = (subst ArePlain is are).0

pub plain_pushes : {M : Type 0} (law : KeepsLaw) (spell : Spelling) (meaning : Meaning) (s : System) (k : ℕ) (took : Option (List ℕ)) (speaker : Speaker) (executed : Option Executed)
    (d : DestState M) (t : DestStep M) → ShowsStep spell meaning s k took speaker executed d t → GoesBy is_plain (jobs_in d) (jobs_in t.host)
    → (j : ℕ) (entry : Entry) → IsPushed s k j entry → plain_entry entry ≡ true
plain_pushes law spell meaning s k took speaker executed d t shows goes j entry pushed =
    let name = name_at (jobs_in t.host).table.boot j in
    plain_one (entries_in name goes.deeds) entry (all_plain name goes.deeds goes.are)
    (pushed_in law spell meaning s k took speaker executed d t shows goes.deeds goes.come j entry pushed)

-- ---- one more deed behind others that give nothing

pub behind_those : (all : List Deed) (deed : Deed) (b c d : BookView) → Comes all b c → Does deed c d → Comes (all ++ deed ∷ []) b d
unfolding Comes
behind_those [] deed b c d come does = (d, subst (λ (x : BookView). Does deed x d) come does, refl)
behind_those (first ∷ more) deed b c d come does = (come.0, come.1, behind_those more deed come.0 c d come.2 does)

nothing_first : (es fs : List Entry) → es ++ fs ≡ [] → (es ≡ []) × (fs ≡ [])
nothing_first [] fs is = (refl, is)
nothing_first (e ∷ es) fs is = absurd cc

pub joined_entries : (name : JobName) (all : List Deed) (deed : Deed) → entries_in name all ≡ [] → entries_in name (all ++ deed ∷ []) ≡ entries_by name deed
joined_entries name [] deed none = append-nil (entries_by name deed)
joined_entries name (first ∷ more) deed none =
    let parts = nothing_first (entries_by name first) (entries_in name more) none in
    ap (λ (es : List Entry). es ++ entries_in name (more ++ deed ∷ [])) parts.0 ∙ joined_entries name more deed parts.1

-- that deed's own entry
pub entry_own : (same : Bool) (entry other : Entry) → entries_if same entry ≡ other ∷ [] → (same ≡ true) × (entry ≡ other)
entry_own true entry other is = (refl, cc)
entry_own false entry other is = absurd cc
