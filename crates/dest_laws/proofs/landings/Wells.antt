-- What a step that writes a chunk, or none, owes for lengths and landings.
use Rattle.std.proofs.Common.{◌≡◌, ◌∙◌, inl, inr, ℕ, ◌+◌, ◌<◌, ◌≤◌, Bool, true, false, List, [], ◌∷◌, ◌++◌, length, Option, Some, None, refl, sym, ap, subst, arith, append-nil}
use Rattle.std.specs.Prelude.{◌^◌, ◌==◌, ◌&&◌, ◌||◌, All, if◌then◌else◌, nat_le, nat_lt, not, suc}
use Rattle.std.proofs.lemmas.Bool.{eq-eqb, eqb-true, false≢true}
use Rattle.copy_model.specs.Effect.{Effect as VolumeEffect, Commits, CommitFails, Crashes, Rests, WriteFails, Writes}
use Rattle.copy_model.specs.Job.{Entry, Landed, Plan as CopyPlan, Sized, has_ended}
use Rattle.copy_model.specs.Marks.{len_of}
use Rattle.copy_model.specs.Volume.{Volume, bytes_at, file_at, write}
use Rattle.dest_core.specs.Stepping.{DestState, DestStep}
use Rattle.dest_jobs.specs.declared.copies.Copies.{Copies}
use Rattle.dest_laws.proofs.landings.Chunks.{TakenBy, TakesChunk, taken_by, takes_chunk, total_len}
use Rattle.dest_laws.proofs.landings.Deeds.{Keeps, end_entries, ends_keep, is_plain}
use Rattle.dest_laws.proofs.landings.Fetched.{IsShownJob, shown_job}
use Rattle.dest_laws.proofs.landings.Notes.{landing_noted}
use Rattle.dest_laws.proofs.landings.Outcomes.{WritesOne, book_at, is_writing}
use Rattle.dest_laws.proofs.landings.Plans.{DeedLaws, a_view}
use Rattle.dest_laws.proofs.landings.Pushed.{KeepsLaw, behind_those, entry_own, joined_entries, keeps_in, plain_pushes, pushed_in}
use Rattle.dest_laws.proofs.landings.Summaries.{IsStep}
use Rattle.dest_laws.proofs.landings.Turns.{AreGiven, IsThere, changed_plan, found_has, there}
use Rattle.dest_laws.proofs.landings.Written.{stands}
use Rattle.dest_laws.specs.Histories.Kinds.{AreOf, GoesBy, is_end}
use Rattle.dest_laws.specs.Histories.Linked.{CopyKeeps, GotOrRetired, IsShown, name_at}
use Rattle.dest_laws.specs.Histories.Seen.{IsGiven, entries_if, entries_in, seen}
use Rattle.dest_laws.specs.Own.Going.{jobs_in}
use Rattle.dest_laws.specs.Landings.TargetLaws.{paired_file, target_there}
use Rattle.dest_laws.specs.View.Dues.{LandsWell}
use Rattle.dest_laws.specs.View.Steps.{ShowsStep, part_by}
use Rattle.dest_laws.specs.View.View.{place_of, plan_seen}
use Rattle.dest_steps.specs.Landing.{paired, target, target_file, target_off}
use Rattle.dest_tasks.specs.Completing as deeds
use Rattle.dest_tasks.specs.Completing.{Comes, Deed, Does}
use Rattle.dest_tasks.specs.Posts.{is_same}
use Rattle.dest_work.specs.Work.{plan_in}
use Rattle.job_book.specs.Book.{BookView, IsSound, id_of, named}
use Rattle.job_book.specs.Working.{with_its}
use Rattle.job_log.specs.Log.{ClaimsAreNew, after_landing}
use Rattle.job_log.specs.declared.chunk.Chunk.{Chunk}
use Rattle.job_log.specs.declared.chunk.Landing.TheVariants as takes
use Rattle.job_table.specs.Table.{is_job}
use Rattle.job_table.specs.declared.job.Job.{Job}
use Rattle.job_table.specs.declared.job.Plan.{Plan}
use Rattle.nfs_base.specs.declared.job.JobName.{JobName}
use Rattle.nfs_base.specs.declared.limits.TheConstants.{DATA_LIMIT}
use Rattle.server_volume.specs.Store.{Store}
use Rattle.wire_lines.specs.declared.letters.Speaker.{Speaker}
use Rattle.wire_machine.specs.History.{Place, deed_by, effect_of, is_call, landing_in}
use Rattle.wire_model.specs.Copies as copies
use Rattle.wire_model.specs.Copies.{Job as Copy, Lands, may_land}
use Rattle.wire_model.specs.CopyLaws.{IsAtHand, IsLanding}
use Rattle.wire_model.specs.Meaning.{Meaning}
use Rattle.wire_model.specs.Spelling.{Spelling}
use Rattle.wire_model.specs.System.{Chunk as Piece, System, dest_effect, plan_at}
use Rattle.wire_model.specs.Wire.{Executed}

-- ---- what is no landing

pub never_lands : {A : Type 0} (call : Bool) (effect : VolumeEffect) (landing : Option Place) (j off : ℕ) (bytes : List ℕ) → is_writing effect ≡ false
    → deed_by call effect landing ≡ Lands j off bytes → A
never_lands true effect landing j off bytes quiet is = absurd cc
never_lands false Rests landing j off bytes quiet is = absurd cc
never_lands false (Writes file at piece) landing j off bytes quiet is = absurd cc
never_lands false (Commits file) landing j off bytes quiet is = absurd cc
never_lands false WriteFails landing j off bytes quiet is = absurd cc
never_lands false (CommitFails file) landing j off bytes quiet is = absurd cc
never_lands false (Crashes under kept) landing j off bytes quiet is = absurd cc

pub call_never : {A : Type 0} (call : Bool) (effect : VolumeEffect) (landing : Option Place) (j off : ℕ) (bytes : List ℕ) → call ≡ true
    → deed_by call effect landing ≡ Lands j off bytes → A
call_never true effect landing j off bytes is lands = absurd cc
call_never false effect landing j off bytes is lands = absurd cc

-- what it is to the volume
pub none_effect : (plan : ℕ → CopyPlan) (call : Bool) (effect : VolumeEffect) (landing : Option Place) → is_writing effect ≡ false
    → copies.effect_of plan (deed_by call effect landing) ≡ effect
none_effect plan true effect landing quiet = refl
none_effect plan false Rests landing quiet = refl
none_effect plan false (Writes file at piece) landing quiet = absurd cc
none_effect plan false (Commits file) landing quiet = refl
none_effect plan false WriteFails landing quiet = refl
none_effect plan false (CommitFails file) landing quiet = refl
none_effect plan false (Crashes under kept) landing quiet = refl

pub call_effect : (plan : ℕ → CopyPlan) (call : Bool) (effect : VolumeEffect) (landing : Option Place) → call ≡ true
    → copies.effect_of plan (deed_by call effect landing) ≡ effect
call_effect plan true effect landing is = refl
call_effect plan false effect landing is = absurd cc

-- ---- where a chunk is written, there is a file, which is the job's

record IsTarget (job : Job) (chunk : Chunk) (got : ℕ × ℕ) : Type 0 where
  file : got.0 ≡ job.plan.file
  off : got.1 ≡ job.plan.dst_off + chunk.off

file_got : (b : Bool) (file got : ℕ) → (if b then None else Some file) ≡ Some got → got ≡ file
file_got true file got is = absurd cc
file_got false file got is = cc

off_got : (b : Bool) (off got : ℕ) → (if b then Some off else None) ≡ Some got → got ≡ off
off_got true off got is = cc
off_got false off got is = absurd cc

paired_off : (file off : Option ℕ) (got : ℕ × ℕ) → paired file off ≡ Some got → off ≡ Some got.1
paired_off None off got is = absurd cc
paired_off (Some file) None got is = absurd cc
paired_off (Some file) (Some off) got is = let same : (file, off) ≡ got = cc in ap (λ (p : ℕ × ℕ). Some p.1) same

target_by : (b : Bool) (s : Store) (chunk : Chunk) (job : Job) (got : ℕ × ℕ) → (if b then None else paired (target_file s (Some job)) (target_off chunk (Some job))) ≡ Some got
    → IsTarget job chunk got
target_by true s chunk job got is = absurd cc
target_by false s chunk job got is = record {
  file = file_got ((job.plan.file == 0) || nat_le (length s.volume.files) job.plan.file) job.plan.file got.0 (paired_file (target_file s (Some job)) (target_off chunk (Some job)) got is);
  off = off_got (nat_lt (job.plan.dst_off + chunk.off) (2 ^ 64)) (job.plan.dst_off + chunk.off) got.1 (paired_off (target_file s (Some job)) (target_off chunk (Some job)) got is);
}

target_is : (s : Store) (chunk : Chunk) (len : ℕ) (o : Option Job) (job : Job) (got : ℕ × ℕ) → o ≡ Some job → target s chunk len o ≡ Some got → IsTarget job chunk got
target_is s chunk len o job got same is =
    target_by (nat_lt DATA_LIMIT len) s chunk job got (subst (λ (x : Option Job). target s chunk len x ≡ Some got) same is)

-- ---- no chunk is written, and no job gets a length or a landing

module _ {M : Type 0} (law : KeepsLaw) (spell : Spelling) (meaning : Meaning) (s : System) (k : ℕ) (took : Option (List ℕ)) (speaker : Speaker) (executed : Option Executed)
    (d : DestState M) (t : DestStep M) (shows : ShowsStep spell meaning s k took speaker executed d t) where
  pub plain_lands_well : GoesBy is_plain (jobs_in d) (jobs_in t.host) → LandsWell spell meaning s k
  plain_lands_well goes = record {
    sizes = λ j len pushed. absurd (false≢true (plain_pushes law spell meaning s k took speaker executed d t shows goes j (Sized len) pushed));
    lands = λ j off len pushed. absurd (false≢true (plain_pushes law spell meaning s k took speaker executed d t shows goes j (Landed off len) pushed));
  }

  pub none_lands : ((v : Volume) → is_writing (effect_of v t.out.used) ≡ false) → (j off : ℕ) (bytes : List ℕ) → s.deed k ≡ Lands j off bytes → IsLanding spell meaning s k j off bytes
  none_lands quiet j off bytes is =
      let v = t.host.state.machine.store.volume in
      never_lands (is_call (part_by took speaker t)) (effect_of v t.out.used) (landing_in t.out.notes) j off bytes (quiet v) (sym shows.deed ∙ is)

  pub calls_land : is_call (part_by took speaker t) ≡ true → (j off : ℕ) (bytes : List ℕ) → s.deed k ≡ Lands j off bytes → IsLanding spell meaning s k j off bytes
  calls_land call j off bytes is =
      let v = t.host.state.machine.store.volume in
      call_never (is_call (part_by took speaker t)) (effect_of v t.out.used) (landing_in t.out.notes) j off bytes call (sym shows.deed ∙ is)

  pub none_is : ((v : Volume) → is_writing (effect_of v t.out.used) ≡ false) → dest_effect s k ≡ effect_of t.host.state.machine.store.volume t.out.used
  none_is quiet =
      let v = t.host.state.machine.store.volume in
      ap (copies.effect_of (plan_at s k)) shows.deed
      ∙ none_effect (plan_at s k) (is_call (part_by took speaker t)) (effect_of v t.out.used) (landing_in t.out.notes) (quiet v)

  pub call_is : is_call (part_by took speaker t) ≡ true → dest_effect s k ≡ effect_of t.host.state.machine.store.volume t.out.used
  call_is call =
      let v = t.host.state.machine.store.volume in
      ap (copies.effect_of (plan_at s k)) shows.deed
      ∙ call_effect (plan_at s k) (is_call (part_by took speaker t)) (effect_of v t.out.used) (landing_in t.out.notes) call

-- ---- a chunk is written, and lands

same_self : (name : JobName) → is_same name name ≡ true
same_self name =
    ap (λ (b : Bool). b && (name.number == name.number)) (eq-eqb name.boot name.boot refl) ∙ eq-eqb name.number name.number refl

named_by : (job name : JobName) (a b : Bool) → (job.boot == name.boot) ≡ a → (job.number == name.number) ≡ b → (a && b) ≡ true → job ≡ name
named_by job name true true boots numbers is =
    let boot = eqb-true job.boot name.boot boots in
    let number = eqb-true job.number name.number numbers in
    ap (λ (b : ℕ). let n : JobName = record { boot = b; number = job.number } in n) boot ∙ ap (λ (m : ℕ). let n : JobName = record { boot = name.boot; number = m } in n) number
named_by job name true false boots numbers is = absurd cc
named_by job name false b boots numbers is = absurd cc

pub same_names : (job name : JobName) → is_same job name ≡ true → job ≡ name
same_names job name is = named_by job name (job.boot == name.boot) (job.number == name.number) refl refl is

-- a job that is there after jobs ended was there with the same entries
record WasThere (b : BookView) (name : JobName) (now : Job) : Type 0 where
  job : Job
  there : named b.table name ≡ Some job
  plan : now.plan ≡ job.plan
  entries : now.log.entries ≡ job.log.entries

was_there : (laws : DeedLaws) (all : List Deed) (b c : BookView) (name : JobName) (now : Job) (o : Option Job) → Comes all b c → AreOf is_end all → IsGiven b.table name
    → named b.table name ≡ o → named c.table name ≡ Some now → WasThere b name now
was_there laws all b c name now None come are given was is =
    let none = laws.gone all b c name come given (ap seen was) in
    let both : None ≡ Some (a_view now) = sym none ∙ ap seen is in
    absurd cc
was_there laws all b c name now (Some job) come are given was is =
    let g = laws.grows all b c name (a_view job) (a_view now) come given (ap seen was) (ap seen is) in
    record { job = job; there = was; plan = g.plan; entries = g.entries ∙ (ap (λ (es : List Entry). job.log.entries ++ es) (end_entries name all are) ∙ append-nil job.log.entries) }

live_by : (ended retired lost : Bool) → ended ≡ false → retired ≡ false → lost ≡ false → (not ended && (not retired && not lost)) ≡ true
live_by false false false e r l = refl
live_by true retired lost e r l = absurd cc
live_by false true lost e r l = absurd cc
live_by false false true e r l = absurd cc

pub is_live_copy : (s : System) (k j : ℕ) → has_ended (s.job k j).entries ≡ false → (s.job k j).retired ≡ false → (s.job k j).lost ≡ false → may_land (s.job k j) ≡ true
is_live_copy s k j e r l = live_by (has_ended (s.job k j).entries) (s.job k j).retired (s.job k j).lost e r l

unretired_in : (o : Option Job) (plan : Plan) (copy : Copy) → plan_in o ≡ Some plan → IsShown plan_seen (seen o) copy → copy.retired ≡ false
unretired_in None plan copy is shown = absurd cc
unretired_in (Some job) plan copy is shown = shown.0

entries_of : (more : List Entry) (old new : Copy) → new.retired ≡ false → GotOrRetired more old new → new.entries ≡ old.entries ++ more
entries_of more old new live (inl got) = got
entries_of more old new live (inr retired) = absurd (false≢true (sym live ∙ retired.0))

-- the chunk as a system has it
abbrev pub piece_of : JobName → Chunk → List ℕ → Piece
piece_of job chunk bytes = record { copy = place_of job; off = chunk.off; bytes = bytes }

module _ {M : Type 0} (law : KeepsLaw) (laws : DeedLaws) (spell : Spelling) (meaning : Meaning) (s : System) (k : ℕ) (took : Option (List ℕ)) (speaker : Speaker) (executed : Option Executed)
    (d : DestState M) (t : DestStep M) (shows : ShowsStep spell meaning s k took speaker executed d t) (P : JobName → Chunk → List ℕ → Type 0) (step : IsStep P d t)
    (sound : IsSound (jobs_in d).table) (worker : is_call (part_by took speaker t) ≡ false)
    (job : JobName) (chunk : Chunk) (bytes : List ℕ) (held : P job chunk bytes) (w : WritesOne job chunk bytes step.first step.last)
    (at_hand : (plan : Plan) → plan_in (named (jobs_in d).table job) ≡ Some plan → IsAtHand spell meaning s k (piece_of job chunk bytes)) (whole : length bytes ≡ chunk.len) where
  abbrev before : BookView
  before = jobs_in d

  abbrev middle : BookView
  middle = book_at step.first

  abbrev after : BookView
  after = jobs_in t.host

  ends : GoesBy is_end before middle
  ends = step.ends job chunk bytes held

  abbrev all : List Deed
  all = ends.deeds ++ deeds.Lands job chunk ∷ []

  is_after : after ≡ with_its job (λ log. after_landing log chunk takes.Landed) middle
  is_after = step.book ∙ ap (λ (c : Copies). c.book) w.copies

  come : Comes all before after
  come = behind_those ends.deeds (deeds.Lands job chunk) before middle after ends.come (w.takes_it, is_after)

  given_by : (name : JobName) → entries_in name all ≡ entries_if (is_same job name) (Landed chunk.off chunk.len)
  given_by name = joined_entries name ends.deeds (deeds.Lands job chunk) (end_entries name ends.deeds ends.are)

  -- the job: in the middle, and before
  taken : TakenBy middle.table job chunk
  taken = taken_by middle.table job chunk w.takes_it

  kept_given : Keeps (λ (job : Job). (0 < job.number) × (job.number ≤ before.table.made)) before middle
  kept_given = ends_keep (λ (job : Job). (0 < job.number) × (job.number ≤ before.table.made)) ends.deeds before middle ends.come ends.are

  middle_given : AreGiven middle.table
  middle_given = subst (λ (n : ℕ). All (λ (job : Job). (0 < job.number) × (job.number ≤ n)) middle.table.jobs) (sym kept_given.made) (kept_given.all sound.given)

  in_middle : IsThere middle.table job taken.job
  in_middle = there middle.table job taken.job middle_given taken.there

  given : IsGiven before.table job
  given = subst (λ (n : ℕ). job.number ≤ n) kept_given.made in_middle.given

  was : WasThere before job taken.job
  was = was_there laws ends.deeds before middle job taken.job (named before.table job) ends.come ends.are given refl taken.there

  shown : IsShownJob s k before.table job was.job
  shown = shown_job s k before.table job was.job sound.given shows.before.linked was.there

  takes_it : TakesChunk taken.job.log chunk
  takes_it =
      let new = ends_keep (λ (job : Job). ClaimsAreNew job.log) ends.deeds before middle ends.come ends.are in
      takes_chunk taken.job.log chunk
      (found_has (is_job middle.table.boot (id_of job)) (λ (job : Job). ClaimsAreNew job.log) middle.table.jobs taken.job (new.all sound.claims) taken.there).0 taken.lands

  abbrev place : ℕ
  place = place_of job

  below : place < s.made k
  below = subst (λ (n : ℕ). place < n) (sym shows.before.made) shown.below

  same_boot : after.table.boot ≡ before.table.boot
  same_boot = (laws.later all before after come).boot

  named_so : name_at after.table.boot place ≡ job
  named_so = ap (λ (b : ℕ). name_at b place) same_boot ∙ shown.named_at

  keeps : CopyKeeps (entries_in (name_at after.table.boot place) all) (s.job k place) (s.job (suc k) place)
  keeps = keeps_in law spell meaning s k took speaker executed d t shows all come place below

  gets : entries_in (name_at after.table.boot place) all ≡ Landed chunk.off (length bytes) ∷ []
  gets =
      ap (λ (n : JobName). entries_in n all) named_so
      ∙ (given_by job ∙ (ap (λ (b : Bool). entries_if b (Landed chunk.off chunk.len)) (same_self job) ∙ ap (λ (n : ℕ). Landed chunk.off n ∷ []) (sym whole)))

  -- it is there afterwards
  planned : plan_in (named after.table job) ≡ Some taken.job.plan
  planned =
      ap (λ (b : BookView). plan_in (named b.table job)) is_after
      ∙ (changed_plan (is_job middle.table.boot (id_of job)) (λ (j : Job). record j { log = after_landing j.log chunk takes.Landed }) middle.table.jobs (λ x. refl) (λ x. refl)
      ∙ ap plan_in taken.there)

  unretired : (s.job (suc k) place).retired ≡ false
  unretired =
      let made : place < after.table.made = let m = (laws.later all before after come).made in let n = shown.below in omega (arith, m, n) in
      unretired_in (named after.table (name_at after.table.boot place)) taken.job.plan (s.job (suc k) place)
      (ap (λ (n : JobName). plan_in (named after.table n)) named_so ∙ planned) (shows.after.linked place made)

  same_made : s.made (suc k) ≡ s.made k
  same_made =
      shows.after.made ∙ (ap (λ (b : BookView). b.table.made) is_after ∙ (kept_given.made ∙ sym shows.before.made))

  abbrev volume : Volume
  volume = t.host.state.machine.store.volume

  is_volume : volume ≡ write step.first.store.volume w.file w.off bytes
  is_volume = step.volume ∙ ap (λ (x : Store). x.volume) w.store

  effect_is : effect_of volume t.out.used ≡ Writes w.file w.off bytes
  effect_is =
      ap (effect_of volume) (step.used ∙ w.used)
      ∙ ap (λ (b : List ℕ). Writes w.file w.off b)
      (ap (λ (v : Volume). bytes_at (file_at v w.file).now w.off (length bytes)) is_volume
      ∙ stands step.first.store.volume w.file w.off bytes (target_there step.first.store chunk (length bytes) (named middle.table job) (w.file, w.off) w.to))

  noted_is : landing_in t.out.notes ≡ Some (record { job = job; off = chunk.off })
  noted_is =
      ap landing_in (step.notes ∙ ap (λ (c : Copies). c.told) w.copies) ∙ landing_noted step.first.copier.copies.told job chunk.off chunk.len step.quiet

  deed_is : s.deed k ≡ Lands place chunk.off bytes
  deed_is =
      shows.deed
      ∙ (ap (λ (b : Bool). deed_by b (effect_of volume t.out.used) (landing_in t.out.notes)) worker
      ∙ (ap (λ (e : VolumeEffect). deed_by false e (landing_in t.out.notes)) effect_is
      ∙ ap (λ (o : Option Place). deed_by false (Writes w.file w.off bytes) o) noted_is))

  -- what it is to the volume
  pub landing_is : dest_effect s k ≡ effect_of volume t.out.used
  landing_is =
      let to = target_is step.first.store chunk (length bytes) (named middle.table job) taken.job (w.file, w.off) taken.there w.to in
      let planned : plan_at s k place ≡ plan_seen taken.job.plan = shown.plan ∙ ap plan_seen (sym was.plan) in
      let here : Writes (plan_at s k place).dst_file ((plan_at s k place).dst_off + chunk.off) bytes ≡ Writes taken.job.plan.file (taken.job.plan.dst_off + chunk.off) bytes
      = ap (λ (p : CopyPlan). Writes p.dst_file (p.dst_off + chunk.off) bytes) planned in
      let there_too : Writes taken.job.plan.file (taken.job.plan.dst_off + chunk.off) bytes ≡ Writes w.file w.off bytes
      = ap (λ (f : ℕ). Writes f (taken.job.plan.dst_off + chunk.off) bytes) (sym to.file) ∙ ap (λ (o : ℕ). Writes w.file o bytes) (sym to.off) in
      ap (copies.effect_of (plan_at s k)) deed_is ∙ (here ∙ (there_too ∙ sym effect_is))

  pub is_landing : IsLanding spell meaning s k place chunk.off bytes
  is_landing = record {
    there = below;
    live = is_live_copy s k place (ap has_ended shown.entries ∙ (ap has_ended (sym was.entries) ∙ takes_it.running)) shown.unretired (shows.before.unlost place);
    none_new = same_made;
    within =
        let len : len_of (s.job k place).entries ≡ len_of taken.job.log.entries = ap len_of (shown.entries ∙ sym was.entries) in
        let all_len = total_len taken.job.log.entries in
        let ends_at = takes_it.within in
        let w = whole in
        omega (arith, len, all_len, ends_at, w);
    entry = entries_of (entries_in (name_at after.table.boot place) all) (s.job k place) (s.job (suc k) place) unretired keeps.entries
        ∙ ap (λ (es : List Entry). (s.job k place).entries ++ es) gets;
    at_hand = at_hand was.job.plan (ap plan_in was.there);
  }

  pub landing_lands : (j off : ℕ) (piece : List ℕ) → s.deed k ≡ Lands j off piece → IsLanding spell meaning s k j off piece
  landing_lands j off piece is =
      let both : Lands place chunk.off bytes ≡ Lands j off piece = sym deed_is ∙ is in
      let same_j : place ≡ j = cc in
      let same_off : chunk.off ≡ off = cc in
      let same_piece : bytes ≡ piece = cc in
      subst (λ (b : List ℕ). IsLanding spell meaning s k j off b) same_piece
      (subst (λ (o : ℕ). IsLanding spell meaning s k j o bytes) same_off (subst (λ (i : ℕ). IsLanding spell meaning s k i chunk.off bytes) same_j is_landing))

  pub landing_lands_well : LandsWell spell meaning s k
  landing_lands_well = record {
    sizes = λ j len pushed.
        let name = name_at after.table.boot j in
        let own = entry_own (is_same job name) (Landed chunk.off chunk.len) (Sized len)
        (sym (given_by name) ∙ pushed_in law spell meaning s k took speaker executed d t shows all come j (Sized len) pushed) in
        let different = own.1 in
        absurd cc;
    lands = λ j off len pushed.
        let name = name_at after.table.boot j in
        let own = entry_own (is_same job name) (Landed chunk.off chunk.len) (Landed off len)
        (sym (given_by name) ∙ pushed_in law spell meaning s k took speaker executed d t shows all come j (Landed off len) pushed) in
        let same = own.1 in
        let same_off : chunk.off ≡ off = cc in
        let same_len : chunk.len ≡ len = cc in
        let same_name : job ≡ name = same_names job name own.0 in
        let number : job.number ≡ j + 1 = ap (λ (n : JobName). n.number) same_name in
        let same_j : place ≡ j = omega (arith, number) in
        (bytes, deed_is ∙ (ap (λ (i : ℕ). Lands i chunk.off bytes) same_j ∙ ap (λ (o : ℕ). Lands j o bytes) same_off), whole ∙ same_len);
  }
