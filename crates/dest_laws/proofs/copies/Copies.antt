-- The laws of a destination's copies.
use Rattle.std.proofs.Common.{◌≡◌, ◌⊎◌, inl, inr, ⊎_elim, ℕ, suc, ◌+◌, ◌<◌, ◌≤◌, Bool, true, false, List, [], ◌∷◌, Option, Some, None, refl, sym, ap, subst, ◌∙◌, arith}
use Rattle.std.proofs.lemmas.Bool.{cases_Bool, cases_lt, ltb-true, or_left}
use Rattle.std.specs.Prelude.{◌&&◌, not}
use Rattle.copy_model.specs.Effect as effects
use Rattle.copy_model.specs.Effect.{Effect, IsCrashOf}
use Rattle.copy_model.specs.Job.{Allows, Committed, Entry, Landed, Plan as CopyPlan, Reported, Sized, Stopped, has_ended, size_of}
use Rattle.copy_model.specs.Marks.{is_committed, len_of}
use Rattle.copy_model.specs.Volume.{Volume}
use Rattle.dest_core.specs.Stepping.{DestState, DestStep}
use Rattle.dest_laws.proofs.copies.Found.{are_apart, job_of_seen}
use Rattle.dest_laws.specs.Copies.GivenLaws.{was_committed}
use Rattle.dest_laws.proofs.copies.Goes.{DeedLaws, Grew, begins_blank, goes_later, grows, is_allowed, is_given, keeps, now_shown, wasnt_there}
use Rattle.dest_laws.proofs.copies.Rooms.{room_retired, room_running, within_range}
use Rattle.dest_laws.specs.Copies.Story.{IsCommitted, Story}
use Rattle.dest_laws.specs.Histories.Linked.{IsShown, name_at}
use Rattle.dest_laws.specs.Histories.Seen.{Seen, seen, seen_in}
use Rattle.dest_laws.specs.Own.Going.{jobs_in}
use Rattle.dest_laws.specs.View.Dues.{AreSafe, HoldsWell, IsPushed, LandsWell, ReachesWithin}
use Rattle.dest_laws.specs.View.Steps.{ShowsStep, part_by}
use Rattle.dest_laws.specs.View.View.{plan_seen, room_by, room_of}
use Rattle.job_book.specs.Book.{BookView, IsSound, named}
use Rattle.job_table.specs.Table.{JobTable, is_live, job_end}
use Rattle.job_table.specs.declared.job.Job.{Job}
use Rattle.job_table.specs.declared.job.Plan.{Plan}
use Rattle.nfs_base.specs.declared.job.JobName.{JobName}
use Rattle.server_volume.specs.declared.used.CallAnswer.{CallAnswer}
use Rattle.server_volume.specs.declared.used.CallAnswer.TheVariants as answers
use Rattle.server_volume.specs.declared.used.Used.{Used}
use Rattle.server_volume.specs.declared.used.VolumeCall.TheVariants as calls
use Rattle.server_volume.specs.declared.used.VolumeCall.{VolumeCall}
use Rattle.wire_lines.specs.declared.letters.Speaker.{Speaker}
use Rattle.wire_machine.specs.History.{Place, deed_by, effect_by, effect_of, is_call, landing_in, no_job}
use Rattle.wire_model.specs.Copies as does
use Rattle.wire_model.specs.Copies.{Deed, IsBlank, Job as Copy, effect_of as effect_on, is_safe, may_land}
use Rattle.wire_model.specs.CopyLaws.{AreApart, CopiesLaws, Enters, IsDue, KeepsMarks}
use Rattle.wire_model.specs.Meaning.{Meaning}
use Rattle.wire_model.specs.Spelling.{Spelling}
use Rattle.wire_model.specs.System.{System, plan_at}
use Rattle.wire_model.specs.Wire.{Caller, Executed, ForJob}

-- ---- a copy may land

lands_if : (ended retired lost : Bool) → ended ≡ false → retired ≡ false → lost ≡ false → (not ended && (not retired && not lost)) ≡ true
lands_if false false false e r l = refl
lands_if true retired lost e r l = absurd (cc)
lands_if false true lost e r l = absurd (cc)
lands_if false false true e r l = absurd (cc)

record Live (ended retired lost : Bool) : Type 0 where
  going : ended ≡ false
  here : retired ≡ false

live_if : (ended retired lost : Bool) → (not ended && (not retired && not lost)) ≡ true → Live ended retired lost
live_if false false lost is = record { going = refl; here = refl }
live_if false true lost is = absurd (cc)
live_if true retired lost is = absurd (cc)

-- ---- no step of a destination is a crash

no_crash_by : (v : Volume) (call : VolumeCall) (answer : CallAnswer) → IsCrashOf (effect_by v call answer) → ⊥
no_crash_by v (calls.Read file off len) answers.Done crash = crash
no_crash_by v (calls.Read file off len) answers.DiskFailed crash = crash
no_crash_by v (calls.Read file off len) answers.Refused crash = crash
no_crash_by v (calls.Write file off len) answers.Done crash = crash
no_crash_by v (calls.Write file off len) answers.DiskFailed crash = crash
no_crash_by v (calls.Write file off len) answers.Refused crash = crash
no_crash_by v (calls.Commit file home) answers.Done crash = crash
no_crash_by v (calls.Commit file home) answers.DiskFailed crash = crash
no_crash_by v (calls.Commit file home) answers.Refused crash = crash

no_crash_of : (v : Volume) (used : List Used) → IsCrashOf (effect_of v used) → ⊥
no_crash_of v [] crash = crash
no_crash_of v (used ∷ more) crash = no_crash_by v used.call used.answer crash

no_crash_in : (plan : ℕ → CopyPlan) (call : Bool) (effect : Effect) (landing : Option Place) → (IsCrashOf effect → ⊥)
    → IsCrashOf (effect_on plan (deed_by call effect landing)) → ⊥
no_crash_in plan true effect landing none crash = none crash
no_crash_in plan false effects.Rests landing none crash = crash
no_crash_in plan false (effects.Writes file off bytes) (Some place) none crash = crash
no_crash_in plan false (effects.Writes file off bytes) None none crash = crash
no_crash_in plan false (effects.Commits file) landing none crash = crash
no_crash_in plan false effects.WriteFails landing none crash = crash
no_crash_in plan false (effects.CommitFails file) landing none crash = crash
no_crash_in plan false (effects.Crashes under kept) landing none crash = none tt

-- a commit is what it is, whoever asked for it
commit_deed : (call : Bool) (file : ℕ) (landing : Option Place) → deed_by call (effects.Commits file) landing ≡ does.Plain (effects.Commits file)
commit_deed true file landing = refl
commit_deed false file landing = refl

-- ---- two jobs that run are apart as far as their copies reach

shown_there : (after : Option Seen) (copy : Copy) → IsShown plan_seen after copy → copy.retired ≡ false → (n : Seen) × (after ≡ Some n) × (copy.plan ≡ plan_seen n.plan) × (copy.entries ≡ n.entries)
shown_there None copy shown runs = absurd (cc)
shown_there (Some n) copy shown runs = (n, refl, shown.1, shown.2)

-- a job that runs, and how far its copy reaches
record Reaching (t : JobTable) (name : JobName) (copy : Copy) (reach : ℕ) : Type 0 where
  job : Job
  there : named t name ≡ Some job
  file : copy.plan.dst_file ≡ job.plan.file
  runs : is_live job ≡ true
  covers : (place : ℕ) → copy.plan.dst_off ≤ place → place < copy.plan.dst_off + reach → (job.plan.dst_off ≤ place) × (place < job_end t.capacity job)

reaching : (t : JobTable) (name : JobName) (copy : Copy) (reach : ℕ) → IsShown plan_seen (seen_in t name) copy → copy.retired ≡ false → has_ended copy.entries ≡ false
    → reach ≤ room_of t.capacity copy → Reaching t name copy reach
reaching t name copy reach shown here going less =
    let there = shown_there (seen_in t name) copy shown here in
    let n = there.0 in
    let found = job_of_seen (named t name) n there.1 in
    let job = found.job in
    let plan : copy.plan ≡ plan_seen job.plan = there.2 ∙ ap plan_seen (sym found.plan) in
    let entries : copy.entries ≡ job.log.entries = there.3 ∙ sym found.entries in
    let off : copy.plan.dst_off ≡ job.plan.dst_off = ap (λ (p : CopyPlan). p.dst_off) plan in
    let room : room_of t.capacity copy ≡ room_by t.capacity (plan_seen job.plan) (size_of job.log.entries) =
    room_running t.capacity copy here ∙ ap (λ (p : CopyPlan). room_by t.capacity p (size_of copy.entries)) plan
    ∙ ap (λ (es : List Entry). room_by t.capacity (plan_seen job.plan) (size_of es)) entries in
    record {
      job = job;
      there = found.there;
      file = ap (λ (p : CopyPlan). p.dst_file) plan;
      runs = ap (λ (es : List Entry). not (has_ended es)) (sym entries) ∙ ap not going;
      covers = λ place low high. (
        omega (arith, off, low),
        within_range job.plan (size_of job.log.entries) t.capacity reach place (subst (λ (m : ℕ). reach ≤ m) room less) (omega (arith, off, low)) (omega (arith, off, high)),
      );
    }

-- ---- of a system that shows the step

module _ {M : Type 0} (laws : DeedLaws) (spell : Spelling) (meaning : Meaning) (s : System) (k : ℕ) (took : Option (List ℕ)) (speaker : Speaker)
    (executed : Option Executed) (d : DestState M) (t : DestStep M) (shows : ShowsStep spell meaning s k took speaker executed d t)
    (story : Story (jobs_in d) (jobs_in t.host) t.out.used) (was_sound : IsSound (jobs_in d).table) (sound : IsSound (jobs_in t.host).table) where
  abbrev b : BookView
  b = jobs_in d

  abbrev c : BookView
  c = jobs_in t.host

  abbrev name : ℕ → JobName
  name j = name_at b.table.boot j

  made_is : s.made k ≡ b.table.made
  made_is = shows.before.made

  made_then : s.made (suc k) ≡ c.table.made
  made_then = shows.after.made

  is_later : b.table.made ≤ c.table.made
  is_later = (goes_later laws spell meaning s k took speaker executed d t shows story).made

  there_before : (j : ℕ) → j < s.made k → j < b.table.made
  there_before j there = let e = made_is in omega (arith, e, there)

  -- ---- an entry is due

  committed_deed : (j : ℕ) → (g : Grew b c t.out.used (name j) (s.job k j) (s.job (suc k) j)) → j < b.table.made
      → IsCommitted b (name j) t.out.used → s.deed k ≡ does.Plain (effects.Commits (plan_at s k j).dst_file)
  committed_deed j g there committed =
      let was = committed.there in
      let v = t.host.state.machine.store.volume in
      let part = part_by took speaker t in
      let m : Seen = record { plan = was.job.plan; entries = was.job.log.entries } in
      let found : seen_in was.book.table (name j) ≡ Some m = ap seen was.found in
      let grown = laws.grows was.come.0 b was.book (name j) g.old m was.come.1 (is_given laws spell meaning s k took speaker executed d t shows story j there) g.was_seen found in
      let file : was.job.plan.file ≡ (plan_at s k j).dst_file = ap (λ (p : Plan). p.file) grown.plan ∙ sym (ap (λ (p : CopyPlan). p.dst_file) g.plan) in
      shows.deed ∙ ap (λ (e : Effect). deed_by (is_call part) e (landing_in part.out.notes)) (committed.call v)
      ∙ commit_deed (is_call part) was.job.plan.file (landing_in part.out.notes) ∙ ap (λ (f : ℕ). does.Plain (effects.Commits f)) file

  module _ (comes : LandsWell spell meaning s k) where
    due_by : (j : ℕ) → (g : Grew b c t.out.used (name j) (s.job k j) (s.job (suc k) j)) → j < b.table.made → (entry : Entry) → IsPushed s k j entry
        → Allows (plan_at s k j).consecutive (s.job k j).entries entry → g.entry ≡ entry → IsDue spell meaning s k j entry
    due_by j g there (Sized len) pushed allowed is = comes.sizes j len pushed
    due_by j g there (Landed off len) pushed allowed is = comes.lands j off len pushed
    due_by j g there Stopped pushed allowed is =
        lands_if (has_ended (s.job k j).entries) (s.job k j).retired (s.job k j).lost allowed g.ran (shows.before.unlost j)
    due_by j g there Committed pushed allowed is = (
      lands_if (has_ended (s.job k j).entries) (s.job k j).retired (s.job k j).lost allowed.1 g.ran (shows.before.unlost j),
      committed_deed j g there (was_committed b t.out.used (name j) c g.goes (g.gives ∙ ap (λ (e : Entry). e ∷ []) is)),
    )
    due_by j g there Reported pushed allowed is = tt

    enters : (j : ℕ) → j < s.made k → Grew b c t.out.used (name j) (s.job k j) (s.job (suc k) j) → Enters spell meaning s k j
    enters j there g =
        let allowed = is_allowed laws b c t.out.used story (name j) (s.job k j) (s.job (suc k) j) sound g in
        record { entry = g.entry; pushed = g.pushed; allowed = allowed; due = due_by j g (there_before j there) g.entry (there, g.pushed) allowed refl }

    entries_go : (j : ℕ) → j < s.made k → ((s.job (suc k) j).entries ≡ (s.job k j).entries) ⊎ Enters spell meaning s k j
    entries_go j there =
        ⊎_elim (λ (same : (s.job (suc k) j).entries ≡ (s.job k j).entries). inl same)
        (λ (g : Grew b c t.out.used (name j) (s.job k j) (s.job (suc k) j)). inr (enters j there g))
        (grows laws spell meaning s k took speaker executed d t shows story j (there_before j there))

  -- ---- a copy that is new, or isn't there yet

  none_yet : (j : ℕ) → c.table.made ≤ j → s.job (suc k) j ≡ no_job
  none_yet j above = shows.after.none_yet j above

  blank_entries : (j : ℕ) → s.made k ≤ j → (s.job (suc k) j).entries ≡ []
  blank_entries j new =
      let above = wasnt_there laws spell meaning s k took speaker executed d t shows story j new in
      ⊎_elim (λ (there : j < c.table.made). begins_blank laws spell meaning s k took speaker executed d t shows story j was_sound above there)
      (λ (past : c.table.made ≤ j). ap (λ (x : Copy). x.entries) (none_yet j past)) (cases_lt j c.table.made)

  unsafe_if : (j : ℕ) → AreSafe s (suc k) → (s.job (suc k) j).entries ≡ [] → (stable : Bool) → (s.job (suc k) j).stable ≡ stable → stable ≡ false
  unsafe_if j safe blank true is =
      let up = safe j is in
      let none : is_safe (s.job (suc k) j) ≡ false = ap is_committed blank in
      absurd (cc)
  unsafe_if j safe blank false is = refl

  begins : AreSafe s (suc k) → (j : ℕ) → s.made k ≤ j → IsBlank (s.job (suc k) j)
  begins safe j new =
      let blank = blank_entries j new in
      record { entries = blank; stable = unsafe_if j safe blank (s.job (suc k) j).stable refl }

  -- ---- marks

  stays_stable : (j : ℕ) → j < c.table.made → (s.job k j).stable ≡ true → (s.job (suc k) j).stable ≡ true
  stays_stable j there up = shows.marked j there ∙ or_left (s.job k j).stable _ up

  marks_stay : (j : ℕ) → j < s.made k → KeepsMarks (s.job k j) (s.job (suc k) j)
  marks_stay j there =
      let early = there_before j there in
      let kept = keeps laws spell meaning s k took speaker executed d t shows story j early in
      record {
        retired = kept.retired;
        lost = λ up. kept.lost ∙ up;
        stable = stays_stable j (let more = is_later in omega (arith, more, early));
      }

  -- ---- rooms

  module _ (within : ReachesWithin s (suc k) c.table.capacity) where
    shown_then : (j : ℕ) → j < c.table.made → IsShown plan_seen (seen_in c.table (name j)) (s.job (suc k) j)
    shown_then j there = now_shown laws spell meaning s k took speaker executed d t shows story j there

    reaches : (j : ℕ) → j < s.made (suc k) → (s.job (suc k) j).retired ≡ false → has_ended (s.job (suc k) j).entries ≡ false
        → Reaching c.table (name j) (s.job (suc k) j) (s.reach j)
    reaches j there here going =
        reaching c.table (name j) (s.job (suc k) j) (s.reach j) (shown_then j (let e = made_then in omega (arith, e, there))) here going (within j there).1

    -- a copy that is retired in the step takes no room
    no_room : (l : ℕ) → s.made k ≤ l → l < s.made (suc k) → (s.job (suc k) l).retired ≡ true → s.reach l ≤ 0
    no_room l new there gone =
        let blank = blank_entries l new in
        let less = (within l there).1 in
        let room : room_of c.table.capacity (s.job (suc k) l) ≡ 0 = room_retired c.table.capacity (s.job (suc k) l) gone ∙ ap len_of blank in
        omega (arith, less, room)

    apart_if : (j l : ℕ) → j < l → s.made k ≤ l → l < s.made (suc k) → may_land (s.job (suc k) j) ≡ true
        → (plan_at s (suc k) l).dst_file ≡ (plan_at s (suc k) j).dst_file → ((s.job (suc k) l).retired ≡ true) ⊎ ((s.job (suc k) l).retired ≡ false)
        → AreApart s (suc k) j l
    apart_if j l less new there lands file (inl gone) place low high low' high' =
        let none = no_room l new there gone in omega (arith, none, low', high')
    apart_if j l less new there lands file (inr here) place low high low' high' =
        let live = live_if (has_ended (s.job (suc k) j).entries) (s.job (suc k) j).retired (s.job (suc k) j).lost lands in
        let one = reaches j (omega (arith, less, there)) live.here live.going in
        let other = reaches l there here (ap has_ended (blank_entries l new)) in
        let apart = are_apart c.table (name j) (name l) one.job other.job sound one.there other.there (λ same. omega (arith, same, less)) in
        apart (sym one.file ∙ sym file ∙ other.file) one.runs other.runs place (one.covers place low high) (other.covers place low' high')

    apart_then : (j l : ℕ) → j < l → s.made k ≤ l → l < s.made (suc k) → may_land (s.job (suc k) j) ≡ true
        → (plan_at s (suc k) l).dst_file ≡ (plan_at s (suc k) j).dst_file → AreApart s (suc k) j l
    apart_then j l less new there lands file = apart_if j l less new there lands file (cases_Bool (s.job (suc k) l).retired)

  -- ---- all of them

  pub copies_obey : LandsWell spell meaning s k → AreSafe s (suc k) → ReachesWithin s (suc k) c.table.capacity → HoldsWell spell meaning s k
      → CopiesLaws spell meaning s k
  copies_obey comes safe within held = record {
    made = let e = made_is in let f = made_then in let more = is_later in omega (arith, e, f, more);
    fresh = begins safe;
    unmade = λ j past. ap (λ (x : Copy). x.retired) (none_yet j (let e = made_then in omega (arith, e, past)));
    plan = λ j there. (keeps laws spell meaning s k took speaker executed d t shows story j (there_before j there)).plan;
    entries = entries_go comes;
    lands = held.lands;
    marks = marks_stay;
    stable = safe;
    crash = λ crash j there.
        let part = part_by took speaker t in
        let v = t.host.state.machine.store.volume in
        absurd (no_crash_in (plan_at s k) (is_call part) (effect_of v part.out.used) (landing_in part.out.notes) (no_crash_of v part.out.used)
        (subst (λ (x : Deed). IsCrashOf (effect_on (plan_at s k) x)) shows.deed crash));
    apart = apart_then within;
    reach = λ j there. (within j there).0;
    holds = held.holds;
    ready = λ j up.
        let seen_ready = sym (ap (λ (x : Caller). x.ready (ForJob j)) shows.after.caller) ∙ up in
        let below = ltb-true j c.table.made seen_ready in
        let e = made_then in
        omega (arith, e, below);
  }
