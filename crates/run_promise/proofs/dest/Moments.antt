-- What is seen at a moment of an opening are the jobs that the destination has, and so at the next.
use Rattle.std.proofs.Common.{◌≡◌, ◌⊎◌, ◌∙◌, inl, inr, ⊎_elim, ℕ, zero, suc, ◌<◌, ◌≤◌, Bool, true, false, List, [], length, slice_get, Option, Some, None, refl, sym, ap, subst}
use Rattle.std.specs.Prelude.{◌||◌, slice_index_or}
use Rattle.std.proofs.lemmas.Bool.{cases_lt}
use Rattle.dest_core.specs.Stepping.{DestState}
use Rattle.dest_laws.specs.Copies.Story.{Story}
use Rattle.dest_laws.specs.Deeds.{ByDeeds}
use Rattle.dest_laws.specs.Histories.Linked.{AreLinked, GoOn, IsSeenAs, IsShown as IsShownAs, Planned, looked_up, name_at}
use Rattle.dest_laws.specs.Histories.Seen.{Later, Seen, seen_in}
use Rattle.dest_laws.specs.Own.Going.{jobs_in}
use Rattle.dest_laws.specs.Sound.Kept.{IsKept}
use Rattle.dest_laws.specs.View.Steps.{table_in}
use Rattle.dest_laws.specs.View.View.{made_in, plan_seen}
use Rattle.dest_tasks.specs.Completing.{Comes, Deed}
use Rattle.job_book.specs.Book.{BookView}
use Rattle.job_table.specs.Table.{JobTable}
use Rattle.nfs_base.specs.declared.job.JobName.{JobName}
use Rattle.nfs_base.specs.declared.seal.End.TheVariants.{Dest}
use Rattle.nfs_base.specs.declared.side.Side.TheVariants as sides
use Rattle.run_ends.specs.Ends.{RunMachines, RunStep, RunWorld, SourceState, Words, machines}
use Rattle.run_promise.proofs.dest.DestGoes.{AreKnown, Goes, did_goes}
use Rattle.run_promise.proofs.dest.Uncut.{acts_are, jobs_are, uncut_at, untold}
use Rattle.run_promise.specs.Dest.ActLaws.{step_did}
use Rattle.run_promise.specs.Dest.Acts.{DestDid}
use Rattle.run_promise.specs.Dest.Moments.{dest_part}
use Rattle.run_promise.specs.System.Listing.{listed_in}
use Rattle.run_promise.specs.System.Moments.{made_at}
use Rattle.run_promise.specs.System.System.{telling}
use Rattle.server_volume.specs.declared.used.Used.{Used}
use Rattle.session_server.specs.Host as hosts
use Rattle.wire_lines.specs.declared.letters.Speaker.{Speaker}
use Rattle.wire_lines.specs.declared.letters.Speaker.TheVariants as speakers
use Rattle.wire_machine.specs.History.{At, Listed, Telling, acts_in, acts_of, at_moment, called_with, is_call, is_reported, jobs_after, next, no_job, part_acts, takes_call, told_by}
use Rattle.wire_machine.specs.Steps.{AreSteps, IsStep, NeverStops, cut_of}
use Rattle.wire_machine.specs.World.{Part}
use Rattle.wire_model.specs.Copies.{Job as Copy}
use Rattle.wire_model.specs.Meaning.{Meaning}
use Rattle.wire_model.specs.Spelling.{Spelling}
use Rattle.wire_model.specs.Wire.{Acts, Executed}

abbrev boot_of : {M : Type 0} → DestState M → ℕ
boot_of s = s.state.machine.store.volume.boot

-- what is known of histories
pub record AreFolds : Type 0 where
  pub later : (deeds : List Deed) (b c : BookView) → Comes deeds b c → Later b.table c.table
  pub linked : (plan_of : Planned) (deeds : List Deed) (b c : BookView) → Comes deeds b c → (old new : ℕ → Copy) → AreLinked plan_of b.table old
      → GoOn plan_of b.table c.table old new → AreLinked plan_of c.table new
  pub count : (listed : List Listed) (stable : JobName → Bool) (boot made : ℕ) (jobs : List Copy) → length jobs ≤ made
      → length (jobs_after listed stable boot made jobs) ≡ made
  pub past : (listed : List Listed) (stable : JobName → Bool) (boot made : ℕ) (jobs : List Copy) (place : ℕ) → length jobs ≤ made → made ≤ place
      → slice_index_or (jobs_after listed stable boot made jobs) place no_job ≡ no_job
  pub on : (stable : JobName → Bool) (before now : JobTable) (jobs : List Copy) → length jobs ≡ before.made → before.made ≤ now.made
      → GoOn plan_seen before now (λ place. slice_index_or jobs place no_job)
      (λ place. slice_index_or (jobs_after (listed_in now) stable now.boot now.made jobs) place no_job)
  pub marked : (stable : JobName → Bool) (now : JobTable) (jobs : List Copy) (place : ℕ) → place < now.made
      → (slice_index_or (jobs_after (listed_in now) stable now.boot now.made jobs) place no_job).stable
      ≡ ((slice_index_or jobs place no_job).stable || stable (name_at now.boot place))

-- the destination's jobs are seen, they are sound, and belong to its volume's opening
pub record AreSeen {M : Type 0} (d : DestState M) (jobs : List Copy) : Type 0 where
  pub made : length jobs ≡ made_in d
  pub linked : AreLinked plan_seen (table_in d) (λ j. slice_index_or jobs j no_job)
  pub none_yet : (j : ℕ) → made_in d ≤ j → slice_index_or jobs j no_job ≡ no_job
  pub unlost : (j : ℕ) → (slice_index_or jobs j no_job).lost ≡ false
  pub boot : (table_in d).boot ≡ boot_of d
  pub kept : IsKept (table_in d)

-- what the destination did in a step, which is shown so, and in which its copies went on
pub record AreDone {M : Type 0} (spell : Spelling) (meaning : Meaning) (d t : DestState M) (part : Part) (shown : Acts) (old new : List Copy) : Type 0 where
  pub acts : shown ≡ part_acts part shown.executed
  pub goes : GoOn plan_seen (table_in d) (table_in t) (λ j. slice_index_or old j no_job) (λ j. slice_index_or new j no_job)
  pub marked : (j : ℕ) → j < made_in t
      → (slice_index_or new j no_job).stable ≡ ((slice_index_or old j no_job).stable || is_reported spell meaning shown (name_at (table_in t).boot j))
  pub story : Story (jobs_in d) (jobs_in t) part.out.used

-- ---- a story is told by deeds

deeds_of : (b c : BookView) (used : List Used) → Story b c used → ByDeeds b c
deeds_of b c used (inl takes) = (takes.deeds, takes.come)
deeds_of b c used (inr goes) = (goes.deeds, goes.come)

seen_lost : (o : Option Seen) (old : Copy) → (looked_up plan_seen o old).lost ≡ old.lost
seen_lost None old = refl
seen_lost (Some s) old = refl

or_false : (b : Bool) → b ≡ (b || false)
or_false true = refl
or_false false = refl

-- what is shown so goes on as it is
shown_stays : (o : Option Seen) (copy : Copy) → IsShownAs plan_seen o copy → IsSeenAs (looked_up plan_seen o copy) copy
shown_stays None copy retired = record { plan = refl; entries = refl; retired = retired; lost = refl }
shown_stays (Some s) copy is = record { plan = is.1; entries = is.2; retired = refl; lost = refl }

module _ {M : Type 0} (words : Words M ℕ) (known : AreKnown words) (folds : AreFolds) (spell : Spelling) (meaning : Meaning) where
  abbrev m : RunMachines M
  m = machines words

  abbrev codes : hosts.Codes
  codes = record { mic = words.mic; derived = words.derived }

  abbrev tell : Telling (SourceState M) (DestState M)
  tell = telling codes

  abbrev Moment : Type 0
  Moment = At m tell spell meaning

  abbrev on_by : Moment → Option (RunStep M) → Moment
  on_by at o = next m tell spell meaning at o

  abbrev pub IsSeen : At m (telling codes) spell meaning → Type 0
  IsSeen at = AreSeen at.world.dest at.seen.jobs

  abbrev pub IsDone : At m (telling codes) spell meaning → Option (RunStep M) → Type 0
  IsDone at o =
      AreDone spell meaning at.world.dest (next m (telling codes) spell meaning at o).world.dest (dest_part o) (acts_of m (telling codes) spell meaning at.world o Dest)
      at.seen.jobs (next m (telling codes) spell meaning at o).seen.jobs

  -- ---- what is executed

  none_called : (f : List ℕ → Option Executed) (call : Bool) (took : Option (List ℕ)) → took ≡ None → told_by f (called_with call took) ≡ None
  none_called f true took none = ap (told_by f) none
  none_called f false took none = refl

  none_heard : (f : List ℕ → Option Executed) (took : Option (List ℕ)) → told_by f (called_with (takes_call speakers.Worker took) took) ≡ None
  none_heard f None = refl
  none_heard f (Some bytes) = refl

  none_told : (part : Part) (f : List ℕ → Option Executed) → (part.took ≡ None) ⊎ (part.speaker ≡ speakers.Worker)
      → told_by f (called_with (is_call part) part.took) ≡ None
  none_told part f (inl none) = none_called f (is_call part) part.took none
  none_told part f (inr worker) =
      ap (λ (speaker : Speaker). told_by f (called_with (takes_call speaker part.took) part.took)) worker ∙ none_heard f part.took

  -- nothing is where nothing is taken, or a worker takes it
  pub quiet_by : (w : RunWorld M) (o : Option (RunStep M)) → ((dest_part o).took ≡ None) ⊎ ((dest_part o).speaker ≡ speakers.Worker)
      → (acts_of m (telling codes) spell meaning w o Dest).executed ≡ None
  quiet_by w None quiet = refl
  quiet_by w (Some s) quiet =
      untold (cut_of sides.Dest w s) (acts_in tell w s.parts s.after Dest)
      (none_told s.parts.dest (λ bytes. tell.dest_told bytes w.clock w.dest s.after.dest s.parts.dest.out) quiet)

  -- ---- a small step

  module _ (at : At m (telling codes) spell meaning) (s : RunStep M) (uncut : cut_of sides.Dest at.world s ≡ None) (step : IsStep m at.world s) (shown : IsSeen at) where
    abbrev before : JobTable
    before = table_in at.world.dest

    abbrev now : JobTable
    now = table_in s.after.dest

    abbrev reported : JobName → Bool
    reported = is_reported spell meaning (acts_in tell at.world s.parts s.after Dest)

    abbrev old : ℕ → Copy
    old j = slice_index_or at.seen.jobs j no_job

    abbrev jobs_by : ℕ → List Copy
    jobs_by boot = jobs_after (listed_in now) reported boot now.made at.seen.jobs

    goes : Goes at.world.dest s.after.dest s.parts.dest.out.used
    goes = did_goes words known at.world s.parts s.after (step_did words at.world s uncut step)

    by_deeds : ByDeeds (jobs_in at.world.dest) (jobs_in s.after.dest)
    by_deeds = deeds_of (jobs_in at.world.dest) (jobs_in s.after.dest) s.parts.dest.out.used goes.story

    later : Later before now
    later = folds.later by_deeds.0 (jobs_in at.world.dest) (jobs_in s.after.dest) by_deeds.1

    boot_is : now.boot ≡ boot_of s.after.dest
    boot_is = later.boot ∙ shown.boot ∙ sym goes.boot

    within : length at.seen.jobs ≤ now.made
    within = subst (λ n. n ≤ now.made) (sym shown.made) later.made

    goes_on : GoOn plan_seen before now old (λ j. slice_index_or (jobs_by (boot_of s.after.dest)) j no_job)
    goes_on =
        subst (λ (boot : ℕ). GoOn plan_seen before now old (λ j. slice_index_or (jobs_by boot) j no_job)) boot_is
        (folds.on reported before now at.seen.jobs shown.made later.made)

    marks : (j : ℕ) → j < now.made
        → (slice_index_or (jobs_by (boot_of s.after.dest)) j no_job).stable ≡ ((old j).stable || reported (name_at now.boot j))
    marks j below =
        subst (λ (boot : ℕ). (slice_index_or (jobs_by boot) j no_job).stable ≡ ((old j).stable || reported (name_at now.boot j))) boot_is
        (folds.marked reported now at.seen.jobs j below)

    past : (j : ℕ) → now.made ≤ j → slice_index_or (jobs_by (boot_of s.after.dest)) j no_job ≡ no_job
    past j high = folds.past (listed_in now) reported (boot_of s.after.dest) now.made at.seen.jobs j within high

    not_lost : (j : ℕ) → (slice_index_or (jobs_by (boot_of s.after.dest)) j no_job).lost ≡ false
    not_lost j =
        ⊎_elim
        (λ (below : j < now.made).
        (goes_on.seen_as j below).lost ∙ seen_lost (seen_in now (name_at now.boot j)) (old j) ∙ shown.unlost j)
        (λ (high : now.made ≤ j). ap (λ (job : Copy). job.lost) (past j high)) (cases_lt j now.made)

    abbrev new_jobs : List Copy
    new_jobs = (next m (telling codes) spell meaning at (Some s)).seen.jobs

    seen_then : IsSeen (next m (telling codes) spell meaning at (Some s))
    seen_then =
        subst (λ (jobs : List Copy). AreSeen s.after.dest jobs) (sym (jobs_are m tell spell meaning at s uncut))
        (record {
          made = folds.count (listed_in now) reported (boot_of s.after.dest) now.made at.seen.jobs within;
          linked = folds.linked plan_seen by_deeds.0 (jobs_in at.world.dest) (jobs_in s.after.dest) by_deeds.1 old
              (λ j. slice_index_or (jobs_by (boot_of s.after.dest)) j no_job) shown.linked goes_on;
          none_yet = past;
          unlost = not_lost;
          boot = boot_is;
          kept = goes.kept shown.kept;
        })

    done_then : IsDone at (Some s)
    done_then =
        subst (λ (acts : Acts). AreDone spell meaning at.world.dest s.after.dest s.parts.dest acts at.seen.jobs new_jobs) (sym (acts_are m tell spell meaning at.world s uncut))
        (subst (λ (jobs : List Copy). AreDone spell meaning at.world.dest s.after.dest s.parts.dest (acts_in tell at.world s.parts s.after Dest) at.seen.jobs jobs)
        (sym (jobs_are m tell spell meaning at s uncut))
        (record { acts = refl; goes = goes_on; marked = marks; story = goes.story }))

  -- ---- a rest

  rest_done : (at : At m (telling codes) spell meaning) → IsSeen at → IsDone at None
  rest_done at shown = record {
    acts = refl;
    goes = record {
      seen_as = λ j below.
          shown_stays (seen_in (table_in at.world.dest) (name_at (table_in at.world.dest).boot j)) (slice_index_or at.seen.jobs j no_job) (shown.linked j below);
      fresh = λ j high. ap (λ (job : Copy). job.retired) (shown.none_yet j high);
    };
    marked = λ j below. or_false (slice_index_or at.seen.jobs j no_job).stable;
    story = (known.rest at.world.dest []).story;
  }

  -- ---- both

  next_seen : (at : At m (telling codes) spell meaning) (o : Option (RunStep M)) → ((s : RunStep M) → o ≡ Some s → cut_of sides.Dest at.world s ≡ None)
      → ((s : RunStep M) → o ≡ Some s → IsStep m at.world s) → IsSeen at → IsSeen (next m (telling codes) spell meaning at o)
  next_seen at None uncut step shown = shown
  next_seen at (Some s) uncut step shown = seen_then at s (uncut s refl) (step s refl) shown

  next_done : (at : At m (telling codes) spell meaning) (o : Option (RunStep M)) → ((s : RunStep M) → o ≡ Some s → cut_of sides.Dest at.world s ≡ None)
      → ((s : RunStep M) → o ≡ Some s → IsStep m at.world s) → IsSeen at → IsDone at o
  next_done at None uncut step shown = rest_done at shown
  next_done at (Some s) uncut step shown = done_then at s (uncut s refl) (step s refl) shown

  -- ---- a run

  module _ (first : RunWorld M) (steps : List (RunStep M)) (begun : IsSeen (at_moment m (telling codes) spell meaning first steps 0)) (are : AreSteps m first steps)
      (never : NeverStops sides.Dest first steps) where
    step_from : (k : ℕ) (s : RunStep M) → slice_get steps k ≡ Some s → IsStep m (at_moment m (telling codes) spell meaning first steps k).world s
    step_from k s is = (made_at m (telling codes) spell meaning first steps k s are is).step

    uncut_from : (k : ℕ) (s : RunStep M) → slice_get steps k ≡ Some s → cut_of sides.Dest (at_moment m (telling codes) spell meaning first steps k).world s ≡ None
    uncut_from k s is = uncut_at m (telling codes) spell meaning first steps k s never is

    -- what each step is to the destination
    pub did_at : (k : ℕ) (s : RunStep M) → slice_get steps k ≡ Some s → DestDid words (at_moment m (telling codes) spell meaning first steps k).world s.parts s.after
    did_at k s is = step_did words (at_moment m (telling codes) spell meaning first steps k).world s (uncut_from k s is) (step_from k s is)

    pub seen_at : (k : ℕ) → IsSeen (at_moment m (telling codes) spell meaning first steps k)
    seen_at zero = begun
    seen_at (suc k) = next_seen (at_moment m (telling codes) spell meaning first steps k) (slice_get steps k) (uncut_from k) (step_from k) (seen_at k)

    pub done_at : (k : ℕ) → IsDone (at_moment m (telling codes) spell meaning first steps k) (slice_get steps k)
    done_at k = next_done (at_moment m (telling codes) spell meaning first steps k) (slice_get steps k) (uncut_from k) (step_from k) (seen_at k)
