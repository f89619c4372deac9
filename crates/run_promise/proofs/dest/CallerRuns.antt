-- From its opening on the destination is seen as it should be, and so it obeys the laws.
use Rattle.std.proofs.Common.{◌≡◌, ℕ, zero, suc, false, List, [], slice_get, Option, Some, None, refl, sym, ap, subst}
use Rattle.std.specs.Prelude.{codes as text}
use Rattle.caller_laws.specs.Fitting.Bounds.{FixedFits}
use Rattle.caller_laws.specs.Fitting.BytesLaws.{all_below, below_are}
use Rattle.caller_laws.specs.Fitting.Fitting.{MountIsFit}
use Rattle.caller_laws.specs.Fitting.Moving.{GivesBytes}
use Rattle.caller_laws.specs.Good.{Identity}
use Rattle.caller_laws.specs.OneStep.Runs.{AreSpelled}
use Rattle.caller_laws.specs.View.{Above, caller_of}
use Rattle.client_laws.specs.WholeTurns.{Purposes}
use Rattle.dest_core.specs.Core.{no_copier}
use Rattle.dest_core.specs.Stepping.{DestState, copier_in}
use Rattle.dest_core.specs.declared.destination.Destination.{Destination}
use Rattle.dest_jobs.specs.declared.carried.Carried.{Carried}
use Rattle.dest_laws.specs.Calls.Fits.{DrawsAreFit, EachPlanIsFit, SendsAreFit}
use Rattle.dest_laws.specs.Calls.Settled.{IsSettledAs}
use Rattle.dest_laws.specs.Calls.Steps.{IsSeen, StartsOwn, mount_of}
use Rattle.dest_laws.specs.Deeds.{ByDeeds}
use Rattle.dest_laws.specs.Own.Going.{jobs_in}
use Rattle.dest_laws.specs.View.View.{above_in, caller_in}
use Rattle.dest_steps.specs.declared.copier.Copier.{Copier}
use Rattle.dest_tasks.specs.Completing.{Comes}
use Rattle.gss_ctx.specs.Table.{ContextTable}
use Rattle.job_book.specs.Book.{BookView}
use Rattle.mount.specs.State.{Mounted, fresh}
use Rattle.nfs_base.specs.declared.seal.End.{End}
use Rattle.nfs_base.specs.declared.seal.End.TheVariants.{Dest, Source}
use Rattle.nfs_base.specs.declared.side.Side.TheVariants as sides
use Rattle.run_ends.specs.Ends.{RunMachines, RunStep, RunWorld, Words, count_gives, machines}
use Rattle.run_ends.specs.Opening.{IsNewDest}
use Rattle.run_ends.specs.Setting.{dest_name, dest_source}
use Rattle.run_promise.proofs.dest.RunSteps.{AreKnown, did, rested}
use Rattle.run_promise.proofs.dest.Uncut.{acts_are, uncut_at}
use Rattle.run_promise.specs.Dest.ActLaws.{step_did}
use Rattle.run_promise.specs.Dest.Kept as runs
use Rattle.run_promise.specs.Dest.Kept.{Fits, GoesSeen, IsKept, IsLawfulCaller, TokensAreBytes, means_of}
use Rattle.run_promise.specs.System.Moments.{made_at, rests_at, world_at}
use Rattle.run_promise.specs.System.System.{ClientView, opening_of, telling}
use Rattle.session_server.specs.Host.{Codes}
use Rattle.streams.specs.Draws.{counted_draw}
use Rattle.streams.specs.declared.draws.Drawn.TheVariants.{Got}
use Rattle.wire_lines.specs.declared.letters.Speaker.TheVariants as speakers
use Rattle.wire_machine.specs.History as history
use Rattle.wire_machine.specs.Steps.{AreSteps, NeverStops}
use Rattle.wire_meaning.specs.Meaning.{meaning}
use Rattle.wire_model.specs.CallerLaws.{CallerLaws, CallerStart}
use Rattle.wire_model.specs.Spelling.{Spelling}
use Rattle.wire_model.specs.Wire.{Acts}
use Rattle.wire_spelling.specs.Spelling.{spelling}
use Rattle.wire_xdr.specs.Cursor.{IsBytes}

pub no_deeds : (b : BookView) → ByDeeds b b
unfolding Comes
no_deeds b = ([], refl)

module _ {M : Type 0} (words : Words M ℕ) (accepts : List ℕ → Option (List ℕ)) (whose : List ℕ → Option End) (mech : M) where
  abbrev pub who : Identity
  who = record { accepts = accepts; whose = whose; own = Dest }

  abbrev pub spell : Spelling
  spell = spelling accepts whose

  abbrev pub codes : Codes
  codes = record { mic = words.mic; derived = words.derived }

  abbrev pub m : RunMachines M
  m = machines words

  module _ (first : RunWorld M) (steps : List (RunStep M)) where
    abbrev pub dest : ℕ → DestState M
    dest k = runs.dest_at words mech spell meaning first steps k

    abbrev pub acts : ℕ → Acts
    acts k = runs.shown_at words mech spell meaning first steps k

    module _ (known : AreKnown words who mech) (own : StartsOwn who (words.started mech dest_name) words.gives) (are : AreSteps m first steps)
        (never : NeverStops sides.Dest first steps) where
      abbrev Goes : ℕ → Acts → Type 0
      Goes k shown = GoesSeen (Fits words mech (dest k)) who (means_of words mech) mech (dest k) (dest (suc k)) shown

      goes_at : (k : ℕ) (o : Option (RunStep M)) → slice_get steps k ≡ o → IsKept mech (dest k) → IsSettledAs who (copier_in (dest k))
          → Goes k (history.acts_of m (telling codes) spell meaning (world_at m (telling codes) spell meaning first steps k) o Dest)
      goes_at k None is keeps settled =
          subst (λ (w : RunWorld M). GoesSeen (Fits words mech (dest k)) who (means_of words mech) mech (dest k) w.dest
          (history.acts_of m (telling codes) spell meaning (world_at m (telling codes) spell meaning first steps k) None Dest))
          (sym (rests_at m (telling codes) spell meaning first steps k is))
          (rested words who mech known own (dest k) speakers.Dest _ keeps settled)
      goes_at k (Some s) is keeps settled =
          let made = made_at m (telling codes) spell meaning first steps k s are is in
          let before = world_at m (telling codes) spell meaning first steps k in
          let uncut = uncut_at m (telling codes) spell meaning first steps k s never is in
          subst (λ (w : RunWorld M). GoesSeen (Fits words mech (dest k)) who (means_of words mech) mech (dest k) w.dest
          (history.acts_of m (telling codes) spell meaning before (Some s) Dest)) (sym made.after)
          (subst (λ (shown : Acts). GoesSeen (Fits words mech (dest k)) who (means_of words mech) mech (dest k) s.after.dest shown)
          (sym (acts_are m (telling codes) spell meaning before s uncut))
          (did words who mech known own before s.parts s.after _ (step_did words before s uncut made.step) keeps settled))

      pub run_seen : runs.RunIsSeen words mech spell meaning first steps who
      run_seen k keeps settled = goes_at k (slice_get steps k) refl keeps settled

    -- ---- so it stays as it should be

    module _ (seen : runs.RunIsSeen words mech spell meaning first steps who) (gives_bytes : GivesBytes words.mic)
        (drawn : DrawsAreFit words.gives (words.started mech dest_name)) (named : IsBytes dest_name)
        (plans : runs.PlansStayFit words mech spell meaning first steps)
        (spells : (s t : DestState M) (shown : Acts) (it : IsSeen who (means_of words mech) s t shown) → MountIsFit (mount_of s) → SendsAreFit it.step.steps
        → AreSpelled (means_of words mech) it.step.steps (mount_of s) × MountIsFit (mount_of t))
        (stays : (s t : DestState M) (shown : Acts) (it : IsSeen who (means_of words mech) s t shown) → AreSpelled (means_of words mech) it.step.steps (mount_of s)
        → IsSettledAs who (copier_in s) → ByDeeds (jobs_in s) (jobs_in t) → IsSettledAs who (copier_in t)) where
      record Holds (k : ℕ) : Type 0 where
        kept : IsKept mech (dest k)
        settled : IsSettledAs who (copier_in (dest k))
        fit : MountIsFit (mount_of (dest k))

      fits : (k : ℕ) → IsKept mech (dest k) → Fits words mech (dest k)
      fits k keeps = record {
        codes = gives_bytes;
        plans = plans k;
        principal = subst IsBytes (sym keeps.principal) named;
        drawn = subst (λ (p : List ℕ). DrawsAreFit words.gives (words.started mech p)) (sym keeps.principal) drawn;
      }

      goes : (k : ℕ) → (h : Holds k) → GoesSeen (Fits words mech (dest k)) who (means_of words mech) mech (dest k) (dest (suc k)) (acts k)
      goes k h = seen k h.kept h.settled

      spelled : (k : ℕ) (h : Holds k)
          → AreSpelled (means_of words mech) (goes k h).seen.seen.step.steps (mount_of (dest k)) × MountIsFit (mount_of (dest (suc k)))
      spelled k h = spells (dest k) (dest (suc k)) (acts k) (goes k h).seen.seen h.fit ((goes k h).seen.sends (fits k h.kept))

      next : (k : ℕ) → Holds k → Holds (suc k)
      next k h = record {
        kept = (goes k h).kept;
        settled = stays (dest k) (dest (suc k)) (acts k) (goes k h).seen.seen (spelled k h).0 h.settled (goes k h).deeds;
        fit = (spelled k h).1;
      }

      holds : Holds 0 → (k : ℕ) → Holds k
      holds begun zero = begun
      holds begun (suc k) = next k (holds begun k)

      pub run_goes : IsKept mech (dest 0) → IsSettledAs who (copier_in (dest 0)) → MountIsFit (mount_of (dest 0))
          → runs.GoesAsCaller words mech spell meaning first steps who
      run_goes keeps settled fit k =
          let h = holds (record { kept = keeps; settled = settled; fit = fit }) k in
          record {
            kept = h.kept;
            settled = h.settled;
            fit = h.fit;
            seen = (goes k h).seen.seen;
            spelled = (spelled k h).0;
            deeds = (goes k h).deeds;
          }

    -- ---- as the system shows it

    pub lawful_shown : (view : ClientView M) (purposes : ℕ → Purposes) → CallerStart (caller_in (dest 0))
        → ((k : ℕ) → CallerLaws spell Source Dest (caller_in (dest k)) (caller_in (dest (suc k))) (acts k))
        → IsLawfulCaller spell (opening_of m codes spell meaning view first steps purposes)
    unfolding opening_of
    lawful_shown view purposes start laws = record { start = start; laws = laws }

-- ---- the beginning

module _ {M : Type 0} (mech : M) (d : DestState M) (is : IsNewDest mech d) where
  abbrev pub boot_of : ℕ
  boot_of = d.state.machine.store.volume.boot

  abbrev pub capacity_of : ℕ
  capacity_of = d.state.machine.store.volume.capacity

  copier_is : copier_in d ≡ no_copier boot_of capacity_of dest_source dest_name
  copier_is = ap (λ (x : Destination M). x.copier) is.extra

  pub begins_kept : IsKept mech d
  begins_kept = record {
    owner = ap (λ (c : ContextTable Carried). c.owner) is.contexts;
    principal = ap (λ (x : Destination M). x.copier.principal) is.extra;
    mech_is = ap (λ (x : Destination M). x.mech) is.extra;
  }

  pub begins_settled : (who : Identity) → ((boot capacity : ℕ) → IsSettledAs who (no_copier boot capacity dest_source dest_name)) → IsSettledAs who (copier_in d)
  begins_settled who settled = subst (IsSettledAs who) (sym copier_is) (settled boot_of capacity_of)

  pub begins_planned : EachPlanIsFit (copier_in d).copies.book.table
  begins_planned = subst (λ (x : Copier). EachPlanIsFit x.copies.book.table) (sym copier_is) tt

  pub begins_fit : MountIsFit (fresh Source false) → MountIsFit (mount_of d)
  begins_fit fit = subst MountIsFit (sym (ap (λ (x : Copier). x.work.mount) copier_is)) fit

  pub begins_start : ((above : Above) → CallerStart (caller_of above (fresh Source false))) → CallerStart (caller_in d)
  begins_start start =
      subst (λ (m : Mounted). CallerStart (caller_of (above_in boot_of (copier_in d)) m)) (sym (ap (λ (x : Copier). x.work.mount) copier_is))
      (start (above_in boot_of (copier_in d)))

-- ---- what it goes by

pub name_is_bytes : IsBytes dest_name
unfolding all_below
name_is_bytes = below_are (text "dest") refl

drawn_is : (nonce other : List ℕ) → Got nonce ≡ Got other → nonce ≡ other
drawn_is nonce other is = cc

pub counts_fit : (started : List ℕ → Option (List ℕ)) → ((count : ℕ) → FixedFits 32 (counted_draw count)) → TokensAreBytes started → DrawsAreFit count_gives started
counts_fit started draws tokens = record {
  nonces = λ v w nonce drew. subst (FixedFits 32) (sym (drawn_is nonce (counted_draw v) drew.0)) (draws v);
  tokens = tokens;
}
