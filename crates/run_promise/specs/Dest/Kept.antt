-- A destination along a run, as a caller of its source.
use Rattle.std.specs.Prelude.{◌≡◌, ℕ, suc, List, Option, Some}
use Rattle.caller_laws.specs.Fitting.Bounds.{FixedFits}
use Rattle.caller_laws.specs.Fitting.Fitting.{MountIsFit}
use Rattle.caller_laws.specs.Good.{Identity}
use Rattle.caller_laws.specs.OneStep.Runs.{AreSpelled}
use Rattle.dest_core.specs.Stepping.{DestState, copier_in}
use Rattle.dest_laws.specs.Calls.Fits.{EachPlanIsFit, WorkIsFit}
use Rattle.dest_laws.specs.Calls.Settled.{IsSettledAs}
use Rattle.dest_laws.specs.Calls.Steps.{IsSeen, IsSeenWhere, mount_of}
use Rattle.dest_laws.specs.Deeds.{ByDeeds}
use Rattle.dest_laws.specs.Own.Going.{jobs_in}
use Rattle.mount.specs.Taking.{Means}
use Rattle.nfs_base.specs.declared.seal.End.TheVariants.{Dest, Source}
use Rattle.run_ends.specs.Ends.{RunStep, RunWorld, Words, machines}
use Rattle.run_ends.specs.Setting.{dest_name}
use Rattle.run_promise.specs.System.Moments.{world_at}
use Rattle.run_promise.specs.System.System.{telling}
use Rattle.wire_machine.specs.History.{acts_at}
use Rattle.wire_model.specs.CallerLaws.{CallerLaws, CallerStart}
use Rattle.wire_model.specs.Meaning.{Meaning}
use Rattle.wire_model.specs.Spelling.{Spelling}
use Rattle.wire_model.specs.System.{System}
use Rattle.wire_model.specs.Wire.{Acts}
use Rattle.wire_xdr.specs.Cursor.{IsBytes}

-- what holds of it at each moment: it goes by its own contexts, principal and mechanism
pub record IsKept {M : Type 0} (mech : M) (d : DestState M) : Type 0 where
  pub owner : d.contexts.owner ≡ Dest
  pub principal : (copier_in d).principal ≡ dest_name
  pub mech_is : d.state.machine.extra.mech ≡ mech

-- how a step of it is seen, where its calls keep to the bounds where this holds; and what it leaves
pub record GoesSeen {M : Type 0} (fit : Type 0) (who : Identity) (means : Means) (mech : M) (s t : DestState M) (shown : Acts) : Type 0 where
  pub seen : IsSeenWhere fit who means s t shown
  pub kept : IsKept mech t
  pub deeds : ByDeeds (jobs_in s) (jobs_in t)

-- the tokens that are started with nonces are bytes
abbrev pub TokensAreBytes : (started : List ℕ → Option (List ℕ)) → Type 0
TokensAreBytes started = (nonce token : List ℕ) → FixedFits 32 nonce → started nonce ≡ Some token → IsBytes token

module _ {M : Type 0} (words : Words M ℕ) (mech : M) where
  abbrev pub means_of : Means
  means_of = record { mic = words.mic; derived = words.derived; finished = words.finished mech dest_name }

  -- what its calls are made of is within bounds
  abbrev pub Fits : DestState M → Type 0
  Fits s = WorkIsFit words.mic words.gives (words.started mech) (copier_in s)

  -- what holds of it between its steps, and how it goes to its next moment
  pub record IsCallerAt (who : Identity) (s t : DestState M) (shown : Acts) : Type 0 where
    pub kept : IsKept mech s
    pub settled : IsSettledAs who (copier_in s)
    pub fit : MountIsFit (mount_of s)
    pub seen : IsSeen who means_of s t shown
    pub spelled : AreSpelled means_of seen.step.steps (mount_of s)
    pub deeds : ByDeeds (jobs_in s) (jobs_in t)

  module _ (spell : Spelling) (meaning : Meaning) (first : RunWorld M) (steps : List (RunStep M)) where
    abbrev pub dest_at : ℕ → DestState M
    dest_at k = (world_at (machines words) (telling (record { mic = words.mic; derived = words.derived })) spell meaning first steps k).dest

    abbrev pub shown_at : ℕ → Acts
    shown_at k = acts_at (machines words) (telling (record { mic = words.mic; derived = words.derived })) spell meaning first steps Dest k

    -- each step of a run is seen so, where it is settled before
    abbrev pub RunIsSeen : Identity → Type 0
    RunIsSeen who =
        (k : ℕ) → IsKept mech (dest_at k) → IsSettledAs who (copier_in (dest_at k))
        → GoesSeen (Fits (dest_at k)) who means_of mech (dest_at k) (dest_at (suc k)) (shown_at k)

    -- the plans of its jobs are within bounds at each moment
    abbrev pub PlansStayFit : Type 0
    PlansStayFit = (k : ℕ) → EachPlanIsFit (copier_in (dest_at k)).copies.book.table

    abbrev pub GoesAsCaller : Identity → Type 0
    GoesAsCaller who = (k : ℕ) → IsCallerAt who (dest_at k) (dest_at (suc k)) (shown_at k)

-- It has no context and awaits nothing at first, and obeys the laws of a caller of the source in each step.
pub record IsLawfulCaller (spell : Spelling) (s : System) : Type 0 where
  pub start : CallerStart (s.caller Source Dest 0)
  pub laws : (k : ℕ) → CallerLaws spell Source Dest (s.caller Source Dest k) (s.caller Source Dest (suc k)) (s.acts Dest k)
