-- The plans of the destination's jobs are within bounds at each moment of an opening: it has no job at first, and each of its acts
-- leaves plans that are.
use Rattle.std.proofs.Common.{◌≡◌, inl, inr, ℕ, zero, suc, List, [], ◌∷◌, slice_get, Option, None, Some, refl, sym, subst}
use Rattle.std.proofs.lemmas.List.Elements.{All-head, All-tail}
use Rattle.std.specs.List.{AllByRecursion}
use Rattle.std.specs.Prelude.{All}
use Rattle.dest_core.specs.Stepping.{DestState, copier_in}
use Rattle.dest_laws.specs.Calls.Fits.{EachPlanIsFit, JobIsFit}
use Rattle.job_table.specs.Fits.{PlansAreFit}
use Rattle.job_table.specs.Table.{JobTable}
use Rattle.job_table.specs.declared.job.Job.{Job}
use Rattle.nfs_base.specs.declared.side.Side.TheVariants as sides
use Rattle.run_ends.specs.Ends.{RunMachines, RunStep, RunWorld, Words, machines}
use Rattle.run_promise.proofs.dest.Uncut.{uncut_at}
use Rattle.run_promise.specs.Dest.ActLaws.{step_did}
use Rattle.run_promise.specs.Dest.Acts.{DestDid}
use Rattle.run_promise.specs.Dest.Kept as runs
use Rattle.run_promise.specs.System.Moments.{made_at, rests_at, world_at}
use Rattle.run_promise.specs.System.System.{telling}
use Rattle.session_server.specs.Host.{Codes}
use Rattle.wire_machine.specs.Steps.{AreSteps, NeverStops}
use Rattle.wire_meaning.specs.Meaning.{meaning}
use Rattle.wire_model.specs.Spelling.{Spelling}

by_recursion : (jobs : List Job) → All JobIsFit jobs → AllByRecursion JobIsFit jobs
by_recursion [] all = tt
by_recursion (job ∷ jobs) all = (All-head JobIsFit job jobs all, by_recursion jobs (All-tail JobIsFit job jobs all))

each_fits : (t : JobTable) → PlansAreFit t → EachPlanIsFit t
each_fits t all = by_recursion t.jobs all

module _ {M : Type 0} (words : Words M ℕ) (mech : M) (spell : Spelling) (first : RunWorld M) (steps : List (RunStep M)) where
  abbrev codes : Codes
  codes = record { mic = words.mic; derived = words.derived }

  abbrev m : RunMachines M
  m = machines words

  abbrev world : ℕ → RunWorld M
  world k = world_at m (telling codes) spell meaning first steps k

  abbrev HaveFit : DestState M → Type 0
  HaveFit d = EachPlanIsFit (copier_in d).copies.book.table

  left_fit : (s : RunStep M) (before : RunWorld M) → DestDid words before s.parts s.after → HaveFit before.dest → HaveFit s.after.dest
  left_fit s before (inl did) have = each_fits (copier_in s.after.dest).copies.book.table did.goes.3
  left_fit s before (inr rest) have = subst HaveFit (sym rest.same) have

  module _ (are : AreSteps m first steps) (never : NeverStops sides.Dest first steps) where
    next_fit : (k : ℕ) (o : Option (RunStep M)) → slice_get steps k ≡ o → HaveFit (world k).dest → HaveFit (world (suc k)).dest
    next_fit k None is have = subst (λ (w : RunWorld M). HaveFit w.dest) (sym (rests_at m (telling codes) spell meaning first steps k is)) have
    next_fit k (Some s) is have =
        let made = made_at m (telling codes) spell meaning first steps k s are is in
        subst (λ (w : RunWorld M). HaveFit w.dest) (sym made.after)
        (left_fit s (world k) (step_did words (world k) s (uncut_at m (telling codes) spell meaning first steps k s never is) made.step) have)

    pub plans_stay : HaveFit first.dest → runs.PlansStayFit words mech spell meaning first steps
    plans_stay begun zero = begun
    plans_stay begun (suc k) = next_fit k (slice_get steps k) refl (plans_stay begun k)
