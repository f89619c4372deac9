-- The system of an opening shows its destination at every moment, and each of its steps.
use Rattle.std.proofs.Common.{◌≡◌, ◌∙◌, ⊎_elim, ℕ, zero, suc, ◌<◌, ◌≤◌, List, [], ◌∷◌, length, slice_get, Option, Some, None, refl, sym, ap, subst, arith}
use Rattle.std.specs.Prelude.{slice_index_or}
use Rattle.std.proofs.lemmas.Bool.{cases_lt}
use Rattle.client_laws.specs.WholeTurns.{Purposes}
use Rattle.copy_privs.specs.declared.peer.Peer.{Peer}
use Rattle.dest_core.specs.Core.{no_copier}
use Rattle.dest_core.specs.Stepping.{DestState, copier_in}
use Rattle.dest_core.specs.declared.destination.Destination.{Destination}
use Rattle.dest_laws.specs.Copies.Rooms.{ReachesLast}
use Rattle.dest_laws.specs.Copies.Runs.{ShowsRun}
use Rattle.dest_laws.specs.Sound.Kept.{IsKept}
use Rattle.dest_laws.specs.View.Steps.{Shows, ShowsStep}
use Rattle.dest_laws.specs.View.View.{made_in}
use Rattle.dest_steps.specs.declared.copier.Copier.{Copier}
use Rattle.nfs_base.specs.declared.seal.End.TheVariants.{Dest}
use Rattle.nfs_base.specs.declared.side.Side.TheVariants as sides
use Rattle.run_ends.specs.Ends.{RunMachines, RunStep, RunWorld, Words, machines}
use Rattle.run_ends.specs.Setting.{dest_name, dest_source}
use Rattle.run_promise.proofs.dest.DestGoes.{AreKnown}
use Rattle.run_promise.proofs.dest.Moments.{AreFolds, IsDone, IsSeen, done_at, seen_at}
use Rattle.run_promise.specs.Dest.Begun.{IsBegun}
use Rattle.run_promise.specs.Dest.Moments.{ShowsAs, dest_part, host_at, part_at, step_at}
use Rattle.run_promise.specs.System.System.{ClientView, opening_of, own_deed, telling}
use Rattle.session_server.specs.Host as hosts
use Rattle.wire_machine.specs.History.{At, acts_at, at_moment, deed_of, next, no_job}
use Rattle.wire_machine.specs.Steps.{AreSteps, NeverStops}
use Rattle.wire_model.specs.Copies.{Job as Copy}
use Rattle.wire_model.specs.CopyLaws.{CopiesStart}
use Rattle.wire_model.specs.Meaning.{Meaning}
use Rattle.wire_model.specs.Spelling.{Spelling}
use Rattle.wire_model.specs.System.{System}

none_past : {X : Type 0} (xs : List X) (k : ℕ) → length xs ≤ k → slice_get xs k ≡ None
none_past [] k past = refl
none_past (x ∷ xs) zero past = absurd (omega (arith, past))
none_past (x ∷ xs) (suc k) past = none_past xs k (omega (arith, past))

-- ---- the first moment

abbrev boot_of : {M : Type 0} → RunWorld M → ℕ
boot_of w = w.dest.state.machine.store.volume.boot

abbrev capacity_of : {M : Type 0} → RunWorld M → ℕ
capacity_of w = w.dest.state.machine.store.volume.capacity

module _ {M : Type 0} (words : Words M ℕ) (known : AreKnown words) (folds : AreFolds) (spell : Spelling) (meaning : Meaning) (first : RunWorld M) (steps : List (RunStep M))
    (mech : M) (is : IsBegun mech first.dest) where
  pub copier_is : copier_in first.dest ≡ no_copier (boot_of first) (capacity_of first) dest_source dest_name
  copier_is = ap (λ (x : Destination M). x.copier) is.opened.extra

  none_made : made_in first.dest ≡ 0
  none_made = ap (λ (x : Copier). x.copies.book.table.made) copier_is

  pub begins : ((boot capacity : ℕ) (source : Peer) (principal : List ℕ) → IsKept (no_copier boot capacity source principal).copies.book.table)
      → IsSeen words known folds spell meaning (at_moment (machines words) (telling (record { mic = words.mic; derived = words.derived })) spell meaning first steps 0)
  begins kept = record {
    made = sym none_made;
    linked = λ j below. absurd (omega (arith, below, none_made));
    none_yet = λ j high. refl;
    unlost = λ j. refl;
    boot = ap (λ (x : Copier). x.copies.book.table.boot) copier_is;
    kept = subst (λ (x : Copier). IsKept x.copies.book.table) (sym copier_is) (kept (boot_of first) (capacity_of first) dest_source dest_name);
  }

module _ {M : Type 0} (words : Words M ℕ) (known : AreKnown words) (folds : AreFolds) (spell : Spelling) (meaning : Meaning) (seen : ClientView M)
    (purposes : ℕ → Purposes) (first : RunWorld M) (steps : List (RunStep M)) where
  abbrev m : RunMachines M
  m = machines words

  abbrev codes : hosts.Codes
  codes = record { mic = words.mic; derived = words.derived }

  abbrev system : System
  system = opening_of m codes spell meaning seen first steps purposes

  -- ---- at a moment

  pub shows : (k : ℕ) → IsSeen words known folds spell meaning (at_moment m (telling codes) spell meaning first steps k)
      → Shows (opening_of m codes spell meaning seen first steps purposes) k (host_at m codes spell meaning first steps k)
  unfolding opening_of
  shows k is = record {
    caller = refl;
    volume = refl;
    made = is.made;
    holds = λ worker. refl;
    linked = is.linked;
    none_yet = is.none_yet;
    unlost = is.unlost;
    names = λ j. refl;
  }

  own_deed_is : (at : At m (telling codes) spell meaning) (o : Option (RunStep M)) → own_deed m codes spell meaning seen first steps purposes o
      ≡ deed_of (next m (telling codes) spell meaning at o).world.dest.state.machine.store.volume (dest_part o)
  own_deed_is at None = refl
  own_deed_is at (Some s) = refl

  shows_step : (k : ℕ) → IsSeen words known folds spell meaning (at_moment m (telling codes) spell meaning first steps k)
      → IsSeen words known folds spell meaning (at_moment m (telling codes) spell meaning first steps (suc k))
      → IsDone words known folds spell meaning (at_moment m (telling codes) spell meaning first steps k) (slice_get steps k)
      → ShowsStep spell meaning (opening_of m codes spell meaning seen first steps purposes) k (part_at m codes spell meaning first steps k).took
      (part_at m codes spell meaning first steps k).speaker (acts_at m (telling codes) spell meaning first steps Dest k).executed
      (host_at m codes spell meaning first steps k) (step_at m codes spell meaning first steps k)
  unfolding opening_of
  shows_step k is then done = record {
    before = shows k is;
    after = shows (suc k) then;
    acts = done.acts;
    deed = own_deed_is (at_moment m (telling codes) spell meaning first steps k) (slice_get steps k);
    goes = done.goes;
    marked = done.marked;
  }

  -- ---- past the last step

  rests_from : (k : ℕ) → length steps ≤ k → (at_moment m (telling codes) spell meaning first steps k).seen.jobs
      ≡ (at_moment m (telling codes) spell meaning first steps (length steps)).seen.jobs
  rests_from zero past =
      let none : 0 ≡ length steps = omega (arith, past) in
      ap (λ (n : ℕ). (at_moment m (telling codes) spell meaning first steps n).seen.jobs) none
  rests_from (suc k) past =
      ⊎_elim
      (λ (below : k < length steps).
      let last : suc k ≡ length steps = omega (arith, past, below) in
      ap (λ (n : ℕ). (at_moment m (telling codes) spell meaning first steps n).seen.jobs) last)
      (λ (high : length steps ≤ k).
      ap (λ (o : Option (RunStep M)). (next m (telling codes) spell meaning (at_moment m (telling codes) spell meaning first steps k) o).seen.jobs)
      (none_past steps k high)
      ∙ rests_from k high)
      (cases_lt k (length steps))

  pub reaches : ReachesLast (opening_of m codes spell meaning seen first steps purposes) (length steps)
  unfolding opening_of
  reaches = record {
    reach = λ j. refl;
    made = λ k past. ap (λ (jobs : List Copy). length jobs) (rests_from k past);
    still = λ k j past. ap (λ (jobs : List Copy). slice_index_or jobs j no_job) (rests_from k past);
  }

  -- ---- a run

  module _ (begun : IsSeen words known folds spell meaning (at_moment m (telling codes) spell meaning first steps 0)) (are : AreSteps m first steps)
      (never : NeverStops sides.Dest first steps) where
    pub shows_at : (k : ℕ) → ShowsStep spell meaning (opening_of m codes spell meaning seen first steps purposes) k (part_at m codes spell meaning first steps k).took
        (part_at m codes spell meaning first steps k).speaker (acts_at m (telling codes) spell meaning first steps Dest k).executed
        (host_at m codes spell meaning first steps k) (step_at m codes spell meaning first steps k)
    shows_at k =
        let at_each = seen_at words known folds spell meaning first steps begun are never in
        shows_step k (at_each k) (at_each (suc k)) (done_at words known folds spell meaning first steps begun are never k)

    shows_run : ShowsRun spell meaning (opening_of m codes spell meaning seen first steps purposes) (host_at m codes spell meaning first steps) (step_at m codes spell meaning first steps)
    shows_run =
        let at_each = seen_at words known folds spell meaning first steps begun are never in
        let in_each = done_at words known folds spell meaning first steps begun are never in
        record {
          took = λ k. (part_at m codes spell meaning first steps k).took;
          speaker = λ k. (part_at m codes spell meaning first steps k).speaker;
          executed = λ k. (acts_at m (telling codes) spell meaning first steps Dest k).executed;
          shows = shows_at;
          goes_on = λ k. refl;
          story = λ k. (in_each k).story;
          sound = λ k. (at_each k).kept.sound;
        }

    pub shows_as : ShowsAs m codes spell meaning first steps (opening_of m codes spell meaning seen first steps purposes)
    unfolding shows_run
    shows_as = record { run = shows_run; took = λ k. refl; speaker = λ k. refl; executed = λ k. refl }

  -- ---- from the first moment on

  module _ (mech : M) (is : IsBegun mech first.dest) where
    pub starts : ((boot capacity : ℕ) (source : Peer) (principal : List ℕ) → IsKept (no_copier boot capacity source principal).copies.book.table)
        → ((boot capacity : ℕ) (source : Peer) (principal : List ℕ) (d : DestState M) (s : System) → copier_in d ≡ no_copier boot capacity source principal
        → Shows s 0 d → CopiesStart s)
        → CopiesStart (opening_of m codes spell meaning seen first steps purposes)
    starts kept opened =
        opened (boot_of first) (capacity_of first) dest_source dest_name first.dest (opening_of m codes spell meaning seen first steps purposes)
        (copier_is words known folds spell meaning first steps mech is) (shows 0 (begins words known folds spell meaning first steps mech is kept))
