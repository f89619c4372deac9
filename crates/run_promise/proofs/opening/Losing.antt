-- Where the destination stops all of its copies are lost, and keep their names; it tells and sends nothing.
use Rattle.std.proofs.Common.{◌≡◌, ⊎_elim, ℕ, suc, ◌+◌, ◌-◌, ◌<◌, ◌≤◌, true, false, List, [], length, map, Option, Some, None, sym, ap, ◌∙◌, arith}
use Rattle.std.specs.Prelude.{nat_lt, slice_get}
use Rattle.std.specs.Option.{option_map}
use Rattle.std.proofs.lemmas.Bool.{cases_lt, cond-false, false≢true, le-ltb}
use Rattle.client_laws.specs.WholeTurns.{Purposes}
use Rattle.copy_model.specs.Job.{Entry}
use Rattle.copy_model.specs.Marks.{len_of}
use Rattle.dest_laws.specs.View.Steps.{table_in}
use Rattle.dest_laws.specs.View.View.{holds_at, made_in, ready_by}
use Rattle.nfs_base.specs.declared.seal.End.TheVariants.{Dest, Source}
use Rattle.opening_laws.specs.Anew.{Crashes, KeepsNames, LosesAll, lost}
use Rattle.opening_laws.specs.Behind.{chunk_behind, ready_behind}
use Rattle.outbox.specs.declared.outgoing.Outgoing.{Outgoing}
use Rattle.past_copies.specs.Past.{Past, copy_at, name_at, past_after}
use Rattle.run_ends.specs.Ends.{RunMachines, RunStep, RunWorld, Words, machines}
use Rattle.run_promise.proofs.opening.Known.{AreOrdered, TheyEnd, TheyStay}
use Rattle.run_promise.proofs.opening.Lasting.{job_ended, lasts_to_end, many_after, past_ended}
use Rattle.run_promise.proofs.opening.Moments.{IsCutBy, cut_by}
use Rattle.run_promise.specs.Opening.Openings.{cut_at}
use Rattle.run_promise.specs.System.System.{ClientView, system_of, telling}
use Rattle.session_server.specs.Host.{Codes}
use Rattle.volume_stops.specs.Stops.{crash_effect}
use Rattle.volume_stops.specs.declared.kept.Kept.{Kept}
use Rattle.wire_machine.specs.History.{At, acts_in, acts_of, at_moment, dest_deed, job_at, next, no_job, sent_of, told_unless}
use Rattle.wire_model.specs.Copies.{Job, is_safe}
use Rattle.wire_model.specs.Meaning.{Meaning}
use Rattle.wire_model.specs.Spelling.{Spelling}
use Rattle.wire_model.specs.System.{Chunk, System}
use Rattle.wire_model.specs.Wire.{Acts, ForJob}

some_same : {A : Type 0} (a b : A) → Some a ≡ Some b → a ≡ b
some_same a b e = cc

module _ {M : Type 0} (words : Words M ℕ) (codes : Codes) (spell : Spelling) (meaning : Meaning) (seen : ClientView M) (first : RunWorld M)
    (steps : List (RunStep M)) (purposes : ℕ → Purposes) where
  abbrev m : RunMachines M
  m = machines words

  abbrev at : ℕ → At m (telling codes) spell meaning
  at k = at_moment m (telling codes) spell meaning first steps k

  abbrev world : ℕ → RunWorld M
  world k = (at k).world

  abbrev past : ℕ → List Past
  past k = (at k).seen.past

  abbrev jobs : ℕ → List Job
  jobs k = (at k).seen.jobs

  abbrev job : ℕ → ℕ → Job
  job k j = job_at (at k).seen j

  abbrev run : System
  run = system_of m codes spell meaning seen first steps purposes

  abbrev table_boot : RunWorld M → ℕ
  table_boot w = (table_in w.dest).boot

  abbrev cut : ℕ → Option Kept
  cut k = cut_at m (telling codes) spell meaning first steps k

  -- ---- in the step

  module _ (k : ℕ) (kept : Kept) (some : cut k ≡ Some kept) where
    by : IsCutBy (world k) (slice_get steps k) kept
    by = cut_by (world k) (slice_get steps k) kept some

    abbrev acts_then : RunStep M → Acts
    acts_then s = acts_in (telling codes) (world k) s.parts s.after Dest

    untold_by : run.acts Dest k ≡ told_unless (Some kept) (acts_then by.step)
    unfolding system_of
    untold_by =
        ap (λ (o : Option (RunStep M)). acts_of m (telling codes) spell meaning (world k) o Dest) by.is
        ∙ ap (λ (o : Option Kept). told_unless o (acts_then by.step)) by.cut

    pub untold : (run.acts Dest k).executed ≡ None
    untold = ap (λ (a : Acts). a.executed) untold_by

    same_step : (s : RunStep M) → slice_get steps k ≡ Some s → Some s ≡ Some by.step
    same_step s is = sym is ∙ by.is

    pub unsent : (s : RunStep M) → slice_get steps k ≡ Some s → s.parts.dest.out.sent ≡ [] → (run.acts Dest k).out ≡ []
    unsent s is none =
        let same : s ≡ by.step = some_same s by.step (same_step s is) in
        ap (λ (a : Acts). a.out) untold_by
        ∙ ap (λ (x : RunStep M). map sent_of x.parts.dest.out.sent) (sym same) ∙ ap (λ (xs : List Outgoing). map sent_of xs) none

    crash : Crashes run k
    unfolding system_of
    crash = record {
      effect = crash_effect kept by.step.parts.dest.out.used;
      deed =
          ap (λ (o : Option (RunStep M)). (next m (telling codes) spell meaning (at k) o).seen.deed) by.is
          ∙ ap (λ (o : Option Kept). dest_deed o (length (past k)) (m.dest_volume by.step.after.dest) by.step.parts.dest) by.cut;
    }

  -- ---- along the run

  module _ (ordered : AreOrdered) (stay : TheyStay) (ended : TheyEnd)
      (keeps : (k : ℕ) → cut k ≡ None → (world (suc k)).dest.state.machine.store.volume.boot ≡ (world k).dest.state.machine.store.volume.boot)
      (rises : (k : ℕ) (kept : Kept) → cut k ≡ Some kept
      → (world k).dest.state.machine.store.volume.boot < (world (suc k)).dest.state.machine.store.volume.boot)
      (fresh : (k : ℕ) (kept : Kept) → cut k ≡ Some kept → jobs (suc k) ≡ [])
      (k : ℕ) (kept : Kept) (some : cut k ≡ Some kept) where
    were : run.made k ≡ length (past k) + length (jobs k)
    unfolding system_of
    were = ordered.count (past k) (jobs k)

    past_many : length (past (suc k)) ≡ length (past k) + length (jobs k)
    past_many = many_after m (telling codes) spell meaning first steps ordered stay ended keeps rises fresh k kept some

    are : run.made (suc k) ≡ length (past (suc k))
    unfolding system_of
    are =
        let count = ordered.count (past (suc k)) (jobs (suc k)) in
        let none = ap (λ (xs : List Job). length xs) (fresh k kept some) in
        omega (arith, count, none)

    none_new : run.made (suc k) ≡ run.made k
    none_new = are ∙ past_many ∙ sym were

    ends : (j : ℕ) → j < run.made k → job (suc k) j ≡ lost (job k j)
    ends j there =
        job_ended m (telling codes) spell meaning first steps ordered stay ended keeps rises fresh k j kept some (let all = were in omega (arith, there, all))

    none_there : (j : ℕ) → run.made k ≤ j → job (suc k) j ≡ no_job
    none_there j le =
        let boot = (world k).dest.state.machine.store.volume.boot in
        ap (λ (p : List Past). copy_at no_job p (jobs (suc k)) j)
        (past_ended m (telling codes) spell meaning first steps ordered stay ended keeps rises fresh k kept some)
        ∙ ap (λ (xs : List Job). copy_at no_job (past_after boot (past k) (jobs k)) xs j) (fresh k kept some)
        ∙ ended.blank no_job boot (past k) (jobs k) j (let all = were in omega (arith, le, all))

    -- its next opening has no call to make for a job
    not_ready : (x base j : ℕ) → x ≡ 0 → base ≤ j → ready_behind base (ready_by x) (ForJob j) ≡ true → ⊥
    not_ready x base j none behind ready =
        let here : ready_behind base (ready_by x) (ForJob j) ≡ nat_lt (j - base) x =
        cond-false (nat_lt j base) true (nat_lt (j - base) x) (le-ltb j base behind) in
        let zeroth : nat_lt (j - base) x ≡ false = ap (λ (n : ℕ). nat_lt (j - base) n) none ∙ le-ltb (j - base) 0 (omega arith) in
        false≢true (sym zeroth ∙ sym here ∙ ready)

    made_before : (holds : (worker : ℕ) → holds_at (world (suc k)).dest worker ≡ None) → made_in (world (suc k)).dest ≡ 0 → (j : ℕ)
        → (run.caller Source Dest (suc k)).ready (ForJob j) ≡ true → j < run.made (suc k)
    unfolding system_of
    made_before holds none j ready =
        ⊎_elim (λ (there : j < length (past (suc k))). let all = are in omega (arith, all, there))
        (λ (behind : length (past (suc k)) ≤ j). absurd (not_ready (made_in (world (suc k)).dest) (length (past (suc k))) j none behind ready))
        (cases_lt j (length (past (suc k))))

    pub loses_all : ((j : ℕ) → (job k j).stable ≡ true → is_safe (job k j) ≡ true) → ((worker : ℕ) → holds_at (world (suc k)).dest worker ≡ None)
        → made_in (world (suc k)).dest ≡ 0 → LosesAll run k
    unfolding system_of
    loses_all safe holds none = record {
      crash = crash k kept some;
      made = none_new;
      copy = ends;
      blank = λ j le. record { entries = ap (λ (x : Job). x.entries) (none_there j le); stable = ap (λ (x : Job). x.stable) (none_there j le) };
      unretired = λ j le. ap (λ (x : Job). x.retired) (none_there j le);
      reach = λ j there.
          let all = were in
          let many = past_many in
          let lasts =
          lasts_to_end m (telling codes) spell meaning first steps ordered stay ended keeps rises fresh (suc k) j (omega (arith, there, all, many)) in
          let same = ap (λ (xs : List Entry). len_of xs) (lasts ∙ ap (λ (x : Job). x.entries) (ends j there)) in
          omega (arith, same);
      safe = safe;
      none_held = λ worker. ap (λ (o : Option Chunk). option_map (chunk_behind (length (past (suc k)))) o) (holds worker);
      ready = made_before holds none;
    }

    pub keeps_names : (table_in (world k).dest).boot ≡ (world k).dest.state.machine.store.volume.boot → KeepsNames run k
    unfolding system_of
    keeps_names table =
        let boot = (world k).dest.state.machine.store.volume.boot in
        record {
          made = none_new;
          names = λ j there.
              ap (λ (p : List Past). name_at (table_boot (world (suc k))) p j)
              (past_ended m (telling codes) spell meaning first steps ordered stay ended keeps rises fresh k kept some)
              ∙ ended.names boot (table_boot (world (suc k))) (past k) (jobs k) j (let all = were in omega (arith, there, all))
              ∙ ap (λ (n : ℕ). name_at n (past k) j) (sym table);
        }
