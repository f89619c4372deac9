-- The system of a run shows that of its present opening behind the copies of those before.
use Rattle.std.proofs.Common.{◌≡◌, ⊎_elim, ℕ, zero, suc, ◌+◌, ◌-◌, ◌<◌, ◌≤◌, true, List, [], length, Option, Some, None, refl, sym, ap, subst, ◌∙◌, arith}
use Rattle.std.specs.Prelude.{drop, slice_get, slice_index_or}
use Rattle.std.specs.Option.{option_map}
use Rattle.std.proofs.lemmas.Bool.{cases_lt}
use Rattle.std.proofs.lemmas.List.{length-drop}
use Rattle.client_laws.specs.WholeTurns.{Purposes}
use Rattle.copy_model.specs.Job.{Entry}
use Rattle.copy_model.specs.Marks.{len_of}
use Rattle.dest_laws.specs.View.Steps.{table_in}
use Rattle.dest_laws.specs.View.View.{caller_in, holds_at}
use Rattle.nfs_base.specs.declared.seal.End.TheVariants.{Dest}
use Rattle.opening_laws.specs.Anew.{lost}
use Rattle.opening_laws.specs.Behind.{GoesBehind, ShowsBehind, caller_behind, chunk_behind, deed_behind}
use Rattle.past_copies.specs.Past.{Past, copy_at, name_at, name_of}
use Rattle.run_ends.specs.Ends.{RunMachines, RunStep, RunWorld, Words, machines}
use Rattle.run_promise.proofs.opening.Along.{next_past}
use Rattle.run_promise.proofs.opening.Known.{AreOrdered, TheyEnd, TheyStay}
use Rattle.run_promise.proofs.opening.Lasting.{are_past, ends_to_end, job_ended, job_same, lasts_to_end, many_after, most_at_last}
use Rattle.run_promise.proofs.opening.Segments.{all_up_to, cut_shifted, stays_up_to}
use Rattle.run_promise.specs.Opening.Openings.{IsOpening, StaysFor, began, cut_at, cut_in, opened_at, segment}
use Rattle.run_promise.specs.Opening.Systems.{OpeningsAreSafe, own_system}
use Rattle.run_promise.specs.System.System.{ClientView, opening_of, own_deed, system_of, telling}
use Rattle.session_server.specs.Host.{Codes}
use Rattle.volume_stops.specs.declared.kept.Kept.{Kept}
use Rattle.wire_machine.specs.History.{At, acts_of, at_moment, dest_deed, job_at, next, no_job}
use Rattle.wire_model.specs.Copies.{Deed, Job, is_safe}
use Rattle.wire_model.specs.Meaning.{Meaning}
use Rattle.wire_model.specs.Spelling.{Spelling}
use Rattle.wire_model.specs.System.{System}

module _ {M : Type 0} (words : Words M ℕ) (codes : Codes) (spell : Spelling) (meaning : Meaning) (seen : ClientView M) (first : RunWorld M)
    (steps : List (RunStep M)) (purposes : ℕ → Purposes) (ordered : AreOrdered) (stay : TheyStay) (ended : TheyEnd) where
  abbrev m : RunMachines M
  m = machines words

  abbrev at : ℕ → At m (telling codes) spell meaning
  at k = at_moment m (telling codes) spell meaning first steps k

  abbrev world : ℕ → RunWorld M
  world k = (at k).world

  abbrev past : ℕ → List Past
  past k = (at k).seen.past

  abbrev jobs : ℕ → List Job
  jobs k = (at k).seen.jobs

  abbrev job : ℕ → ℕ → Job
  job k j = job_at (at k).seen j

  abbrev cut : ℕ → Option Kept
  cut k = cut_at m (telling codes) spell meaning first steps k

  abbrev base : ℕ → ℕ
  base k = length (past k)

  abbrev from : ℕ → ℕ
  from k = began m (telling codes) spell meaning first steps k

  abbrev turn : ℕ → ℕ
  turn k = k - from k

  abbrev opened : ℕ → RunWorld M
  opened k = opened_at m (telling codes) spell meaning first steps k

  abbrev turns : ℕ → List (RunStep M)
  turns k = segment m (telling codes) spell meaning first steps k

  abbrev own_at : ℕ → ℕ → At m (telling codes) spell meaning
  own_at k i = at_moment m (telling codes) spell meaning (opened k) (turns k) i

  abbrev run : System
  run = system_of m codes spell meaning seen first steps purposes

  abbrev own : ℕ → System
  own k = own_system m codes spell meaning seen first steps purposes k

  abbrev table_boot : RunWorld M → ℕ
  table_boot w = (table_in w.dest).boot

  -- ---- at a moment of both

  shows_by : (k l i : ℕ) (b : ℕ) → length (past l) ≡ b → (own_at k i).world ≡ world l → (own_at k i).seen.jobs ≡ jobs l → ShowsBehind b (own k) i run l
  unfolding system_of opening_of
  shows_by k l i b many same seen_same = record {
    made =
        ordered.count (past l) (jobs l) ∙ ap (λ (n : ℕ). n + length (jobs l)) many
        ∙ ap (λ (xs : List Job). b + length xs) (sym seen_same);
    job = λ j.
        ap (λ (n : ℕ). copy_at no_job (past l) (jobs l) (n + j)) (sym many) ∙ ordered.copies no_job (past l) (jobs l) j
        ∙ ap (λ (xs : List Job). slice_index_or xs j no_job) (sym seen_same);
    name = λ j.
        ap (λ (n : ℕ). name_at (table_boot (world l)) (past l) (n + j)) (sym many) ∙ ordered.names (table_boot (world l)) (past l) j
        ∙ ap (λ (w : RunWorld M). name_of (table_boot w) (j + 1)) (sym same);
    holds = λ worker.
        ap (λ (n : ℕ). option_map (chunk_behind n) (holds_at (world l).dest worker)) many
        ∙ ap (λ (w : RunWorld M). option_map (chunk_behind b) (holds_at w.dest worker)) (sym same);
    caller =
        ap (λ (n : ℕ). caller_behind n (caller_in (world l).dest)) many ∙ ap (λ (w : RunWorld M). caller_behind b (caller_in w.dest)) (sym same);
  }

  -- ---- in a step in which the destination doesn't stop

  abbrev deed_in : ℕ → Option (RunStep M) → Deed
  deed_in k o = own_deed m codes spell meaning seen (opened k) (turns k) (λ i. purposes (from k + i)) o

  deed_on : (k : ℕ) (o : Option (RunStep M)) → cut_in (world k) o ≡ None
      → (next m (telling codes) spell meaning (at k) o).seen.deed ≡ deed_behind (base k) (deed_in k o)
  deed_on k None none = refl
  deed_on k (Some s) none = ap (λ (o : Option Kept). dest_deed o (base k) (m.dest_volume s.after.dest) s.parts.dest) none

  deed_same : (k : ℕ) → cut k ≡ None → slice_get (turns k) (turn k) ≡ slice_get steps k → run.deed k ≡ deed_behind (base k) ((own k).deed (turn k))
  unfolding system_of opening_of
  deed_same k none step = deed_on k (slice_get steps k) none ∙ ap (λ (o : Option (RunStep M)). deed_behind (base k) (deed_in k o)) (sym step)

  acts_same : (k : ℕ) → (own_at k (turn k)).world ≡ world k → slice_get (turns k) (turn k) ≡ slice_get steps k → run.acts Dest k ≡ (own k).acts Dest (turn k)
  unfolding system_of opening_of
  acts_same k same step =
      ap (λ (w : RunWorld M). acts_of m (telling codes) spell meaning w (slice_get steps k) Dest) (sym same)
      ∙ ap (λ (o : Option (RunStep M)). acts_of m (telling codes) spell meaning (own_at k (turn k)).world o Dest) (sym step)

  -- ---- the moments of the opening

  module _ (k : ℕ) (is : IsOpening m (telling codes) spell meaning first steps k) where
    here : from k + turn k ≡ k
    here = let before = is.before in omega (arith, before)

    world_now : (own_at k (turn k)).world ≡ world k
    world_now = is.world (turn k) is.stays ∙ ap world here

    jobs_now : (own_at k (turn k)).seen.jobs ≡ jobs k
    jobs_now = is.jobs (turn k) is.stays ∙ ap jobs here

    past_now : past k ≡ past (from k)
    past_now = ap past (sym here) ∙ is.past (turn k) is.stays

    pub shows : ShowsBehind (base k) (own k) (turn k) run k
    shows = shows_by k k (turn k) (base k) refl world_now jobs_now

    module _ (none : cut k ≡ None) where
      stays_on : StaysFor m (telling codes) spell meaning first steps (from k) (suc (turn k))
      stays_on l below =
          ⊎_elim (λ (earlier : l < turn k). is.stays l earlier)
          (λ (last : turn k ≤ l).
          let number : k ≡ from k + l = let at_k = here in omega (arith, last, below, at_k) in
          subst (λ (n : ℕ). cut n ≡ None) number none)
          (cases_lt l (turn k))

      there : from k + suc (turn k) ≡ suc k
      there = let before = is.before in omega (arith, before)

      world_then : (own_at k (suc (turn k))).world ≡ world (suc k)
      world_then = is.world (suc (turn k)) stays_on ∙ ap world there

      jobs_then : (own_at k (suc (turn k))).seen.jobs ≡ jobs (suc k)
      jobs_then = is.jobs (suc (turn k)) stays_on ∙ ap jobs there

      step_now : slice_get (turns k) (turn k) ≡ slice_get steps k
      step_now = is.step (turn k) stays_on ∙ ap (λ (n : ℕ). slice_get steps n) here

      past_then : past (suc k) ≡ past k
      past_then = next_past m (telling codes) spell meaning (at k) (slice_get steps k) none

      pub volumes : (run.dest k ≡ (own k).dest (turn k)) × (run.dest (suc k) ≡ (own k).dest (suc (turn k)))
      unfolding system_of opening_of
      volumes = (ap (λ (w : RunWorld M). m.dest_volume w.dest) (sym world_now), ap (λ (w : RunWorld M). m.dest_volume w.dest) (sym world_then))

    -- ---- the one at which it ends

    abbrev over : ℕ
    over = from k + length (turns k)

    stays_over : StaysFor m (telling codes) spell meaning first steps (from k) (length (turns k))
    stays_over l below =
        sym (cut_shifted m (telling codes) spell meaning first steps (from k) l)
        ∙ stays_up_to m (telling codes) spell meaning (opened k) (drop (from k) steps) l below

    jobs_over : (own_at k (length (turns k))).seen.jobs ≡ jobs over
    jobs_over = is.jobs (length (turns k)) stays_over

    past_over : past over ≡ past k
    past_over = is.past (length (turns k)) stays_over ∙ sym past_now

    ends_late : cut over ≡ None → length steps ≤ over
    ends_late none =
        let all = all_up_to m (telling codes) spell meaning (opened k) (drop (from k) steps)
        (cut_shifted m (telling codes) spell meaning first steps (from k) (length (turns k)) ∙ none) in
        let rest = length-drop (from k) steps in
        omega (arith, all, rest)

  -- ---- along the run

  module _ (is : (k : ℕ) → IsOpening m (telling codes) spell meaning first steps k)
      (keeps : (k : ℕ) → cut k ≡ None → (world (suc k)).dest.state.machine.store.volume.boot ≡ (world k).dest.state.machine.store.volume.boot)
      (rises : (k : ℕ) (kept : Kept) → cut k ≡ Some kept
      → (world k).dest.state.machine.store.volume.boot < (world (suc k)).dest.state.machine.store.volume.boot)
      (fresh : (k : ℕ) (kept : Kept) → cut k ≡ Some kept → jobs (suc k) ≡ []) where
    -- a copy takes as much room as its length is in the end
    reach_same : (k i j : ℕ) → j < (own k).made i → run.reach (base k + j) ≡ (own k).reach j
    unfolding system_of opening_of
    reach_same k i j made =
        let last = length (turns k) in
        let e = over k (is k) in
        let most = most_at_last m (telling codes) spell meaning (opened k) (turns k) (is k).never i in
        let many = ap (λ (xs : List Job). length xs) (jobs_over k (is k)) in
        let within = ap (λ (p : List Past). length p) (past_over k (is k)) in
        let ends = ends_to_end m (telling codes) spell meaning first steps ordered stay ended keeps rises fresh e (base k + j) (ends_late k (is k))
        (omega (arith, made, most, many, within)) in
        ap (λ (xs : List Entry). len_of xs) ends
        ∙ ap (λ (n : ℕ). len_of (job e (n + j)).entries) (sym within)
        ∙ ap (λ (x : Job). len_of x.entries) (ordered.copies no_job (past e) (jobs e) j)
        ∙ ap (λ (xs : List Job). len_of (slice_index_or xs j no_job).entries) (sym (jobs_over k (is k)))

    module _ (safe : OpeningsAreSafe m codes spell meaning seen first steps purposes) where
      -- ---- what is reported as stable is safe

      lost_safe : (x y : Job) → y ≡ lost x → (x.stable ≡ true → is_safe x ≡ true) → y.stable ≡ true → is_safe y ≡ true
      lost_safe x y same was up = ap (λ (z : Job). is_safe z) same ∙ was (sym (ap (λ (z : Job). z.stable) same) ∙ up)

      same_safe : (x y : Job) → y ≡ x → (x.stable ≡ true → is_safe x ≡ true) → y.stable ≡ true → is_safe y ≡ true
      same_safe x y same was up = ap (λ (z : Job). is_safe z) same ∙ was (sym (ap (λ (z : Job). z.stable) same) ∙ up)

      own_job_is : (k j : ℕ) → base k ≤ j → job k j ≡ (own k).job (turn k) (j - base k)
      unfolding opening_of
      own_job_is k j behind =
          let number : j ≡ base k + (j - base k) = omega (arith, behind) in
          ap (λ (n : ℕ). job k n) number ∙ ordered.copies no_job (past k) (jobs k) (j - base k)
          ∙ ap (λ (xs : List Job). slice_index_or xs (j - base k) no_job) (sym (jobs_now k (is k)))

      safe_by : (k j : ℕ) → (j < base k → (job k j).stable ≡ true → is_safe (job k j) ≡ true) → (job k j).stable ≡ true → is_safe (job k j) ≡ true
      safe_by k j earlier up =
          ⊎_elim (λ (there : j < base k). earlier there up)
          (λ (behind : base k ≤ j). same_safe ((own k).job (turn k) (j - base k)) (job k j) (own_job_is k j behind) (safe k (turn k) (j - base k)) up)
          (cases_lt j (base k))

      safe_next : (k j : ℕ) (o : Option Kept) → cut k ≡ o → (j < base k → (job k j).stable ≡ true → is_safe (job k j) ≡ true) → j < base (suc k)
          → (job (suc k) j).stable ≡ true → is_safe (job (suc k) j) ≡ true
      safe_next k j None none earlier there =
          let many = ap (λ (p : List Past). length p) (next_past m (telling codes) spell meaning (at k) (slice_get steps k) none) in
          let was : j < base k = omega (arith, many, there) in
          same_safe (job k j) (job (suc k) j)
          (job_same m (telling codes) spell meaning first steps ordered stay ended keeps rises fresh k j none was) (earlier was)
      safe_next k j (Some kept) some earlier there =
          let many = many_after m (telling codes) spell meaning first steps ordered stay ended keeps rises fresh k kept some in
          lost_safe (job k j) (job (suc k) j)
          (job_ended m (telling codes) spell meaning first steps ordered stay ended keeps rises fresh k j kept some (omega (arith, many, there)))
          (safe_by k j earlier)

      past_safe : (k j : ℕ) → j < base k → (job k j).stable ≡ true → is_safe (job k j) ≡ true
      past_safe zero j there = absurd (omega (arith, there))
      past_safe (suc k) j there = safe_next k j (cut k) refl (past_safe k j) there

      pub all_safe : (k j : ℕ) → (job k j).stable ≡ true → is_safe (job k j) ≡ true
      all_safe k j up = safe_by k j (past_safe k j) up

      -- ---- in all

      module _ (table : (k : ℕ) → (table_in (world k).dest).boot ≡ (world k).dest.state.machine.store.volume.boot) where
        pub goes_behind : (k : ℕ) → cut k ≡ None → GoesBehind (base k) (own k) (turn k) run k
        unfolding system_of opening_of
        goes_behind k none =
            let many = ap (λ (p : List Past). length p) (past_then k (is k) none) in
            let are = are_past m (telling codes) spell meaning first steps ordered stay ended keeps rises fresh k in
            let boot = (world k).dest.state.machine.store.volume.boot in
            let later : table_boot (own_at k (suc (turn k))).world ≡ boot = ap table_boot (world_then k (is k) none) ∙ table (suc k) ∙ keeps k none in
            record {
              before = shows k (is k);
              after = shows_by k (suc k) (suc (turn k)) (base k) many (world_then k (is k) none) (jobs_then k (is k) none);
              deed = deed_same k none (step_now k (is k) none);
              acts = acts_same k (world_now k (is k)) (step_now k (is k) none);
              reach = λ j made. reach_same k (suc (turn k)) j made;
              past = λ j there. job_same m (telling codes) spell meaning first steps ordered stay ended keeps rises fresh k j none there;
              lost = λ j there. stay.gone boot no_job (past k) (jobs k) j are there;
              room = λ j there.
                  let lasts = lasts_to_end m (telling codes) spell meaning first steps ordered stay ended keeps rises fresh k j there in
                  let last = ap (λ (xs : List Entry). len_of xs) lasts in
                  omega (arith, last);
              safe = λ j there up. past_safe k j there up;
              names = λ j there.
                  ap (λ (p : List Past). name_at (table_boot (world (suc k))) p j) (past_then k (is k) none)
                  ∙ stay.names (table_boot (world (suc k))) (table_boot (world k)) (past k) j there;
              others = λ j l there same.
                  stay.others boot (l + 1) (table_boot (world k)) (past k) j are there (same ∙ ap (λ (n : ℕ). name_of n (l + 1)) later);
            }
