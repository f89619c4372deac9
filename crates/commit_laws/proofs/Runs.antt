-- In every run a COMMIT keeps what was written before it.
use Rattle.std.proofs.Common.{◌≡◌, ◌⊎◌, inl, inr, ⊎_elim, ℕ, zero, suc, ◌+◌, ◌-◌, ◌^◌, ◌<◌, ◌≤◌, List, [], ◌∷◌, ◌++◌, Option, length, drop, append_assoc, refl, sym, ap, subst, ◌∙◌, arith}
use Rattle.std.specs.Int.{w64, from_be_bytes}
use Rattle.std.proofs.lemmas.Bool.{cases_lt}
use Rattle.std.proofs.lemmas.Nat.{from_be_bytes-to_be_bytes_8}
use Rattle.block_file.specs.Opened.{IsFresh}
use Rattle.copy_model.specs.Effect.{Crashes, IsFirm, Writes, after}
use Rattle.copy_model.specs.Volume.{Kept, Volume, byte_at}
use Rattle.file_ops.specs.declared.args.FileArg.TheVariants as args
use Rattle.file_ops.specs.declared.files.WriteDone.{WriteDone}
use Rattle.file_server.specs.Writing.{taken_bytes}
use Rattle.gss_mech.specs.declared.mechanism.Accepted.{Accepted}
use Rattle.nfs_compound.specs.declared.op.Op.{Op}
use Rattle.nfs_compound.specs.declared.op.Op.TheVariants.{File}
use Rattle.nfs_compound.specs.declared.tail.Tail.TheVariants.{Whole}
use Rattle.server_volume.specs.Calls as calls
use Rattle.server_volume.specs.Calls.{done_by}
use Rattle.server_volume.specs.Choices.{choice_of}
use Rattle.server_volume.specs.Moments.{uses_of}
use Rattle.server_volume.specs.Store.{Store}
use Rattle.server_volume.specs.declared.used.CallAnswer.TheVariants.{Done}
use Rattle.server_volume.specs.declared.used.Used.{Used}
use Rattle.streams.specs.declared.draws.Drawn.{Drawn}
use Rattle.wire_xdr.specs.Words.{hyper_bytes}
use Rattle.compound_server.specs.Course.{Performed}
use Rattle.compound_server.specs.Performing.{perform}
use Rattle.session_server.specs.Host.{Codes, HostState, Rules}
use Rattle.commit_laws.specs.Calling.{CameByCalls}
use Rattle.commit_laws.specs.CallLaws.{by_none}
use Rattle.commit_laws.specs.Commits.{AreAmong, AreWriting, IsAmong, IsCommit, IsWrite, IsWrittenOver, KeepsCommits, used_behind}
use Rattle.commit_laws.specs.Executing.{Executed}
use Rattle.commit_laws.specs.Run.{Event, Happens, IsRun, Stopped, Stops, Takes, Ticks, Works, executed_in, store_of, used_in}
use Rattle.commit_laws.proofs.Answered.{Committed, Written, commit_performed, write_performed}
use Rattle.commit_laws.proofs.CompoundCalls.{Stands}
use Rattle.commit_laws.proofs.Kept.{behind_first, behind_second, came_boot, came_fit, came_holds, came_longer, came_shows, earlier_writes, part_behind, part_writes}
use Rattle.commit_laws.proofs.StepCalls.{StandsAt, turn_goes, turn_stands}
use Rattle.commit_laws.proofs.Volumes.{EffectLaws, Holds, IsFit, ShowsOnly, crash_boot, effect_shows, is_allowed, left_fit, left_holds}
use Rattle.commit_laws.proofs.WalkCalls.{ServesByCalls, passes, perform_runs}

-- two openings with one verifier are one
one_opening : (m n : ℕ) → m < 2 ^ 32 → n < 2 ^ 32 → hyper_bytes m ≡ hyper_bytes n → m ≡ n
unfolding hyper_bytes
one_opening m n small few same =
    sym (from_be_bytes-to_be_bytes_8 m (omega (arith, small))) ∙ ap (λ (l : List ℕ). from_be_bytes w64 l) same ∙ from_be_bytes-to_be_bytes_8 n (omega (arith, few))

-- how a step comes to the next state
abbrev Comes : (old new : Store) → List Used → Type 0
Comes old new used = CameByCalls old new [] used ⊎ ((under : Option ℕ) × ((kept : Kept) × Stopped old new used under kept))

fresh_fit : (v : Volume) → IsFresh v → IsFit v
fresh_fit v fresh = record {
  firm = record {
    certain = λ whole. fresh.certain;
    there = λ d is. absurd (let none = fresh.certain in let wrong = sym none ∙ is in cc);
  };
  few = let none = fresh.unwritten in omega arith;
  boot = fresh.boot_fits;
}

none_among : {X : Type 0} (front : List (Executed X)) (e : Executed X) (back : List (Executed X)) → [] ≡ front ++ e ∷ back → ⊥
none_among [] e back is = absurd cc
none_among (x ∷ xs) e back is = absurd cc

module _ {X C W : Type 0} (laws : EffectLaws) (rules : Rules X C) (serves : ServesByCalls rules.service) (codes : Codes) (accepted : List ℕ → List ℕ → Option Accepted)
    (gives : W → Drawn → W → Type 0) where
  comes : (event : Event) (s t : HostState X C) → Happens rules codes accepted gives event s t → Comes (store_of s) (store_of t) (used_in event)
  comes (Takes conn bytes now out) s t happens =
      inl (turn_goes rules serves codes accepted gives conn bytes now s happens.0 happens.1.0 (record { host = t; out = out }) happens.1.1)
  comes (Ticks now) s t happens = inl (by_none (store_of s) (store_of t) [] [] (ap store_of happens) refl)
  comes (Works used) s t happens = inl happens
  comes (Stops used under kept) s t happens = inr (under, (kept, happens))

  stands : (event : Event) (s t : HostState X C) → Happens rules codes accepted gives event s t → (front : List (Executed X)) (e : Executed X) (back : List (Executed X))
      → executed_in rules codes event s ≡ front ++ e ∷ back → StandsAt rules s t (used_in event) e back
  stands (Takes conn bytes now out) s t happens front e back is =
      turn_stands rules serves codes accepted gives conn bytes now s happens.0 happens.1.0 (record { host = t; out = out }) happens.1.1 front e back is
  stands (Ticks now) s t happens front e back is = absurd (none_among front e back is)
  stands (Works used) s t happens front e back is = absurd (none_among front e back is)
  stands (Stops used under kept) s t happens front e back is = absurd (none_among front e back is)

  comes_fit : (old new : Store) (used : List Used) → Comes old new used → IsFit old.volume → IsFit new.volume
  comes_fit old new used (inl came) fit = came_fit laws old new [] used came fit
  comes_fit old new used (inr (under, (kept, stopped))) fit =
      let left = came_fit laws old stopped.left [] used stopped.calls fit in
      record {
        firm = subst IsFirm (sym stopped.opened) (laws.firm stopped.left.volume stopped.left.volume (Crashes under kept) left.firm refl stopped.allowed);
        few = let none : 0 < 2 ^ 32 = omega arith in subst (λ (v : Volume). v.writes < 2 ^ 32) (sym stopped.opened) none;
        boot = stopped.numbered;
      }

  stop_boot : (old new : Store) (used : List Used) (under : Option ℕ) (kept : Kept) → Stopped old new used under kept → new.volume.boot ≡ old.volume.boot + 1
  stop_boot old new used under kept stopped =
      ap (λ (v : Volume). v.boot) stopped.opened ∙ crash_boot stopped.left.volume under kept
      ∙ ap (λ n. n + 1) (came_boot old stopped.left [] used stopped.calls)

  -- a number of an opening doesn't fall, and where it stays calls alone were made
  comes_boot : (old new : Store) (used : List Used) → Comes old new used → old.volume.boot ≤ new.volume.boot
  comes_boot old new used (inl came) = omega (arith, came_boot old new [] used came)
  comes_boot old new used (inr (under, (kept, stopped))) = omega (arith, stop_boot old new used under kept stopped)

  same_opening : (old new : Store) (used : List Used) → Comes old new used → new.volume.boot ≡ old.volume.boot → CameByCalls old new [] used
  same_opening old new used (inl came) same = came
  same_opening old new used (inr (under, (kept, stopped))) same = absurd (omega (arith, stop_boot old new used under kept stopped))

  comes_shows : (file place value : ℕ) (old new : Store) (used : List Used) → Comes old new used → IsFit old.volume → (AreWriting used file place → ⊥)
      → ShowsOnly old.volume file place value → ShowsOnly new.volume file place value
  comes_shows file place value old new used (inl came) fit out only =
      came_shows laws file place value old new [] used came fit (λ h. out (part_writes old new [] used came file place h)) only
  comes_shows file place value old new used (inr (under, (kept, stopped))) fit out only =
      let left = stopped.left in
      let before = came_shows laws file place value old left [] used stopped.calls fit (λ h. out (part_writes old left [] used stopped.calls file place h)) only in
      subst (λ (v : Volume). ShowsOnly v file place value) (sym stopped.opened)
      (effect_shows laws left.volume (Crashes under kept) file place value stopped.allowed (λ h. h) before)

  module _ (host : ℕ → HostState X C) (event : ℕ → Event) (run : IsRun rules codes accepted gives host event) where
    abbrev seen : ℕ → Store
    seen k = store_of (host k)

    step : (k : ℕ) → Comes (seen k) (seen (suc k)) (used_in (event k))
    step k = comes (event k) (host k) (host (suc k)) (run.happens k)

    fit : (k : ℕ) → IsFit (seen k).volume
    fit zero = fresh_fit (seen zero).volume run.fresh
    fit (suc k) = comes_fit (seen k) (seen (suc k)) (used_in (event k)) (step k) (fit k)

    rises : (i k : ℕ) → i ≤ k → (seen i).volume.boot ≤ (seen k).volume.boot
    rises i zero le = let same : i ≡ zero = omega arith in subst (λ n. (seen n).volume.boot ≤ (seen zero).volume.boot) (sym same) (omega arith)
    rises i (suc k) le =
        ⊎_elim
        (λ (before : i < suc k).
        let first = rises i k (omega arith) in
        let last = comes_boot (seen k) (seen (suc k)) (used_in (event k)) (step k) in
        omega (arith, first, last))
        (λ (end : suc k ≤ i). let same : i ≡ suc k = omega arith in subst (λ n. (seen n).volume.boot ≤ (seen (suc k)).volume.boot) (sym same) (omega arith))
        (cases_lt i (suc k))

    -- ---- a byte that was written in step i, until step j, and that was committed in it, from then on

    module _ (i j : ℕ) (before : i < j) (boots : (seen j).volume.boot ≡ (seen (suc i)).volume.boot) (file place value : ℕ) where
      held : (k : ℕ) → i < k → k ≤ j → ((l : ℕ) → i < l → l < k → AreWriting (used_in (event l)) file place → ⊥)
          → Holds (seen (suc i)).volume file place value → Holds (seen k).volume file place value
      held zero after le out holds = absurd (omega arith)
      held (suc k) after le out holds =
          ⊎_elim
          (λ (behind : i < k).
          let here = held k behind (omega arith) (λ l from below. out l from (omega arith)) holds in
          let low = rises (suc i) k (omega arith) in
          let mid = rises k (suc k) (omega arith) in
          let high = rises (suc k) j le in
          let came = same_opening (seen k) (seen (suc k)) (used_in (event k)) (step k) (omega (arith, low, mid, high, boots)) in
          came_holds laws file place value (seen k) (seen (suc k)) [] (used_in (event k)) came (fit k)
          (λ h. out k behind (omega arith) (part_writes (seen k) (seen (suc k)) [] (used_in (event k)) came file place h)) here)
          (λ (end : k ≤ i). let same : i ≡ k = omega arith in subst (λ n. Holds (seen (suc n)).volume file place value) same holds)
          (cases_lt i k)

    -- from moment j + 1 on
    shown : (j file place value m : ℕ) → j < m → ((l : ℕ) → j < l → l < m → AreWriting (used_in (event l)) file place → ⊥)
        → ShowsOnly (seen (suc j)).volume file place value → ShowsOnly (seen m).volume file place value
    shown j file place value zero after out only = absurd (omega arith)
    shown j file place value (suc m) after out only =
        ⊎_elim
        (λ (behind : j < m).
        let here = shown j file place value m behind (λ l from below. out l from (omega arith)) only in
        comes_shows file place value (seen m) (seen (suc m)) (used_in (event m)) (step m) (fit m) (out m behind (omega arith)) here)
        (λ (end : m ≤ j). let same : j ≡ m = omega arith in subst (λ n. ShowsOnly (seen (suc n)).volume file place value) same only)
        (cases_lt j m)

    -- ---- the WRITE

    written_holds : (old new : Store) (file off : ℕ) (bytes verifier : List ℕ) (place : ℕ) → Written old new file off bytes verifier → IsFit old.volume
        → off ≤ place → place < off + length bytes → Holds new.volume file place (byte_at bytes (place - off))
    written_holds old new file off bytes verifier place w fits from below =
        let middle = done_by (calls.Writes file off bytes) old in
        let value = byte_at bytes (place - off) in
        let allowed = is_allowed (calls.Writes file off bytes) Done old fits.few w.serves in
        let first : Holds middle.volume file place value =
        λ whole. laws.written old.volume (Writes file off bytes) file off bytes place refl allowed (refl, from, below) in
        let middle_fit = left_fit laws (calls.Writes file off bytes) Done old w.serves fits in
        elim w.settled [
          | inl same ↦ subst (λ (x : Store). Holds x.volume file place value) (sym same) first
          | inr synced ↦ subst (λ (x : Store). Holds x.volume file place value) (sym synced.1)
              (left_holds laws (calls.Commits file) Done middle file place value synced.0 middle_fit (λ h. h) first)
        ]

    -- ---- the COMMIT

    committed_shows : (old new : Store) (file : ℕ) (verifier : List ℕ) (place value : ℕ) → Committed old new file verifier → IsFit old.volume
        → Holds old.volume file place value → ShowsOnly new.volume file place value
    committed_shows old new file verifier place value c fits holds =
        subst (λ (x : Store). ShowsOnly x.volume file place value) (sym c.is)
        (λ x shows. laws.settles old.volume file place x fits.firm (c.served.whole, c.served.there) shows ∙ holds c.served.whole)

    -- ---- operations that were executed

    module _ (k : ℕ) (e : Executed X) (back : List (Executed X)) (carry : Option C)
        (s : Stands rules.service (choice_of (used_in (event k))) carry (seen k) (seen (suc k)) (used_in (event k)) e back) where
      abbrev answered_at : Store
      answered_at = e.answered.course.going.machine.store

      goes : CameByCalls e.found.going.machine.store answered_at e.found.going.used e.answered.course.going.used
      goes =
          subst (λ (a : Performed X). CameByCalls e.found.going.machine.store a.course.going.machine.store e.found.going.used a.course.going.used) (sym s.does)
          (perform_runs rules.service serves (choice_of (used_in (event k))) s.caller carry s.next e.op e.found)

      found_fit : IsFit e.found.going.machine.store.volume
      found_fit = came_fit laws (seen k) e.found.going.machine.store [] e.found.going.used s.to (fit k)

      answered_fit : IsFit answered_at.volume
      answered_fit = came_fit laws e.found.going.machine.store answered_at e.found.going.used e.answered.course.going.used goes found_fit

      found_boot : e.found.going.machine.store.volume.boot ≡ (seen k).volume.boot
      found_boot = came_boot (seen k) e.found.going.machine.store [] e.found.going.used s.to

      next_boot : (seen (suc k)).volume.boot ≡ e.found.going.machine.store.volume.boot
      next_boot =
          came_boot answered_at (seen (suc k)) e.answered.course.going.used (used_in (event k)) s.ends
          ∙ came_boot e.found.going.machine.store answered_at e.found.going.used e.answered.course.going.used goes

      -- as the operation that it is
      wrote : (file off : ℕ) (bytes verifier : List ℕ) → IsWrite e file off bytes verifier → Written e.found.going.machine.store answered_at file off bytes verifier
      wrote file off bytes verifier w =
          let done : WriteDone = record { count = w.count; committed = w.how; verifier = verifier } in
          let performs : Op → Performed X = λ op. perform rules.service (choice_of (used_in (event k))) s.caller carry s.next op e.found in
          let same : e.answered ≡ performs (File (args.Write w.asked)) = s.does ∙ ap performs w.op_is in
          let told = ap (λ (a : Performed X). a.res) (sym same) ∙ w.answer_is in
          let is = write_performed rules.service (choice_of (used_in (event k))) s.caller carry s.next e.found w.asked file done w.file_is told in
          subst (λ o. Written e.found.going.machine.store answered_at file o bytes verifier) w.off_is
          (subst (λ bs. Written e.found.going.machine.store answered_at file w.asked.offset bs verifier) w.bytes_are
          (subst (λ (a : Performed X). Written e.found.going.machine.store a.course.going.machine.store file w.asked.offset (taken_bytes w.asked.bytes) verifier) (sym same) is))

      commits : (file : ℕ) (verifier : List ℕ) → IsCommit e file verifier → Committed e.found.going.machine.store answered_at file verifier
      commits file verifier c =
          let performs : Op → Performed X = λ op. perform rules.service (choice_of (used_in (event k))) s.caller carry s.next op e.found in
          let same : e.answered ≡ performs (File (args.Commit c.asked)) = s.does ∙ ap performs c.op_is in
          let told = ap (λ (a : Performed X). a.res) (sym same) ∙ c.answer_is in
          let is = commit_performed rules.service (choice_of (used_in (event k))) s.caller carry s.next e.found c.asked file verifier c.file_is told in
          subst (λ (a : Performed X). Committed e.found.going.machine.store a.course.going.machine.store file verifier) (sym same) is

      -- what the step leaves of what was written in it
      write_holds : (file off : ℕ) (bytes verifier : List ℕ) (place : ℕ) → IsWrite e file off bytes verifier → off ≤ place → place < off + length bytes
          → (AreWriting (used_behind e (used_in (event k))) file place → ⊥) → Holds (seen (suc k)).volume file place (byte_at bytes (place - off))
      write_holds file off bytes verifier place w from below out =
          came_holds laws file place (byte_at bytes (place - off)) answered_at (seen (suc k)) e.answered.course.going.used (used_in (event k)) s.ends answered_fit
          (λ h. out (part_behind answered_at (seen (suc k)) e.answered.course.going.used (used_in (event k)) s.ends file place h))
          (written_holds e.found.going.machine.store answered_at file off bytes verifier place (wrote file off bytes verifier w) found_fit from below)

      -- and of what the COMMIT in it found
      commit_shows : (file : ℕ) (verifier : List ℕ) (place value : ℕ) → IsCommit e file verifier
          → ((h : AreWriting (uses_of answered_at s.ends.calls) file place) → ⊥)
          → Holds e.found.going.machine.store.volume file place value → ShowsOnly (seen (suc k)).volume file place value
      commit_shows file verifier place value c out holds =
          came_shows laws file place value answered_at (seen (suc k)) e.answered.course.going.used (used_in (event k)) s.ends answered_fit out
          (committed_shows e.found.going.machine.store answered_at file verifier place value (commits file verifier c) found_fit holds)

      -- the same of what was there before the step
      found_holds : (file place value : ℕ) → (AreWriting (used_in (event k)) file place → ⊥) → Holds (seen k).volume file place value
          → Holds e.found.going.machine.store.volume file place value
      found_holds file place value out holds =
          let before = e.found.going.used in
          let after = e.answered.course.going.used in
          let store = e.found.going.machine.store in
          let early : AreWriting before file place → ⊥ =
          λ h. out (earlier_writes answered_at (seen (suc k)) after (used_in (event k)) s.ends file place (earlier_writes store answered_at before after goes file place h)) in
          came_holds laws file place value (seen k) store [] before s.to (fit k) (λ h. early (part_writes (seen k) store [] before s.to file place h)) holds

      end_writes : (file place : ℕ) → AreWriting (uses_of answered_at s.ends.calls) file place → AreWriting (used_in (event k)) file place
      end_writes file place h = part_writes answered_at (seen (suc k)) e.answered.course.going.used (used_in (event k)) s.ends file place h

    -- ---- a COMMIT in a later step

    abbrev Executes : ℕ → List (Executed X) → Executed X → List (Executed X) → Type 0
    Executes k front e back = executed_in rules codes (event k) (host k) ≡ front ++ e ∷ back

    stood : (k : ℕ) (front : List (Executed X)) (e : Executed X) (back : List (Executed X)) → Executes k front e back
        → StandsAt rules (host k) (host (suc k)) (used_in (event k)) e back
    stood k front e back is = stands (event k) (host k) (host (suc k)) (run.happens k) front e back is

    later : (i j m : ℕ) (w c : Executed X) (file off : ℕ) (bytes verifier : List ℕ) (place : ℕ)
        → i < j → IsAmong (executed_in rules codes (event i) (host i)) w → IsAmong (executed_in rules codes (event j) (host j)) c
        → IsWrite w file off bytes verifier → IsCommit c file verifier
        → j < m → off ≤ place → place < off + length bytes → (IsWrittenOver event i w m file place → ⊥)
        → ShowsOnly (seen m).volume file place (byte_at bytes (place - off))
    later i j m w c file off bytes verifier place before w_in c_in w_is c_is after from below out =
        let value = byte_at bytes (place - off) in
        let ws = stood i w_in.front w w_in.back w_in.is in
        let cs = stood j c_in.front c c_in.back c_in.is in
        let wrote_it = wrote i w w_in.back ws.0 ws.1 file off bytes verifier w_is in
        let commits_it = commits j c c_in.back cs.0 cs.1 file verifier c_is in
        let opening : w.found.going.machine.store.volume.boot ≡ c.found.going.machine.store.volume.boot =
        one_opening w.found.going.machine.store.volume.boot c.found.going.machine.store.volume.boot
        (found_fit i w w_in.back ws.0 ws.1).boot (found_fit j c c_in.back cs.0 cs.1).boot (sym wrote_it.number ∙ commits_it.number) in
        let boots : (seen j).volume.boot ≡ (seen (suc i)).volume.boot =
        sym (found_boot j c c_in.back cs.0 cs.1) ∙ sym opening ∙ sym (next_boot i w w_in.back ws.0 ws.1) in
        let none : (l : ℕ) → i < l → l < m → AreWriting (used_in (event l)) file place → ⊥ = λ l past soon h. out (inr (l, past, soon, h)) in
        let first = write_holds i w w_in.back ws.0 ws.1 file off bytes verifier place w_is from below (λ h. out (inl h)) in
        let here = held i j before boots file place value j before (omega arith) (λ l past soon. none l past (omega arith)) first in
        let found = found_holds j c c_in.back cs.0 cs.1 file place value (none j before after) here in
        let done = commit_shows j c c_in.back cs.0 cs.1 file verifier place value c_is (λ h. none j before after (end_writes j c c_in.back cs.0 cs.1 file place h)) found in
        shown j file place value m after (λ l past soon. none l (omega arith) soon) done

    -- ---- and in the same one

    together : (j m : ℕ) (w c : Executed X) (file off : ℕ) (bytes verifier : List ℕ) (place : ℕ)
        → AreAmong (executed_in rules codes (event j) (host j)) w c → IsWrite w file off bytes verifier → IsCommit c file verifier
        → j < m → off ≤ place → place < off + length bytes → (IsWrittenOver event j w m file place → ⊥)
        → ShowsOnly (seen m).volume file place (byte_at bytes (place - off))
    together j m w c file off bytes verifier place both_in w_is c_is after from below out =
        let value = byte_at bytes (place - off) in
        let back = both_in.back in
        let behind = both_in.middle ++ c ∷ back in
        let ws = stood j both_in.front w behind both_in.is in
        let cs = stood j (both_in.front ++ w ∷ both_in.middle) c back (both_in.is ∙ sym (append_assoc both_in.front (w ∷ both_in.middle) (c ∷ back))) in
        let w_store = w.answered.course.going.machine.store in
        let w_used = w.answered.course.going.used in
        let c_store = c.found.going.machine.store in
        let c_used = c.found.going.used in
        let p = passes rules.service serves (choice_of (used_in (event j))) ws.1.caller ws.0 Whole ws.1.more w.answered.course both_in.middle c back ws.1.behind in
        let to : CameByCalls w_store c_store w_used c_used = p.to in
        let long = came_longer w_store c_store w_used c_used to in
        let wide = came_longer c_store c.answered.course.going.machine.store c_used c.answered.course.going.used (goes j c back cs.0 cs.1) in
        let over : (AreWriting (drop (length w_used) c.answered.course.going.used) file place) → ⊥ =
        λ h. out (inl (behind_first c.answered.course.going.machine.store (seen (suc j)) w_used c.answered.course.going.used (used_in (event j)) (omega (arith, long, wide)) cs.1.ends file place h)) in
        let between : AreWriting (uses_of w_store to.calls) file place → ⊥ =
        λ h. over (behind_first c_store c.answered.course.going.machine.store w_used c_used c.answered.course.going.used long (goes j c back cs.0 cs.1) file place
        (part_behind w_store c_store w_used c_used to file place h)) in
        let behind_it : AreWriting (uses_of c.answered.course.going.machine.store cs.1.ends.calls) file place → ⊥ =
        λ h. out (inl (behind_second c.answered.course.going.machine.store (seen (suc j)) w_used c.answered.course.going.used (used_in (event j)) (omega (arith, long, wide)) cs.1.ends file place h)) in
        let first = written_holds w.found.going.machine.store w_store file off bytes verifier place (wrote j w behind ws.0 ws.1 file off bytes verifier w_is) (found_fit j w behind ws.0 ws.1) from below in
        let found = came_holds laws file place value w_store c_store w_used c_used to (answered_fit j w behind ws.0 ws.1) between first in
        let done = commit_shows j c back cs.0 cs.1 file verifier place value c_is behind_it found in
        shown j file place value m after (λ l past soon h. out (inr (l, past, soon, h))) done

    pub kept : KeepsCommits rules codes host event
    kept i j m w c file off bytes verifier place x (inl before) w_is c_is after from below out shows =
        later i j m w c file off bytes verifier place before.0 before.1 before.2 w_is c_is after from below out x shows
    kept i j m w c file off bytes verifier place x (inr one) w_is c_is after from below out shows =
        together j m w c file off bytes verifier place one.1 w_is c_is after from below
        (subst (λ n. IsWrittenOver event n w m file place → ⊥) one.0 out) x shows
