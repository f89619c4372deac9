-- A run from its beginning to its end.
use Rattle.std.proofs.Common.{◌≡◌, inl, ℕ, true, Option, None, Some, List, [], length, refl, sym, ap, subst, append-nil, arith, IsTrue}
use Rattle.std.proofs.KnownBytes.{Appends-nil}
use Rattle.nfs_base.specs.declared.side.Side.{Side}
use Rattle.nfs_base.specs.declared.side.Side.TheVariants.{Source, Dest}
use Rattle.streams.specs.Stream.{Taking}
use Rattle.wire_machine.specs.Check.{Reading}
use Rattle.wire_machine.specs.Runs.{Numbered, events_in}
use Rattle.run_ends.specs.Ends.{RunMachines}
use Rattle.wire_run.specs.Running.{Running, armed_of, at_rest, mech_of, world_in}
use Rattle.wire_run.specs.Run.{RanOut}
use Rattle.wire_run.specs.Trace.{EndPuts, Happen, IsCut, events_at}
use Rattle.wire_run.specs.declared.run.Ran.{Ran}
use Rattle.wire_run.specs.declared.run.Ran.TheVariants as ran
use Rattle.wire_run.proofs.Ending.{ReadsVolumes, failed_last, whole}
use Rattle.wire_run.proofs.Final.{Ended, rose_later}
use Rattle.wire_run.proofs.Later.{blamed_none, later_same}
use Rattle.wire_run.proofs.Middle.{InRun}
use Rattle.wire_run.proofs.Tracing.{cut_in, ends_in, events_of_entries, faults_along, through}
use Rattle.wire_schedule.specs.Admission.{at_start, is_ready}
use Rattle.wire_schedule.specs.Expansion.{are_admitted, events_of_all}
use Rattle.wire_schedule.specs.declared.directive.Entry.{Entry}
use Rattle.wire_schedule.specs.declared.context.Context.{Context}
use Rattle.wire_schedule.specs.declared.event.Event.{Event}

-- the events of a schedule may come one after the other
pub schedule_admitted : (context : Context) (entries : List Entry) → context ≡ at_start → IsTrue (are_admitted at_start (events_of_all entries))
    → IsTrue (are_admitted context (events_at (events_in entries)))
schedule_admitted context entries is admitted =
    subst (λ (c : Context). IsTrue (are_admitted c (events_at (events_in entries)))) (sym is)
    (subst (λ (events : List Event). IsTrue (are_admitted at_start events)) (sym (events_of_entries entries)) admitted)

module _ {D M : Type 0} (told : Type 0) (m : RunMachines M) (read : Reading) (faults size : D → ℕ) where
  begins : (start : Running D M) (taken : Option (List ℕ)) → start ≡ at_rest (mech_of start) start.source start.dest
      → InRun told m read faults size [] start start taken taken
  begins start taken is = record {
    steps = [];
    choices = ap (λ (r : Running D M). r.choices) is;
    armed = λ side armed. absurd (unarmed side armed);
    lit = λ side armed. absurd (unarmed side armed);
    asked = λ none. refl;
    blamed = blamed_none M;
    source = later_same faults size start.source;
    dest = later_same faults size start.dest;
    room = refl;
    stands = inl (record {
      none = refl;
      source_later = later_same faults size start.source;
      dest_later = later_same faults size start.dest;
      quiet = Appends-nil taken;
      idle = λ w. (refl, refl);
      rest = record {
        client = ap (λ (r : Running D M). r.client) is;
        draws = ap (λ (r : Running D M). r.draws) is;
        clock = ap (λ (r : Running D M). r.clock) is;
        log = ap (λ (r : Running D M). r.log) is;
        choices = ap (λ (r : Running D M). r.choices) is;
      };
      early = ap (λ (r : Running D M). is_ready r.context) is;
      alone = ap (λ (r : Running D M). world_in r) is;
      source_state = None;
      source_is = ap (λ (r : Running D M). r.source_state) is;
      source = (ap (λ (r : Running D M). (r.context).source) is, refl, refl);
      dest_state = None;
      dest_is = ap (λ (r : Running D M). r.dest_state) is;
      dest = (ap (λ (r : Running D M). (r.context).dest) is, refl, refl);
    });
  }
    where
      unarmed : (side : Side) → armed_of start side ≡ true → ⊥
      unarmed Source armed = let none = ap (λ (r : Running D M). r.source_armed) is in cc
      unarmed Dest armed = let none = ap (λ (r : Running D M). r.dest_armed) is in cc

  -- it ends with an event
  pub run_over : (events : List Numbered) (start new : Running D M) (before now : Taking) (end : Ran) → start ≡ at_rest (mech_of start) start.source start.dest
      → IsTrue (are_admitted start.context (events_at events)) → Happen told m read faults size events start new before now (Some end)
      → Ended told m read faults size events start new before.taken now.taken before.faults now.faults end
  run_over events start new before now end is admitted happened =
      ends_in told m read faults size [] events start start new before.taken before.faults before now end (omega arith) (begins start before.taken is) admitted happened

  -- it ends with its last line
  pub run_last : ReadsVolumes m → (events : List Numbered) (start new : Running D M) (before middle now : Taking) (end : Ran)
      → start ≡ at_rest (mech_of start) start.source start.dest → IsTrue (are_admitted start.context (events_at events))
      → Happen told m read faults size events start new before middle None → EndPuts (length new.log) middle now end
      → Ended told m read faults size events start new before.taken now.taken before.faults now.faults end
  run_last reads events start new before middle now ran.Whole is admitted happened put =
      let was = through told m read faults size [] events start start new before.taken before middle (begins start before.taken is) admitted happened in
      record { is = whole told m read faults size reads events start new before.taken middle.taken now.taken was put; cause = tt }
  run_last reads events start new before middle now ran.WriteFault is admitted happened put =
      let was = through told m read faults size [] events start start new before.taken before middle (begins start before.taken is) admitted happened in
      let later = faults_along told m read faults size events start new before middle None happened in
      record {
        is = failed_last told m read faults size events start new before.taken middle.taken now.taken was put.0;
        cause = rose_later before.faults middle.faults now.faults later put.1;
      }
  run_last reads events start new before middle now (ran.OverLimit line) is admitted happened put = absurd put
  run_last reads events start new before middle now (ran.Mistaken mistake) is admitted happened put = absurd put
  run_last reads events start new before middle now (ran.Unmade cause) is admitted happened put = absurd put
  run_last reads events start new before middle now (ran.Lost cause) is admitted happened put = absurd put

  -- memory ran out in an event, or at the last line
  pub run_cut : (events : List Numbered) (start : Running D M) (before now : Taking) → start ≡ at_rest (mech_of start) start.source start.dest
      → IsTrue (are_admitted start.context (events_at events)) → IsCut told m read faults size events start before now
      → RanOut told m read (mech_of start) events before.taken now.taken
  run_cut events start before now is admitted cut =
      cut_in told m read faults size events start before now (begins start before.taken is) admitted cut

  -- all events happened, and memory ran out behind them
  pub cut_last : (events : List Numbered) (start new : Running D M) (before middle now : Taking) → Happen told m read faults size events start new before middle None
      → now ≡ middle → IsCut told m read faults size events start before now
  cut_last events start new before middle now happened same = record {
    done = events;
    rest = [];
    are = sym (append-nil events);
    new = new;
    happened = subst (λ (k : Taking). Happen told m read faults size events start new before k None) (sym same) happened;
  }
