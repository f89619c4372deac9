-- What is settled is a small step of an event.
use Rattle.std.proofs.Common.{◌≡◌, ℕ, zero, suc, Bool, true, false, List, [], ◌++◌, length, Option, Some, None, refl, sym, ap, ◌∙◌, subst}
use Rattle.std.specs.Prelude.{IfSome, IsSome}
use Rattle.std.specs.Option.{option_or}
use Rattle.nfs_base.specs.declared.seal.End.TheVariants as ends
use Rattle.nfs_base.specs.declared.side.Side.{Side}
use Rattle.nfs_base.specs.declared.side.Side.TheVariants.{Source, Dest}
use Rattle.wire_lines.specs.LineText.{lines_text}
use Rattle.wire_lines.specs.declared.line.Line.{Line}
use Rattle.wire_machine.specs.Check.{Reading, mistake}
use Rattle.wire_machine.specs.Ends.{ClientAct}
use Rattle.wire_machine.specs.Lines.{notes_of, own_lines, records_of, unsent}
use Rattle.wire_machine.specs.Runs as runs
use Rattle.wire_machine.specs.Runs.{fault_by, fault_of}
use Rattle.wire_machine.specs.StepLaws.{small_made}
use Rattle.wire_machine.specs.Steps.{Arrives, ClientDoes, IsChoice, IsDelivered, IsSmall, any_failed, choice_of, command_of}
use Rattle.wire_machine.specs.World.{Parts, Posted, bytes_of, marked, posted_at}
use Rattle.wire_machine.specs.declared.choice.Choice.{Choice}
use Rattle.wire_machine.specs.declared.mistake.Mistake.{Mistake}
use Rattle.wire_machine.specs.declared.port.Port.{Port}
use Rattle.wire_run.specs.Running.{Later, either, peek_failed}
use Rattle.run_ends.specs.Ends.{RunMachines, RunStep, RunWorld}
use Rattle.wire_run.specs.Stage.{Comes, HandsOver, SmallIs, bit, marked_at, world_at}
use Rattle.wire_run.specs.declared.stage.Stage.{Stage}
use Rattle.wire_run.proofs.Later.{bits_either, blamed_one}
use Rattle.wire_run.proofs.Logs.{got_marked, length_marked, mistake_in_marked}
use Rattle.wire_run.proofs.Unstopped.{chosen, told_small, uncut}
use Rattle.wire_schedule.specs.declared.event.Event.{Event}
use Rattle.wire_schedule.specs.declared.event.Event.TheVariants as kinds

-- no event that isn't a command is one
no_some : IsSome {T = ClientAct} None → ⊥
no_some there = cc

same_some : {A : Type 0} (x y : A) → Some x ≡ Some y → x ≡ y
same_some x y e = cc

pub got_of : (number : ℕ) (log : List Posted) (r : Posted) → posted_at number log ≡ Some r → posted_at number (marked number log) ≡ Some (record r { delivered = true })
got_of zero log r is = absurd cc
got_of (suc n) log r is = got_marked n log r is

or_alike : {a a' b b' c c' : Option Mistake} → a ≡ a' → b ≡ b' → c ≡ c' → option_or a (option_or b c) ≡ option_or a' (option_or b' c')
or_alike {a} {a'} {b} {b'} {c} {c'} p q r =
    ap (λ (o : Option Mistake). option_or o (option_or b c)) p
    ∙ (ap (λ (o : Option Mistake). option_or a' (option_or o c)) q ∙ ap (λ (o : Option Mistake). option_or a' (option_or b' o)) r)

either_false : (b : Bool) → either b false ≡ b
either_false true = refl
either_false false = refl

-- ---- an event with no lines of its own, whose choice is that of the servers' calls

pub record IsQuiet {M : Type 0} (m : RunMachines M) (event : Event) : Type 0 where
  pub chooses : (parts : Parts) → IsChoice m event parts (choice_of parts)
  pub lines : (w : RunWorld M) (choice : Choice) → own_lines m w event choice ≡ []
  pub no_peek : (side : Side) (choice : Choice) → peek_failed side event choice ≡ false

pub later_as : {D : Type 0} (faults size : D → ℕ) (failed : Bool) (peeked : Bool) (d e : D) → peeked ≡ false
    → Later faults size (bit failed) (Some d) (Some e) → Later faults size (bit (either failed peeked)) (Some d) (Some e)
later_as {D = D} faults size failed peeked d e none l =
    subst (λ (b : Bool). Later faults size (bit b) (Some d) (Some e)) (sym (ap (λ (b : Bool). either failed b) none ∙ either_false failed)) l

module _ {D M : Type 0} (told : Type 0) (m : RunMachines M) (read : Reading) (faults size : D → ℕ) where
  -- the step of an event that is done
  abbrev step_made : Event → Parts → RunWorld M → RunStep M
  step_made event parts after = record { event = event; choice = choice_of parts; parts = parts; after = after }

  pub small_from : (event : Event) (R : RunWorld M → Parts → RunWorld M → Type 0) → ((before : RunWorld M) (parts : Parts) (after : RunWorld M) → R before parts after → IsSmall m event before parts after)
      → IsQuiet m event → (old new : Stage D M) (text_old text_new : List ℕ) (fault : Option runs.Fault)
      → Comes told m read faults size R old new text_old text_new fault → SmallIs told m read faults size event old new text_old text_new fault
  small_from event R fits quiet old new text_old text_new None c = record {
    source = c.source;
    dest = c.dest;
    source_next = c.source_next;
    dest_next = c.dest_next;
    source_is = c.source_is;
    dest_is = c.dest_is;
    source_next_is = c.source_next_is;
    dest_next_is = c.dest_next_is;
    step = step_made event c.parts (world_at size c.source_next c.dest_next new);
    event_is = refl;
    after_is = refl;
    is = λ t. record { small = small_made m (choice_of c.parts) event (world_at size c.source c.dest old) c.parts _ refl (fits _ _ _ (c.is t)); choice = quiet.chooses c.parts };
    right = c.right;
    lines = λ t. c.lines ∙ ap (λ (ls : List Line). text_old ++ lines_text (ls ++ (notes_of c.parts ++ records_of (length old.log) c.parts)))
        (sym (told_small m c.parts (world_at size c.source c.dest old) (step_made event c.parts (world_at size c.source_next c.dest_next new))
        ∙ quiet.lines (world_at size c.source c.dest old) (choice_of c.parts)));
    choices = c.choices;
    asked = λ side none. uncut c.parts side _;
    blamed = blamed_one (step_made event c.parts (world_at size c.source_next c.dest_next new))
        (bits_either (any_failed c.parts.source.out.used) (any_failed c.parts.dest.out.used)
        (peek_failed Source event (choice_of c.parts)) (peek_failed Dest event (choice_of c.parts)));
    source_later = later_as faults size _ _ _ _ (quiet.no_peek Source (choice_of c.parts)) c.source_later;
    dest_later = later_as faults size _ _ _ _ (quiet.no_peek Dest (choice_of c.parts)) c.dest_later;
  }
  small_from event R fits quiet old new text_old text_new (Some fault) c = record {
    source = c.source;
    dest = c.dest;
    source_next = c.source_next;
    dest_next = c.dest_next;
    source_is = c.source_is;
    dest_is = c.dest_is;
    source_next_is = c.source_next_is;
    dest_next_is = c.dest_next_is;
    step = step_made event c.parts c.after;
    event_is = refl;
    is = λ t. record { small = small_made m (choice_of c.parts) event (world_at size c.source c.dest old) c.parts _ refl (fits _ _ _ (c.is t)); choice = quiet.chooses c.parts };
    fault_is = c.fault_is;
    text = c.text;
    choices = c.choices;
    source_later = c.source_later;
    dest_later = c.dest_later;
  }

  -- ---- a worker's step and a look at the clock

  pub quiet_work : (worker : ℕ) → IsQuiet m (kinds.Work worker)
  quiet_work worker =
      record { chooses = λ parts. chosen m (kinds.Work worker) parts (λ is. is) (λ is. is); lines = λ w choice. refl; no_peek = λ side choice. refl }

  pub quiet_tick : (seconds : ℕ) → IsQuiet m (kinds.Tick seconds)
  quiet_tick seconds =
      record { chooses = λ parts. chosen m (kinds.Tick seconds) parts (λ is. is) (λ is. is); lines = λ w choice. refl; no_peek = λ side choice. refl }

  -- ---- a command of the client

  abbrev Commands : Event → RunWorld M → Parts → RunWorld M → Type 0
  Commands event before parts after = IfSome (command_of event) (λ (act : ClientAct). ClientDoes m act None before parts after)

  pub quiet_command : (event : Event) → IsSome (command_of event) → IsQuiet m event
  quiet_command (kinds.Write side file off bytes) there =
      record { chooses = λ parts. chosen m (kinds.Write side file off bytes) parts (λ is. is) (λ is. is); lines = λ w choice. refl; no_peek = λ side choice. refl }
  quiet_command (kinds.Commit side file) there =
      record { chooses = λ parts. chosen m (kinds.Commit side file) parts (λ is. is) (λ is. is); lines = λ w choice. refl; no_peek = λ side choice. refl }
  quiet_command (kinds.Copy copy spec) there =
      record { chooses = λ parts. chosen m (kinds.Copy copy spec) parts (λ is. is) (λ is. is); lines = λ w choice. refl; no_peek = λ side choice. refl }
  quiet_command (kinds.Status copy) there =
      record { chooses = λ parts. chosen m (kinds.Status copy) parts (λ is. is) (λ is. is); lines = λ w choice. refl; no_peek = λ side choice. refl }
  quiet_command (kinds.Cancel copy) there =
      record { chooses = λ parts. chosen m (kinds.Cancel copy) parts (λ is. is) (λ is. is); lines = λ w choice. refl; no_peek = λ side choice. refl }
  quiet_command kinds.Retry there =
      record { chooses = λ parts. chosen m kinds.Retry parts (λ is. is) (λ is. is); lines = λ w choice. refl; no_peek = λ side choice. refl }
  quiet_command (kinds.Volume side files blocks) there = absurd (no_some there)
  quiet_command (kinds.Deliver number) there = absurd (no_some there)
  quiet_command kinds.Flow there = absurd (no_some there)
  quiet_command (kinds.Work worker) there = absurd (no_some there)
  quiet_command (kinds.Tick seconds) there = absurd (no_some there)
  quiet_command (kinds.Peek side file off len) there = absurd (no_some there)
  quiet_command (kinds.Crash side pick) there = absurd (no_some there)
  quiet_command (kinds.CrashAfter side calls pick) there = absurd (no_some there)

  pub command_fits : (event : Event) → IsSome (command_of event) → (before : RunWorld M) (parts : Parts) (after : RunWorld M)
      → Commands event before parts after → IsSmall m event before parts after
  command_fits (kinds.Write side file off bytes) there before parts after c = c
  command_fits (kinds.Commit side file) there before parts after c = c
  command_fits (kinds.Copy copy spec) there before parts after c = c
  command_fits (kinds.Status copy) there before parts after c = c
  command_fits (kinds.Cancel copy) there before parts after c = c
  command_fits kinds.Retry there before parts after c = c
  command_fits (kinds.Volume side files blocks) there before parts after c = absurd (no_some there)
  command_fits (kinds.Deliver number) there before parts after c = absurd (no_some there)
  command_fits kinds.Flow there before parts after c = absurd (no_some there)
  command_fits (kinds.Work worker) there before parts after c = absurd (no_some there)
  command_fits (kinds.Tick seconds) there before parts after c = absurd (no_some there)
  command_fits (kinds.Peek side file off len) there before parts after c = absurd (no_some there)
  command_fits (kinds.Crash side pick) there before parts after c = absurd (no_some there)
  command_fits (kinds.CrashAfter side calls pick) there before parts after c = absurd (no_some there)

  -- ---- a record that is delivered

  mistake_of_marked : (number : ℕ) (w : RunWorld M) (parts : Parts) → mistake m read (record w { log = marked number w.log }) parts ≡ mistake m read w parts
  mistake_of_marked number w parts =
      or_alike (mistake_in_marked read number w.log ends.Source _ parts.source.out.accepted parts.source.took)
      (mistake_in_marked read number w.log ends.Dest _ parts.dest.out.accepted parts.dest.took)
      (mistake_in_marked read number w.log ends.Client _ parts.client.out.accepted parts.client.took)

  delivered_by : (number : ℕ) (r : Posted) (w : RunWorld M) (parts : Parts) (after : RunWorld M) → posted_at number w.log ≡ Some r
      → HandsOver m number (record w { log = marked number w.log }) parts after → IsDelivered m number (posted_at number w.log) w parts after
  delivered_by number r w parts after is (s, got, arrives) =
      let same : s ≡ record r { delivered = true } = same_some s (record r { delivered = true }) (sym got ∙ got_of number w.log r is) in
      let port : s.port ≡ r.port = ap (λ (x : Posted). x.port) same in
      let bytes : s.bytes ≡ r.bytes = ap (λ (x : Posted). x.bytes) same in
      subst (λ (o : Option Posted). IsDelivered m number o w parts after) (sym is)
      (subst (λ (p : Option Port). Arrives m p r.bytes (record w { log = marked number w.log }) parts after) port
      (subst (λ (b : List ℕ). Arrives m s.port b (record w { log = marked number w.log }) parts after) bytes arrives))

  pub deliver_small : (number : ℕ) (r : Posted) (old new : Stage D M) (text_old text_new : List ℕ) (fault : Option runs.Fault) → posted_at number old.log ≡ Some r
      → Comes told m read faults size (HandsOver m number) (marked_at number old) new text_old text_new fault
      → SmallIs told m read faults size (kinds.Deliver number) old new text_old text_new fault
  deliver_small number r old new text_old text_new None is c =
      let before : RunWorld M = world_at size c.source c.dest old in record {
        source = c.source;
        dest = c.dest;
        source_next = c.source_next;
        dest_next = c.dest_next;
        source_is = c.source_is;
        dest_is = c.dest_is;
        source_next_is = c.source_next_is;
        dest_next_is = c.dest_next_is;
        step = step_made (kinds.Deliver number) c.parts (world_at size c.source_next c.dest_next new);
        event_is = refl;
        after_is = refl;
        is = λ t. record {
          small = small_made m (choice_of c.parts) (kinds.Deliver number) (world_at size c.source c.dest old) c.parts _ refl
              (delivered_by number r (world_at size c.source c.dest old) c.parts _ is (c.is t));
          choice = chosen m (kinds.Deliver number) c.parts (λ is. is) (λ is. is);
        };
        right = λ t. ap (λ (o : Option Mistake). fault_by o (bytes_of new.log)) (sym (mistake_of_marked number (world_at size c.source c.dest old) c.parts)) ∙ c.right t;
        lines = λ t. c.lines ∙ ap (λ (n : ℕ). text_old ++ lines_text (notes_of c.parts ++ records_of n c.parts)) (length_marked number old.log)
            ∙ ap (λ (ls : List Line). text_old ++ lines_text (ls ++ (notes_of c.parts ++ records_of (length old.log) c.parts)))
            (sym (told_small m c.parts (world_at size c.source c.dest old) (step_made (kinds.Deliver number) c.parts (world_at size c.source_next c.dest_next new))
            ∙ ap (unsent number) is));
        choices = c.choices;
        asked = λ side none. uncut c.parts side _;
        blamed = blamed_one (step_made (kinds.Deliver number) c.parts (world_at size c.source_next c.dest_next new))
            (bits_either (any_failed c.parts.source.out.used) (any_failed c.parts.dest.out.used) false false);
        source_later = later_as faults size _ _ _ _ refl c.source_later;
        dest_later = later_as faults size _ _ _ _ refl c.dest_later;
      }
  deliver_small number r old new text_old text_new (Some fault) is c = record {
    source = c.source;
    dest = c.dest;
    source_next = c.source_next;
    dest_next = c.dest_next;
    source_is = c.source_is;
    dest_is = c.dest_is;
    source_next_is = c.source_next_is;
    dest_next_is = c.dest_next_is;
    step = step_made (kinds.Deliver number) c.parts c.after;
    event_is = refl;
    is = λ t. record {
      small = small_made m (choice_of c.parts) (kinds.Deliver number) (world_at size c.source c.dest old) c.parts _ refl
          (delivered_by number r (world_at size c.source c.dest old) c.parts _ is (c.is t));
      choice = chosen m (kinds.Deliver number) c.parts (λ is. is) (λ is. is);
    };
    fault_is = λ t. ap (λ (o : Option Mistake). fault_by o (bytes_of c.after.log)) (sym (mistake_of_marked number (world_at size c.source c.dest old) c.parts)) ∙ c.fault_is t;
    text = c.text;
    choices = c.choices;
    source_later = c.source_later;
    dest_later = c.dest_later;
  }
