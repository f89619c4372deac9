-- An end acted, and what it gave was settled: that is a small step of the machines.
use Rattle.std.proofs.Common.{◌≡◌, ℕ, ◌+◌, List, [], ◌∷◌, ◌++◌, length, Option, Some, None, refl, sym, ap, ◌∙◌, subst, arith, length-append}
use Rattle.std.specs.Prelude.{Bool, true, false, ◌≤◌, ◌||◌, if◌then◌else◌, IsSome, option_and_then}
use Rattle.std.specs.Option.{option_or}
use Rattle.std.proofs.lemmas.Bool.{le-ltb}
use Rattle.std.proofs.lemmas.List.{append-nil}
use Rattle.client_core.specs.State.{ClientState}
use Rattle.dest_core.specs.Stepping.{DestState}
use Rattle.nfs_base.specs.declared.seal.End.TheVariants as ends
use Rattle.outbox.specs.declared.outgoing.Outbox.{Outbox}
use Rattle.session_server.specs.Host.{host_of}
use Rattle.wire_lines.specs.LineText.{line_text, lines_text}
use Rattle.wire_lines.specs.declared.letters.Speaker.{Speaker}
use Rattle.wire_lines.specs.declared.letters.Speaker.TheVariants as speakers
use Rattle.wire_lines.specs.declared.line.Line.{Line}
use Rattle.wire_lines.specs.declared.line.Line.TheVariants as lines
use Rattle.wire_log.specs.Keeping.{bytes_at}
use Rattle.wire_machine.specs.Check.{Reading, mistake, mistake_in}
use Rattle.wire_machine.specs.Ends.{ClientAct, DestAct, Machines, SourceAct}
use Rattle.wire_machine.specs.Lines.{notes_of, records_of, unsent}
use Rattle.wire_machine.specs.Runs as runs
use Rattle.wire_machine.specs.Runs.{fault_by, most_bytes, size_fault}
use Rattle.wire_machine.specs.Steps.{AllRest, AllTick, Arrives, ClientDoes, IsDelivered, DestDoes, SourceDoes, any_failed, client_part, dest_part, source_part}
use Rattle.wire_machine.specs.World.{Parts, Posted, World, all_idle, all_posted, bytes_of, posted_at, with_parts}
use Rattle.wire_machine.specs.declared.choice.Choice.{Choice}
use Rattle.wire_machine.specs.declared.choice.Choice.TheVariants.{Failed, Went}
use Rattle.wire_machine.specs.declared.mistake.Mistake.{Mistake}
use Rattle.wire_machine.specs.declared.port.Port.{Port}
use Rattle.run_ends.specs.Ends.{RunWorld, SourceState, Words, machines}
use Rattle.wire_run.proofs.Cores.{dest_there, source_there}
use Rattle.wire_run.specs.Running.{Later}
use Rattle.wire_run.specs.Stage.{AllLook, ClientActs, Comes, DestActs, DestHost, HandsOver, IsDone, IsReady, LooksOnly, SettleKeeps, Settles, SettlesAll, SmallDone, SourceActs, SourceHost, choice_by, dest_boot, later_clock, source_boot, ticked_parts, world_at}
use Rattle.wire_run.specs.declared.ends.DestEnd.{DestEnd}
use Rattle.wire_run.specs.declared.ends.SourceEnd.{SourceEnd}
use Rattle.wire_run.specs.declared.stage.Acted.{Acted}
use Rattle.wire_run.specs.declared.stage.Stage.{Stage}
use Rattle.wire_run.specs.declared.stage.Stops.{Stops}
use Rattle.wire_run.specs.declared.stage.Ticked.{Ticked}
use Rattle.wire_schedule.specs.declared.event.Event.TheVariants as kinds
use Rattle.wire_run.proofs.Later.{blamed_none_failed}
use Rattle.wire_run.proofs.Logs.{mistake_in_none}
use Rattle.wire_run.proofs.Lone.{choice_left, choice_right, client_lines, dest_lines, dest_log, dest_mistake, rest_log, source_lines, source_log, source_mistake}

-- ---- a disk that is as it was

pub later_none : {D : Type 0} (faults size : D → ℕ) (d : D) → Later faults size 0 (Some d) (Some d)
later_none faults size d = record { there = refl; rose = omega arith; as_large = refl }

-- a count that rose by some rose by none
pub later_less : {D : Type 0} (faults size : D → ℕ) (n : ℕ) (d e : D) → Later faults size n (Some d) (Some e) → Later faults size 0 (Some d) (Some e)
later_less faults size n d e l = record { there = l.there; rose = omega (arith, l.rose); as_large = l.as_large }

-- ---- worlds that are alike part by part

abbrev pub world : {M : Type 0} → SourceState M → DestState M → ClientState M → (draws clock steps : ℕ) → List Posted → RunWorld M
world source dest client draws clock steps log = record { source = source; dest = dest; client = client; draws = draws; clock = clock; steps = steps; log = log }

pub same_world : {M : Type 0} (source : SourceState M) (dest : DestState M) {client client' : ClientState M} {draws draws' clock clock' steps steps' : ℕ} {log log' : List Posted}
    → client ≡ client' → draws ≡ draws' → clock ≡ clock' → steps ≡ steps' → log ≡ log'
    → world source dest client draws clock steps log ≡ world source dest client' draws' clock' steps' log'
same_world source dest {client} {client'} {draws} {draws'} {clock} {clock'} {steps} {steps'} {log} {log'} p q r s t =
    ap (λ c. world source dest c draws clock steps log) p
    ∙ (ap (λ d. world source dest client' d clock steps log) q
    ∙ (ap (λ k. world source dest client' draws' k steps log) r
    ∙ (ap (λ n. world source dest client' draws' clock' n log) s
    ∙ ap (λ (l : List Posted). world source dest client' draws' clock' steps' l) t)))

-- records within the limit are no fault
pub size_right : (log : List Posted) → bytes_of log ≤ most_bytes → fault_by None (bytes_of log) ≡ None
size_right log few = ap size_fault (le-ltb most_bytes (bytes_of log) few)

-- one more choice is one more small step
pub one_more : (old new : List Choice) (c : Choice) → new ≡ old ++ c ∷ [] → length new ≡ length old + 1
one_more old new c e = ap length e ∙ length-append old (c ∷ [])

-- what an end did, as it is settled
abbrev pub source_acted : (opening number : ℕ) → Outbox → Acted
source_acted opening number out = record { end = ends.Source; opening = opening; speaker = speakers.Source; took = number; out = out }

abbrev pub dest_acted : Speaker → (opening number : ℕ) → Outbox → Acted
dest_acted speaker opening number out = record { end = ends.Dest; opening = opening; speaker = speaker; took = number; out = out }

abbrev pub client_acted : (number : ℕ) → Outbox → Acted
client_acted number out = record { end = ends.Client; opening = 0; speaker = speakers.Client; took = number; out = out }

-- the fault of a step that is one end's, by the mistake and the records
pub fault_same : (a b : Option Mistake) (xs ys : List Posted) (fault : Option runs.Fault) → a ≡ b → xs ≡ ys → fault_by b (bytes_of ys) ≡ fault → fault_by a (bytes_of xs) ≡ fault
fault_same a b xs ys fault p q e = ap (λ o. fault_by o (bytes_of xs)) p ∙ (ap (λ (l : List Posted). fault_by b (bytes_of l)) q ∙ e)

-- lines that are put are those of the step
pub lines_same : (text_old text_new : List ℕ) (put step : List Line) → step ≡ put → text_new ≡ text_old ++ lines_text put → text_new ≡ text_old ++ lines_text step
lines_same text_old text_new put step same e = e ∙ ap (λ (ls : List Line). text_old ++ lines_text ls) (sym same)

pub choices_same : (old new : List Choice) (a b : Choice) → a ≡ b → new ≡ old ++ a ∷ [] → new ≡ old ++ b ∷ []
choices_same old new a b same e = e ∙ ap (λ (c : Choice). old ++ c ∷ []) same

choice_is : (b : Bool) → choice_by b ≡ (if b then Failed else Went)
choice_is true = refl
choice_is false = refl

-- the records of all ends, by the list before, the count of small steps and the servers' openings
abbrev posted_with : Ticked → List Posted → (step source dest : ℕ) → List Posted
posted_with ticked log step source dest =
    log ++ (all_posted ends.Source step source None ticked.source.sent ++ (all_posted ends.Dest step dest None ticked.dest.sent ++ all_posted ends.Client step 0 None ticked.client.sent))

posted_alike : (ticked : Ticked) {log log' : List Posted} {step step' source source' dest dest' : ℕ} → log ≡ log' → step ≡ step' → source ≡ source' → dest ≡ dest'
    → posted_with ticked log step source dest ≡ posted_with ticked log' step' source' dest'
posted_alike ticked {log} {log'} {step} {step'} {source} {source'} {dest} {dest'} p q r s =
    ap (λ (l : List Posted). posted_with ticked l step source dest) p
    ∙ (ap (λ n. posted_with ticked log' n source dest) q
    ∙ (ap (λ n. posted_with ticked log' step' n dest) r
    ∙ ap (λ n. posted_with ticked log' step' source' n) s))

or_alike : {a a' b b' c c' : Option Mistake} → a ≡ a' → b ≡ b' → c ≡ c' → option_or a (option_or b c) ≡ option_or a' (option_or b' c')
or_alike {a} {a'} {b} {b'} {c} {c'} p q r =
    ap (λ (o : Option Mistake). option_or o (option_or b c)) p
    ∙ (ap (λ (o : Option Mistake). option_or a' (option_or o c)) q ∙ ap (λ (o : Option Mistake). option_or a' (option_or b' o)) r)

-- no end is mistaken that takes nothing
nothing_mistaken : {S T C W : Type 0} (m : Machines S T C W) (read : Reading) (before : World S T C W) (ticked : Ticked) → mistake m read before (ticked_parts ticked) ≡ None
nothing_mistaken m read before ticked =
    or_alike (mistake_in_none read before.log ends.Source _ ticked.source.accepted)
    (mistake_in_none read before.log ends.Dest _ ticked.dest.accepted) (mistake_in_none read before.log ends.Client _ ticked.client.accepted)

some_there : {A : Type 0} (o : Option A) → IsSome o → (x : A) × (o ≡ Some x)
some_there (Some x) there = (x, refl)
some_there None there = absurd cc

-- a record of which it is known that it is there
pub the_record : (number : ℕ) (log : List Posted) → IsSome (posted_at number log) → (r : Posted) × (posted_at number log ≡ Some r)
the_record number log there = some_there (posted_at number log) there

module _ {D M : Type 0} (told : Type 0) (words : Words M ℕ) (read : Reading) (faults size : D → ℕ) where
  -- ---- the source

  pub by_source : (act : SourceAct) (number opening : ℕ) (old new : Stage D M) (source : SourceEnd D M) (draws : ℕ) (stops : Stops) (out : Outbox) (text_old text_new : List ℕ)
      (fault : Option runs.Fault) → IsReady old → SourceActs told (machines words) faults size act old.clock old.source old.draws source draws out
      → opening ≡ source_boot source → SettleKeeps (record old { source = source; draws = draws; stops = stops }) new
      → Settles read (source_acted opening number out) (record old { source = source; draws = draws; stops = stops }) new text_old text_new fault
      → Comes told (machines words) read faults size (SourceDoes (machines words) act (bytes_at old.log number)) old new text_old text_new fault
  by_source act number opening old new source draws stops out text_old text_new None ready acts is k put =
      let d = dest_there old.dest ready.dest in
      let boot : opening ≡ acts.next.server.files.volume.volume.boot = is ∙ ap source_boot acts.next_is in
      let took : Option (List ℕ) = bytes_at old.log number in
      record {
        source = acts.was;
        dest = d.core;
        source_next = acts.next;
        dest_next = d.core;
        source_is = acts.was_is;
        dest_is = d.is;
        source_next_is = k.source ∙ acts.next_is;
        dest_next_is = k.dest ∙ d.is;
        parts = source_part took out;
        is = λ t. record {
          source = host_of size acts.next;
          draws = draws;
          out = out;
          acts = acts.acts t;
          parts_are = refl;
          after_is = same_world (host_of size acts.next) (host_of size d.core) k.client k.draws k.clock (one_more old.choices.items new.choices.items _ put.0.choices)
              (put.0.log ∙ (ap (λ o. old.log ++ all_posted ends.Source (length old.choices.items) o took out.sent) boot
              ∙ sym (source_log (machines words) took out (world (host_of size acts.next) (host_of size d.core) old.client draws old.clock (length old.choices.items) old.log))));
        };
        right = λ t. fault_same _ _ new.log new.log None
            (source_mistake (machines words) read (world_at size acts.was d.core old) took out
            ∙ ap (λ o. mistake_in read old.log ends.Source o out.accepted took) (sym (boot ∙ (acts.stays t).boot)))
            refl put.1;
        lines = lines_same text_old text_new _ _ (source_lines (length old.log) took out) put.0.lines;
        choices = choices_same old.choices.items new.choices.items _ _ (choice_left (any_failed out.used)) put.0.choices;
        source_later = acts.later;
        dest_later = later_none faults size _;
      }
  by_source act number opening old new source draws stops out text_old text_new (Some fault) ready acts is k put =
      let d = dest_there old.dest ready.dest in
      let boot : opening ≡ acts.next.server.files.volume.volume.boot = is ∙ ap source_boot acts.next_is in
      let took : Option (List ℕ) = bytes_at old.log number in
      let mid : RunWorld M = world (host_of size acts.next) (host_of size d.core) old.client draws old.clock (length old.choices.items) old.log in
      record {
        source = acts.was;
        dest = d.core;
        source_next = acts.next;
        dest_next = d.core;
        source_is = acts.was_is;
        dest_is = d.is;
        source_next_is = k.source ∙ acts.next_is;
        dest_next_is = k.dest ∙ d.is;
        parts = source_part took out;
        after = with_parts (machines words) (source_part took out) (world (host_of size acts.next) (host_of size d.core) old.client draws old.clock (length old.choices.items) old.log);
        is = λ t. record { source = host_of size acts.next; draws = draws; out = out; acts = acts.acts t; parts_are = refl; after_is = refl };
        fault_is = λ t. fault_same _ _ _ _ (Some fault)
            (source_mistake (machines words) read (world_at size acts.was d.core old) took out
            ∙ ap (λ o. mistake_in read old.log ends.Source o out.accepted took) (sym (boot ∙ (acts.stays t).boot)))
            (source_log (machines words) took out (world (host_of size acts.next) (host_of size d.core) old.client draws old.clock (length old.choices.items) old.log)
            ∙ ap (λ o. old.log ++ all_posted ends.Source (length old.choices.items) o took out.sent) (sym boot))
            put.2;
        text = put.1;
        choices = ap (λ (s : Stage D M). s.choices.items) put.0;
        source_later = later_less faults size _ _ _ acts.later;
        dest_later = later_none faults size _;
      }

  -- ---- the destination

  pub by_dest : (act : DestAct) (speaker : Speaker) (number opening : ℕ) (old new : Stage D M) (dest : DestEnd D M) (draws : ℕ) (stops : Stops) (out : Outbox) (text_old text_new : List ℕ)
      (fault : Option runs.Fault) → IsReady old → DestActs told (machines words) faults size act old.clock old.dest old.draws dest draws out
      → opening ≡ dest_boot dest → SettleKeeps (record old { dest = dest; draws = draws; stops = stops }) new
      → Settles read (dest_acted speaker opening number out) (record old { dest = dest; draws = draws; stops = stops }) new text_old text_new fault
      → Comes told (machines words) read faults size (DestDoes (machines words) act speaker (bytes_at old.log number)) old new text_old text_new fault
  by_dest act speaker number opening old new dest draws stops out text_old text_new None ready acts is k put =
      let s = source_there old.source ready.source in
      let boot : opening ≡ acts.next.server.files.volume.volume.boot = is ∙ ap dest_boot acts.next_is in
      let took : Option (List ℕ) = bytes_at old.log number in
      record {
        source = s.core;
        dest = acts.was;
        source_next = s.core;
        dest_next = acts.next;
        source_is = s.is;
        dest_is = acts.was_is;
        source_next_is = k.source ∙ s.is;
        dest_next_is = k.dest ∙ acts.next_is;
        parts = dest_part speaker took out;
        is = λ t. record {
          dest = host_of size acts.next;
          draws = draws;
          out = out;
          acts = acts.acts t;
          parts_are = refl;
          after_is = same_world (host_of size s.core) (host_of size acts.next) k.client k.draws k.clock (one_more old.choices.items new.choices.items _ put.0.choices)
              (put.0.log ∙ (ap (λ o. old.log ++ all_posted ends.Dest (length old.choices.items) o took out.sent) boot
              ∙ sym (dest_log (machines words) speaker took out (world (host_of size s.core) (host_of size acts.next) old.client draws old.clock (length old.choices.items) old.log))));
        };
        right = λ t. fault_same _ _ new.log new.log None
            (dest_mistake (machines words) read (world_at size s.core acts.was old) speaker took out
            ∙ ap (λ o. mistake_in read old.log ends.Dest o out.accepted took) (sym (boot ∙ (acts.stays t).boot)))
            refl put.1;
        lines = lines_same text_old text_new _ _ (dest_lines (length old.log) speaker took out) put.0.lines;
        choices = choices_same old.choices.items new.choices.items _ _ (choice_right (any_failed out.used)) put.0.choices;
        source_later = later_none faults size _;
        dest_later = acts.later;
      }
  by_dest act speaker number opening old new dest draws stops out text_old text_new (Some fault) ready acts is k put =
      let s = source_there old.source ready.source in
      let boot : opening ≡ acts.next.server.files.volume.volume.boot = is ∙ ap dest_boot acts.next_is in
      let took : Option (List ℕ) = bytes_at old.log number in
      record {
        source = s.core;
        dest = acts.was;
        source_next = s.core;
        dest_next = acts.next;
        source_is = s.is;
        dest_is = acts.was_is;
        source_next_is = k.source ∙ s.is;
        dest_next_is = k.dest ∙ acts.next_is;
        parts = dest_part speaker took out;
        after = with_parts (machines words) (dest_part speaker took out) (world (host_of size s.core) (host_of size acts.next) old.client draws old.clock (length old.choices.items) old.log);
        is = λ t. record { dest = host_of size acts.next; draws = draws; out = out; acts = acts.acts t; parts_are = refl; after_is = refl };
        fault_is = λ t. fault_same _ _ _ _ (Some fault)
            (dest_mistake (machines words) read (world_at size s.core acts.was old) speaker took out
            ∙ ap (λ o. mistake_in read old.log ends.Dest o out.accepted took) (sym (boot ∙ (acts.stays t).boot)))
            (dest_log (machines words) speaker took out (world (host_of size s.core) (host_of size acts.next) old.client draws old.clock (length old.choices.items) old.log)
            ∙ ap (λ o. old.log ++ all_posted ends.Dest (length old.choices.items) o took out.sent) (sym boot))
            put.2;
        text = put.1;
        choices = ap (λ (s : Stage D M). s.choices.items) put.0;
        source_later = later_none faults size _;
        dest_later = later_less faults size _ _ _ acts.later;
      }

  -- ---- the client

  pub by_client : (act : ClientAct) (number : ℕ) (old new : Stage D M) (client : ClientState M) (draws : ℕ) (out : Outbox) (text_old text_new : List ℕ)
      (fault : Option runs.Fault) → IsReady old → ClientActs (machines words) act old.clock old.client old.draws client draws out
      → SettleKeeps (record old { client = client; draws = draws }) new
      → Settles read (client_acted number out) (record old { client = client; draws = draws }) new text_old text_new fault
      → Comes told (machines words) read faults size (ClientDoes (machines words) act (bytes_at old.log number)) old new text_old text_new fault
  by_client act number old new client draws out text_old text_new None ready acts k put =
      let s = source_there old.source ready.source in
      let d = dest_there old.dest ready.dest in
      let took : Option (List ℕ) = bytes_at old.log number in
      record {
        source = s.core;
        dest = d.core;
        source_next = s.core;
        dest_next = d.core;
        source_is = s.is;
        dest_is = d.is;
        source_next_is = k.source ∙ s.is;
        dest_next_is = k.dest ∙ d.is;
        parts = client_part took out;
        is = λ t. record {
          client = client;
          draws = draws;
          out = out;
          acts = acts.acts;
          parts_are = refl;
          after_is = same_world (host_of size s.core) (host_of size d.core) k.client k.draws k.clock (one_more old.choices.items new.choices.items _ put.0.choices) put.0.log;
        };
        right = λ t. put.1;
        lines = lines_same text_old text_new _ _ (client_lines (length old.log) took out) put.0.lines;
        choices = put.0.choices;
        source_later = later_none faults size _;
        dest_later = later_none faults size _;
      }
  by_client act number old new client draws out text_old text_new (Some fault) ready acts k put =
      let s = source_there old.source ready.source in
      let d = dest_there old.dest ready.dest in
      let took : Option (List ℕ) = bytes_at old.log number in
      record {
        source = s.core;
        dest = d.core;
        source_next = s.core;
        dest_next = d.core;
        source_is = s.is;
        dest_is = d.is;
        source_next_is = k.source ∙ s.is;
        dest_next_is = k.dest ∙ d.is;
        parts = client_part took out;
        after = with_parts (machines words) (client_part took out) (world (host_of size s.core) (host_of size d.core) client draws old.clock (length old.choices.items) old.log);
        is = λ t. record { client = client; draws = draws; out = out; acts = acts.acts; parts_are = refl; after_is = refl };
        fault_is = λ t. put.2;
        text = put.1;
        choices = ap (λ (s : Stage D M). s.choices.items) put.0;
        source_later = later_none faults size _;
        dest_later = later_none faults size _;
      }

  -- ---- nobody

  pub by_nobody : (old new : Stage D M) (text : List ℕ) → IsReady old → SettleKeeps old new → bytes_of old.log ≤ most_bytes → new.log ≡ old.log
      → new.choices.items ≡ old.choices.items ++ Went ∷ []
      → IsDone told (machines words) read faults size (AllRest (machines words)) old new text text
  by_nobody old new text ready k few log choices =
      let s = source_there old.source ready.source in
      let d = dest_there old.dest ready.dest in
      record {
        source = s.core;
        dest = d.core;
        source_next = s.core;
        dest_next = d.core;
        source_is = s.is;
        dest_is = d.is;
        source_next_is = k.source ∙ s.is;
        dest_next_is = k.dest ∙ d.is;
        parts = all_idle;
        is = λ t. (
          refl,
          same_world (host_of size s.core) (host_of size d.core) k.client k.draws k.clock (one_more old.choices.items new.choices.items _ choices)
              (log ∙ sym (rest_log (machines words) (world_at size s.core d.core old))),
        );
        right = λ t. size_right new.log k.bytes;
        lines = sym (append-nil text);
        choices = choices;
        source_later = later_none faults size _;
        dest_later = later_none faults size _;
      }

  -- a number under which no record was sent
  pub undelivered : (number : ℕ) (old new : Stage D M) (text_old text : List ℕ) → posted_at number old.log ≡ None
      → text ≡ text_old ++ line_text (lines.NoRecord number) → IsReady old → SettleKeeps old new → new.log ≡ old.log
      → new.choices.items ≡ old.choices.items ++ Went ∷ []
      → SmallDone told (machines words) read faults size (kinds.Deliver number) old new text_old text
  undelivered number old new text_old text is line ready k log choices =
      let s = source_there old.source ready.source in
      let d = dest_there old.dest ready.dest in
      record {
        source = s.core;
        dest = d.core;
        source_next = s.core;
        dest_next = d.core;
        source_is = s.is;
        dest_is = d.is;
        source_next_is = k.source ∙ s.is;
        dest_next_is = k.dest ∙ d.is;
        step = record { event = kinds.Deliver number; choice = Went; parts = all_idle; after = world_at size s.core d.core new };
        event_is = refl;
        after_is = refl;
        is = λ t. record {
          small = subst (λ (o : Option Posted). IsDelivered (machines words) number o (world_at size s.core d.core old) all_idle (world_at size s.core d.core new)) (sym is) (
            refl,
            same_world (host_of size s.core) (host_of size d.core) k.client k.draws k.clock (one_more old.choices.items new.choices.items _ choices)
                (log ∙ sym (rest_log (machines words) (world_at size s.core d.core old))),
          );
          choice = refl;
        };
        right = λ t. size_right new.log k.bytes;
        lines = λ t. line ∙ ap (λ (bytes : List ℕ). text_old ++ bytes) (sym (append-nil (line_text (lines.NoRecord number))))
            ∙ ap (λ (ls : List Line). text_old ++ lines_text (ls ++ [])) (sym (ap (unsent number) is));
        choices = choices;
        asked = λ side none. refl;
        blamed = blamed_none_failed (record { event = kinds.Deliver number; choice = Went; parts = all_idle; after = world_at size s.core d.core new }) refl;
        source_later = later_none faults size _;
        dest_later = later_none faults size _;
      }

  -- a record that goes in nowhere
  pub to_nobody : (number : ℕ) (old new : Stage D M) (text : List ℕ) → IsSome (posted_at number old.log) → option_and_then (λ (r : Posted). r.port) (posted_at number old.log) ≡ None
      → IsReady old → SettleKeeps old new → new.log ≡ old.log → new.choices.items ≡ old.choices.items ++ Went ∷ []
      → IsDone told (machines words) read faults size (HandsOver (machines words) number) old new text text
  to_nobody number old new text there none ready k log choices =
      let s = source_there old.source ready.source in
      let d = dest_there old.dest ready.dest in
      let r = the_record number old.log there in
      let port : r.0.port ≡ None = sym (ap (option_and_then (λ (x : Posted). x.port)) r.1) ∙ none in
      record {
        source = s.core;
        dest = d.core;
        source_next = s.core;
        dest_next = d.core;
        source_is = s.is;
        dest_is = d.is;
        source_next_is = k.source ∙ s.is;
        dest_next_is = k.dest ∙ d.is;
        parts = all_idle;
        is = λ t. (
          r.0,
          r.1,
          subst (λ (p : Option Port). Arrives (machines words) p r.0.bytes (world_at size s.core d.core old) all_idle (world_at size s.core d.core new)) (sym port) (
            refl,
            same_world (host_of size s.core) (host_of size d.core) k.client k.draws k.clock (one_more old.choices.items new.choices.items _ choices)
                (log ∙ sym (rest_log (machines words) (world_at size s.core d.core old))),
          ),
        );
        right = λ t. size_right new.log k.bytes;
        lines = sym (append-nil text);
        choices = choices;
        source_later = later_none faults size _;
        dest_later = later_none faults size _;
      }

  -- ---- a record that arrives at an end

  pub taken : (R : RunWorld M → Parts → RunWorld M → Type 0) (S : RunWorld M → Parts → RunWorld M → Type 0) (old new : Stage D M) (text_old text_new : List ℕ) (fault : Option runs.Fault)
      → ((source : SourceHost D M) (dest : DestHost D M) (parts : Parts) (after : RunWorld M) → R (world_at size source dest old) parts after → S (world_at size source dest old) parts after)
      → Comes told (machines words) read faults size R old new text_old text_new fault → Comes told (machines words) read faults size S old new text_old text_new fault
  taken R S old new text_old text_new None fits c = record {
    source = c.source;
    dest = c.dest;
    source_next = c.source_next;
    dest_next = c.dest_next;
    source_is = c.source_is;
    dest_is = c.dest_is;
    source_next_is = c.source_next_is;
    dest_next_is = c.dest_next_is;
    parts = c.parts;
    is = λ t. fits c.source c.dest c.parts _ (c.is t);
    right = c.right;
    lines = c.lines;
    choices = c.choices;
    source_later = c.source_later;
    dest_later = c.dest_later;
  }
  taken R S old new text_old text_new (Some fault) fits c = record {
    source = c.source;
    dest = c.dest;
    source_next = c.source_next;
    dest_next = c.dest_next;
    source_is = c.source_is;
    dest_is = c.dest_is;
    source_next_is = c.source_next_is;
    dest_next_is = c.dest_next_is;
    parts = c.parts;
    after = c.after;
    is = λ t. fits c.source c.dest c.parts _ (c.is t);
    fault_is = c.fault_is;
    text = c.text;
    choices = c.choices;
    source_later = c.source_later;
    dest_later = c.dest_later;
  }

  -- ---- the clock moves on

  pub all_ticked : (seconds : ℕ) (old looked new : Stage D M) (ticked : Ticked) (text_old text_new : List ℕ) (fault : Option runs.Fault)
      → AllLook told (machines words) faults size (later_clock seconds old) looked ticked → LooksOnly (later_clock seconds old) looked
      → SettleKeeps looked new → SettlesAll ticked looked new text_old text_new fault
      → Comes told (machines words) read faults size (AllTick (machines words) seconds) old new text_old text_new fault
  all_ticked seconds old looked new ticked text_old text_new None look only k put =
      let source_boots : ticked.source_opening ≡ look.source.next.server.files.volume.volume.boot = look.source_opening ∙ ap source_boot look.source.next_is in
      let dest_boots : ticked.dest_opening ≡ look.dest.next.server.files.volume.volume.boot = look.dest_opening ∙ ap dest_boot look.dest.next_is in
      record {
        source = look.source.was;
        dest = look.dest.was;
        source_next = look.source.next;
        dest_next = look.dest.next;
        source_is = look.source.was_is;
        dest_is = look.dest.was_is;
        source_next_is = k.source ∙ look.source.next_is;
        dest_next_is = k.dest ∙ look.dest.next_is;
        parts = ticked_parts ticked;
        is = λ t. record {
          source = host_of size look.source.next;
          dest = host_of size look.dest.next;
          client = looked.client;
          source_out = ticked.source;
          dest_out = ticked.dest;
          client_out = ticked.client;
          source_ticks = look.source.acts t;
          dest_ticks = look.dest.acts t;
          client_ticks = look.client;
          parts_are = refl;
          after_is = same_world (host_of size look.source.next) (host_of size look.dest.next) k.client (k.draws ∙ only.draws) (k.clock ∙ only.clock)
              (one_more looked.choices.items new.choices.items _ put.0.choices ∙ ap (λ (cs : List Choice). length cs + 1) only.choices)
              (put.0.log ∙ posted_alike ticked only.log (ap (λ (cs : List Choice). length cs) only.choices) source_boots dest_boots);
        };
        right = λ t. ap (λ o. fault_by o (bytes_of new.log)) (nothing_mistaken (machines words) read (world_at size look.source.was look.dest.was old) ticked) ∙ put.1;
        lines = put.0.lines ∙ ap (λ (l : List Posted). text_old ++ lines_text (notes_of (ticked_parts ticked) ++ records_of (length l) (ticked_parts ticked))) only.log;
        choices = choices_same old.choices.items new.choices.items _ _ (choice_is (any_failed ticked.source.used || any_failed ticked.dest.used))
            (put.0.choices ∙ ap (λ (cs : List Choice). cs ++ choice_by (any_failed ticked.source.used || any_failed ticked.dest.used) ∷ []) only.choices);
        source_later = look.source.later;
        dest_later = look.dest.later;
      }
  all_ticked seconds old looked new ticked text_old text_new (Some fault) look only k put =
      let source_boots : ticked.source_opening ≡ look.source.next.server.files.volume.volume.boot = look.source_opening ∙ ap source_boot look.source.next_is in
      let dest_boots : ticked.dest_opening ≡ look.dest.next.server.files.volume.volume.boot = look.dest_opening ∙ ap dest_boot look.dest.next_is in
      record {
        source = look.source.was;
        dest = look.dest.was;
        source_next = look.source.next;
        dest_next = look.dest.next;
        source_is = look.source.was_is;
        dest_is = look.dest.was_is;
        source_next_is = k.source ∙ look.source.next_is;
        dest_next_is = k.dest ∙ look.dest.next_is;
        parts = ticked_parts ticked;
        after = with_parts (machines words) (ticked_parts ticked)
            (world (host_of size look.source.next) (host_of size look.dest.next) looked.client old.draws (old.clock + seconds) (length old.choices.items) old.log);
        is = λ t. record {
          source = host_of size look.source.next;
          dest = host_of size look.dest.next;
          client = looked.client;
          source_out = ticked.source;
          dest_out = ticked.dest;
          client_out = ticked.client;
          source_ticks = look.source.acts t;
          dest_ticks = look.dest.acts t;
          client_ticks = look.client;
          parts_are = refl;
          after_is = refl;
        };
        fault_is = λ t. fault_same _ _ _ _ (Some fault) (nothing_mistaken (machines words) read (world_at size look.source.was look.dest.was old) ticked)
            (sym (posted_alike ticked only.log (ap (λ (cs : List Choice). length cs) only.choices) source_boots dest_boots)) put.2;
        text = put.1;
        choices = ap (λ (s : Stage D M). s.choices.items) put.0 ∙ only.choices;
        source_later = later_less faults size _ _ _ look.source.later;
        dest_later = later_less faults size _ _ _ look.dest.later;
      }
