-- Each run of what an input asks for keeps the promise, where each run of accepted events does.
use Rattle.std.proofs.Common.{◌≡◌, ℕ, Bool, true, false, List, [], ◌∷◌, ◌++◌, Option, Some, None, Result, Ok, Err, refl}
use Rattle.std.specs.Prelude.{length, nat_lt, option_map, take, if◌then◌else◌}
use Rattle.large_copy.specs.Large.{large_lines, large_schedule}
use Rattle.nfscopy.specs.GenEnds.{gen_events}
use Rattle.nfscopy.specs.Input.{asked, most_bytes, parsed}
use Rattle.nfscopy.specs.Notice.{too_much_text}
use Rattle.nfscopy.specs.RunEnds.{KeepsIf, RunWords, RunsKeep}
use Rattle.run_ends.specs.Ends.{RunStep, RunWorld}
use Rattle.run_ends.specs.First.{IsFirst}
use Rattle.run_promise.specs.Client.Accepted.{AreAccepted}
use Rattle.run_promise.specs.Promise.{KeepsPromise}
use Rattle.wire_machine.specs.Runs.{End, Numbered, Runs, events_in, numbered}
use Rattle.wire_schedule.specs.Admission.{after, at_start}
use Rattle.wire_schedule.specs.Expansion.{events_of, events_of_all}
use Rattle.wire_schedule.specs.ScheduleText.{schedule_of}
use Rattle.wire_schedule.specs.Spelling.{text_of}
use Rattle.wire_schedule.specs.declared.context.Context.{Context}
use Rattle.wire_schedule.specs.declared.directive.Entry.{Entry}
use Rattle.wire_schedule.specs.declared.event.Event.{Event}

abbrev Law : {M : Type 0} → RunWords M → Type 0
Law {M} r =
    (events : List Numbered) (first : RunWorld M) (steps : List (RunStep M)) (end : End) → AreAccepted at_start events → IsFirst r.mech events first
    → Runs r.machines r.read first events steps end → KeepsPromise r.words r.mech first steps

-- ---- accepted events are accepted whatever the lines from which they come

front_renumbered : (line at : ℕ) (context : Context) (events : List Event) (rest : List Numbered) (more : List Event)
    → ((later : Context) → AreAccepted later rest → AreAccepted later (numbered line more))
    → AreAccepted context (numbered at events ++ rest) → AreAccepted context (numbered line (events ++ more))
front_renumbered line at context [] rest more tail accepted = tail context accepted
front_renumbered line at context (event ∷ events) rest more tail accepted =
    (accepted.0, accepted.1, front_renumbered line at (after context event) events rest more tail accepted.2)

renumbered : (line : ℕ) (context : Context) (entries : List Entry) → AreAccepted context (events_in entries)
    → AreAccepted context (numbered line (events_of_all entries))
renumbered line context [] accepted = tt
renumbered line context (entry ∷ entries) accepted =
    front_renumbered line entry.line context (events_of entry.directive) (events_in entries) (events_of_all entries)
    (λ later. renumbered line later entries) accepted

-- ---- runs

module _ {M : Type 0} (r : RunWords M) (law : Law r)
    (whole : (text : List ℕ) (entries : List Entry) → schedule_of text ≡ Ok entries → AreAccepted at_start (events_in entries))
    (fronts : (context : Context) (events : List Numbered) (n : ℕ) → AreAccepted context events → AreAccepted context (take n events)) where
  events_keep : (events : List Numbered) → AreAccepted at_start events → RunsKeep r events
  events_keep events accepted = record {
    whole = λ did end lines records last run. law events run.first run.steps end accepted run.is_first run.runs;
    front = λ done did end lines records last run.
        law (take done events) run.first run.steps end (fronts at_start events done accepted) run.is_first run.runs;
  }

  parsed_keep : (text : List ℕ) (read : Result (List Entry) ℕ) → schedule_of text ≡ read → KeepsIf r (Some (parsed read))
  parsed_keep text (Ok entries) is = events_keep (events_in entries) (whole text entries is)
  parsed_keep text (Err line) is = tt

  asked_keep : (b : Bool) (text : List ℕ) → KeepsIf r (Some (if b then Err too_much_text else parsed (schedule_of text)))
  asked_keep true text = tt
  asked_keep false text = parsed_keep text (schedule_of text) refl

  pub inputs_keep : (left : Option (List ℕ)) → KeepsIf r (option_map asked left)
  inputs_keep None = tt
  inputs_keep (Some text) = asked_keep (nat_lt most_bytes (length text)) text

  -- the schedule of a large copy is that of a text
  pub large_keeps : (mebibytes : ℕ) → schedule_of (text_of (large_lines mebibytes)) ≡ Ok (large_schedule mebibytes) → RunsKeep r (gen_events mebibytes)
  large_keeps mebibytes is =
      events_keep (gen_events mebibytes)
      (renumbered 1 at_start (large_schedule mebibytes) (whole (text_of (large_lines mebibytes)) (large_schedule mebibytes) is))
