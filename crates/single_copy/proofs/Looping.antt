-- Turns, one after the other, until no more are made.
use Rattle.std.proofs.Common.{◌≡◌, ℕ, ◌+◌, ◌≤◌, ◌||◌, Bool, true, false, List, [], ◌∷◌, ◌++◌, None, length, refl, sym, ap, subst, ◌∙◌, arith, length-append}
use Rattle.std.proofs.lemmas.Bool.{false≢true}
use Rattle.outcome.specs.Causes.{Rose}
use Rattle.client_core.specs.Telling.{copy_of, report_of}
use Rattle.client_leaving.specs.declared.leaving.Leaving.{Leaving}
use Rattle.nfs_base.specs.declared.side.Side.{Side}
use Rattle.nfs_base.specs.declared.side.Side.TheVariants.{Source, Dest}
use Rattle.rpc_msg.specs.Watching.{Watch, is_down}
use Rattle.single_copy.specs.Copying as copying
use Rattle.single_copy.specs.Copying.{Copies, IsNew, Starves, Stops, answer_at}
use Rattle.single_copy.specs.Drawing.{DrawHasCause}
use Rattle.single_copy.specs.Phases.{due_in}
use Rattle.single_copy.specs.Stepping.{Counts, Halts, Done, Full, Fell, RunsOut, RunsShort, TurnsOn, Wants, left_at, turns_left}
use Rattle.single_copy.specs.Turns.{Begins, BothUp, Event, Hears, Leaves, Parties, Runs, Terms, Turn, due_of, heard, listed, message_at, phase_after}
use Rattle.single_copy.specs.declared.answers.Copied.{Copied}
use Rattle.single_copy.specs.declared.links.TheConstants.{MOST_RECORDS}
use Rattle.single_copy.specs.declared.phases.Due.{Due}
use Rattle.single_copy.specs.declared.phases.Phase.{Phase}
use Rattle.single_copy.specs.declared.phases.Phase.TheVariants as phases
use Rattle.single_copy.specs.declared.phases.TheConstants.{COPY_NUMBER}
use Rattle.single_copy.specs.declared.turns.Allowance.{Allowance}
use Rattle.single_copy.proofs.Carrying.{TellsOn}
use Rattle.single_copy.proofs.Counting.{acts_counted}
use Rattle.single_copy.proofs.Phasing.{is_fresh, is_nothing, left_begun, left_drawn, went_begun, went_drawn}
use Rattle.single_copy.proofs.Running.{goes_runs, heard_more, link_starves, link_stops, runs_more}

-- What holds between two turns.
pub record Went {L M W : Type 0} (terms : Terms L M W) (start now : Parties L M W) (phase : Phase) (left : Allowance) : Type 0 where
  pub turns : List Turn
  pub runs : Runs terms start phases.Fresh turns now phase
  pub source : left.source + length (heard Source turns) ≡ MOST_RECORDS
  pub dest : left.dest + length (heard Dest turns) ≡ MOST_RECORDS
  pub steps : now.client.client.steps + turns_left phase left ≤ 2097154
  pub new : phase ≡ phases.Fresh → copy_of COPY_NUMBER now.client.client ≡ None
  pub drawn : DrawHasCause (terms.conduct.faults start.draws) (terms.conduct.faults now.draws) phase
  pub later : terms.conduct.faults start.draws ≤ terms.conduct.faults now.draws

pub went_start : {L M W : Type 0} (terms : Terms L M W) (start : Parties L M W) → IsNew start.client
    → Went terms start start phases.Fresh (record { source = MOST_RECORDS; dest = MOST_RECORDS })
went_start terms start new = record {
  turns = [];
  runs = (refl, refl);
  source = omega arith;
  dest = omega arith;
  steps = omega (arith, ap (λ l. l.client.steps) new);
  new = λ fresh. ap (λ l. copy_of COPY_NUMBER l.client) new;
  drawn = tt;
  later = omega arith;
}

-- ---- one turn more

-- what is due in a turn isn't nothing
due_some : (event : Event) (due : Due) → due_of event ≡ due → is_nothing due ≡ false
due_some Begins due is = sym (ap is_nothing is)
due_some (Hears side message) due is = sym (ap is_nothing is)
due_some Leaves due is = sym (ap is_nothing is)

after_begun : {M : Type 0} (event : Event) (undrawn : Bool) (l : Leaving M) (was : Phase) (source dest : Bool) → due_of event ≡ due_in was source dest
    → is_fresh (phase_after event undrawn l was) ≡ false
after_begun Begins undrawn l was source dest due = went_begun undrawn (report_of (copy_of COPY_NUMBER l.client)) was
after_begun (Hears side message) undrawn l was source dest due = went_begun undrawn (report_of (copy_of COPY_NUMBER l.client)) was
after_begun Leaves undrawn l was source dest due = left_begun was source dest (sym due)

after_drawn : {M : Type 0} (before middle now : ℕ) (event : Event) (undrawn : Bool) (l : Leaving M) (was : Phase) (source dest : Bool) → due_of event ≡ due_in was source dest
    → before ≤ middle → (undrawn ≡ true → Rose middle now) → DrawHasCause before now (phase_after event undrawn l was)
after_drawn before middle now Begins undrawn l was source dest due later rose =
    went_drawn before middle now undrawn (report_of (copy_of COPY_NUMBER l.client)) was source dest (due_some Begins _ due) later rose
after_drawn before middle now (Hears side message) undrawn l was source dest due later rose =
    went_drawn before middle now undrawn (report_of (copy_of COPY_NUMBER l.client)) was source dest (due_some (Hears side message) _ due) later rose
after_drawn before middle now Leaves undrawn l was source dest due later rose = left_drawn before now was source dest (due_some Leaves _ due)

counted_more : (side : Side) (turns : List Turn) (turn : Turn) (left left_now : ℕ) → left + length (heard side turns) ≡ MOST_RECORDS
    → left ≡ left_now + length (listed (message_at side turn.event)) → left_now + length (heard side (turns ++ turn ∷ [])) ≡ MOST_RECORDS
counted_more side turns turn left left_now before is =
    let more = ap length (heard_more side turns turn) in
    omega (arith, before, is, more, length-append (heard side turns) (listed (message_at side turn.event)))

pub went_more : {L M W : Type 0} (terms : Terms L M W) (start now next : Parties L M W) (was phase : Phase) (left left_now : Allowance)
    → Went terms start now was left → TurnsOn terms now was left left_now next phase → Went terms start next phase left_now
went_more terms start now next was phase left left_now went on =
    let is = on.is in
    let counted = acts_counted terms.conduct was on.turn now.client next.client now.draws next.draws is.acts in
    record {
      turns = went.turns ++ on.turn ∷ [];
      runs = runs_more terms start now next phases.Fresh was phase went.turns on.turn went.runs is;
      source = counted_more Source went.turns on.turn left.source left_now.source went.source on.counted.source;
      dest = counted_more Dest went.turns on.turn left.dest left_now.dest went.dest on.counted.dest;
      steps = omega (arith, counted, went.steps, on.fewer);
      new = λ fresh. absurd (false≢true (sym (after_begun on.turn.event on.turn.out.undrawn next.client was _ _ is.due) ∙ ap is_fresh (sym is.becomes) ∙ ap is_fresh fresh));
      drawn = subst (DrawHasCause (terms.conduct.faults start.draws) (terms.conduct.faults next.draws)) (sym is.becomes)
          (after_drawn _ (terms.conduct.faults now.draws) _ on.turn.event on.turn.out.undrawn next.client was _ _ is.due went.later is.acts.undrawn);
      later = omega (arith, went.later, is.acts.later);
    }

-- ---- no more turns

heard_few : (side : Side) (turns : List Turn) (left : ℕ) → left + length (heard side turns) ≡ MOST_RECORDS → length (heard side turns) ≤ MOST_RECORDS
heard_few side turns left is = omega (arith, is)

went_few : {L M W : Type 0} (terms : Terms L M W) (start now : Parties L M W) (phase : Phase) (left : Allowance) (went : Went terms start now phase left) (side : Side)
    → length (heard side went.turns) ≤ MOST_RECORDS
went_few terms start now phase left went Source = heard_few Source went.turns left.source went.source
went_few terms start now phase left went Dest = heard_few Dest went.turns left.dest went.dest

full_at : {L M W : Type 0} (terms : Terms L M W) (start now : Parties L M W) (phase : Phase) (left : Allowance) (went : Went terms start now phase left) (side : Side)
    → left_at side left ≡ 0 → length (heard side went.turns) ≡ MOST_RECORDS
full_at terms start now phase left went Source none = omega (arith, went.source, none)
full_at terms start now phase left went Dest none = omega (arith, went.dest, none)

halts_stop : {L M W : Type 0} (terms : Terms L M W) (start last now : Parties L M W) (phase : Phase) (left : Allowance) (went : Went terms start last phase left)
    → Halts terms last phase left now → Stops terms went.turns phase last now
halts_stop terms start last now phase left went (Done due same) = copying.Done due same
halts_stop terms start last now phase left went (Full side up due none same) = copying.Full side up due (full_at terms start last phase left went side none) same
halts_stop terms start last now phase left went (Fell side up due falls) = copying.Fell side up due falls

pub went_halts : {L M W : Type 0} (terms : Terms L M W) (start last now : Parties L M W) (phase : Phase) (left : Allowance) → Went terms start last phase left
    → Halts terms last phase left now → RunsOut terms start now phase
went_halts terms start last now phase left went halts = record {
  turns = went.turns;
  last = last;
  runs = went.runs;
  stops = halts_stop terms start last now phase left went halts;
  few = went_few terms start last phase left went;
}

pub went_down : {L M W : Type 0} (terms : Terms L M W) (start now : Parties L M W) (phase : Phase) (left : Allowance) → Went terms start now phase left
    → (is_down now.source.signs || is_down now.dest.signs) ≡ true → RunsOut terms start now phase
went_down terms start now phase left went down = record {
  turns = went.turns;
  last = now;
  runs = went.runs;
  stops = copying.Down down refl;
  few = went_few terms start now phase left went;
}

short_few : {L M W : Type 0} (terms : Terms L M W) (start now : Parties L M W) (phase : Phase) (left left_now : Allowance) (went : Went terms start now phase left) (event : Event)
    → Counts event left left_now → (side : Side) → length (heard side went.turns ++ listed (message_at side event)) ≤ MOST_RECORDS
short_few terms start now phase left left_now went event counts Source =
    omega (arith, went.source, counts.source, length-append (heard Source went.turns) (listed (message_at Source event)))
short_few terms start now phase left left_now went event counts Dest =
    omega (arith, went.dest, counts.dest, length-append (heard Dest went.turns) (listed (message_at Dest event)))

pub went_short : {L M W : Type 0} (terms : Terms L M W) (start now : Parties L M W) (phase : Phase) (left left_now : Allowance) (source dest : Watch L) (client : Leaving M)
    → Went terms start now phase left → BothUp now → Wants terms now phase left left_now source dest client → RunsShort terms start source dest client
went_short terms start now phase left left_now source dest client went up wants = record {
  turns = went.turns;
  phase = phase;
  last = now;
  runs = went.runs;
  event = wants.event;
  due = wants.due;
  source = wants.source;
  dest = wants.dest;
  client = wants.client;
  few = short_few terms start now phase left left_now went wants.event wants.counted;
  up = up;
}

-- ---- the whole

pub out_copies : {L M W : Type 0} (terms : Terms L M W) (start now : Parties L M W) (phase : Phase) (copied : Copied) → TellsOn terms.gives
    → RunsOut terms start now phase → copied ≡ answer_at phase now → Copies terms start copied now
out_copies terms start now phase copied tells out answer = record {
  turns = out.turns;
  phase = phase;
  last = out.last;
  runs = out.runs;
  stops = out.stops;
  answer = answer;
  few = out.few;
  source = link_stops terms Source start.source out.turns phase out.last now _ _ (goes_runs terms Source start out.last phases.Fresh phase out.turns tells out.runs) out.stops;
  dest = link_stops terms Dest start.dest out.turns phase out.last now _ _ (goes_runs terms Dest start out.last phases.Fresh phase out.turns tells out.runs) out.stops;
}

pub short_starves : {L M W : Type 0} (terms : Terms L M W) (start : Parties L M W) (source dest : Watch L) (client : Leaving M) → TellsOn terms.gives
    → RunsShort terms start source dest client → Starves terms start source dest client
short_starves terms start source dest client tells short = record {
  turns = short.turns;
  phase = short.phase;
  last = short.last;
  runs = short.runs;
  event = short.event;
  due = short.due;
  up = short.up;
  client = short.client;
  few = short.few;
  source = link_starves terms _ start.source short.last.source source _ _ tells
      (goes_runs terms Source start short.last phases.Fresh short.phase short.turns tells short.runs) short.up.source short.source;
  dest = link_starves terms _ start.dest short.last.dest dest _ _ tells
      (goes_runs terms Dest start short.last phases.Fresh short.phase short.turns tells short.runs) short.up.dest short.dest;
}
