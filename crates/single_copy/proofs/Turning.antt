-- A turn, of its parts.
use Rattle.std.proofs.Common.{◌≡◌, ℕ, ◌+◌, ◌≤◌, Bool, List, None, refl, sym, ap, ◌∙◌, ◌⊎◌, inl, inr, arith}
use Rattle.client_core.specs.Telling.{awaits, copy_of, report_of}
use Rattle.client_leaving.specs.declared.leaving.Leaving.{Leaving}
use Rattle.nfs_base.specs.declared.side.Side.{Side}
use Rattle.nfs_base.specs.declared.side.Side.TheVariants.{Source, Dest}
use Rattle.rpc_msg.specs.Watching.{Watch}
use Rattle.single_copy.specs.Links.{Brings, Falls}
use Rattle.single_copy.specs.Phases.{due_in, turns_in, went_on}
use Rattle.single_copy.specs.Stepping.{Halts, Full, Fell, HearsShort, HearsTurn, Idles, OwnTurn, TurnsOn, Wants, other}
use Rattle.single_copy.specs.Turns.{Begins, BothUp, Event, Hears, Leaves, Parties, TakesFrom, Terms, due_at, due_of, message_at, phase_after}
use Rattle.single_copy.specs.declared.phases.Due.{Due}
use Rattle.single_copy.specs.declared.phases.Due.TheVariants as dues
use Rattle.single_copy.specs.declared.phases.Phase.{Phase}
use Rattle.single_copy.specs.declared.phases.TheConstants.{COPY_NUMBER}
use Rattle.single_copy.specs.declared.turns.Allowance.{Allowance}
use Rattle.single_copy.proofs.Phasing.{begins_fresh, begun_turns, heard_turns, left_turns}

-- ---- what an event takes from a link

pub took_here : {L M W : Type 0} (terms : Terms L M W) (side : Side) (message : List ℕ) (old new : Watch L) → Brings terms.gives terms.takes old new message
    → TakesFrom terms (message_at side (Hears side message)) old new
took_here terms Source message old new brings = brings
took_here terms Dest message old new brings = brings

pub took_there : {L M W : Type 0} (terms : Terms L M W) (side : Side) (message : List ℕ) (old new : Watch L) → new ≡ old
    → TakesFrom terms (message_at (other side) (Hears side message)) old new
took_there terms Source message old new same = same
took_there terms Dest message old new same = same

-- ---- turns in which no record is taken

pub begins_on : {L M W : Type 0} (terms : Terms L M W) (old new : Parties L M W) (was phase : Phase) (left : Allowance) → due_at was old.client ≡ dues.Begin
    → OwnTurn terms Begins old was new phase → TurnsOn terms old was left left new phase
begins_on terms old new was phase left due own =
    let becomes = own.is.becomes ∙ ap (λ e. phase_after e own.turn.out.undrawn new.client was) own.event_is in
    let fresh = begins_fresh was (awaits Source old.client.client) (awaits Dest old.client.client) due in
    let now = begun_turns own.turn.out.undrawn (report_of (copy_of COPY_NUMBER new.client.client)) in
    let is = becomes ∙ ap (went_on own.turn.out.undrawn (report_of (copy_of COPY_NUMBER new.client.client))) fresh in
    record {
      turn = own.turn;
      is = own.is;
      counted = rw own.event_is (record { source = omega arith; dest = omega arith });
      fewer = omega (arith, ap turns_in is, ap turns_in fresh, now);
    }

pub leaves_on : {L M W : Type 0} (terms : Terms L M W) (old new : Parties L M W) (was phase : Phase) (left : Allowance) → due_at was old.client ≡ dues.Leave
    → OwnTurn terms Leaves old was new phase → TurnsOn terms old was left left new phase
leaves_on terms old new was phase left due own =
    let becomes = own.is.becomes ∙ ap (λ e. phase_after e own.turn.out.undrawn new.client was) own.event_is in
    let fewer = left_turns was (awaits Source old.client.client) (awaits Dest old.client.client) due in
    record {
      turn = own.turn;
      is = own.is;
      counted = rw own.event_is (record { source = omega arith; dest = omega arith });
      fewer = omega (arith, ap turns_in becomes, fewer);
    }

-- ---- turns in which one is

heard_fewer : {M : Type 0} (event : Event) (side : Side) (message : List ℕ) (undrawn : Bool) (l : Leaving M) (was phase : Phase) → event ≡ Hears side message
    → phase ≡ phase_after event undrawn l was → turns_in phase ≤ turns_in was
heard_fewer event side message undrawn l was phase is becomes =
    let now = becomes ∙ ap (λ e. phase_after e undrawn l was) is in
    omega (arith, ap turns_in now, heard_turns undrawn (report_of (copy_of COPY_NUMBER l.client)) was)

pub source_on : {L M W : Type 0} (terms : Terms L M W) (old new : Parties L M W) (was phase : Phase) (left left_now : Allowance) → BothUp old
    → due_at was old.client ≡ dues.Hear Source
    → HearsTurn terms Source was old.source new.source old.dest new.dest old.client new.client old.draws new.draws phase
    → left.source ≡ left_now.source + 1 → left_now.dest ≡ left.dest → TurnsOn terms old was left left_now new phase
source_on terms old new was phase left left_now up due h source dest =
    let fewer = heard_fewer h.turn.event Source h.message h.turn.out.undrawn new.client was phase h.event h.becomes in
    record {
      turn = h.turn;
      is = record { up = up; due = ap due_of h.event ∙ sym due; acts = h.acts; source = h.moves; dest = h.others; becomes = h.becomes };
      counted = rw h.event (record { source = source; dest = omega (arith, dest) });
      fewer = omega (arith, fewer, source, dest);
    }

pub dest_on : {L M W : Type 0} (terms : Terms L M W) (old new : Parties L M W) (was phase : Phase) (left left_now : Allowance) → BothUp old
    → due_at was old.client ≡ dues.Hear Dest
    → HearsTurn terms Dest was old.dest new.dest old.source new.source old.client new.client old.draws new.draws phase
    → left.dest ≡ left_now.dest + 1 → left_now.source ≡ left.source → TurnsOn terms old was left left_now new phase
dest_on terms old new was phase left left_now up due h dest source =
    let fewer = heard_fewer h.turn.event Dest h.message h.turn.out.undrawn new.client was phase h.event h.becomes in
    record {
      turn = h.turn;
      is = record { up = up; due = ap due_of h.event ∙ sym due; acts = h.acts; source = h.others; dest = h.moves; becomes = h.becomes };
      counted = rw h.event (record { source = omega (arith, source); dest = dest });
      fewer = omega (arith, fewer, source, dest);
    }

-- ---- no turn

same_parties : {L M W : Type 0} (a b : Parties L M W) → a.source ≡ b.source → a.dest ≡ b.dest → a.client ≡ b.client → a.draws ≡ b.draws → a ≡ b
same_parties a b source dest client draws =
    ap (λ s. record a { source = s }) source ∙ ap (λ d. record a { source = b.source; dest = d }) dest
    ∙ ap (λ l. record b { client = l; draws = a.draws }) client ∙ ap (λ w. record b { draws = w }) draws

source_halts : {L M W : Type 0} (terms : Terms L M W) (old new : Parties L M W) (was : Phase) (left : Allowance) (why : ((left.source ≡ 0) × (new.source ≡ old.source)) ⊎ Falls terms.gives terms.takes old.source new.source)
    → BothUp old → due_at was old.client ≡ dues.Hear Source → new.dest ≡ old.dest → new.client ≡ old.client → new.draws ≡ old.draws → Halts terms old was left new
source_halts terms old new was left (inl full) up due dest client draws = Full Source up due full.0 (same_parties new old full.1 dest client draws)
source_halts terms old new was left (inr falls) up due dest client draws = Fell Source up due (falls, same_parties new (record old { source = new.source }) refl dest client draws)

dest_halts : {L M W : Type 0} (terms : Terms L M W) (old new : Parties L M W) (was : Phase) (left : Allowance) (why : ((left.dest ≡ 0) × (new.dest ≡ old.dest)) ⊎ Falls terms.gives terms.takes old.dest new.dest)
    → BothUp old → due_at was old.client ≡ dues.Hear Dest → new.source ≡ old.source → new.client ≡ old.client → new.draws ≡ old.draws → Halts terms old was left new
dest_halts terms old new was left (inl full) up due source client draws = Full Dest up due full.0 (same_parties new old source full.1 client draws)
dest_halts terms old new was left (inr falls) up due source client draws = Fell Dest up due (falls, same_parties new (record old { dest = new.dest }) source refl client draws)

pub source_idles : {L M W : Type 0} (terms : Terms L M W) (old new : Parties L M W) (was : Phase) (left : Allowance) (left_now : ℕ) → BothUp old → due_at was old.client ≡ dues.Hear Source
    → Idles terms.gives terms.takes left.source left_now old.source new.source old.dest new.dest old.client new.client old.draws new.draws → Halts terms old was left new
source_idles terms old new was left left_now up due idles = source_halts terms old new was left idles.why up due idles.others idles.client idles.draws

pub dest_idles : {L M W : Type 0} (terms : Terms L M W) (old new : Parties L M W) (was : Phase) (left : Allowance) (left_now : ℕ) → BothUp old → due_at was old.client ≡ dues.Hear Dest
    → Idles terms.gives terms.takes left.dest left_now old.dest new.dest old.source new.source old.client new.client old.draws new.draws → Halts terms old was left new
dest_idles terms old new was left left_now up due idles = dest_halts terms old new was left idles.why up due idles.others idles.client idles.draws

-- ---- want of memory

pub own_wants : {L M W : Type 0} (terms : Terms L M W) (event : Event) (old : Parties L M W) (was : Phase) (left : Allowance) (source dest : Watch L) (client : Leaving M)
    → due_of event ≡ due_at was old.client → message_at Source event ≡ None → message_at Dest event ≡ None → source ≡ old.source → dest ≡ old.dest → client ≡ old.client
    → Wants terms old was left left source dest client
own_wants terms event old was left source dest client due no_source no_dest source_is dest_is client_is = record {
  event = event;
  due = due;
  source = rw no_source source_is;
  dest = rw no_dest dest_is;
  client = client_is;
  counted = record { source = rw no_source (omega arith); dest = rw no_dest (omega arith) };
}

pub source_wants : {L M W : Type 0} (terms : Terms L M W) (old : Parties L M W) (was : Phase) (left left_now : Allowance) (source dest : Watch L) (client : Leaving M)
    → due_at was old.client ≡ dues.Hear Source → HearsShort terms.gives terms.takes left.source left_now.source old.source source old.dest dest old.client client
    → left_now.dest ≡ left.dest → Wants terms old was left left_now source dest client
source_wants terms old was left left_now source dest client due short same = record {
  event = Hears Source short.message;
  due = sym due;
  source = short.brings;
  dest = short.others;
  client = short.client;
  counted = record { source = short.counted; dest = omega (arith, same) };
}

pub dest_wants : {L M W : Type 0} (terms : Terms L M W) (old : Parties L M W) (was : Phase) (left left_now : Allowance) (source dest : Watch L) (client : Leaving M)
    → due_at was old.client ≡ dues.Hear Dest → HearsShort terms.gives terms.takes left.dest left_now.dest old.dest dest old.source source old.client client
    → left_now.source ≡ left.source → Wants terms old was left left_now source dest client
dest_wants terms old was left left_now source dest client due short same = record {
  event = Hears Dest short.message;
  due = sym due;
  source = short.others;
  dest = short.brings;
  client = short.client;
  counted = record { source = omega (arith, same); dest = short.counted };
}

-- ---- what is due, as the code finds it

pub due_by : {M : Type 0} (phase : Phase) (l : Leaving M) (source dest : Bool) (found due : Due) → source ≡ awaits Source l.client → dest ≡ awaits Dest l.client
    → found ≡ due_in phase source dest → found ≡ due → due_at phase l ≡ due
due_by phase l source dest found due source_is dest_is is now =
    sym (is ∙ ap (λ a. due_in phase a dest) source_is ∙ ap (λ b. due_in phase (awaits Source l.client) b) dest_is) ∙ now
