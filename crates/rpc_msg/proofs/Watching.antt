-- What a feed makes of the unread bytes of a watched link, and what its answers add up to.
use Rattle.std.proofs.Common.{◌≡◌, ℕ, ◌+◌, ◌*◌, ◌-◌, ◌<◌, ◌≤◌, Bool, true, false, nat_lt, ◌&&◌, ◌||◌, min, if◌then◌else◌, ◌==◌, List, [], ◌∷◌, ◌++◌, length, take, drop, refl, sym, ap, ◌∙◌, inl, inr, arith, append_assoc, append-nil, length-append, length-drop}
use Rattle.std.proofs.lemmas.List.{length-take-le, take-take, drop-drop}
use Rattle.std.proofs.lemmas.Bool.{true≢false, cases_Bool, ltb-true, ltb-false, lt-ltb, le-ltb}
use Rattle.std.proofs.Math.Seq.{take-add}
use Rattle.std.specs.declared.option.Option.{Option}
use Rattle.std.specs.declared.option.Option.TheVariants.{None}
use Rattle.std.specs.Io.KnownBytes.{Consumes, Keeps}
use Rattle.std.proofs.KnownBytes.{Consumes-nil, Consumes-trans, Consumes-kept}
use Rattle.rpc_msg.specs.Records.{record_limit, is_last, fragment_len}
use Rattle.rpc_msg.specs.Underway.{Under, fresh, Step, Goes, Ends, Passes, Cut, Part, Whole, Large, cut, cut_on, on_byte, on_end, on_fragment, State, Open, then_flow, flow, Feed, Feeds, FeedsCut}
use Rattle.rpc_msg.specs.Watching.{bytes_limit, is_part, Watch, Signs, is_down, no_signs, got_of, standing, Reads, ReadsFront, ReadsPart, ReadsWhole, ReadsDown, Asks, Why, Ended, Failed, TooLarge, TooLong, signs_of, Because, GoesDown, NextIs, PutsThrough, HasTold}
use Rattle.rpc_msg.specs.declared.watched.Got.{Got}
use Rattle.rpc_msg.specs.declared.watched.Got.TheVariants as got
use Rattle.rpc_msg.specs.declared.watched.Asked.TheVariants as kinds
use Rattle.streams.specs.declared.sink.Put.{Put}
use Rattle.streams.specs.declared.sink.Put.TheVariants as puts
use Rattle.rpc_msg.specs.declared.records.Fed.{Fed}
use Rattle.rpc_msg.specs.declared.records.Fed.TheVariants as fed
use Rattle.rpc_msg.specs.StreamLaws.{flow-append}
use Rattle.rpc_msg.specs.FeedLaws.{flow_said, fed_flow, flow-nil, SaidOf, said_at}

-- lengths pass the limit only above it
abbrev StepOver : Step → Type 0
StepOver (Goes under) = Unit {0}
StepOver (Ends joined) = Unit {0}
StepOver (Passes sum) = record_limit < sum

abbrev CutOver : Cut → Type 0
CutOver (Part under) = Unit {0}
CutOver (Whole joined rest) = Unit {0}
CutOver (Large sum rest) = record_limit < sum

over_if : (b : Bool) (x y : Step) → StepOver x → StepOver y → StepOver (if b then x else y)
over_if true x y p q = p
over_if false x y p q = q

over_end : (joined : List ℕ) (last : Bool) → StepOver (on_end joined last)
over_end joined true = tt
over_end joined false = tt

over_fragment : (joined : List ℕ) (last : Bool) (len : ℕ) → StepOver (on_fragment joined last len)
over_fragment joined last len =
    elim (cases_Bool (nat_lt record_limit (length joined + len))) [
      | inl large ↦ rw large (ltb-true _ _ large)
      | inr small ↦ rw small (over_if (len == 0) _ _ (over_end joined last) tt)
    ]

over_byte : (under : Under) (byte : ℕ) → StepOver (on_byte under byte)
unfolding on_byte
over_byte under byte =
    over_if (nat_lt 0 under.lacking) _ _
    (over_if (length (byte ∷ []) == under.lacking) _ _ (over_end (under.joined ++ (byte ∷ [])) under.last) tt)
    (over_if (under.header_bytes == 3) _ _
    (over_fragment under.joined (is_last (under.header * 256 + byte)) (fragment_len (under.header * 256 + byte))) tt)

over_step : (step : Step) (bytes : List ℕ) → StepOver step → ((next : Under) → CutOver (cut next bytes))
    → CutOver (cut_on step bytes (λ next. cut next bytes))
over_step (Goes under) bytes over later = later under
over_step (Ends joined) bytes over later = tt
over_step (Passes sum) bytes over later = over

cut-over : (under : Under) (bytes : List ℕ) → CutOver (cut under bytes)
unfolding cut
cut-over under [] = tt
cut-over under (byte ∷ bytes) = over_step (on_byte under byte) bytes (over_byte under byte) (λ next. cut-over next bytes)

-- what an answer of a feed says of the piece
abbrev pub OverOf : Fed → Type 0
OverOf fed.Need = Unit {0}
OverOf fed.Whole = Unit {0}
OverOf (fed.TooLarge sum) = record_limit < sum

over_at : (is : Cut) (bytes : List ℕ) (taken : ℕ) (said : Fed) (new : Feed) → CutOver is → FeedsCut is bytes taken said new → OverOf said
over_at (Part next) bytes taken said new over feeds = rw feeds.answer tt
over_at (Whole joined rest) bytes taken said new over feeds = rw feeds.answer tt
over_at (Large sum rest) bytes taken said new over feeds = rw feeds.answer over

abbrev PartOf : Fed → Bool → ℕ → ℕ → Type 0
PartOf fed.Need part taken len = (part ≡ true) × (taken ≡ len)
PartOf fed.Whole part taken len = part ≡ false
PartOf (fed.TooLarge sum) part taken len = part ≡ false

part_at : (is : Cut) (bytes : List ℕ) (taken : ℕ) (said : Fed) (new : Feed) → FeedsCut is bytes taken said new
    → PartOf said (is_part is) taken (length bytes)
part_at (Part next) bytes taken said new feeds = rw feeds.answer (refl, feeds.taken_whole)
part_at (Whole joined rest) bytes taken said new feeds = rw feeds.answer refl
part_at (Large sum rest) bytes taken said new feeds = rw feeds.answer refl

-- the bytes of a room from one place to another
abbrev pub between_places : List ℕ → ℕ → ℕ → List ℕ
between_places room start until = take (until - start) (drop start room)

-- the first of them, and the others
places_parts : (room : List ℕ) (start until end taken : ℕ) → start ≤ end → end ≤ until → taken ≤ end - start
    → between_places room start until ≡ take taken (between_places room start end) ++ between_places room (start + taken) until
places_parts room start until end taken first last within =
    let split : until - start ≡ taken + (until - (start + taken)) = omega arith in
    rw (split, take-add taken (until - (start + taken)) (drop start room), take-take taken (end - start) (drop start room) within, drop-drop taken start room) refl

places_len : (room : List ℕ) (start until : ℕ) → start ≤ until → until ≤ length room → length (between_places room start until) ≡ until - start
places_len room start until first last = length-take-le (until - start) (drop start room) (omega (arith, length-drop start room))

pub places_none : (room : List ℕ) (start until : ℕ) → start ≡ until → between_places room start until ≡ []
places_none room start until same = let none : until - start ≡ 0 = omega arith in rw none refl

-- whether more bytes are wanted, by what the feed answered to the unread bytes, of which no more than
-- may come were given to it
abbrev pub wanted_of : Under → ℕ → List ℕ → Bool
wanted_of under count unread = nat_lt (count + length unread) bytes_limit && is_part (cut under unread)

abbrev pub WantedBy : Fed → ℕ → Bool → Type 0
WantedBy fed.Need now wanted = (now < bytes_limit → wanted ≡ true) × (bytes_limit ≤ now → wanted ≡ false)
WantedBy fed.Whole now wanted = wanted ≡ false
WantedBy (fed.TooLarge sum) now wanted = wanted ≡ false

-- no more is wanted where what was fed is no part of a record
not_wanted : (under : Under) (count : ℕ) (unread piece : List ℕ) → (count + length unread < bytes_limit → piece ≡ unread)
    → is_part (cut under piece) ≡ false → wanted_of under count unread ≡ false
not_wanted under count unread piece same part =
    elim (cases_Bool (nat_lt (count + length unread) bytes_limit)) [
      | inl few ↦ (let all : piece ≡ unread = same (ltb-true _ _ few) in rw (few, ← all) part)
      | inr many ↦ rw many refl
    ]

-- more is wanted where all of it was fed as part of a record
wants_more : (under : Under) (count : ℕ) (unread piece : List ℕ) → piece ≡ unread → count + length piece < bytes_limit
    → is_part (cut under piece) ≡ true → wanted_of under count unread ≡ true
wants_more under count unread piece same few part =
    let some : nat_lt (count + length unread) bytes_limit ≡ true = lt-ltb _ _ (rw same at few) in
    rw (some, ← same) part

wanted_by : (said : Fed) (under : Under) (count taken : ℕ) (unread piece : List ℕ)
    → (count + length unread < bytes_limit → piece ≡ unread) → (count + length piece < bytes_limit → piece ≡ unread)
    → length piece ≤ length unread
    → PartOf said (is_part (cut under piece)) taken (length piece) → WantedBy said (count + taken) (wanted_of under count unread)
wanted_by fed.Need under count taken unread piece same back within part =
    let whole = part.1 in (
      (λ few. wants_more under count unread piece (back (rw whole at few)) (rw whole at few) part.0),
      (λ many. let more : bytes_limit ≤ count + length unread = omega (arith, many, whole, within) in
          rw (le-ltb (count + length unread) bytes_limit more) refl),
    )
wanted_by fed.Whole under count taken unread piece same back within part = not_wanted under count unread piece same part
wanted_by (fed.TooLarge sum) under count taken unread piece same back within part = not_wanted under count unread piece same part

-- what a call of the feed with the unread bytes tells
pub record Fact (feed new : Feed) (room : List ℕ) (start until count taken : ℕ) (said : Fed) : Type 0 where
  pub bytes : List ℕ
  pub parts : between_places room start until ≡ bytes ++ between_places room (start + taken) until
  pub told : flow (Open count feed.under) bytes ≡ flow_said count taken said new
  pub len : length bytes ≡ taken
  pub few : count + taken ≤ bytes_limit
  pub within : start + taken ≤ until
  pub said_is : SaidOf said new
  pub over : OverOf said
  pub wanted : WantedBy said (count + taken) (wanted_of feed.under count (between_places room start until))
  pub all : count + taken < bytes_limit → said ≡ fed.Need → start + taken ≡ until

abbrev AllOf : Fed → Type 0 → Type 0
AllOf fed.Need P = P
AllOf fed.Whole P = Unit {0}
AllOf (fed.TooLarge sum) P = Unit {0}

all_need : (said : Fed) (P : Type 0) → AllOf said P → said ≡ fed.Need → P
all_need said P all is = rw is at all

all_at : (said : Fed) (part : Bool) (taken len now start until : ℕ) → PartOf said part taken len → (taken ≡ len → now < bytes_limit → start + taken ≡ until)
    → AllOf said (now < bytes_limit → start + taken ≡ until)
all_at fed.Need part taken len now start until is so = so is.1
all_at fed.Whole part taken len now start until is so = tt
all_at (fed.TooLarge sum) part taken len now start until is so = tt

pub fact : (feed new : Feed) (room : List ℕ) (start until end count : ℕ) (result : ℕ × Fed) → feed.large ≡ None
    → start ≤ until → until ≤ length room → count < bytes_limit → end ≡ min until (start + (bytes_limit - count))
    → Feeds feed.large feed (between_places room start end) result new → result.0 ≤ length (between_places room start end)
    → Fact feed new room start until count result.0 result.1
fact feed new room start until end count result small first last few is exact within =
    let feeds : FeedsCut (cut feed.under (between_places room start end)) (between_places room start end) result.0 result.1 new = rw small at exact in
    let piece_len : length (between_places room start end) ≡ end - start = places_len room start end (omega arith) (omega arith) in
    let unread_len : length (between_places room start until) ≡ until - start = places_len room start until first last in
    let inside : result.0 ≤ end - start = rw piece_len at within in
    let part = part_at (cut feed.under (between_places room start end)) (between_places room start end) result.0 result.1 new feeds in
    record {
      bytes = take result.0 (between_places room start end);
      parts = places_parts room start until end result.0 (omega arith) (omega arith) inside;
      told = fed_flow feed.under count (between_places room start end) result.0 result.1 new feeds;
      len = length-take-le result.0 (between_places room start end) within;
      few = omega arith;
      within = omega arith;
      said_is = said_at (cut feed.under (between_places room start end)) (between_places room start end) result.0 result.1 new feeds;
      over = over_at (cut feed.under (between_places room start end)) (between_places room start end) result.0 result.1 new (cut-over feed.under (between_places room start end)) feeds;
      wanted = wanted_by result.1 feed.under count result.0 (between_places room start until) (between_places room start end)
          (λ few. ap (between_places room start) (omega arith)) (λ few. ap (between_places room start) (omega arith)) (omega arith) part;
      all = λ now. λ said. all_need result.1 _ (all_at result.1 _ result.0 _ (count + result.0) start until part (λ whole. λ now. omega arith)) said now;
    }

-- a link that nothing speaks against
zero_of : (n : ℕ) → nat_lt 0 n ≡ false → n ≡ 0
zero_of n small = let most : n ≤ 0 = ltb-false 0 n small in omega arith

or_none : (a b : Bool) → (a || b) ≡ false → (a ≡ false) × (b ≡ false)
or_none true b none = absurd (true≢false none)
or_none false b none = (refl, none)

pub up_signs : (signs : Signs) → is_down signs ≡ false → signs ≡ no_signs
up_signs signs up =
    let first = or_none _ _ up in
    let others = or_none _ _ first.1 in
    let faults = zero_of signs.faults first.0 in
    let large = zero_of signs.large others.1 in
    up_from signs.faults signs.ended signs.large faults others.0 large
  where
    up_from : (faults : ℕ) (ended : Bool) (large : ℕ) → faults ≡ 0 → ended ≡ false → large ≡ 0
        → record { faults = faults; ended = ended; large = large } ≡ no_signs
    up_from faults ended large a b c = rw (a, b, c) refl

-- what was read so far, with nothing unread
pub record Quiet {L : Type 0} (left : L → Option (List ℕ)) (old now : Watch L) : Type 0 where
  pub read : Reads left old now [] (standing now)
  pub counted : now.count ≡ old.count + length read.bytes
  pub unread : now.unread ≡ []
  pub signs : now.signs ≡ old.signs
  pub sent : now.sent ≡ old.sent

-- the link gave more bytes, of which the first were read
pub reads_more : {L : Type 0} (left : L → Option (List ℕ)) (old now asked new : Watch L) (records : List (List ℕ)) (state : State)
    → Quiet left old now → Consumes (left now.link) (left asked.link) asked.unread
    → asked ≡ record now { link = asked.link; unread = asked.unread } → new.link ≡ asked.link
    → ReadsFront asked new records state → Reads left old new records state
reads_more left old now asked new records state quiet gave same link front =
    let before = quiet.read in
    let counted = quiet.counted in
    let standing_same : standing asked ≡ standing now = ap standing same in
    let told : flow (standing now) front.bytes ≡ record { records = records; state = state } = rw standing_same at front.told in
    let both : flow (standing old) (before.bytes ++ front.bytes) ≡ then_flow (flow (standing old) before.bytes) (λ next. flow next front.bytes) =
    flow-append (standing old) before.bytes front.bytes in
    let count : asked.count ≡ now.count = ap (λ w. w.count) same in
    let none : before.bytes ++ now.unread ≡ before.bytes = rw quiet.unread (append-nil before.bytes) in
    record {
      given = before.given ++ asked.unread;
      bytes = before.bytes ++ front.bytes;
      gave = rw link (Consumes-trans _ _ _ _ _ before.gave gave);
      parts = sym (append_assoc old.unread before.given asked.unread)
          ∙ ap (λ (l : List ℕ). l ++ asked.unread) (before.parts ∙ none)
          ∙ ap (λ (l : List ℕ). before.bytes ++ l) front.parts
          ∙ sym (append_assoc before.bytes front.bytes new.unread);
      told = rw (both, before.told) (rw told refl);
      few = omega (arith, length-append before.bytes front.bytes, front.few);
    }

-- the unread bytes were read, and the link wasn't asked
pub reads_front : {L : Type 0} (left : L → Option (List ℕ)) (old new : Watch L) (records : List (List ℕ)) (state : State)
    → new.link ≡ old.link → ReadsFront old new records state → Reads left old new records state
reads_front left old new records state link front =
    record {
      given = [];
      bytes = front.bytes;
      gave = rw link (Consumes-nil _);
      parts = append-nil old.unread ∙ front.parts;
      told = front.told;
      few = front.few;
    }

-- nothing was read yet
pub quiet_none : {L : Type 0} (left : L → Option (List ℕ)) (old : Watch L) → old.unread ≡ [] → old.count < bytes_limit → Quiet left old old
quiet_none left old none few =
    record {
      read = record {
        given = [];
        bytes = [];
        gave = Consumes-nil _;
        parts = append-nil old.unread;
        told = flow-nil (standing old);
        few = omega arith;
      };
      counted = omega arith;
      unread = none;
      signs = refl;
      sent = refl;
    }

-- all unread bytes were read as part of a record
part_front : {L : Type 0} (old new : Watch L) → ReadsPart old new → ReadsFront old new [] (standing new)
part_front old new part =
    let none : new.unread ≡ [] = ap (λ w. w.unread) part.rest in
    record {
      bytes = old.unread;
      parts = sym (ap (λ (l : List ℕ). old.unread ++ l) none ∙ append-nil old.unread);
      told = part.told;
      few = omega (arith, part.counted, part.few);
    }

-- the link gave more bytes, and they are part of a record
pub quiet_more : {L : Type 0} (left : L → Option (List ℕ)) (faults : L → ℕ) (old now asked new : Watch L)
    → Quiet left old now → Asks left faults now asked kinds.More → ReadsPart asked new → Quiet left old new
unfolding reads_more part_front
quiet_more left faults old now asked new quiet asks part =
    let counted = quiet.counted in
    let before = quiet.read in
    let count : asked.count ≡ now.count = ap (λ w. w.count) asks.0 in
    record {
      read = reads_more left old now asked new [] (standing new) quiet asks.2 asks.0 (ap (λ w. w.link) part.rest) (part_front asked new part);
      counted = omega (arith, part.counted, count, counted, length-append before.bytes asked.unread);
      unread = ap (λ w. w.unread) part.rest;
      signs = ap (λ w. w.signs) part.rest ∙ ap (λ w. w.signs) asks.0 ∙ quiet.signs;
      sent = ap (λ w. w.sent) part.rest ∙ ap (λ w. w.sent) asks.0 ∙ quiet.sent;
    }

-- a link that nothing speaks against is up
up_is : (signs : Signs) → signs ≡ no_signs → is_down signs ≡ false
up_is signs up = rw up refl

pub got_up : (old new : Signs) → new ≡ old → old ≡ no_signs → got.Whole ≡ got_of new
got_up old new same up = rw (same, up) refl

pub got_down : {L : Type 0} (left : L → Option (List ℕ)) (faults : L → ℕ) (why : Why) (old new : Watch L) (signs : Signs)
    → signs ≡ signs_of why → Because left faults why old new → got.Down ≡ got_of signs
got_down left faults Ended old new signs is cause = rw is refl
got_down left faults Failed old new signs is cause = rw is refl
got_down left faults (TooLarge sum) old new signs is cause = rw (is, lt-ltb 0 sum (omega (arith, cause))) refl
got_down left faults TooLong old new signs is cause = rw is refl

-- the unread bytes hold a record, or pass a limit
pub next_whole : {L : Type 0} (left : L → Option (List ℕ)) (faults : L → ℕ) (old new : Watch L)
    → old.signs ≡ no_signs → ReadsWhole old new → NextIs left faults old new got.Whole
next_whole left faults old new up whole = (
  up_is old.signs up,
  ap (λ w. w.signs) whole.rest,
  ap (λ w. w.sent) whole.rest,
  whole_standing new (ap (λ w. w.count) whole.rest) whole.under,
  reads_front left old new _ _ (ap (λ w. w.link) whole.rest) whole.read,
)
  where
    whole_standing : {L : Type 0} (new : Watch L) → new.count ≡ 0 → new.feed.under ≡ fresh → standing new ≡ Open 0 fresh
    whole_standing new count under = rw (count, under) refl

pub goes_down : {L : Type 0} (left : L → Option (List ℕ)) (faults : L → ℕ) (old new : Watch L)
    → old.signs ≡ no_signs → GoesDown left faults old new → NextIs left faults old new got.Down
goes_down left faults old new up down = let is = up_is old.signs up in rw is down

pub read_down : {L : Type 0} (left : L → Option (List ℕ)) (faults : L → ℕ) (old new : Watch L)
    → ReadsDown old new → GoesDown left faults old new
read_down left faults old new down =
    record {
      why = down.why;
      signs = ap (λ w. w.signs) down.rest;
      cause = down.cause left faults old;
      read = reads_front left old new _ _ (ap (λ w. w.link) down.rest) down.read;
      sent = ap (λ w. w.sent) down.rest;
    }

-- the link gave more bytes, which end a record or pass a limit
pub ask_whole : {L : Type 0} (left : L → Option (List ℕ)) (faults : L → ℕ) (old now asked new : Watch L)
    → old.signs ≡ no_signs → Quiet left old now → Asks left faults now asked kinds.More → ReadsWhole asked new
    → NextIs left faults old new got.Whole
ask_whole left faults old now asked new up quiet asks whole = (
  up_is old.signs up,
  ap (λ w. w.signs) whole.rest ∙ ap (λ w. w.signs) asks.0 ∙ quiet.signs,
  ap (λ w. w.sent) whole.rest ∙ ap (λ w. w.sent) asks.0 ∙ quiet.sent,
  whole_standing new (ap (λ w. w.count) whole.rest) whole.under,
  reads_more left old now asked new _ _ quiet asks.2 asks.0 (ap (λ w. w.link) whole.rest) whole.read,
)
  where
    whole_standing : {L : Type 0} (new : Watch L) → new.count ≡ 0 → new.feed.under ≡ fresh → standing new ≡ Open 0 fresh
    whole_standing new count under = rw (count, under) refl

pub ask_down : {L : Type 0} (left : L → Option (List ℕ)) (faults : L → ℕ) (old now asked new : Watch L)
    → Quiet left old now → Asks left faults now asked kinds.More → ReadsDown asked new → GoesDown left faults old new
ask_down left faults old now asked new quiet asks down =
    record {
      why = down.why;
      signs = ap (λ w. w.signs) down.rest;
      cause = down.cause left faults old;
      read = reads_more left old now asked new _ _ quiet asks.2 asks.0 (ap (λ w. w.link) down.rest) down.read;
      sent = ap (λ w. w.sent) down.rest ∙ ap (λ w. w.sent) asks.0 ∙ quiet.sent;
    }

-- the link gave nothing more
reads_kept : {L : Type 0} (left : L → Option (List ℕ)) (old now new : Watch L) → Quiet left old now
    → new.unread ≡ now.unread → standing new ≡ standing now → Keeps (left now.link) (left new.link) → Reads left old new [] (standing new)
reads_kept left old now new quiet unread stands kept =
    let before = quiet.read in
    record {
      given = before.given;
      bytes = before.bytes;
      gave = Consumes-kept _ _ _ _ before.gave kept;
      parts = rw unread before.parts;
      told = rw stands before.told;
      few = before.few;
    }

pub ask_ended : {L : Type 0} (left : L → Option (List ℕ)) (faults : L → ℕ) (old now new : Watch L)
    → Quiet left old now → Asks left faults now new kinds.Ended → GoesDown left faults old new
ask_ended left faults old now new quiet asks =
    record {
      why = Ended;
      signs = ap (λ w. w.signs) asks.0;
      cause = (ap (λ w. w.unread) asks.0 ∙ quiet.unread, asks.2);
      read = reads_kept left old now new quiet (ap (λ w. w.unread) asks.0) (ap standing asks.0) asks.1;
      sent = ap (λ w. w.sent) asks.0 ∙ quiet.sent;
    }

pub ask_failed : {L : Type 0} (left : L → Option (List ℕ)) (faults : L → ℕ) (old now new : Watch L)
    → Quiet left old now → faults old.link ≤ faults now.link → Asks left faults now new kinds.Failed → GoesDown left faults old new
ask_failed left faults old now new quiet later asks =
    record {
      why = Failed;
      signs = ap (λ w. w.signs) asks.0;
      cause = (ap (λ w. w.unread) asks.0 ∙ quiet.unread, omega (arith, asks.2, later));
      read = reads_kept left old now new quiet (ap (λ w. w.unread) asks.0) (ap standing asks.0) asks.1;
      sent = ap (λ w. w.sent) asks.0 ∙ quiet.sent;
    }

-- all unread bytes were read, and then the link was asked
reads_after : {L : Type 0} (left : L → Option (List ℕ)) (old mid new : Watch L) (records : List (List ℕ)) (state : State)
    → ReadsPart old mid → Reads left mid new records state → Reads left old new records state
reads_after left old mid new records state part more =
    let none : mid.unread ≡ [] = ap (λ w. w.unread) part.rest in
    let link : mid.link ≡ old.link = ap (λ w. w.link) part.rest in
    let both : flow (standing old) (old.unread ++ more.bytes) ≡ then_flow (flow (standing old) old.unread) (λ next. flow next more.bytes) =
    flow-append (standing old) old.unread more.bytes in
    record {
      given = more.given;
      bytes = old.unread ++ more.bytes;
      gave = rw link at more.gave;
      parts = ap (λ (l : List ℕ). old.unread ++ l) (ap (λ (l : List ℕ). l ++ more.given) (sym none) ∙ more.parts)
          ∙ sym (append_assoc old.unread more.bytes new.unread);
      told = rw (both, part.told) (rw more.told refl);
      few = omega (arith, length-append old.unread more.bytes, part.counted, more.few);
    }

because_after : {L : Type 0} (left : L → Option (List ℕ)) (faults : L → ℕ) (why : Why) (old mid new : Watch L)
    → mid.link ≡ old.link → Because left faults why mid new → Because left faults why old new
because_after left faults Ended old mid new link cause = cause
because_after left faults Failed old mid new link cause = (cause.0, rw link at cause.1)
because_after left faults (TooLarge sum) old mid new link cause = cause
because_after left faults TooLong old mid new link cause = cause

pub next_after : {L : Type 0} (left : L → Option (List ℕ)) (faults : L → ℕ) (old mid new : Watch L) (said : Got)
    → old.signs ≡ no_signs → ReadsPart old mid → NextIs left faults mid new said → NextIs left faults old new said
next_after left faults old mid new got.Whole up part next = (
  up_is old.signs up,
  next.1 ∙ ap (λ w. w.signs) part.rest,
  next.2 ∙ ap (λ w. w.sent) part.rest,
  next.3,
  reads_after left old mid new _ _ part next.4,
)
next_after left faults old mid new got.Down up part next =
    let is : is_down mid.signs ≡ false = up_is mid.signs (ap (λ w. w.signs) part.rest ∙ up) in
    let down : GoesDown left faults mid new = rw is at next in
    goes_down left faults old new up (record {
      why = down.why;
      signs = down.signs;
      cause = because_after left faults down.why old mid new (ap (λ w. w.link) part.rest) down.cause;
      read = reads_after left old mid new _ _ part down.read;
      sent = down.sent ∙ ap (λ w. w.sent) part.rest;
    })

-- what was told since a stream began
pub told_none : {L : Type 0} (left : L → Option (List ℕ)) (now : Watch L) → now.unread ≡ [] → now.count ≡ 0 → now.feed.under ≡ fresh
    → HasTold left now.link now []
told_none left now unread count under =
    record { given = []; bytes = []; gave = Consumes-nil _; parts = sym unread; told = rw (count, under) (flow-nil (Open 0 fresh)) }

pub told_more : {L : Type 0} (left : L → Option (List ℕ)) (start : L) (old new : Watch L) (records others : List (List ℕ))
    → HasTold left start old records → Reads left old new others (standing new) → HasTold left start new (records ++ others)
told_more left start old new records others told more =
    let both : flow (Open 0 fresh) (told.bytes ++ more.bytes) ≡ then_flow (flow (Open 0 fresh) told.bytes) (λ next. flow next more.bytes) =
    flow-append (Open 0 fresh) told.bytes more.bytes in
    record {
      given = told.given ++ more.given;
      bytes = told.bytes ++ more.bytes;
      gave = Consumes-trans _ _ _ _ _ told.gave more.gave;
      parts = ap (λ (l : List ℕ). l ++ more.given) told.parts
          ∙ append_assoc told.bytes old.unread more.given
          ∙ ap (λ (l : List ℕ). told.bytes ++ l) more.parts
          ∙ sym (append_assoc told.bytes more.bytes new.unread);
      told = rw (both, told.told) (rw more.told refl);
    }

kept_by : {L : Type 0} (left : L → Option (List ℕ)) (start : L) (old new : Watch L) (records : List (List ℕ))
    → HasTold left start old records → new.unread ≡ old.unread → standing new ≡ standing old → Keeps (left old.link) (left new.link)
    → HasTold left start new records
kept_by left start old new records told unread stands kept =
    record {
      given = told.given;
      bytes = told.bytes;
      gave = Consumes-kept _ _ _ _ told.gave kept;
      parts = rw unread told.parts;
      told = rw stands told.told;
    }

pub told_kept : {L : Type 0} (left : L → Option (List ℕ)) (start : L) (old new : Watch L) (records : List (List ℕ)) (said : Put)
    → HasTold left start old records → PutsThrough old new said → Keeps (left old.link) (left new.link) → HasTold left start new records
told_kept left start old new records (puts.Put n) told through kept = kept_by left start old new records told (ap (λ w. w.unread) through) (ap standing through) kept
told_kept left start old new records puts.Failed told through kept = kept_by left start old new records told (ap (λ w. w.unread) through) (ap standing through) kept
