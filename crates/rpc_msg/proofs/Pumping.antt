-- What serving adds up to, record by record and piece by piece.
use Rattle.std.proofs.Common.{◌≡◌, ℕ, ◌+◌, ◌-◌, ◌<◌, ◌≤◌, ◌==◌, true, List, [], ◌∷◌, ◌++◌, length, take, drop, refl, sym, ap, ◌∙◌, arith, append_assoc, Result, Ok, Err, append-nil, length-append, length-drop, length-take, take-append-drop}
use Rattle.std.specs.Prelude.{OnErr}
use Rattle.std.proofs.lemmas.List.{take_rest, take-append-le}
use Rattle.std.specs.declared.option.Option.{Option}
use Rattle.std.specs.declared.option.Option.TheVariants.{None, Some}
use Rattle.std.specs.Io.KnownBytes.{Appends, Consumes, Keeps}
use Rattle.std.proofs.KnownBytes.{Appends-trans, Appends-nil, Consumes-trans, Consumes-nil, Consumes-kept}
use Rattle.std.proofs.Math.Seq.{take-append_seam, take-add}
use Rattle.streams.specs.Stream.{Taking}
use Rattle.streams.specs.Sink.{Offers}
use Rattle.rpc_msg.specs.Records.{mark_of}
use Rattle.rpc_msg.specs.Underway.{Under, fresh, Step, Goes, Ends, Passes, Cut, Part, Whole, Large, cut, cut_on, on_byte, State, Open, Shut, Flow, then_flow, flow, Feed, Feeds, FeedsCut}
use Rattle.rpc_msg.specs.Serving.{Serves, OffersEach, sent, Passed, PassedFront, Ran, Stops, StopsFront, RanShort}
use Rattle.rpc_msg.specs.declared.records.Fed.{Fed}
use Rattle.rpc_msg.specs.declared.records.Fed.TheVariants as fed
use Rattle.rpc_msg.specs.StreamLaws.{flow-append}
use Rattle.rpc_msg.specs.FeedLaws.{flow-nil, flow_said, fed_flow, fed_now}
use Rattle.std.proofs.lemmas.Grind.{flat_map-append}
use Rattle.std.proofs.lemmas.Bool.{eqb-true}

-- what is put for a reply with bytes
pub sent_some : (reply : List ℕ) → 0 < length reply → sent reply ≡ mark_of (length reply) ++ reply
sent_some [] some = absurd (omega arith)
sent_some (byte ∷ bytes) some = refl

pub sent_none : (reply : List ℕ) → (length reply == 0) ≡ true → sent reply ≡ []
sent_none [] none = refl
sent_none (byte ∷ bytes) none = let no : length (byte ∷ bytes) ≡ 0 = eqb-true _ _ none in absurd (omega (arith, no))

-- the replies to all the records are those to the first and then those to the others
Serves-append : {H : Type 0} (answers : H → List ℕ → List ℕ → H → Type 0) (old middle new : H) (first more replies others : List (List ℕ))
    → Serves answers old first replies middle → Serves answers middle more others new
    → Serves answers old (first ++ more) (replies ++ others) new
Serves-append answers old middle new [] more [] others done later = rw (← done) later
Serves-append answers old middle new [] more (reply ∷ replies) others done later = absurd done
Serves-append answers old middle new (told ∷ first) more [] others done later = absurd done
Serves-append answers old middle new (told ∷ first) more (reply ∷ replies) others done later =
    (done.0, done.1, Serves-append answers done.0 middle new first more replies others done.2 later)

-- the replies were offered, and then the others
offers_join : (a b c : Option (List (List ℕ))) (replies others : List (List ℕ))
    → OffersEach a b replies → OffersEach b c others → OffersEach a c (replies ++ others)
offers_join a b c [] others first later = rw (← first) later
offers_join a b c (reply ∷ replies) others first later = (first.0, first.1, offers_join first.0 b c replies others first.2 later)

-- nothing was offered
pub offers_none : (old : Option (List (List ℕ))) → Offers old old []
offers_none None = record { pieces = []; told = refl; whole = tt; some = λ no. absurd (omega (arith, no)) }
offers_none (Some earlier) = record { pieces = []; told = rw (append-nil earlier) refl; whole = tt; some = λ no. absurd (omega (arith, no)) }

-- bytes that end no record
pub passed_quiet : {H : Type 0} (answers : H → List ℕ → List ℕ → H → Type 0) (old_state new_state : State) (old : H) (put : Taking) (left : ℕ) (bytes : List ℕ)
    → flow old_state bytes ≡ record { records = []; state = new_state }
    → Passed answers Appends old_state new_state old old put put left left bytes
passed_quiet answers old_state new_state old put left bytes is =
    record {
      replies = [];
      state = rw is refl;
      served = rw is refl;
      put = Appends-nil put.taken;
      offered = refl;
      counted = rw is (omega arith);
    }

-- bytes that end one record
pub passed_one : {H : Type 0} (answers : H → List ℕ → List ℕ → H → Type 0) (Puts : Option (List ℕ) → Option (List ℕ) → List ℕ → Type 0)
    (old_state new_state : State) (old new : H) (old_put new_put : Taking) (old_left new_left : ℕ) (bytes told reply : List ℕ)
    → flow old_state bytes ≡ record { records = told ∷ []; state = new_state }
    → answers old told reply new → Puts old_put.taken new_put.taken (sent reply) → Offers old_put.pieces new_put.pieces (sent reply)
    → old_left ≡ new_left + 1
    → Passed answers Puts old_state new_state old new old_put new_put old_left new_left bytes
passed_one answers Puts old_state new_state old new old_put new_put old_left new_left bytes told reply is answered put offered counted =
    record {
      replies = reply ∷ [];
      state = rw is refl;
      served = rw is (new, answered, refl);
      put = rw (append-nil (sent reply)) put;
      offered = (new_put.pieces, offered, refl);
      counted = rw is (omega arith);
    }

-- bytes that were passed one after the other
pub passed_join : {H : Type 0} (answers : H → List ℕ → List ℕ → H → Type 0) (Puts : Option (List ℕ) → Option (List ℕ) → List ℕ → Type 0)
    (join : (a b c : Option (List ℕ)) (x y : List ℕ) → Appends a b x → Puts b c y → Puts a c (x ++ y))
    (s m n : State) (old middle new : H) (a b c : Taking) (l k j : ℕ) (first more : List ℕ)
    → Passed answers Appends s m old middle a b l k first → Passed answers Puts m n middle new b c k j more
    → Passed answers Puts s n old new a c l j (first ++ more)
passed_join answers Puts join s m n old middle new a b c l k j first more done later =
    let both : flow s (first ++ more) ≡ then_flow (flow s first) (λ next. flow next more) = flow-append s first more in
    let at = done.state in
    record {
      replies = done.replies ++ later.replies;
      state = rw (both, at) later.state;
      served = rw (both, at) (Serves-append answers old middle new _ _ done.replies later.replies done.served later.served);
      put = rw (flat_map-append sent done.replies later.replies) (join a.taken b.taken c.taken _ _ done.put later.put);
      offered = offers_join a.pieces b.pieces c.pieces done.replies later.replies done.offered later.offered;
      counted = rw (both, at, length-append (flow s first).records (flow m more).records) (omega (arith, done.counted, later.counted));
    }

pub appends_join : (a b c : Option (List ℕ)) (x y : List ℕ) → Appends a b x → Appends b c y → Appends a c (x ++ y)
appends_join a b c x y first more = Appends-trans a b c x y first more

-- as far as the bytes were passed, a piece taken so far
pub record Running {H : Type 0} (answers : H → List ℕ → List ℕ → H → Type 0) (state : State) (rest : ℕ) (feed : Feed)
    (old new : H) (old_put new_put : Taking) (old_left new_left : ℕ)
    (old_source new_source : Option (List ℕ)) (unspent budget : ℕ) : Type 0 where
  pub bytes : List ℕ
  pub taken : Consumes old_source new_source bytes
  pub spent : length bytes + unspent ≡ budget
  pub passed : Passed answers Appends state (Open rest feed.under) old new old_put new_put old_left new_left bytes
  pub small : rest + unspent ≤ budget
  pub open_now : feed.large ≡ None
  pub some : 0 < new_left

-- one more call of the feed, and what it brought
pub passed_on : {H : Type 0} (answers : H → List ℕ → List ℕ → H → Type 0) (Puts : Option (List ℕ) → Option (List ℕ) → List ℕ → Type 0)
    (join : (a b c : Option (List ℕ)) (x y : List ℕ) → Appends a b x → Puts b c y → Puts a c (x ++ y))
    (s n : State) (rest : ℕ) (feed new_feed : Feed) (old middle new : H) (a b c : Taking) (l k j : ℕ)
    (piece : List ℕ) (at : ℕ) (result : ℕ × Fed) → feed.large ≡ None
    → Feeds feed.large feed (take (length piece - at) (drop at piece)) result new_feed
    → Passed answers Appends s (Open rest feed.under) old middle a b l k (take at piece)
    → (flow (Open rest feed.under) (take result.0 (drop at piece)) ≡ flow_said rest result.0 result.1 new_feed
    → Passed answers Puts (Open rest feed.under) n middle new b c k j (take result.0 (drop at piece)))
    → Passed answers Puts s n old new a c l j (take (at + result.0) piece)
passed_on answers Puts join s n rest feed new_feed old middle new a b c l k j piece at result small exact done brings =
    let is = fed_flow feed.under rest (drop at piece) result.0 result.1 new_feed (fed_now feed new_feed piece at result small exact) in
    rw take-add (passed_join answers Puts join s (Open rest feed.under) n old middle new a b c l k j _ _ done (brings is))

-- it ended no record
pub passed_need : {H : Type 0} (answers : H → List ℕ → List ℕ → H → Type 0)
    (s : State) (rest : ℕ) (feed new_feed : Feed) (old middle : H) (a b : Taking) (l k : ℕ)
    (piece : List ℕ) (at : ℕ) (result : ℕ × Fed) → feed.large ≡ None
    → Feeds feed.large feed (take (length piece - at) (drop at piece)) result new_feed
    → Passed answers Appends s (Open rest feed.under) old middle a b l k (take at piece)
    → result.1 ≡ fed.Need
    → Passed answers Appends s (Open (rest + result.0) new_feed.under) old middle a b l k (take (at + result.0) piece)
passed_need answers s rest feed new_feed old middle a b l k piece at result small exact done said =
    passed_on answers Appends appends_join s (Open (rest + result.0) new_feed.under) rest feed new_feed old middle middle a b b l k k piece at result small exact done
    (λ is. passed_quiet answers _ _ middle b k _ (rw said at is))

-- it met a record too large
pub passed_large : {H : Type 0} (answers : H → List ℕ → List ℕ → H → Type 0)
    (s : State) (rest sum : ℕ) (feed new_feed : Feed) (old middle : H) (a b : Taking) (l k : ℕ)
    (piece : List ℕ) (at : ℕ) (result : ℕ × Fed) → feed.large ≡ None
    → Feeds feed.large feed (take (length piece - at) (drop at piece)) result new_feed
    → Passed answers Appends s (Open rest feed.under) old middle a b l k (take at piece)
    → result.1 ≡ fed.TooLarge sum
    → Passed answers Appends s (Shut sum) old middle a b l k (take (at + result.0) piece)
passed_large answers s rest sum feed new_feed old middle a b l k piece at result small exact done said =
    passed_on answers Appends appends_join s (Shut sum) rest feed new_feed old middle middle a b b l k k piece at result small exact done
    (λ is. passed_quiet answers _ _ middle b k _ (rw said at is))

-- it ended a record, which was served
pub passed_whole : {H : Type 0} (answers : H → List ℕ → List ℕ → H → Type 0) (Puts : Option (List ℕ) → Option (List ℕ) → List ℕ → Type 0)
    (join : (a b c : Option (List ℕ)) (x y : List ℕ) → Appends a b x → Puts b c y → Puts a c (x ++ y))
    (s : State) (rest : ℕ) (feed new_feed : Feed) (old middle new : H) (a b c : Taking) (l k j : ℕ)
    (piece : List ℕ) (at : ℕ) (result : ℕ × Fed) (told reply : List ℕ) → feed.large ≡ None
    → Feeds feed.large feed (take (length piece - at) (drop at piece)) result new_feed
    → Passed answers Appends s (Open rest feed.under) old middle a b l k (take at piece)
    → result.1 ≡ fed.Whole → told ≡ new_feed.told
    → answers middle told reply new → Puts b.taken c.taken (sent reply) → Offers b.pieces c.pieces (sent reply) → k ≡ j + 1
    → Passed answers Puts s (Open 0 fresh) old new a c l j (take (at + result.0) piece)
passed_whole answers Puts join s rest feed new_feed old middle new a b c l k j piece at result told reply small exact done said same answered put offered counted =
    passed_on answers Puts join s (Open 0 fresh) rest feed new_feed old middle new a b c l k j piece at result small exact done
    (λ is. passed_one answers Puts _ _ middle new b c k j _ told reply (rw (said, ← same) at is) answered put offered counted)

-- the whole of a piece was passed
pub running_taken : {H : Type 0} (answers : H → List ℕ → List ℕ → H → Type 0) (s : State) (rest : ℕ) (feed : Feed) (old middle : H)
    (a b : Taking) (l k : ℕ) (source now : Option (List ℕ)) (unspent budget : ℕ)
    (after : ℕ) (new_feed : Feed) (new : H) (c : Taking) (j : ℕ) (later : Option (List ℕ)) (piece : List ℕ) (n : ℕ)
    → Running answers s rest feed old middle a b l k source now unspent budget
    → Consumes now later piece → length piece ≡ n → n ≤ unspent
    → Passed answers Appends (Open rest feed.under) (Open after new_feed.under) middle new b c k j piece
    → new_feed.large ≡ None → 0 < j → after ≤ rest + length piece
    → Running answers s after new_feed old new a c l j source later (unspent - n) budget
running_taken answers s rest feed old middle a b l k source now unspent budget after new_feed new c j later piece n run taken len within passed small some most =
    let spent = run.spent in
    record {
      bytes = run.bytes ++ piece;
      taken = Consumes-trans _ _ _ _ _ run.taken taken;
      spent = omega (arith, length-append run.bytes piece);
      passed = passed_join answers Appends appends_join s (Open rest feed.under) (Open after new_feed.under) old middle new a b c l k j run.bytes piece run.passed passed;
      small = omega (arith, run.small);
      open_now = small;
      some = some;
    }

-- a front of a piece was passed, and then it stopped
pub ran_stopped : {H : Type 0} (answers : H → List ℕ → List ℕ → H → Type 0) (Puts : Option (List ℕ) → Option (List ℕ) → List ℕ → Type 0)
    (join : (a b c : Option (List ℕ)) (x y : List ℕ) → Appends a b x → Puts b c y → Puts a c (x ++ y))
    (s n : State) (rest : ℕ) (feed : Feed) (old middle : H)
    (a b : Taking) (l k : ℕ) (source now : Option (List ℕ)) (unspent budget : ℕ)
    (new : H) (c : Taking) (j : ℕ) (later : Option (List ℕ)) (piece : List ℕ)
    → Running answers s rest feed old middle a b l k source now unspent budget
    → Consumes now later piece → length piece ≤ unspent
    → PassedFront answers Puts (Open rest feed.under) n middle new b c k j piece
    → Ran answers Puts s n old new a c l j source later budget
ran_stopped answers Puts join s n rest feed old middle a b l k source now unspent budget new c j later piece run taken within front =
    let spent = run.spent in
    let inside = front.within in
    let all : (run.bytes ++ take front.count piece) ++ drop front.count piece ≡ run.bytes ++ piece =
    append_assoc run.bytes (take front.count piece) (drop front.count piece)
    ∙ ap (λ (l : List ℕ). run.bytes ++ l) (take-append-drop front.count piece) in
    let taken_len : length (take front.count piece) ≡ front.count = rw (length-take front.count piece) (omega arith) in
    record {
      bytes = run.bytes ++ take front.count piece;
      over = drop front.count piece;
      taken = rw all (Consumes-trans _ _ _ _ _ run.taken taken);
      within = omega (arith, length-append run.bytes (take front.count piece));
      passed = passed_join answers Puts join s (Open rest feed.under) n old middle new a b c l k j run.bytes (take front.count piece) run.passed front.passed;
    }

-- all that was passed, and bytes besides
pub ran_here : {H : Type 0} (answers : H → List ℕ → List ℕ → H → Type 0) (s : State) (rest : ℕ) (feed : Feed) (old middle : H)
    (a b : Taking) (l k : ℕ) (source now : Option (List ℕ)) (unspent budget : ℕ) (later : Option (List ℕ)) (over : List ℕ)
    → Running answers s rest feed old middle a b l k source now unspent budget → Consumes now later over
    → Ran answers Appends s (Open rest feed.under) old middle a b l k source later budget
ran_here answers s rest feed old middle a b l k source now unspent budget later over run taken =
    let spent = run.spent in
    record {
      bytes = run.bytes;
      over = over;
      taken = Consumes-trans _ _ _ _ _ run.taken taken;
      within = omega arith;
      passed = run.passed;
    }

-- the source ended, or gave nothing more
pub ran_end : {H : Type 0} (answers : H → List ℕ → List ℕ → H → Type 0) (s : State) (rest : ℕ) (feed : Feed) (old middle : H)
    (a b : Taking) (l k : ℕ) (source now : Option (List ℕ)) (unspent budget : ℕ) (later : Option (List ℕ))
    → Running answers s rest feed old middle a b l k source now unspent budget → Consumes now later []
    → (ran : Ran answers Appends s (Open rest feed.under) old middle a b l k source later budget) × (ran.over ≡ [])
unfolding ran_here
ran_end answers s rest feed old middle a b l k source now unspent budget later run taken =
    (ran_here answers s rest feed old middle a b l k source now unspent budget later [] run taken, refl)

-- the source gave more than the budget
pub ran_much : {H : Type 0} (answers : H → List ℕ → List ℕ → H → Type 0) (s : State) (rest : ℕ) (feed : Feed) (old middle : H)
    (a b : Taking) (l k : ℕ) (source now : Option (List ℕ)) (unspent budget : ℕ) (later : Option (List ℕ)) (over : List ℕ)
    → Running answers s rest feed old middle a b l k source now unspent budget → unspent ≤ 0 → 0 < length over → Consumes now later over
    → (ran : Ran answers Appends s (Open rest feed.under) old middle a b l k source later budget)
    × (length ran.bytes ≡ budget) × (0 < length ran.over)
unfolding ran_here
ran_much answers s rest feed old middle a b l k source now unspent budget later over run all more taken =
    let spent = run.spent in
    let whole : length run.bytes ≡ budget = omega arith in
    (ran_here answers s rest feed old middle a b l k source now unspent budget later over run taken, whole, more)

-- before anything was taken
pub ran_none : {H : Type 0} (answers : H → List ℕ → List ℕ → H → Type 0) (s : State) (old : H) (a : Taking) (l : ℕ) (source : Option (List ℕ)) (budget : ℕ)
    → Ran answers Appends s s old old a a l l source source budget
ran_none answers s old a l source budget =
    record {
      bytes = [];
      over = [];
      taken = Consumes-nil source;
      within = omega arith;
      passed = passed_quiet answers s s old a l [] (flow-nil s);
    }

-- what was at the front of the room is at the front of its front
pub take_front : (n most : ℕ) (buf room : List ℕ) → n ≤ length buf → take n (buf ++ drop most room) ≡ take n buf
take_front n most buf room within = take-append-le n buf (drop most room) within

-- it ended a record, for which memory was wanted
pub stops_whole : {H : Type 0} (answers : H → List ℕ → List ℕ → H → Type 0)
    (s : State) (rest : ℕ) (feed new_feed : Feed) (old middle : H) (a b : Taking) (l k : ℕ)
    (piece : List ℕ) (at : ℕ) (result : ℕ × Fed) → feed.large ≡ None
    → Feeds feed.large feed (take (length piece - at) (drop at piece)) result new_feed
    → Passed answers Appends s (Open rest feed.under) old middle a b l k (take at piece)
    → result.1 ≡ fed.Whole
    → Stops answers s old middle a b l k (take (at + result.0) piece) new_feed
stops_whole answers s rest feed new_feed old middle a b l k piece at result small exact done said =
    let is : flow (Open rest feed.under) (take result.0 (drop at piece)) ≡ flow_said rest result.0 result.1 new_feed =
    fed_flow feed.under rest (drop at piece) result.0 result.1 new_feed (fed_now feed new_feed piece at result small exact) in
    let one : flow (Open rest feed.under) (take result.0 (drop at piece)) ≡ record { records = new_feed.told ∷ []; state = Open 0 fresh } =
    is ∙ ap (λ (f : Fed). flow_said rest result.0 f new_feed) said in
    let both : flow s (take at piece ++ take result.0 (drop at piece)) ≡ then_flow (flow s (take at piece)) (λ next. flow next (take result.0 (drop at piece))) =
    flow-append s (take at piece) (take result.0 (drop at piece)) in
    rw take-add (record {
      records = (flow s (take at piece)).records;
      replies = done.replies;
      told = rw (both, done.state) (rw one refl);
      served = done.served;
      put = done.put;
      offered = done.offered;
      counted = done.counted;
    })

stops_join : {H : Type 0} (answers : H → List ℕ → List ℕ → H → Type 0)
    (s m : State) (old middle new : H) (a b c : Taking) (l k j : ℕ) (first more : List ℕ) (feed : Feed)
    → Passed answers Appends s m old middle a b l k first → Stops answers m middle new b c k j more feed
    → Stops answers s old new a c l j (first ++ more) feed
stops_join answers s m old middle new a b c l k j first more feed done later =
    let both : flow s (first ++ more) ≡ then_flow (flow s first) (λ next. flow next more) = flow-append s first more in
    record {
      records = (flow s first).records ++ later.records;
      replies = done.replies ++ later.replies;
      told = rw (both, done.state) (rw later.told (rw (append_assoc (flow s first).records later.records (feed.told ∷ [])) refl));
      served = Serves-append answers old middle new _ _ done.replies later.replies done.served later.served;
      put = rw (flat_map-append sent done.replies later.replies) (appends_join a.taken b.taken c.taken _ _ done.put later.put);
      offered = offers_join a.pieces b.pieces c.pieces done.replies later.replies done.offered later.offered;
      counted = omega (arith, done.counted, later.counted, length-append (flow s first).records later.records);
    }

-- a front of a piece was passed, and then memory was wanted
pub ran_short : {H : Type 0} (answers : H → List ℕ → List ℕ → H → Type 0) (s : State) (rest : ℕ) (feed new_feed : Feed) (old middle : H)
    (a b : Taking) (l k : ℕ) (source now : Option (List ℕ)) (unspent budget : ℕ)
    (new : H) (c : Taking) (j : ℕ) (later : Option (List ℕ)) (piece : List ℕ)
    → Running answers s rest feed old middle a b l k source now unspent budget
    → Consumes now later piece → length piece ≤ unspent
    → StopsFront answers (Open rest feed.under) middle new b c k j piece new_feed
    → RanShort answers s old new a c l j source later budget new_feed
ran_short answers s rest feed new_feed old middle a b l k source now unspent budget new c j later piece run taken within front =
    let spent = run.spent in
    let inside = front.within in
    let all : (run.bytes ++ take front.count piece) ++ drop front.count piece ≡ run.bytes ++ piece =
    append_assoc run.bytes (take front.count piece) (drop front.count piece)
    ∙ ap (λ (l : List ℕ). run.bytes ++ l) (take-append-drop front.count piece) in
    let taken_len : length (take front.count piece) ≡ front.count = rw (length-take front.count piece) (omega arith) in
    record {
      bytes = run.bytes ++ take front.count piece;
      over = drop front.count piece;
      taken = rw all (Consumes-trans _ _ _ _ _ run.taken taken);
      within = omega (arith, length-append run.bytes (take front.count piece));
      stopped = stops_join answers s (Open rest feed.under) old middle new a b c l k j run.bytes (take front.count piece) new_feed run.passed front.stopped;
    }

pub on_err : {T E : Type 0} (result : Result T E) (P : Type 0) → P → OnErr result P
on_err (Ok value) P holds = tt
on_err (Err error) P holds = holds
