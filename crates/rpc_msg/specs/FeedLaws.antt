-- Laws of the calls of a feed: what the bytes that it took bring to the stream.
use Rattle.std.proofs.Common.{◌≡◌, ℕ, ◌+◌, ◌-◌, ◌≤◌, List, [], ◌∷◌, ◌++◌, length, take, drop, refl, sym, ap, arith, length-append, length-drop}
use Rattle.std.proofs.lemmas.List.{take_rest}
use Rattle.std.specs.declared.option.Option.{Option}
use Rattle.std.specs.declared.option.Option.TheVariants.{None, Some}
use Rattle.std.specs.Io.KnownBytes.{Consumes, Keeps}
use Rattle.std.proofs.KnownBytes.{Consumes-nil, Consumes-kept}
use Rattle.std.proofs.Math.Seq.{take-append_seam}
use Rattle.rpc_msg.specs.Underway.{Under, fresh, Step, Goes, Ends, Passes, Cut, Part, Whole, Large, cut, cut_on, on_byte, State, Open, Shut, Flow, flow, Feed, Feeds, FeedsCut}
use Rattle.rpc_msg.specs.declared.records.Fed.{Fed}
use Rattle.rpc_msg.specs.declared.records.Fed.TheVariants as fed
use Rattle.rpc_msg.specs.StreamLaws.{flow-cut}

-- where a cut ends, without the bytes after it, and those bytes
abbrev ended : Cut → Cut
ended (Part under) = Part under
ended (Whole joined rest) = Whole joined []
ended (Large sum rest) = Large sum []

abbrev rest_of : Cut → List ℕ
rest_of (Part under) = []
rest_of (Whole joined rest) = rest
rest_of (Large sum rest) = rest

abbrev FrontOf : Under → List ℕ → Cut → Type 0
FrontOf under bytes is = (front : List ℕ) × (bytes ≡ front ++ rest_of is) × (cut under front ≡ ended is)

front_step : (under : Under) (byte : ℕ) (bytes : List ℕ) (step : Step) → on_byte under byte ≡ step
    → ((next : Under) → FrontOf next bytes (cut next bytes))
    → FrontOf under (byte ∷ bytes) (cut_on step bytes (λ next. cut next bytes))
unfolding cut
front_step under byte bytes (Goes next) is later =
    let more = later next in (byte ∷ more.0, ap (λ (l : List ℕ). byte ∷ l) more.1, rw is more.2)
front_step under byte bytes (Ends told) is later = (byte ∷ [], refl, rw is refl)
front_step under byte bytes (Passes sum) is later = (byte ∷ [], refl, rw is refl)

-- the bytes up to where a piece is cut are cut there
cut-front : (under : Under) (bytes : List ℕ) → FrontOf under bytes (cut under bytes)
unfolding cut
cut-front under [] = ([], refl, refl)
cut-front under (byte ∷ bytes) = front_step under byte bytes (on_byte under byte) refl (λ next. cut-front next bytes)

-- what the bytes that a feed took brought
abbrev pub flow_said : ℕ → ℕ → Fed → Feed → Flow
flow_said count taken fed.Need new = record { records = []; state = Open (count + taken) new.under }
flow_said count taken fed.Whole new = record { records = new.told ∷ []; state = Open 0 fresh }
flow_said count taken (fed.TooLarge sum) new = record { records = []; state = Shut sum }

pub flow-nil : (state : State) → flow state [] ≡ record { records = []; state = state }
unfolding flow
flow-nil state = refl

taken_front : (bytes front rest : List ℕ) (taken : ℕ) → bytes ≡ front ++ rest → taken + length rest ≡ length bytes
    → (take taken bytes ≡ front) × (length front ≡ taken)
taken_front bytes front rest taken parts len =
    let both : length bytes ≡ length front + length rest = rw parts (length-append front rest) in
    let same : taken ≡ length front = omega arith in
    (rw (same, parts) (take-append_seam front rest), sym same)

flow_at : (under : Under) (count : ℕ) (bytes front : List ℕ) (taken : ℕ) (said : Fed) (new : Feed) (is : Cut)
    → bytes ≡ front ++ rest_of is → cut under front ≡ ended is → FeedsCut is bytes taken said new
    → flow (Open count under) (take taken bytes) ≡ flow_said count taken said new
flow_at under count bytes front taken said new (Part next) parts ends feeds =
    let whole = feeds.taken_whole in
    let at = taken_front bytes front [] taken parts (omega arith) in
    rw (at.0, flow-cut under count front, ends, feeds.answer, feeds.under_way, at.1) refl
flow_at under count bytes front taken said new (Whole joined rest) parts ends feeds =
    let at = taken_front bytes front rest taken parts feeds.left_over in
    rw (at.0, flow-cut under count front, ends, feeds.answer, feeds.record_told) (rw (flow-nil (Open 0 fresh)) refl)
flow_at under count bytes front taken said new (Large sum rest) parts ends feeds =
    let at = taken_front bytes front rest taken parts feeds.left_over in
    rw (at.0, flow-cut under count front, ends, feeds.answer) refl

pub fed_flow : (under : Under) (count : ℕ) (bytes : List ℕ) (taken : ℕ) (said : Fed) (new : Feed)
    → FeedsCut (cut under bytes) bytes taken said new
    → flow (Open count under) (take taken bytes) ≡ flow_said count taken said new
fed_flow under count bytes taken said new feeds =
    let front = cut-front under bytes in
    flow_at under count bytes front.0 taken said new (cut under bytes) front.1 front.2 feeds

-- what an answer of a feed says of the feed
abbrev pub SaidOf : Fed → Feed → Type 0
SaidOf fed.Need new = new.large ≡ None
SaidOf fed.Whole new = (new.under ≡ fresh) × (new.large ≡ None)
SaidOf (fed.TooLarge sum) new = new.large ≡ Some sum

pub said_at : (is : Cut) (bytes : List ℕ) (taken : ℕ) (said : Fed) (new : Feed) → FeedsCut is bytes taken said new → SaidOf said new
said_at (Part next) bytes taken said new feeds = rw feeds.answer feeds.small
said_at (Whole joined rest) bytes taken said new feeds = rw feeds.answer (feeds.under_way, feeds.small)
said_at (Large sum rest) bytes taken said new feeds = rw feeds.answer feeds.large

-- a call of the feed at the rest of a piece
pub fed_now : (feed new : Feed) (piece : List ℕ) (at : ℕ) (result : ℕ × Fed) → feed.large ≡ None
    → Feeds feed.large feed (take (length piece - at) (drop at piece)) result new
    → FeedsCut (cut feed.under (drop at piece)) (drop at piece) result.0 result.1 new
fed_now feed new piece at result small exact = rw (small, take_rest) at exact

pub said_now : (feed new : Feed) (piece : List ℕ) (at : ℕ) (result : ℕ × Fed) → feed.large ≡ None
    → Feeds feed.large feed (take (length piece - at) (drop at piece)) result new → SaidOf result.1 new
said_now feed new piece at result small exact =
    said_at (cut feed.under (drop at piece)) (drop at piece) result.0 result.1 new (fed_now feed new piece at result small exact)

pub within_now : (piece : List ℕ) (at n : ℕ) → at ≤ length piece → n ≤ length (take (length piece - at) (drop at piece)) → at + n ≤ length piece
within_now piece at n inside within =
    let more : n ≤ length (drop at piece) = rw take_rest at within in
    omega (arith, length-drop at piece)

-- a call that kept the source's bytes gave none
pub none_given : (now later : Option (List ℕ)) → Keeps now later → Consumes now later []
none_given now later kept = Consumes-kept now now later [] (Consumes-nil now) kept
