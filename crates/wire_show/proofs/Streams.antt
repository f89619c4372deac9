-- What showing adds up to, record by record and piece by piece.
use Rattle.std.proofs.Common.{◌≡◌, ℕ, ◌+◌, ◌-◌, ◌≤◌, List, [], ◌∷◌, ◌++◌, length, take, drop, refl, sym, ap, subst, ◌∙◌, arith, append_assoc, append-nil, length-append, take-append-drop, take-add}
use Rattle.std.specs.Prelude.{Result, Ok, Err, IsErr}
use Rattle.outcome.specs.declared.memory.NoMemory.{NoMemory}
use Rattle.std.specs.declared.option.Option.{Option}
use Rattle.std.specs.declared.option.Option.TheVariants.{None}
use Rattle.std.specs.Io.KnownBytes.{Appends, Consumes}
use Rattle.std.proofs.KnownBytes.{Appends-trans, Appends-nil, Consumes-trans}
use Rattle.std.proofs.lemmas.Grind.{flat_map-append}
use Rattle.streams.specs.Sink.{AppendsFront}
use Rattle.rpc_msg.specs.Underway.{fresh, State, Open, Shut, then_flow, flow, Feed, Feeds}
use Rattle.rpc_msg.specs.declared.records.Fed.{Fed}
use Rattle.rpc_msg.specs.declared.records.Fed.TheVariants as fed
use Rattle.streams.specs.FrontLaws.{front_wider, front_more}
use Rattle.rpc_msg.specs.StreamLaws.{flow-append}
use Rattle.rpc_msg.specs.FeedLaws.{fed_flow, fed_now, flow_said}
use Rattle.wire_show.specs.declared.line.ShownLine.{ShownLine}
use Rattle.wire_show.specs.Text.{line_text, lines_text}
use Rattle.wire_show.specs.Shown.{record_lines, all_lines, most_bytes}
use Rattle.wire_show.specs.declared.piece.Piece.{Piece}
use Rattle.wire_show.specs.Showing.{Passed, PieceIs}

-- a stream that is shut stays shut
pub shut_stays : (sum : ℕ) (bytes : List ℕ) → flow (Shut sum) bytes ≡ record { records = []; state = Shut sum }
unfolding flow
shut_stays sum [] = refl
shut_stays sum (byte ∷ bytes) = rw (shut_stays sum bytes) refl

-- the lines of some records are those of the first and then those of the others
all_lines-append : (n : ℕ) (a b : List (List ℕ)) → all_lines n (a ++ b) ≡ all_lines n a ++ all_lines (n + length a) b
unfolding all_lines
all_lines-append n [] b = let same : n ≡ n + 0 = omega arith in ap (λ (m : ℕ). all_lines m b) same
all_lines-append n (x ∷ a) b =
    let same : n + 1 + length a ≡ n + length (x ∷ a) = omega arith in
    ap (λ (l : List ShownLine). record_lines n x ++ l) (all_lines-append (n + 1) a b)
    ∙ sym (append_assoc (record_lines n x) (all_lines (n + 1) a) (all_lines (n + 1 + length a) b))
    ∙ ap (λ (m : ℕ). (record_lines n x ++ all_lines (n + 1) a) ++ all_lines m b) same

pub text-append : (n : ℕ) (a b : List (List ℕ)) → lines_text (all_lines n (a ++ b)) ≡ lines_text (all_lines n a) ++ lines_text (all_lines (n + length a) b)
text-append n a b =
    ap (λ (l : List ShownLine). lines_text l) (all_lines-append n a b)
    ∙ flat_map-append line_text (all_lines n a) (all_lines (n + length a) b)

one_text : (n : ℕ) (told : List ℕ) (others : List (List ℕ)) → lines_text (all_lines n (told ∷ others)) ≡ lines_text (record_lines n told) ++ lines_text (all_lines (n + 1) others)
unfolding all_lines
one_text n told others = flat_map-append line_text (record_lines n told) (all_lines (n + 1) others)

-- bytes that end no record
pub passed_quiet : (s n : State) (put : Option (List ℕ)) (k : ℕ) (bytes : List ℕ)
    → flow s bytes ≡ record { records = []; state = n } → Passed s n put put k k bytes
unfolding all_lines
passed_quiet s n put k bytes is = record { state = rw is refl; put = rw is (Appends-nil put); counted = rw is (omega arith) }

-- bytes that end one record
passed_one : (s n : State) (a b : Option (List ℕ)) (k : ℕ) (bytes told : List ℕ)
    → flow s bytes ≡ record { records = told ∷ []; state = n } → Appends a b (lines_text (record_lines k told)) → Passed s n a b k (k + 1) bytes
unfolding all_lines
passed_one s n a b k bytes told is put = record { state = rw is refl; put = rw is (rw (append-nil (record_lines k told)) put); counted = rw is (omega arith) }

-- bytes that were passed one after the other
pub passed_join : (s m n : State) (a b c : Option (List ℕ)) (k j i : ℕ) (first more : List ℕ)
    → Passed s m a b k j first → Passed m n b c j i more → Passed s n a c k i (first ++ more)
passed_join s m n a b c k j i first more done later =
    let both : flow s (first ++ more) ≡ then_flow (flow s first) (λ next. flow next more) = flow-append s first more in
    let at = done.state in
    let others = (flow m more).records in
    record {
      state = rw (both, at) later.state;
      put =
          rw (both, at) (rw (text-append k (flow s first).records others)
          (Appends-trans a b c _ _ done.put (subst (λ (i : ℕ). Appends b c (lines_text (all_lines i others))) done.counted later.put)));
      counted = rw (both, at, length-append (flow s first).records others) (omega (arith, done.counted, later.counted));
    }

-- the second time a front of the lines was put
pub front_passed : (s m : State) (a b c : Option (List ℕ)) (k j : ℕ) (first more : List ℕ)
    → Passed s m a b k j first → AppendsFront b c (lines_text (all_lines j (flow m more).records))
    → AppendsFront a c (lines_text (all_lines k (flow s (first ++ more)).records))
front_passed s m a b c k j first more done later =
    let both : flow s (first ++ more) ≡ then_flow (flow s first) (λ next. flow next more) = flow-append s first more in
    let at = done.state in
    let others = (flow m more).records in
    rw (both, at) (rw (text-append k (flow s first).records others)
    (front_more a b c _ _ done.put (subst (λ (i : ℕ). AppendsFront b c (lines_text (all_lines i others))) done.counted later)))

-- of the first record a front of the lines was put
front_one : (s n : State) (a b : Option (List ℕ)) (k : ℕ) (first more told : List ℕ)
    → flow s first ≡ record { records = told ∷ []; state = n } → AppendsFront a b (lines_text (record_lines k told))
    → AppendsFront a b (lines_text (all_lines k (flow s (first ++ more)).records))
front_one s n a b k first more told is put =
    let both : flow s (first ++ more) ≡ then_flow (flow s first) (λ next. flow next more) = flow-append s first more in
    rw (both, is) (rw (one_text k told (flow n more).records) (front_wider a b _ _ put))

-- what a call of the feed brought
fed_here : (rest : ℕ) (feed new : Feed) (piece : List ℕ) (at : ℕ) (result : ℕ × Fed) → feed.large ≡ None
    → Feeds feed.large feed (take (length piece - at) (drop at piece)) result new
    → flow (Open rest feed.under) (take result.0 (drop at piece)) ≡ flow_said rest result.0 result.1 new
fed_here rest feed new piece at result small exact =
    fed_flow feed.under rest (drop at piece) result.0 result.1 new (fed_now feed new piece at result small exact)

-- it ended no record
pub passed_need : (s : State) (rest : ℕ) (feed new : Feed) (a b : Option (List ℕ)) (k j : ℕ) (piece : List ℕ) (at : ℕ) (result : ℕ × Fed)
    → feed.large ≡ None → Feeds feed.large feed (take (length piece - at) (drop at piece)) result new
    → Passed s (Open rest feed.under) a b k j (take at piece) → result.1 ≡ fed.Need
    → Passed s (Open (rest + result.0) new.under) a b k j (take (at + result.0) piece)
passed_need s rest feed new a b k j piece at result small exact done said =
    let is = fed_here rest feed new piece at result small exact in
    rw take-add (passed_join s (Open rest feed.under) (Open (rest + result.0) new.under) a b b k j j _ _ done (passed_quiet _ _ b j _ (rw said at is)))

-- it ended a record, whose lines were put
pub passed_whole : (s : State) (rest : ℕ) (feed new : Feed) (a b c : Option (List ℕ)) (k j : ℕ) (piece : List ℕ) (at : ℕ) (result : ℕ × Fed) (told : List ℕ)
    → feed.large ≡ None → Feeds feed.large feed (take (length piece - at) (drop at piece)) result new
    → Passed s (Open rest feed.under) a b k j (take at piece) → result.1 ≡ fed.Whole → told ≡ new.told
    → Appends b c (lines_text (record_lines j told))
    → Passed s (Open 0 fresh) a c k (j + 1) (take (at + result.0) piece)
passed_whole s rest feed new a b c k j piece at result told small exact done said same put =
    let is = fed_here rest feed new piece at result small exact in
    rw take-add (passed_join s (Open rest feed.under) (Open 0 fresh) a b c k j (j + 1) _ _ done (passed_one _ _ b c j _ told (rw (said, ← same) at is) put))

-- it ended a record, and a front of the record's lines was put
pub passed_fault : (s : State) (rest : ℕ) (feed new : Feed) (a b c : Option (List ℕ)) (k j : ℕ) (piece : List ℕ) (at : ℕ) (result : ℕ × Fed) (told : List ℕ)
    → feed.large ≡ None → Feeds feed.large feed (take (length piece - at) (drop at piece)) result new
    → Passed s (Open rest feed.under) a b k j (take at piece) → result.1 ≡ fed.Whole → told ≡ new.told
    → AppendsFront b c (lines_text (record_lines j told))
    → AppendsFront a c (lines_text (all_lines k (flow s piece).records))
passed_fault s rest feed new a b c k j piece at result told small exact done said same put =
    let is = fed_here rest feed new piece at result small exact in
    let left = drop at piece in
    let one = front_one (Open rest feed.under) (Open 0 fresh) b c j (take result.0 left) (drop result.0 left) told (rw (said, ← same) at is) put in
    let here = subst (λ (d : List ℕ). AppendsFront b c (lines_text (all_lines j (flow (Open rest feed.under) d).records))) (take-append-drop result.0 left) one in
    subst (λ (p : List ℕ). AppendsFront a c (lines_text (all_lines k (flow s p).records))) (take-append-drop at piece)
    (front_passed s (Open rest feed.under) a b c k j (take at piece) left done here)

-- it met a record too large: nothing more comes of the piece
shut_at : (s : State) (n : ℕ) (bytes : List ℕ) (sum : ℕ) → flow s (take n bytes) ≡ record { records = []; state = Shut sum }
    → flow s bytes ≡ record { records = []; state = Shut sum }
shut_at s n bytes sum is =
    let both = ap (λ (l : List ℕ). flow s l) (sym (take-append-drop n bytes)) ∙ flow-append s (take n bytes) (drop n bytes) in
    both ∙ rw is (rw (shut_stays sum (drop n bytes)) refl)

pub passed_large : (s : State) (rest sum : ℕ) (feed new : Feed) (a b : Option (List ℕ)) (k j : ℕ) (piece : List ℕ) (at : ℕ) (result : ℕ × Fed)
    → feed.large ≡ None → Feeds feed.large feed (take (length piece - at) (drop at piece)) result new
    → Passed s (Open rest feed.under) a b k j (take at piece) → result.1 ≡ fed.TooLarge sum
    → Passed s (Shut sum) a b k j piece
passed_large s rest sum feed new a b k j piece at result small exact done said =
    let is = rw said at (fed_here rest feed new piece at result small exact) in
    let left = drop at piece in
    subst (λ (p : List ℕ). Passed s (Shut sum) a b k j p) (take-append-drop at piece)
    (passed_join s (Open rest feed.under) (Shut sum) a b b k j j (take at piece) left done (passed_quiet _ _ b j left (shut_at (Open rest feed.under) result.0 left sum is)))

-- as far as the input was taken
pub record Running (rest : ℕ) (feed : Feed) (old put : Option (List ℕ)) (number : ℕ) (source now : Option (List ℕ)) (unspent : ℕ) : Type 0 where
  pub bytes : List ℕ
  pub taken : Consumes source now bytes
  pub spent : length bytes + unspent ≡ most_bytes
  pub passed : Passed (Open 0 fresh) (Open rest feed.under) old put 1 number bytes
  pub small : rest + unspent ≤ most_bytes
  pub few : number + unspent ≤ most_bytes + 1
  pub open_now : feed.large ≡ None

-- the whole of a piece was passed
pub running_taken : (rest : ℕ) (feed : Feed) (old put : Option (List ℕ)) (number : ℕ) (source now : Option (List ℕ)) (unspent : ℕ)
    (after : ℕ) (new : Feed) (later_put : Option (List ℕ)) (next : ℕ) (later : Option (List ℕ)) (piece : List ℕ) (n : ℕ)
    → Running rest feed old put number source now unspent
    → Consumes now later piece → length piece ≡ n → n ≤ unspent
    → Passed (Open rest feed.under) (Open after new.under) put later_put number next piece
    → new.large ≡ None → after ≤ rest + length piece → next ≤ number + length piece
    → Running after new old later_put next source later (unspent - n)
running_taken rest feed old put number source now unspent after new later_put next later piece n run taken len within passed small most count =
    let spent = run.spent in
    record {
      bytes = run.bytes ++ piece;
      taken = Consumes-trans _ _ _ _ _ run.taken taken;
      spent = omega (arith, length-append run.bytes piece);
      passed = passed_join (Open 0 fresh) (Open rest feed.under) (Open after new.under) old put later_put 1 number next run.bytes piece run.passed passed;
      small = omega (arith, run.small);
      few = omega (arith, run.few);
      open_now = small;
    }

-- want of memory within a piece
pub piece_err : (state : State) (feed : Feed) (old new : Option (List ℕ)) (number next : ℕ) (bytes : List ℕ) (result : Result Piece NoMemory) → IsErr result
    → AppendsFront old new (lines_text (all_lines number (flow state bytes).records)) → PieceIs state feed old new number next bytes result
piece_err state feed old new number next bytes (Ok piece) err front = absurd (cc)
piece_err state feed old new number next bytes (Err e) err front = front
