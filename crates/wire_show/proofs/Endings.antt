-- How showing ends: what was put, against the lines that are due for all of the input.
use Rattle.std.proofs.Common.{◌≡◌, ℕ, ◌+◌, ◌-◌, ◌<◌, ◌≤◌, Bool, true, false, List, [], ◌∷◌, ◌++◌, length, take, Result, Ok, Err, refl, sym, ap, subst, ◌∙◌, arith, append_assoc, append-nil, length-append, take_all}
use Rattle.std.specs.Prelude.{IfSome, IsErr}
use Rattle.std.specs.declared.option.Option.{Option}
use Rattle.std.specs.declared.option.Option.TheVariants.{None, Some}
use Rattle.std.specs.Io.KnownBytes.{Appends, Consumes, IsAtEnd}
use Rattle.std.proofs.KnownBytes.{Appends-trans, Consumes-trans, Consumes-all}
use Rattle.std.proofs.lemmas.Bool.{lt-ltb, le-ltb}
use Rattle.std.proofs.lemmas.Grind.{flat_map-append}
use Rattle.std.proofs.Math.Seq.{take-append-add}
use Rattle.outcome.specs.declared.memory.NoMemory.{NoMemory}
use Rattle.streams.specs.Sink.{AppendsFront}
use Rattle.rpc_msg.specs.Records.{Told, records_of}
use Rattle.rpc_msg.specs.Underway.{fresh, Under, State, Open, Shut, Flow, then_flow, flow, told_of, Feed}
use Rattle.streams.specs.FrontLaws.{front_wider, front_more, front_none, front_all}
use Rattle.rpc_msg.specs.StreamLaws.{flow-append, flow-records}
use Rattle.rpc_msg.specs.FeedLaws.{flow-nil}
use Rattle.wire_show.specs.declared.line.ShownLine.TheVariants as lines
use Rattle.wire_show.specs.declared.show.Shown.{Shown}
use Rattle.wire_show.specs.declared.show.Shown.TheVariants as ends
use Rattle.wire_show.specs.Text.{line_text, lines_text}
use Rattle.wire_show.specs.Shown.{all_lines, most_bytes, end_line, is_refused, passes_limit, shown, refused}
use Rattle.wire_show.specs.Showing.{Passed, LastIs, PutsAll, PutsFront, ShowIs}
use Rattle.wire_show.proofs.Streams.{shut_stays, text-append, passed_join, front_passed, Running}

abbrev start : State
start = Open 0 fresh

-- the text of the records that ended in some bytes
abbrev text_of : List ℕ → List ℕ
text_of bytes = lines_text (all_lines 1 (flow start bytes).records)

-- ---- what is due for an input that begins with some bytes

due_by : (all : List ℕ) (told : Told) (over : Bool) → records_of (take most_bytes all) ≡ told → passes_limit all ≡ over
    → (refused all ≡ is_refused over told.end) × (lines_text (shown all) ≡ lines_text (all_lines 1 told.records) ++ lines_text (end_line over told.end ∷ []))
unfolding shown refused
due_by all told over is passes =
    (rw (is, passes) refl, rw (is, passes) (flat_map-append line_text (all_lines 1 told.records) (end_line over told.end ∷ [])))

-- the records of such an input, within the limit
told_more : (bytes more : List ℕ) → length bytes ≤ most_bytes
    → records_of (take most_bytes (bytes ++ more)) ≡ told_of (then_flow (flow start bytes) (λ next. flow next (take (most_bytes - length bytes) more)))
told_more bytes more le =
    let within : most_bytes ≡ length bytes + (most_bytes - length bytes) = omega arith in
    let cut : take most_bytes (bytes ++ more) ≡ bytes ++ take (most_bytes - length bytes) more =
    ap (λ (n : ℕ). take n (bytes ++ more)) within ∙ take-append-add bytes more (most_bytes - length bytes) in
    ap (λ (l : List ℕ). records_of l) cut
    ∙ sym (flow-records (bytes ++ take (most_bytes - length bytes) more))
    ∙ ap (λ (f : Flow). told_of f) (flow-append start bytes (take (most_bytes - length bytes) more))

abbrev Due : List ℕ → Bool → List ℕ → List ℕ → Type 0
Due all is front text = (refused all ≡ is) × (lines_text (shown all) ≡ front ++ text)

due_whole : (bytes : List ℕ) (rest : ℕ) (under : Under) → length bytes ≤ most_bytes → (flow start bytes).state ≡ Open rest under
    → Due bytes false (text_of bytes) (lines_text (lines.Rest rest ∷ []))
due_whole bytes rest under le state =
    let told : records_of (take most_bytes bytes) ≡ told_of (flow start bytes) =
    ap (λ (l : List ℕ). records_of l) (take_all most_bytes bytes le) ∙ sym (flow-records bytes) in
    let due = due_by bytes (told_of (flow start bytes)) false told (le-ltb most_bytes (length bytes) le) in
    rw state at due

due_large : (bytes more : List ℕ) (sum : ℕ) → length bytes ≤ most_bytes → (flow start bytes).state ≡ Shut sum
    → Due (bytes ++ more) true (text_of bytes) (lines_text (lines.Large sum ∷ []))
due_large bytes more sum le state =
    let due = due_by (bytes ++ more) _ (passes_limit (bytes ++ more)) (told_more bytes more le) refl in
    rw (state, shut_stays sum (take (most_bytes - length bytes) more), append-nil (flow start bytes).records) at due

due_much : (bytes more : List ℕ) (rest : ℕ) (under : Under) → length bytes ≡ most_bytes → 0 < length more → (flow start bytes).state ≡ Open rest under
    → Due (bytes ++ more) true (text_of bytes) (lines_text (lines.TooMuch ∷ []))
due_much bytes more rest under len some state =
    let none : most_bytes - length bytes ≡ 0 = omega arith in
    let le : length bytes ≤ most_bytes = omega arith in
    let over : most_bytes < length (bytes ++ more) = omega (arith, length-append bytes more) in
    let due = due_by (bytes ++ more) _ true (told_more bytes more le) (lt-ltb most_bytes (length (bytes ++ more)) over) in
    rw (none, state, flow-nil (Open rest under), append-nil (flow start bytes).records) at due

-- what was put so far is a front of what is due
front_due : (old new : Option (List ℕ)) (bytes more : List ℕ) → length bytes ≤ most_bytes → AppendsFront old new (text_of bytes)
    → PutsFront old new (bytes ++ more)
front_due old new bytes more le put =
    let left = take (most_bytes - length bytes) more in
    let first = (flow start bytes).records in
    let others = (flow (flow start bytes).state left).records in
    let told = told_of (then_flow (flow start bytes) (λ next. flow next left)) in
    let end = lines_text (end_line (passes_limit (bytes ++ more)) told.end ∷ []) in
    let due = (due_by (bytes ++ more) told (passes_limit (bytes ++ more)) (told_more bytes more le) refl).1 in
    let wider : AppendsFront old new (lines_text (all_lines 1 (first ++ others))) =
    rw (text-append 1 first others) (front_wider old new (text_of bytes) (lines_text (all_lines (1 + length first) others)) put) in
    rw due (front_wider old new (lines_text (all_lines 1 (first ++ others))) end wider)

-- ---- where the source tells its bytes

if_some : (o : Option (List ℕ)) (P Q : List ℕ → Type 0) → ((all : List ℕ) → P all → Q all) → IfSome o P → IfSome o Q
if_some None P Q f p = tt
if_some (Some all) P Q f p = f all p

pub if_any : (o : Option (List ℕ)) (Q : List ℕ → Type 0) → ((all : List ℕ) → Q all) → IfSome o Q
if_any None Q f = tt
if_any (Some all) Q f = f all

-- the input begins with what was taken
begins : (a b : Option (List ℕ)) (bytes : List ℕ) → Consumes a b bytes → IfSome a (λ all. (more : List ℕ) × (all ≡ bytes ++ more))
begins None b bytes taken = tt
begins (Some all) None bytes taken = absurd taken
begins (Some all) (Some left) bytes taken = (left, taken)

-- a front of what is due was put, for the bytes that were taken
pub shows_front : (source now old new : Option (List ℕ)) (bytes : List ℕ) → Consumes source now bytes → length bytes ≤ most_bytes
    → AppendsFront old new (text_of bytes) → IfSome source (λ all. PutsFront old new all)
shows_front source now old new bytes taken le put =
    if_some source (λ all. (more : List ℕ) × (all ≡ bytes ++ more)) (λ all. PutsFront old new all)
    (λ all is. subst (λ (l : List ℕ). PutsFront old new l) (sym is.1) (front_due old new bytes is.0 le put)) (begins source now bytes taken)

-- nothing was put
pub shows_none : (source old new : Option (List ℕ)) → new ≡ old → IfSome source (λ all. PutsFront old new all)
shows_none source old new same =
    if_any source (λ all. PutsFront old new all)
    (λ all. subst (λ (n : Option (List ℕ)). PutsFront old n all) (sym same) (front_none old (lines_text (shown all))))

-- the last line was put, or a front of it
shows_last : (is : Bool) (source now old mid new : Option (List ℕ)) (front text : List ℕ) (result : Result Shown NoMemory)
    → (is ≡ false → IsAtEnd now) → IfSome source (λ all. Due all is front text) → Appends old mid front → LastIs is mid new text result
    → ShowIs source now old new result
shows_last is source now old mid new front text (Ok ends.Whole) ended due put last =
    let P : List ℕ → Type 0 = λ all. Due all is front text in
    let Q : List ℕ → Type 0 = λ all. (refused all ≡ false) × PutsAll old new all in
    (ended last.0, if_some source P Q (λ all d. (d.0 ∙ last.0, rw d.1 (Appends-trans old mid new front text put last.1))) due)
shows_last is source now old mid new front text (Ok ends.Refused) ended due put last =
    let P : List ℕ → Type 0 = λ all. Due all is front text in
    let Q : List ℕ → Type 0 = λ all. (refused all ≡ true) × PutsAll old new all in
    if_some source P Q (λ all d. (d.0 ∙ last.0, rw d.1 (Appends-trans old mid new front text put last.1))) due
shows_last is source now old mid new front text (Ok ends.ReadFault) ended due put last = absurd last
shows_last is source now old mid new front text (Ok ends.WriteFault) ended due put last =
    let P : List ℕ → Type 0 = λ all. Due all is front text in
    if_some source P (λ all. PutsFront old new all) (λ all d. rw d.1 (front_more old mid new front text put last)) due
shows_last is source now old mid new front text (Err e) ended due put last =
    let P : List ℕ → Type 0 = λ all. Due all is front text in
    if_some source P (λ all. PutsFront old new all) (λ all d. rw d.1 (front_more old mid new front text put last)) due

-- the input ended
pub ends_whole : (rest : ℕ) (feed : Feed) (old put : Option (List ℕ)) (number : ℕ) (source now later : Option (List ℕ)) (unspent : ℕ) (new : Option (List ℕ)) (result : Result Shown NoMemory)
    → Running rest feed old put number source now unspent → Consumes now later [] → IsAtEnd later
    → LastIs false put new (lines_text (lines.Rest rest ∷ [])) result → ShowIs source later old new result
ends_whole rest feed old put number source now later unspent new result run none ended last =
    let le : length run.bytes ≤ most_bytes = omega (arith, run.spent) in
    let text = lines_text (lines.Rest rest ∷ []) in
    let taken : Consumes source later run.bytes = rw (append-nil run.bytes) at (Consumes-trans source now later run.bytes [] run.taken none) in
    let told : IfSome source (λ all. run.bytes ≡ all) = Consumes-all source later run.bytes [] run.bytes taken ended refl in
    let here = due_whole run.bytes rest feed.under le run.passed.state in
    let due = if_some source (λ all. run.bytes ≡ all) (λ all. Due all false (text_of run.bytes) text)
    (λ all same. subst (λ (l : List ℕ). Due l false (text_of run.bytes) text) same here) told in
    shows_last false source later old put new (text_of run.bytes) text result (λ e. ended) due run.passed.put last

-- a record was too large
pub ends_large : (rest sum : ℕ) (feed : Feed) (old put : Option (List ℕ)) (number : ℕ) (source now later : Option (List ℕ)) (unspent next : ℕ) (mid new : Option (List ℕ)) (piece : List ℕ) (result : Result Shown NoMemory)
    → Running rest feed old put number source now unspent → Consumes now later piece → length piece ≤ unspent
    → Passed (Open rest feed.under) (Shut sum) put mid number next piece
    → LastIs true mid new (lines_text (lines.Large sum ∷ [])) result → ShowIs source later old new result
ends_large rest sum feed old put number source now later unspent next mid new piece result run more within shut last =
    let bytes = run.bytes ++ piece in
    let le : length bytes ≤ most_bytes = omega (arith, run.spent, length-append run.bytes piece) in
    let text = lines_text (lines.Large sum ∷ []) in
    let taken : Consumes source later bytes = Consumes-trans source now later run.bytes piece run.taken more in
    let passed = passed_join start (Open rest feed.under) (Shut sum) old put mid 1 number next run.bytes piece run.passed shut in
    let due = if_some source (λ all. (more : List ℕ) × (all ≡ bytes ++ more)) (λ all. Due all true (text_of bytes) text)
    (λ all is. subst (λ (l : List ℕ). Due l true (text_of bytes) text) (sym is.1) (due_large bytes is.0 sum le passed.state)) (begins source later bytes taken) in
    shows_last true source later old mid new (text_of bytes) text result (λ e. absurd cc) due passed.put last

-- the input passes the limit
pub ends_much : (rest : ℕ) (feed : Feed) (old put : Option (List ℕ)) (number : ℕ) (source now later : Option (List ℕ)) (unspent : ℕ) (new : Option (List ℕ)) (over : List ℕ) (result : Result Shown NoMemory)
    → Running rest feed old put number source now unspent → unspent ≤ 0 → Consumes now later over → 0 < length over
    → LastIs true put new (lines_text (lines.TooMuch ∷ [])) result → ShowIs source later old new result
ends_much rest feed old put number source now later unspent new over result run all more some last =
    let len : length run.bytes ≡ most_bytes = omega (arith, run.spent) in
    let text = lines_text (lines.TooMuch ∷ []) in
    let taken : Consumes source later (run.bytes ++ over) = Consumes-trans source now later run.bytes over run.taken more in
    let due = if_some source (λ all. (more : List ℕ) × (all ≡ (run.bytes ++ over) ++ more)) (λ all. Due all true (text_of run.bytes) text)
    (λ all is. subst (λ (l : List ℕ). Due l true (text_of run.bytes) text) (sym (is.1 ∙ append_assoc run.bytes over is.0))
    (due_much run.bytes (over ++ is.0) rest feed.under len (omega (arith, length-append over is.0)) run.passed.state)) (begins source later (run.bytes ++ over) taken) in
    shows_last true source later old put new (text_of run.bytes) text result (λ e. absurd cc) due run.passed.put last

-- a fault of the source, before which all lines so far were put
pub ends_here : (rest : ℕ) (feed : Feed) (old put : Option (List ℕ)) (number : ℕ) (source now later : Option (List ℕ)) (unspent : ℕ)
    → Running rest feed old put number source now unspent → Consumes now later [] → IfSome source (λ all. PutsFront old put all)
ends_here rest feed old put number source now later unspent run none =
    let le : length run.bytes ≤ most_bytes = omega (arith, run.spent) in
    let taken : Consumes source later run.bytes = rw (append-nil run.bytes) at (Consumes-trans source now later run.bytes [] run.taken none) in
    shows_front source later old put run.bytes taken le (front_all old put (text_of run.bytes) run.passed.put)

-- a fault within a piece, or want of memory
pub ends_fault : (rest : ℕ) (feed : Feed) (old put : Option (List ℕ)) (number : ℕ) (source now later : Option (List ℕ)) (unspent : ℕ) (new : Option (List ℕ)) (piece : List ℕ)
    → Running rest feed old put number source now unspent → Consumes now later piece → length piece ≤ unspent
    → AppendsFront put new (lines_text (all_lines number (flow (Open rest feed.under) piece).records))
    → IfSome source (λ all. PutsFront old new all)
ends_fault rest feed old put number source now later unspent new piece run more within front =
    let bytes = run.bytes ++ piece in
    let le : length bytes ≤ most_bytes = omega (arith, run.spent, length-append run.bytes piece) in
    shows_front source later old new bytes (Consumes-trans source now later run.bytes piece run.taken more) le
    (front_passed start (Open rest feed.under) old put new 1 number run.bytes piece run.passed front)

-- want of memory
pub show_err : (source now old new : Option (List ℕ)) (result : Result Shown NoMemory) → IsErr result → IfSome source (λ all. PutsFront old new all) → ShowIs source now old new result
show_err source now old new (Ok ended) err front = absurd (cc)
show_err source now old new (Err e) err front = front
