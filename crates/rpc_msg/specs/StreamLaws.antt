-- Laws of a stream that comes in pieces: it has the records of the whole, and these are its fragments joined.
use Rattle.std.proofs.Common.{◌≡◌, ℕ, zero, suc, ◌+◌, ◌-◌, ◌*◌, ◌<◌, ◌≤◌, ◌==◌, Bool, true, false, nat_lt, if◌then◌else◌, List, [], ◌∷◌, ◌++◌, length, take, drop, refl, sym, ap, ◌∙◌, inl, inr, arith, append_assoc, append-nil, length-append, length-drop, length-take, take-append-drop, slice_index}
use Rattle.std.proofs.Math.ListN.{drop_of_length-le}
use Rattle.std.proofs.lemmas.Bool.{cases_Bool, ne_eqb, eq-eqb, lt-ltb, le-ltb, ltb-true, ltb-false}
use Rattle.std.proofs.lemmas.Bool.Decides.{eqb_tells}
use Rattle.rpc_msg.specs.Records.{record_limit, is_last, fragment_len, fragment_at, header_of, Front, Record, front_of, Told, told_by, records_up_to, records_of, End, Rest, TooLarge}
use Rattle.rpc_msg.specs.Records as records
use Rattle.rpc_msg.specs.Underway.{Under, between, fresh, Step, Goes, Ends, Passes, Cut, Part, Whole, Large, cut, cut_on, on_byte, on_body, on_end, on_fragment, State, Open, Shut, then_flow, flow_step, flow_byte, flow, flow_of, told_of}

-- the test whether a fragment ends, at its first bytes and then at the others
same_test : (first more lacking : ℕ) → first ≤ lacking → ((first + more) == lacking) ≡ (more == lacking - first)
same_test first more lacking within =
    elim (eqb_tells more (lacking - first)) [
      | inl p ↦ (let whole : first + more ≡ lacking = omega (arith, p.1) in eq-eqb (first + more) lacking whole ∙ sym p.0)
      | inr p ↦ ne_eqb (first + more) lacking (λ e. p.1 (omega arith)) ∙ sym p.0
    ]

-- what the rest of a fragment makes of it, after its first bytes
abbrev pub grown : Under → List ℕ → Under
grown under first = record under { joined = under.joined ++ first; lacking = under.lacking - length first }

-- the first bytes of a fragment and then the others do what all of them do
on_body-append : (under : Under) (first more : List ℕ) → length first ≤ under.lacking
    → on_body under (first ++ more) ≡ on_body (grown under first) more
on_body-append under first more within =
    let test : (length (first ++ more) == under.lacking) ≡ (length more == under.lacking - length first) =
    rw (length-append first more) (same_test (length first) (length more) under.lacking within) in
    let joined : under.joined ++ (first ++ more) ≡ (under.joined ++ first) ++ more = sym (append_assoc under.joined first more) in
    let lacking : under.lacking - length (first ++ more) ≡ under.lacking - length first - length more =
    omega (arith, length-append first more) in
    rw (test, joined, lacking) refl

-- bytes of a fragment, one after the other, do what they do together
pub cut-body : (under : Under) (front rest : List ℕ) → 0 < length front → length front ≤ under.lacking
    → cut under (front ++ rest) ≡ cut_on (on_body under front) rest (λ next. cut next rest)
unfolding cut on_byte
cut-body under [] rest some within = absurd (omega arith)
cut-body under (byte ∷ []) rest some within = rw (lt-ltb 0 under.lacking (omega arith)) refl
cut-body under (byte ∷ other ∷ front) rest some within =
    let goes : (1 == under.lacking) ≡ false = ne_eqb 1 under.lacking (λ e. omega arith) in
    let later : cut (grown under (byte ∷ [])) (other ∷ front ++ rest) ≡ cut_on (on_body (grown under (byte ∷ [])) (other ∷ front)) rest (λ next. cut next rest) =
    cut-body (grown under (byte ∷ [])) (other ∷ front) rest (omega arith) (omega arith) in
    rw (lt-ltb 0 under.lacking (omega arith), goes, on_body-append under (byte ∷ []) (other ∷ front) (omega arith)) later

-- the front of a piece, as far as the fragment at hand goes
pub cut-take : (under : Under) (piece : List ℕ) (n : ℕ) → 0 < n → n ≤ length piece → n ≤ under.lacking
    → cut under piece ≡ cut_on (on_body under (take n piece)) (drop n piece) (λ next. cut next (drop n piece))
cut-take under piece n some within lacks =
    let len : length (take n piece) ≡ n = rw (length-take n piece) (omega (arith, within)) in
    ap (cut under) (sym (take-append-drop n piece))
    ∙ cut-body under (take n piece) (drop n piece) (omega (arith, len)) (omega (arith, len))

-- two pieces, one after the other, are the joined piece
pub flow-append : (state : State) (first more : List ℕ)
    → flow state (first ++ more) ≡ then_flow (flow state first) (λ next. flow next more)
unfolding flow
flow-append state [] more = refl
flow-append state (byte ∷ first) more =
    let now = (flow_byte state byte).state in
    rw (flow-append now first more, append_assoc (flow_byte state byte).records (flow now first).records) refl

-- a stream that is shut stays shut
flow-shut : (sum : ℕ) (bytes : List ℕ) → flow (Shut sum) bytes ≡ record { records = []; state = Shut sum }
unfolding flow
flow-shut sum [] = refl
flow-shut sum (byte ∷ bytes) = rw (flow-shut sum bytes) refl

-- so many bytes before the piece or within it
flow_of-later : (count len : ℕ) (before : Cut) → flow_of (count + 1) len before ≡ flow_of count (suc len) before
flow_of-later count len (Part under) = let same : count + 1 + len ≡ count + suc len = omega arith in rw same refl
flow_of-later count len (Whole joined rest) = refl
flow_of-later count len (Large sum rest) = refl

flow-step : (step : Step) (count : ℕ) (bytes : List ℕ)
    → ((under : Under) → flow (Open (count + 1) under) bytes ≡ flow_of (count + 1) (length bytes) (cut under bytes))
    → then_flow (flow_step step count) (λ next. flow next bytes)
    ≡ flow_of count (suc (length bytes)) (cut_on step bytes (λ next. cut next bytes))
flow-step (Goes under) count bytes later = later under ∙ flow_of-later count (length bytes) (cut under bytes)
flow-step (Ends joined) count bytes later = refl
flow-step (Passes sum) count bytes later = rw (flow-shut sum bytes) refl

-- a piece is its first record and what follows
pub flow-cut : (under : Under) (count : ℕ) (bytes : List ℕ)
    → flow (Open count under) bytes ≡ flow_of count (length bytes) (cut under bytes)
unfolding flow cut
flow-cut under count [] = let same : count + 0 ≡ count = omega arith in rw same refl
flow-cut under count (byte ∷ bytes) =
    flow-step (on_byte under byte) count bytes (λ next. flow-cut next (count + 1) bytes)

-- the rest after a record is shorter than the whole
pub Shorter : Cut → ℕ → Type 0
Shorter (Part under) len = Unit {0}
Shorter (Whole joined rest) len = length rest < len
Shorter (Large sum rest) len = Unit {0}

shorter_later : (before : Cut) (len : ℕ) → Shorter before len → Shorter before (suc len)
unfolding Shorter
shorter_later (Part under) len h = tt
shorter_later (Whole joined rest) len h = omega arith
shorter_later (Large sum rest) len h = tt

shorter_step : (step : Step) (bytes : List ℕ) → ((under : Under) → Shorter (cut under bytes) (length bytes))
    → Shorter (cut_on step bytes (λ next. cut next bytes)) (suc (length bytes))
unfolding Shorter
shorter_step (Goes under) bytes later = shorter_later (cut under bytes) (length bytes) (later under)
shorter_step (Ends joined) bytes later = omega arith
shorter_step (Passes sum) bytes later = tt

cut-shorter : (under : Under) (bytes : List ℕ) → Shorter (cut under bytes) (length bytes)
unfolding Shorter cut
cut-shorter under [] = tt
cut-shorter under (byte ∷ bytes) = shorter_step (on_byte under byte) bytes (λ next. cut-shorter next bytes)

-- the front of a list of bytes as a cut tells it
abbrev front_by : Cut → Front
front_by (Part under) = records.Part
front_by (Whole joined rest) = Record joined rest
front_by (Large sum rest) = records.Large sum

-- fewer bytes than the fragment lacks are no record
cut-short : (under : Under) (bytes : List ℕ) → length bytes < under.lacking → front_by (cut under bytes) ≡ records.Part
unfolding cut
cut-short under [] short = refl
cut-short under (byte ∷ bytes) short =
    let all : cut under (byte ∷ bytes) ≡ cut_on (on_body under (byte ∷ bytes)) [] (λ next. cut next []) =
    ap (cut under) (sym (append-nil (byte ∷ bytes))) ∙ cut-body under (byte ∷ bytes) [] (omega arith) (omega arith) in
    let goes : (length (byte ∷ bytes) == under.lacking) ≡ false = ne_eqb _ _ (λ e. omega arith) in
    rw (all, goes) refl

-- enough bytes end the fragment
cut-enough : (joined : List ℕ) (last : Bool) (len : ℕ) (bytes : List ℕ) → 0 < len → len ≤ length bytes
    → cut (record { joined = joined; header_bytes = 0; header = 0; lacking = len; last = last }) bytes
    ≡ cut_on (on_end (joined ++ take len bytes) last) (drop len bytes) (λ next. cut next (drop len bytes))
cut-enough joined last len bytes some enough =
    let taken : length (take len bytes) ≡ len = rw (length-take len bytes) (omega arith) in
    let ends : (length (take len bytes) == len) ≡ true = eq-eqb _ _ taken in
    cut-take _ bytes len some enough (omega arith) ∙ rw ends refl

abbrev SameFront : ℕ → Type 0
SameFront more = (joined bytes : List ℕ) → length bytes ≤ more → front_of more joined bytes ≡ front_by (cut (between joined) bytes)

-- a fragment's end, both ways
same_end : (more : ℕ) (joined : List ℕ) (last : Bool) (rest : List ℕ) → length rest ≤ more → SameFront more
    → (if last then Record joined rest else front_of more joined rest)
    ≡ front_by (cut_on (on_end joined last) rest (λ next. cut next rest))
same_end more joined true rest within same = refl
same_end more joined false rest within same = same joined rest within

same_fragment : (more : ℕ) (joined : List ℕ) (last : Bool) (len : ℕ) (bytes : List ℕ) → length bytes ≤ more → SameFront more
    → fragment_at joined last len bytes (λ so_far rest. front_of more so_far rest)
    ≡ front_by (cut_on (on_fragment joined last len) bytes (λ next. cut next bytes))
same_fragment more joined last len bytes within same =
    elim (cases_Bool (nat_lt record_limit (length joined + len))) [
      | inl large ↦ rw large refl
      | inr small ↦ rw small (same_small more joined last len bytes within same)
    ]
  where
    same_small : (more : ℕ) (joined : List ℕ) (last : Bool) (len : ℕ) (bytes : List ℕ) → length bytes ≤ more → SameFront more
        → (if nat_lt (length bytes) len then records.Part
        else (if last then Record (joined ++ take len bytes) (drop len bytes)
        else front_of more (joined ++ take len bytes) (drop len bytes)))
        ≡ front_by (cut_on (if len == 0 then on_end joined last
        else Goes (record { joined = joined; header_bytes = 0; header = 0; lacking = len; last = last })) bytes (λ next. cut next bytes))
    same_small more joined last zero bytes within same =
        rw (le-ltb (length bytes) 0 (omega arith), append-nil joined) (same_end more joined last bytes within same)
    same_small more joined last (suc len) bytes within same =
        let some : (suc len == 0) ≡ false = ne_eqb (suc len) 0 (λ e. omega arith) in
        elim (cases_Bool (nat_lt (length bytes) (suc len))) [
          | inl short ↦ rw (some, short) (sym (cut-short _ bytes (ltb-true _ _ short)))
          | inr enough ↦ rw (some, enough, cut-enough joined last (suc len) bytes (omega arith) (ltb-false _ _ enough))
              (same_end more (joined ++ take (suc len) bytes) last (drop (suc len) bytes) (omega (arith, length-drop (suc len) bytes)) same)
        ]

-- a header's value, byte after byte
abbrev value : ℕ → ℕ → ℕ → ℕ → ℕ
value a b c d = (((0 * 256 + a) * 256 + b) * 256 + c) * 256 + d

header_is : (a b c d : ℕ) (rest : List ℕ)
    → header_of (a ∷ b ∷ c ∷ d ∷ rest) ≡ value a b c d
header_is a b c d rest = omega arith

-- the fragments at the front are what the bytes make of a record
same_front : (more : ℕ) → SameFront more
unfolding front_of cut on_byte
same_front zero joined [] within = refl
same_front zero joined (byte ∷ bytes) within = absurd (omega arith)
same_front (suc more) joined [] within = refl
same_front (suc more) joined (a ∷ []) within = refl
same_front (suc more) joined (a ∷ b ∷ []) within = refl
same_front (suc more) joined (a ∷ b ∷ c ∷ []) within = refl
same_front (suc more) joined (a ∷ b ∷ c ∷ d ∷ rest) within =
    rw (le-ltb (length (a ∷ b ∷ c ∷ d ∷ rest)) 4 (omega arith), header_is a b c d rest)
    (same_fragment more joined (is_last (value a b c d)) (fragment_len (value a b c d)) rest (omega arith) (same_front more))

abbrev SameRecords : ℕ → Type 0
SameRecords more = (bytes : List ℕ) → length bytes ≤ more → records_up_to more bytes ≡ told_of (flow (Open 0 fresh) bytes)

same_told : (more len : ℕ) (before : Cut) → Shorter before len → len ≤ suc more → SameRecords more
    → told_by (front_by before) len (λ rest. records_up_to more rest) ≡ told_of (flow_of 0 len before)
unfolding Shorter
same_told more len (Part under) shorter within same = let plain : 0 + len ≡ len = omega arith in rw plain refl
same_told more len (Whole joined rest) shorter within same = rw (same rest (omega arith)) refl
same_told more len (Large sum rest) shorter within same = refl

same_records : (more : ℕ) → SameRecords more
unfolding records_up_to flow
same_records zero [] within = refl
same_records zero (byte ∷ bytes) within = absurd (omega arith)
same_records (suc more) bytes within =
    rw (same_front (length bytes) [] bytes (omega arith), flow-cut fresh 0 bytes)
    (same_told more (length bytes) (cut fresh bytes) (cut-shorter fresh bytes) within (same_records more))

-- a stream has the records of its bytes
pub flow-records : (bytes : List ℕ) → told_of (flow (Open 0 fresh) bytes) ≡ records_of bytes
flow-records bytes = sym (same_records (length bytes) bytes (omega arith))
