-- Each event of a schedule has one spelling.
use Rattle.std.proofs.Common.{◌≡◌, ℕ, ◌+◌, ◌/◌, ◌%◌, ◌^◌, ◌<◌, ◌≤◌, ◌⊎◌, inl, inr, ◌==◌, ◌&&◌, List, [], ◌∷◌, Option, None, Some, Bool, true, false, cond, All, refl, sym, ap, ◌∙◌, arith, codes, decimal, ltb}
use Rattle.std.specs.List.{join_with_byte}
use Rattle.std.specs.Option.{option_map, option_or}
use Rattle.std.specs.Str.{bytes_eq, all_ascii_digits}
use Rattle.std.proofs.lemmas.Bool.{and_parts, and_from, lt-ltb, ltb-true, ne_eqb, leb-true, cond_both, cases_Bool}
use Rattle.std.proofs.lemmas.List.Elements.{All-nil, All-cons}
use Rattle.std.proofs.lemmas.List.Splits.{slice_split_none, slice_split_at, join_with_byte-slice_split}
use Rattle.std.proofs.lemmas.Option.{option_and_then_some, same_Some}
use Rattle.std.proofs.lemmas.Slice.Eq.{bytes_eq-Decides}
use Rattle.nfs_base.specs.declared.side.Side.{Side}
use Rattle.nfs_base.specs.declared.side.Side.TheVariants.{Source, Dest}
use Rattle.nfs_base.specs.Text.{side_text}
use Rattle.nfs_base.specs.declared.copy_spec.CopySpec.{CopySpec}
use Rattle.wire_schedule.specs.declared.event.Event.{Event}
use Rattle.wire_schedule.specs.declared.event.Event.TheVariants.{Volume, Write, Commit, Copy, Status, Cancel, Retry, Deliver, Flow, Work, Tick, Peek, Crash, CrashAfter}
use Rattle.wire_schedule.specs.declared.directive.Directive.{Directive}
use Rattle.wire_schedule.specs.declared.directive.Directive.TheVariants.{Once, Flows, Rounds}
use Rattle.wire_schedule.specs.Admission.{is_within}
use Rattle.wire_schedule.specs.Expansion.{keeps_limits}
use Rattle.wire_schedule.specs.Words.{words_of}
use Rattle.wire_schedule.specs.Numerals.{number_of, number_below, bytes_of, hex_digit, hex_text}
use Rattle.wire_schedule.specs.Grammar.{side_of, consecutive_of, volume_of, write_of, commit_of, copy_spec_of, copy_of, status_of, cancel_of, deliver_of, work_of, tick_of, peek_of, crash_now_of, crash_then_of, crash_after_of, crash_of, event_of, flows_of, rounds_of, lone_of, more_of, directive_of}
use Rattle.wire_schedule.specs.Spelling.{consecutive_text, words_for, line_words, spelling, FitsSpec, EventFits, FitsFields}
use Rattle.wire_schedule.proofs.NumeralLemmas.{plain_digits, number_of-decimal, decimal-number_of, number_below-decimal, decimal-number_below}
use Rattle.wire_schedule.proofs.HexLemmas.{bytes_of-hex_text, hex_text-bytes_of}

-- whether no byte of a word is a space or a control character
abbrev pub is_plain : List ℕ → Bool
is_plain [] = true
is_plain (b ∷ bs) = ltb 32 b && is_plain bs

abbrev pub are_plain : List (List ℕ) → Bool
are_plain [] = true
are_plain (word ∷ words) = is_plain word && are_plain words

pub lacks : (separator : ℕ) → separator ≤ 32 → (word : List ℕ) → is_plain word ≡ true → All (λ b. (b == separator) ≡ false) word
lacks separator low [] plain = All-nil (λ b. (b == separator) ≡ false)
lacks separator low (b ∷ word) plain =
    let tests = and_parts (ltb 32 b) (is_plain word) plain in
    let above : 32 < b = ltb-true 32 b tests.0 in
    let other : b ≡ separator → ⊥ = λ same. omega arith in
    All-cons (λ c. (c == separator) ≡ false) b word (ne_eqb b separator other) (lacks separator low word tests.1)

-- the words of a line that is made of them
words_of-joined : (first : List ℕ) (rest : List (List ℕ)) → are_plain (first ∷ rest) ≡ true → words_of (join_with_byte 32 (first ∷ rest)) ≡ first ∷ rest
words_of-joined first [] plain = slice_split_none (λ b. b == 32) first (lacks 32 (omega arith) first (and_parts (is_plain first) true plain).0)
words_of-joined first (next ∷ rest) plain =
    let tests = and_parts (is_plain first) (are_plain (next ∷ rest)) plain in
    slice_split_at (λ b. b == 32) first 32 (join_with_byte 32 (next ∷ rest)) (lacks 32 (omega arith) first tests.0) refl
    ∙ ap (λ words. first ∷ words) (words_of-joined next rest tests.1)

plain_ascii : (ds : List ℕ) → all_ascii_digits ds ≡ true → is_plain ds ≡ true
plain_ascii [] digits = refl
plain_ascii (c ∷ cs) digits =
    let tests = and_parts _ _ digits in
    let parts = and_parts _ _ tests.0 in
    let low : 48 ≤ c = leb-true 48 c parts.0 in
    and_from (ltb 32 c) (is_plain cs) (lt-ltb 32 c (omega arith)) (plain_ascii cs tests.1)

plain_decimal : (n : ℕ) → n < 2 ^ 64 → is_plain (decimal n) ≡ true
plain_decimal n small = plain_ascii (decimal n) (plain_digits n small)

plain_digit : (v : ℕ) → ltb 32 (hex_digit v) ≡ true
plain_digit v = lt-ltb 32 (hex_digit v) (cond_both (ltb v 10) (48 + v) (87 + v) (λ digit. 32 < digit) (λ _. omega arith) (λ _. omega arith))

plain_hex : (bytes : List ℕ) → is_plain (hex_text bytes) ≡ true
plain_hex [] = refl
plain_hex (b ∷ bytes) = rw (plain_digit (b / 16), plain_digit (b % 16)) (plain_hex bytes)

plain_side : (side : Side) → is_plain (side_text side) ≡ true
plain_side Source = refl
plain_side Dest = refl

plain_consecutive : (consecutive : Bool) → is_plain (consecutive_text consecutive) ≡ true
plain_consecutive true = refl
plain_consecutive false = refl

plain_event : (event : Event) → EventFits event → are_plain (words_for event) ≡ true
plain_event (Volume side files blocks) fits =
    rw (plain_side side, plain_decimal files (omega (arith, fits.0)), plain_decimal blocks (omega (arith, fits.1))) refl
plain_event (Write side file off bytes) fits =
    rw (plain_side side, plain_decimal file (omega (arith, fits.0)), plain_decimal off fits.1, plain_hex bytes) refl
plain_event (Commit side file) fits = rw (plain_side side, plain_decimal file (omega (arith, fits))) refl
plain_event (Copy copy spec) fits =
    rw (plain_decimal copy (omega (arith, fits.0)), plain_decimal spec.src_file (omega (arith, fits.1.src_file)), plain_decimal spec.src_off fits.1.src_off, plain_decimal spec.dst_file (omega (arith, fits.1.dst_file)), plain_decimal spec.dst_off fits.1.dst_off, plain_decimal spec.count fits.1.count, plain_consecutive spec.consecutive) refl
plain_event (Status copy) fits = rw (plain_decimal copy (omega (arith, fits))) refl
plain_event (Cancel copy) fits = rw (plain_decimal copy (omega (arith, fits))) refl
plain_event Retry fits = refl
plain_event (Deliver number) fits = rw (plain_decimal number fits) refl
plain_event Flow fits = refl
plain_event (Work worker) fits = rw (plain_decimal worker (omega (arith, fits))) refl
plain_event (Tick seconds) fits = rw (plain_decimal seconds (omega (arith, fits))) refl
plain_event (Peek side file off len) fits =
    rw (plain_side side, plain_decimal file (omega (arith, fits.0)), plain_decimal off fits.1, plain_decimal len (omega (arith, fits.2))) refl
plain_event (Crash side pick) fits = rw (plain_side side, plain_decimal pick (omega (arith, fits))) refl
plain_event (CrashAfter side calls pick) fits =
    rw (plain_side side, plain_decimal calls fits.0, plain_decimal pick (omega (arith, fits.1))) refl

pub plain_words : (directive : Directive) → FitsFields directive → are_plain (line_words directive) ≡ true
plain_words (Once event) fits = plain_event event fits
plain_words (Flows times) fits = rw (plain_decimal times (omega (arith, fits))) refl
plain_words (Rounds times) fits = rw (plain_decimal times (omega (arith, fits))) refl

side_of-text : (side : Side) → side_of (side_text side) ≡ Some side
unfolding side_of
side_of-text Source = refl
side_of-text Dest = refl

consecutive_of-text : (consecutive : Bool) → consecutive_of (consecutive_text consecutive) ≡ Some consecutive
unfolding consecutive_of
consecutive_of-text true = refl
consecutive_of-text false = refl

below_32 : (n : ℕ) → n < 2 ^ 32 → number_below (2 ^ 32) (decimal n) ≡ Some n
below_32 n small = number_below-decimal (2 ^ 32) n small (omega arith)

below_8 : (n : ℕ) → n < 2 ^ 8 → number_below (2 ^ 8) (decimal n) ≡ Some n
below_8 n small = number_below-decimal (2 ^ 8) n small (omega arith)

-- the words of an event read as it
read_event : (event : Event) → EventFits event → is_within event ≡ true → directive_of (words_for event) ≡ Some (Once event)
unfolding directive_of lone_of more_of event_of volume_of write_of commit_of copy_of copy_spec_of status_of cancel_of deliver_of work_of tick_of peek_of crash_now_of crash_then_of crash_after_of crash_of
read_event (Volume side files blocks) fits within = rw (side_of-text side, below_32 files fits.0, below_32 blocks fits.1) refl
read_event (Write side file off bytes) fits within =
    rw (side_of-text side, below_32 file fits.0, number_of-decimal off fits.1, bytes_of-hex_text bytes fits.2 (and_parts _ _ within).0) refl
read_event (Commit side file) fits within = rw (side_of-text side, below_32 file fits) refl
read_event (Copy copy spec) fits within =
    rw (below_8 copy fits.0, below_32 spec.src_file fits.1.src_file, number_of-decimal spec.src_off fits.1.src_off, below_32 spec.dst_file fits.1.dst_file, number_of-decimal spec.dst_off fits.1.dst_off, number_of-decimal spec.count fits.1.count, consecutive_of-text spec.consecutive) refl
read_event (Status copy) fits within = rw (below_8 copy fits) refl
read_event (Cancel copy) fits within = rw (below_8 copy fits) refl
read_event Retry fits within = refl
read_event (Deliver number) fits within = rw (number_of-decimal number fits) refl
read_event Flow fits within = refl
read_event (Work worker) fits within = rw (below_8 worker fits) refl
read_event (Tick seconds) fits within = rw (below_32 seconds fits) refl
read_event (Peek side file off len) fits within =
    rw (side_of-text side, below_32 file fits.0, number_of-decimal off fits.1, below_8 len fits.2) refl
read_event (Crash side pick) fits within = rw (side_of-text side, below_8 pick fits) refl
read_event (CrashAfter side calls pick) fits within = rw (side_of-text side, number_of-decimal calls fits.0, below_8 pick fits.1) refl

-- the words of a line read as what it gives
read_line : (directive : Directive) → FitsFields directive → keeps_limits directive ≡ true → directive_of (line_words directive) ≡ Some directive
unfolding directive_of more_of flows_of rounds_of
read_line (Once event) fits within = read_event event fits within
read_line (Flows times) fits within = rw (below_32 times fits) refl
read_line (Rounds times) fits within = rw (below_32 times fits) refl

no_words_for : (event : Event) → [] ≡ words_for event → ⊥
no_words_for (Volume side files blocks) none = cc none
no_words_for (Write side file off bytes) none = cc none
no_words_for (Commit side file) none = cc none
no_words_for (Copy copy spec) none = cc none
no_words_for (Status copy) none = cc none
no_words_for (Cancel copy) none = cc none
no_words_for Retry none = cc none
no_words_for (Deliver number) none = cc none
no_words_for Flow none = cc none
no_words_for (Work worker) none = cc none
no_words_for (Tick seconds) none = cc none
no_words_for (Peek side file off len) none = cc none
no_words_for (Crash side pick) none = cc none
no_words_for (CrashAfter side calls pick) none = cc none

no_line_words : (directive : Directive) → [] ≡ line_words directive → ⊥
no_line_words (Once event) none = no_words_for event none
no_line_words (Flows times) none = cc none
no_line_words (Rounds times) none = cc none

-- the line that spells this reads as it
pub reads_back : (directive : Directive) → FitsFields directive → keeps_limits directive ≡ true → directive_of (words_of (spelling directive)) ≡ Some directive
reads_back directive fits within =
    let first_words : (words : List (List ℕ)) → words ≡ line_words directive → are_plain words ≡ true → words_of (join_with_byte 32 words) ≡ words =
    λ words. elim words as (λ ws. ws ≡ line_words directive → are_plain ws ≡ true → words_of (join_with_byte 32 ws) ≡ ws) [
      | [] ↦ λ none plain. absurd (no_line_words directive none)
      | first ∷ rest ↦ λ _ plain. words_of-joined first rest plain
    ] in
    ap directive_of (first_words (line_words directive) refl (plain_words directive fits)) ∙ read_line directive fits within

-- a choice by a word, where it gives an event
choice : {A : Type 0} (word text : List ℕ) (chosen other : Option A) (value : A) → cond (bytes_eq word text) chosen other ≡ Some value → ((word ≡ text) × (chosen ≡ Some value)) ⊎ (other ≡ Some value)
choice word text chosen other value is =
    elim (cases_Bool (bytes_eq word text)) [
      | inl yes' ↦ inl ((bytes_eq-Decides word text).0 yes', rw yes' at is)
      | inr no' ↦ inr (rw no' at is)
    ]

side-side_of : (word : List ℕ) (side : Side) → side_of word ≡ Some side → word ≡ side_text side
unfolding side_of
side-side_of word side is = elim (choice word (codes "s") (Some Source) (cond (bytes_eq word (codes "d")) (Some Dest) None) side is) [
  | inl source ↦ rw (sym (same_Some _ _ source.1)) source.0
  | inr other ↦ elim (choice word (codes "d") (Some Dest) None side other) [
    | inl dest ↦ rw (sym (same_Some _ _ dest.1)) dest.0
    | inr none ↦ absurd (cc none)
  ]
]

consecutive-consecutive_of : (word : List ℕ) (consecutive : Bool) → consecutive_of word ≡ Some consecutive → word ≡ consecutive_text consecutive
unfolding consecutive_of
consecutive-consecutive_of word consecutive is = elim (choice word (codes "c") (Some true) (cond (bytes_eq word (codes "n")) (Some false) None) consecutive is) [
  | inl yes' ↦ rw (sym (same_Some _ _ yes'.1)) yes'.0
  | inr other ↦ elim (choice word (codes "n") (Some false) None consecutive other) [
    | inl no' ↦ rw (sym (same_Some _ _ no'.1)) no'.0
    | inr none ↦ absurd (cc none)
  ]
]

-- these words spell the event, and its numbers fit their types
abbrev Spells : List (List ℕ) → Event → Type 0
Spells words event = (words ≡ words_for event) × EventFits event

-- this word, and those after it
abbrev SpellsAs : List ℕ → (List (List ℕ) → Option Event) → Type 0
SpellsAs kind reads = (words : List (List ℕ)) (event : Event) → reads words ≡ Some event → Spells (kind ∷ words) event

volume_spells : SpellsAs (codes "volume") volume_of
unfolding volume_of
volume_spells (x ∷ f ∷ b ∷ []) event is =
    option_and_then_some _ (side_of x) event is (λ side side_is after_side.
    option_and_then_some _ (number_below (2 ^ 32) f) event after_side (λ files files_is after_files.
    option_and_then_some _ (number_below (2 ^ 32) b) event after_files (λ blocks blocks_is whole.
    let f_is = decimal-number_below (2 ^ 32) f files files_is in
    let b_is = decimal-number_below (2 ^ 32) b blocks blocks_is in
    let same : Volume side files blocks ≡ event = same_Some _ _ whole in
    rw (sym same) (rw (side-side_of x side side_is, f_is.1, b_is.1) refl, (f_is.0, b_is.0)))))
volume_spells words event is = absurd (cc is)

write_spells : SpellsAs (codes "write") write_of
unfolding write_of
write_spells (x ∷ f ∷ o ∷ h ∷ []) event is =
    option_and_then_some _ (side_of x) event is (λ side side_is after_side.
    option_and_then_some _ (number_below (2 ^ 32) f) event after_side (λ file file_is after_file.
    option_and_then_some _ (number_of o) event after_file (λ off off_is after_off.
    option_and_then_some _ (bytes_of h) event after_off (λ bytes bytes_is whole.
    let f_is = decimal-number_below (2 ^ 32) f file file_is in
    let o_is = decimal-number_of o off off_is in
    let h_is = hex_text-bytes_of h bytes bytes_is in
    let same : Write side file off bytes ≡ event = same_Some _ _ whole in
    rw (sym same) (rw (side-side_of x side side_is, f_is.1, o_is.1, h_is.2) refl, (f_is.0, o_is.0, h_is.1))))))
write_spells words event is = absurd (cc is)

commit_spells : SpellsAs (codes "commit") commit_of
unfolding commit_of
commit_spells (x ∷ f ∷ []) event is =
    option_and_then_some _ (side_of x) event is (λ side side_is after_side.
    option_and_then_some _ (number_below (2 ^ 32) f) event after_side (λ file file_is whole.
    let f_is = decimal-number_below (2 ^ 32) f file file_is in
    let same : Commit side file ≡ event = same_Some _ _ whole in
    rw (sym same) (rw (side-side_of x side side_is, f_is.1) refl, f_is.0)))
commit_spells words event is = absurd (cc is)

copy_spec_spells : (words : List (List ℕ)) (spec : CopySpec) → copy_spec_of words ≡ Some spec → (words ≡ decimal spec.src_file ∷ decimal spec.src_off ∷ decimal spec.dst_file ∷ decimal spec.dst_off ∷ decimal spec.count ∷ consecutive_text spec.consecutive ∷ []) × FitsSpec spec
unfolding copy_spec_of
copy_spec_spells (s ∷ o ∷ d ∷ t ∷ n ∷ c ∷ []) spec is =
    option_and_then_some _ (number_below (2 ^ 32) s) spec is (λ src_file src_file_is after_src_file.
    option_and_then_some _ (number_of o) spec after_src_file (λ src_off src_off_is after_src_off.
    option_and_then_some _ (number_below (2 ^ 32) d) spec after_src_off (λ dst_file dst_file_is after_dst_file.
    option_and_then_some _ (number_of t) spec after_dst_file (λ dst_off dst_off_is after_dst_off.
    option_and_then_some _ (number_of n) spec after_dst_off (λ count count_is after_count.
    option_and_then_some _ (consecutive_of c) spec after_count (λ consecutive consecutive_is whole.
    let s_is = decimal-number_below (2 ^ 32) s src_file src_file_is in
    let o_is = decimal-number_of o src_off src_off_is in
    let d_is = decimal-number_below (2 ^ 32) d dst_file dst_file_is in
    let t_is = decimal-number_of t dst_off dst_off_is in
    let n_is = decimal-number_of n count count_is in
    let same : ◌≡◌ {A = CopySpec} (record { src_file = src_file; src_off = src_off; dst_file = dst_file; dst_off = dst_off; count = count; consecutive = consecutive }) spec = same_Some _ _ whole in
    rw (sym same) (
      rw (s_is.1, o_is.1, d_is.1, t_is.1, n_is.1, consecutive-consecutive_of c consecutive consecutive_is) refl,
      record { src_file = s_is.0; src_off = o_is.0; dst_file = d_is.0; dst_off = t_is.0; count = n_is.0 },
    )))))))
copy_spec_spells words spec is = absurd (cc is)

copy_spells : SpellsAs (codes "copy") copy_of
unfolding copy_of
copy_spells [] event is = absurd (cc is)
copy_spells (j ∷ words) event is =
    option_and_then_some _ (number_below (2 ^ 8) j) event is (λ copy copy_is after_copy.
    option_and_then_some _ (copy_spec_of words) event after_copy (λ spec spec_is whole.
    let j_is = decimal-number_below (2 ^ 8) j copy copy_is in
    let words_are = copy_spec_spells words spec spec_is in
    let same : Copy copy spec ≡ event = same_Some _ _ whole in
    rw (sym same) (rw (j_is.1, words_are.0) refl, (j_is.0, words_are.1))))

status_spells : SpellsAs (codes "status") status_of
unfolding status_of
status_spells (n ∷ []) event is =
    option_and_then_some _ (number_below (2 ^ 8) n) event is (λ copy copy_is whole.
    let n_is = decimal-number_below (2 ^ 8) n copy copy_is in
    let same : Status copy ≡ event = same_Some _ _ whole in
    rw (sym same) (rw n_is.1 refl, n_is.0))
status_spells words event is = absurd (cc is)

cancel_spells : SpellsAs (codes "cancel") cancel_of
unfolding cancel_of
cancel_spells (n ∷ []) event is =
    option_and_then_some _ (number_below (2 ^ 8) n) event is (λ copy copy_is whole.
    let n_is = decimal-number_below (2 ^ 8) n copy copy_is in
    let same : Cancel copy ≡ event = same_Some _ _ whole in
    rw (sym same) (rw n_is.1 refl, n_is.0))
cancel_spells words event is = absurd (cc is)

deliver_spells : SpellsAs (codes "deliver") deliver_of
unfolding deliver_of
deliver_spells (n ∷ []) event is =
    option_and_then_some _ (number_of n) event is (λ number number_is whole.
    let n_is = decimal-number_of n number number_is in
    let same : Deliver number ≡ event = same_Some _ _ whole in
    rw (sym same) (rw n_is.1 refl, n_is.0))
deliver_spells words event is = absurd (cc is)

work_spells : SpellsAs (codes "work") work_of
unfolding work_of
work_spells (n ∷ []) event is =
    option_and_then_some _ (number_below (2 ^ 8) n) event is (λ worker worker_is whole.
    let n_is = decimal-number_below (2 ^ 8) n worker worker_is in
    let same : Work worker ≡ event = same_Some _ _ whole in
    rw (sym same) (rw n_is.1 refl, n_is.0))
work_spells words event is = absurd (cc is)

tick_spells : SpellsAs (codes "tick") tick_of
unfolding tick_of
tick_spells (n ∷ []) event is =
    option_and_then_some _ (number_below (2 ^ 32) n) event is (λ seconds seconds_is whole.
    let n_is = decimal-number_below (2 ^ 32) n seconds seconds_is in
    let same : Tick seconds ≡ event = same_Some _ _ whole in
    rw (sym same) (rw n_is.1 refl, n_is.0))
tick_spells words event is = absurd (cc is)

peek_spells : SpellsAs (codes "peek") peek_of
unfolding peek_of
peek_spells (x ∷ f ∷ o ∷ n ∷ []) event is =
    option_and_then_some _ (side_of x) event is (λ side side_is after_side.
    option_and_then_some _ (number_below (2 ^ 32) f) event after_side (λ file file_is after_file.
    option_and_then_some _ (number_of o) event after_file (λ off off_is after_off.
    option_and_then_some _ (number_below (2 ^ 8) n) event after_off (λ len len_is whole.
    let f_is = decimal-number_below (2 ^ 32) f file file_is in
    let o_is = decimal-number_of o off off_is in
    let n_is = decimal-number_below (2 ^ 8) n len len_is in
    let same : Peek side file off len ≡ event = same_Some _ _ whole in
    rw (sym same) (rw (side-side_of x side side_is, f_is.1, o_is.1, n_is.1) refl, (f_is.0, o_is.0, n_is.0))))))
peek_spells words event is = absurd (cc is)

crash_now_spells : SpellsAs (codes "crash") crash_now_of
unfolding crash_now_of
crash_now_spells (x ∷ p ∷ []) event is =
    option_and_then_some _ (side_of x) event is (λ side side_is after_side.
    option_and_then_some _ (number_below (2 ^ 8) p) event after_side (λ pick pick_is whole.
    let p_is = decimal-number_below (2 ^ 8) p pick pick_is in
    let same : Crash side pick ≡ event = same_Some _ _ whole in
    rw (sym same) (rw (side-side_of x side side_is, p_is.1) refl, p_is.0)))
crash_now_spells words event is = absurd (cc is)

crash_then_spells : (x k p : List ℕ) (event : Event) → crash_then_of x k p ≡ Some event → Spells (codes "crash" ∷ x ∷ codes "after" ∷ k ∷ p ∷ []) event
unfolding crash_then_of
crash_then_spells x k p event is =
    option_and_then_some _ (side_of x) event is (λ side side_is after_side.
    option_and_then_some _ (number_of k) event after_side (λ calls calls_is after_calls.
    option_and_then_some _ (number_below (2 ^ 8) p) event after_calls (λ pick pick_is whole.
    let k_is = decimal-number_of k calls calls_is in
    let p_is = decimal-number_below (2 ^ 8) p pick pick_is in
    let same : CrashAfter side calls pick ≡ event = same_Some _ _ whole in
    rw (sym same) (rw (side-side_of x side side_is, k_is.1, p_is.1) refl, (k_is.0, p_is.0)))))

crash_after_spells : SpellsAs (codes "crash") crash_after_of
unfolding crash_after_of
crash_after_spells (x ∷ a ∷ k ∷ p ∷ []) event is = elim (choice a (codes "after") (crash_then_of x k p) None event is) [
  | inl found ↦
      let spells = crash_then_spells x k p event found.1 in
      (ap (λ (word : List ℕ). codes "crash" ∷ x ∷ word ∷ k ∷ p ∷ []) found.0 ∙ spells.0, spells.1)
  | inr none ↦ absurd (cc none)
]
crash_after_spells words event is = absurd (cc is)

-- one of two ways to read
either_spells : (kind : List ℕ) (words : List (List ℕ)) (first second : Option Event) (event : Event) → (first ≡ Some event → Spells (kind ∷ words) event)
    → (second ≡ Some event → Spells (kind ∷ words) event) → option_or first second ≡ Some event → Spells (kind ∷ words) event
either_spells kind words None second event so or_so is = or_so is
either_spells kind words (Some other) second event so or_so is = so is

crash_spells : SpellsAs (codes "crash") crash_of
unfolding crash_of
crash_spells words event is =
    either_spells (codes "crash") words (crash_now_of words) (crash_after_of words) event (crash_now_spells words event) (crash_after_spells words event) is

-- a kind of line, by its first word
by_kind : {A : Type 0} (P : List ℕ → A → Type 0) (kind text : List ℕ) (chosen other : Option A) (value : A) → (chosen ≡ Some value → P text value) → (other ≡ Some value → P kind value) → cond (bytes_eq kind text) chosen other ≡ Some value → P kind value
by_kind P kind text chosen other value so else_so is =
    elim (choice kind text chosen other value is) [
      | inl found ↦ rw found.0 (so found.1)
      | inr none ↦ else_so none
    ]

-- words that read as an event are its words
event_spells : (kind : List ℕ) (words : List (List ℕ)) (event : Event) → event_of kind words ≡ Some event → Spells (kind ∷ words) event
unfolding event_of
event_spells kind words event is =
    let spells : List ℕ → Event → Type 0 = λ first found. Spells (first ∷ words) found in
    by_kind spells kind (codes "volume") _ _ event (volume_spells words event)
    (by_kind spells kind (codes "write") _ _ event (write_spells words event)
    (by_kind spells kind (codes "commit") _ _ event (commit_spells words event)
    (by_kind spells kind (codes "copy") _ _ event (copy_spells words event)
    (by_kind spells kind (codes "status") _ _ event (status_spells words event)
    (by_kind spells kind (codes "cancel") _ _ event (cancel_spells words event)
    (by_kind spells kind (codes "deliver") _ _ event (deliver_spells words event)
    (by_kind spells kind (codes "work") _ _ event (work_spells words event)
    (by_kind spells kind (codes "tick") _ _ event (tick_spells words event)
    (by_kind spells kind (codes "peek") _ _ event (peek_spells words event)
    (by_kind spells kind (codes "crash") _ _ event (crash_spells words event)
    (λ none. absurd (cc none)))))))))))) is

-- the same of a whole line
abbrev LineSpells : List (List ℕ) → Directive → Type 0
LineSpells words directive = (words ≡ line_words directive) × FitsFields directive

flows_spell : (words : List (List ℕ)) (directive : Directive) → flows_of words ≡ Some directive → LineSpells (codes "flow" ∷ words) directive
unfolding flows_of
flows_spell (k ∷ []) directive is =
    option_and_then_some _ (number_below (2 ^ 32) k) directive is (λ times times_is whole.
    let k_is = decimal-number_below (2 ^ 32) k times times_is in
    let same : Flows times ≡ directive = same_Some _ _ whole in
    rw (sym same) (rw k_is.1 refl, k_is.0))
flows_spell words directive is = absurd (cc is)

rounds_spell : (words : List (List ℕ)) (directive : Directive) → rounds_of words ≡ Some directive → LineSpells (codes "rounds" ∷ words) directive
unfolding rounds_of
rounds_spell (k ∷ []) directive is =
    option_and_then_some _ (number_below (2 ^ 32) k) directive is (λ times times_is whole.
    let k_is = decimal-number_below (2 ^ 32) k times times_is in
    let same : Rounds times ≡ directive = same_Some _ _ whole in
    rw (sym same) (rw k_is.1 refl, k_is.0))
rounds_spell words directive is = absurd (cc is)

once_spells : (words : List (List ℕ)) (found : Option Event) (directive : Directive) → ((event : Event) → found ≡ Some event → Spells words event) → option_map Once found ≡ Some directive → LineSpells words directive
once_spells words None directive spells is = absurd (cc is)
once_spells words (Some event) directive spells is =
    let same : Once event ≡ directive = same_Some _ _ is in
    rw (sym same) (spells event refl)

more_spells : (kind : List ℕ) (words : List (List ℕ)) (directive : Directive) → more_of kind words ≡ Some directive → LineSpells (kind ∷ words) directive
unfolding more_of
more_spells kind words directive is =
    let spells : List ℕ → Directive → Type 0 = λ first found. LineSpells (first ∷ words) found in
    by_kind spells kind (codes "flow") _ _ directive (flows_spell words directive)
    (by_kind spells kind (codes "rounds") _ _ directive (rounds_spell words directive)
    (once_spells (kind ∷ words) (event_of kind words) directive (event_spells kind words))) is

lone_spells : (kind : List ℕ) (directive : Directive) → lone_of kind ≡ Some directive → LineSpells (kind ∷ []) directive
unfolding lone_of
lone_spells kind directive is =
    let spells : List ℕ → Directive → Type 0 = λ first found. LineSpells (first ∷ []) found in
    by_kind spells kind (codes "retry") _ _ directive (λ found. let same : Once Retry ≡ directive = same_Some (Once Retry) directive found in rw (sym same) (refl, tt))
    (by_kind spells kind (codes "flow") _ _ directive (λ found. let same : Once Flow ≡ directive = same_Some (Once Flow) directive found in rw (sym same) (refl, tt))
    (λ none. absurd (cc none))) is

words_spell : (words : List (List ℕ)) (directive : Directive) → directive_of words ≡ Some directive → LineSpells words directive
unfolding directive_of
words_spell [] directive is = absurd (cc is)
words_spell (kind ∷ []) directive is = lone_spells kind directive is
words_spell (kind ∷ next ∷ words) directive is = more_spells kind (next ∷ words) directive is

-- a line that reads as this is its spelling
pub line_spells : (line : List ℕ) (directive : Directive) → directive_of (words_of line) ≡ Some directive → (line ≡ spelling directive) × FitsFields directive
line_spells line directive is =
    let words = words_spell (words_of line) directive is in
    (sym (join_with_byte-slice_split 32 line) ∙ ap (join_with_byte 32) words.0, words.1)
