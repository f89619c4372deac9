-- What is put down at the end of a small step.
use Rattle.std.proofs.Common.{◌≡◌, ℕ, zero, suc, ◌+◌, ◌-◌, ◌^◌, ◌<◌, ◌≤◌, Bool, true, false, List, [], ◌∷◌, ◌++◌, length, Option, Some, None, refl, sym, ap, ◌∙◌, arith, append_assoc, length-append}
use Rattle.std.specs.Prelude.{IsSome, OnErr, OnOk, Result, Ok, Err, ◌||◌, min, nat_lt, slice_get}
use Rattle.std.proofs.lemmas.Bool.{le-ltb, lt-ltb, ltb-false}
use Rattle.std.proofs.lemmas.Grind.{flat_map-append}
use Rattle.std.proofs.lemmas.List.{append-nil}
use Rattle.nfs_base.specs.declared.seal.End.{End}
use Rattle.nfs_base.specs.declared.seal.End.TheVariants as ends
use Rattle.wire_lines.specs.LineText.{line_text, lines_text}
use Rattle.wire_lines.specs.declared.line.Line.{Line}
use Rattle.outbox.specs.declared.outgoing.Outbox.{Outbox}
use Rattle.outbox.specs.declared.outgoing.Outgoing.{Outgoing}
use Rattle.wire_log.specs.Keeping.{bytes_at, sent_bytes}
use Rattle.wire_machine.specs.Lines.{notes_of, records_of, sent_lines}
use Rattle.wire_machine.specs.Steps.{any_failed}
use Rattle.wire_machine.specs.Check.{Reading}
use Rattle.wire_machine.specs.Runs as runs
use Rattle.wire_machine.specs.Runs.{fault_by, most_bytes, size_fault}
use Rattle.wire_machine.specs.World.{Posted, all_posted, bytes_of, posted_at}
use Rattle.wire_machine.specs.declared.mistake.Mistake.{Mistake}
use Rattle.wire_run.specs.Stage.{AreAllPutDown, IsPutDown, SettleKeeps, Settles, SettlesAll, all_posted_by, all_sent_bytes, choice_by, faults_named, mistake_by, posted_by, speaker_of, ticked_parts}
use Rattle.wire_run.specs.declared.stage.Acted.{Acted}
use Rattle.wire_run.specs.declared.stage.Fault.{Fault}
use Rattle.wire_run.specs.declared.stage.Fault.TheVariants as faults_of
use Rattle.wire_run.specs.declared.stage.Stage.{Stage}
use Rattle.wire_run.specs.declared.stage.Ticked.{Ticked}
use Rattle.wire_run.proofs.Logs.{bytes_of_all_posted, bytes_of_append, grows_more, grows_none}

-- ---- records within the limit, or beyond it

size_true : (bytes : ℕ) → most_bytes < bytes → size_fault (nat_lt most_bytes bytes) ≡ Some runs.TooLarge
size_true bytes more = ap size_fault (lt-ltb most_bytes bytes more)

pub size_none : (bytes : ℕ) → bytes ≤ most_bytes → size_fault (nat_lt most_bytes bytes) ≡ None
size_none bytes few = ap size_fault (le-ltb most_bytes bytes few)

size_few : (bytes : ℕ) → size_fault (nat_lt most_bytes bytes) ≡ None → bytes ≤ most_bytes
size_few bytes none = few_if (nat_lt most_bytes bytes) refl none
  where
    few_if : (b : Bool) → nat_lt most_bytes bytes ≡ b → size_fault b ≡ None → bytes ≤ most_bytes
    few_if true is e = absurd cc
    few_if false is e = ltb-false most_bytes bytes is

-- the sizes that are counted up to the end of a u64 tell as much
counted_over : (before sent counted : ℕ) → counted ≡ min sent (2 ^ 64 - 1) → most_bytes < before + counted → most_bytes < before + sent
counted_over before sent counted is more = omega arith

counted_within : (before sent counted : ℕ) → counted ≡ min sent (2 ^ 64 - 1) → before + counted ≤ most_bytes → before + sent ≤ most_bytes
counted_within before sent counted is few = omega arith

-- ---- the bytes of what is put down

pub posted_bytes : {D M : Type 0} (acted : Acted) (s : Stage D M) → bytes_of (s.log ++ posted_by acted s) ≡ bytes_of s.log + sent_bytes acted.out.sent
posted_bytes acted s =
    bytes_of_append s.log (posted_by acted s)
    ∙ ap (λ (n : ℕ). bytes_of s.log + n) (bytes_of_all_posted acted.end (length s.choices.items) acted.opening (bytes_at s.log acted.took) acted.out.sent)

pub all_posted_bytes : {D M : Type 0} (ticked : Ticked) (s : Stage D M) → bytes_of (s.log ++ all_posted_by ticked s) ≡ bytes_of s.log + all_sent_bytes ticked
all_posted_bytes ticked s =
    bytes_of_append s.log (all_posted_by ticked s)
    ∙ ap (λ (n : ℕ). bytes_of s.log + n)
    (bytes_of_append (all_posted ends.Source (length s.choices.items) ticked.source_opening None ticked.source.sent) _
    ∙ (ap (λ (n : ℕ). bytes_of (all_posted ends.Source (length s.choices.items) ticked.source_opening None ticked.source.sent) + n)
    (bytes_of_append (all_posted ends.Dest (length s.choices.items) ticked.dest_opening None ticked.dest.sent) _)
    ∙ omega (
      arith,
      bytes_of_all_posted ends.Source (length s.choices.items) ticked.source_opening None ticked.source.sent,
      bytes_of_all_posted ends.Dest (length s.choices.items) ticked.dest_opening None ticked.dest.sent,
      bytes_of_all_posted ends.Client (length s.choices.items) 0 None ticked.client.sent,
    )))

-- ---- a fault of one end

pub fault_mistaken : (mistake : Option Mistake) (bytes : ℕ) (m : Mistake) → mistake ≡ Some m → faults_named (Some (faults_of.Mistaken m)) ≡ fault_by mistake bytes
fault_mistaken mistake bytes m is = sym (ap (λ (o : Option Mistake). fault_by o bytes) is)

pub fault_large : (mistake : Option Mistake) (before sent counted : ℕ) → mistake ≡ None → counted ≡ min sent (2 ^ 64 - 1) → most_bytes < before + counted
    → faults_named (Some faults_of.TooLarge) ≡ fault_by mistake (before + sent)
fault_large mistake before sent counted none is more =
    sym (ap (λ (o : Option Mistake). fault_by o (before + sent)) none ∙ size_true (before + sent) (counted_over before sent counted is more))

pub fault_none : (mistake : Option Mistake) (before sent counted : ℕ) → mistake ≡ None → counted ≡ min sent (2 ^ 64 - 1) → before + counted ≤ most_bytes
    → faults_named None ≡ fault_by mistake (before + sent)
fault_none mistake before sent counted none is few =
    sym (ap (λ (o : Option Mistake). fault_by o (before + sent)) none ∙ size_none (before + sent) (counted_within before sent counted is few))

-- no fault: the records are within the limit
fault_few : (mistake : Option Mistake) (bytes : ℕ) → fault_by mistake bytes ≡ None → bytes ≤ most_bytes
fault_few None bytes none = size_few bytes none
fault_few (Some m) bytes none = absurd cc

pub put_few : {D M : Type 0} (read : Reading) (acted : Acted) (s : Stage D M) → faults_named None ≡ fault_by (mistake_by read acted s) (bytes_of s.log + sent_bytes acted.out.sent)
    → bytes_of s.log + sent_bytes acted.out.sent ≤ most_bytes
put_few read acted s none = fault_few (mistake_by read acted s) (bytes_of s.log + sent_bytes acted.out.sent) (sym none)

-- ---- what is kept

pub kept_all : {D M : Type 0} (s : Stage D M) → bytes_of s.log ≤ most_bytes → SettleKeeps s s
kept_all s few = record { source = refl; dest = refl; client = refl; draws = refl; clock = refl; flowed = refl; stops = refl; log = grows_none s.log; bytes = few; choices = omega arith }

-- ---- settled

pub settled_fault : {D M : Type 0} (read : Reading) (acted : Acted) (s : Stage D M) (text : List ℕ) (fault : Fault)
    → faults_named (Some fault) ≡ fault_by (mistake_by read acted s) (bytes_of s.log + sent_bytes acted.out.sent) → Settles read acted s s text text (faults_named (Some fault))
settled_fault read acted s text (faults_of.Mistaken m) is = (refl, refl, ap (λ (n : ℕ). fault_by (mistake_by read acted s) n) (posted_bytes acted s) ∙ sym is)
settled_fault read acted s text faults_of.TooLarge is = (refl, refl, ap (λ (n : ℕ). fault_by (mistake_by read acted s) n) (posted_bytes acted s) ∙ sym is)

pub settled_none : {D M : Type 0} (read : Reading) (acted : Acted) (old new : Stage D M) (text_old text_new : List ℕ)
    → faults_named None ≡ fault_by (mistake_by read acted old) (bytes_of old.log + sent_bytes acted.out.sent) → IsPutDown acted old new text_old text_new
    → Settles read acted old new text_old text_new None
settled_none read acted old new text_old text_new none put = (
  put,
  ap (λ (l : List Posted). fault_by (mistake_by read acted old) (bytes_of l)) put.log
      ∙ (ap (λ (n : ℕ). fault_by (mistake_by read acted old) n) (posted_bytes acted old) ∙ sym none),
)

pub all_fault : {D M : Type 0} (ticked : Ticked) (s : Stage D M) (text : List ℕ) (counted : ℕ) → counted ≡ min (all_sent_bytes ticked) (2 ^ 64 - 1) → most_bytes < bytes_of s.log + counted
    → SettlesAll ticked s s text text (faults_named (Some faults_of.TooLarge))
all_fault ticked s text counted is more =
    (refl, refl, ap (λ (n : ℕ). fault_by None n) (all_posted_bytes ticked s) ∙ size_true (bytes_of s.log + all_sent_bytes ticked) (counted_over (bytes_of s.log) (all_sent_bytes ticked) counted is more))

pub all_few : (before sent counted : ℕ) → counted ≡ min sent (2 ^ 64 - 1) → before + counted ≤ most_bytes → before + sent ≤ most_bytes
all_few before sent counted is few = counted_within before sent counted is few

pub all_none : {D M : Type 0} (ticked : Ticked) (old new : Stage D M) (text_old text_new : List ℕ) → bytes_of old.log + all_sent_bytes ticked ≤ most_bytes
    → AreAllPutDown ticked old new text_old text_new → SettlesAll ticked old new text_old text_new None
all_none ticked old new text_old text_new few put =
    (put, ap (λ (l : List Posted). fault_by None (bytes_of l)) put.log ∙ (ap (λ (n : ℕ). fault_by None n) (all_posted_bytes ticked old) ∙ size_none (bytes_of old.log + all_sent_bytes ticked) few))

-- ---- lines behind lines

pub lines_behind : (text mid new : List ℕ) (first then_ : List Line) → mid ≡ text ++ lines_text first → new ≡ mid ++ lines_text then_ → new ≡ text ++ lines_text (first ++ then_)
lines_behind text mid new first then_ p q =
    q ∙ (ap (λ (bytes : List ℕ). bytes ++ lines_text then_) p ∙ (append_assoc text (lines_text first) (lines_text then_)
    ∙ ap (λ (bytes : List ℕ). text ++ bytes) (sym (flat_map-append line_text first then_))))

within_some : (n : ℕ) (log : List Posted) → IsSome (slice_get log n) → suc n ≤ length log
within_some n [] there = absurd cc
within_some zero (r ∷ log) there = omega arith
within_some (suc n) (r ∷ log) there = omega (arith, within_some n log there)

-- a record that is there has a number that is counted
pub within_log : (number : ℕ) (log : List Posted) → IsSome (posted_at number log) → number ≤ length log
within_log zero log there = omega arith
within_log (suc n) log there = within_some n log there

-- ---- what is sent

pub sent_keeps : {D M E : Type 0} (acted : Acted) (s : Stage D M) (log : List Posted) (r : Result (Unit {0}) E) → bytes_of s.log + sent_bytes acted.out.sent ≤ most_bytes
    → OnOk r (log ≡ s.log ++ posted_by acted s) → OnErr r (log ≡ s.log) → SettleKeeps s (record s { log = log })
sent_keeps acted s log (Ok done) few ok err = record {
  source = refl;
  dest = refl;
  client = refl;
  draws = refl;
  clock = refl;
  flowed = refl;
  stops = refl;
  log = (posted_by acted s, ok);
  bytes = omega (arith, ap bytes_of ok, posted_bytes acted s, few);
  choices = omega arith;
}
sent_keeps acted s log (Err e) few ok err = record {
  source = refl;
  dest = refl;
  client = refl;
  draws = refl;
  clock = refl;
  flowed = refl;
  stops = refl;
  log = ([], err ∙ sym (append-nil s.log));
  bytes = omega (arith, ap bytes_of err, few);
  choices = omega arith;
}

-- what is kept is kept further
pub kept_on : {D M : Type 0} (a b c : Stage D M) → SettleKeeps a b → SettleKeeps b c → length c.choices.items ≤ length a.choices.items + 1 → SettleKeeps a c
kept_on a b c p q choices = record {
  source = q.source ∙ p.source;
  dest = q.dest ∙ p.dest;
  client = q.client ∙ p.client;
  draws = q.draws ∙ p.draws;
  clock = q.clock ∙ p.clock;
  flowed = q.flowed ∙ p.flowed;
  stops = q.stops ∙ p.stops;
  log = grows_more a.log b.log c.log p.log q.log;
  bytes = q.bytes;
  choices = choices;
}

-- ---- three texts

pub three_lines : {E : Type 0} (r : Result (Unit {0}) E) (text t1 t2 t3 : List ℕ) (l1 l2 l3 : List Line) → t1 ≡ text ++ lines_text l1 → t2 ≡ t1 ++ lines_text l2
    → OnOk r (t3 ≡ t2 ++ lines_text l3) → OnOk r (t3 ≡ text ++ lines_text (l1 ++ (l2 ++ l3)))
three_lines (Ok done) text t1 t2 t3 l1 l2 l3 p q s = lines_behind text t1 t3 l1 (l2 ++ l3) p (lines_behind t1 t2 t3 l2 l3 q s)
three_lines (Err e) text t1 t2 t3 l1 l2 l3 p q s = tt

-- the same list of a slice
pub line_as : {A : Type 0} (f : A → List Line) (text t : List ℕ) (a b : A) → a ≡ b → t ≡ text ++ lines_text (f a) → t ≡ text ++ lines_text (f b)
line_as f text t a b same e = e ∙ ap (λ x. text ++ lines_text (f x)) same

pub line_on : {A E : Type 0} (r : Result (Unit {0}) E) (f : A → List Line) (text t : List ℕ) (a b : A) → a ≡ b → OnOk r (t ≡ text ++ lines_text (f a)) → OnOk r (t ≡ text ++ lines_text (f b))
line_on (Ok done) f text t a b same e = line_as f text t a b same e
line_on (Err e) f text t a b same p = tt

-- ---- the records of all ends, told one end behind the other

length_posted : (from : End) (step opening : ℕ) (took : Option (List ℕ)) (outs : List Outgoing) → length (all_posted from step opening took outs) ≡ length outs
length_posted from step opening took [] = refl
length_posted from step opening took (out ∷ outs) = ap suc (length_posted from step opening took outs)

pub told_number : {D M : Type 0} (acted : Acted) (s : Stage D M) (log : List Posted) → log ≡ s.log ++ posted_by acted s → length log ≡ length s.log + length acted.out.sent
told_number acted s log is =
    ap (λ (l : List Posted). length l) is ∙ (length-append s.log (posted_by acted s)
    ∙ ap (λ (n : ℕ). length s.log + n) (length_posted acted.end (length s.choices.items) acted.opening (bytes_at s.log acted.took) acted.out.sent))

-- an end that took nothing
abbrev pub rested : End → (opening : ℕ) → Outbox → Acted
rested end opening out = record { end = end; opening = opening; speaker = speaker_of end; took = 0; out = out }

pub all_told : {E : Type 0} (r : Result (Unit {0}) E) (ticked : Ticked) (n n2 n3 : ℕ) (a1 a2 a3 : Acted) (text t1 t2 t3 : List ℕ)
    → a1 ≡ rested ends.Source ticked.source_opening ticked.source → a2 ≡ rested ends.Dest ticked.dest_opening ticked.dest → a3 ≡ rested ends.Client 0 ticked.client
    → t1 ≡ text ++ lines_text (sent_lines a1.end (n + 1) a1.out.sent) → t2 ≡ t1 ++ lines_text (sent_lines a2.end (n2 + 1) a2.out.sent)
    → OnOk r (t3 ≡ t2 ++ lines_text (sent_lines a3.end (n3 + 1) a3.out.sent)) → n2 ≡ n + length a1.out.sent → n3 ≡ n2 + length a2.out.sent
    → OnOk r (t3 ≡ text ++ lines_text (records_of n (ticked_parts ticked)))
all_told r ticked n n2 n3 a1 a2 a3 text t1 t2 t3 p q s e1 e2 e3 k2 k3 =
    let l1 : length a1.out.sent ≡ length ticked.source.sent = ap (λ (a : Acted). length a.out.sent) p in
    let l2 : length a2.out.sent ≡ length ticked.dest.sent = ap (λ (a : Acted). length a.out.sent) q in
    let m2 : n2 + 1 ≡ n + 1 + length ticked.source.sent = omega (arith, k2, l1) in
    let m3 : n3 + 1 ≡ n + 1 + length ticked.source.sent + length ticked.dest.sent = omega (arith, k2, k3, l1, l2) in
    three_lines r text t1 t2 t3 (sent_lines ends.Source (n + 1) ticked.source.sent) (sent_lines ends.Dest (n + 1 + length ticked.source.sent) ticked.dest.sent)
    (sent_lines ends.Client (n + 1 + length ticked.source.sent + length ticked.dest.sent) ticked.client.sent)
    (line_as (λ (a : Acted). sent_lines a.end (n + 1) a.out.sent) text t1 a1 (rested ends.Source ticked.source_opening ticked.source) p e1)
    (line_as (λ (k : ℕ). sent_lines ends.Dest k ticked.dest.sent) t1 t2 (n2 + 1) (n + 1 + length ticked.source.sent) m2
    (line_as (λ (a : Acted). sent_lines a.end (n2 + 1) a.out.sent) t1 t2 a2 (rested ends.Dest ticked.dest_opening ticked.dest) q e2))
    (line_on r (λ (k : ℕ). sent_lines ends.Client k ticked.client.sent) t2 t3 (n3 + 1) (n + 1 + length ticked.source.sent + length ticked.dest.sent) m3
    (line_on r (λ (a : Acted). sent_lines a.end (n3 + 1) a.out.sent) t2 t3 a3 (rested ends.Client 0 ticked.client) s e3))

pub all_down : {D M E : Type 0} (r : Result (Unit {0}) E) (ticked : Ticked) (old new : Stage D M) (text t1 t2 : List ℕ) → t1 ≡ text ++ lines_text (notes_of (ticked_parts ticked))
    → OnOk r (new.log ≡ old.log ++ all_posted_by ticked old) → OnOk r (t2 ≡ t1 ++ lines_text (records_of (length old.log) (ticked_parts ticked)))
    → OnOk r (new.choices.items ≡ old.choices.items ++ choice_by (any_failed ticked.source.used || any_failed ticked.dest.used) ∷ [])
    → OnOk r (AreAllPutDown ticked old new text t2)
all_down (Ok done) ticked old new text t1 t2 notes log lines choices = record {
  log = log;
  choices = choices;
  lines = lines_behind text t1 t2 (notes_of (ticked_parts ticked)) (records_of (length old.log) (ticked_parts ticked)) notes lines;
}
all_down (Err e) ticked old new text t1 t2 notes log lines choices = tt
