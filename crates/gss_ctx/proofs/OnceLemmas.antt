-- No context admits a sequence number twice.
use Rattle.std.specs.Prelude.{◌≡◌, ◌≢◌, ℕ, ◌+◌, ◌≤◌, ◌<◌, ◌-◌, ◌^◌, ◌==◌, ◌||◌, ◌&&◌, Bool, true, false, not, nat_lt, nat_le, max, if◌then◌else◌, List, [], ◌∷◌, map, find, Option, None, Some, refl}
use Rattle.std.specs.List.{AllByRecursion}
use Rattle.std.proofs.Common.{sym, ◌∙◌, ap, inl, inr, arith}
use Rattle.std.proofs.lemmas.Bool.{true≢false, ltb-true, leb-true, lt-ltb, le-leb, eq-eqb, or_cases, or_left, or_right, and_parts, cases_lt}
use Rattle.rpc_msg.specs.declared.call.CallHead.{CallHead}
use Rattle.rpc_msg.specs.declared.gss_cred.GssCred.{GssCred}
use Rattle.gss_ctx.specs.declared.context.Entry.{Entry}
use Rattle.gss_ctx.specs.declared.admit.Admit.{Admit}
use Rattle.gss_ctx.specs.declared.admit.Admit.TheVariants.{Admitted, Dropped, Denied, BadBody}
use Rattle.gss_ctx.specs.declared.admit.Verdict.{Verdict}
use Rattle.gss_ctx.specs.declared.admit.Why.TheVariants.{Repeat, Old}
use Rattle.gss_ctx.specs.Window.{Seen, is_below, has, window_of, noted}
use Rattle.gss_ctx.specs.Table.{ContextTable, IsNumbered, live_entry, is_live, is_kept, is_number, noted_on, used_on, new_entry}
use Rattle.gss_ctx.specs.Seals.{Mic, cred_of, header_of, is_code}
use Rattle.gss_ctx.specs.Admission.{first_failing, is_served, may_create, number_rows, service_rows, unseen, body_answer, unless_denied, past_number, on_entry, on_cred, verdict_of, with_seen, with_use, parent_of, number_of}
use Rattle.gss_ctx.specs.Once.{Event, Admits, Makes, Ends, after, after_all, admitted_by, admits, is_shut, IsShut}
use Rattle.gss_ctx.proofs.WindowLemmas.{has_window}
use Rattle.gss_ctx.proofs.TableLemmas.{all_map, all_filter, all_more, all_weaker, all_found, either}

-- ---- a number that is shut stays shut, whatever is seen after it

shut_in : (h seq : ℕ) (test : ℕ → Bool) → test seq ≡ true → seq ≤ h → (nat_lt (seq + 127) h || has (window_of h test) seq) ≡ true
shut_in h seq test passes le =
    elim (cases_lt (seq + 127) h) [
      | inl far ↦ or_left (nat_lt (seq + 127) h) (has (window_of h test) seq) (lt-ltb (seq + 127) h far)
      | inr near ↦
          let a : nat_le seq h ≡ true = le-leb seq h le in
          let b : nat_lt (h - seq) 128 ≡ true = lt-ltb (h - seq) 128 (omega arith) in
          let there : has (window_of h test) seq ≡ true = has_window h test seq ∙ rw (a, b, passes) refl in
          or_right (nat_lt (seq + 127) h) (has (window_of h test) seq) there
    ]

shut_step : (k seq : ℕ) (seen : Seen) → is_shut seq seen ≡ true → is_shut seq (noted k seen) ≡ true
unfolding noted
shut_step k seq seen h =
    elim (or_cases (is_below seen seq) (has seen seq) h) [
      | inl below ↦
          let far : seq + 127 < seen.greatest = ltb-true (seq + 127) seen.greatest below in
          or_left (nat_lt (seq + 127) (max seen.greatest k)) _ (lt-ltb (seq + 127) (max seen.greatest k) (omega arith))
      | inr there ↦
          let le : seq ≤ seen.greatest = leb-true seq seen.greatest (and_parts (nat_le seq seen.greatest) _ there).0 in
          shut_in (max seen.greatest k) seq (λ m. (m == k) || has seen m) (or_right (seq == k) (has seen seq) there) (omega arith)
    ]

shut_now : (seq : ℕ) (seen : Seen) → is_shut seq (noted seq seen) ≡ true
unfolding noted
shut_now seq seen =
    shut_in (max seen.greatest seq) seq (λ m. (m == seq) || has seen m) (or_left (seq == seq) (has seen seq) (eq-eqb seq seq refl)) (omega arith)

-- ---- what one call does to all contexts

abbrev pub Numbered : {P : Type 0} → ℕ → Entry P → Type 0
Numbered made e = e.number ≤ made

abbrev Shut : {P : Type 0} → ℕ → ℕ → Entry P → Type 0
Shut number seq e = e.number ≡ number → is_shut seq e.window ≡ true

pub numbered_noted : {P : Type 0} (made number seq : ℕ) (e : Entry P) → Numbered made e → Numbered made (noted_on number seq e)
numbered_noted made number seq e h = either (Numbered made) (e.number == number) e (record e { window = noted seq e.window }) h h

pub numbered_used : {P : Type 0} (made number : ℕ) (parent : Option ℕ) (now : ℕ) (e : Entry P) → Numbered made e → Numbered made (used_on number parent now e)
numbered_used made number parent now e h = either (Numbered made) ((e.number == number) || is_number parent e.number) e (record e { context = record e.context { used = now } }) h h

shut_noted : {P : Type 0} (n s number seq : ℕ) (e : Entry P) → Shut n s e → Shut n s (noted_on number seq e)
shut_noted n s number seq e h = either (Shut n s) (e.number == number) e (record e { window = noted seq e.window }) h (λ is. shut_step seq s e.window (h is))

shut_used : {P : Type 0} (n s number : ℕ) (parent : Option ℕ) (now : ℕ) (e : Entry P) → Shut n s e → Shut n s (used_on number parent now e)
shut_used n s number parent now e h = either (Shut n s) ((e.number == number) || is_number parent e.number) e (record e { context = record e.context { used = now } }) h h

-- the context that sees a number is shut to it
shut_at : {P : Type 0} (n s : ℕ) (e : Entry P) (b : Bool) → (e.number == n) ≡ b → Shut n s (if b then record e { window = noted s e.window } else e)
shut_at n s e true is = λ _. shut_now s e.window
shut_at n s e false is = λ same. absurd (true≢false (sym (eq-eqb e.number n same) ∙ is))

shut_first : {P : Type 0} (n s : ℕ) (entries : List (Entry P)) → AllByRecursion (Shut n s) (map (noted_on n s) entries)
shut_first n s [] = tt
shut_first n s (e ∷ entries) = (shut_at n s e (e.number == n) refl, shut_first n s entries)

pub used_all : {P : Type 0} (Q : Entry P → Type 0) → ((number : ℕ) (parent : Option ℕ) (now : ℕ) (e : Entry P) → Q e → Q (used_on number parent now e))
    → (now : ℕ) (answer : Admit) (entries : List (Entry P)) → AllByRecursion Q entries → AllByRecursion Q (with_use now answer entries)
used_all Q step now (Admitted number seq args) entries h = all_map Q Q _ (step number (parent_of number entries) now) entries h
used_all Q step now (Dropped why) entries h = h
used_all Q step now (Denied why) entries h = h
used_all Q step now (BadBody number seq) entries h = h

pub seen_all : {P : Type 0} (Q : Entry P → Type 0) → ((number seq : ℕ) (e : Entry P) → Q e → Q (noted_on number seq e))
    → (seen : Option (ℕ × ℕ)) (entries : List (Entry P)) → AllByRecursion Q entries → AllByRecursion Q (with_seen seen entries)
seen_all Q step None entries h = h
seen_all Q step (Some p) entries h = all_map Q Q _ (step p.0 p.1) entries h

pub numbered_kept : {P : Type 0} (mic : Mic) (event : Event P) (table : ContextTable P) → IsNumbered table → IsNumbered (after mic event table)
numbered_kept mic (Admits now head body) table h =
    let verdict = verdict_of mic now head body table in
    used_all (Numbered table.made) (numbered_used table.made) now verdict.answer _ (seen_all (Numbered table.made) (numbered_noted table.made) verdict.seen table.entries h)
numbered_kept mic (Makes now context) table h =
    all_more (Numbered (table.made + 1)) _ (new_entry (table.made + 1) context)
    (all_filter (Numbered (table.made + 1)) (is_live now) table.entries (all_weaker (Numbered table.made) (Numbered (table.made + 1)) (λ e le. omega arith) table.entries h))
    (omega arith)
numbered_kept mic (Ends number) table h = all_filter (Numbered table.made) (is_kept number) table.entries h

made_grows : {P : Type 0} (mic : Mic) (event : Event P) (table : ContextTable P) → table.made ≤ (after mic event table).made
made_grows mic (Admits now head body) table = omega arith
made_grows mic (Makes now context) table = omega arith
made_grows mic (Ends number) table = omega arith

shut_kept : {P : Type 0} (mic : Mic) (n s : ℕ) (event : Event P) (table : ContextTable P) → n ≤ table.made → IsShut n s table → IsShut n s (after mic event table)
shut_kept mic n s (Admits now head body) table le h =
    let verdict = verdict_of mic now head body table in
    used_all (Shut n s) (shut_used n s) now verdict.answer _ (seen_all (Shut n s) (shut_noted n s) verdict.seen table.entries h)
shut_kept mic n s (Makes now context) table le h =
    all_more (Shut n s) _ (new_entry (table.made + 1) context) (all_filter (Shut n s) (is_live now) table.entries h) (λ is. absurd (omega arith))
shut_kept mic n s (Ends number) table le h = all_filter (Shut n s) (is_kept number) table.entries h

shut_after_all : {P : Type 0} (mic : Mic) (n s : ℕ) (events : List (Event P)) (table : ContextTable P) → n ≤ table.made → IsShut n s table → IsShut n s (after_all mic events table)
shut_after_all mic n s [] table le h = h
shut_after_all mic n s (event ∷ events) table le h =
    let grows = made_grows mic event table in
    shut_after_all mic n s events (after mic event table) (omega arith) (shut_kept mic n s event table le h)

-- ---- what an admission shows

-- the context is there, was open to the number, and the number is seen with the answer
record Shown {P : Type 0} (entries : List (Entry P)) (verdict : Verdict) (p : ℕ × ℕ) : Type 0 where
  entry : Entry P
  test : Entry P → Bool
  found : find test entries ≡ Some entry
  is : p ≡ (entry.number, p.1)
  seen : verdict.seen ≡ Some p
  open_to : is_shut p.1 entry.window ≡ false

no_admission : {A : Type 0} (p : ℕ × ℕ) → None ≡ Some p → A
no_admission p h = let wrong : ⊥ = cc in absurd wrong

not_true : (b : Bool) (answer : Option Admit) (denial : Admit) → (if not b then answer else Some denial) ≡ None → (b ≡ false) × (answer ≡ None)
not_true true answer denial h = let wrong : ⊥ = cc in absurd wrong
not_true false answer denial h = (refl, h)

is_true : (b : Bool) (answer : Option Admit) (denial : Admit) → (if b then answer else Some denial) ≡ None → answer ≡ None
is_true true answer denial h = h
is_true false answer denial h = let wrong : ⊥ = cc in absurd wrong

or_false : (a b : Bool) → a ≡ false → b ≡ false → (a || b) ≡ false
or_false a b x y = rw (x, y) refl

rows_pass : {P : Type 0} (mic : Mic) (head : CallHead) (cred : GssCred) (entry : Entry P) → first_failing (number_rows mic head cred entry) ≡ None
    → is_shut cred.seq_num entry.window ≡ false
rows_pass mic head cred entry h =
    let a = is_true (nat_lt cred.seq_num (2 ^ 31)) _ _ h in
    let b = is_true (is_code head.verf (mic entry.context.key 0 (header_of 0 head))) _ _ a in
    let c = not_true (is_below entry.window cred.seq_num) _ _ b in
    let d = not_true (has entry.window cred.seq_num) _ _ c.1 in
    or_false (is_below entry.window cred.seq_num) (has entry.window cred.seq_num) c.0 d.0

-- the rows deny and drop: they admit nothing, and answer nothing under a context
abbrev pub AdmitsNone : Option Admit → Type 0
AdmitsNone None = Unit {0}
AdmitsNone (Some answer) = (admitted_by answer ≡ None) × (number_of answer ≡ None)

rows_deny : (a b c d : Bool) → AdmitsNone (if a then (if b then (if c then (if d then None else Some (Dropped Repeat)) else Some (Dropped Old)) else Some (Denied 13)) else Some (Denied 14))
rows_deny true true true true = tt
rows_deny true true true false = (refl, refl)
rows_deny true true false d = (refl, refl)
rows_deny true false c d = (refl, refl)
rows_deny false b c d = (refl, refl)

services_deny : (a b : Bool) → AdmitsNone (if a then (if b then None else Some (Denied 1)) else Some (Denied 5))
services_deny true true = tt
services_deny true false = (refl, refl)
services_deny false b = (refl, refl)

pub rows_none : {P : Type 0} (mic : Mic) (head : CallHead) (cred : GssCred) (entry : Entry P) → AdmitsNone (first_failing (number_rows mic head cred entry))
rows_none mic head cred entry =
    rows_deny (nat_lt cred.seq_num (2 ^ 31)) (is_code head.verf (mic entry.context.key 0 (header_of 0 head))) (not (is_below entry.window cred.seq_num)) (not (has entry.window cred.seq_num))

pub service_none : {P : Type 0} (cred : GssCred) (entry : Entry P) → AdmitsNone (first_failing (service_rows cred entry))
service_none cred entry = services_deny (not (cred.service == 1)) (not (cred.service == 3) && may_create cred entry)

body_is : (number seq : ℕ) (args : Option (List ℕ)) (p : ℕ × ℕ) → admitted_by (body_answer number seq args) ≡ Some p → p ≡ (number, seq)
body_is number seq None p h = no_admission p h
body_is number seq (Some args) p h = cc

answer_is : (number seq : ℕ) (denial : Option Admit) (args : Option (List ℕ)) (p : ℕ × ℕ) → AdmitsNone denial
    → admitted_by (unless_denied denial (body_answer number seq args)) ≡ Some p → p ≡ (number, seq)
answer_is number seq None args p none h = body_is number seq args p h
answer_is number seq (Some denial) args p none h = no_admission p (sym none.0 ∙ h)

shown_past : {P : Type 0} (mic : Mic) (head : CallHead) (cred : GssCred) (body : List ℕ) (entries : List (Entry P)) (test : Entry P → Bool) (entry : Entry P) (p : ℕ × ℕ)
    → find test entries ≡ Some entry → (fault : Option Admit) → first_failing (number_rows mic head cred entry) ≡ fault → AdmitsNone fault
    → admitted_by (past_number mic cred body entry fault).answer ≡ Some p → Shown entries (past_number mic cred body entry fault) p
shown_past mic head cred body entries test entry p found (Some answer) is none h = no_admission p (sym none.0 ∙ h)
shown_past mic head cred body entries test entry p found None is none h =
    let same : p ≡ (entry.number, cred.seq_num) = answer_is entry.number cred.seq_num _ _ p (service_none cred entry) h in
    let seq : p.1 ≡ cred.seq_num = ap (λ (q : ℕ × ℕ). q.1) same in
    record {
      entry = entry;
      test = test;
      found = found;
      is = same ∙ ap (λ (m : ℕ). (entry.number, m)) (sym seq);
      seen = ap (λ (q : ℕ × ℕ). Some q) (sym same);
      open_to = rw seq (rows_pass mic head cred entry is);
    }

shown_entry : {P : Type 0} (mic : Mic) (head : CallHead) (cred : GssCred) (body : List ℕ) (entries : List (Entry P)) (test : Entry P → Bool) (p : ℕ × ℕ)
    → (found : Option (Entry P)) → find test entries ≡ found → admitted_by (on_entry mic head body cred found).answer ≡ Some p → Shown entries (on_entry mic head body cred found) p
shown_entry mic head cred body entries test p None is h = no_admission p h
shown_entry mic head cred body entries test p (Some entry) is h =
    shown_past mic head cred body entries test entry p is (first_failing (number_rows mic head cred entry)) refl (rows_none mic head cred entry) h

shown_served : {P : Type 0} (entries : List (Entry P)) (b : Bool) (verdict : Verdict) (p : ℕ × ℕ) → (admitted_by verdict.answer ≡ Some p → Shown entries verdict p)
    → admitted_by (if b then verdict else unseen (Denied 1)).answer ≡ Some p → Shown entries (if b then verdict else unseen (Denied 1)) p
shown_served entries true verdict p step h = step h
shown_served entries false verdict p step h = no_admission p h

shown_cred : {P : Type 0} (mic : Mic) (now : ℕ) (head : CallHead) (body : List ℕ) (table : ContextTable P) (cred : Option GssCred) (p : ℕ × ℕ)
    → admitted_by (on_cred mic now head body table cred).answer ≡ Some p → Shown table.entries (on_cred mic now head body table cred) p
shown_cred mic now head body table None p h = no_admission p h
shown_cred mic now head body table (Some cred) p h =
    shown_served table.entries (is_served cred) (on_entry mic head body cred (live_entry table.boot now cred.handle table.entries)) p
    (shown_entry mic head cred body table.entries _ p (live_entry table.boot now cred.handle table.entries) refl) h

shown : {P : Type 0} (mic : Mic) (now : ℕ) (head : CallHead) (body : List ℕ) (table : ContextTable P) (p : ℕ × ℕ)
    → admitted_by (verdict_of mic now head body table).answer ≡ Some p → Shown table.entries (verdict_of mic now head body table) p
unfolding verdict_of
shown mic now head body table p h = shown_cred mic now head body table (cred_of head) p h

-- ---- the law

shut_seen : {P : Type 0} (n s : ℕ) (seen : Option (ℕ × ℕ)) (entries : List (Entry P)) → seen ≡ Some (n, s) → AllByRecursion (Shut n s) (with_seen seen entries)
shut_seen n s seen entries is = rw is (shut_first n s entries)

pub shut_once : {P : Type 0} (mic : Mic) (first : Event P) (between : List (Event P)) (table : ContextTable P) (n s : ℕ) → IsNumbered table
    → admits mic first table ≡ Some (n, s) → IsShut n s (after_all mic between (after mic first table))
shut_once mic (Makes now context) between table n s numbered h = no_admission (n, s) h
shut_once mic (Ends number) between table n s numbered h = no_admission (n, s) h
shut_once {P} mic (Admits now head body) between table n s numbered h =
    let by = shown mic now head body table (n, s) h in
    let verdict = verdict_of mic now head body table in
    let number : n ≡ by.entry.number = ap (λ (q : ℕ × ℕ). q.0) by.is in
    let le : by.entry.number ≤ table.made = all_found (Numbered table.made) by.test table.entries by.entry numbered by.found in
    shut_after_all mic n s between (after {P = P} mic (Admits now head body) table) (omega arith)
    (used_all (Shut n s) (shut_used n s) now verdict.answer _ (shut_seen n s verdict.seen table.entries by.seen))

not_shut : {P : Type 0} (mic : Mic) (event : Event P) (table : ContextTable P) (n s : ℕ) → IsShut n s table → admits mic event table ≢ Some (n, s)
not_shut mic (Makes now context) table n s h is = no_admission (n, s) is
not_shut mic (Ends number) table n s h is = no_admission (n, s) is
not_shut mic (Admits now head body) table n s h is =
    let by = shown mic now head body table (n, s) is in
    let number : n ≡ by.entry.number = ap (λ (q : ℕ × ℕ). q.0) by.is in
    let shut = all_found (Shut n s) by.test table.entries by.entry h by.found (sym number) in
    true≢false (sym shut ∙ by.open_to)

pub admitted_never_twice : {P : Type 0} (mic : Mic) (first last : Event P) (between : List (Event P)) (table : ContextTable P) (n s : ℕ) → IsNumbered table
    → admits mic first table ≡ Some (n, s) → admits mic last (after_all mic between (after mic first table)) ≢ Some (n, s)
admitted_never_twice mic first last between table n s numbered h =
    not_shut mic last (after_all mic between (after mic first table)) n s (shut_once mic first between table n s numbered h)
