-- Principals that were read, before those of the lines that are left.
use Rattle.std.specs.Prelude.{◌≡◌, ℕ, nat_le, not, true, false, List, [], ◌∷◌, ◌++◌, length, bytes_eq, Option, None, Some, option_map, option_and_then, refl}
use Rattle.std.proofs.Common.{Bor, sym, ap, ◌∙◌, inl, inr}
use Rattle.std.proofs.lemmas.Bool.{and_parts, and_from, and_left, and_right, or_cases, or_parts, or_from, or_left, or_right, not-true, not_from_true, not_from_false, false_from_ne_true}
use Rattle.std.proofs.lemmas.List.{append-nil, append_assoc}
use Rattle.std.proofs.lemmas.Iterator.{YieldsList}
use Rattle.std.proofs.lemmas.Slice.Eq.{bytes_eq-Decides}
use Rattle.std.proofs.lemmas.Iterator.Splits.{YieldsList-from_lines}
use Rattle.std.specs.Str.Iter.{lines_steps, lines_rest}
use Rattle.std.specs.Str.Lines.{lines}
use Rattle.std.specs.declared.str.Lines.{Lines}
use Rattle.gss_mech.specs.Realm.{Keys}
use Rattle.realm_file.specs.RealmText.{principal_of, principals_of, has_name, names_differ, as_realm}

-- the realm of these principals and of those of these lines
abbrev pub gathered : Keys → List (List ℕ) → Option Keys
gathered taken left = option_and_then (λ others. as_realm (taken ++ others)) (principals_of left)

-- ---- names that differ

bytes_are_same : (xs ys : List ℕ) → bytes_eq xs ys ≡ true → bytes_eq ys xs ≡ true
bytes_are_same xs ys h = (bytes_eq-Decides ys xs).1 (sym ((bytes_eq-Decides xs ys).0 h))

found_among : (taken : Keys) (entry : List ℕ × List ℕ) (others : Keys) (name : List ℕ) → bytes_eq entry.0 name ≡ true → has_name (taken ++ (entry ∷ others)) name ≡ true
found_among [] entry others name h = or_left _ (has_name others name) h
found_among (first ∷ taken) entry others name h = or_right (bytes_eq first.0 name) _ (found_among taken entry others name h)

twice_differs_not : (taken : Keys) (entry : List ℕ × List ℕ) (others : Keys) → has_name taken entry.0 ≡ true → names_differ (taken ++ (entry ∷ others)) ≡ false
twice_differs_not [] entry others h = cc h
twice_differs_not (first ∷ taken) entry others h =
    elim (or_cases (bytes_eq first.0 entry.0) (has_name taken entry.0) h) [
      | inl here ↦ and_left _ (names_differ (taken ++ (entry ∷ others))) (not_from_true _ (found_among taken entry others first.0 (bytes_are_same first.0 entry.0 here)))
      | inr later ↦ and_right (not (has_name (taken ++ (entry ∷ others)) first.0)) _ (twice_differs_not taken entry others later)
    ]

not_among : (taken : Keys) (entry : List ℕ × List ℕ) (name : List ℕ) → has_name taken name ≡ false → bytes_eq entry.0 name ≡ false → has_name (taken ++ (entry ∷ [])) name ≡ false
not_among [] entry name h other = or_from _ false other refl
not_among (first ∷ taken) entry name h other =
    let parts = or_parts (bytes_eq first.0 name) (has_name taken name) h in
    or_from _ _ parts.0 (not_among taken entry name parts.1 other)

pub differ_still : (taken : Keys) (entry : List ℕ × List ℕ) → names_differ taken ≡ true → has_name taken entry.0 ≡ false → names_differ (taken ++ (entry ∷ [])) ≡ true
differ_still [] entry h new = refl
differ_still (first ∷ taken) entry h new =
    let parts = and_parts (not (has_name taken first.0)) (names_differ taken) h in
    let other = or_parts (bytes_eq first.0 entry.0) (has_name taken entry.0) new in
    let another = false_from_ne_true (bytes_eq entry.0 first.0) (λ same. cc (bytes_are_same entry.0 first.0 same, other.0)) in
    and_from _ _ (not_from_false _ (not_among taken entry first.0 (not-true _ parts.0) another)) (differ_still taken entry parts.1 other.1)

-- ---- the next line

pub none_by_line : (taken : Keys) (line : List ℕ) (left : List (List ℕ)) → principal_of line ≡ None → gathered taken (line ∷ left) ≡ None
none_by_line taken line left h = rw h refl

refused_all : (taken : Keys) (entry : List ℕ × List ℕ) → has_name taken entry.0 ≡ true → (others : Option Keys)
    → option_and_then (λ rest. as_realm (taken ++ rest)) (option_map (λ rest. entry ∷ rest) others) ≡ None
refused_all taken entry h None = refl
refused_all taken entry h (Some others) = rw (and_right (nat_le 1 (length (taken ++ (entry ∷ others)))) _ (twice_differs_not taken entry others h)) refl

pub none_by_name : (taken : Keys) (line : List ℕ) (left : List (List ℕ)) (entry : List ℕ × List ℕ) → principal_of line ≡ Some entry → has_name taken entry.0 ≡ true
    → gathered taken (line ∷ left) ≡ None
none_by_name taken line left entry is h = rw is (refused_all taken entry h (principals_of left))

taken_all : (taken : Keys) (entry : List ℕ × List ℕ) (others : Option Keys)
    → option_and_then (λ rest. as_realm (taken ++ rest)) (option_map (λ rest. entry ∷ rest) others) ≡ option_and_then (λ rest. as_realm ((taken ++ (entry ∷ [])) ++ rest)) others
taken_all taken entry None = refl
taken_all taken entry (Some others) = ap as_realm (sym (append_assoc taken (entry ∷ []) others))

pub gathered_line : (taken : Keys) (line : List ℕ) (left : List (List ℕ)) (entry : List ℕ × List ℕ) → principal_of line ≡ Some entry
    → gathered taken (line ∷ left) ≡ gathered (taken ++ (entry ∷ [])) left
gathered_line taken line left entry is = rw is (taken_all taken entry (principals_of left))

-- ---- no line is left

pub gathered_end : (taken : Keys) → gathered taken [] ≡ as_realm taken
gathered_end taken = ap as_realm (append-nil taken)

-- ---- the lines that come

-- the line that came is the first of those that were left
pub came : (s t : _) (left : List (List ℕ)) (x : Bor (List ℕ)) → YieldsList lines_steps (λ x. x.now) s left → lines_steps s (Some x) t
    → (rest : List (List ℕ)) × (left ≡ x.now ∷ rest) × YieldsList lines_steps (λ x. x.now) t rest
came s t [] x yields step = absurd (yields.runs x t step)
came s t (line ∷ rest) x yields step = let next = yields.runs.1 x t step in (rest, ap (λ first. first ∷ rest) (sym next.0), record { runs = next.1 })

-- where none came, none was left
pub none_left : (s t : _) (left : List (List ℕ)) → YieldsList lines_steps (λ x. x.now) s left → lines_steps s None t → left ≡ []
none_left s t [] yields step = refl
none_left s t (line ∷ rest) yields step = absurd (yields.runs.0 t step)

-- lines are left whose principals, behind those that were read, are those of the text
pub record Reads (s : Lines) (taken : Keys) (text : List ℕ) : Type 0 where
  pub left : List (List ℕ)
  pub yields : YieldsList lines_steps (λ x. x.now) s left
  pub same : gathered taken left ≡ gathered [] (lines text)

pub reads_first : (s : Lines) (text : List ℕ) → lines_rest s ≡ text → Reads s [] text
reads_first s text h = record { left = lines text; yields = YieldsList-from_lines text h; same = refl }

pub reads_line : (s t : Lines) (taken : Keys) (text : List ℕ) (x : Bor (List ℕ)) (entry : List ℕ × List ℕ) → Reads s taken text
    → lines_steps s (Some x) t → principal_of x.now ≡ Some entry → Reads t (taken ++ (entry ∷ [])) text
reads_line s t taken text x entry r step is =
    let next = came s t r.left x r.yields step in record {
      left = next.0;
      yields = next.2;
      same = sym (ap (gathered taken) next.1 ∙ gathered_line taken x.now next.0 entry is) ∙ r.same;
    }

pub reads_none : (s t : Lines) (taken : Keys) (text : List ℕ) (x : Bor (List ℕ)) → Reads s taken text
    → lines_steps s (Some x) t → principal_of x.now ≡ None → gathered [] (lines text) ≡ None
reads_none s t taken text x r step is =
    let next = came s t r.left x r.yields step in
    sym r.same ∙ ap (gathered taken) next.1 ∙ none_by_line taken x.now next.0 is

pub reads_twice : (s t : Lines) (taken : Keys) (text : List ℕ) (x : Bor (List ℕ)) (entry : List ℕ × List ℕ) → Reads s taken text
    → lines_steps s (Some x) t → principal_of x.now ≡ Some entry → has_name taken entry.0 ≡ true → gathered [] (lines text) ≡ None
reads_twice s t taken text x entry r step is twice =
    let next = came s t r.left x r.yields step in
    sym r.same ∙ ap (gathered taken) next.1 ∙ none_by_name taken x.now next.0 entry is twice

pub reads_end : (s t : Lines) (taken : Keys) (text : List ℕ) → Reads s taken text → lines_steps s None t → gathered [] (lines text) ≡ as_realm taken
reads_end s t taken text r step = sym r.same ∙ ap (gathered taken) (none_left s t r.left r.yields step) ∙ gathered_end taken
