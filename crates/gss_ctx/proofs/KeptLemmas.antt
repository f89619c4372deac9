-- What contexts keep true of themselves: their numbers are distinct, and none is above how many were given out.
use Rattle.std.specs.Prelude.{◌≡◌, ◌≢◌, ℕ, ◌+◌, ◌≤◌, ◌<◌, ◌==◌, ◌||◌, Bool, true, false, nat_le, if◌then◌else◌, List, [], ◌∷◌, ◌++◌, length, map, filter, find, count_by, Option, None, Some, refl}
use Rattle.std.specs.List.{AllByRecursion}
use Rattle.std.proofs.Common.{sym, ◌∙◌, ap, inl, inr, arith}
use Rattle.std.proofs.lemmas.Bool.{true≢false, eq-eqb, eqb-true, le-leb, cases_lt}
use Rattle.std.proofs.lemmas.List.Sums.{length-filter}
use Rattle.nfs_base.specs.declared.limits.TheConstants.{MOST_CONTEXTS}
use Rattle.gss_ctx.specs.declared.context.Entry.{Entry}
use Rattle.gss_ctx.specs.declared.admit.Admit.{Admit}
use Rattle.gss_ctx.specs.declared.admit.Admit.TheVariants.{Admitted, Dropped, Denied, BadBody}
use Rattle.gss_ctx.specs.Window.{noted}
use Rattle.gss_ctx.specs.Table.{AreDistinct, IsKept, is_live, is_number, noted_on, used_on}
use Rattle.gss_ctx.specs.Admission.{parent_of, with_seen, with_use}
use Rattle.gss_ctx.proofs.TableLemmas.{all_map, all_filter, all_more, all_weaker, all_found, either}
use Rattle.gss_ctx.proofs.OnceLemmas.{Numbered, numbered_noted, numbered_used, used_all, seen_all}

-- ---- distinct numbers

distinct_map : {P : Type 0} (f : Entry P → Entry P) → ((e : Entry P) → (f e).number ≡ e.number) → (entries : List (Entry P)) → AreDistinct entries → AreDistinct (map f entries)
distinct_map f same [] h = tt
distinct_map f same (e ∷ entries) h =
    (all_map (λ o. o.number ≢ e.number) (λ o. o.number ≢ (f e).number) f (λ o ne is. ne (sym (same o) ∙ is ∙ same e)) entries h.0, distinct_map f same entries h.1)

distinct_if : {P : Type 0} (b : Bool) (e : Entry P) (entries : List (Entry P)) → AllByRecursion (λ o. o.number ≢ e.number) entries → AreDistinct entries
    → AreDistinct (if b then e ∷ entries else entries)
distinct_if true e entries apart h = (apart, h)
distinct_if false e entries apart h = h

distinct_filter : {P : Type 0} (test : Entry P → Bool) (entries : List (Entry P)) → AreDistinct entries → AreDistinct (filter test entries)
distinct_filter test [] h = tt
distinct_filter test (e ∷ entries) h =
    distinct_if (test e) e (filter test entries) (all_filter (λ o. o.number ≢ e.number) test entries h.0) (distinct_filter test entries h.1)

distinct_more : {P : Type 0} (entries : List (Entry P)) (e : Entry P) → AreDistinct entries → AllByRecursion (λ o. o.number ≢ e.number) entries → AreDistinct (entries ++ e ∷ [])
distinct_more [] e h apart = (tt, tt)
distinct_more (x ∷ entries) e h apart =
    (all_more (λ o. o.number ≢ x.number) entries e h.0 (λ is. apart.0 (sym is)), distinct_more entries e h.1 apart.1)

-- the context that a test finds is the one of its number
at_first : {P : Type 0} (x e : Entry P) (rest : Option (Entry P)) (b : Bool) → (x.number == e.number) ≡ b → x.number ≢ e.number → rest ≡ Some e
    → (if b then Some x else rest) ≡ Some e
at_first x e rest true is ne found = absurd (ne (eqb-true x.number e.number is))
at_first x e rest false is ne found = found

found_if : {P : Type 0} (b : Bool) (x e : Entry P) (rest other : Option (Entry P)) → (rest ≡ Some e → (x.number ≢ e.number) × (other ≡ Some e))
    → (if b then Some x else rest) ≡ Some e → (if x.number == e.number then Some x else other) ≡ Some e
found_if true x e rest other step h =
    let same : x ≡ e = cc in
    rw (eq-eqb x.number e.number (ap (λ (y : Entry _). y.number) same)) h
found_if false x e rest other step h = at_first x e other (x.number == e.number) refl (step h).0 (step h).1

pub found_by_number : {P : Type 0} (test : Entry P → Bool) (entries : List (Entry P)) (e : Entry P) → AreDistinct entries → find test entries ≡ Some e
    → find (λ o. o.number == e.number) entries ≡ Some e
found_by_number test [] e h is = let wrong : ⊥ = cc in absurd wrong
found_by_number test (x ∷ entries) e h is =
    found_if (test x) x e (find test entries) (find (λ o. o.number == e.number) entries)
    (λ there. (λ same. all_found (λ o. o.number ≢ x.number) test entries e h.0 there (sym same), found_by_number test entries e h.1 there)) is

-- ---- what calls leave

noted_number : {P : Type 0} (number seq : ℕ) (e : Entry P) → (noted_on number seq e).number ≡ e.number
noted_number number seq e = either (λ o. o.number ≡ e.number) (e.number == number) e (record e { window = noted seq e.window }) refl refl

used_number : {P : Type 0} (number : ℕ) (parent : Option ℕ) (now : ℕ) (e : Entry P) → (used_on number parent now e).number ≡ e.number
used_number number parent now e =
    either (λ o. o.number ≡ e.number) ((e.number == number) || is_number parent e.number) e (record e { context = record e.context { used = now } }) refl refl

distinct_seen : {P : Type 0} (seen : Option (ℕ × ℕ)) (entries : List (Entry P)) → AreDistinct entries → AreDistinct (with_seen seen entries)
distinct_seen None entries h = h
distinct_seen (Some p) entries h = distinct_map (noted_on p.0 p.1) (noted_number p.0 p.1) entries h

distinct_used : {P : Type 0} (now : ℕ) (answer : Admit) (entries : List (Entry P)) → AreDistinct entries → AreDistinct (with_use now answer entries)
distinct_used now (Admitted number seq args) entries h = distinct_map _ (used_number number (parent_of number entries) now) entries h
distinct_used now (Dropped why) entries h = h
distinct_used now (Denied why) entries h = h
distinct_used now (BadBody number seq) entries h = h

pub kept_counted : {P : Type 0} (made now : ℕ) (answer : Admit) (seen : Option (ℕ × ℕ)) (entries after : List (Entry P)) (before capacity : ℕ) → IsKept made entries before
    → after ≡ with_use now answer (with_seen seen entries) → capacity ≡ before → IsKept made after capacity
kept_counted made now answer seen entries after before capacity h is same = record {
  given = rw is (used_all (Numbered made) (numbered_used made) now answer _ (seen_all (Numbered made) (numbered_noted made) seen entries h.given));
  distinct = rw is (distinct_used now answer _ (distinct_seen seen entries h.distinct));
  room = rw same h.room;
}

pub kept_filtered : {P : Type 0} (made : ℕ) (test : Entry P → Bool) (entries after : List (Entry P)) (before capacity : ℕ) → IsKept made entries before
    → after ≡ filter test entries → capacity ≡ before → IsKept made after capacity
kept_filtered made test entries after before capacity h is same = record {
  given = rw is (all_filter (Numbered made) test entries h.given);
  distinct = rw is (distinct_filter test entries h.distinct);
  room = rw same h.room;
}

pub kept_pushed : {P : Type 0} (made : ℕ) (entries after : List (Entry P)) (e : Entry P) (before capacity : ℕ) → IsKept made entries before → e.number ≡ made + 1
    → after ≡ entries ++ e ∷ [] → before ≤ capacity → IsKept (made + 1) after capacity
kept_pushed made entries after e before capacity h number is more = record {
  given = rw is (all_more (Numbered (made + 1)) entries e (all_weaker (Numbered made) (Numbered (made + 1)) (λ x le. omega arith) entries h.given) (omega arith));
  distinct = rw is (distinct_more entries e h.distinct (all_weaker (Numbered made) (λ o. o.number ≢ e.number) (λ x le same. absurd (omega arith)) entries h.given));
  room = omega (arith, h.room);
}

-- where fewer than 256 are live, there is room for one more once the dead are out
live_left : (count : ℕ) → nat_le 256 count ≡ false → count < 256
live_left count full =
    elim (cases_lt count 256) [
      | inl less ↦ less
      | inr more ↦ absurd (true≢false (sym (le-leb 256 count more) ∙ full))
    ]

pub room_left : {P : Type 0} (now : ℕ) (entries : List (Entry P)) → nat_le 256 (count_by (is_live now) entries) ≡ false → length (filter (is_live now) entries) < MOST_CONTEXTS
room_left now entries full = rw (length-filter (is_live now) entries) (live_left (count_by (is_live now) entries) full)
