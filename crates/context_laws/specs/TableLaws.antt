-- What becomes of contexts by what calls do to them: each keeps its root, or is gone, and one that comes has a new number.
use Rattle.std.proofs.Common.{◌≡◌, ◌⊎◌, inl, inr, ℕ, ◌+◌, ◌≤◌, Bool, true, false, List, [], ◌∷◌, ◌++◌, map, Option, Some, None, refl, sym, ◌∙◌, ap, subst, arith}
use Rattle.std.specs.Prelude.{◌==◌, ◌||◌, ◌≢◌, if◌then◌else◌, filter}
use Rattle.std.specs.List.{AllByRecursion}
use Rattle.std.proofs.lemmas.Bool.{eqb-true, eq-eqb, ne_eqb}
use Rattle.gss_ctx.specs.Admission.{parent_of, with_seen, with_use}
use Rattle.gss_ctx.specs.Table.{ContextTable, AreDistinct, entry_of, is_kept, is_live, is_number, new_entry, noted_on, used_on, with_new}
use Rattle.gss_ctx.specs.Window.{noted}
use Rattle.gss_ctx.specs.declared.admit.Admit.{Admit}
use Rattle.gss_ctx.specs.declared.admit.Admit.TheVariants.{Admitted}
use Rattle.gss_ctx.specs.declared.admit.Verdict.{Verdict}
use Rattle.gss_ctx.specs.declared.context.Context.{Context}
use Rattle.gss_ctx.specs.declared.context.Entry.{Entry}
use Rattle.rpc_calls.specs.Answers.{counted, counted_by, ended, ended_by}
use Rattle.rpc_calls.specs.declared.call.Call.{Call}
use Rattle.rpc_calls.specs.declared.call.Under.{Under}
use Rattle.context_laws.specs.View.{root_number, root_at, root_in, AreNumbered, IsPart, Follows, IsNewIn}

-- ---- the root of a number, by the first context

chosen_root : {P : Type 0} (b : Bool) (number : ℕ) (e : Entry P) (other : Option (Entry P))
    → root_at number (if b then Some e else other) ≡ (if b then Some (root_number e.context.parent number) else root_at number other)
chosen_root true number e other = refl
chosen_root false number e other = refl

pub root_first : {P : Type 0} (number : ℕ) (e : Entry P) (es : List (Entry P))
    → root_in (e ∷ es) number ≡ (if e.number == number then Some (root_number e.context.parent number) else root_in es number)
root_first number e es = chosen_root (e.number == number) number e (entry_of number es)

-- it is that one's
root_here : {P : Type 0} (number : ℕ) (e : Entry P) (es : List (Entry P)) → (e.number == number) ≡ true
    → root_in (e ∷ es) number ≡ Some (root_number e.context.parent number)
root_here number e es is =
    root_first number e es ∙ ap (λ (b : Bool). if b then Some (root_number e.context.parent number) else root_in es number) is

-- or it is among the others
root_there : {P : Type 0} (number : ℕ) (e : Entry P) (es : List (Entry P)) → (e.number == number) ≡ false → root_in (e ∷ es) number ≡ root_in es number
root_there number e es is =
    root_first number e es ∙ ap (λ (b : Bool). if b then Some (root_number e.context.parent number) else root_in es number) is

no_root : {P : Type 0} (number : ℕ) (es : List (Entry P)) → AllByRecursion (λ e. e.number ≢ number) es → root_in es number ≡ None
no_root number [] others = refl
no_root number (e ∷ es) others = root_there number e es (ne_eqb e.number number others.0) ∙ no_root number es others.1

-- ---- contexts that are changed in place

module _ {P : Type 0} (f : Entry P → Entry P) (number_same : (e : Entry P) → (f e).number ≡ e.number) (parent_same : (e : Entry P) → (f e).context.parent ≡ e.context.parent) where
  root_mapped : (number : ℕ) (es : List (Entry P)) → root_in (map f es) number ≡ root_in es number
  root_mapped number [] = refl
  root_mapped number (e ∷ es) =
      root_first number (f e) (map f es)
      ∙ ap (λ (k : ℕ). if k == number then Some (root_number (f e).context.parent number) else root_in (map f es) number) (number_same e)
      ∙ ap (λ (q : Option ℕ). if e.number == number then Some (root_number q number) else root_in (map f es) number) (parent_same e)
      ∙ ap (λ (o : Option ℕ). if e.number == number then Some (root_number e.context.parent number) else o) (root_mapped number es)
      ∙ sym (root_first number e es)

  all_mapped : (Q : ℕ → Type 0) (es : List (Entry P)) → AllByRecursion (λ e. Q e.number) es → AllByRecursion (λ e. Q e.number) (map f es)
  all_mapped Q [] all = tt
  all_mapped Q (e ∷ es) all = (subst Q (sym (number_same e)) all.0, all_mapped Q es all.1)

  distinct_mapped : (es : List (Entry P)) → AreDistinct es → AreDistinct (map f es)
  distinct_mapped [] distinct = tt
  distinct_mapped (e ∷ es) distinct = (
    subst (λ (k : ℕ). AllByRecursion (λ o. o.number ≢ k) (map f es)) (sym (number_same e)) (all_mapped (λ k. k ≢ e.number) es distinct.0),
    distinct_mapped es distinct.1,
  )

  pub part_mapped : (made : ℕ) (es : List (Entry P)) → AreNumbered made es → IsPart made es (map f es)
  part_mapped made es is = record {
    roots = λ number root there. sym (root_mapped number es) ∙ there;
    numbered = record { given = all_mapped (λ k. k ≤ made) es is.given; distinct = distinct_mapped es is.distinct };
  }

-- ---- contexts that are taken out

module _ {P : Type 0} (test : Entry P → Bool) where
  all_if : (Q : Entry P → Type 0) (b : Bool) (e : Entry P) (es : List (Entry P)) → Q e → AllByRecursion Q es → AllByRecursion Q (if b then e ∷ es else es)
  all_if Q true e es here rest = (here, rest)
  all_if Q false e es here rest = rest

  pub all_left : (Q : Entry P → Type 0) (es : List (Entry P)) → AllByRecursion Q es → AllByRecursion Q (filter test es)
  all_left Q [] all = tt
  all_left Q (e ∷ es) all = all_if Q (test e) e (filter test es) all.0 (all_left Q es all.1)

  distinct_if : (b : Bool) (e : Entry P) (es : List (Entry P)) → AllByRecursion (λ o. o.number ≢ e.number) es → AreDistinct es → AreDistinct (if b then e ∷ es else es)
  distinct_if true e es others rest = (others, rest)
  distinct_if false e es others rest = rest

  distinct_left : (es : List (Entry P)) → AreDistinct es → AreDistinct (filter test es)
  distinct_left [] distinct = tt
  distinct_left (e ∷ es) distinct =
      distinct_if (test e) e (filter test es) (all_left (λ o. o.number ≢ e.number) es distinct.0) (distinct_left es distinct.1)

  -- one that is taken out has a number that no other has
  root_was : (kept same : Bool) (e : Entry P) (es left : List (Entry P)) (number root : ℕ) → (e.number == number) ≡ same
      → AllByRecursion (λ o. o.number ≢ e.number) es → (root_in left number ≡ Some root → root_in es number ≡ Some root)
      → root_in (if kept then e ∷ left else left) number ≡ Some root → root_in (e ∷ es) number ≡ Some root
  root_was true true e es left number root is others rest there = root_here number e es is ∙ sym (root_here number e left is) ∙ there
  root_was true false e es left number root is others rest there = root_there number e es is ∙ rest (sym (root_there number e left is) ∙ there)
  root_was false true e es left number root is others rest there =
      let all : AllByRecursion (λ o. o.number ≢ number) es = subst (λ (k : ℕ). AllByRecursion (λ o. o.number ≢ k) es) (eqb-true e.number number is) others in
      let wrong : None ≡ Some root = sym (no_root number es all) ∙ rest there in
      absurd cc
  root_was false false e es left number root is others rest there = root_there number e es is ∙ rest there

  root_left : (es : List (Entry P)) → AreDistinct es → (number root : ℕ) → root_in (filter test es) number ≡ Some root → root_in es number ≡ Some root
  root_left [] distinct number root there = there
  root_left (e ∷ es) distinct number root there =
      root_was (test e) (e.number == number) e es (filter test es) number root refl distinct.0 (λ left. root_left es distinct.1 number root left) there

  pub part_left : (made : ℕ) (es : List (Entry P)) → AreNumbered made es → IsPart made es (filter test es)
  part_left made es is = record {
    roots = root_left es is.distinct;
    numbered = record { given = all_left (λ e. e.number ≤ made) es is.given; distinct = distinct_left es is.distinct };
  }

pub part_same : {P : Type 0} (made : ℕ) (es : List (Entry P)) → AreNumbered made es → IsPart made es es
part_same made es is = record { roots = λ number root there. there; numbered = is }

pub part_of_part : {P : Type 0} (made : ℕ) (old mid new : List (Entry P)) → IsPart made old mid → IsPart made mid new → IsPart made old new
part_of_part made old mid new first next =
    record { roots = λ number root there. first.roots number root (next.roots number root there); numbered = next.numbered }

-- ---- a context that comes behind the others

module _ {P : Type 0} (new : Entry P) (made : ℕ) (next : new.number ≡ made + 1) where
  all_with : (Q : Entry P → Type 0) (es : List (Entry P)) → AllByRecursion Q es → Q new → AllByRecursion Q (es ++ new ∷ [])
  all_with Q [] all last = (last, tt)
  all_with Q (e ∷ es) all last = (all.0, all_with Q es all.1 last)

  risen : (es : List (Entry P)) → AllByRecursion (λ e. e.number ≤ made) es → AllByRecursion (λ e. e.number ≤ made + 1) es
  risen [] all = tt
  risen (e ∷ es) all = (let le = all.0 in omega arith, risen es all.1)

  distinct_with : (es : List (Entry P)) → AllByRecursion (λ e. e.number ≤ made) es → AreDistinct es → AreDistinct (es ++ new ∷ [])
  distinct_with [] all distinct = (tt, tt)
  distinct_with (e ∷ es) all distinct =
      let le = all.0 in
      (all_with (λ o. o.number ≢ e.number) es distinct.0 (λ same. absurd (omega arith)), distinct_with es all.1 distinct.1)

  numbered_with : (es : List (Entry P)) → AreNumbered made es → AreNumbered (made + 1) (es ++ new ∷ [])
  numbered_with es is = record {
    given = all_with (λ e. e.number ≤ made + 1) es (risen es is.given) (omega arith);
    distinct = distinct_with es is.given is.distinct;
  }

  others_if : (same : Bool) (e : Entry P) (es rest : List (Entry P)) (number root : ℕ) → (e.number == number) ≡ same
      → (root_in rest number ≡ Some root → (root_in es number ≡ Some root) ⊎ (new.number ≡ number))
      → root_in (e ∷ rest) number ≡ Some root → (root_in (e ∷ es) number ≡ Some root) ⊎ (new.number ≡ number)
  others_if true e es rest number root is more there = inl (root_here number e es is ∙ sym (root_here number e rest is) ∙ there)
  others_if false e es rest number root is more there =
      elim (more (sym (root_there number e rest is) ∙ there)) [
        | inl old ↦ inl (root_there number e es is ∙ old)
        | inr last ↦ inr last
      ]

  last_if : (same : Bool) (number root : ℕ) → (new.number == number) ≡ same → root_in (new ∷ []) number ≡ Some root
      → (root_in {P = P} [] number ≡ Some root) ⊎ (new.number ≡ number)
  last_if true number root is there = inr (eqb-true new.number number is)
  last_if false number root is there = inl (sym (root_there number new [] is) ∙ there)

  root_with : (es : List (Entry P)) (number root : ℕ) → root_in (es ++ new ∷ []) number ≡ Some root → (root_in es number ≡ Some root) ⊎ (new.number ≡ number)
  root_with [] number root there = last_if (new.number == number) number root refl there
  root_with (e ∷ es) number root there =
      others_if (e.number == number) e es (es ++ new ∷ []) number root refl (λ rest. root_with es number root rest) there

  root_new : (es : List (Entry P)) → AllByRecursion (λ e. e.number ≤ made) es → root_in (es ++ new ∷ []) (made + 1) ≡ Some (root_number new.context.parent (made + 1))
  root_new [] all = root_here (made + 1) new [] (eq-eqb new.number (made + 1) next)
  root_new (e ∷ es) all =
      let le = all.0 in
      root_there (made + 1) e (es ++ new ∷ []) (ne_eqb e.number (made + 1) (λ same. absurd (omega arith))) ∙ root_new es all.1

-- ---- a call that is counted: its number is seen, and where it is admitted its context and the parent are used

number_if : {P A : Type 0} (get : Entry P → A) (b : Bool) (x e : Entry P) → get x ≡ get e → get (if b then x else e) ≡ get e
number_if get true x e same = same
number_if get false x e same = refl

noted_number : {P : Type 0} (number seq : ℕ) (e : Entry P) → (noted_on number seq e).number ≡ e.number
noted_number {P} number seq e = number_if (λ (x : Entry P). x.number) (e.number == number) (record e { window = noted seq e.window }) e refl

noted_parent : {P : Type 0} (number seq : ℕ) (e : Entry P) → (noted_on number seq e).context.parent ≡ e.context.parent
noted_parent {P} number seq e = number_if (λ (x : Entry P). x.context.parent) (e.number == number) (record e { window = noted seq e.window }) e refl

used_number : {P : Type 0} (number : ℕ) (parent : Option ℕ) (now : ℕ) (e : Entry P) → (used_on number parent now e).number ≡ e.number
used_number {P} number parent now e =
    number_if (λ (x : Entry P). x.number) ((e.number == number) || is_number parent e.number) (record e { context = record e.context { used = now } }) e refl

used_parent : {P : Type 0} (number : ℕ) (parent : Option ℕ) (now : ℕ) (e : Entry P) → (used_on number parent now e).context.parent ≡ e.context.parent
used_parent {P} number parent now e =
    number_if (λ (x : Entry P). x.context.parent) ((e.number == number) || is_number parent e.number) (record e { context = record e.context { used = now } }) e refl

seen_part : {P : Type 0} (made : ℕ) (seen : Option (ℕ × ℕ)) (es : List (Entry P)) → AreNumbered made es → IsPart made es (with_seen seen es)
seen_part made None es is = part_same made es is
seen_part made (Some seen) es is = part_mapped (noted_on seen.0 seen.1) (noted_number seen.0 seen.1) (noted_parent seen.0 seen.1) made es is

use_part : {P : Type 0} (made now : ℕ) (answer : Admit) (es : List (Entry P)) → AreNumbered made es → IsPart made es (with_use now answer es)
use_part made now (Admitted number seq args) es is =
    part_mapped (used_on number (parent_of number es) now) (used_number number (parent_of number es) now) (used_parent number (parent_of number es) now) made es is
use_part made now _ es is = part_same made es is

counted_part : {P : Type 0} (now : ℕ) (verdict : Option Verdict) (table : ContextTable P) → AreNumbered table.made table.entries
    → IsPart table.made table.entries (counted_by now verdict table).entries
counted_part now None table is = part_same table.made table.entries is
counted_part now (Some verdict) table is =
    let seen = seen_part table.made verdict.seen table.entries is in
    part_of_part table.made table.entries (with_seen verdict.seen table.entries) (with_use now verdict.answer (with_seen verdict.seen table.entries)) seen
    (use_part table.made now verdict.answer (with_seen verdict.seen table.entries) seen.numbered)

-- ---- tables

pub follows_itself : {P : Type 0} (table : ContextTable P) → AreNumbered table.made table.entries → Follows table table
follows_itself table is = record {
  boot = refl;
  owner = refl;
  made = omega arith;
  few = omega arith;
  roots = λ number root there. inl there;
  numbered = is;
}

-- what follows two steps of which the first makes none
pub follows_next : {P : Type 0} (old mid new : ContextTable P) → Follows old mid → mid.made ≡ old.made → Follows mid new → Follows old new
follows_next old mid new first none next = record {
  boot = next.boot ∙ first.boot;
  owner = next.owner ∙ first.owner;
  made = let le = next.made in omega arith;
  few = let le = next.few in omega arith;
  roots = λ number root there.
      elim (next.roots number root there) [
        | inl was ↦
            elim (first.roots number root was) [
              | inl old_ ↦ inl old_
              | inr made ↦ let above = made.0 in let below = made.1 in absurd (omega arith)
            ]
        | inr made ↦ let above = made.0 in let below = made.1 in inr (omega arith, below)
      ];
  numbered = next.numbered;
}

pub counted_follows : {P : Type 0} (now : ℕ) (call : Call) (table : ContextTable P) → AreNumbered table.made table.entries → Follows table (counted now call table)
counted_follows now call table is = by_verdict now call.verdict table is (counted_part now call.verdict table is)
  where
    by_verdict : {P : Type 0} (now : ℕ) (verdict : Option Verdict) (table : ContextTable P) → AreNumbered table.made table.entries
        → IsPart table.made table.entries (counted_by now verdict table).entries → Follows table (counted_by now verdict table)
    by_verdict now None table is part = follows_itself table is
    by_verdict now (Some verdict) table is part = record {
      boot = refl;
      owner = refl;
      made = omega arith;
      few = omega arith;
      roots = λ number root there. inl (part.roots number root there);
      numbered = part.numbered;
    }

pub counted_made : {P : Type 0} (now : ℕ) (verdict : Option Verdict) (table : ContextTable P) → (counted_by now verdict table).made ≡ table.made
counted_made now None table = refl
counted_made now (Some verdict) table = refl

-- DESTROY takes contexts out
destroyed_follows : {P : Type 0} (under : Option Under) (table : ContextTable P) → AreNumbered table.made table.entries → Follows table (ended_by under table)
destroyed_follows None table is = follows_itself table is
destroyed_follows (Some under) table is =
    let part = part_left (is_kept under.number) table.made table.entries is in
    record {
      boot = refl;
      owner = refl;
      made = omega arith;
      few = omega arith;
      roots = λ number root there. inl (part.roots number root there);
      numbered = part.numbered;
    }

pub ended_follows : {P : Type 0} (now : ℕ) (call : Call) (table : ContextTable P) → AreNumbered table.made table.entries → Follows table (ended now call table)
ended_follows now call table is =
    let first = counted_follows now call table is in
    follows_next table (counted now call table) (ended now call table) first (counted_made now call.verdict table)
    (destroyed_follows call.under (counted now call table) first.numbered)

-- one that is made takes the dead out, and comes behind the others
pub new_follows : {P : Type 0} (now : ℕ) (context : Context P) (table : ContextTable P) → AreNumbered table.made table.entries → Follows table (with_new now context table)
new_follows now context table is =
    let new = new_entry (table.made + 1) context in
    let left = part_left (is_live now) table.made table.entries is in
    record {
      boot = refl;
      owner = refl;
      made = omega arith;
      few = omega arith;
      roots = λ number root there.
          elim (root_with new table.made refl (filter (is_live now) table.entries) number root there) [
            | inl old ↦ inl (left.roots number root old)
            | inr last ↦ inr (omega arith, omega arith)
          ];
      numbered = numbered_with new table.made refl (filter (is_live now) table.entries) left.numbered;
    }

pub new_is : {P : Type 0} (now : ℕ) (context : Context P) (table : ContextTable P) → AreNumbered table.made table.entries
    → IsNewIn table (with_new now context table) (table.made + 1) (root_number context.parent (table.made + 1))
new_is now context table is = record {
  next = refl;
  counted = refl;
  root_is = root_new (new_entry (table.made + 1) context) table.made refl (filter (is_live now) table.entries)
      (part_left (is_live now) table.made table.entries is).numbered.given;
}
