-- The context that admitted a CREATE is live once the call is counted, and has the key and principal that it had.
use Rattle.std.specs.Prelude.{◌≡◌, ℕ, ◌-◌, ◌==◌, ◌&&◌, Bool, true, false, nat_lt, if◌then◌else◌, List, [], ◌∷◌, map, find, is_none, IsSome, Option, None, Some, option_map, Result, refl}
use Rattle.std.specs.Result.{result_ok}
use Rattle.std.proofs.Common.{sym, ◌∙◌, ap, subst, arith}
use Rattle.std.proofs.lemmas.Bool.{lt-ltb}
use Rattle.gss_ctx.specs.Admission.{parent_in, parent_of}
use Rattle.gss_ctx.specs.Ends.{admission}
use Rattle.gss_ctx.specs.Making.{MakesChildOf}
use Rattle.gss_ctx.specs.Table.{ContextTable, context_of, entry_of, is_full, is_live, is_root, root_of, noted_on, used_on}
use Rattle.gss_ctx.specs.Window.{noted}
use Rattle.gss_ctx.specs.declared.context.Context.{Context}
use Rattle.gss_ctx.specs.declared.context.Entry.{Entry}
use Rattle.rpc_calls.specs.declared.call.Call.{Call}
use Rattle.rpc_calls.specs.declared.call.Under.{Under}
use Rattle.rpc_calls.specs.Answers.{counted}
use Rattle.rpc_calls.specs.Judging.{IsThere, MayHaveChild}
use Rattle.rpc_calls.specs.Making.{created, created_unless}

-- the live context of this number, which isn't a child, is this one, used now
pub record IsRootNow {P : Type 0} (now number : ℕ) (entries : List (Entry P)) (context : Context P) : Type 0 where
  pub root : Entry P
  pub found : root_of now number entries ≡ Some root
  pub context_is : root.context ≡ record context { used = now }

-- ---- one context

abbrev counted_on : {P : Type 0} → ℕ → ℕ → Option ℕ → ℕ → Entry P → Entry P
counted_on number seq parent now e = used_on number parent now (noted_on number seq e)

abbrev counted_now : {P : Type 0} → ℕ → ℕ → Entry P → Entry P
counted_now seq now e = record { number = e.number; context = record e.context { used = now }; window = noted seq e.window }

counted_same : {P : Type 0} (number seq : ℕ) (parent : Option ℕ) (now : ℕ) (e : Entry P) → (e.number == number) ≡ true → counted_on number seq parent now e ≡ counted_now seq now e
counted_same number seq parent now e is =
    let first : noted_on number seq e ≡ record e { window = noted seq e.window } = rw is refl in
    ap (used_on number parent now) first ∙ rw is refl

number_if : {P : Type 0} (b : Bool) (e f : Entry P) → f.number ≡ e.number → (if b then f else e).number ≡ e.number
number_if true e f is = is
number_if false e f is = refl

counted_number : {P : Type 0} (number seq : ℕ) (parent : Option ℕ) (now : ℕ) (e : Entry P) → (counted_on number seq parent now e).number ≡ e.number
counted_number number seq parent now e =
    number_if _ (noted_on number seq e) (record (noted_on number seq e) { context = record (noted_on number seq e).context { used = now } }) refl
    ∙ number_if (e.number == number) e (record e { window = noted seq e.window }) refl

-- ---- all of them

found_if : {P : Type 0} (number now : ℕ) (context : Context P) (entries : List (Entry P)) (b : Bool) (e : Entry P) → b ≡ false
    → IsRootNow now number entries context → find (is_root now number) (e ∷ entries) ≡ (if b then Some e else find (is_root now number) entries)
    → IsRootNow now number (e ∷ entries) context
found_if number now context entries b e not there is = record { root = there.root; found = is ∙ rw not there.found; context_is = there.context_is }

lives : (now : ℕ) → nat_lt (now - now) 3600 ≡ true
lives now = lt-ltb (now - now) 3600 (omega arith)

root_at : {P : Type 0} (number seq : ℕ) (parent : Option ℕ) (now : ℕ) (e : Entry P) (rest : List (Entry P)) (context : Context P) → (e.number == number) ≡ true
    → e.context ≡ context → context.parent ≡ None → IsRootNow now number (counted_on number seq parent now e ∷ rest) context
root_at number seq parent now e rest context is same none =
    let own : e.context.parent ≡ None = ap (λ (c : Context _). c.parent) same ∙ none in
    record {
      root = counted_now seq now e;
      found = rw (counted_same number seq parent now e is) (rw (is, lives now, own) refl);
      context_is = ap (λ (c : Context _). record c { used = now }) same;
    }

root_other : {P : Type 0} (number seq : ℕ) (parent : Option ℕ) (now : ℕ) (e : Entry P) (rest : List (Entry P)) (context : Context P) → (e.number == number) ≡ false
    → IsRootNow now number rest context → IsRootNow now number (counted_on number seq parent now e ∷ rest) context
root_other number seq parent now e rest context not there =
    let f : Entry _ = counted_on number seq parent now e in
    let number_is : (f.number == number) ≡ false = ap (λ (n : ℕ). n == number) (counted_number number seq parent now e) ∙ not in
    found_if number now context rest (is_root now number f) f (ap (λ (b : Bool). b && is_live now f && is_none f.context.parent) number_is) there refl

abbrev Chosen : {P : Type 0} → Bool → Entry P → List (Entry P) → ℕ → Context P → Type 0
Chosen b e entries number context = option_map (λ x. x.context) (if b then Some e else find (λ x. x.number == number) entries) ≡ Some context

root_step : {P : Type 0} (number seq : ℕ) (parent : Option ℕ) (now : ℕ) (e : Entry P) (entries : List (Entry P)) (context : Context P) (b : Bool) → (e.number == number) ≡ b
    → Chosen b e entries number context → context.parent ≡ None
    → (context_of number entries ≡ Some context → IsRootNow now number (map (used_on number parent now) (map (noted_on number seq) entries)) context)
    → IsRootNow now number (map (used_on number parent now) (map (noted_on number seq) (e ∷ entries))) context
root_step number seq parent now e entries context true is found none others =
    let same : e.context ≡ context = cc in
    root_at number seq parent now e (map (used_on number parent now) (map (noted_on number seq) entries)) context is same none
root_step number seq parent now e entries context false is found none others =
    root_other number seq parent now e (map (used_on number parent now) (map (noted_on number seq) entries)) context is (others found)

pub root_counted : {P : Type 0} (number seq : ℕ) (parent : Option ℕ) (now : ℕ) (entries : List (Entry P)) (context : Context P)
    → context_of number entries ≡ Some context → context.parent ≡ None
    → IsRootNow now number (map (used_on number parent now) (map (noted_on number seq) entries)) context
root_counted number seq parent now [] context found none = let wrong : ⊥ = cc in absurd wrong
root_counted number seq parent now (e ∷ entries) context found none =
    root_step number seq parent now e entries context (e.number == number) refl found none (λ other. root_counted number seq parent now entries context other none)

-- ---- what making the child answers

pub child_made : {P : Type 0} (derived : List ℕ → ℕ → List ℕ → List ℕ) (now parent : ℕ) (principal : List ℕ) (carry : P) (full : Bool) (root : Entry P) (mid new : ContextTable P)
    (answer : Result ℕ P) (context : Context P) → root.context ≡ record context { used = now } → principal ≡ context.principal
    → MakesChildOf derived now parent principal carry full (Some root) mid new answer
    → created_unless full derived now parent carry context mid ≡ record { table = new; made = result_ok answer }
child_made derived now parent principal carry true root mid new answer context is same h = rw (h.0, h.1) refl
child_made derived now parent principal carry false root mid new answer context is same h = rw (h.0, h.1, is, same) refl

-- ---- the call CREATE

-- the context under which it is answered
pub record IsParent {P : Type 0} (table : ContextTable P) (under : Under) : Type 0 where
  pub context : Context P
  pub there : context_of under.number table.entries ≡ Some context
  pub root : context.parent ≡ None

parent_by : {P : Type 0} (number : ℕ) (entries : List (Entry P)) (entry : Option (Entry P)) → entry_of number entries ≡ entry → IsSome (option_map (λ e. e.context) entry)
    → parent_in entry ≡ None → (context : Context P) × (context_of number entries ≡ Some context) × (context.parent ≡ None)
parent_by number entries None is there root = let wrong : ⊥ = cc in absurd wrong
parent_by number entries (Some e) is there root = (e.context, ap (option_map (λ e. e.context)) is, root)

under_same : {P : Type 0} (table : ContextTable P) (call : Call) (under : Under) → call.under ≡ Some under → (may : MayHaveChild table call) → may.admitted.under ≡ under
under_same table call under is may = let e : Some may.admitted.under ≡ Some under = sym may.admitted.under_is ∙ is in cc

pub is_parent : {P : Type 0} (table : ContextTable P) (call : Call) (under : Under) → call.under ≡ Some under → MayHaveChild table call → IsThere table call → IsParent table under
is_parent table call under is may there =
    let same : may.admitted.under ≡ under = under_same table call under is may in
    let here : IsSome (context_of under.number table.entries) = rw is at there in
    let root : parent_of under.number table.entries ≡ None = subst (λ (u : Under). parent_of u.number table.entries ≡ None) same may.root in
    let found = parent_by under.number table.entries (entry_of under.number table.entries) refl here root in
    record { context = found.0; there = found.1; root = found.2 }

pub is_root_counted : {P : Type 0} (now : ℕ) (table : ContextTable P) (call : Call) (under : Under) → call.under ≡ Some under → MayHaveChild table call → (parent : IsParent table under)
    → IsRootNow now under.number (counted now call table).entries parent.context
is_root_counted now table call under is may parent =
    let verdict : call.verdict ≡ Some (admission under.number under.seq []) =
    subst (λ (u : Under). call.verdict ≡ Some (admission u.number u.seq [])) (under_same table call under is may) may.admitted.verdict_is in
    rw verdict (root_counted under.number under.seq (parent_of under.number (map (noted_on under.number under.seq) table.entries)) now table.entries parent.context parent.there parent.root)

pub create_is : {P : Type 0} (derived : List ℕ → ℕ → List ℕ → List ℕ) (now : ℕ) (carry : P) (table new : ContextTable P) (call : Call) (under : Under) (principal : List ℕ) (answer : Result ℕ P)
    → call.under ≡ Some under → MayHaveChild table call → (parent : IsParent table under) → principal ≡ parent.context.principal
    → MakesChildOf derived now under.number principal carry (is_full now (counted now call table).entries) (root_of now under.number (counted now call table).entries) (counted now call table) new answer
    → created derived now carry call table ≡ record { table = new; made = result_ok answer }
create_is derived now carry table new call under principal answer is may parent same makes =
    let root = is_root_counted now table call under is may parent in
    let made : MakesChildOf derived now under.number principal carry (is_full now (counted now call table).entries) (Some root.root) (counted now call table) new answer = rw root.found at makes in
    rw (is, parent.there) (child_made derived now under.number principal carry (is_full now (counted now call table).entries) root.root (counted now call table) new answer parent.context root.context_is same made)
