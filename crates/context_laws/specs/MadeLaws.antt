-- The contexts that INIT and CREATE make (RFC 2203 section 5.2.2, RFC 7861 section 2.7): each has the next number, and a root
-- of its own or the context that asked for it.
use Rattle.std.proofs.Common.{◌≡◌, ◌⊎◌, inl, inr, ℕ, ◌+◌, ◌<◌, ◌^◌, Bool, true, false, List, Option, Some, None, refl, sym, ◌∙◌, ap, subst}
use Rattle.std.specs.Prelude.{IsSome}
use Rattle.std.proofs.lemmas.Bool.{false≢true}
use Rattle.streams.specs.declared.draws.Drawn.{Drawn}
use Rattle.streams.specs.declared.draws.Drawn.TheVariants.{Got, Failed}
use Rattle.rpc_msg.specs.Heads.{call}
use Rattle.rpc_msg.specs.declared.call.CallHead.{CallHead}
use Rattle.gss_mech.specs.Tokens.{IsSized}
use Rattle.gss_mech.specs.declared.mechanism.Accepted.{Accepted}
use Rattle.gss_ctx.specs.Forms.{create_result}
use Rattle.gss_ctx.specs.Making.{Inits, InitsUnless, InitsWith, Makes, accepted_context, child_context}
use Rattle.gss_ctx.specs.Seals.{Mic}
use Rattle.gss_ctx.specs.Table.{ContextTable, context_of, handle_of, is_full, with_new}
use Rattle.gss_ctx.specs.declared.context.Context.{Context}
use Rattle.gss_ctx.specs.declared.making.Inited.{Inited}
use Rattle.gss_ctx.specs.declared.making.Inited.TheVariants.{Refused}
use Rattle.rpc_calls.specs.Answers.{counted, result_by, result_with}
use Rattle.rpc_calls.specs.Making.{AnswersInit, Created, create_answer, create_told, created, created_by, created_of, created_unless, init_made}
use Rattle.rpc_calls.specs.declared.call.Call.{Call}
use Rattle.rpc_calls.specs.declared.call.Under.{Under}
use Rattle.rpc_calls.specs.declared.contexts.InitAnswer.{InitAnswer}
use Rattle.wire_model.specs.Spelling as spelling
use Rattle.wire_spelling.specs.CreateLaws.{created_context, no_context_created}
use Rattle.wire_spelling.specs.Replies.{context_in}
use Rattle.context_laws.specs.View.{root_number, AreNumbered, Follows, IsNewIn}
use Rattle.context_laws.specs.TableLaws.{counted_follows, counted_made, follows_itself, follows_next, new_follows, new_is}

-- ---- INIT

-- a context is made under none, and is told by its number
pub record IsBegun {P : Type 0} (now : ℕ) (old new : ContextTable P) (told : Option ℕ) : Type 0 where
  pub context : Context P
  pub root : context.parent ≡ None
  pub new_is : new ≡ with_new now context old
  pub told_is : told ≡ Some (old.made + 1)

-- or nothing is made, and none told
pub record IsNotBegun {P : Type 0} (old new : ContextTable P) (told : Option ℕ) : Type 0 where
  pub same : new ≡ old
  pub told_none : told ≡ None

module _ {P W : Type 0} (mic : Mic) (accepted : List ℕ → Option Accepted) (gives : W → Drawn → W → Type 0) (now : ℕ) (old new : ContextTable P) (answer : Inited) where
  abbrev Begins : Type 0
  Begins = IsBegun now old new (init_made (old.made + 1) answer) ⊎ IsNotBegun old new (init_made (old.made + 1) answer)

  refused : (minor : ℕ) → answer ≡ Refused minor → new ≡ old → Begins
  refused minor is same = inr (record { same = same; told_none = ap (init_made (old.made + 1)) is })

  begun_makes : (taken : Option Accepted) → Makes mic now taken old new answer → Begins
  begun_makes None makes = refused 3 makes.0 makes.1
  begun_makes (Some taken) makes = inl (record {
    context = accepted_context now taken;
    root = refl;
    new_is = makes.1;
    told_is = ap (init_made (old.made + 1)) makes.0;
  })

  begun_with : (drawn : Drawn) → InitsWith mic accepted now drawn old new answer → Begins
  begun_with Failed with_ = refused 1 with_.0 with_.1
  begun_with (Got nonce) with_ = begun_makes (accepted nonce) with_

  begun_unless : (before after : W) (full : Bool) → InitsUnless mic accepted gives now full old new before after answer → Begins
  begun_unless before after true unless = refused 2 unless.0 unless.1
  begun_unless before after false unless = begun_with unless.0 unless.2

  begun : (before after : W) (first : Option Accepted) → Inits mic accepted gives now first old new before after answer → Begins
  begun before after None inits = refused 3 inits.0 inits.1
  begun before after (Some taken) inits = begun_unless before after (is_full now old.entries) inits

pub answers_init : {P W : Type 0} (mic : Mic) (accepted : List ℕ → Option Accepted) (gives : W → Drawn → W → Type 0) (now xid : ℕ) (first : Option Accepted)
    (old new : ContextTable P) (before after : W) (told : InitAnswer) → AnswersInit mic accepted gives now xid first old new before after told
    → IsBegun now old new told.made ⊎ IsNotBegun old new told.made
answers_init mic accepted gives now xid first old new before after told answers =
    subst (λ (t : InitAnswer). IsBegun now old new t.made ⊎ IsNotBegun old new t.made) (sym answers.told_is)
    (begun mic accepted gives now old new answers.answer before after first answers.inits)

pub begun_follows : {P : Type 0} (now : ℕ) (old new : ContextTable P) (told : Option ℕ) → AreNumbered old.made old.entries
    → IsBegun now old new told ⊎ IsNotBegun old new told → Follows old new
begun_follows now old new told is (inl begun) = subst (λ (t : ContextTable _). Follows old t) (sym begun.new_is) (new_follows now begun.context old is)
begun_follows now old new told is (inr none) = subst (λ (t : ContextTable _). Follows old t) (sym none.same) (follows_itself old is)

-- the context that INIT makes is its own root
pub begun_is_new : {P : Type 0} (now : ℕ) (old new : ContextTable P) (told : Option ℕ) → AreNumbered old.made old.entries → IsBegun now old new told
    → IsNewIn old new (old.made + 1) (old.made + 1)
begun_is_new now old new told is begun =
    subst (λ (t : ContextTable _). IsNewIn old t (old.made + 1) (old.made + 1)) (sym begun.new_is)
    (subst (λ (q : Option ℕ). IsNewIn old (with_new now begun.context old) (old.made + 1) (root_number q (old.made + 1))) begun.root (new_is now begun.context old is))

-- ---- CREATE

-- a child is made under the context that asked for it
pub record IsChild {P : Type 0} (now : ℕ) (old : ContextTable P) (under : Option Under) (told : Created P) : Type 0 where
  pub parent : Under
  pub parent_is : under ≡ Some parent
  pub context : Context P
  pub root : context.parent ≡ Some parent.number
  pub table_is : told.table ≡ with_new now context old
  pub made_is : told.made ≡ Some (old.made + 1)

pub record IsNoChild {P : Type 0} (old : ContextTable P) (told : Created P) : Type 0 where
  pub same : told.table ≡ old
  pub none_made : told.made ≡ None

module _ {P : Type 0} (derived : List ℕ → ℕ → List ℕ → List ℕ) (now : ℕ) (carry : P) (table : ContextTable P) where
  child_unless : (full : Bool) (under : Under) (context : Context P)
      → IsChild now table (Some under) (created_unless full derived now under.number carry context table)
      ⊎ IsNoChild table (created_unless full derived now under.number carry context table)
  child_unless true under context = inr (record { same = refl; none_made = refl })
  child_unless false under context = inl (record {
    parent = under;
    parent_is = refl;
    context = child_context derived (handle_of table.boot (table.made + 1)) under.number context.principal context carry now;
    root = refl;
    table_is = refl;
    made_is = refl;
  })

  child_of : (under : Under) (context : Option (Context P))
      → IsChild now table (Some under) (created_of derived now under.number carry context table) ⊎ IsNoChild table (created_of derived now under.number carry context table)
  child_of under None = inr (record { same = refl; none_made = refl })
  child_of under (Some context) = child_unless (is_full now table.entries) under context

  child_by : (old : ContextTable P) (under : Option Under)
      → IsChild now table under (created_by derived now carry under old table) ⊎ IsNoChild table (created_by derived now carry under old table)
  child_by old None = inr (record { same = refl; none_made = refl })
  child_by old (Some under) = child_of under (context_of under.number old.entries)

pub created_child : {P : Type 0} (derived : List ℕ → ℕ → List ℕ → List ℕ) (now : ℕ) (carry : P) (call_ : Call) (table : ContextTable P)
    → IsChild now (counted now call_ table) call_.under (created derived now carry call_ table) ⊎ IsNoChild (counted now call_ table) (created derived now carry call_ table)
created_child derived now carry call_ table = child_by derived now carry (counted now call_ table) table call_.under

pub created_follows : {P : Type 0} (derived : List ℕ → ℕ → List ℕ → List ℕ) (now : ℕ) (carry : P) (call_ : Call) (table : ContextTable P) → AreNumbered table.made table.entries
    → Follows table (created derived now carry call_ table).table
created_follows {P} derived now carry call_ table is =
    let first = counted_follows now call_ table is in
    let mid = counted now call_ table in
    follows_next table mid (created derived now carry call_ table).table first (counted_made now call_.verdict table)
    (by_child mid first.numbered (created derived now carry call_ table) (created_child derived now carry call_ table))
  where
    by_child : (mid : ContextTable P) → AreNumbered mid.made mid.entries → (told : Created P) → IsChild now mid call_.under told ⊎ IsNoChild mid told → Follows mid told.table
    by_child mid is told (inl child) = subst (λ (t : ContextTable _). Follows mid t) (sym child.table_is) (new_follows now child.context mid is)
    by_child mid is told (inr none) = subst (λ (t : ContextTable _). Follows mid t) (sym none.same) (follows_itself mid is)

-- the child that CREATE makes has as its root the context that asked for it
pub child_is_new : {P : Type 0} (now : ℕ) (mid : ContextTable P) (under : Option Under) (told : Created P) → AreNumbered mid.made mid.entries
    → (child : IsChild now mid under told) → IsNewIn mid told.table (mid.made + 1) child.parent.number
child_is_new now mid under told is child =
    subst (λ (t : ContextTable _). IsNewIn mid t (mid.made + 1) child.parent.number) (sym child.table_is)
    (subst (λ (q : Option ℕ). IsNewIn mid (with_new now child.context mid) (mid.made + 1) (root_number q (mid.made + 1))) child.root (new_is now child.context mid is))

-- ---- what the answer to a CREATE gives is what was made

reply_with : {P : Type 0} (mic : Mic) (head : CallHead) (seq : ℕ) (context : Option (Context P)) (boot : ℕ) (made : Option ℕ) (child : spelling.Context)
    → IsSized mic → call.Fits head → boot < 2 ^ 32 → ((n : ℕ) → made ≡ Some n → n < 2 ^ 32) → IsSome context
    → context_in (result_with mic head seq (create_result.spell (create_told boot made)) context) ≡ Some child
    → (n : ℕ) × (made ≡ Some n) × (child ≡ record { boot = boot; number = n })
reply_with mic head seq None boot made child sized fits small below there given = absurd (false≢true there)
reply_with mic head seq (Some context) boot None child sized fits small below there given =
    let none = no_context_created mic context.key head seq boot sized fits small in
    absurd (let wrong : None ≡ Some child = sym none ∙ given in cc)
reply_with mic head seq (Some context) boot (Some n) child sized fits small below there given =
    let is = created_context mic context.key head seq boot n sized fits small (below n refl) in
    (n, refl, let same : Some child ≡ Some (record { boot = boot; number = n }) = sym given ∙ is in cc)

pub create_gives : {P : Type 0} (mic : Mic) (table : ContextTable P) (call_ : Call) (under : Under) (made : Option ℕ) (child : spelling.Context)
    → IsSized mic → call.Fits call_.head → table.boot < 2 ^ 32 → ((n : ℕ) → made ≡ Some n → n < 2 ^ 32)
    → call_.under ≡ Some under → IsSome (context_of under.number table.entries)
    → context_in (create_answer mic table call_ made).bytes ≡ Some child
    → (n : ℕ) × (made ≡ Some n) × (child ≡ record { boot = table.boot; number = n })
create_gives mic table call_ under made child sized fits small below is there given =
    let by : context_in (result_by mic table call_.head (create_result.spell (create_told table.boot made)) (Some under)) ≡ Some child =
    subst (λ (u : Option Under). context_in (result_by mic table call_.head (create_result.spell (create_told table.boot made)) u) ≡ Some child) is given in
    reply_with mic call_.head under.seq (context_of under.number table.entries) table.boot made child sized fits small below there by
