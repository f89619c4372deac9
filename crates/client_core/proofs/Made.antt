-- How many contexts for callbacks a step makes, and that a failed draw makes none.
use Rattle.std.proofs.Common.{◌≡◌, ℕ, ◌+◌, ◌≤◌, refl, arith, Bool, true, false, List}
use Rattle.std.specs.Prelude.{Option, Some, None}
use Rattle.gss_ctx.specs.Making.{Inits, InitsUnless, InitsWith, Makes}
use Rattle.gss_ctx.specs.Seals.{Mic}
use Rattle.gss_ctx.specs.Table.{ContextTable, is_full}
use Rattle.gss_ctx.specs.declared.admit.Verdict.{Verdict}
use Rattle.gss_ctx.specs.declared.making.Inited.{Inited}
use Rattle.gss_mech.specs.declared.mechanism.Accepted.{Accepted}
use Rattle.rpc_calls.specs.Answers.{counted, counted_by, ended, ended_by}
use Rattle.rpc_calls.specs.Making.{AnswersInit, has_failed_draw}
use Rattle.rpc_calls.specs.declared.call.Call.{Call}
use Rattle.rpc_calls.specs.declared.call.Under.{Under}
use Rattle.rpc_calls.specs.declared.contexts.InitAnswer.{InitAnswer}
use Rattle.streams.specs.declared.draws.Drawn.{Drawn}
use Rattle.streams.specs.declared.draws.Drawn.TheVariants.{Got, Failed}

-- ---- a call that is counted makes none, and one that ends its context makes none

by_verdict : {C : Type 0} (second : ℕ) (verdict : Option Verdict) (table : ContextTable C) → (counted_by second verdict table).made ≡ table.made
by_verdict second None table = refl
by_verdict second (Some verdict) table = refl

pub counted_made : {C : Type 0} (second : ℕ) (call : Call) (table : ContextTable C) → (counted second call table).made ≡ table.made
counted_made second call table = by_verdict second call.verdict table

by_under : {C : Type 0} (under : Option Under) (table : ContextTable C) → (ended_by under table).made ≡ table.made
by_under None table = refl
by_under (Some under) table = refl

pub ended_made : {C : Type 0} (second : ℕ) (call : Call) (table : ContextTable C) → (ended second call table).made ≡ table.made
ended_made second call table = rw (by_under call.under (counted second call table)) (counted_made second call table)

-- ---- INIT makes one at most

makes_most : {P : Type 0} (mic : Mic) (now : ℕ) (taken : Option Accepted) (old new : ContextTable P) (answer : Inited) → Makes mic now taken old new answer
    → new.made ≤ old.made + 1
makes_most mic now None old new answer h = rw h.1 (omega arith)
makes_most mic now (Some taken) old new answer h = rw h.1 (omega arith)

with_most : {P : Type 0} (mic : Mic) (accepted : List ℕ → Option Accepted) (now : ℕ) (drawn : Drawn) (old new : ContextTable P) (answer : Inited)
    → InitsWith mic accepted now drawn old new answer → new.made ≤ old.made + 1
with_most mic accepted now Failed old new answer h = rw h.1 (omega arith)
with_most mic accepted now (Got nonce) old new answer h = makes_most mic now (accepted nonce) old new answer h

unless_most : {P W : Type 0} (mic : Mic) (accepted : List ℕ → Option Accepted) (gives : W → Drawn → W → Type 0) (now : ℕ) (full : Bool)
    (old new : ContextTable P) (before after : W) (answer : Inited) → InitsUnless mic accepted gives now full old new before after answer
    → new.made ≤ old.made + 1
unless_most mic accepted gives now true old new before after answer h = rw h.1 (omega arith)
unless_most mic accepted gives now false old new before after answer h = with_most mic accepted now h.0 old new answer h.2

inits_most : {P W : Type 0} (mic : Mic) (accepted : List ℕ → Option Accepted) (gives : W → Drawn → W → Type 0) (now : ℕ) (first : Option Accepted)
    (old new : ContextTable P) (before after : W) (answer : Inited) → Inits mic accepted gives now first old new before after answer
    → new.made ≤ old.made + 1
inits_most mic accepted gives now None old new before after answer h = rw h.1 (omega arith)
inits_most mic accepted gives now (Some taken) old new before after answer h =
    unless_most mic accepted gives now (is_full now old.entries) old new before after answer h

pub init_most : {P W : Type 0} (mic : Mic) (accepted : List ℕ → Option Accepted) (gives : W → Drawn → W → Type 0) (now xid : ℕ)
    (first : Option Accepted) (old new : ContextTable P) (before after : W) (told : InitAnswer)
    → AnswersInit mic accepted gives now xid first old new before after told → new.made ≤ old.made + 1
init_most mic accepted gives now xid first old new before after told h = inits_most mic accepted gives now first old new before after h.answer h.inits

-- ---- where the draw failed, INIT changes nothing

makes_same : {P : Type 0} (mic : Mic) (now : ℕ) (taken : Option Accepted) (old new : ContextTable P) (answer : Inited) → Makes mic now taken old new answer
    → has_failed_draw answer ≡ true → new ≡ old
makes_same mic now None old new answer h failed = h.1
makes_same mic now (Some taken) old new answer h failed = let bad = rw h.0 at failed in absurd (let both : false ≡ true = bad in cc)

with_same : {P : Type 0} (mic : Mic) (accepted : List ℕ → Option Accepted) (now : ℕ) (drawn : Drawn) (old new : ContextTable P) (answer : Inited)
    → InitsWith mic accepted now drawn old new answer → has_failed_draw answer ≡ true → new ≡ old
with_same mic accepted now Failed old new answer h failed = h.1
with_same mic accepted now (Got nonce) old new answer h failed = makes_same mic now (accepted nonce) old new answer h failed

unless_same : {P W : Type 0} (mic : Mic) (accepted : List ℕ → Option Accepted) (gives : W → Drawn → W → Type 0) (now : ℕ) (full : Bool)
    (old new : ContextTable P) (before after : W) (answer : Inited) → InitsUnless mic accepted gives now full old new before after answer
    → has_failed_draw answer ≡ true → new ≡ old
unless_same mic accepted gives now true old new before after answer h failed = h.1
unless_same mic accepted gives now false old new before after answer h failed = with_same mic accepted now h.0 old new answer h.2 failed

inits_same : {P W : Type 0} (mic : Mic) (accepted : List ℕ → Option Accepted) (gives : W → Drawn → W → Type 0) (now : ℕ) (first : Option Accepted)
    (old new : ContextTable P) (before after : W) (answer : Inited) → Inits mic accepted gives now first old new before after answer
    → has_failed_draw answer ≡ true → new ≡ old
inits_same mic accepted gives now None old new before after answer h failed = h.1
inits_same mic accepted gives now (Some taken) old new before after answer h failed =
    unless_same mic accepted gives now (is_full now old.entries) old new before after answer h failed

pub init_same : {P W : Type 0} (mic : Mic) (accepted : List ℕ → Option Accepted) (gives : W → Drawn → W → Type 0) (now xid : ℕ)
    (first : Option Accepted) (old new : ContextTable P) (before after : W) (told : InitAnswer)
    → AnswersInit mic accepted gives now xid first old new before after told → told.draw_failed ≡ true → new ≡ old
init_same mic accepted gives now xid first old new before after told h failed =
    inits_same mic accepted gives now first old new before after h.answer h.inits (rw h.told_is at failed)
