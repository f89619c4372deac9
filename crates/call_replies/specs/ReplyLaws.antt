-- What a call is answered by is a reply.
use Rattle.std.proofs.Common.{◌≡◌, ◌∙◌, ℕ, ◌<◌, Bool, true, false, List, [], Option, Some, None, sym, ap}
use Rattle.std.specs.Prelude.{◌^◌}
use Rattle.std.proofs.lemmas.List.{append-nil}
use Rattle.gss_ctx.specs.Making.{Inits, InitsUnless, InitsWith, Makes}
use Rattle.gss_ctx.specs.Seals.{Mic}
use Rattle.gss_ctx.specs.Table.{ContextTable, context_of}
use Rattle.gss_ctx.specs.declared.context.Context.{Context}
use Rattle.gss_ctx.specs.declared.making.Inited.{Inited}
use Rattle.gss_ctx.specs.declared.making.Inited.TheVariants.{Refused}
use Rattle.gss_mech.specs.Tokens.{IsSized}
use Rattle.gss_mech.specs.declared.mechanism.Accepted.{Accepted}
use Rattle.rpc_calls.specs.Answers.{denial_reply, failure_by, failure_reply, failure_with, plain_front, result_by, result_reply, result_with}
use Rattle.rpc_calls.specs.Making.{init_reply}
use Rattle.rpc_calls.specs.declared.call.Call.{Call}
use Rattle.rpc_calls.specs.declared.call.Under.{Under}
use Rattle.rpc_msg.specs.Heads as heads
use Rattle.rpc_msg.specs.declared.call.CallHead.{CallHead}
use Rattle.rpc_msg.specs.declared.reply.Denial.{Denial}
use Rattle.rpc_msg.specs.declared.reply.Stat.{Stat}
use Rattle.streams.specs.declared.draws.Drawn.{Drawn}
use Rattle.streams.specs.declared.draws.Drawn.TheVariants.{Got, Failed}
use Rattle.wire_spelling.specs.ReadLaws as reads
use Rattle.wire_spelling.specs.Replies.{is_reply}

alone : (xid : ℕ) (what : Stat) → xid < 2 ^ 32 → heads.stat.Fits what → is_reply (plain_front xid what) ≡ true
alone xid what small fits = ap is_reply (sym (append-nil (plain_front xid what))) ∙ reads.plain_is xid what [] small fits

pub denial_reply_is : (call : Call) (why : Denial) → heads.call.Fits call.head → heads.denial.Fits why → is_reply (denial_reply call.head.xid why) ≡ true
denial_reply_is call why fits said = reads.denial_is call.head.xid why (reads.xid_small call.head fits) said

failure_with_is : {P : Type 0} (mic : Mic) (head : CallHead) (seq : ℕ) (what : Stat) (o : Option (Context P)) → IsSized mic → heads.call.Fits head → heads.stat.Fits what
    → is_reply (failure_with mic head seq what o) ≡ true
failure_with_is mic head seq what None sized fits said = alone head.xid what (reads.xid_small head fits) said
failure_with_is mic head seq what (Some context) sized fits said = reads.failure_is mic context.key head seq what sized fits said

failure_by_is : {P : Type 0} (mic : Mic) (table : ContextTable P) (head : CallHead) (what : Stat) (o : Option Under) → IsSized mic → heads.call.Fits head → heads.stat.Fits what
    → is_reply (failure_by mic table head what o) ≡ true
failure_by_is mic table head what None sized fits said = alone head.xid what (reads.xid_small head fits) said
failure_by_is mic table head what (Some under) sized fits said = failure_with_is mic head under.seq what (context_of under.number table.entries) sized fits said

pub failure_reply_is : {P : Type 0} (mic : Mic) (table : ContextTable P) (call : Call) (what : Stat) → IsSized mic → heads.call.Fits call.head → heads.stat.Fits what
    → is_reply (failure_reply mic table call what) ≡ true
failure_reply_is mic table call what sized fits said = failure_by_is mic table call.head what call.under sized fits said

result_with_is : {P : Type 0} (mic : Mic) (head : CallHead) (seq : ℕ) (result : List ℕ) (o : Option (Context P)) → IsSized mic → heads.call.Fits head
    → is_reply (result_with mic head seq result o) ≡ true
result_with_is mic head seq result None sized fits = reads.plain_is head.xid _ result (reads.xid_small head fits) reads.success_fits
result_with_is mic head seq result (Some context) sized fits = reads.sealed_reply_is mic context.key head seq result sized fits

result_by_is : {P : Type 0} (mic : Mic) (table : ContextTable P) (head : CallHead) (result : List ℕ) (o : Option Under) → IsSized mic → heads.call.Fits head
    → is_reply (result_by mic table head result o) ≡ true
result_by_is mic table head result None sized fits = reads.plain_is head.xid _ result (reads.xid_small head fits) reads.success_fits
result_by_is mic table head result (Some under) sized fits = result_with_is mic head under.seq result (context_of under.number table.entries) sized fits

pub result_reply_is : {P : Type 0} (mic : Mic) (table : ContextTable P) (call : Call) (result : List ℕ) → IsSized mic → heads.call.Fits call.head → is_reply (result_reply mic table call result) ≡ true
result_reply_is mic table call result sized fits = result_by_is mic table call.head result call.under sized fits

-- ---- the answer to an INIT

refused_is : (xid minor : ℕ) (answer : Inited) → xid < 2 ^ 32 → answer ≡ Refused minor → is_reply (init_reply xid answer) ≡ true
refused_is xid minor answer small is = ap (λ (a : Inited). is_reply (init_reply xid a)) is ∙ reads.plain_is xid _ _ small reads.success_fits

made_is : {P : Type 0} (mic : Mic) (xid now : ℕ) (o : Option Accepted) (old new : ContextTable P) (answer : Inited) → IsSized mic → xid < 2 ^ 32 → Makes mic now o old new answer
    → is_reply (init_reply xid answer) ≡ true
made_is mic xid now None old new answer sized small made = refused_is xid 3 answer small made.0
made_is mic xid now (Some taken) old new answer sized small made =
    ap (λ (a : Inited). is_reply (init_reply xid a)) made.0 ∙ reads.begun_is xid _ _ taken.token _ small (sized taken.key _ _)

with_is : {P : Type 0} (mic : Mic) (accepted : List ℕ → Option Accepted) (xid now : ℕ) (drawn : Drawn) (old new : ContextTable P) (answer : Inited) → IsSized mic → xid < 2 ^ 32
    → InitsWith mic accepted now drawn old new answer → is_reply (init_reply xid answer) ≡ true
with_is mic accepted xid now Failed old new answer sized small made = refused_is xid 1 answer small made.0
with_is mic accepted xid now (Got nonce) old new answer sized small made = made_is mic xid now (accepted nonce) old new answer sized small made

unless_is : {P W : Type 0} (mic : Mic) (accepted : List ℕ → Option Accepted) (gives : W → Drawn → W → Type 0) (xid now : ℕ) (full : Bool) (old new : ContextTable P) (v w : W)
    (answer : Inited) → IsSized mic → xid < 2 ^ 32 → InitsUnless mic accepted gives now full old new v w answer → is_reply (init_reply xid answer) ≡ true
unless_is mic accepted gives xid now true old new v w answer sized small made = refused_is xid 2 answer small made.0
unless_is mic accepted gives xid now false old new v w answer sized small made = with_is mic accepted xid now made.0 old new answer sized small made.2

pub init_reply_is : {P W : Type 0} (mic : Mic) (accepted : List ℕ → Option Accepted) (gives : W → Drawn → W → Type 0) (xid now : ℕ) (first : Option Accepted) (old new : ContextTable P)
    (v w : W) (answer : Inited) → IsSized mic → xid < 2 ^ 32 → Inits mic accepted gives now first old new v w answer → is_reply (init_reply xid answer) ≡ true
init_reply_is mic accepted gives xid now None old new v w answer sized small made = refused_is xid 3 answer small made.0
init_reply_is mic accepted gives xid now (Some taken) old new v w answer sized small made = unless_is mic accepted gives xid now _ old new v w answer sized small made
