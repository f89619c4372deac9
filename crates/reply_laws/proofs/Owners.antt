-- A server's contexts stay its own.
use Rattle.std.proofs.Common.{◌≡◌, ◌∙◌, ℕ, Bool, true, false, List, Option, Some, None, Result, Ok, Err, refl, sym, subst}
use Rattle.std.specs.Prelude.{replicate}
use Rattle.gss_ctx.specs.Table.{ContextTable, context_of, is_full}
use Rattle.gss_ctx.specs.declared.admit.Verdict.{Verdict}
use Rattle.gss_ctx.specs.declared.context.Context.{Context}
use Rattle.gss_mech.specs.declared.mechanism.Accepted.{Accepted}
use Rattle.nfs_compound.specs.declared.compound.Compound.{Compound}
use Rattle.rpc_calls.specs.Answers.{counted, counted_by, ended_by}
use Rattle.rpc_calls.specs.Making.{created_by, created_of, created_unless}
use Rattle.rpc_calls.specs.declared.call.Call.{Call}
use Rattle.rpc_calls.specs.declared.call.Judged.{Judged}
use Rattle.rpc_calls.specs.declared.call.Judged.TheVariants as judged
use Rattle.rpc_calls.specs.declared.call.Under.{Under}
use Rattle.rpc_calls.specs.declared.call.What.{What}
use Rattle.rpc_calls.specs.declared.call.What.TheVariants as whats
use Rattle.server_volume.specs.Choices.{choice_of}
use Rattle.session_server.specs.Host.{Codes, HostState, Rules, Stepped}
use Rattle.session_server.specs.Steps.{IsCompoundTurn, IsJudgedTurn, IsWhatTurn, judged_create, judgement_under}
use Rattle.session_server.specs.declared.extending.Judgement.{Judgement}
use Rattle.session_server.specs.declared.extending.Judgement.TheVariants as judgements
use Rattle.streams.specs.declared.draws.Drawn.{Drawn}
use Rattle.call_replies.specs.SealLaws.{inits_owner}

verdict_owner : {P : Type 0} (now : ℕ) (o : Option Verdict) (table : ContextTable P) → (counted_by now o table).owner ≡ table.owner
verdict_owner now None table = refl
verdict_owner now (Some verdict) table = refl

counted_owner : {P : Type 0} (now : ℕ) (call : Call) (table : ContextTable P) → (counted now call table).owner ≡ table.owner
counted_owner now call table = verdict_owner now call.verdict table

under_owner : {P : Type 0} (o : Option Under) (table : ContextTable P) → (ended_by o table).owner ≡ table.owner
under_owner None table = refl
under_owner (Some under) table = refl

unless_owner : {P : Type 0} (full : Bool) (derived : List ℕ → ℕ → List ℕ → List ℕ) (now parent : ℕ) (carry : P) (context : Context P) (table : ContextTable P)
    → (created_unless full derived now parent carry context table).table.owner ≡ table.owner
unless_owner true derived now parent carry context table = refl
unless_owner false derived now parent carry context table = refl

of_owner : {P : Type 0} (derived : List ℕ → ℕ → List ℕ → List ℕ) (now parent : ℕ) (carry : P) (o : Option (Context P)) (table : ContextTable P)
    → (created_of derived now parent carry o table).table.owner ≡ table.owner
of_owner derived now parent carry None table = refl
of_owner derived now parent carry (Some context) table = unless_owner (is_full now table.entries) derived now parent carry context table

by_owner : {P : Type 0} (derived : List ℕ → ℕ → List ℕ → List ℕ) (now : ℕ) (carry : P) (o : Option Under) (old table : ContextTable P)
    → (created_by derived now carry o old table).table.owner ≡ table.owner
by_owner derived now carry None old table = refl
by_owner derived now carry (Some under) old table = of_owner derived now under.number carry (context_of under.number old.entries) table

module _ {X C W : Type 0} (rules : Rules X C) (codes : Codes) (tokens : List ℕ → List ℕ → Option Accepted) (gives : W → Drawn → W → Type 0)
    (second conn : ℕ) (s : HostState X C) where
  abbrev Stays : Stepped X C → Type 0
  Stays t = t.host.contexts.owner ≡ s.contexts.owner

  stays : (t u : Stepped X C) → t ≡ u → Stays u → Stays t
  stays t u same is = subst Stays (sym same) is

  created_stays : (j : Judgement C) (call : Call) (t : Stepped X C) → t ≡ judged_create j rules.parting codes second conn call s → Stays t
  created_stays (judgements.Granted carry) call t is =
      stays t _ is (by_owner codes.derived second carry call.under s.contexts (counted second call s.contexts) ∙ counted_owner second call s.contexts)
  created_stays judgements.Misspelt call t is = stays t _ is (counted_owner second call s.contexts)
  created_stays (judgements.Refused cause) call t is = stays t _ is (counted_owner second call s.contexts)

  compound_stays : (o : Result Compound ℕ) (call : Call) (t : Stepped X C) → IsCompoundTurn rules codes second conn call o s t → Stays t
  compound_stays (Err at) call t is = stays t _ is (counted_owner second call s.contexts)
  compound_stays (Ok compound) call t is = stays t _ (is (choice_of t.out.used) (λ n below. refl)) (counted_owner second call s.contexts)

  what_stays : (what : What) (call : Call) (before after : W) (t : Stepped X C) → IsWhatTurn what rules codes tokens gives second conn call s before after t → Stays t
  what_stays (whats.Dropped why) call before after t turn = stays t _ turn.0 (counted_owner second call s.contexts)
  what_stays (whats.Denied why) call before after t turn = stays t _ turn.0 (counted_owner second call s.contexts)
  what_stays (whats.Failed fault) call before after t turn = stays t _ turn.0 (counted_owner second call s.contexts)
  what_stays whats.Null call before after t turn = stays t _ turn.0 (counted_owner second call s.contexts)
  what_stays (whats.Init token) call before after t turn =
      stays t _ turn.is
      (inits_owner codes.mic (tokens token) gives second (tokens token (replicate 32 0)) s.contexts turn.contexts before after turn.answers.answer turn.answers.inits)
  what_stays (whats.Create name privilege) call before after t turn = created_stays (judgement_under rules second name privilege s call.under) call t turn.0
  what_stays whats.Destroy call before after t turn =
      stays t _ turn.0 (under_owner call.under (counted second call s.contexts) ∙ counted_owner second call s.contexts)
  what_stays (whats.Compound args) call before after t turn = compound_stays _ call t turn.0

  pub turn_stays : (j : Judged) (before after : W) (t : Stepped X C) → IsJudgedTurn j rules codes tokens gives second conn s before after t → Stays t
  turn_stays judged.Unread before after t turn = stays t _ turn.0 refl
  turn_stays judged.Reply before after t turn = stays t _ turn.0 refl
  turn_stays (judged.Call call) before after t turn = what_stays call.what call before after t turn
