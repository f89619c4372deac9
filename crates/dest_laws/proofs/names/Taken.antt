-- The steps in which a record is taken on a connection.
use Rattle.std.proofs.Common.{◌≡◌, ◌∙◌, ℕ, List, Option, Some, None, Result, Ok, Err, refl, sym, ap, subst}
use Rattle.std.specs.Prelude.{max}
use Rattle.std.specs.List.{AllByRecursion}
use Rattle.dest_back.specs.declared.hearing.Hearing.{Hearing}
use Rattle.dest_back.specs.declared.hearing.Hearing.TheVariants as hears
use Rattle.dest_core.specs.Core.{dest_rules}
use Rattle.dest_core.specs.Stepping.{DestState, DestStep, IsRecord, IsRecordBy, answer_step, copier_in, second_in}
use Rattle.dest_core.specs.declared.destination.Destination.{Destination}
use Rattle.dest_jobs.specs.declared.carried.Carried.{Carried}
use Rattle.dest_laws.proofs.names.Backs.{compound_fits}
use Rattle.dest_laws.specs.Names.Going.{KeepsCallbacks, StaysTold}
use Rattle.dest_laws.specs.Names.GoingLaws.{same_told}
use Rattle.dest_laws.specs.Names.Holding.{IsServers, IsServersSeal}
use Rattle.dest_laws.specs.Names.Posts.{SessionsFit}
use Rattle.dest_steps.specs.Hearing.{heard_client, hearing_done}
use Rattle.dest_steps.specs.declared.copier.Copier.{Copier}
use Rattle.gss_ctx.specs.Seals.{Mic}
use Rattle.gss_ctx.specs.Table.{ContextTable, context_of}
use Rattle.gss_ctx.specs.declared.context.Context.{Context}
use Rattle.gss_mech.specs.declared.mechanism.Accepted.{Accepted}
use Rattle.nfs_base.specs.declared.seal.End.TheVariants.{Dest}
use Rattle.nfs_base.specs.declared.seal.Seal.{Seal}
use Rattle.nfs_compound.specs.Compounds.{compound_of}
use Rattle.nfs_compound.specs.declared.compound.Compound.{Compound}
use Rattle.own_laws.specs.Following.{InTurns}
use Rattle.rpc_calls.specs.Answers.{seal_in}
use Rattle.rpc_calls.specs.Judging.{judged_of}
use Rattle.rpc_calls.specs.Making.{made_seal}
use Rattle.rpc_calls.specs.declared.call.Call.{Call}
use Rattle.rpc_calls.specs.declared.call.Judged.{Judged}
use Rattle.rpc_calls.specs.declared.call.Judged.TheVariants as judged
use Rattle.rpc_calls.specs.declared.call.TheConstants.Program as programs
use Rattle.rpc_calls.specs.declared.call.Under.{Under}
use Rattle.rpc_calls.specs.declared.call.What.TheVariants as whats
use Rattle.rpc_calls.specs.declared.call.What.{What}
use Rattle.server_volume.specs.Choices.{Choice, choice_of}
use Rattle.session_server.specs.Host as hosts
use Rattle.session_server.specs.Steps.{IsCompoundTurn, IsJudgedTurn, IsWhatTurn, compound_given, given_by, judged_create, judgement_under, reply_seal, who_calls}
use Rattle.session_server.specs.declared.extending.Judgement.{Judgement}
use Rattle.session_server.specs.declared.extending.Judgement.TheVariants as judgements
use Rattle.streams.specs.declared.draws.Drawn.{Drawn}

-- ---- a client's reply to a callback changes no callback

heard_told : (boot : ℕ) (hearing : Hearing) (x : Copier) → StaysTold x.back (hearing_done boot hearing x).0.back
heard_told boot hears.Unmatched x = same_told x.back
heard_told boot (hears.Passed number accepted) x = same_told x.back
heard_told boot (hears.Done number seal) x = same_told x.back

answer_told : {M : Type 0} (mic : Mic) (message : List ℕ) (now : ℕ) (s : DestState M) → StaysTold (copier_in s).back (copier_in (answer_step mic message now s).host).back
answer_told mic message now s =
    let boot = s.state.machine.store.volume.boot in
    heard_told boot (heard_client mic boot message (copier_in s)) (copier_in (second_in now s))

-- ---- a seal of the server's own contexts

made_own : (contexts : ContextTable Carried) (number : Option ℕ) → contexts.owner ≡ Dest → IsServersSeal (made_seal contexts number)
made_own contexts None own seal is = absurd cc
made_own contexts (Some number) own seal is = let same : seal_in contexts number 0 ≡ seal = cc in ap (λ (x : Seal). x.owner) (sym same) ∙ own

no_seal : IsServersSeal None
no_seal seal is = absurd cc

module _ {M W : Type 0} (codes : hosts.Codes) (accepted : List ℕ → List ℕ → Option Accepted) (gives : W → Drawn → W → Type 0) where
  module _ (law : InTurns {X = Destination M} {C = Carried} KeepsCallbacks dest_rules codes accepted gives) where
    told_by : (j : Judged) (conn : ℕ) (message : List ℕ) (now : ℕ) (s : DestState M) (before after : W) (t : DestStep M)
        → judged_of codes.mic (max s.second now) programs.NFS message s.contexts ≡ j → IsRecordBy j codes accepted gives conn message now s before after t
        → StaysTold (copier_in s).back (copier_in t.host).back
    told_by judged.Reply conn message now s before after t is turn =
        subst (λ (u : DestStep M). StaysTold (copier_in s).back (copier_in u.host).back) (sym turn.is) (answer_told codes.mic message now s)
    told_by judged.Unread conn message now s before after t is turn =
        law conn message now s before after t
        (subst (λ (j : Judged). IsJudgedTurn j dest_rules codes accepted gives (max s.second now) conn s before after t) (sym is) turn)
    told_by (judged.Call call) conn message now s before after t is turn =
        law conn message now s before after t
        (subst (λ (j : Judged). IsJudgedTurn j dest_rules codes accepted gives (max s.second now) conn s before after t) (sym is) turn)

    pub record_told : (conn : ℕ) (message : List ℕ) (now : ℕ) (s : DestState M) (before after : W) (t : DestStep M)
        → IsRecord codes accepted gives conn message now s before after t → StaysTold (copier_in s).back (copier_in t.host).back
    record_told conn message now s before after t turn =
        told_by (judged_of codes.mic (max s.second now) programs.NFS message s.contexts) conn message now s before after t refl turn

  -- ---- what goes out is sealed by the server's own contexts

  abbrev Own : DestStep M → Type 0
  Own t = AllByRecursion IsServers t.out.sent

  under_own : (s : DestState M) (under : Option Under) → s.contexts.owner ≡ Dest → IsServersSeal (reply_seal s.contexts under)
  under_own s None own seal is = absurd cc
  under_own s (Some under) own seal is = let same : seal_in s.contexts under.number under.seq ≡ seal = cc in ap (λ (x : Seal). x.owner) (sym same) ∙ own

  turn_own : (second conn : ℕ) (call : Call) (c : Result Compound ℕ) (s : DestState M) (t : DestStep M) → s.contexts.owner ≡ Dest
      → IsCompoundTurn dest_rules codes second conn call c s t → Own t
  turn_own second conn call (Err at) s t own turn = subst Own (sym turn) (no_seal, tt)
  turn_own second conn call (Ok c) s t own turn =
      let choice = choice_of t.out.used in
      subst Own (sym (turn choice (λ n below. refl))) (under_own s call.under own, tt)

  created_own : (judgement : Judgement Carried) (second conn : ℕ) (call : Call) (s : DestState M) → s.contexts.owner ≡ Dest
      → Own (judged_create judgement dest_rules.parting codes second conn call s)
  created_own (judgements.Granted carry) second conn call s own = (under_own s call.under own, tt)
  created_own judgements.Misspelt second conn call s own = (no_seal, tt)
  created_own (judgements.Refused cause) second conn call s own = (no_seal, tt)

  what_own : (what : What) (second conn : ℕ) (call : Call) (s : DestState M) (before after : W) (t : DestStep M) → s.contexts.owner ≡ Dest → t.host.contexts.owner ≡ Dest
      → IsWhatTurn what dest_rules codes accepted gives second conn call s before after t → Own t
  what_own (whats.Dropped why) second conn call s before after t own now turn = subst Own (sym turn.0) tt
  what_own (whats.Denied why) second conn call s before after t own now turn = subst Own (sym turn.0) (no_seal, tt)
  what_own (whats.Failed failure) second conn call s before after t own now turn = subst Own (sym turn.0) (no_seal, tt)
  what_own whats.Null second conn call s before after t own now turn = subst Own (sym turn.0) (under_own s call.under own, tt)
  what_own (whats.Init token) second conn call s before after t own now turn =
      subst Own (sym turn.is) (made_own turn.contexts turn.told.made (sym (ap (λ (u : DestStep M). u.host.contexts.owner) turn.is) ∙ now), tt)
  what_own (whats.Create name privilege) second conn call s before after t own now turn =
      subst Own (sym turn.0) (created_own (judgement_under dest_rules second name privilege s call.under) second conn call s own)
  what_own whats.Destroy second conn call s before after t own now turn = subst Own (sym turn.0) (under_own s call.under own, tt)
  what_own (whats.Compound args) second conn call s before after t own now turn = turn_own second conn call (compound_of args) s t own turn.0

  own_by : (j : Judged) (conn : ℕ) (message : List ℕ) (now : ℕ) (s : DestState M) (before after : W) (t : DestStep M) → s.contexts.owner ≡ Dest → t.host.contexts.owner ≡ Dest
      → IsRecordBy j codes accepted gives conn message now s before after t → Own t
  own_by judged.Reply conn message now s before after t own then_own turn = subst Own (sym turn.is) tt
  own_by judged.Unread conn message now s before after t own then_own turn = subst Own (sym turn.0) tt
  own_by (judged.Call call) conn message now s before after t own then_own turn = what_own call.what (max s.second now) conn call s before after t own then_own turn

  pub record_own : (conn : ℕ) (message : List ℕ) (now : ℕ) (s : DestState M) (before after : W) (t : DestStep M) → s.contexts.owner ≡ Dest → t.host.contexts.owner ≡ Dest
      → IsRecord codes accepted gives conn message now s before after t → AllByRecursion IsServers t.out.sent
  record_own conn message now s before after t own then_own turn =
      own_by (judged_of codes.mic (max s.second now) programs.NFS message s.contexts) conn message now s before after t own then_own turn

  -- ---- sessions

  abbrev Fit : DestStep M → Type 0
  Fit t = SessionsFit t.host.state.sessions

  given_fits : (choice : Choice) (second conn : ℕ) (under : Under) (context : Option (Context Carried)) (c : Compound) (s : DestState M) → SessionsFit s.state.sessions
      → SessionsFit (given_by dest_rules choice second conn under context c s.state).state.sessions
  given_fits choice second conn under None c s fit = fit
  given_fits choice second conn under (Some context) c s fit =
      compound_fits dest_rules.parting dest_rules.service choice (who_calls second conn under context) context.principal context.carry c s.state fit

  under_fits : (choice : Choice) (second conn : ℕ) (under : Option Under) (c : Compound) (s : DestState M) → SessionsFit s.state.sessions
      → SessionsFit (compound_given dest_rules choice second conn under c s).state.sessions
  under_fits choice second conn None c s fit = fit
  under_fits choice second conn (Some under) c s fit = given_fits choice second conn under (context_of under.number s.contexts.entries) c s fit

  turn_fits : (second conn : ℕ) (call : Call) (c : Result Compound ℕ) (s : DestState M) (t : DestStep M) → SessionsFit s.state.sessions
      → IsCompoundTurn dest_rules codes second conn call c s t → Fit t
  turn_fits second conn call (Err at) s t fit turn = subst Fit (sym turn) fit
  turn_fits second conn call (Ok c) s t fit turn =
      let choice = choice_of t.out.used in
      subst Fit (sym (turn choice (λ n below. refl))) (under_fits choice second conn call.under c s fit)

  created_fits : (judgement : Judgement Carried) (second conn : ℕ) (call : Call) (s : DestState M) → SessionsFit s.state.sessions
      → Fit (judged_create judgement dest_rules.parting codes second conn call s)
  created_fits (judgements.Granted carry) second conn call s fit = fit
  created_fits judgements.Misspelt second conn call s fit = fit
  created_fits (judgements.Refused cause) second conn call s fit = fit

  what_fits : (what : What) (second conn : ℕ) (call : Call) (s : DestState M) (before after : W) (t : DestStep M) → SessionsFit s.state.sessions
      → IsWhatTurn what dest_rules codes accepted gives second conn call s before after t → Fit t
  what_fits (whats.Dropped why) second conn call s before after t fit turn = subst Fit (sym turn.0) fit
  what_fits (whats.Denied why) second conn call s before after t fit turn = subst Fit (sym turn.0) fit
  what_fits (whats.Failed failure) second conn call s before after t fit turn = subst Fit (sym turn.0) fit
  what_fits whats.Null second conn call s before after t fit turn = subst Fit (sym turn.0) fit
  what_fits (whats.Init token) second conn call s before after t fit turn = subst Fit (sym turn.is) fit
  what_fits (whats.Create name privilege) second conn call s before after t fit turn =
      subst Fit (sym turn.0) (created_fits (judgement_under dest_rules second name privilege s call.under) second conn call s fit)
  what_fits whats.Destroy second conn call s before after t fit turn = subst Fit (sym turn.0) fit
  what_fits (whats.Compound args) second conn call s before after t fit turn = turn_fits second conn call (compound_of args) s t fit turn.0

  fits_by : (j : Judged) (conn : ℕ) (message : List ℕ) (now : ℕ) (s : DestState M) (before after : W) (t : DestStep M) → SessionsFit s.state.sessions
      → IsRecordBy j codes accepted gives conn message now s before after t → Fit t
  fits_by judged.Reply conn message now s before after t fit turn = subst Fit (sym turn.is) fit
  fits_by judged.Unread conn message now s before after t fit turn = subst Fit (sym turn.0) fit
  fits_by (judged.Call call) conn message now s before after t fit turn = what_fits call.what (max s.second now) conn call s before after t fit turn

  pub record_fits : (conn : ℕ) (message : List ℕ) (now : ℕ) (s : DestState M) (before after : W) (t : DestStep M)
      → IsRecord codes accepted gives conn message now s before after t → SessionsFit s.state.sessions → SessionsFit t.host.state.sessions
  record_fits conn message now s before after t turn fit =
      fits_by (judged_of codes.mic (max s.second now) programs.NFS message s.contexts) conn message now s before after t fit turn
