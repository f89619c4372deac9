-- What a step leaves of a server's contexts.
use Rattle.std.proofs.Common.{◌≡◌, ℕ, ◌+◌, List, Option, Result, Ok, Err, refl, sym, subst}
use Rattle.std.specs.Prelude.{max}
use Rattle.gss_ctx.specs.Table.{ContextTable}
use Rattle.gss_mech.specs.declared.mechanism.Accepted.{Accepted}
use Rattle.nfs_compound.specs.Compounds.{compound_of}
use Rattle.nfs_compound.specs.declared.compound.Compound.{Compound}
use Rattle.outbox.specs.declared.note.Note.TheVariants as notes
use Rattle.rpc_calls.specs.Answers.{counted}
use Rattle.rpc_calls.specs.Judging.{judged_of}
use Rattle.rpc_calls.specs.declared.call.Call.{Call}
use Rattle.rpc_calls.specs.declared.call.Judged.{Judged}
use Rattle.rpc_calls.specs.declared.call.Judged.TheVariants as judged
use Rattle.rpc_calls.specs.declared.call.TheConstants.Program as programs
use Rattle.rpc_calls.specs.declared.call.What.{What}
use Rattle.rpc_calls.specs.declared.call.What.TheVariants as whats
use Rattle.rpc_msg.specs.declared.reply.Stat.TheVariants.{Garbage}
use Rattle.server_volume.specs.Choices.{choice_of}
use Rattle.streams.specs.declared.draws.Drawn.{Drawn}
use Rattle.context_laws.specs.View.{AreNumbered, Follows}
use Rattle.context_laws.specs.TableLaws.{counted_follows, ended_follows, follows_itself}
use Rattle.context_laws.specs.MadeLaws.{answers_init, begun_follows, created_follows}
use Rattle.session_server.specs.declared.extending.Judgement.{Judgement}
use Rattle.session_server.specs.declared.extending.Judgement.TheVariants as judgements
use Rattle.session_server.specs.Host.{Codes, HostState, Rules, Stepped}
use Rattle.session_server.specs.Labels.{drop_cause}
use Rattle.session_server.specs.Steps.{IsCompoundTurn, IsJudgedTurn, IsTurn, IsWhatTurn, compound_given, compounded, denied, dropped, failed, judged_create, judgement_under, on_null}

-- its contexts follow those before, and the step is counted
pub record IsAfter {X C : Type 0} (s : HostState X C) (t : Stepped X C) : Type 0 where
  pub follows : Follows s.contexts t.host.contexts
  pub steps : t.host.steps ≡ s.steps + 1

module _ {X C W : Type 0} (rules : Rules X C) (codes : Codes) (accepted : List ℕ → List ℕ → Option Accepted) (gives : W → Drawn → W → Type 0)
    (second conn : ℕ) (s : HostState X C) (before after : W) (numbered : AreNumbered s.contexts.made s.contexts.entries) where
  module _ (call : Call) where
    is_counted : (t u : Stepped X C) → t ≡ u → u.host.contexts ≡ counted second call s.contexts → u.host.steps ≡ s.steps + 1 → IsAfter s t
    is_counted t u is contexts steps =
        subst (λ (v : Stepped X C). IsAfter s v) (sym is) (record {
          follows = subst (λ (c : ContextTable C). Follows s.contexts c) (sym contexts) (counted_follows second call s.contexts numbered);
          steps = steps;
        })

    after_create : (judgement : Judgement C) (t : Stepped X C) → t ≡ judged_create judgement rules.parting codes second conn call s → IsAfter s t
    after_create (judgements.Granted carry) t is =
        subst (λ (v : Stepped X C). IsAfter s v) (sym is) (record { follows = created_follows codes.derived second carry call s.contexts numbered; steps = refl })
    after_create judgements.Misspelt t is = is_counted t (failed rules.parting codes second conn call Garbage s) is refl refl
    after_create (judgements.Refused cause) t is = is_counted t (judged_create (judgements.Refused cause) rules.parting codes second conn call s) is refl refl

    after_compound : (compound : Result Compound ℕ) (t : Stepped X C) → IsCompoundTurn rules codes second conn call compound s t → IsAfter s t
    after_compound (Err at) t is = is_counted t (failed rules.parting codes second conn call Garbage s) is refl refl
    after_compound (Ok compound) t is =
        let choice = choice_of t.out.used in
        is_counted t (compounded rules codes second conn call compound s (compound_given rules choice second conn call.under compound s)) (is choice (λ n lt. refl)) refl refl

    after_what : (what : What) (t : Stepped X C) → IsWhatTurn what rules codes accepted gives second conn call s before after t → IsAfter s t
    after_what (whats.Dropped why) t turn =
        is_counted t (dropped rules.parting second (counted second call s.contexts) (notes.Dropped (drop_cause why)) s) turn.0 refl refl
    after_what (whats.Denied why) t turn = is_counted t (denied rules.parting second conn call why s) turn.0 refl refl
    after_what (whats.Failed failure) t turn = is_counted t (failed rules.parting codes second conn call failure s) turn.0 refl refl
    after_what whats.Null t turn = is_counted t (on_null rules.parting codes second conn call s) turn.0 refl refl
    after_what (whats.Init token) t turn =
        subst (λ (v : Stepped X C). IsAfter s v) (sym turn.is) (record {
          follows = begun_follows second s.contexts turn.contexts turn.told.made numbered
              (answers_init codes.mic (accepted token) gives second call.head.xid _ s.contexts turn.contexts before after turn.told turn.answers);
          steps = refl;
        })
    after_what (whats.Create name privilege) t turn = after_create (judgement_under rules second name privilege s call.under) t turn.0
    after_what whats.Destroy t turn =
        subst (λ (v : Stepped X C). IsAfter s v) (sym turn.0) (record { follows = ended_follows second call s.contexts numbered; steps = refl })
    after_what (whats.Compound args) t turn = after_compound (compound_of args) t turn.0

  after_judged : (told : Judged) (t : Stepped X C) → IsJudgedTurn told rules codes accepted gives second conn s before after t → IsAfter s t
  after_judged judged.Unread t turn =
      subst (λ (v : Stepped X C). IsAfter s v) (sym turn.0) (record { follows = follows_itself s.contexts numbered; steps = refl })
  after_judged judged.Reply t turn =
      subst (λ (v : Stepped X C). IsAfter s v) (sym turn.0) (record { follows = follows_itself s.contexts numbered; steps = refl })
  after_judged (judged.Call call) t turn = after_what call call.what t turn

pub after_turn : {X C W : Type 0} (rules : Rules X C) (codes : Codes) (accepted : List ℕ → List ℕ → Option Accepted) (gives : W → Drawn → W → Type 0)
    (conn : ℕ) (bytes : List ℕ) (now : ℕ) (s : HostState X C) (before after : W) (t : Stepped X C) → AreNumbered s.contexts.made s.contexts.entries
    → IsTurn rules codes accepted gives conn bytes now s before after t → IsAfter s t
after_turn rules codes accepted gives conn bytes now s before after t numbered turn =
    after_judged rules codes accepted gives (max s.second now) conn s before after numbered (judged_of codes.mic (max s.second now) programs.NFS bytes s.contexts) t turn
