-- What a server sends in each step is an answer of its own.
use Rattle.std.proofs.Common.{◌≡◌, ◌∙◌, ℕ, true, List, [], ◌∷◌, Option, Some, None, Result, Ok, Err, refl, sym, ap, subst, lit<}
use Rattle.std.specs.Prelude.{replicate}
use Rattle.std.specs.List.{AllByRecursion}
use Rattle.gss_ctx.specs.Table.{ContextTable}
use Rattle.gss_mech.specs.Tokens.{IsSized}
use Rattle.gss_mech.specs.declared.mechanism.Accepted.{Accepted}
use Rattle.nfs_compound.specs.declared.compound.Compound.{Compound}
use Rattle.outbox.specs.declared.outgoing.Outgoing.{Outgoing}
use Rattle.rpc_calls.specs.Answers.{result_reply}
use Rattle.rpc_calls.specs.Judging.{judged_of}
use Rattle.rpc_calls.specs.declared.call.Call.{Call}
use Rattle.rpc_calls.specs.declared.contexts.InitAnswer.{InitAnswer}
use Rattle.rpc_calls.specs.declared.call.Judged.{Judged}
use Rattle.rpc_calls.specs.declared.call.Judged.TheVariants as judged
use Rattle.rpc_calls.specs.declared.call.TheConstants.Program as programs
use Rattle.rpc_calls.specs.declared.call.Under.{Under}
use Rattle.rpc_calls.specs.declared.call.What.{What}
use Rattle.rpc_calls.specs.declared.call.What.TheVariants as whats
use Rattle.rpc_msg.specs.Heads as heads
use Rattle.rpc_calls.specs.declared.numbers.TheConstants.{RPCSEC_GSS_PRIVILEGE_PROBLEM}
use Rattle.rpc_msg.specs.declared.reply.Denial.TheVariants.{Auth}
use Rattle.rpc_msg.specs.declared.reply.Stat.{Stat}
use Rattle.rpc_msg.specs.declared.reply.Stat.TheVariants.{Garbage}
use Rattle.server_volume.specs.Choices.{choice_of}
use Rattle.session_server.specs.Host.{Codes, HostState, Rules, Stepped}
use Rattle.session_server.specs.Steps.{IsCompoundTurn, IsJudgedTurn, IsWhatTurn, compound_given, compounded, failed, granted, judged_create, judgement_under, reply_seal}
use Rattle.session_server.specs.declared.extending.Judgement.{Judgement}
use Rattle.session_server.specs.declared.extending.Judgement.TheVariants as judgements
use Rattle.streams.specs.declared.draws.Drawn.{Drawn}
use Rattle.wire_spelling.specs.ReadLaws as reads
use Rattle.wire_spelling.specs.Replies.{is_reply}
use Rattle.wire_xdr.specs.Cursor.{IsBytes}
use Rattle.call_replies.specs.ReplyLaws.{denial_reply_is, failure_reply_is, init_reply_is, result_reply_is}
use Rattle.call_replies.specs.SaysLaws.{IsSaid, IsSpoken, auth_fits, garbage_fits, judged_says}
use Rattle.call_replies.specs.Sealed.{IsSealedBy}
use Rattle.call_replies.specs.SealLaws.{accepted_owner, inited_owner, under_owner, unsealed}
use Rattle.reply_laws.specs.Answers.{Answers, IsAnswer}

reply_owner : {P : Type 0} (table : ContextTable P) (under : Option Under) → IsSealedBy table.owner (reply_seal table under)
reply_owner table None = unsealed table.owner
reply_owner table (Some under) = under_owner table under.number under.seq

module _ {X C W : Type 0} (rules : Rules X C) (codes : Codes) (sized : IsSized codes.mic) (tokens : List ℕ → List ℕ → Option Accepted) (gives : W → Drawn → W → Type 0)
    (second conn : ℕ) (s : HostState X C) where
  abbrev Good : Stepped X C → Type 0
  Good t = Answers s.contexts.owner t.out

  silent : (t u : Stepped X C) → t ≡ u → u.out.sent ≡ [] → u.out.accepted ≡ None → Good t
  silent t u same none unaccepted =
      subst Good (sym same)
      (record {
        sent = subst (AllByRecursion (IsAnswer s.contexts.owner)) (sym none) tt;
        accepted = λ seal is. unsealed s.contexts.owner seal (sym unaccepted ∙ is);
      })

  one : (t u : Stepped X C) (reply : Outgoing) → t ≡ u → u.out.sent ≡ reply ∷ [] → is_reply reply.bytes ≡ true → IsSealedBy s.contexts.owner reply.seal
      → IsSealedBy s.contexts.owner u.out.accepted → Good t
  one t u reply same is said sealed accepted =
      subst Good (sym same) (record { sent = subst (AllByRecursion (IsAnswer s.contexts.owner)) (sym is) ((said, sealed), tt); accepted = accepted })

  module _ (call : Call) (spoken : IsSpoken call) where
    failed_good : (fault : Stat) (t : Stepped X C) → heads.stat.Fits fault → t ≡ failed rules.parting codes second conn call fault s → Good t
    failed_good fault t said is =
        one t (failed rules.parting codes second conn call fault s) _ is refl (failure_reply_is codes.mic s.contexts call fault sized spoken.fits said)
        (unsealed s.contexts.owner) (accepted_owner s.contexts call)

    result_good : (t u : Stepped X C) (result : List ℕ) (reply : Outgoing) → t ≡ u → u.out.sent ≡ reply ∷ [] → reply.bytes ≡ result_reply codes.mic s.contexts call result
        → reply.seal ≡ reply_seal s.contexts call.under → IsSealedBy s.contexts.owner u.out.accepted → Good t
    result_good t u result reply same is bytes seal accepted =
        one t u reply same is (ap is_reply bytes ∙ result_reply_is codes.mic s.contexts call result sized spoken.fits)
        (λ x e. reply_owner s.contexts call.under x (sym seal ∙ e)) accepted

    created_good : (j : Judgement C) (t : Stepped X C) → t ≡ judged_create j rules.parting codes second conn call s → Good t
    created_good (judgements.Granted carry) t is =
        result_good t (granted rules.parting codes second conn call carry s) _ _ is refl refl refl (accepted_owner s.contexts call)
    created_good judgements.Misspelt t is = failed_good Garbage t garbage_fits is
    created_good (judgements.Refused cause) t is =
        one t (judged_create (judgements.Refused cause) rules.parting codes second conn call s) _ is refl
        (denial_reply_is call (Auth RPCSEC_GSS_PRIVILEGE_PROBLEM) spoken.fits (auth_fits RPCSEC_GSS_PRIVILEGE_PROBLEM (lit< tt))) (unsealed s.contexts.owner)
        (accepted_owner s.contexts call)

    compound_good : (o : Result Compound ℕ) (t : Stepped X C) → IsCompoundTurn rules codes second conn call o s t → Good t
    compound_good (Err at) t is = failed_good Garbage t garbage_fits is
    compound_good (Ok compound) t is =
        let choice = choice_of t.out.used in
        result_good t (compounded rules codes second conn call compound s (compound_given rules choice second conn call.under compound s)) _ _
        (is choice (λ n below. refl)) refl refl refl (accepted_owner s.contexts call)

    what_good : (what : What) (before after : W) (t : Stepped X C) → IsSaid what → IsWhatTurn what rules codes tokens gives second conn call s before after t → Good t
    what_good (whats.Dropped why) before after t said turn = silent t _ turn.0 refl refl
    what_good (whats.Denied why) before after t said turn =
        one t _ _ turn.0 refl (denial_reply_is call why spoken.fits said) (unsealed s.contexts.owner) (accepted_owner s.contexts call)
    what_good (whats.Failed fault) before after t said turn = failed_good fault t said turn.0
    what_good whats.Null before after t said turn = result_good t _ [] _ turn.0 refl refl refl (accepted_owner s.contexts call)
    what_good (whats.Init token) before after t said turn =
        let told = turn.told in
        let a = turn.answers in
        one t _ _ turn.is refl
        (ap is_reply (ap (λ (x : InitAnswer). x.bytes) a.told_is)
        ∙ init_reply_is codes.mic (tokens token) gives call.head.xid second (tokens token (replicate 32 0)) s.contexts turn.contexts before after a.answer sized
        (reads.xid_small call.head spoken.fits) a.inits)
        (inited_owner codes.mic (tokens token) gives second (tokens token (replicate 32 0)) s.contexts turn.contexts before after a.answer told.made a.inits) (unsealed s.contexts.owner)
    what_good (whats.Create name privilege) before after t said turn =
        created_good (judgement_under rules second name privilege s call.under) t turn.0
    what_good whats.Destroy before after t said turn = result_good t _ [] _ turn.0 refl refl refl (accepted_owner s.contexts call)
    what_good (whats.Compound args) before after t said turn = compound_good _ t turn.0

  judged_good : (j : Judged) (before after : W) (t : Stepped X C) → ((call : Call) → j ≡ judged.Call call → IsSpoken call)
      → IsJudgedTurn j rules codes tokens gives second conn s before after t → Good t
  judged_good judged.Unread before after t speaks turn = silent t _ turn.0 refl refl
  judged_good judged.Reply before after t speaks turn = silent t _ turn.0 refl refl
  judged_good (judged.Call call) before after t speaks turn =
      let spoken = speaks call refl in
      what_good call spoken call.what before after t spoken.said turn

  pub turn_good : (bytes : List ℕ) → IsBytes bytes → (before after : W) (t : Stepped X C)
      → IsJudgedTurn (judged_of codes.mic second programs.NFS bytes s.contexts) rules codes tokens gives second conn s before after t → Good t
  turn_good bytes all before after t turn =
      judged_good (judged_of codes.mic second programs.NFS bytes s.contexts) before after t
      (λ call is. judged_says codes.mic second programs.NFS bytes s.contexts call (lit< tt) all is) turn
