-- What a server sends under a seal is sealed by its own.
use Rattle.std.proofs.Common.{◌≡◌, ℕ, List, [], ◌∷◌, map, Contains, Option, Some, None, Result, Ok, Err, refl, sym, ap, subst, ◌∙◌}
use Rattle.std.specs.Prelude.{max}
use Rattle.gss_ctx.specs.Table.{ContextTable}
use Rattle.gss_mech.specs.declared.mechanism.Accepted.{Accepted}
use Rattle.nfs_base.specs.declared.seal.End.{End}
use Rattle.nfs_base.specs.declared.seal.Seal.{Seal}
use Rattle.nfs_compound.specs.Compounds.{compound_of}
use Rattle.nfs_compound.specs.declared.compound.Compound.{Compound}
use Rattle.outbox.specs.declared.outgoing.Outgoing.{Outgoing}
use Rattle.rpc_calls.specs.Judging.{judged_of}
use Rattle.rpc_calls.specs.Making.{made_seal}
use Rattle.rpc_calls.specs.declared.call.Call.{Call}
use Rattle.rpc_calls.specs.declared.call.Judged.{Judged}
use Rattle.rpc_calls.specs.declared.call.Judged.TheVariants as judged
use Rattle.rpc_calls.specs.declared.call.TheConstants.Program as programs
use Rattle.rpc_calls.specs.declared.call.Under.{Under}
use Rattle.rpc_calls.specs.declared.call.What.{What}
use Rattle.rpc_calls.specs.declared.call.What.TheVariants as whats
use Rattle.server_volume.specs.Choices.{choice_of}
use Rattle.streams.specs.declared.draws.Drawn.{Drawn}
use Rattle.session_server.specs.declared.extending.Judgement.{Judgement}
use Rattle.session_server.specs.declared.extending.Judgement.TheVariants as judgements
use Rattle.session_server.specs.Host.{Codes, HostState, Rules, Stepped}
use Rattle.session_server.specs.Steps.{IsCompoundTurn, IsJudgedTurn, IsWhatTurn, judged_create, judgement_under, reply_seal}
use Rattle.server_laws.specs.Lawful.{SealsOwn}
use Rattle.server_laws.specs.Steps.{IsStep}
use Rattle.server_laws.proofs.Sealed.{Carries, sends_none, sends_one, unsealed_one}
use Rattle.server_laws.proofs.Turns.{after_turn}

-- a seal of a table is its owner's
owner_under : {P : Type 0} (table : ContextTable P) (under : Option Under) (seal : Seal) → reply_seal table under ≡ Some seal → seal.owner ≡ table.owner
owner_under table None seal h = absurd cc
owner_under table (Some under) seal h =
    let same : record { owner = table.owner; boot = table.boot; number = under.number; seq = under.seq } ≡ seal = cc in
    sym (ap (λ (x : Seal). x.owner) same)

owner_made : {P : Type 0} (table : ContextTable P) (made : Option ℕ) (seal : Seal) → made_seal table made ≡ Some seal → seal.owner ≡ table.owner
owner_made table None seal h = absurd cc
owner_made table (Some number) seal h =
    let same : record { owner = table.owner; boot = table.boot; number = number; seq = 0 } ≡ seal = cc in
    sym (ap (λ (x : Seal). x.owner) same)

module _ {X C W : Type 0} (rules : Rules X C) (codes : Codes) (accepted : List ℕ → List ℕ → Option Accepted) (gives : W → Drawn → W → Type 0)
    (second conn : ℕ) (s : HostState X C) (before after : W) (t : Stepped X C) (owner : t.host.contexts.owner ≡ s.contexts.owner) where
  abbrev Owns : List Outgoing → Type 0
  Owns sent = (reply : List ℕ) (seal : Seal) → Carries sent reply seal → seal.owner ≡ s.contexts.owner

  by_this : (u : Stepped X C) → t ≡ u → Owns u.out.sent → Owns t.out.sent
  by_this u is owns = subst (λ (x : Stepped X C). Owns x.out.sent) (sym is) owns

  by_none : (u : Stepped X C) → t ≡ u → u.out.sent ≡ [] → Owns t.out.sent
  by_none u is none = by_this u is (subst Owns (sym none) (λ reply seal c. absurd (sends_none reply seal c)))

  by_plain : (u : Stepped X C) (o : Outgoing) → t ≡ u → u.out.sent ≡ o ∷ [] → o.seal ≡ None → Owns t.out.sent
  by_plain u o is sent none = by_this u is (subst Owns (sym sent) (λ reply seal c. absurd (unsealed_one o none reply seal c)))

  by_reply : (u : Stepped X C) (o : Outgoing) (under : Option Under) → t ≡ u → u.out.sent ≡ o ∷ [] → o.seal ≡ reply_seal s.contexts under → Owns t.out.sent
  by_reply u o under is sent sealed =
      by_this u is (subst Owns (sym sent) (λ reply seal c. owner_under s.contexts under seal (sym sealed ∙ (sends_one o reply seal c).1)))

  by_init : (u : Stepped X C) (o : Outgoing) (made : Option ℕ) → t ≡ u → u.out.sent ≡ o ∷ [] → o.seal ≡ made_seal u.host.contexts made → Owns t.out.sent
  by_init u o made is sent sealed =
      by_this u is (subst Owns (sym sent) (λ reply seal c.
      owner_made u.host.contexts made seal (sym sealed ∙ (sends_one o reply seal c).1) ∙ sym (ap (λ (x : Stepped X C). x.host.contexts.owner) is) ∙ owner))

  create_owns : (call : Call) (told : Judgement C) → t ≡ judged_create told rules.parting codes second conn call s → Owns t.out.sent
  create_owns call (judgements.Granted carry) is = by_reply _ _ call.under is refl refl
  create_owns call judgements.Misspelt is = by_plain _ _ is refl refl
  create_owns call (judgements.Refused cause) is = by_plain _ _ is refl refl

  read_owns : (call : Call) (r : Result Compound ℕ) → IsCompoundTurn rules codes second conn call r s t → Owns t.out.sent
  read_owns call (Err at) turn = by_plain _ _ turn refl refl
  read_owns call (Ok c) turn = by_reply _ _ call.under (turn (choice_of t.out.used) (λ n below. refl)) refl refl

  what_owns : (call : Call) (what : What) → IsWhatTurn what rules codes accepted gives second conn call s before after t → Owns t.out.sent
  what_owns call (whats.Dropped why) turn = by_none _ turn.0 refl
  what_owns call (whats.Denied why) turn = by_plain _ _ turn.0 refl refl
  what_owns call (whats.Failed failure) turn = by_plain _ _ turn.0 refl refl
  what_owns call whats.Null turn = by_reply _ _ call.under turn.0 refl refl
  what_owns call (whats.Init token) turn = by_init _ _ turn.told.made turn.is refl refl
  what_owns call (whats.Create name privilege) turn = create_owns call (judgement_under rules second name privilege s call.under) turn.0
  what_owns call whats.Destroy turn = by_reply _ _ call.under turn.0 refl refl
  what_owns call (whats.Compound args) turn = read_owns call (compound_of args) turn.0

  judged_owns : (j : Judged) → IsJudgedTurn j rules codes accepted gives second conn s before after t → Owns t.out.sent
  judged_owns judged.Unread turn = by_none _ turn.0 refl
  judged_owns judged.Reply turn = by_none _ turn.0 refl
  judged_owns (judged.Call call) turn = what_owns call call.what turn

pub step_owns : {X C W : Type 0} (rules : Rules X C) (codes : Codes) (accepted : List ℕ → List ℕ → Option Accepted) (gives : W → Drawn → W → Type 0)
    (conn : ℕ) (bytes : List ℕ) (now : ℕ) (s : HostState X C) (before after : W) (t : Stepped X C)
    → IsStep rules codes accepted gives conn bytes now s before after t → SealsOwn codes bytes now s t
step_owns rules codes accepted gives conn bytes now s before after t step =
    judged_owns rules codes accepted gives (max s.second now) conn s before after t
    (after_turn rules codes accepted gives conn bytes now s before after t step.good.numbered step.turn).follows.owner
    (judged_of codes.mic (max s.second now) programs.NFS bytes s.contexts) step.turn
