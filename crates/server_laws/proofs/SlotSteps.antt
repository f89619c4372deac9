-- What a step is to the slots: a COMPOUND that is carried out, or another.
use Rattle.std.proofs.Common.{◌≡◌, ◌⊎◌, inl, inr, ℕ, zero, suc, ◌+◌, ◌<◌, false, List, [], ◌∷◌, length, get_or, Contains, Option, Some, None, Result, Ok, Err, refl, sym, ap, subst, ◌∙◌, arith}
use Rattle.std.specs.Prelude.{max}
use Rattle.gss_ctx.specs.Table.{AreDistinct}
use Rattle.gss_mech.specs.declared.mechanism.Accepted.{Accepted}
use Rattle.nfs_base.specs.declared.seal.Seal.{Seal}
use Rattle.nfs_compound.specs.Compounds.{compound_of}
use Rattle.nfs_compound.specs.declared.compound.Compound.{Compound}
use Rattle.outbox.specs.declared.outgoing.Outgoing.{Outgoing}
use Rattle.rpc_calls.specs.Judging.{judged_of}
use Rattle.rpc_calls.specs.declared.call.Call.{Call}
use Rattle.rpc_calls.specs.declared.call.Judged.{Judged}
use Rattle.rpc_calls.specs.declared.call.Judged.TheVariants as judged
use Rattle.rpc_calls.specs.declared.call.TheConstants.Program as programs
use Rattle.rpc_calls.specs.declared.call.Under.{Under}
use Rattle.rpc_calls.specs.declared.call.What.{What}
use Rattle.rpc_calls.specs.declared.call.What.TheVariants as whats
use Rattle.server_volume.specs.Choices.{Choice, choice_of}
use Rattle.streams.specs.declared.draws.Drawn.{Drawn}
use Rattle.session_server.specs.Host.{Codes, HostState, Rules, Stepped}
use Rattle.session_server.specs.Steps.{IsCompoundTurn, IsJudgedTurn, IsTurn, IsWhatTurn, compound_given, compounded, going_back, given_by}
use Rattle.session_server.specs.declared.extending.Judgement.{Judgement}
use Rattle.session_server.specs.declared.extending.Judgement.TheVariants as judgements
use Rattle.session_server.specs.Steps as steps
use Rattle.slot_calls.specs.Asked.{IsAsked, IsOpen}
use Rattle.slot_calls.specs.JudgedLaws.{compound_asked, named_opens}
use Rattle.wire_model.specs.Wire.{Sent}
use Rattle.server_laws.specs.Acts.{sent_of, tells, tells_for, tells_read, tells_under, tells_what}
use Rattle.server_laws.specs.Slots.{AnswersSlot, IsCompoundStep, IsOtherStep}

-- ---- what is sent

none_sent : (x : Sent) → Contains [] x → ⊥
none_sent x c = absurd (let below = c.1 in omega arith)

pub only_sent : (sent x : Sent) → Contains (sent ∷ []) x → sent ≡ x
only_sent sent x c = at c.0 c.1 c.2
  where
    at : (k : ℕ) → k < length (sent ∷ []) → get_or (sent ∷ []) k x ≡ x → sent ≡ x
    at zero below is = is
    at (suc k) below is = absurd (omega arith)

unsealed_sent : (o : Outgoing) → o.seal ≡ None → (reply : List ℕ) (seal : Seal) → Contains (sent_of o ∷ []) (record { bytes = reply; seal = Some seal }) → ⊥
unsealed_sent o none reply seal c =
    let same : o.seal ≡ Some seal = ap (λ (x : Sent). x.seal) (only_sent (sent_of o) _ c) in
    absurd (let wrong = sym none ∙ same in cc)

-- these are open to no call that names a slot
null_closed : IsOpen whats.Null → ⊥
null_closed (inl wrong) = wrong
null_closed (inr c) = absurd (let e = c.1 in cc)

init_closed : (token : List ℕ) → IsOpen (whats.Init token) → ⊥
init_closed token (inl wrong) = wrong
init_closed token (inr c) = absurd (let e = c.1 in cc)

create_closed : (name privilege : List ℕ) → IsOpen (whats.Create name privilege) → ⊥
create_closed name privilege (inl wrong) = wrong
create_closed name privilege (inr c) = absurd (let e = c.1 in cc)

destroy_closed : IsOpen whats.Destroy → ⊥
destroy_closed (inl wrong) = wrong
destroy_closed (inr c) = absurd (let e = c.1 in cc)

module _ {X C W : Type 0} (rules : Rules X C) (codes : Codes) (accepted : List ℕ → List ℕ → Option Accepted) (gives : W → Drawn → W → Type 0)
    (conn : ℕ) (bytes : List ℕ) (second : ℕ) (s : HostState X C) (before after : W) (t : Stepped X C) where
  abbrev here : Judged
  here = judged_of codes.mic second programs.NFS bytes s.contexts

  abbrev Kind : Type 0
  Kind = IsCompoundStep rules codes conn bytes second s t ⊎ IsOtherStep codes bytes second s t

  -- it leaves the files
  abbrev IsStill : Stepped X C → Type 0
  IsStill u = (u.host.state.machine.store ≡ s.state.machine.store) × (u.out.used ≡ [])

  -- another step, by what it is
  other : (u : Stepped X C) → t ≡ u → u.host.state.sessions ≡ s.state.sessions → IsStill u → u.host.steps ≡ s.steps + 1
      → tells here s.contexts s.state.sessions ≡ false → (AnswersSlot bytes u.out.sent → ⊥) → Kind
  other u is sessions still steps none unanswered = inr (record {
    sessions = ap (λ x. x.host.state.sessions) is ∙ sessions;
    store = ap (λ x. x.host.state.machine.store) is ∙ still.0;
    unused = ap (λ x. x.out.used) is ∙ still.1;
    steps = ap (λ x. x.host.steps) is ∙ steps;
    none_told = none;
    unanswered = subst (λ x. AnswersSlot bytes x.out.sent → ⊥) (sym is) unanswered;
  })

  -- one that sends one record, without a seal
  other_plain : (u : Stepped X C) (o : Outgoing) → t ≡ u → u.host.state.sessions ≡ s.state.sessions → IsStill u → u.host.steps ≡ s.steps + 1
      → tells here s.contexts s.state.sessions ≡ false → u.out.sent ≡ o ∷ [] → o.seal ≡ None → Kind
  other_plain u o is sessions still steps none sent seal =
      other u is sessions still steps none
      (λ a. let b : AnswersSlot bytes (o ∷ []) = subst (λ (xs : List Outgoing). AnswersSlot bytes xs) sent a in unsealed_sent o seal b.2.0 b.2.1.0 b.2.1.1)

  silent : AnswersSlot bytes [] → ⊥
  silent a = none_sent _ a.2.1.1

  -- ---- a call

  module _ (call : Call) (judged_is : here ≡ judged.Call call) (distinct : AreDistinct s.contexts.entries) where
    told_none : (what : What) → call.what ≡ what → tells_what what call.under s.contexts s.state.sessions ≡ false → tells here s.contexts s.state.sessions ≡ false
    told_none what is none =
        ap (λ j. tells j s.contexts s.state.sessions) judged_is ∙ ap (λ w. tells_what w call.under s.contexts s.state.sessions) is ∙ none

    -- what isn't open to a call that names a slot doesn't answer one
    closed : (what : What) → call.what ≡ what → (IsOpen what → ⊥) → (sent : List Outgoing) → AnswersSlot bytes sent → ⊥
    closed what is never sent a = never (subst IsOpen is (named_opens codes.mic second bytes s.contexts call a.0 judged_is a.1))

    read_turn : (args : List ℕ) → call.what ≡ whats.Compound args → (r : Result Compound ℕ) → compound_of args ≡ r
        → IsCompoundTurn rules codes second conn call r s t → Kind
    read_turn args is (Err at) read turn =
        other_plain _ _ turn refl (refl, refl) refl
        (told_none (whats.Compound args) is (ap (λ r. tells_read call.under s.contexts r s.state.sessions) read)) refl refl
    read_turn args is (Ok compound) read turn =
        let asked : IsAsked s.contexts bytes call args = compound_asked codes.mic second bytes s.contexts call args distinct judged_is is in
        let choice : Choice = choice_of t.out.used in
        inl (record {
          call = call;
          args = args;
          compound = compound;
          choice = choice;
          judged_is = judged_is;
          asked = asked;
          read = read;
          step_is =
              turn choice (λ n below. refl)
              ∙ ap (λ (u : Option Under). compounded rules codes second conn call compound s (compound_given rules choice second conn u compound s)) asked.under_is
              ∙ ap (λ found. compounded rules codes second conn call compound s
              (given_by rules choice second conn (record { number = asked.number; seq = asked.seq }) found compound s.state)) asked.there;
          told_is =
              ap (λ j. tells j s.contexts s.state.sessions) judged_is
              ∙ ap (λ w. tells_what w call.under s.contexts s.state.sessions) is
              ∙ ap (λ r. tells_read call.under s.contexts r s.state.sessions) read
              ∙ ap (λ (u : Option Under). tells_for u s.contexts compound s.state.sessions) asked.under_is
              ∙ ap (λ found. tells_under asked.number found compound s.state.sessions) asked.there;
        })

    other_closed : (what : What) → call.what ≡ what → (IsOpen what → ⊥) → tells_what what call.under s.contexts s.state.sessions ≡ false
        → (u : Stepped X C) → t ≡ u → u.host.state.sessions ≡ s.state.sessions → IsStill u → u.host.steps ≡ s.steps + 1 → Kind
    other_closed what is never none u turn sessions still steps = other u turn sessions still steps (told_none what is none) (closed what is never u.out.sent)

    judged_turn : (what : What) → call.what ≡ what → (told : Judgement C) → t ≡ steps.judged_create told rules.parting codes second conn call s
        → (IsOpen what → ⊥) → tells_what what call.under s.contexts s.state.sessions ≡ false → Kind
    judged_turn what is (judgements.Granted carry) turn never none = other_closed what is never none _ turn refl (refl, refl) refl
    judged_turn what is judgements.Misspelt turn never none = other_closed what is never none _ turn refl (refl, refl) refl
    judged_turn what is (judgements.Refused cause) turn never none = other_closed what is never none _ turn refl (refl, refl) refl

    call_turn : (what : What) → call.what ≡ what → IsWhatTurn what rules codes accepted gives second conn call s before after t → Kind
    call_turn (whats.Dropped why) is turn = other _ turn.0 refl (refl, refl) refl (told_none (whats.Dropped why) is refl) silent
    call_turn (whats.Denied why) is turn = other_plain _ _ turn.0 refl (refl, refl) refl (told_none (whats.Denied why) is refl) refl refl
    call_turn (whats.Failed failure) is turn = other_plain _ _ turn.0 refl (refl, refl) refl (told_none (whats.Failed failure) is refl) refl refl
    call_turn whats.Null is turn = other_closed whats.Null is null_closed refl _ turn.0 refl (refl, refl) refl
    call_turn (whats.Init token) is turn = other_closed (whats.Init token) is (init_closed token) refl _ turn.is refl (refl, refl) refl
    call_turn (whats.Create name privilege) is turn =
        judged_turn (whats.Create name privilege) is (steps.judgement_under rules second name privilege s call.under) turn.0 (create_closed name privilege) refl
    call_turn whats.Destroy is turn = other_closed whats.Destroy is destroy_closed refl _ turn.0 refl (refl, refl) refl
    call_turn (whats.Compound args) is turn = read_turn args is (compound_of args) refl turn.0

  -- ---- a record

  record_turn : (j : Judged) → here ≡ j → AreDistinct s.contexts.entries → IsJudgedTurn j rules codes accepted gives second conn s before after t → Kind
  record_turn judged.Unread is distinct turn = other _ turn.0 refl (refl, refl) refl (ap (λ j. tells j s.contexts s.state.sessions) is) silent
  record_turn judged.Reply is distinct turn = other _ turn.0 refl (refl, refl) refl (ap (λ j. tells j s.contexts s.state.sessions) is) silent
  record_turn (judged.Call call) is distinct turn = call_turn call is distinct call.what refl turn

-- a step carries a COMPOUND out, or is another
pub step_kind : {X C W : Type 0} (rules : Rules X C) (codes : Codes) (accepted : List ℕ → List ℕ → Option Accepted) (gives : W → Drawn → W → Type 0)
    (conn : ℕ) (bytes : List ℕ) (now : ℕ) (s : HostState X C) (before after : W) (t : Stepped X C) → AreDistinct s.contexts.entries
    → IsTurn rules codes accepted gives conn bytes now s before after t
    → IsCompoundStep rules codes conn bytes (max s.second now) s t ⊎ IsOtherStep codes bytes (max s.second now) s t
step_kind rules codes accepted gives conn bytes now s before after t distinct turn =
    record_turn rules codes accepted gives conn bytes (max s.second now) s before after t
    (judged_of codes.mic (max s.second now) programs.NFS bytes s.contexts) refl distinct turn
