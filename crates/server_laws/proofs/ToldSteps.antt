-- What a step tells is what its COMPOUND gives.
use Rattle.std.proofs.Common.{◌≡◌, inl, inr, ℕ, ◌≤◌, Bool, true, false, List, [], ◌∷◌, length, Option, Some, refl, sym, ap, subst, ◌∙◌}
use Rattle.std.specs.Prelude.{All, max, not}
use Rattle.std.proofs.lemmas.List.Elements.{All-head}
use Rattle.context_laws.specs.View.{root_number}
use Rattle.gss_mech.specs.Tokens.{IsSized}
use Rattle.gss_mech.specs.declared.mechanism.Accepted.{Accepted}
use Rattle.outbox.specs.declared.label.Label.TheVariants.{Reply}
use Rattle.outbox.specs.declared.outgoing.Outgoing.{Outgoing}
use Rattle.rpc_msg.specs.declared.records.TheConstants.{RECORD_LIMIT}
use Rattle.streams.specs.declared.draws.Drawn.{Drawn}
use Rattle.compound_server.specs.State.{Given}
use Rattle.session_server.specs.Host.{Codes, HostState, Rules, Stepped}
use Rattle.session_server.specs.Labels.{compound_label, status_in}
use Rattle.session_server.specs.Steps.{result_back}
use Rattle.slot_calls.specs.JudgedLaws.{call_fits}
use Rattle.slot_laws.specs.Turns.{is_retry}
use Rattle.wire_model.specs.Wire.{Executed}
use Rattle.wire_spelling.specs.Replies.{results_of}
use Rattle.wire_spelling.specs.Slots.{ops_of}
use Rattle.server_laws.specs.Acts.{acts_of, told}
use Rattle.server_laws.specs.Slots.{IsCompoundStep}
use Rattle.server_laws.specs.Steps.{IsStep}
use Rattle.server_laws.specs.Told.{HasKind, IsTold, TellsGiven, given_in}
use Rattle.server_laws.proofs.SlotReplies.{results_are}
use Rattle.server_laws.proofs.SlotSteps.{step_kind}

some_told : (a b : Executed) → Some a ≡ Some b → a ≡ b
some_told a b same = cc

module _ {X C W : Type 0} (rules : Rules X C) (codes : Codes) (accepted : List ℕ → List ℕ → Option Accepted) (gives : W → Drawn → W → Type 0)
    (conn : ℕ) (bytes : List ℕ) (now : ℕ) (s : HostState X C) (before after : W) (t : Stepped X C)
    (step : IsStep rules codes accepted gives conn bytes now s before after t) where
  abbrev second : ℕ
  second = max s.second now

  pub step_has_kind : HasKind rules codes bytes now s t
  step_has_kind = elim (step_kind rules codes accepted gives conn bytes now s before after t step.good.numbered.distinct step.turn) [
    | inl k ↦ inl (conn, k)
    | inr o ↦ inr o
  ]

  -- ---- a COMPOUND

  module _ (sized : IsSized codes.mic) (k : IsCompoundStep rules codes conn bytes (max s.second now) s t) where
    abbrev given : Given X
    given = given_in rules codes conn bytes second s t k

    abbrev reply : Outgoing
    reply = result_back codes s.contexts conn k.call given.body (Reply (compound_label k.compound.ops) (status_in given.body))

    sent_is : t.out.sent ≡ reply ∷ []
    sent_is = ap (λ x. x.out.sent) k.step_is

    results_back : results_of reply.bytes ≡ given.body
    results_back =
        let short : All (λ (o : Outgoing). length o.bytes ≤ RECORD_LIMIT) (reply ∷ []) = subst (λ (xs : List Outgoing). All (λ o. length o.bytes ≤ RECORD_LIMIT) xs) sent_is step.short in
        results_are codes.mic s.contexts bytes k.args k.call k.asked given.body sized
        (call_fits codes.mic second bytes s.contexts k.call step.are_bytes k.judged_is)
        (All-head (λ (o : Outgoing). length o.bytes ≤ RECORD_LIMIT) reply [] short)

    abbrev retry : Bool
    retry = is_retry (root_number k.asked.context.parent k.asked.number) k.compound s.state.sessions

    told_by : (again : Bool) → retry ≡ again → (e : Executed) → (acts_of codes bytes now s t).executed ≡ Some e → IsTold rules codes bytes now s t e
    told_by true is e executed =
        absurd (let none = ap (λ b. told b bytes t.out.sent) (k.told_is ∙ ap not is) in let both = sym none ∙ executed in cc)
    told_by false is e executed =
        let there : (acts_of codes bytes now s t).executed ≡ Some (record { ops = ops_of bytes; results = results_of reply.bytes }) =
        ap (λ b. told b bytes t.out.sent) (k.told_is ∙ ap not is) ∙ ap (λ (xs : List Outgoing). told true bytes xs) sent_is in
        let same : e ≡ record { ops = ops_of bytes; results = results_of reply.bytes } = some_told e _ (sym executed ∙ there) in
        record {
          conn = conn;
          step = k;
          new = is;
          ops = ap (λ (x : Executed). x.ops) same ∙ k.asked.ops_are;
          results = ap (λ (x : Executed). x.results) same ∙ results_back;
        }

  -- ---- each step

  pub step_tells : IsSized codes.mic → TellsGiven rules codes bytes now s t
  step_tells sized e executed = elim (step_kind rules codes accepted gives conn bytes now s before after t step.good.numbered.distinct step.turn) [
    | inl k ↦ told_by sized k (retry sized k) refl e executed
    | inr o ↦ absurd (let none = ap (λ b. told b bytes t.out.sent) o.none_told in let both = sym none ∙ executed in cc)
  ]
