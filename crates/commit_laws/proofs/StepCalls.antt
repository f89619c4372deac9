-- A step in which a record is taken changes the volume by calls alone.
use Rattle.std.proofs.Common.{◌≡◌, ℕ, List, [], ◌∷◌, ◌++◌, Option, Some, None, Result, Ok, Err, refl, sym, ap, subst, ◌∙◌}
use Rattle.std.specs.Prelude.{max}
use Rattle.gss_ctx.specs.Table.{context_of}
use Rattle.gss_ctx.specs.declared.context.Context.{Context}
use Rattle.gss_mech.specs.declared.mechanism.Accepted.{Accepted}
use Rattle.nfs_compound.specs.Compounds.{compound_of}
use Rattle.nfs_compound.specs.declared.compound.Compound.{Compound}
use Rattle.rpc_calls.specs.Judging.{judged_of}
use Rattle.rpc_calls.specs.declared.call.Call.{Call}
use Rattle.rpc_calls.specs.declared.call.Judged.{Judged}
use Rattle.rpc_calls.specs.declared.call.Judged.TheVariants as judged
use Rattle.rpc_calls.specs.declared.call.TheConstants.Program as programs
use Rattle.rpc_calls.specs.declared.call.Under.{Under}
use Rattle.rpc_calls.specs.declared.call.What.{What}
use Rattle.rpc_calls.specs.declared.call.What.TheVariants as whats
use Rattle.server_volume.specs.Choices.{Choice, choice_of}
use Rattle.server_volume.specs.declared.used.Used.{Used}
use Rattle.streams.specs.declared.draws.Drawn.{Drawn}
use Rattle.compound_server.specs.State.{Given}
use Rattle.session_server.specs.Host.{Codes, HostState, Rules, Stepped}
use Rattle.session_server.specs.Steps.{IsCompoundTurn, IsJudgedTurn, IsTurn, IsWhatTurn, compound_given, compounded, given_by, judged_create, judgement_under, who_calls}
use Rattle.session_server.specs.declared.extending.Judgement.{Judgement}
use Rattle.session_server.specs.declared.extending.Judgement.TheVariants as judgements
use Rattle.commit_laws.specs.Calling.{CameByCalls}
use Rattle.commit_laws.specs.CallLaws.{by_none}
use Rattle.commit_laws.specs.Executing.{Executed, in_call, in_judged, in_read, in_record, under_context, under_one}
use Rattle.commit_laws.specs.Run.{store_of}
use Rattle.commit_laws.proofs.CompoundCalls.{GoesTo, Stands, StandsIn, compound_goes, compound_stands}
use Rattle.commit_laws.proofs.WalkCalls.{ServesByCalls}

-- what a step does to the store
abbrev pub StepGoes : {X C : Type 0} → HostState X C → Stepped X C → Type 0
StepGoes s t = CameByCalls (store_of s) (store_of t.host) [] t.out.used

-- an operation that stands in it, under some context
abbrev pub StandsAt : {X C : Type 0} → Rules X C → HostState X C → HostState X C → List Used → Executed X → List (Executed X) → Type 0
StandsAt {X} {C} rules s t used e back =
    (carry : Option C) × Stands rules.service (choice_of used) carry (store_of s) (store_of t) used e back

none_among : {X : Type 0} (front : List (Executed X)) (e : Executed X) (back : List (Executed X)) → [] ≡ front ++ e ∷ back → ⊥
none_among [] e back is = absurd cc
none_among (x ∷ xs) e back is = absurd cc

module _ {X C W : Type 0} (rules : Rules X C) (serves : ServesByCalls rules.service) (codes : Codes) (accepted : List ℕ → List ℕ → Option Accepted) (gives : W → Drawn → W → Type 0)
    (second conn : ℕ) (s : HostState X C) (before after : W) (t : Stepped X C) where
  -- a step that makes no call
  still : (u : Stepped X C) → t ≡ u → store_of u.host ≡ store_of s → u.out.used ≡ [] → StepGoes s t
  still u is same none =
      by_none (store_of s) (store_of t.host) [] t.out.used (ap (λ (x : Stepped X C). store_of x.host) is ∙ same) (ap (λ (x : Stepped X C). x.out.used) is ∙ none)

  given_goes : (choice : Choice) (under : Under) (context : Option (Context C)) (c : Compound) → GoesTo (store_of s) (given_by rules choice second conn under context c s.state)
  given_goes choice under None c = by_none (store_of s) (store_of s) [] [] refl refl
  given_goes choice under (Some context) c =
      compound_goes rules.service serves rules.parting choice (who_calls second conn under context) context.principal context.carry c s.state

  all_given_goes : (choice : Choice) (under : Option Under) (c : Compound) → GoesTo (store_of s) (compound_given rules choice second conn under c s)
  all_given_goes choice None c = by_none (store_of s) (store_of s) [] [] refl refl
  all_given_goes choice (Some under) c = given_goes choice under (context_of under.number s.contexts.entries) c

  module _ (call : Call) where
    create_goes : (told : Judgement C) → t ≡ judged_create told rules.parting codes second conn call s → StepGoes s t
    create_goes (judgements.Granted carry) is = still _ is refl refl
    create_goes judgements.Misspelt is = still _ is refl refl
    create_goes (judgements.Refused cause) is = still _ is refl refl

    -- at the choice that its calls show
    abbrev step_at : Compound → Stepped X C
    step_at c = compounded rules codes second conn call c s (compound_given rules (choice_of t.out.used) second conn call.under c s)

    read_goes : (r : Result Compound ℕ) → IsCompoundTurn rules codes second conn call r s t → StepGoes s t
    read_goes (Err at) turn = still _ turn refl refl
    read_goes (Ok c) turn =
        let is : t ≡ step_at c = turn (choice_of t.out.used) (λ n below. refl) in
        subst (λ (x : Stepped X C). StepGoes s x) (sym is) (all_given_goes (choice_of t.out.used) call.under c)

    what_goes : (what : What) → IsWhatTurn what rules codes accepted gives second conn call s before after t → StepGoes s t
    what_goes (whats.Dropped why) turn = still _ turn.0 refl refl
    what_goes (whats.Denied why) turn = still _ turn.0 refl refl
    what_goes (whats.Failed failure) turn = still _ turn.0 refl refl
    what_goes whats.Null turn = still _ turn.0 refl refl
    what_goes (whats.Init token) turn = still _ turn.is refl refl
    what_goes (whats.Create name privilege) turn = create_goes (judgement_under rules second name privilege s call.under) turn.0
    what_goes whats.Destroy turn = still _ turn.0 refl refl
    what_goes (whats.Compound args) turn = read_goes (compound_of args) turn.0

  judged_goes : (j : Judged) → IsJudgedTurn j rules codes accepted gives second conn s before after t → StepGoes s t
  judged_goes judged.Unread turn = still _ turn.0 refl refl
  judged_goes judged.Reply turn = still _ turn.0 refl refl
  judged_goes (judged.Call call) turn = what_goes call call.what turn

  -- ---- an operation among those that it has executed

  module _ (front : List (Executed X)) (e : Executed X) (back : List (Executed X)) where
    abbrev Is : List (Executed X) → Type 0
    Is es = es ≡ front ++ e ∷ back

    abbrev InGiven : Choice → Given X → Type 0
    InGiven choice g = (carry : Option C) × StandsIn rules.service choice carry (store_of s) g e back

    given_stands : (choice : Choice) (under : Under) (context : Option (Context C)) (c : Compound)
        → Is (under_context rules choice second conn under context c s.state) → InGiven choice (given_by rules choice second conn under context c s.state)
    given_stands choice under None c is = absurd (none_among front e back is)
    given_stands choice under (Some context) c is =
        (context.carry, compound_stands rules.service serves rules.parting choice (who_calls second conn under context) context.principal context.carry front e back c s.state is)

    all_given_stands : (choice : Choice) (under : Option Under) (c : Compound)
        → Is (under_one rules choice second conn under s.contexts c s.state) → InGiven choice (compound_given rules choice second conn under c s)
    all_given_stands choice None c is = absurd (none_among front e back is)
    all_given_stands choice (Some under) c is = given_stands choice under (context_of under.number s.contexts.entries) c is

    read_stands : (call : Call) (r : Result Compound ℕ) → IsCompoundTurn rules codes second conn call r s t
        → Is (in_read r rules (choice_of t.out.used) second conn call.under s) → StandsAt rules s t.host t.out.used e back
    read_stands call (Err at) turn is = absurd (none_among front e back is)
    read_stands call (Ok c) turn is =
        let same : t ≡ step_at call c = turn (choice_of t.out.used) (λ n below. refl) in
        let stands = all_given_stands (choice_of t.out.used) call.under c is in (
          stands.0,
          subst
              (λ (x : Stepped X C). Stands rules.service (choice_of t.out.used) stands.0 (store_of s) (store_of x.host) x.out.used e back)
              (sym same) stands.1,
        )

    what_stands : (call : Call) (what : What) → IsWhatTurn what rules codes accepted gives second conn call s before after t
        → Is (in_call what rules (choice_of t.out.used) second conn call.under s) → StandsAt rules s t.host t.out.used e back
    what_stands call (whats.Compound args) turn is = read_stands call (compound_of args) turn.0 is
    what_stands call what turn is = absurd (none_among front e back is)

    judged_stands : (j : Judged) → IsJudgedTurn j rules codes accepted gives second conn s before after t
        → Is (in_judged j rules (choice_of t.out.used) second conn s) → StandsAt rules s t.host t.out.used e back
    judged_stands (judged.Call call) turn is = what_stands call call.what turn is
    judged_stands j turn is = absurd (none_among front e back is)

module _ {X C W : Type 0} (rules : Rules X C) (serves : ServesByCalls rules.service) (codes : Codes) (accepted : List ℕ → List ℕ → Option Accepted) (gives : W → Drawn → W → Type 0)
    (conn : ℕ) (bytes : List ℕ) (now : ℕ) (s : HostState X C) (before after : W) (t : Stepped X C)
    (turn : IsTurn rules codes accepted gives conn bytes now s before after t) where
  pub turn_goes : StepGoes s t
  turn_goes =
      judged_goes rules serves codes accepted gives (max s.second now) conn s before after t
      (judged_of codes.mic (max s.second now) programs.NFS bytes s.contexts) turn

  pub turn_stands : (front : List (Executed X)) (e : Executed X) (back : List (Executed X))
      → in_record rules codes (choice_of t.out.used) conn bytes now s ≡ front ++ e ∷ back → StandsAt rules s t.host t.out.used e back
  turn_stands front e back is =
      judged_stands rules serves codes accepted gives (max s.second now) conn s before after t front e back
      (judged_of codes.mic (max s.second now) programs.NFS bytes s.contexts) turn is
