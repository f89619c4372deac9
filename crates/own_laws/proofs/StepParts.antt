-- A step of a server goes along.
use Rattle.std.proofs.Common.{◌≡◌, ℕ, ◌+◌, ◌≤◌, List, length, Option, Some, None, Result, Ok, Err, refl, sym, subst, arith}
use Rattle.std.specs.Prelude.{max}
use Rattle.gss_ctx.specs.Table.{context_of}
use Rattle.gss_ctx.specs.declared.context.Context.{Context}
use Rattle.gss_mech.specs.declared.mechanism.Accepted.{Accepted}
use Rattle.nfs_base.specs.declared.limits.TheConstants.{MOST_OPERATIONS}
use Rattle.nfs_compound.specs.Compounds.{compound_of}
use Rattle.nfs_compound.specs.declared.compound.Compound.{Compound}
use Rattle.rpc_calls.specs.Judging.{judged_of}
use Rattle.rpc_calls.specs.declared.call.Call.{Call}
use Rattle.rpc_calls.specs.declared.call.Judged.{Judged}
use Rattle.rpc_calls.specs.declared.call.Judged.TheVariants as judged
use Rattle.rpc_calls.specs.declared.call.TheConstants.Program as programs
use Rattle.rpc_calls.specs.declared.call.Under.{Under}
use Rattle.rpc_calls.specs.declared.call.What.{What}
use Rattle.rpc_calls.specs.declared.call.What.TheVariants as whats
use Rattle.server_volume.specs.Choices.{Choice, choice_of}
use Rattle.streams.specs.declared.draws.Drawn.{Drawn}
use Rattle.compound_server.specs.State.{Given}
use Rattle.session_server.specs.Host.{Codes, HostState, Rules, Stepped}
use Rattle.session_server.specs.Steps.{IsCompoundTurn, IsJudgedTurn, IsWhatTurn, compound_given, compounded, given_by, judged_create, judgement_under, who_calls}
use Rattle.session_server.specs.declared.extending.Judgement.{Judgement}
use Rattle.session_server.specs.declared.extending.Judgement.TheVariants as judgements
use Rattle.own_laws.specs.Following.{InTurns, own_of}
use Rattle.own_laws.proofs.CompoundParts.{compound_goes}
use Rattle.own_laws.proofs.Grows.{Grows, few_read}

module _ {X C : Type 0} (goes : ℕ → X → X → Type 0) (rules : Rules X C) (f : Grows goes rules.service rules.parting rules.silent) where
  abbrev Step : HostState X C → Stepped X C → Type 0
  Step s t = goes MOST_OPERATIONS (own_of s) (own_of t.host)

  abbrev Gives : HostState X C → Given X → Type 0
  Gives s g = goes MOST_OPERATIONS (own_of s) g.state.machine.extra

  module _ {W : Type 0} (codes : Codes) (accepted : List ℕ → List ℕ → Option Accepted) (gives : W → Drawn → W → Type 0)
      (second conn : ℕ) (s : HostState X C) (before after : W) (t : Stepped X C) where
    -- the step is this one
    by_this : (u : Stepped X C) → t ≡ u → Step s u → Step s t
    by_this u is goes = subst (λ (x : Stepped X C). Step s x) (sym is) goes

    -- a second comes, and nothing else
    rests : (u : Stepped X C) → t ≡ u → own_of u.host ≡ rules.parting.lapse second (own_of s) → Step s t
    rests u is lapsed =
        by_this u is (subst (λ x. goes MOST_OPERATIONS (own_of s) x) (sym lapsed) (f.more 0 MOST_OPERATIONS _ _ (omega arith) (f.lapse second (own_of s))))

    given_goes : (choice : Choice) (under : Under) (context : Option (Context C)) (c : Compound) → length c.ops ≤ c.count
        → Gives s (given_by rules choice second conn under context c s.state)
    given_goes choice under None c few = f.same MOST_OPERATIONS (own_of s)
    given_goes choice under (Some context) c few =
        compound_goes goes rules.service rules.parting rules.silent f choice (who_calls second conn under context) context.principal context.carry c s.state few

    all_given_goes : (choice : Choice) (under : Option Under) (c : Compound) → length c.ops ≤ c.count → Gives s (compound_given rules choice second conn under c s)
    all_given_goes choice None c few = f.same MOST_OPERATIONS (own_of s)
    all_given_goes choice (Some under) c few = given_goes choice under (context_of under.number s.contexts.entries) c few

    create_goes : (call : Call) (told : Judgement C) → t ≡ judged_create told rules.parting codes second conn call s → Step s t
    create_goes call (judgements.Granted carry) is = rests _ is refl
    create_goes call judgements.Misspelt is = rests _ is refl
    create_goes call (judgements.Refused cause) is = rests _ is refl

    read_goes : (call : Call) (r : Result Compound ℕ) → ((c : Compound) → r ≡ Ok c → length c.ops ≤ c.count) → IsCompoundTurn rules codes second conn call r s t → Step s t
    read_goes call (Err at) few turn = rests _ turn refl
    read_goes call (Ok c) few turn =
        let given = compound_given rules (choice_of t.out.used) second conn call.under c s in
        by_this (compounded rules codes second conn call c s given) (turn (choice_of t.out.used) (λ n below. refl))
        (f.more (MOST_OPERATIONS + 0) MOST_OPERATIONS _ _ (omega arith)
        (f.joins MOST_OPERATIONS 0 _ _ _ (all_given_goes (choice_of t.out.used) call.under c (few c refl)) (f.silent given.state.machine.extra)))

    what_goes : (call : Call) (what : What) → IsWhatTurn what rules codes accepted gives second conn call s before after t → Step s t
    what_goes call (whats.Dropped why) turn = rests _ turn.0 refl
    what_goes call (whats.Denied why) turn = rests _ turn.0 refl
    what_goes call (whats.Failed failure) turn = rests _ turn.0 refl
    what_goes call whats.Null turn = rests _ turn.0 refl
    what_goes call (whats.Init token) turn = rests _ turn.is refl
    what_goes call (whats.Create name privilege) turn = create_goes call (judgement_under rules second name privilege s call.under) turn.0
    what_goes call whats.Destroy turn = rests _ turn.0 refl
    what_goes call (whats.Compound args) turn = read_goes call (compound_of args) (few_read args) turn.0

    judged_goes : (j : Judged) → IsJudgedTurn j rules codes accepted gives second conn s before after t → Step s t
    judged_goes judged.Unread turn = rests _ turn.0 refl
    judged_goes judged.Reply turn = rests _ turn.0 refl
    judged_goes (judged.Call call) turn = what_goes call call.what turn

  pub turn_goes : {W : Type 0} (codes : Codes) (accepted : List ℕ → List ℕ → Option Accepted) (gives : W → Drawn → W → Type 0)
      → InTurns (goes MOST_OPERATIONS) rules codes accepted gives
  turn_goes codes accepted gives conn bytes now s before after t turn =
      judged_goes codes accepted gives (max s.second now) conn s before after t (judged_of codes.mic (max s.second now) programs.NFS bytes s.contexts) turn
