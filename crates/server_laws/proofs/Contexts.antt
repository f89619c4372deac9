-- The laws on contexts, of a step.
use Rattle.std.proofs.Common.{◌≡◌, ◌⊎◌, inl, inr, ℕ, ◌<◌, ◌≤◌, ◌^◌, List, [], Option, Some, true, refl, sym, subst, arith}
use Rattle.std.specs.Prelude.{max}
use Rattle.nfs_base.specs.declared.seal.End.{End}
use Rattle.nfs_base.specs.declared.seal.Seal.{Seal}
use Rattle.gss_ctx.specs.declared.context.Entry.{Entry}
use Rattle.gss_mech.specs.Tokens.{IsSized}
use Rattle.gss_mech.specs.declared.mechanism.Accepted.{Accepted}
use Rattle.rpc_calls.specs.Judging.{judged_of}
use Rattle.rpc_calls.specs.declared.call.Judged.{Judged}
use Rattle.rpc_calls.specs.declared.call.Judged.TheVariants as judged
use Rattle.rpc_calls.specs.declared.call.TheConstants.Program as programs
use Rattle.streams.specs.declared.draws.Drawn.{Drawn}
use Rattle.wire_model.specs.ServerLaws.{IsMade}
use Rattle.wire_model.specs.Spelling as spelling
use Rattle.wire_spelling.specs.Calls.{begun_by, is_create}
use Rattle.wire_spelling.specs.Replies.{context_in}
use Rattle.context_laws.specs.View.{AreNumbered, IsNewIn, root_in}
use Rattle.context_laws.specs.JudgedLaws.{begun_under, create_is_of, judged_fits, judged_read, judged_there}
use Rattle.session_server.specs.Host.{Codes, HostState, Rules, Stepped}
use Rattle.session_server.specs.Steps.{IsJudgedTurn, ticked}
use Rattle.server_laws.specs.Steps.{IsStep}
use Rattle.server_laws.specs.Good.{IsGood}
use Rattle.server_laws.specs.View.{view}
use Rattle.server_laws.proofs.Sealed.{Carries, TellsRoot, TellsChild, child_told, root_told, sends_none}
use Rattle.server_laws.proofs.Turns.{after_turn}

-- a context that is new in the tables is made in the step
made_of : {X C : Type 0} (old new : HostState X C) (number root : ℕ) → new.contexts.boot ≡ old.contexts.boot → IsNewIn old.contexts new.contexts number root
    → IsMade (view old) (view new) number root
made_of old new number root boot is = record {
  same_boot = sym boot;
  new = let next = is.next in omega arith;
  counted = let counted = is.counted in omega arith;
  root_is = is.root_is;
}

module _ {X C W : Type 0} (rules : Rules X C) (codes : Codes) (accepted : List ℕ → List ℕ → Option Accepted) (gives : W → Drawn → W → Type 0)
    (conn : ℕ) (bytes : List ℕ) (now : ℕ) (s : HostState X C) (before after : W) (t : Stepped X C)
    (step : IsStep rules codes accepted gives conn bytes now s before after t) where
  pub boot_stays : s.contexts.boot ≡ t.host.contexts.boot
  boot_stays = sym (after_turn rules codes accepted gives conn bytes now s before after t step.good.numbered step.turn).follows.boot

  pub made_rises : s.contexts.made ≤ t.host.contexts.made
  made_rises = (after_turn rules codes accepted gives conn bytes now s before after t step.good.numbered step.turn).follows.made

  pub root_was_or_is_made : (number root : ℕ) → root_in t.host.contexts.entries number ≡ Some root
      → (root_in s.contexts.entries number ≡ Some root) ⊎ IsMade (view s) (view t.host) number root
  root_was_or_is_made number root there =
      let f = (after_turn rules codes accepted gives conn bytes now s before after t step.good.numbered step.turn).follows in
      elim (f.roots number root there) [
        | inl old ↦ inl old
        | inr made ↦ inr (record { same_boot = sym f.boot; new = made.0; counted = made.1; root_is = there })
      ]

  pub stays_good : IsGood t.host
  stays_good =
      let a = after_turn rules codes accepted gives conn bytes now s before after t step.good.numbered step.turn in
      let f = a.follows in
      let few = f.few in
      let counted = step.good.counted in
      let steps = a.steps in
      let small = step.good.boot in
      let boot = f.boot in
      record { boot = omega arith; counted = omega arith; numbered = f.numbered }

  root_judged : (told : Judged) → judged_of codes.mic (max s.second now) programs.NFS bytes s.contexts ≡ told
      → IsJudgedTurn told rules codes accepted gives (max s.second now) conn s before after t
      → (accepts : List ℕ → Option (List ℕ)) (whose : List ℕ → Option End) (by : End) → begun_by accepts whose bytes ≡ Some by → TellsRoot s t
  root_judged judged.Unread is turn accepts whose by begun reply seal c =
      absurd (sends_none reply seal (subst (λ (v : Stepped X C). Carries v.out.sent reply seal) turn.0 c))
  root_judged judged.Reply is turn accepts whose by begun reply seal c =
      absurd (sends_none reply seal (subst (λ (v : Stepped X C). Carries v.out.sent reply seal) turn.0 c))
  root_judged (judged.Call call) is turn accepts whose by begun reply seal c =
      let r = judged_read codes.mic (max s.second now) programs.NFS bytes s.contexts call is in
      root_told rules codes accepted gives (max s.second now) conn call s before after step.good.numbered call.what t
      (begun_under codes.mic (max s.second now) programs.NFS bytes s.contexts call accepts whose by r begun) turn reply seal c

  pub init_law : (accepts : List ℕ → Option (List ℕ)) (whose : List ℕ → Option End) (by : End) (reply : List ℕ) (seal : Seal)
      → begun_by accepts whose bytes ≡ Some by → Carries t.out.sent reply seal
      → (seal.boot ≡ t.host.contexts.boot) × IsMade (view s) (view t.host) seal.number seal.number
  init_law accepts whose by reply seal begun c =
      let told = root_judged (judged_of codes.mic (max s.second now) programs.NFS bytes s.contexts) refl step.turn accepts whose by begun reply seal c in
      (told.0, made_of s t.host seal.number seal.number (sym boot_stays) told.1)

  child_judged : IsSized codes.mic → (told : Judged) → judged_of codes.mic (max s.second now) programs.NFS bytes s.contexts ≡ told
      → IsJudgedTurn told rules codes accepted gives (max s.second now) conn s before after t → is_create bytes ≡ true → TellsChild s t
  child_judged sized judged.Unread is turn creates reply seal child c given =
      absurd (sends_none reply seal (subst (λ (v : Stepped X C). Carries v.out.sent reply seal) turn.0 c))
  child_judged sized judged.Reply is turn creates reply seal child c given =
      absurd (sends_none reply seal (subst (λ (v : Stepped X C). Carries v.out.sent reply seal) turn.0 c))
  child_judged sized (judged.Call call) is turn creates reply seal child c given =
      let r = judged_read codes.mic (max s.second now) programs.NFS bytes s.contexts call is in
      let few = step.few in
      let counted = step.good.counted in
      child_told rules codes accepted gives (max s.second now) conn call s before after step.good.numbered sized
      (judged_fits codes.mic (max s.second now) programs.NFS bytes s.contexts call r step.are_bytes) step.good.boot (omega arith)
      (λ under under_is. judged_there codes.mic (max s.second now) programs.NFS bytes s.contexts call under r under_is)
      call.what t (create_is_of codes.mic (max s.second now) programs.NFS bytes s.contexts call r creates) turn reply seal child c given

  pub create_law : IsSized codes.mic → (reply : List ℕ) (seal : Seal) (child : spelling.Context)
      → is_create bytes ≡ true → Carries t.out.sent reply seal → context_in reply ≡ Some child
      → (child.boot ≡ t.host.contexts.boot) × (seal.boot ≡ t.host.contexts.boot)
      × IsMade (view s) (view t.host) child.number seal.number
  create_law sized reply seal child creates c given =
      let told = child_judged sized (judged_of codes.mic (max s.second now) programs.NFS bytes s.contexts) refl step.turn creates reply seal child c given in
      (told.0, told.1, made_of s t.host child.number seal.number (sym boot_stays) told.2)

-- ---- a server without contexts, and a second that comes by itself

pub empty_good : {X C : Type 0} (s : HostState X C) → s.contexts.boot < 2 ^ 32 → s.contexts.made ≤ s.steps → s.contexts.entries ≡ [] → IsGood s
empty_good {X} {C} s boot counted none = record {
  boot = boot;
  counted = counted;
  numbered = subst (λ (es : List (Entry C)). AreNumbered s.contexts.made es) (sym none) (record { given = tt; distinct = tt });
}

pub tick_good : {X C : Type 0} (rules : Rules X C) (now : ℕ) (s : HostState X C) → IsGood s → IsGood (ticked rules now s)
tick_good rules now s good = record { boot = good.boot; counted = let le = good.counted in omega arith; numbered = good.numbered }
