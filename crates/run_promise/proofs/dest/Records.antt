-- A record that comes on a connection: it is taken as at every server, or it answers a callback, and then little is done.
use Rattle.std.proofs.Common.{◌≡◌, ℕ, ◌+◌, ◌<◌, ◌^◌, List, Option, refl, sym, ap, subst, arith}
use Rattle.std.specs.Prelude.{max}
use Rattle.context_laws.specs.View.{AreNumbered}
use Rattle.dest_core.specs.Core.{dest_rules}
use Rattle.dest_core.specs.Stepping.{DestState, DestStep, IsRecordBy, answer_step}
use Rattle.dest_jobs.specs.declared.carried.Carried.{Carried}
use Rattle.gss_ctx.specs.Table.{ContextTable}
use Rattle.rpc_calls.specs.Judging.{judged_of}
use Rattle.rpc_calls.specs.declared.call.Judged.{Judged}
use Rattle.rpc_calls.specs.declared.call.Judged.TheVariants as judged
use Rattle.rpc_calls.specs.declared.call.TheConstants.Program as programs
use Rattle.run_ends.specs.Ends.{Words}
use Rattle.run_promise.specs.Dest.Kinds.{TakesRecord}
use Rattle.server_laws.specs.ContextLaws.{InEachStep, KeepsGood}
use Rattle.server_laws.specs.Good.{IsGood}
use Rattle.server_laws.specs.Lawful.{KeepsOwner}
use Rattle.server_laws.specs.Steps.{IsStep}
use Rattle.session_server.specs.Host.{Codes}
use Rattle.session_server.specs.Steps.{IsJudgedTurn}
use Rattle.tell_laws.specs.Volumes.{ChangesLawfully, KeepsWrites}
use Rattle.wire_lines.specs.declared.letters.Speaker.{Speaker}
use Rattle.wire_model.specs.Wire.{Executed}

abbrev pub codes_of : {M : Type 0} → Words M ℕ → Codes
codes_of words = record { mic = words.mic; derived = words.derived }

-- where contexts stay, and a step is counted, they are as they should be
pub good_on : {M : Type 0} (s t : DestState M) → t.contexts ≡ s.contexts → t.steps ≡ s.steps + 1 → IsGood s → IsGood t
good_on s t is more good =
    let made : t.contexts.made ≡ s.contexts.made = ap (λ (c : ContextTable Carried). c.made) is in
    let counted = good.counted in
    record {
      boot = subst (λ (c : ContextTable Carried). c.boot < 2 ^ 32) (sym is) good.boot;
      counted = omega (arith, made, more, counted);
      numbered = subst (λ (c : ContextTable Carried). AreNumbered c.made c.entries) (sym is) good.numbered;
    }

-- what is known of the steps in which every server takes a record
pub record AreServed {M : Type 0} (words : Words M ℕ) : Type 0 where
  pub good : (mech : M) → InEachStep (dest_rules {M = M}) (codes_of words) (words.accepted mech) words.gives KeepsGood
  pub owner : (mech : M) → InEachStep (dest_rules {M = M}) (codes_of words) (words.accepted mech) words.gives KeepsOwner
  pub changes : (mech : M) → InEachStep (dest_rules {M = M}) (codes_of words) (words.accepted mech) words.gives (ChangesLawfully (codes_of words))
  pub writes : (mech : M) → InEachStep (dest_rules {M = M}) (codes_of words) (words.accepted mech) words.gives KeepsWrites

-- what comes of a record
pub record Comes {M : Type 0} (codes : Codes) (bytes : List ℕ) (now : ℕ) (s : DestState M) (t : DestStep M) : Type 0 where
  pub good : IsGood t.host
  pub owner : KeepsOwner bytes now s t
  pub changes : ChangesLawfully codes bytes now s t
  pub writes : KeepsWrites bytes now s t

module _ {M : Type 0} (words : Words M ℕ) (served : AreServed words) where
  abbrev codes : Codes
  codes = codes_of words

  answered : (bytes : List ℕ) (now : ℕ) (s : DestState M) → IsGood s → Comes codes bytes now s (answer_step words.mic bytes now s)
  answered bytes now s good = record {
    good = good_on s (answer_step words.mic bytes now s).host refl refl good;
    owner = refl;
    changes = λ owner accepts whose own simple few. record { allowed = tt; goes_on = refl };
    writes = λ few. few;
  }

  module _ (conn : ℕ) (bytes : List ℕ) (now : ℕ) (s : DestState M) (before after : ℕ) (t : DestStep M) (good : IsGood s) where
    turned : IsStep (dest_rules {M = M}) (codes_of words) (words.accepted s.state.machine.extra.mech) words.gives conn bytes now s before after t
        → Comes codes bytes now s t
    turned step =
        let mech = s.state.machine.extra.mech in
        record {
          good = served.good mech conn bytes now s before after t step;
          owner = served.owner mech conn bytes now s before after t step;
          changes = served.changes mech conn bytes now s before after t step;
          writes = served.writes mech conn bytes now s before after t step;
        }

    by_judged : (j : Judged)
        → IsRecordBy j (codes_of words) (words.accepted s.state.machine.extra.mech) words.gives conn bytes now s before after t
        → (IsJudgedTurn j (dest_rules {M = M}) (codes_of words) (words.accepted s.state.machine.extra.mech) words.gives (max s.second now) conn s before after t
        → IsStep (dest_rules {M = M}) (codes_of words) (words.accepted s.state.machine.extra.mech) words.gives conn bytes now s before after t)
        → Comes codes bytes now s t
    by_judged judged.Reply is step = subst (λ (x : DestStep M). Comes codes bytes now s x) (sym is.is) (answered bytes now s good)
    by_judged judged.Unread is step = turned (step is)
    by_judged (judged.Call call) is step = turned (step is)

  pub comes : (s : DestState M) (t : DestStep M) (took : Option (List ℕ)) (speaker : Speaker) (executed : Option Executed) (r : TakesRecord words s t took speaker executed)
      → IsGood s → Comes (codes_of words) r.bytes r.now s t
  comes s t took speaker executed r good =
      by_judged r.conn r.bytes r.now s r.draws r.left t good (judged_of words.mic (max s.second r.now) programs.NFS r.bytes s.contexts) r.is
      (λ turn. record { good = good; few = r.handled.few; are_bytes = r.handled.taken; turn = turn; short = r.short })
