-- In each step a destination obeys the laws of names and reports, and what it holds of its reports stays right.
use Rattle.std.proofs.Common.{◌≡◌, inl, inr, ℕ, suc, ◌+◌, ◌<◌, ◌^◌, List, [], Option, Some, None, refl, sym, subst, arith}
use Rattle.std.proofs.lemmas.List.Elements.{recursion_from_All}
use Rattle.dest_core.specs.Stepping.{DestState, DestStep, IsRecord, IsReply, IsWork, copier_in, tick_step}
use Rattle.dest_laws.specs.Names.Holding.{IsFair, IsFairRecord, IsToldRight}
use Rattle.dest_laws.specs.Names.Posts.{AreNotClients}
use Rattle.dest_laws.specs.View.Steps.{ShowsStep, table_in}
use Rattle.dest_steps.specs.Copier.{Codes}
use Rattle.nfs_base.specs.declared.seal.End.{End}
use Rattle.outbox.specs.declared.outgoing.Outgoing.{Outgoing}
use Rattle.run_ends.specs.Ends.{Words}
use Rattle.run_ends.specs.Handling.{IsHandled}
use Rattle.run_promise.proofs.dest.DestServers.{IsServer}
use Rattle.run_promise.proofs.dest.Records.{codes_of}
use Rattle.run_promise.specs.Dest.Kinds.{Kind}
use Rattle.server_laws.specs.Acts.{acts_of}
use Rattle.session_server.specs.declared.host.TheConstants.{MOST_STEPS}
use Rattle.wire_lines.specs.declared.letters.Speaker.{Speaker}
use Rattle.wire_meaning.specs.Meaning.{meaning}
use Rattle.wire_model.specs.NameLaws.{NameLaws}
use Rattle.wire_model.specs.System.{System}
use Rattle.wire_model.specs.Wire.{Executed}
use Rattle.wire_spelling.specs.Spelling.{spelling}
use Rattle.wire_xdr.specs.Cursor.{IsBytes}

-- ---- what is known of the steps of every destination: what it holds of its reports stays right, or it obeys the laws of names

module _ {M : Type 0} (words : Words M ℕ) (accepts : List ℕ → Option (List ℕ)) (whose : List ℕ → Option End) (s : System) where
  abbrev codes : Codes
  codes = record { mic = words.mic; derived = words.derived }

  pub record Steps (Goes : (k : ℕ) → DestState M → Type 0) : Type 0 where
    pub record_ : (k : ℕ) (speaker : Speaker) (mech : M) (conn : ℕ) (message : List ℕ) (now : ℕ) (d : DestState M) (before after : ℕ) (t : DestStep M)
        → IsRecord (codes_of words) (words.accepted mech) words.gives conn message now d before after t
        → ShowsStep (spelling accepts whose) meaning s k (Some message) speaker (acts_of (codes_of words) message now d t).executed d t
        → IsFairRecord message d t → IsToldRight s k d → Goes k t.host
    pub work : (k : ℕ) (speaker : Speaker) (started : List ℕ → List ℕ → Option (List ℕ)) (place now : ℕ) (d : DestState M) (before after : ℕ) (t : DestStep M)
        → IsWork words.gives started (record { mic = words.mic; derived = words.derived }) place now d before after t
        → ShowsStep (spelling accepts whose) meaning s k None speaker None d t → IsFair d t → IsToldRight s k d → Goes k t.host
    pub reply : (k : ℕ) (speaker : Speaker) (finish : List ℕ → List ℕ → Option (List ℕ)) (place : ℕ) (message : List ℕ) (now : ℕ) (d : DestState M) (t : DestStep M)
        → IsReply (record { mic = words.mic; derived = words.derived }) finish place message now d t → IsBytes message
        → ShowsStep (spelling accepts whose) meaning s k (Some message) speaker None d t → IsFair d t → IsToldRight s k d → Goes k t.host
    pub tick : (k : ℕ) (speaker : Speaker) (now : ℕ) (d : DestState M)
        → ShowsStep (spelling accepts whose) meaning s k None speaker None d (tick_step (record { mic = words.mic; derived = words.derived }) now d)
        → IsFair d (tick_step (record { mic = words.mic; derived = words.derived }) now d) → IsToldRight s k d
        → Goes k (tick_step (record { mic = words.mic; derived = words.derived }) now d).host
    pub rest : (k : ℕ) (took : Option (List ℕ)) (speaker : Speaker) (d : DestState M) (t : DestStep M)
        → ShowsStep (spelling accepts whose) meaning s k took speaker None d t → t.host ≡ d → t.out.sent ≡ [] → IsToldRight s k d → Goes k t.host

  abbrev pub StaysRight : ℕ → DestState M → Type 0
  StaysRight k t = IsToldRight s (suc k) t

  abbrev pub IsNamed : ℕ → DestState M → Type 0
  IsNamed k t = NameLaws (spelling accepts whose) meaning s k

  -- ---- a step

  module _ (Goes : (k : ℕ) → DestState M → Type 0) (known : Steps Goes) (k : ℕ) (d : DestState M) (t : DestStep M) (took : Option (List ℕ)) (speaker : Speaker) (executed : Option Executed)
      (shows : ShowsStep (spelling accepts whose) meaning s k took speaker executed d t) (is : IsServer d) (then : IsServer t.host)
      (boot : (table_in d).boot < 2 ^ 32) (boot_then : (table_in t.host).boot < 2 ^ 32) (few : (table_in d).made + 1 < 2 ^ 32)
      (few_then : (table_in t.host).made + 1 < 2 ^ 32) (own : AreNotClients (copier_in d).work.mount.contexts) (right : IsToldRight s k d) where
    shows_with : (o : Option (List ℕ)) (e : Option Executed) → took ≡ o → executed ≡ e → ShowsStep (spelling accepts whose) meaning s k o speaker e d t
    shows_with o e took_is executed_is =
        subst (λ (y : Option Executed). ShowsStep (spelling accepts whose) meaning s k o speaker y d t) executed_is
        (subst (λ (p : Option (List ℕ)). ShowsStep (spelling accepts whose) meaning s k p speaker executed d t) took_is shows)

    fair : (heard : Option (List ℕ)) → IsHandled d.steps MOST_STEPS heard t.out → IsFair d t
    fair heard handled = record {
      boot = boot_then;
      made = omega (arith, few_then);
      bytes = recursion_from_All (λ (out : Outgoing). IsBytes out.bytes) t.out.sent handled.sent;
      own = own;
    }

    pub named_by : Kind words d t took speaker executed → Goes k t.host
    named_by (inl r) =
        known.record_ k speaker d.state.machine.extra.mech r.conn r.bytes r.now d r.draws r.left t r.is (shows_with (Some r.bytes) _ r.took_is r.told)
        (record {
          good = is.good;
          few = r.handled.few;
          are_bytes = r.handled.taken;
          short = r.short;
          owner = is.owner;
          same_owner = then.owner;
          boot = boot;
          made = few;
        })
        right
    named_by (inr (inl r)) =
        known.work k speaker (words.started d.state.machine.extra.mech) r.place r.now d r.draws r.left t r.is (shows_with None None r.took_is r.none)
        (fair None r.handled) right
    named_by (inr (inr (inl r))) =
        known.reply k speaker (words.finished d.state.machine.extra.mech d.state.machine.extra.copier.principal) r.place r.bytes r.now d t r.is r.handled.taken
        (shows_with (Some r.bytes) None r.took_is r.none) (fair (Some r.bytes) r.handled) right
    named_by (inr (inr (inr (inl r)))) =
        subst (λ (x : DestStep M). Goes k x.host) (sym r.is)
        (known.tick k speaker r.now d
        (subst (λ (x : DestStep M). ShowsStep (spelling accepts whose) meaning s k None speaker None d x) r.is (shows_with None None r.took_is r.none))
        (subst (λ (x : DestStep M). IsFair d x) r.is (fair None r.handled)) right)
    named_by (inr (inr (inr (inr r)))) =
        known.rest k took speaker d t (shows_with took None refl r.none) r.same r.sent right
