-- What holds of a destination as a caller holds when it is opened, and behind each step that is seen as it should be.
use Rattle.std.proofs.Common.{◌≡◌, ◌∙◌, ℕ, zero, suc, false, List, Option, None, get_or, refl, sym, ap, subst}
use Rattle.std.specs.Prelude.{max, replicate}
use Rattle.caller_laws.specs.Good.{Identity, IsGood}
use Rattle.caller_laws.specs.OneStep.Whole.{IsLawfulStep}
use Rattle.copy_privs.specs.declared.peer.Peer.{Peer}
use Rattle.dest_core.specs.Core.{dest_rules, no_copier}
use Rattle.dest_core.specs.Stepping.{DestState, DestStep, IsRecord, IsRecordBy, IsReply, IsWork, copier_in}
use Rattle.dest_laws.proofs.calls.GivenOut.{comes_given}
use Rattle.dest_laws.specs.Calls.Settled.{IsClientsPost, IsSettledAs}
use Rattle.dest_laws.specs.Calls.Steps.{IsSeen, above_of, mount_of}
use Rattle.dest_laws.specs.Deeds.{ByDeeds}
use Rattle.dest_laws.specs.Own.Going.{jobs_in}
use Rattle.dest_laws.specs.View.Steps.{ShowsStep, part_by}
use Rattle.dest_laws.specs.View.View.{caller_in}
use Rattle.dest_steps.specs.Copier.{Codes}
use Rattle.dest_tasks.specs.declared.seats.TheConstants.{SEATS}
use Rattle.gss_mech.specs.declared.mechanism.Accepted.{Accepted}
use Rattle.mount.specs.State.{fresh}
use Rattle.mount.specs.Taking.{Means}
use Rattle.nfs_base.specs.declared.seal.End.{End}
use Rattle.nfs_base.specs.declared.seal.End.TheVariants.{Dest, Source}
use Rattle.rpc_calls.specs.Judging.{judged_of}
use Rattle.rpc_calls.specs.declared.call.Judged.{Judged}
use Rattle.rpc_calls.specs.declared.call.Judged.TheVariants as judged
use Rattle.rpc_calls.specs.declared.call.TheConstants.Program as programs
use Rattle.server_volume.specs.Choices.{choice_of}
use Rattle.session_server.specs.Host as hosts
use Rattle.session_server.specs.Steps.{IsJudgedTurn}
use Rattle.streams.specs.declared.draws.Drawn.{Drawn}
use Rattle.wire_lines.specs.declared.letters.Speaker.{Speaker}
use Rattle.wire_machine.specs.History.{part_acts}
use Rattle.wire_model.specs.CallerLaws.{CallerLaws}
use Rattle.wire_model.specs.Meaning.{Meaning}
use Rattle.wire_model.specs.System.{System}
use Rattle.wire_model.specs.Wire.{Acts, Caller, Executed}
use Rattle.wire_spelling.specs.Spelling.{spelling}

none_at : (n seat : ℕ) → IsClientsPost (get_or (replicate n None) seat None)
none_at zero seat = tt
none_at (suc n) zero = tt
none_at (suc n) (suc seat) = none_at n seat

pub begins : (who : Identity) → IsGood who (fresh Source false) → (boot capacity : ℕ) (source : Peer) (principal : List ℕ)
    → IsSettledAs who (no_copier boot capacity source principal)
begins who good boot capacity source principal =
    record { good = good; server = refl; clients = record { lines = tt; posts = none_at SEATS }; given = tt }

module _ {M : Type 0} (who : Identity) (means : Means) where
  pub own_laws : (s t : DestState M) (shown : Acts) → IsSettledAs who (copier_in s) → IsLawfulStep who (above_of s) (above_of t) (mount_of s) (mount_of t) shown
      → CallerLaws (spelling who.accepts who.whose) Source who.own (caller_in s) (caller_in t) shown
  own_laws s t shown settled lawful =
      subst (λ (e : End). CallerLaws (spelling who.accepts who.whose) e who.own (caller_in s) (caller_in t) shown) settled.server lawful.laws

  pub stays : (s t : DestState M) (shown : Acts) → IsSeen who means s t shown → IsSettledAs who (copier_in s) → IsLawfulStep who (above_of s) (above_of t) (mount_of s) (mount_of t) shown
      → ByDeeds (jobs_in s) (jobs_in t) → IsSettledAs who (copier_in t)
  stays s t shown seen settled lawful deeds = record {
    good = lawful.good;
    server = lawful.server ∙ settled.server;
    clients = seen.clients;
    given = comes_given deeds.0 (jobs_in s) (jobs_in t) deeds.1 settled.given;
  }

  pub shown_laws : (meaning : Meaning) (y : System) (k : ℕ) (took : Option (List ℕ)) (speaker : Speaker) (executed : Option Executed) (d : DestState M) (t : DestStep M)
      → ShowsStep (spelling who.accepts who.whose) meaning y k took speaker executed d t → who.own ≡ Dest
      → CallerLaws (spelling who.accepts who.whose) Source who.own (caller_in d) (caller_in t.host) (part_acts (part_by took speaker t) executed)
      → CallerLaws (spelling who.accepts who.whose) Source Dest (y.caller Source Dest k) (y.caller Source Dest (suc k)) (y.acts Dest k)
  shown_laws meaning y k took speaker executed d t shows own laws =
      let spell = spelling who.accepts who.whose in
      subst (λ (e : End). CallerLaws spell Source e (y.caller Source Dest k) (y.caller Source Dest (suc k)) (y.acts Dest k)) own
      (subst (λ (a : Acts). CallerLaws spell Source who.own (y.caller Source Dest k) (y.caller Source Dest (suc k)) a) (sym shows.acts)
      (subst (λ (w : Caller). CallerLaws spell Source who.own (y.caller Source Dest k) w (part_acts (part_by took speaker t) executed)) (sym shows.after.caller)
      (subst (λ (v : Caller). CallerLaws spell Source who.own v (caller_in t.host) (part_acts (part_by took speaker t) executed)) (sym shows.before.caller) laws)))

-- ---- contexts

pub work_owner : {M W : Type 0} (gives : W → Drawn → W → Type 0) (started : List ℕ → List ℕ → Option (List ℕ)) (codes : Codes) (place now : ℕ) (s : DestState M)
    (before after : W) (t : DestStep M) → IsWork gives started codes place now s before after t → t.host.contexts.owner ≡ s.contexts.owner
work_owner gives started codes place now s before after t work =
    ap (λ (u : DestStep _). u.host.contexts.owner) (work.is (choice_of t.out.used) (λ n below. refl))

pub reply_owner : {M : Type 0} (codes : Codes) (finish : List ℕ → List ℕ → Option (List ℕ)) (place : ℕ) (message : List ℕ) (now : ℕ) (s : DestState M) (t : DestStep M)
    → IsReply codes finish place message now s t → t.host.contexts.owner ≡ s.contexts.owner
reply_owner codes finish place message now s t reply =
    ap (λ (u : DestStep _). u.host.contexts.owner) (reply.is (choice_of t.out.used) (λ n below. refl))

module _ {M W : Type 0} (codes : hosts.Codes) (tokens : List ℕ → List ℕ → Option Accepted) (gives : W → Drawn → W → Type 0)
    (conn : ℕ) (message : List ℕ) (now : ℕ) (s : DestState M) (before after : W) (t : DestStep M)
    (law : (j : Judged) → IsJudgedTurn j dest_rules codes tokens gives (max s.second now) conn s before after t → t.host.contexts.owner ≡ s.contexts.owner) where
  by_owner : (j : Judged) → IsRecordBy j codes tokens gives conn message now s before after t → t.host.contexts.owner ≡ s.contexts.owner
  by_owner judged.Reply turn = ap (λ (u : DestStep M). u.host.contexts.owner) turn.is
  by_owner judged.Unread turn = law judged.Unread turn
  by_owner (judged.Call call) turn = law (judged.Call call) turn

  pub record_owner : IsRecord codes tokens gives conn message now s before after t → t.host.contexts.owner ≡ s.contexts.owner
  record_owner turn = by_owner (judged_of codes.mic (max s.second now) programs.NFS message s.contexts) turn
