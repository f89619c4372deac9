-- No step leaves anything that was noted.
use Rattle.std.proofs.Common.{◌≡◌, ◌∙◌, ℕ, List, [], Option, Result, Ok, Err, refl, ap}
use Rattle.std.specs.Prelude.{max}
use Rattle.dest_core.specs.Core.{dest_rules}
use Rattle.dest_core.specs.Stepping.{DestState, DestStep, IsRecord, IsRecordBy, IsReply, IsWork, copier_in}
use Rattle.dest_jobs.specs.declared.carried.Carried.{Carried}
use Rattle.dest_steps.specs.Copier.{Codes}
use Rattle.gss_mech.specs.declared.mechanism.Accepted.{Accepted}
use Rattle.nfs_compound.specs.Compounds.{compound_of}
use Rattle.nfs_compound.specs.declared.compound.Compound.{Compound}
use Rattle.rpc_calls.specs.Judging.{judged_of}
use Rattle.rpc_calls.specs.declared.call.Call.{Call}
use Rattle.rpc_calls.specs.declared.call.Judged.{Judged}
use Rattle.rpc_calls.specs.declared.call.Judged.TheVariants as judged
use Rattle.rpc_calls.specs.declared.call.TheConstants.Program as programs
use Rattle.rpc_calls.specs.declared.call.What.{What}
use Rattle.rpc_calls.specs.declared.call.What.TheVariants as whats
use Rattle.server_volume.specs.Choices.{choice_of}
use Rattle.session_server.specs.Host as hosts
use Rattle.session_server.specs.Steps.{IsCompoundTurn, IsJudgedTurn, IsWhatTurn, judged_create, judgement_under}
use Rattle.session_server.specs.declared.extending.Judgement.{Judgement}
use Rattle.session_server.specs.declared.extending.Judgement.TheVariants as judgements
use Rattle.streams.specs.declared.draws.Drawn.{Drawn}
use Rattle.outbox.specs.declared.note.Note.{Note}

abbrev pub told_in : {M : Type 0} → DestState M → List Note
told_in s = (copier_in s).copies.told

module _ {M W : Type 0} (codes : hosts.Codes) (accepted : List ℕ → List ℕ → Option Accepted) (gives : W → Drawn → W → Type 0) (conn second : ℕ)
    (s : DestState M) (silent : told_in s ≡ []) where
  -- a step that leaves what was noted before
  left : (t u : DestStep M) → t ≡ u → told_in u.host ≡ told_in s → told_in t.host ≡ []
  left t u is same = ap (λ (v : DestStep M). told_in v.host) is ∙ (same ∙ silent)

  create_left : (call : Call) (j : Judgement Carried) → told_in (judged_create j dest_rules.parting codes second conn call s).host ≡ told_in s
  create_left call (judgements.Granted carry) = refl
  create_left call judgements.Misspelt = refl
  create_left call (judgements.Refused cause) = refl

  compound_left : (call : Call) (c : Result Compound ℕ) (t : DestStep M) → IsCompoundTurn dest_rules codes second conn call c s t → told_in t.host ≡ []
  compound_left call (Err at) t is = left t _ is refl
  compound_left call (Ok compound) t is = ap (λ (v : DestStep M). told_in v.host) (is (choice_of t.out.used) (λ n below. refl))

  what_left : (what : What) (call : Call) (before after : W) (t : DestStep M) → IsWhatTurn what dest_rules codes accepted gives second conn call s before after t → told_in t.host ≡ []
  what_left (whats.Dropped why) call before after t is = left t _ is.0 refl
  what_left (whats.Denied why) call before after t is = left t _ is.0 refl
  what_left (whats.Failed failure) call before after t is = left t _ is.0 refl
  what_left whats.Null call before after t is = left t _ is.0 refl
  what_left (whats.Init token) call before after t is = left t _ is.is refl
  what_left (whats.Create name privilege) call before after t is = left t _ is.0 (create_left call (judgement_under dest_rules second name privilege s call.under))
  what_left whats.Destroy call before after t is = left t _ is.0 refl
  what_left (whats.Compound args) call before after t is = compound_left call (compound_of args) t is.0

  judged_left : (j : Judged) (before after : W) (t : DestStep M) → IsJudgedTurn j dest_rules codes accepted gives second conn s before after t → told_in t.host ≡ []
  judged_left judged.Unread before after t is = left t _ is.0 refl
  judged_left judged.Reply before after t is = left t _ is.0 refl
  judged_left (judged.Call call) before after t is = what_left call.what call before after t is

module _ {M W : Type 0} (codes : hosts.Codes) (accepted : List ℕ → List ℕ → Option Accepted) (gives : W → Drawn → W → Type 0) where
  record_by : (j : Judged) (conn : ℕ) (message : List ℕ) (now : ℕ) (s : DestState M) (before after : W) (t : DestStep M) → told_in s ≡ []
      → IsRecordBy j codes accepted gives conn message now s before after t → told_in t.host ≡ []
  record_by judged.Reply conn message now s before after t silent is = ap (λ (v : DestStep M). told_in v.host) is.is
  record_by judged.Unread conn message now s before after t silent is = judged_left codes accepted gives conn (max s.second now) s silent judged.Unread before after t is
  record_by (judged.Call call) conn message now s before after t silent is =
      judged_left codes accepted gives conn (max s.second now) s silent (judged.Call call) before after t is

  pub record_silent : (conn : ℕ) (message : List ℕ) (now : ℕ) (s : DestState M) (before after : W) (t : DestStep M) → told_in s ≡ []
      → IsRecord codes accepted gives conn message now s before after t → told_in t.host ≡ []
  record_silent conn message now s before after t silent is =
      record_by (judged_of codes.mic (max s.second now) programs.NFS message s.contexts) conn message now s before after t silent is

pub work_silent : {M W : Type 0} (gives : W → Drawn → W → Type 0) (started : List ℕ → List ℕ → Option (List ℕ)) (codes : Codes) (place now : ℕ)
    (s : DestState M) (before after : W) (t : DestStep M) → IsWork gives started codes place now s before after t → told_in t.host ≡ []
work_silent {M} gives started codes place now s before after t work = ap (λ (v : DestStep M). told_in v.host) (work.is (choice_of t.out.used) (λ n below. refl))

pub reply_silent : {M : Type 0} (codes : Codes) (finish : List ℕ → List ℕ → Option (List ℕ)) (place : ℕ) (message : List ℕ) (now : ℕ)
    (s : DestState M) (t : DestStep M) → IsReply codes finish place message now s t → told_in t.host ≡ []
reply_silent {M} codes finish place message now s t reply = ap (λ (v : DestStep M). told_in v.host) (reply.is (choice_of t.out.used) (λ n below. refl))
