-- The steps in which copies are taken and jobs end.
use Rattle.std.proofs.Common.{◌≡◌, ℕ, Bool, true, false, List, Option, refl, sym, subst}
use Rattle.std.specs.Prelude.{max}
use Rattle.dest_back.specs.declared.hearing.Hearing.{Hearing}
use Rattle.dest_back.specs.declared.hearing.Hearing.TheVariants as hears
use Rattle.dest_core.specs.Core.{dest_rules}
use Rattle.dest_core.specs.Stepping.{DestState, DestStep, IsRecord, IsRecordBy, answer_step, copier_in, second_in, tick_step}
use Rattle.dest_core.specs.declared.destination.Destination.{Destination}
use Rattle.dest_jobs.specs.Progress.{reported_if}
use Rattle.dest_jobs.specs.declared.carried.Carried.{Carried}
use Rattle.dest_jobs.specs.declared.copies.Copies.{Copies}
use Rattle.dest_laws.specs.Histories.Kinds.{Ends, TakesAndEnds, is_end, is_taking}
use Rattle.dest_laws.specs.Own.Going.{TakesAlong, jobs_in}
use Rattle.dest_laws.specs.Own.GoingLaws.{all_end, none, one}
use Rattle.dest_steps.specs.Copier.{Codes}
use Rattle.dest_steps.specs.Hearing.{heard_client, hearing_done, job_name}
use Rattle.dest_steps.specs.declared.copier.Copier.{Copier}
use Rattle.dest_tasks.specs.Completing.{Retires}
use Rattle.gss_ctx.specs.Seals.{Mic}
use Rattle.gss_mech.specs.declared.mechanism.Accepted.{Accepted}
use Rattle.job_book.specs.Book.{id_of}
use Rattle.job_table.specs.Table.{is_ended}
use Rattle.nfs_base.specs.declared.job.JobName.{JobName}
use Rattle.nfs_base.specs.declared.job.Stop.TheVariants.{LeaseExpired}
use Rattle.own_laws.specs.Following.{InTurns}
use Rattle.rpc_calls.specs.Judging.{judged_of}
use Rattle.rpc_calls.specs.declared.call.Judged.{Judged}
use Rattle.rpc_calls.specs.declared.call.Judged.TheVariants as judged
use Rattle.rpc_calls.specs.declared.call.TheConstants.Program as programs
use Rattle.sess_slots.specs.Begins.{has_lapsed}
use Rattle.session_server.specs.Host as hosts
use Rattle.session_server.specs.Steps.{IsJudgedTurn}
use Rattle.streams.specs.declared.draws.Drawn.{Drawn}

-- ---- a client's reply to a callback

reported_ends : (ended : Bool) (job : JobName) (x : Copies) → TakesAndEnds x.book (reported_if ended job x).book
reported_ends true job x = one is_taking (Retires job) x.book (reported_if true job x).book refl refl
reported_ends false job x = none is_taking x.book x.book refl

hearing_ends : (boot : ℕ) (hearing : Hearing) (x : Copier) → TakesAndEnds x.copies.book (hearing_done boot hearing x).0.copies.book
hearing_ends boot hears.Unmatched x = none is_taking x.copies.book x.copies.book refl
hearing_ends boot (hears.Passed number accepted) x = none is_taking x.copies.book x.copies.book refl
hearing_ends boot (hears.Done number seal) x =
    reported_ends (is_ended x.copies.book.table (id_of (job_name boot number))) (job_name boot number) x.copies

answer_ends : {M : Type 0} (mic : Mic) (message : List ℕ) (now : ℕ) (s : DestState M) → TakesAndEnds (jobs_in s) (jobs_in (answer_step mic message now s).host)
answer_ends mic message now s =
    let boot = s.state.machine.store.volume.boot in
    hearing_ends boot (heard_client mic boot message (copier_in s)) (copier_in (second_in now s))

-- ---- a second that comes by itself

pub tick_ends : {M : Type 0} (codes : Codes) (now : ℕ) (s : DestState M) → Ends (jobs_in s) (jobs_in (tick_step codes now s).host)
tick_ends codes now s =
    let t = second_in now s in
    all_end is_end (λ name. refl) (λ client. has_lapsed t.state.sessions client t.second) LeaseExpired (copier_in t).copies

-- ---- any record on a connection

module _ {M W : Type 0} (codes : hosts.Codes) (accepted : List ℕ → List ℕ → Option Accepted) (gives : W → Drawn → W → Type 0)
    (law : InTurns {X = Destination M} {C = Carried} TakesAlong dest_rules codes accepted gives) where
  record_by : (j : Judged) (conn : ℕ) (message : List ℕ) (now : ℕ) (s : DestState M) (before after : W) (t : DestStep M)
      → judged_of codes.mic (max s.second now) programs.NFS message s.contexts ≡ j → IsRecordBy j codes accepted gives conn message now s before after t
      → TakesAndEnds (jobs_in s) (jobs_in t.host)
  record_by judged.Reply conn message now s before after t is turn =
      subst (λ (u : DestStep M). TakesAndEnds (jobs_in s) (jobs_in u.host)) (sym turn.is) (answer_ends codes.mic message now s)
  record_by judged.Unread conn message now s before after t is turn =
      law conn message now s before after t
      (subst (λ (j : Judged). IsJudgedTurn j dest_rules codes accepted gives (max s.second now) conn s before after t) (sym is) turn)
  record_by (judged.Call call) conn message now s before after t is turn =
      law conn message now s before after t
      (subst (λ (j : Judged). IsJudgedTurn j dest_rules codes accepted gives (max s.second now) conn s before after t) (sym is) turn)

  pub record_takes : (conn : ℕ) (message : List ℕ) (now : ℕ) (s : DestState M) (before after : W) (t : DestStep M)
      → IsRecord codes accepted gives conn message now s before after t → TakesAndEnds (jobs_in s) (jobs_in t.host)
  record_takes conn message now s before after t turn =
      record_by (judged_of codes.mic (max s.second now) programs.NFS message s.contexts) conn message now s before after t refl turn
