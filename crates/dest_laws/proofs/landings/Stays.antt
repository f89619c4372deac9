-- That workers ask by the plans of their jobs stays in each step.
use Rattle.std.proofs.Common.{◌≡◌, ◌∙◌, inl, inr, ℕ, zero, suc, List, length, Option, refl, sym, ap, subst, get_or}
use Rattle.std.specs.Prelude.{max, replicate}
use Rattle.copy_privs.specs.declared.peer.Peer.{Peer}
use Rattle.dest_back.specs.declared.hearing.Hearing.{Hearing}
use Rattle.dest_back.specs.declared.hearing.Hearing.TheVariants as hears
use Rattle.dest_core.specs.Core.{dest_rules, no_copier, no_copies}
use Rattle.dest_core.specs.Stepping as steps
use Rattle.dest_core.specs.Stepping.{DestState, DestStep, IsRecord, IsRecordBy, IsReply, IsWork, answer_step, copier_in, failure_step, second_in, tick_step}
use Rattle.dest_core.specs.declared.destination.Destination.{Destination}
use Rattle.dest_jobs.specs.declared.carried.Carried.{Carried}
use Rattle.dest_laws.proofs.landings.Doings.{IfMounts, IfWaits, effect_posted, turned_posted}
use Rattle.dest_laws.proofs.landings.Heard.{Brings, IfLands, IsHeardSo, heard_so, means_of}
use Rattle.dest_laws.proofs.landings.Keeping.{again_all_fewer, failure_work, reply_keeps, work_at, work_keeps}
use Rattle.dest_laws.proofs.landings.Places.{Fewer, fewer_given_up, fewer_same}
use Rattle.dest_laws.proofs.landings.Plans.{DeedLaws, plans_kept}
use Rattle.dest_laws.proofs.landings.Posts.{moves_posted, posted_fewer, work_fewer, work_on, work_settled}
use Rattle.dest_laws.proofs.landings.Turns.{SendLaws}
use Rattle.dest_laws.specs.Deeds.{ByDeeds}
use Rattle.dest_laws.specs.Landings.Orderly.{IsOrderly}
use Rattle.dest_laws.specs.Landings.Posted.{ArePosted, ArePostedIn, IsPosted, asked_at}
use Rattle.dest_laws.specs.Landings.Seating.{KeepsWork, SameWork, same_work}
use Rattle.dest_laws.specs.Own.Going.{jobs_in}
use Rattle.dest_steps.specs.Copier.{Codes}
use Rattle.dest_steps.specs.Hearing.{heard_client, hearing_done}
use Rattle.dest_steps.specs.Ticking.{again}
use Rattle.dest_steps.specs.declared.copier.Copier.{Copier}
use Rattle.dest_steps.specs.declared.replying.Effect.{Effect}
use Rattle.dest_steps.specs.declared.replying.Effect.TheVariants as effects
use Rattle.dest_steps.specs.declared.replying.Heard.{Heard}
use Rattle.dest_tasks.specs.Posts.{post_at}
use Rattle.dest_tasks.specs.declared.post.Post.{Post}
use Rattle.dest_tasks.specs.declared.post.Post.TheVariants.{Idle}
use Rattle.dest_tasks.specs.declared.workers.TheConstants.{WORKERS}
use Rattle.dest_work.specs.Work.{with_mount}
use Rattle.dest_work.specs.declared.work.Work.{Work}
use Rattle.gss_ctx.specs.Seals.{Mic}
use Rattle.gss_mech.specs.declared.mechanism.Accepted.{Accepted}
use Rattle.job_book.specs.Book.{IsSound}
use Rattle.job_table.specs.Table.{JobTable}
use Rattle.mount.specs.Falling.{given_up}
use Rattle.mount.specs.State.{Mounted}
use Rattle.mount.specs.Taking.{Means}
use Rattle.nfs_base.specs.declared.net_loc.NetLoc.{NetLoc}
use Rattle.own_laws.specs.Following.{InTurns}
use Rattle.rpc_calls.specs.Judging.{judged_of}
use Rattle.rpc_calls.specs.declared.call.Judged.{Judged}
use Rattle.rpc_calls.specs.declared.call.Judged.TheVariants as judged
use Rattle.rpc_calls.specs.declared.call.TheConstants.Program as programs
use Rattle.session_server.specs.Host as hosts
use Rattle.session_server.specs.Steps.{IsJudgedTurn}
use Rattle.streams.specs.declared.draws.Drawn.{Drawn}

-- ---- a record on a connection

same_posted : (t : JobTable) (x y : Copier) → SameWork x y → ArePostedIn t x.work → ArePostedIn t y.work
same_posted t x y same posted p =
    subst (λ (posts : List Post). IsPosted t (asked_at y.work.mount p) (post_at posts p)) (sym same.workers)
    (posted_fewer t (asked_at x.work.mount p) (asked_at y.work.mount p) (post_at x.work.workers p) (fewer_same x.work.mount y.work.mount same.places p) (posted p))

hearing_same : (boot : ℕ) (hearing : Hearing) (x : Copier) → SameWork x (hearing_done boot hearing x).0
hearing_same boot hears.Unmatched x = record { workers = refl; places = refl }
hearing_same boot (hears.Passed number accepted) x = same_work x
hearing_same boot (hears.Done number seal) x = record { workers = refl; places = refl }

answer_same : {M : Type 0} (mic : Mic) (message : List ℕ) (now : ℕ) (s : DestState M) → SameWork (copier_in s) (copier_in (answer_step mic message now s).host)
answer_same mic message now s =
    let boot = s.state.machine.store.volume.boot in
    let same = hearing_same boot (heard_client mic boot message (copier_in s)) (copier_in (second_in now s)) in
    record { workers = same.workers; places = same.places }

module _ {M W : Type 0} (codes : hosts.Codes) (accepted : List ℕ → List ℕ → Option Accepted) (gives : W → Drawn → W → Type 0)
    (law : InTurns {X = Destination M} {C = Carried} KeepsWork dest_rules codes accepted gives) where
  record_by : (j : Judged) (conn : ℕ) (message : List ℕ) (now : ℕ) (s : DestState M) (before after : W) (t : DestStep M)
      → judged_of codes.mic (max s.second now) programs.NFS message s.contexts ≡ j → IsRecordBy j codes accepted gives conn message now s before after t
      → SameWork (copier_in s) (copier_in t.host)
  record_by judged.Reply conn message now s before after t is turn =
      subst (λ (u : DestStep M). SameWork (copier_in s) (copier_in u.host)) (sym turn.is) (answer_same codes.mic message now s)
  record_by judged.Unread conn message now s before after t is turn =
      law conn message now s before after t
      (subst (λ (j : Judged). IsJudgedTurn j dest_rules codes accepted gives (max s.second now) conn s before after t) (sym is) turn)
  record_by (judged.Call call) conn message now s before after t is turn =
      law conn message now s before after t
      (subst (λ (j : Judged). IsJudgedTurn j dest_rules codes accepted gives (max s.second now) conn s before after t) (sym is) turn)

  pub record_same : (conn : ℕ) (message : List ℕ) (now : ℕ) (s : DestState M) (before after : W) (t : DestStep M)
      → IsRecord codes accepted gives conn message now s before after t → SameWork (copier_in s) (copier_in t.host)
  record_same conn message now s before after t turn =
      record_by (judged_of codes.mic (max s.second now) programs.NFS message s.contexts) conn message now s before after t refl turn

pub record_posted : {M : Type 0} (laws : DeedLaws) (s : DestState M) (t : DestStep M) → ByDeeds (jobs_in s) (jobs_in t.host) → SameWork (copier_in s) (copier_in t.host)
    → ArePosted (copier_in s) → ArePosted (copier_in t.host)
record_posted laws s t deeds same posted =
    work_on (jobs_in s).table (jobs_in t.host).table (work_at t.host) (plans_kept laws (jobs_in s) (jobs_in t.host) deeds)
    (same_posted (jobs_in s).table (copier_in s) (copier_in t.host) same posted)

-- ---- a worker's turn, a record of the source, a link that failed, and a second that comes by itself

abbrev On : {M : Type 0} → DestState M → DestState M → Type 0
On s u = ArePostedIn (jobs_in s).table (work_at u)

then_on : {M : Type 0} (laws : DeedLaws) (s u : DestState M) → ByDeeds (jobs_in s) (jobs_in u) → On s u → ArePosted (copier_in u)
then_on laws s u deeds posted = work_on (jobs_in s).table (jobs_in u).table (work_at u) (plans_kept laws (jobs_in s) (jobs_in u) deeds) posted

pub work_posted : {M W : Type 0} (sends : SendLaws) (laws : DeedLaws) (gives : W → Drawn → W → Type 0) (started : List ℕ → List ℕ → Option (List ℕ)) (codes : Codes)
    (place now : ℕ) (s : DestState M) (before after : W) (t : DestStep M) → ByDeeds (jobs_in s) (jobs_in t.host) → IsSound (jobs_in s).table
    → IsWork gives started codes place now s before after t → ArePosted (copier_in s) → ArePosted (copier_in t.host)
work_posted sends laws gives started codes place now s before after t deeds sound work posted =
    let table = (jobs_in s).table in
    then_on laws s t.host deeds
    (work_keeps sends gives started codes place now s before after t (ArePostedIn table) (moves_posted table place) (turned_posted table place) sound.given work posted)

waits_whole : (effect : Effect) (x : Copier) (means : Means) (place : ℕ) (message : List ℕ) (old : Copier) (heard : Heard)
    → IfLands effect (Brings means place message old heard) → IfWaits effect x (λ job chunk bytes. length bytes ≡ chunk.len)
waits_whole (effects.Drops why) x means place message old heard lands = tt
waits_whole (effects.Goes m) x means place message old heard lands = tt
waits_whole (effects.Denied job m) x means place message old heard lands = tt
waits_whole (effects.Stops job cause told m) x means place message old heard lands = tt
waits_whole (effects.Lands job chunk bytes told m) x means place message old heard lands = λ held. lands.whole

-- where a length becomes known, no chunk lands
goes_whole : (effect : Effect) (m : Mounted) (x : Copier) → effect ≡ effects.Goes m → IfWaits effect x (λ job chunk bytes. length bytes ≡ chunk.len)
goes_whole effect m x is = subst (λ (e : Effect). IfWaits e x (λ job chunk bytes. length bytes ≡ chunk.len)) (sym is) tt

module _ (codes : Codes) (finish : List ℕ → List ℕ → Option (List ℕ)) (place : ℕ) (message : List ℕ) (old : Copier) (heard : Heard) (new : Copier)
    (so : IsHeardSo (means_of codes finish) place message old heard new) where
  pub whole_by : (x : Copier) → IfWaits heard.effect x (λ job chunk bytes. length bytes ≡ chunk.len)
  whole_by x =
      elim so.either [
        | inl quiet ↦ waits_whole heard.effect x (means_of codes finish) place message old heard quiet.lands
        | inr sized ↦ goes_whole heard.effect sized.mount x sized.effect_is
      ]

  pub same_by : new.work ≡ old.work
  same_by =
      elim so.either [
        | inl quiet ↦ ap (λ (x : Copier). x.work) quiet.still
        | inr sized ↦ ap (λ (x : Copier). x.work) sized.is
      ]

pub reply_posted : {M : Type 0} (laws : DeedLaws) (codes : Codes) (finish : List ℕ → List ℕ → Option (List ℕ)) (place : ℕ) (message : List ℕ) (now : ℕ)
    (s : DestState M) (t : DestStep M) → ByDeeds (jobs_in s) (jobs_in t.host) → IsReply codes finish place message now s t
    → ArePosted (copier_in s) → ArePosted (copier_in t.host)
reply_posted laws codes finish place message now s t deeds reply posted =
    let table = (jobs_in s).table in
    let old = copier_in s in
    let so = heard_so codes finish (steps.around (max s.second now) s) place message old reply.heard reply.copier reply.is_heard in
    then_on laws s t.host deeds
    (reply_keeps codes finish place message now s t (ArePostedIn table) reply
    (λ choice d is.
    let work : d.copier.work ≡ old.work = ap (λ (x : Copier). x.work) is ∙ same_by codes finish place message old reply.heard reply.copier so in
    effect_posted table choice place reply.heard.effect d
    (subst (λ (w : Work). IfMounts reply.heard.effect (Fewer w.mount)) (sym work) so.mounts)
    (whole_by codes finish place message old reply.heard reply.copier so d.copier)
    (subst (ArePostedIn table) (sym work) posted)))

pub failure_posted : {M : Type 0} (laws : DeedLaws) (codes : Codes) (place : ℕ) (s : DestState M) → ByDeeds (jobs_in s) (jobs_in (failure_step codes place s).host)
    → ArePosted (copier_in s) → ArePosted (copier_in (failure_step codes place s).host)
failure_posted laws codes place s deeds posted =
    let table = (jobs_in s).table in
    let w = work_at s in
    let m = given_up place w.mount in
    then_on laws s (failure_step codes place s).host deeds
    (subst (ArePostedIn table) (sym (failure_work codes place s))
    (work_settled table (with_mount m w) (work_fewer table w m (fewer_given_up place w.mount) posted)))

pub tick_posted : {M : Type 0} (laws : DeedLaws) (codes : Codes) (now : ℕ) (s : DestState M) → ByDeeds (jobs_in s) (jobs_in (tick_step codes now s).host)
    → ArePosted (copier_in s) → ArePosted (copier_in (tick_step codes now s).host)
tick_posted laws codes now s deeds posted =
    let table = (jobs_in s).table in
    let around = steps.around (max s.second now) s in
    then_on laws s (tick_step codes now s).host deeds
    (work_fewer table (work_at s) (again codes around (copier_in s)).mount (again_all_fewer codes around (copier_in s)) posted)

-- ---- a destination that was just opened

idle_at : (n i : ℕ) → get_or (replicate n Idle) i Idle ≡ Idle
idle_at zero zero = refl
idle_at zero (suc i) = refl
idle_at (suc n) zero = refl
idle_at (suc n) (suc i) = idle_at n i

pub opened_posted : (boot capacity : ℕ) (source : Peer) (principal : List ℕ) → ArePosted (no_copier boot capacity source principal)
opened_posted boot capacity source principal p =
    let x = no_copier boot capacity source principal in
    subst (IsPosted x.copies.book.table (asked_at x.work.mount p)) (sym (idle_at WORKERS p)) tt

pub opened_orderly : {M : Type 0} (boot capacity : ℕ) (mech : M) (source : Peer) (principal : List ℕ) (own : NetLoc) (d : DestState M)
    → d.state.machine.extra ≡ no_copies boot capacity mech source principal own → IsOrderly d
opened_orderly {M} boot capacity mech source principal own d is = record {
  silent = ap (λ (x : Destination M). x.copier.copies.told) is;
  posted = subst (λ (x : Destination M). ArePosted x.copier) (sym is) (opened_posted boot capacity source principal);
}
