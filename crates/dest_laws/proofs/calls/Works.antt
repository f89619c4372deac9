-- A worker's turn, as the source sees it.
use Rattle.std.proofs.Common.{◌≡◌, ◌∙◌, ◌⊎◌, inl, inr, ℕ, ◌<◌, ◌≤◌, true, List, length, Option, Some, None, refl, sym, ap, subst, arith}
use Rattle.std.proofs.lemmas.Bool.{cases_lt}
use Rattle.std.proofs.lemmas.List.{get_or-set_same, get_or_past, length-set}
use Rattle.std.specs.Prelude.{map, max, slice_set}
use Rattle.caller_laws.specs.Good.{Identity}
use Rattle.caller_laws.specs.Moves.{Send, sent_by}
use Rattle.caller_laws.specs.OneStep.Besides.{AreBesides}
use Rattle.dest_back.specs.Callbacks.{CallbackTable}
use Rattle.dest_core.specs.Stepping.{DestState, DestStep, IsWork, around, copier_in, doing_in, second_in, turn_step, with_copier, without_lapsed}
use Rattle.dest_laws.proofs.calls.Asking.{IsReady}
use Rattle.dest_laws.proofs.calls.Boots.{made_stays}
use Rattle.dest_laws.proofs.calls.Callbacks.{max_left}
use Rattle.dest_laws.proofs.calls.Dues.{IsAsked, IsIdle, dues_turn}
use Rattle.dest_laws.proofs.calls.Landings.{Ends, TurnTells, made_ends, put_keeps}
use Rattle.dest_laws.proofs.calls.Wholes.{rest_whole, send_whole, stays_ready}
use Rattle.dest_laws.specs.Calls.Fits.{WorkIsFit}
use Rattle.dest_laws.specs.Calls.Settled.{AreClients, IsSettledAs}
use Rattle.dest_laws.specs.Calls.Steps.{IsSeenWhere, StartsOwn, above_of}
use Rattle.dest_laws.specs.View.Steps.{part_by}
use Rattle.dest_laws.specs.View.View.{made_in, post_purpose, ready_by}
use Rattle.dest_steps.specs.Calls.{workers_call}
use Rattle.dest_steps.specs.Copier.{Codes, last_xid}
use Rattle.dest_steps.specs.Working.{turn_made}
use Rattle.dest_steps.specs.declared.copier.Copier.{Copier}
use Rattle.dest_steps.specs.declared.turning.Turn.TheVariants as turns
use Rattle.dest_steps.specs.declared.turning.Turn.{Turn}
use Rattle.dest_tasks.specs.Posts.{post_at, put_at}
use Rattle.dest_tasks.specs.declared.post.Errand.{Errand}
use Rattle.dest_tasks.specs.declared.post.Post.{Post}
use Rattle.dest_tasks.specs.declared.post.Post.TheVariants.{Awaits, Idle}
use Rattle.dest_tasks.specs.declared.workers.TheConstants.{WORKERS}
use Rattle.dest_work.specs.declared.work.Work.{Work}
use Rattle.mount.specs.Laws.{Goes, Went}
use Rattle.mount.specs.State.{Mounted, awaited_at}
use Rattle.mount.specs.Taking.{Means}
use Rattle.mount.specs.declared.machine.SendAt.{SendAt}
use Rattle.mount.specs.declared.machine.Sent.{Sent}
use Rattle.nfs_base.specs.declared.job.JobName.{JobName}
use Rattle.nfs_base.specs.declared.seal.End.{End}
use Rattle.nfs_base.specs.declared.seal.End.TheVariants.{Source}
use Rattle.server_volume.specs.Choices.{Choice, choice_of}
use Rattle.streams.specs.declared.draws.Drawn.{Drawn}
use Rattle.wire_lines.specs.declared.letters.Speaker.{Speaker}
use Rattle.wire_machine.specs.History.{part_acts, sent_of}
use Rattle.wire_model.specs.Wire.{Executed}
use Rattle.wire_spelling.specs.Spelling.{spelling}

-- what was put is there, or nothing is
pub put_there : (place : ℕ) (post : Post) (posts : List Post) → (post_at (put_at place post posts) place ≡ post) ⊎ (post_at (put_at place post posts) place ≡ Idle)
put_there place post posts =
    elim (cases_lt place (length posts)) [
      | inl there ↦ inl (get_or-set_same posts place post Idle there)
      | inr past ↦
          let short : length (slice_set posts place post) ≤ place = omega (arith, length-set posts place post, past) in
          inr (get_or_past (slice_set posts place post) place Idle short)
    ]

put_ready : (place made : ℕ) (job : JobName) (errand : Errand) (posts : List Post) → IsReady made job errand
    → ready_by made (post_purpose (post_at (put_at place (Awaits job errand) posts) place)) ≡ true
put_ready place made job errand posts ready =
    elim (put_there place (Awaits job errand) posts) [
      | inl is ↦ ap (λ (p : Post). ready_by made (post_purpose p)) is ∙ ready
      | inr none ↦ ap (λ (p : Post). ready_by made (post_purpose p)) none
    ]

counted : (at : SendAt) (m w : Mounted) (sent : Sent) (o : Option Sent) → o ≡ Some sent → Goes at m o w → w.calls ≡ at.xid
counted at m w sent None is goes = absurd cc
counted at m w sent (Some other) is goes = goes.calls

module _ {M : Type 0} (who : Identity) (means : Means) (went : (at : SendAt) (send : Send) (m : Mounted) → Went at m (sent_by means.mic at send m))
    (choice : Choice) (place now : ℕ) (s : DestState M) (settled : IsSettledAs who (copier_in s)) (within : place < WORKERS) (speaker : Speaker)
    (executed : Option Executed) (fit : Type 0) where
  abbrev T : Turn → Copier → DestStep M
  T turn x = turn_step choice place now turn (with_copier x s)

  abbrev Seen : DestStep M → Type 0
  Seen t = IsSeenWhere fit who means s t.host (part_acts (part_by None speaker t) executed)

  idle_seen : (turn : Turn) (x : Copier)
      → IsIdle fit who means.mic place (copier_in s).copies.book.table.made (copier_in s).work (copier_in s).back (turn, x) → made_in s ≤ made_in (T turn x).host
      → Seen (T turn x)
  idle_seen turn x idle later =
      let c = copier_in s in
      let m = c.work.mount in
      let start = without_lapsed (second_in now (with_copier x s)) in
      let d = doing_in start in
      let done = turn_made choice place turn d in
      let works : d.copier.work ≡ c.work = idle.work in
      let backs : d.copier.back ≡ c.back = idle.back_is in
      let ends : Ends who m d done =
      made_ends who m choice place turn d (subst AreClients (sym backs) settled.clients) (subst (λ (b : CallbackTable). TurnTells who m b turn) (sym backs) idle.tells)
      (λ told e. ap (λ (w : Work). awaited_at w.mount place) works ∙ idle.lands told e) in
      let same : done.doing.copier.work.mount ≡ m = ends.mount ∙ ap (λ (w : Work). w.mount) works in
      let tells =
      subst (λ (b : CallbackTable). AreBesides (spelling who.accepts who.whose) Source (last_xid m b) (map sent_of done.sent) (last_xid m done.doing.copier.back)) backs ends.tells.are in
      let counts =
      subst (λ (n : Mounted). AreBesides (spelling who.accepts who.whose) Source (last_xid m c.back) (map sent_of done.sent) (last_xid n done.doing.copier.back)) (sym same) tells in
      let step = rest_whole who means (above_of s) (above_of (T turn x).host) m done.doing.copier.work.mount (part_acts (part_by None speaker (T turn x)) executed) same
      (record {
        boot = sym (made_stays choice place turn d);
        ready = stays_ready (made_in s) (made_in (T turn x).host) later;
        purpose = λ q a there.
            ends.posts q a (ap (λ (w : Work). awaited_at w.mount q) works ∙ there)
            ∙ ap (λ (w : Work). post_purpose (post_at w.workers q)) works;
      })
      (inl refl) (map sent_of done.sent) refl
      (subst (λ (e : End). AreBesides (spelling who.accepts who.whose) e (last_xid m c.back) (map sent_of done.sent)
      (last_xid done.doing.copier.work.mount done.doing.copier.back)) (sym settled.server) counts) in
      record { seen = record { step = step.step; fits = λ sends. step.fits; clients = ends.tells.clients }; sends = λ f. step.sends }

  call_seen : (turn : Turn) (x : Copier)
      → (asked : IsAsked fit who means.mic place (copier_in s).copies.book.table.made (copier_in s).work (copier_in s).back (turn, x))
      → made_in s ≤ made_in (T (turns.Sent (workers_call place asked.label asked.sent)) x).host
      → Seen (T (turns.Sent (workers_call place asked.label asked.sent)) x)
  call_seen turn x asked later =
      let c = copier_in s in
      let m = c.work.mount in
      let t = T (turns.Sent (workers_call place asked.label asked.sent)) x in
      let b = above_of t.host in
      let next = asked.next in
      let calls : (sent_by means.mic asked.at asked.send m).1.calls ≡ asked.at.xid =
      counted asked.at m (sent_by means.mic asked.at asked.send m).1 asked.sent (sent_by means.mic asked.at asked.send m).0 asked.goes (went asked.at asked.send m) in
      let now_calls : x.work.mount.calls ≡ asked.at.xid = ap (λ (w : Work). w.mount.calls) asked.work ∙ calls in
      let top = max_left x.work.mount.calls x.back.calls in
      let low = next.is in
      let at_place = asked.at_place in
      let step = send_whole who means (above_of s) b m x.work.mount (part_acts (part_by None speaker t) executed) asked.at asked.send asked.sent asked.goes
      (ap (λ (w : Work). w.mount) asked.work) asked.anew
      (record {
        boot = refl;
        ready = stays_ready (made_in s) (made_in t.host) later;
        purpose = λ q a there.
            ap (λ (w : Work). post_purpose (post_at w.workers q)) asked.work
            ∙ put_keeps m place (Awaits asked.job asked.errand) c.work.workers asked.free q a there;
      })
      (let le = within in omega arith) next.mount (omega arith) (omega (arith, top, now_calls)) next.small
      (asked.suits b
      (stays_ready (made_in s) (made_in t.host) later (post_purpose (post_at x.work.workers place))
      (ap (λ (w : Work). ready_by (made_in s) (post_purpose (post_at w.workers place))) asked.work
      ∙ put_ready place (made_in s) asked.job asked.errand c.work.workers asked.ready)))
      refl refl in
      record {
        seen = record { step = step.step; fits = step.fits; clients = subst AreClients (sym asked.back_is) settled.clients };
        sends = λ f. step.sends (asked.sends f);
      }

pub work_seen : {M W : Type 0} (who : Identity) (means : Means) → ((at : SendAt) (send : Send) (m : Mounted) → Went at m (sent_by means.mic at send m))
    → (gives : W → Drawn → W → Type 0) (started : List ℕ → List ℕ → Option (List ℕ)) (place now : ℕ) (s : DestState M) (before after : W) (t : DestStep M)
    (speaker : Speaker) (executed : Option Executed) → IsSettledAs who (copier_in s) → place < WORKERS → StartsOwn who (started (copier_in s).principal) gives
    → made_in s ≤ made_in t.host → IsWork gives started (record { mic = means.mic; derived = means.derived }) place now s before after t
    → IsSeenWhere (WorkIsFit means.mic gives started (copier_in s)) who means s t.host (part_acts (part_by None speaker t) executed)
work_seen {M} who means went gives started place now s before after t speaker executed settled within own later work =
    let choice = choice_of t.out.used in
    let is : t ≡ turn_step choice place now work.turn (with_copier work.copier s) = work.is choice (λ n below. refl) in
    let c = copier_in s in
    let codes : Codes = record { mic = means.mic; derived = means.derived } in
    let fit = WorkIsFit means.mic gives started c in
    subst (λ (u : DestStep M). IsSeenWhere fit who means s u.host (part_acts (part_by None speaker u) executed)) (sym is)
    (elim (dues_turn fit who gives started codes (around (max s.second now) s) before after place c (work.turn, work.copier) (λ at send. went at send c.work.mount) settled.clients settled.given
    (λ nonce token drew started_is. own before after nonce token drew started_is) (λ f. f) work.due) [
      | inl idle ↦
          idle_seen who means went choice place now s settled within speaker executed fit work.turn work.copier idle
          (subst (λ (u : DestStep M). made_in s ≤ made_in u.host) is later)
      | inr asked ↦
          let turn_is : work.turn ≡ turns.Sent (workers_call place asked.label asked.sent) = asked.due in
          let step = λ (turn : Turn). turn_step choice place now turn (with_copier work.copier s) in
          subst (λ (turn : Turn). IsSeenWhere fit who means s (step turn).host (part_acts (part_by None speaker (step turn)) executed)) (sym turn_is)
          (call_seen who means went choice place now s settled within speaker executed fit work.turn work.copier asked
          (subst (λ (turn : Turn). made_in s ≤ made_in (step turn).host) turn_is (subst (λ (u : DestStep M). made_in s ≤ made_in u.host) is later)))
    ])
