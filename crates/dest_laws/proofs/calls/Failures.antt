-- A worker's link failed, as the source sees it: the call is given up, and a client may be called back. And a destination that rests.
use Rattle.std.proofs.Common.{◌≡◌, inr, ℕ, ◌≤◌, Bool, true, false, [], Option, Some, None, refl, sym, subst, arith}
use Rattle.std.specs.Prelude.{map}
use Rattle.caller_laws.specs.Good.{Identity}
use Rattle.caller_laws.specs.OneStep.Besides.{AreBesides}
use Rattle.dest_back.specs.Callbacks.{CallbackTable}
use Rattle.dest_core.specs.Stepping.{DestState, DestStep, around, copier_in, failure_step, failure_taken, second_in}
use Rattle.dest_laws.proofs.calls.Callbacks.{TellsBy, stop_goes}
use Rattle.dest_laws.proofs.calls.Settling.{settled_keeps}
use Rattle.dest_laws.proofs.calls.Wholes.{gives_whole, rest_whole, stays_ready}
use Rattle.dest_laws.specs.Calls.Settled.{AreClients, IsSettledAs}
use Rattle.dest_laws.specs.Calls.Steps.{IsSeenPlain, above_of, mount_of}
use Rattle.dest_laws.specs.View.Steps.{part_by}
use Rattle.dest_laws.specs.View.View.{made_in}
use Rattle.dest_steps.specs.Copier.{Around, Codes}
use Rattle.dest_steps.specs.Failing as failings
use Rattle.dest_steps.specs.Failing.{failing, link_failed}
use Rattle.dest_steps.specs.declared.copier.Copier.{Copier}
use Rattle.dest_steps.specs.declared.failing.Failing.{Failing}
use Rattle.dest_steps.specs.declared.failing.Failing.TheVariants as fails
use Rattle.dest_tasks.specs.Posts.{job_in, post_at}
use Rattle.job_book.specs.Book.{id_of}
use Rattle.job_table.specs.Table.{is_running}
use Rattle.mount.specs.Falling.{given_up}
use Rattle.mount.specs.State.{Mounted}
use Rattle.mount.specs.Taking.{Means}
use Rattle.nfs_base.specs.declared.job.JobName.{JobName}
use Rattle.nfs_base.specs.declared.job.Stop.TheVariants.{LinkFault}
use Rattle.nfs_base.specs.declared.seal.End.{End}
use Rattle.wire_lines.specs.declared.letters.Speaker.{Speaker}
use Rattle.wire_machine.specs.History.{part_acts, sent_of}
use Rattle.wire_model.specs.Wire.{Acts, Executed}
use Rattle.wire_spelling.specs.Spelling.{spelling}

abbrev FailingTells : Identity → Mounted → CallbackTable → Failing → Type 0
FailingTells who m back fails.Nothing = Unit {0}
FailingTells who m back (fails.Stops job told) = TellsBy who m back told

failing_tells : (who : Identity) (codes : Codes) (around : Around) (x : Copier) → AreClients x.back → (o : Option JobName)
    → FailingTells who x.work.mount x.back (failings.failing_for codes around o x)
failing_tells who codes around x clients None = tt
failing_tells who codes around x clients (Some job) = by (is_running x.copies.book.table (id_of job))
  where
    by : (b : Bool) → FailingTells who x.work.mount x.back (failings.failing_if b codes around job x)
    by true = stop_goes who codes around x clients job LinkFault
    by false = tt

module _ {M : Type 0} (who : Identity) (means : Means) (place : ℕ) (s : DestState M) (settled : IsSettledAs who (copier_in s)) (speaker : Speaker) (executed : Option Executed) where
  abbrev T : Failing → DestStep M
  T f = failure_taken (link_failed place f (copier_in (second_in s.second s))) (second_in s.second s)

  abbrev Seen : Failing → Type 0
  Seen f = IsSeenPlain who means s (T f).host (part_acts (part_by None speaker (T f)) executed)

  by_failing : (f : Failing) → FailingTells who (mount_of s) (copier_in s).back f → made_in s ≤ made_in (T f).host → Seen f
  by_failing fails.Nothing tells later =
      let step =
      gives_whole who means (above_of s) (above_of (T fails.Nothing).host) (mount_of s) (given_up place (mount_of s)) (part_acts (part_by None speaker (T fails.Nothing)) executed)
      place refl
      (record {
        boot = refl;
        ready = stays_ready (made_in s) (made_in (T fails.Nothing).host) later;
        purpose = settled_keeps (given_up place (mount_of s)) (copier_in s).work;
      })
      (λ root learnt. let took = learnt.takes.took in cc) [] refl (omega arith) in
      record { seen = record { step = step.step; fits = λ sends. step.fits; clients = settled.clients }; sends = step.sends }
  by_failing (fails.Stops job told) tells later =
      let step =
      gives_whole who means (above_of s) (above_of (T (fails.Stops job told)).host) (mount_of s) (given_up place (mount_of s))
      (part_acts (part_by None speaker (T (fails.Stops job told))) executed) place refl
      (record {
        boot = refl;
        ready = stays_ready (made_in s) (made_in (T (fails.Stops job told)).host) later;
        purpose = settled_keeps (given_up place (mount_of s)) (copier_in s).work;
      })
      (λ root learnt. let took = learnt.takes.took in cc) (map sent_of told.sent) refl
      (subst (λ (e : End). AreBesides (spelling who.accepts who.whose) e (above_of s).calls (map sent_of told.sent) (above_of (T (fails.Stops job told)).host).calls)
      (sym settled.server) tells.are) in
      record { seen = record { step = step.step; fits = λ sends. step.fits; clients = tells.clients }; sends = step.sends }

pub failure_seen : {M : Type 0} (who : Identity) (means : Means) (place : ℕ) (s : DestState M) (speaker : Speaker) (executed : Option Executed)
    → IsSettledAs who (copier_in s) → made_in s ≤ made_in (failure_step (record { mic = means.mic; derived = means.derived }) place s).host
    → IsSeenPlain who means s (failure_step (record { mic = means.mic; derived = means.derived }) place s).host
    (part_acts (part_by None speaker (failure_step (record { mic = means.mic; derived = means.derived }) place s)) executed)
failure_seen who means place s speaker executed settled later =
    let codes : Codes = record { mic = means.mic; derived = means.derived } in
    let x = copier_in s in
    by_failing who means place s settled speaker executed (failing codes (around s.second s) place x)
    (failing_tells who codes (around s.second s) x settled.clients (job_in (post_at x.work.workers place))) later

-- ---- nothing is done, and nothing is accepted

pub rest_seen : {M : Type 0} (who : Identity) (means : Means) (s : DestState M) (shown : Acts) → IsSettledAs who (copier_in s) → shown.accepted ≡ None → shown.out ≡ []
    → IsSeenPlain who means s s shown
rest_seen who means s shown settled accepted out =
    let step =
    rest_whole who means (above_of s) (above_of s) (mount_of s) (mount_of s) shown refl
    (record { boot = refl; ready = λ purpose is. is; purpose = λ place x there. refl }) (inr accepted) [] out (omega arith) in
    record { seen = record { step = step.step; fits = λ sends. step.fits; clients = settled.clients }; sends = step.sends }
