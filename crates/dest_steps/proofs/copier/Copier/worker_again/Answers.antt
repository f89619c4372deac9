use Rattle.std.proofs.Common.{◌≡◌, ◌∙◌, Bool, true, Option, Some, sym, ap}
use Rattle.std.specs.Prelude.{option_map}
use Rattle.std.proofs.lemmas.Result.{on_ok_weaker}
use Rattle.dest_tasks.specs.Posts.{asks, post_at}
use Rattle.dest_tasks.specs.declared.post.Errand.{Errand}
use Rattle.dest_work.specs.Work.{is_due}
use Rattle.mount.specs.State.{awaited_at}
use Rattle.nfs_base.specs.declared.job.JobName.{JobName}
use Rattle.dest_steps.specs.Copier.{Codes, around_of}
use Rattle.dest_steps.specs.Ticking.{call_for, call_if}
use Rattle.dest_steps.proofs.copier.Copier.worker_again.Goals as goal

pub returns-in-Some-clause-again : goal.returns-in-Some-clause-again
returns-in-Some-clause-again g c =
    let codes : Codes = record { mic = g.M.Mechanism.mic_of; derived = g.M.Mechanism.derived } in
    let around = around_of c.args.sessions.now c.args.here in
    let x = c.args.self.now in
    let a = c.args.again.now in
    let place = c.args.place in
    let tests = c.is_due.ensures in
    let holds = c.if-not-is_due.false in
    let told = c.sent_at.ensures in
    let due : is_due (option_map (λ w. w.sent_at) (awaited_at a.mount place)) c.args.here.second ≡ true = cc in
    let asked = c.asks.ensures in
    let some = c.in-Some.is in
    let call : asks (post_at x.work.workers place) ≡ Some (c.in-Some.field-0-0, c.in-Some.errand) = cc in
    let again = ap (λ (b : Bool). call_if b codes around place x a) due ∙ ap (λ (o : Option (JobName × Errand)). call_for codes around place o a) call in
    on_ok_weaker c.send_call.result (λ h. h c.in-Some.field-0-0 ∙ sym again) c.send_call.ensures.again
