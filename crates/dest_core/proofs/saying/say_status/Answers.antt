use Rattle.std.proofs.Common.{sym, ap, ◌∙◌}
use Rattle.compound_server.specs.Serves.{served_bytes}
use Rattle.copy_ops.specs.declared.res.CopyRes.TheVariants as results
use Rattle.copy_ops.specs.declared.results.OffloadProgress.{OffloadProgress}
use Rattle.nfs_base.specs.declared.answer.Answer.{Answer}
use Rattle.dest_core.proofs.Answers.{progress_spelled, says_as}
use Rattle.compound_server.specs.SayingLaws.{status_refused_spelled}
use Rattle.dest_core.proofs.saying.say_status.Goals as goal

pub returns-in-Refused-clause-says : goal.returns-in-Refused-clause-says
returns-in-Refused-clause-says c =
    says_as (sym (status_refused_spelled c.in-Refused.status) ∙ ap (λ (a : Answer OffloadProgress). served_bytes (results.OffloadStatus a)) (sym c.in-Refused.is)) c.refuse.ensures.says

pub returns-in-Done-clause-says : goal.returns-in-Done-clause-says
returns-in-Done-clause-says c =
    says_as (progress_spelled c.in-Done.progress ∙ ap (λ (a : Answer OffloadProgress). served_bytes (results.OffloadStatus a)) (sym c.in-Done.is)) c.say_progress.ensures.says
