use Rattle.std.proofs.Common.{sym, ap, ◌∙◌}
use Rattle.compound_server.specs.Serves.{served_bytes}
use Rattle.copy_ops.specs.declared.res.CopyRes.TheVariants as results
use Rattle.copy_ops.specs.declared.results.CopyAnswer.{CopyAnswer}
use Rattle.dest_core.proofs.Answers.{no_reqs_spelled, says_as, taken_spelled}
use Rattle.compound_server.specs.SayingLaws.{copy_refused_spelled}
use Rattle.dest_core.proofs.saying.say_copy.Goals as goal

pub returns-in-Refused-clause-says : goal.returns-in-Refused-clause-says
returns-in-Refused-clause-says c =
    says_as (sym (copy_refused_spelled c.in-Refused.status) ∙ ap (λ (a : CopyAnswer). served_bytes (results.Copy a)) (sym c.in-Refused.is)) c.refuse.ensures.says

pub returns-in-NoReqs-clause-says : goal.returns-in-NoReqs-clause-says
returns-in-NoReqs-clause-says c =
    says_as (no_reqs_spelled c.in-NoReqs.consecutive c.in-NoReqs.synchronous ∙ ap (λ (a : CopyAnswer). served_bytes (results.Copy a)) (sym c.in-NoReqs.is)) c.say_no_reqs.ensures.says

pub returns-in-Done-clause-says : goal.returns-in-Done-clause-says
returns-in-Done-clause-says c =
    says_as (taken_spelled c.in-Done.done ∙ ap (λ (a : CopyAnswer). served_bytes (results.Copy a)) (sym c.in-Done.is)) c.say_taken.ensures.says
