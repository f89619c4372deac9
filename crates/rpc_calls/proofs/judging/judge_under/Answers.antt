use Rattle.std.proofs.Common.{◌≡◌, ap, subst}
use Rattle.gss_ctx.specs.declared.admit.Admit.{Admit}
use Rattle.gss_ctx.specs.declared.admit.Verdict.{Verdict}
use Rattle.rpc_calls.specs.declared.call.Call.{Call}
use Rattle.rpc_calls.specs.declared.call.What.{What}
use Rattle.rpc_calls.specs.Judging.{IsSayable, IsSound, by_answer, by_verdict, under_of, without_args}
use Rattle.rpc_calls.proofs.JudgingLemmas.{verdict_sound}
use Rattle.rpc_calls.proofs.judging.judge_under.Goals as goal

pub returns-clause-sound : goal.returns-clause-sound
returns-clause-sound g c =
    let verdict : Verdict = c.in_ok-answer.field-0 in
    let what : What = by_answer c.args.program c.args.head c.args.cred.now.gss_proc verdict.answer in
    let parts : (c.in_ok-answer-2.answer, c.in_ok-answer-2.what) ≡ (without_args verdict.answer, what) = c.in_ok-answer-2.ensures.what in
    let what_is : c.in_ok-answer-2.what ≡ what = ap (λ (p : Admit × What). p.1) parts in
    let answer_is : c.in_ok-answer-2.answer ≡ without_args verdict.answer = ap (λ (p : Admit × What). p.0) parts in
    let under_is : c.under_of-under.result ≡ under_of verdict.answer = c.under_of-under.ensures in
    let told : Call = by_verdict c.args.program c.args.head c.args.cred.now.gss_proc verdict in
    let sound : IsSound c.args.now c.args.contexts.now told =
    verdict_sound c.args.now c.args.contexts.now c.args.program c.args.head c.args.cred.now verdict c.requires.fits c.requires.cred
    c.in_ok-answer.ensures.there c.in_ok-answer.ensures.named c.in_ok-answer.ensures.granted
    (subst IsSayable what_is c.in_ok-answer-2.ensures.said) in
    rw (answer_is, what_is, under_is) sound
