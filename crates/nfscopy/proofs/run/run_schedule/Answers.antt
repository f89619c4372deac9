use Rattle.std.proofs.Common.{ap, rules, arith}
use Rattle.std.proofs.KnownBytes.{Keeps-refl}
use Rattle.std.proofs.lemmas.Grind.{common_steps}
use Rattle.wire_run.specs.Running.{HasDisks, mech_of}
use Rattle.nfscopy.proofs.Ending.{cut_off, ran_ends, schedule_starved}
use Rattle.nfscopy.proofs.run.run_schedule.Goals as goal

pub returns-in_default-clause-ends : goal.returns-in_default-clause-ends
returns-in_default-clause-ends g c = λ left now_left reads now_reads ended.
    schedule_starved _ _ _ _ _ (Keeps-refl (g.K.Stream.takes c.args.output.now).taken)

pub returns-in-Ok-ran-clause-ends : goal.returns-in-Ok-ran-clause-ends
returns-in-Ok-ran-clause-ends g c =
    let how = rw c.in-Ok-ran.is at c.run-ran.ensures.ran in
    let cause = rw c.in-Ok-ran.is at c.run-ran.ensures.cause in
    let there = rw c.in-Ok-ran.is at c.run-ran.ensures.there in
    let had : HasDisks c.in-Ok.system = first_of (search rules, grind (arith, common_steps)) in
    λ left now_left reads now_reads ended.
    ran_ends _ _ _ _ _ c.in-Ok.system c.run-ran.new.self (g.K.Stream.takes c.run-ran.new.out).taken (g.K.Stream.takes c.run-ran.new.out).faults
    (search rules) (search rules) c.hand_back.ensures.source c.hand_back.ensures.dest had there ended c.run-ran.ensures.later
    c.hand_back.ensures.source_holds c.hand_back.ensures.dest_holds
    _ (ap mech_of c.in-Ok.ensures) c.in-Ok-ran.ran c.put_end.result how cause c.put_end.ensures.later c.put_end.ensures.puts

pub returns-in-Err-clause-ends : goal.returns-in-Err-clause-ends
returns-in-Err-clause-ends g c =
    let out = rw c.in-Err.is at c.run-ran.ensures.err in
    λ left now_left reads now_reads ended. cut_off _ _ _ _ _ _ (ap mech_of c.in-Ok.ensures) out
