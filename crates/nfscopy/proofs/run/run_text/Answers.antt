use Rattle.std.proofs.Common.{refl}
use Rattle.std.proofs.KnownBytes.{Keeps-refl}
use Rattle.nfscopy.proofs.Ending.{starved, bad_carried}
use Rattle.nfscopy.proofs.run.run_text.Goals as goal

pub returns-in-Ok-Ok-clause-ends : goal.returns-in-Ok-Ok-clause-ends
returns-in-Ok-Ok-clause-ends g c =
    let read = rw c.in-Ok-Ok.field-0-is at c.in-Ok-Ok.ensures in
    λ left now_left reads now_reads ended. rw read (c.run_schedule.ensures.ends left now_left reads now_reads ended)

pub returns-in-Ok-Err-clause-ends : goal.returns-in-Ok-Err-clause-ends
returns-in-Ok-Err-clause-ends g c =
    let read = rw c.in-Ok-Err.field-0-is at c.in-Ok-Err.ensures in
    λ left now_left reads now_reads ended. rw read (bad_carried _ _ _ _ _ _ refl refl c.put_bad.ensures.puts)

pub returns-in-Err-clause-ends : goal.returns-in-Err-clause-ends
returns-in-Err-clause-ends g c = λ left now_left reads now_reads ended.
    starved _ _ _ _ _ (Keeps-refl (g.K.Stream.takes c.args.output.now).taken) refl refl
