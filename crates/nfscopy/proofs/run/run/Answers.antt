use Rattle.std.proofs.Common.{refl}
use Rattle.std.proofs.KnownBytes.{Keeps-refl}
use Rattle.nfscopy.proofs.Completing.{with_completeness}
use Rattle.nfscopy.proofs.Ending.{text_ends, large_ends, failed_ends, starved_ends}
use Rattle.nfscopy.proofs.Keeping.{inputs_keep}
use Rattle.nfscopy.proofs.run.run.Goals as goal

pub returns-in-Ok-Text-clause-ends : goal.returns-in-Ok-Text-clause-ends
returns-in-Ok-Text-clause-ends g c =
    let whole = rw c.in-Ok-Text.field-0-is at c.in-Ok-Text.ensures.whole in
    with_completeness _ _ _ _ _ _ (text_ends _ _ _ _ c.run_text.result c.in-Ok-Text.text.items c.deref.result.now c.deref.ensures.value whole
    (c.run_text.ensures.ends (g.S.Stream.gives c.args.input.now).left (g.S.Stream.gives c.read_whole.new.source).left
    (g.S.Stream.gives c.args.input.now).faults (g.S.Stream.gives c.read_whole.new.source).faults whole.0.ended))

pub returns-in-Ok-TooMuch-clause-ends : goal.returns-in-Ok-TooMuch-clause-ends
returns-in-Ok-TooMuch-clause-ends g c =
    let whole = rw c.in-Ok-TooMuch.field-0-is at c.in-Ok-TooMuch.ensures.whole in
    with_completeness _ _ _ _ _ _
    (large_ends _ _ _ _ c.put_last.result c.too_much_line.result.now c.too_much_line.ensures refl refl whole.1 c.put_last.ensures.puts)

pub returns-in-Ok-Failed-clause-ends : goal.returns-in-Ok-Failed-clause-ends
returns-in-Ok-Failed-clause-ends g c =
    let cause = rw c.in-Ok-Failed.field-0-is at c.in-Ok-Failed.ensures.cause in
    with_completeness _ _ _ _ _ _ (failed_ends _ _ _ _ cause (Keeps-refl (g.K.Stream.takes c.args.output.now).taken) refl refl)

pub returns-in-Err-clause-ends : goal.returns-in-Err-clause-ends
returns-in-Err-clause-ends g c = with_completeness _ _ _ _ _ _ (starved_ends _ _ _ _ (Keeps-refl (g.K.Stream.takes c.args.output.now).taken) refl refl)

pub returns-in-Ok-Text-clause-kept : goal.returns-in-Ok-Text-clause-kept
returns-in-Ok-Text-clause-kept g c =
    inputs_keep _ (c.runs_keep_the_promise.ensures c.args.mech) c.schedules_are_accepted.ensures.whole c.schedules_are_accepted.ensures.fronts
    (g.S.Stream.gives c.args.input.now).left

pub returns-in-Ok-TooMuch-clause-kept : goal.returns-in-Ok-TooMuch-clause-kept
returns-in-Ok-TooMuch-clause-kept g c =
    inputs_keep _ (c.runs_keep_the_promise.ensures c.args.mech) c.schedules_are_accepted.ensures.whole c.schedules_are_accepted.ensures.fronts
    (g.S.Stream.gives c.args.input.now).left

pub returns-in-Ok-Failed-clause-kept : goal.returns-in-Ok-Failed-clause-kept
returns-in-Ok-Failed-clause-kept g c =
    inputs_keep _ (c.runs_keep_the_promise.ensures c.args.mech) c.schedules_are_accepted.ensures.whole c.schedules_are_accepted.ensures.fronts
    (g.S.Stream.gives c.args.input.now).left

pub returns-in-Err-clause-kept : goal.returns-in-Err-clause-kept
returns-in-Err-clause-kept g c =
    inputs_keep _ (c.runs_keep_the_promise.ensures c.args.mech) c.schedules_are_accepted.ensures.whole c.schedules_are_accepted.ensures.fronts
    (g.S.Stream.gives c.args.input.now).left
