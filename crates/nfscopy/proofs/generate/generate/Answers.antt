use Rattle.std.proofs.Common.{ap, rules, arith}
use Rattle.std.proofs.KnownBytes.{Keeps-refl}
use Rattle.std.proofs.lemmas.Grind.{common_steps}
use Rattle.wire_run.specs.Running.{HasDisks, mech_of}
use Rattle.nfscopy.proofs.Completing.{gen_completes}
use Rattle.nfscopy.proofs.Generating.{asks_by, quiet_by, starved, summed_ends}
use Rattle.nfscopy.proofs.Keeping.{large_keeps}
use Rattle.command_line.specs.declared.ends.GenEnd.TheVariants.{NoMemory}
use Rattle.nfscopy.proofs.generate.generate.Goals as goal

pub returns-in_default-clause-ends : goal.returns-in_default-clause-ends
returns-in_default-clause-ends g c = λ left reads.
    gen_completes _ _ _ _ _ NoMemory (starved _ _ _ _ _ (Keeps-refl (g.K.Stream.takes c.args.output.now).taken))

pub returns-in_default-clause-kept : goal.returns-in_default-clause-kept
returns-in_default-clause-kept g c =
    large_keeps _ (c.runs_keep_the_promise.ensures c.args.mech) c.schedules_are_accepted.ensures.whole c.schedules_are_accepted.ensures.fronts
    c.args.plan (c.large_schedules_have_texts.ensures c.args.plan c.mebibytes-mebibytes.ensures.some c.mebibytes-mebibytes.ensures.few)

pub returns-in-Ok-summed-clause-ends : goal.returns-in-Ok-summed-clause-ends
returns-in-Ok-summed-clause-ends g c =
    let had : HasDisks c.in-Ok.system = first_of (search rules, grind (arith, common_steps)) in
    let named = c.large_schedules_name_disks.ensures c.args.plan in
    λ left reads.
    gen_completes _ _ _ _ _ c.put_owed.result
    (summed_ends _ _ _ _ _ c.in-Ok.system c.sum_up-summed.new.system (search rules) (search rules) c.hand_back.ensures.source c.hand_back.ensures.dest
    had c.in-Ok-summed.ensures.there c.hand_back.ensures.source_holds c.hand_back.ensures.dest_holds
    (λ side. asks_by c.args.plan named.0 side named.1) (quiet_by c.args.plan (c.large_schedules_stop_nobody.ensures c.args.plan)) _ (ap mech_of c.in-Ok.ensures) c.in-Ok-summed.summed c.put_owed.result
    c.in-Ok-summed.ensures.sums c.put_owed.ensures.puts)

pub returns-in-Ok-summed-clause-kept : goal.returns-in-Ok-summed-clause-kept
returns-in-Ok-summed-clause-kept g c =
    large_keeps _ (c.runs_keep_the_promise.ensures c.args.mech) c.schedules_are_accepted.ensures.whole c.schedules_are_accepted.ensures.fronts
    c.args.plan (c.large_schedules_have_texts.ensures c.args.plan c.mebibytes-mebibytes.ensures.some c.mebibytes-mebibytes.ensures.few)

pub returns-in-Err-clause-ends : goal.returns-in-Err-clause-ends
returns-in-Err-clause-ends g c = λ left reads.
    gen_completes _ _ _ _ _ NoMemory (starved _ _ _ _ _ (Keeps-refl (g.K.Stream.takes c.args.output.now).taken))

pub returns-in-Err-clause-kept : goal.returns-in-Err-clause-kept
returns-in-Err-clause-kept g c =
    large_keeps _ (c.runs_keep_the_promise.ensures c.args.mech) c.schedules_are_accepted.ensures.whole c.schedules_are_accepted.ensures.fronts
    c.args.plan (c.large_schedules_have_texts.ensures c.args.plan c.mebibytes-mebibytes.ensures.some c.mebibytes-mebibytes.ensures.few)
