use Rattle.std.proofs.Common.{◌≡◌, refl, rules, sym, subst, true}
use Rattle.nfs_base.specs.declared.side.Side.TheVariants.{Source, Dest}
use Rattle.wire_schedule.specs.Admission.{has_file}
use Rattle.wire_schedule.specs.declared.context.Context.{Context}
use Rattle.nfscopy.specs.declared.generate.Summed.TheVariants as summed
use Rattle.nfscopy.proofs.Generating.{ended, never_lost}
use Rattle.nfscopy.proofs.generate.sum_up.Goals as goal

pub files_are_alike-requires-clause-source : goal.files_are_alike-requires-clause-source
files_are_alike-requires-clause-source g c =
    subst (λ (x : Context). has_file x Source 1 ≡ true) (sym (c.in_ok-ran.ensures.context (search rules))) (c.large_copies_have_files.ensures c.args.plan Source)

pub files_are_alike-requires-clause-dest : goal.files_are_alike-requires-clause-dest
files_are_alike-requires-clause-dest g c =
    subst (λ (x : Context). has_file x Dest 1 ≡ true) (sym (c.in_ok-ran.ensures.context (search rules))) (c.large_copies_have_files.ensures c.args.plan Dest)

pub returns-in-OverLimit-clause-sums : goal.returns-in-OverLimit-clause-sums
returns-in-OverLimit-clause-sums g c =
    ended _ _ _ _ _ _ _ _ _ c.in_ok-ran.field-0 summed.OverLimit c.in_ok-ran.ensures.ran ((c.in-OverLimit.line, search rules), refl)

pub returns-in-Mistaken-clause-sums : goal.returns-in-Mistaken-clause-sums
returns-in-Mistaken-clause-sums g c =
    ended _ _ _ _ _ _ _ _ _ c.in_ok-ran.field-0 (summed.Mistaken c.in-Mistaken.mistake) c.in_ok-ran.ensures.ran (search rules, refl)

pub returns-in-Unmade-clause-sums : goal.returns-in-Unmade-clause-sums
returns-in-Unmade-clause-sums g c =
    ended _ _ _ _ _ _ _ _ _ c.in_ok-ran.field-0 (summed.Unmade c.in-Unmade.cause) c.in_ok-ran.ensures.ran (search rules, refl)

pub unreachable-requires : goal.unreachable-requires
unreachable-requires g c =
    never_lost _ _ _ _ _ _ _ _ _ c.in_ok-ran.field-0 c.in-Lost.field-0 c.in_ok-ran.ensures.ran (search rules) (c.large_schedules_stop_nobody.ensures c.args.plan)

pub unreachable-unreachable : goal.unreachable-unreachable
unreachable-unreachable g c =
    never_lost _ _ _ _ _ _ _ _ _ c.in_ok-ran.field-0 c.in-Lost.field-0 c.in_ok-ran.ensures.ran (search rules) (c.large_schedules_stop_nobody.ensures c.args.plan)
