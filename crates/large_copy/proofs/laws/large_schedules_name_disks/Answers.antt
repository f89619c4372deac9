use Rattle.std.proofs.Common.{◌++◌, ◌∷◌, refl}
use Rattle.wire_schedule.specs.Spelling.{entries_from}
use Rattle.large_copy.specs.Large.{copy, flows, large_lines, large_schedule, rounds, writes}
use Rattle.large_copy.proofs.laws.large_schedules_name_disks.Goals as goal

pub returns : goal.returns
unfolding large_schedule large_lines
returns c = λ n. (entries_from 3 (writes n ++ (flows n ++ copy ∷ rounds n)), refl)
