-- In which calls of a step the disk failed. Own definitions.
use Rattle.std.specs.Prelude.{◌≡◌, ℕ, ◌+◌, Bool, true, false, List, [], ◌∷◌}
use Rattle.std.specs.List.{list_any}
use Rattle.server_volume.specs.Moments.{failed_in}
use Rattle.server_volume.specs.declared.used.CallAnswer.{CallAnswer}
use Rattle.server_volume.specs.declared.used.CallAnswer.TheVariants.{Done, DiskFailed, Refused}
use Rattle.server_volume.specs.declared.used.Used.{Used}
use Rattle.server_volume.specs.declared.used.VolumeCall.{VolumeCall}
use Rattle.server_volume.specs.declared.used.VolumeCall.TheVariants as calls

-- ---- whether the disk failed in any of these calls

abbrev pub has_failed : CallAnswer → Bool
has_failed Done = false
has_failed DiskFailed = true
has_failed Refused = false

abbrev pub any_failed : List Used → Bool
any_failed calls = list_any (λ (used : Used). has_failed used.answer) calls

-- ---- in how many of them the volume broke: a read breaks nothing

abbrev pub break_by : VolumeCall → CallAnswer → ℕ
break_by (calls.Read file off len) answer = 0
break_by (calls.Write file off len) answer = failed_in answer
break_by (calls.Commit file home) answer = failed_in answer

abbrev pub breaks_in : List Used → ℕ
breaks_in [] = 0
breaks_in (u ∷ us) = break_by u.call u.answer + breaks_in us

-- each of them was refused
abbrev pub AreRefused : List Used → Type 0
AreRefused [] = Unit {0}
AreRefused (u ∷ us) = (u.answer ≡ Refused) × AreRefused us
