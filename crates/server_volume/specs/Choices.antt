-- What is noted of a step's calls on its volume, and the choices that agree with it. Own definitions.
use Rattle.std.specs.Prelude.{◌≡◌, ℕ, ◌<◌, List, [], ◌∷◌, ◌++◌, length, slice_index_or}
use Rattle.server_volume.specs.declared.used.Used.{Used}
use Rattle.server_volume.specs.declared.used.CallAnswer.{CallAnswer}
use Rattle.server_volume.specs.declared.used.CallAnswer.TheVariants.{Done, DiskFailed, Refused}
use Rattle.server_volume.specs.declared.used.VolumeCall.{VolumeCall}
use Rattle.server_volume.specs.declared.used.VolumeCall.TheVariants.{Commit}

-- What becomes of a call that the volume doesn't refuse: it goes through, or the disk fails in it.
pub data Fate : Type 0 where
  Went : Fate
  Failed : Fate

-- the fate of each call of a step, by the call's number in the step
abbrev pub Choice : Type 0
Choice = ℕ → Fate

-- the calls of a step so far, and one more
abbrev pub noted : List Used → VolumeCall → CallAnswer → List Used
noted used call answer = used ++ record { call = call; answer = answer } ∷ []

abbrev pub fate_of : CallAnswer → Fate
fate_of Done = Went
fate_of DiskFailed = Failed
fate_of Refused = Went

-- stands where a list has no call
abbrev pub no_call : Used
no_call = record { call = Commit 0 0; answer = Done }

-- the choice that the calls of a step show
abbrev pub choice_of : List Used → Choice
choice_of used n = fate_of (slice_index_or used n no_call).answer

-- A choice agrees with the calls of a step where it says of each of them what became of it.
abbrev pub Agrees : Choice → List Used → Type 0
Agrees choice used = (n : ℕ) → n < length used → choice n ≡ choice_of used n

-- what agrees with these calls agrees with those
abbrev pub Grows : List Used → List Used → Type 0
Grows before now = (choice : Choice) → Agrees choice now → Agrees choice before
