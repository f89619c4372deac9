-- What a server's steps tell of its volume.
use Rattle.std.specs.Prelude.{◌≡◌, ℕ, ◌<◌, ◌^◌, List, length, Option, Some}
use Rattle.copy_model.specs.Volume.{Volume, file_at}
use Rattle.file_server.specs.declared.extension.Ask.{Ask}
use Rattle.file_server.specs.declared.extension.Caller.{Caller}
use Rattle.file_server.specs.declared.extension.Gate.TheVariants.{Refuse}
use Rattle.nfs_base.specs.declared.status.Status.{Status}
use Rattle.slot_laws.specs.Fronts.{IsFailure}
use Rattle.compound_server.specs.Course.{Service}
use Rattle.session_server.specs.Host.{Codes, HostState, Rules, Stepped}
use Rattle.wire_model.specs.CopyLaws.{TellsRight}
use Rattle.wire_model.specs.Wire.{Executed}
use Rattle.wire_meaning.specs.Meaning.{meaning}
use Rattle.server_laws.specs.Acts.{acts_of}
use Rattle.tell_laws.specs.Volumes.{volume_of}

-- Where a particular server refuses an operation, the status is one of a failure.
abbrev pub ServiceFails : {X C : Type 0} → Service X C → Type 0
ServiceFails {X} {C} service =
    (x : X) (caller : Caller) (carry : Option C) (ask : Ask) (status : Status) → (service.gate x caller carry ask).1 ≡ Refuse status → IsFailure status.number

abbrev pub RefusesByFailures : {X C : Type 0} → Rules X C → Type 0
RefusesByFailures rules = ServiceFails rules.service

-- What GETATTR tells of each file fits in a word of eight bytes; of the root, which holds no bytes, it tells 0 (RFC 8881 section 18.7).
pub record FitsWords (v : Volume) : Type 0 where
  pub sizes : (file : ℕ) → length (file_at v file).now < 2 ^ 64
  pub changes : (file : ℕ) → (file_at v file).change < 2 ^ 64
  pub no_size : length (file_at v 0).now ≡ 0
  pub no_change : (file_at v 0).change ≡ 0

-- The results that a step tells are right of the volume before it.
abbrev pub TellsOfVolume : {X C : Type 0} → Codes → List ℕ → ℕ → HostState X C → Stepped X C → Type 0
TellsOfVolume codes bytes now s t =
    (e : Executed) → FitsWords (volume_of s) → (acts_of codes bytes now s t).executed ≡ Some e → TellsRight meaning (volume_of s) e.ops e.results
