-- Operations on files that leave a server's volume alone.
use Rattle.std.specs.Prelude.{◌≡◌, ℕ, Option}
use Rattle.compound_server.specs.Course.{Course, Service}
use Rattle.compound_server.specs.Performing.{file_done}
use Rattle.file_ops.specs.declared.args.FileArg.{FileArg}
use Rattle.file_server.specs.declared.extension.Caller.{Caller}
use Rattle.nfs_compound.specs.VolumeCalls.{file_calls}
use Rattle.server_volume.specs.Choices.{Choice}

-- an operation that is counted as no call makes none
abbrev pub QuietMakeNoCall : {X C : Type 0} → Service X C → Type 0
QuietMakeNoCall {X} {C} service =
    (choice : Choice) (caller : Caller) (carry : Option C) (next : Option ℕ) (a : FileArg) (c : Course X) → file_calls a ≡ 0
    → (file_done service choice caller carry next a c).course.going.used ≡ c.going.used
