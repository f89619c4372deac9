-- What a destination says to what an operation asks: that it goes on as at any server. The privilege of a context is
-- looked at by COPY alone (own).
use Rattle.std.specs.Prelude.{Option}
use Rattle.file_server.specs.declared.extension.Ask.{Ask}
use Rattle.file_server.specs.declared.extension.Caller.{Caller}
use Rattle.file_server.specs.declared.extension.Gate.{Gate}
use Rattle.file_server.specs.declared.extension.Gate.TheVariants.{Usual}
use Rattle.dest_jobs.specs.declared.carried.Carried.{Carried}
use Rattle.dest_core.specs.declared.destination.Destination.{Destination}

abbrev pub gated : {M : Type 0} → Destination M → Caller → Option Carried → Ask → Destination M × Gate
gated x caller carry ask = (x, Usual)
