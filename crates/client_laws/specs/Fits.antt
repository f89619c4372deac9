-- A turn whose numbers are below their bounds, and in which what comes is bytes.
use Rattle.client_laws.specs.Bounds.Known.{SpecIsFit, WorkIsFit}
use Rattle.client_laws.specs.Turns.{Begins, Hears, Turn, Works}
use Rattle.wire_xdr.specs.Cursor.{IsBytes}

abbrev pub TurnIsFit : Turn → Type 0
TurnIsFit (Begins j spec now) = SpecIsFit spec
TurnIsFit (Works side work now) = WorkIsFit work
TurnIsFit (Hears side message now) = IsBytes message
TurnIsFit _ = Unit {0}
