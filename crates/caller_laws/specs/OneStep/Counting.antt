-- What a mount sends is counted, and where nothing goes out it is as it was.
use Rattle.caller_laws.specs.Moves.{Send, sent_by}
use Rattle.gss_ctx.specs.Seals.{Mic}
use Rattle.mount.specs.Laws.{Went}
use Rattle.mount.specs.State.{Mounted}
use Rattle.mount.specs.declared.machine.SendAt.{SendAt}

abbrev pub Counted : Type 0
Counted = (mic : Mic) (at : SendAt) (send : Send) (m : Mounted) → Went at m (sent_by mic at send m)
