-- What a step gives that sends one record, tells one thing, or does nothing.
use Rattle.std.specs.Prelude.{true, false, [], ◌∷◌, Option, None}
use Rattle.nfs_base.specs.declared.seal.Seal.{Seal}
use Rattle.outbox.specs.declared.note.Note.{Note}
use Rattle.outbox.specs.declared.outgoing.Outbox.{Outbox}
use Rattle.outbox.specs.declared.outgoing.Outgoing.{Outgoing}

-- nothing is sent, told or done
abbrev pub no_outbox : Outbox
no_outbox = record { sent = []; notes = []; accepted = None; used = []; undrawn = false }

abbrev pub silence : Note → Outbox
silence note = record no_outbox { notes = note ∷ [] }

abbrev pub one_reply : Option Seal → Outgoing → Outbox
one_reply accepted reply = record no_outbox { sent = reply ∷ []; accepted = accepted }

-- a draw failed
abbrev pub undrawn_outbox : Outbox
undrawn_outbox = record no_outbox { undrawn = true }
