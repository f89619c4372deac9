-- What a step of a client works on, and what it gives: the two servers, the copies, the count of calls, and the outbox.
use Rattle.std.specs.Prelude.{ℕ, ◌+◌, Bool, true, min, is_some, List, [], ◌∷◌, ◌++◌, Option, Some, None}
use Rattle.nfs_base.specs.declared.seal.Seal.{Seal}
use Rattle.nfs_base.specs.declared.side.Side.{Side}
use Rattle.nfs_base.specs.declared.side.Side.TheVariants.{Source, Dest}
use Rattle.nfs_base.specs.declared.status.Status.{Status}
use Rattle.client_copies.specs.Table.{told_at, accepted_at}
use Rattle.client_copies.specs.declared.event.Event.{Event}
use Rattle.client_copies.specs.declared.told.Said.{Said}
use Rattle.client_copies.specs.declared.told.Said.TheVariants.{Nothing, One, Two}
use Rattle.client_copies.specs.declared.told.Word.{Word}
use Rattle.client_copies.specs.declared.told.Word.TheVariants as words
use Rattle.client_site.specs.Sites.{end_of}
use Rattle.client_site.specs.declared.site.Site.{Site}
use Rattle.mount.specs.declared.machine.SendAt.{SendAt}
use Rattle.mount.specs.declared.machine.Sent.{Sent}
use Rattle.outbox.specs.declared.label.CallLabel.{CallLabel}
use Rattle.outbox.specs.declared.label.Label.{Label}
use Rattle.outbox.specs.declared.label.Label.TheVariants as labels
use Rattle.outbox.specs.declared.note.Note.{Note}
use Rattle.outbox.specs.declared.note.Note.TheVariants as notes
use Rattle.outbox.specs.declared.outgoing.Outgoing.{Outgoing}
use Rattle.outbox.specs.declared.outgoing.To.TheVariants.{Server}
use Rattle.client_steps.specs.declared.desk.Desk.{Desk}

-- ---- the servers

abbrev pub site_at : Side → Desk → Site
site_at Source d = d.source
site_at Dest d = d.dest

abbrev pub with_site : Side → Site → Desk → Desk
with_site Source s d = record d { source = s }
with_site Dest s d = record d { dest = s }

-- ---- what is told

abbrev pub noted : Note → Desk → Desk
noted note d = record d { out = record d.out { notes = d.out.notes ++ note ∷ [] } }

-- a copy's number in a note is one byte
abbrev pub in_note : ℕ → ℕ
in_note j = min j 255

abbrev pub word_note : ℕ → Word → Note
word_note j words.Started = notes.Started (in_note j)
word_note j (words.Copied count) = notes.Copied (in_note j) count
word_note j words.Stable = notes.Stable (in_note j)
word_note j (words.Failed status) = notes.Failed (in_note j) status
word_note j words.Exact = notes.Exact (in_note j)
word_note j words.Unsure = notes.Unsure (in_note j)
word_note j words.Cancelled = notes.Cancelled (in_note j)

abbrev pub said_by : ℕ → Said → Desk → Desk
said_by j Nothing d = d
said_by j (One word) d = noted (word_note j word) d
said_by j (Two first second) d = noted (word_note j second) (noted (word_note j first) d)

-- something happens to a copy
abbrev pub told_to : ℕ → Event → Desk → Desk
told_to j event d = said_by j (told_at j event d.copies).0 (record d { copies = (told_at j event d.copies).1 })

-- ---- what goes out

-- each call has the next xid, until there is none
abbrev pub next_xid : ℕ → ℕ
next_xid calls = min (calls + 1) 4294967295

abbrev pub send_at : ℕ → Desk → SendAt
send_at place d = record { place = place; xid = next_xid d.calls; now = d.second }

abbrev pub going : Side → List ℕ → Option Seal → Label → Outgoing
going side bytes seal label = record { to = Server (end_of side); bytes = bytes; seal = seal; label = label }

abbrev pub posted : Outgoing → Desk → Desk
posted one d = record d { out = record d.out { sent = d.out.sent ++ one ∷ [] } }

abbrev pub sent_out : Side → CallLabel → Option Sent → Desk → Desk
sent_out side label None d = d
sent_out side label (Some sent) d = posted (going side sent.bytes sent.seal (labels.Call label)) (record d { calls = next_xid d.calls })

-- whether a call went out, and what is then
abbrev pub put_out : Side → CallLabel → Option Sent × Site → Desk → Bool × Desk
put_out side label o d = (is_some o.0, sent_out side label o.0 (with_site side o.1 d))
