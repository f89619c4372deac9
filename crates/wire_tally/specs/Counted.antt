-- What lines tell of the copies, counted by what they are.
use Rattle.std.specs.Prelude.{◌+◌, ◌^◌, ◌<◌, List, [], ◌∷◌}
use Rattle.outbox.specs.declared.note.Note.{Note}
use Rattle.outbox.specs.declared.note.Note.TheVariants as notes
use Rattle.wire_lines.specs.declared.line.Line.{Line}
use Rattle.wire_lines.specs.declared.line.Line.TheVariants.{Note as Noted}
use Rattle.wire_tally.specs.declared.tally.Tally.{Tally}

-- with one more note
abbrev pub by_note : Note → Tally → Tally
by_note (notes.Stable copy) t = record t { stable = t.stable + 1 }
by_note (notes.Exact copy) t = record t { exact = t.exact + 1 }
by_note (notes.Landed job off len) t = record t { landed = t.landed + len }
by_note _ t = t

-- with one more line: only notes count
abbrev pub by_shown : Line → Tally → Tally
by_shown (Noted by note) t = by_note note t
by_shown _ t = t

-- With these lines, one after the other.
abbrev pub counted : List Line → Tally → Tally
counted [] t = t
counted (line ∷ lines) t = counted lines (by_shown line t)

-- a chunk that landed is shorter than 2^32 bytes
abbrev pub LandsShort : Line → Type 0
LandsShort (Noted by (notes.Landed job off len)) = len < 2 ^ 32
LandsShort _ = Unit
