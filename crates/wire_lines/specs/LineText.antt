-- The text of the transcript's lines. Own format.
use Rattle.std.specs.Prelude.{ℕ, Bool, true, false, ◌==◌, Option, Some, None, List, [], ◌∷◌, ◌++◌, codes, decimal, if◌then◌else◌}
use Rattle.std.specs.List.{flat_map}
use Rattle.nfs_base.specs.Text.{cause_text, job_text, priv_cause_text, side_text, stop_text}
use Rattle.nfs_base.specs.declared.seal.End.{End}
use Rattle.nfs_base.specs.declared.seal.End.TheVariants as ends
use Rattle.nfs_base.specs.declared.seal.Seal.{Seal}
use Rattle.nfs_compound.specs.OpNames.{cb_op_name, op_name}
use Rattle.outbox.specs.declared.label.CallLabel.{CallLabel}
use Rattle.outbox.specs.declared.label.CallLabel.TheVariants as calls
use Rattle.outbox.specs.declared.label.Label.{Label}
use Rattle.outbox.specs.declared.label.Label.TheVariants as labels
use Rattle.outbox.specs.declared.note.Dropped.{Dropped}
use Rattle.outbox.specs.declared.note.Dropped.TheVariants as dropped
use Rattle.outbox.specs.declared.note.Note.{Note}
use Rattle.outbox.specs.declared.note.Note.TheVariants as notes
use Rattle.volume_stops.specs.declared.kept.Kept.{Kept}
use Rattle.volume_stops.specs.declared.kept.Kept.TheVariants.{Old, New, Nothing}
use Rattle.wire_lines.specs.declared.letters.Speaker.{Speaker}
use Rattle.wire_lines.specs.declared.letters.Speaker.TheVariants as speakers
use Rattle.wire_lines.specs.declared.line.Line.{Line}
use Rattle.wire_lines.specs.declared.line.Line.TheVariants.{Sent, NoRecord, Note as Noted, Bytes, Crash, Mistaken, End as Ends}
use Rattle.wire_schedule.specs.Numerals.{hex_text}

-- ---- the letters of ends, and of who tells a note

abbrev pub end_text : End → List ℕ
end_text ends.Source = codes "s"
end_text ends.Dest = codes "d"
end_text ends.Client = codes "c"

abbrev pub speaker_text : Speaker → List ℕ
speaker_text speakers.Source = codes "s"
speaker_text speakers.Dest = codes "d"
speaker_text speakers.Client = codes "c"
speaker_text speakers.Worker = codes "w"

-- ---- what a record is called: a call by its operation, a reply by that of its call and its status

abbrev pub call_text : CallLabel → List ℕ
call_text calls.Init = codes "INIT"
call_text calls.Create = codes "CREATE"
call_text calls.Destroy = codes "DESTROY"
call_text calls.Null = codes "NULL"
call_text calls.Compound = codes "COMPOUND"
call_text (calls.Operation op) = op_name op
call_text (calls.Callback op) = cb_op_name op

abbrev pub label_text : Label → List ℕ
label_text (labels.Call call) = call_text call
label_text (labels.Reply to status) = call_text to ++ codes " " ++ decimal status
label_text (labels.Denied why) = codes "denied " ++ decimal why
label_text labels.Mismatch = codes "mismatch"
label_text (labels.Fault stat) = codes "fault " ++ decimal stat

-- ---- notes

abbrev pub dropped_text : Dropped → List ℕ
dropped_text dropped.Unread = codes "unread"
dropped_text dropped.Repeat = codes "repeat"
dropped_text dropped.Old = codes "old"
dropped_text dropped.Unmatched = codes "unmatched"

abbrev pub same_text : Bool → List ℕ
same_text true = codes "same"
same_text false = codes "other"

-- a count of 0 goes to the end
abbrev pub count_text : ℕ → List ℕ
count_text count = if count == 0 then codes "end" else decimal count

abbrev pub noted_text : Speaker → Note → List ℕ
noted_text by (notes.Dropped why) = codes "drop " ++ speaker_text by ++ codes " " ++ dropped_text why
noted_text by (notes.Permit cause) = codes "permit " ++ cause_text cause
noted_text by (notes.Privilege cause) = codes "privilege " ++ priv_cause_text cause
noted_text by (notes.Accepted job file to count) =
    codes "accepted " ++ job_text job ++ codes " " ++ decimal file ++ codes " " ++ decimal to ++ codes " " ++ count_text count
noted_text by (notes.Overlap job) = codes "overlap " ++ job_text job
noted_text by (notes.Sized job len) = codes "sized " ++ job_text job ++ codes " " ++ decimal len
noted_text by (notes.Landed job off len) = codes "landed " ++ job_text job ++ codes " " ++ decimal off ++ codes " " ++ decimal len
noted_text by (notes.Held job off) = codes "held " ++ job_text job ++ codes " " ++ decimal off
noted_text by (notes.Late job off) = codes "late " ++ job_text job ++ codes " " ++ decimal off
noted_text by (notes.Stopped job cause) = codes "stopped " ++ job_text job ++ codes " " ++ stop_text cause
noted_text by (notes.Committed job) = codes "committed " ++ job_text job
noted_text by (notes.Reported job) = codes "reported " ++ job_text job
noted_text by (notes.Written side file count) = codes "written " ++ side_text side ++ codes " " ++ decimal file ++ codes " " ++ decimal count
noted_text by (notes.Commit side file same) = codes "commit " ++ side_text side ++ codes " " ++ decimal file ++ codes " " ++ same_text same
noted_text by (notes.Refused side file status) =
    codes "refused " ++ side_text side ++ codes " " ++ decimal file ++ codes " " ++ decimal status.number
noted_text by (notes.Started copy) = codes "started " ++ decimal copy
noted_text by (notes.Copied copy count) = codes "copied " ++ decimal copy ++ codes " " ++ decimal count
noted_text by (notes.Stable copy) = codes "stable " ++ decimal copy
noted_text by (notes.Failed copy status) = codes "failed " ++ decimal copy ++ codes " " ++ decimal status.number
noted_text by (notes.Exact copy) = codes "exact " ++ decimal copy
noted_text by (notes.Unsure copy) = codes "unsure " ++ decimal copy
noted_text by (notes.Cancelled copy) = codes "cancelled " ++ decimal copy
noted_text by (notes.Idle copy) = codes "idle " ++ decimal copy
noted_text by (notes.Busy copy) = codes "busy " ++ decimal copy

-- ---- seals: the context, by the server that made it, its boot and its number, and the sequence number

abbrev pub seal_text : Seal → List ℕ
seal_text seal = end_text seal.owner ++ codes "." ++ decimal seal.boot ++ codes "." ++ decimal seal.number ++ codes " " ++ decimal seal.seq

abbrev pub sealed_text : Option Seal → List ℕ
sealed_text None = codes "none"
sealed_text (Some seal) = seal_text seal

-- ---- what a crash kept of a commit

abbrev pub kept_text : Kept → List ℕ
kept_text Old = codes "old"
kept_text New = codes "new"
kept_text Nothing = codes "none"

-- ---- lines

-- a line without its newline
abbrev pub shown_text : Line → List ℕ
shown_text (Sent number from to label) = codes "sent " ++ decimal number ++ codes " " ++ end_text from ++ end_text to ++ codes " " ++ label_text label
shown_text (NoRecord number) = codes "none " ++ decimal number
shown_text (Noted by note) = noted_text by note
shown_text (Bytes side file off bytes) =
    codes "bytes " ++ side_text side ++ codes " " ++ decimal file ++ codes " " ++ decimal off ++ codes " " ++ hex_text bytes
shown_text (Crash side boot kept) = codes "crash " ++ side_text side ++ codes " " ++ decimal boot ++ codes " " ++ kept_text kept
shown_text (Mistaken accepted sealed) = codes "mistaken " ++ seal_text accepted ++ codes " " ++ sealed_text sealed
shown_text (Ends records) = codes "end " ++ decimal records

-- a line, with its newline
abbrev pub line_text : Line → List ℕ
line_text line = shown_text line ++ 10 ∷ []

-- lines one after the other
abbrev pub lines_text : List Line → List ℕ
lines_text lines = flat_map line_text lines
