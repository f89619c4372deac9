-- No line's text has a newline in it.
use Rattle.std.proofs.Common.{◌≡◌, ℕ, Bool, true, false, ◌&&◌, eqb, Some, None, Option, List, [], ◌∷◌, codes, refl}
use Rattle.std.proofs.lemmas.Bool.{and_parts}
use Rattle.copy_ops.specs.declared.operation.TheConstants.{OP_COPY, OP_COPY_NOTIFY, OP_OFFLOAD_CANCEL, OP_OFFLOAD_STATUS, OP_CLONE, OP_CB_OFFLOAD}
use Rattle.file_ops.specs.Operations.{name_in, operations}
use Rattle.file_ops.specs.declared.operation.TheConstants.{OP_CB_SEQUENCE}
use Rattle.nfs_base.specs.Text.{cause_text, job_text, priv_cause_text, side_text, stop_text}
use Rattle.nfs_base.specs.declared.cause.Cause.{Cause}
use Rattle.nfs_base.specs.declared.cause.Cause.TheVariants as causes
use Rattle.nfs_base.specs.declared.cause.PrivCause.{PrivCause}
use Rattle.nfs_base.specs.declared.cause.PrivCause.TheVariants as privs
use Rattle.nfs_base.specs.declared.job.JobName.{JobName}
use Rattle.nfs_base.specs.declared.job.Stop.{Stop}
use Rattle.nfs_base.specs.declared.job.Stop.TheVariants as stops
use Rattle.nfs_base.specs.declared.seal.End.{End}
use Rattle.nfs_base.specs.declared.seal.End.TheVariants as ends
use Rattle.nfs_base.specs.declared.seal.Seal.{Seal}
use Rattle.nfs_base.specs.declared.side.Side.{Side}
use Rattle.nfs_base.specs.declared.side.Side.TheVariants as sides
use Rattle.nfs_compound.specs.OpNames.{cb_op_name, op_name}
use Rattle.outbox.specs.declared.label.CallLabel.{CallLabel}
use Rattle.outbox.specs.declared.label.CallLabel.TheVariants as calls
use Rattle.outbox.specs.declared.label.Label.{Label}
use Rattle.outbox.specs.declared.label.Label.TheVariants as labels
use Rattle.outbox.specs.declared.note.Dropped.{Dropped}
use Rattle.outbox.specs.declared.note.Dropped.TheVariants as dropping
use Rattle.outbox.specs.declared.note.Note.{Note}
use Rattle.outbox.specs.declared.note.Note.TheVariants as notes
use Rattle.volume_stops.specs.declared.kept.Kept.{Kept}
use Rattle.volume_stops.specs.declared.kept.Kept.TheVariants as keeping
use Rattle.wire_lines.specs.LineText.{call_text, count_text, dropped_text, end_text, kept_text, label_text, noted_text, same_text, seal_text, sealed_text, shown_text, speaker_text}
use Rattle.wire_lines.specs.declared.letters.Speaker.{Speaker}
use Rattle.wire_lines.specs.declared.letters.Speaker.TheVariants as speakers
use Rattle.wire_lines.specs.declared.line.Line.{Line}
use Rattle.wire_lines.specs.declared.line.Line.TheVariants.{Sent, NoRecord, Note as Noted, Bytes, Crash, Mistaken, End as Ends}
use Rattle.wire_tally.proofs.OneLine.{◌&◌, OneLine, hex_digits, is_one_line, literal, number, one_of, space}

-- ---- the names of operations

abbrev names_plain : List (ℕ × List ℕ) → Bool
names_plain [] = true
names_plain (row ∷ rows) = is_one_line row.1 && names_plain rows

name : (rows : List (ℕ × List ℕ)) (n : ℕ) → names_plain rows ≡ true → OneLine (name_in rows n)
name [] n plain = literal [] refl
name (row ∷ rows) n plain =
    let parts : (is_one_line row.1 ≡ true) × (names_plain rows ≡ true) = and_parts _ _ plain in
    one_of (eqb n row.0) (literal row.1 parts.0) (name rows n parts.1)

op : (n : ℕ) → OneLine (op_name n)
op n =
    one_of (eqb n OP_COPY) (literal (codes "COPY") refl)
    (one_of (eqb n OP_COPY_NOTIFY) (literal (codes "COPY_NOTIFY") refl)
    (one_of (eqb n OP_OFFLOAD_CANCEL) (literal (codes "OFFLOAD_CANCEL") refl)
    (one_of (eqb n OP_OFFLOAD_STATUS) (literal (codes "OFFLOAD_STATUS") refl)
    (one_of (eqb n OP_CLONE) (literal (codes "CLONE") refl) (name operations n refl)))))

cb_op : (n : ℕ) → OneLine (cb_op_name n)
cb_op n =
    one_of (eqb n OP_CB_SEQUENCE) (literal (codes "CB_SEQUENCE") refl)
    (one_of (eqb n OP_CB_OFFLOAD) (literal (codes "CB_OFFLOAD") refl) (literal (codes "") refl))

-- ---- records

call : (c : CallLabel) → OneLine (call_text c)
call (calls.Operation n) = op n
call (calls.Callback n) = cb_op n
call _ = record { plain = refl }

label : (l : Label) → OneLine (label_text l)
label (labels.Call c) = call c
label (labels.Reply to status) = call to & space & number status
label (labels.Denied why) = literal (codes "denied ") refl & number why
label labels.Mismatch = record { plain = refl }
label (labels.Fault stat) = literal (codes "fault ") refl & number stat

-- ---- words

letter : (end : End) → OneLine (end_text end)
letter ends.Source = record { plain = refl }
letter _ = record { plain = refl }

teller : (by : Speaker) → OneLine (speaker_text by)
teller speakers.Source = record { plain = refl }
teller _ = record { plain = refl }

side : (s : Side) → OneLine (side_text s)
side sides.Source = record { plain = refl }
side _ = record { plain = refl }

dropped : (why : Dropped) → OneLine (dropped_text why)
dropped dropping.Unread = record { plain = refl }
dropped _ = record { plain = refl }

cause : (c : Cause) → OneLine (cause_text c)
cause causes.Stale = record { plain = refl }
cause _ = record { plain = refl }

priv_cause : (c : PrivCause) → OneLine (priv_cause_text c)
priv_cause privs.Unknown = record { plain = refl }
priv_cause _ = record { plain = refl }

same_or_other : (same : Bool) → OneLine (same_text same)
same_or_other true = record { plain = refl }
same_or_other false = record { plain = refl }

stop : (why : Stop) → OneLine (stop_text why)
stop (stops.SourceRefused status) = literal (codes "refused ") refl & number status.number
stop (stops.SourceFailed accept_stat) = literal (codes "sourcefault ") refl & number accept_stat
stop _ = record { plain = refl }

job_name : (job : JobName) → OneLine (job_text job)
job_name job = number job.boot & literal (codes ".") refl & number job.number

count : (n : ℕ) → OneLine (count_text n)
count n = one_of (eqb n 0) (literal (codes "end") refl) (number n)

-- ---- notes

noted : (by : Speaker) (note : Note) → OneLine (noted_text by note)
noted by (notes.Dropped why) = literal (codes "drop ") refl & teller by & space & dropped why
noted by (notes.Permit why) = literal (codes "permit ") refl & cause why
noted by (notes.Privilege why) = literal (codes "privilege ") refl & priv_cause why
noted by (notes.Accepted job file to n) = literal (codes "accepted ") refl & job_name job & space & number file & space & number to & space & count n
noted by (notes.Overlap job) = literal (codes "overlap ") refl & job_name job
noted by (notes.Sized job len) = literal (codes "sized ") refl & job_name job & space & number len
noted by (notes.Landed job off len) = literal (codes "landed ") refl & job_name job & space & number off & space & number len
noted by (notes.Held job off) = literal (codes "held ") refl & job_name job & space & number off
noted by (notes.Late job off) = literal (codes "late ") refl & job_name job & space & number off
noted by (notes.Stopped job why) = literal (codes "stopped ") refl & job_name job & space & stop why
noted by (notes.Committed job) = literal (codes "committed ") refl & job_name job
noted by (notes.Reported job) = literal (codes "reported ") refl & job_name job
noted by (notes.Written s file n) = literal (codes "written ") refl & side s & space & number file & space & number n
noted by (notes.Commit s file same) = literal (codes "commit ") refl & side s & space & number file & space & same_or_other same
noted by (notes.Refused s file status) = literal (codes "refused ") refl & side s & space & number file & space & number status.number
noted by (notes.Started copy) = literal (codes "started ") refl & number copy
noted by (notes.Copied copy n) = literal (codes "copied ") refl & number copy & space & number n
noted by (notes.Stable copy) = literal (codes "stable ") refl & number copy
noted by (notes.Failed copy status) = literal (codes "failed ") refl & number copy & space & number status.number
noted by (notes.Exact copy) = literal (codes "exact ") refl & number copy
noted by (notes.Unsure copy) = literal (codes "unsure ") refl & number copy
noted by (notes.Cancelled copy) = literal (codes "cancelled ") refl & number copy
noted by (notes.Idle copy) = literal (codes "idle ") refl & number copy
noted by (notes.Busy copy) = literal (codes "busy ") refl & number copy

-- ---- lines

one_seal : (s : Seal) → OneLine (seal_text s)
one_seal s = letter s.owner & literal (codes ".") refl & number s.boot & literal (codes ".") refl & number s.number & space & number s.seq

seal_or_none : (s : Option Seal) → OneLine (sealed_text s)
seal_or_none None = record { plain = refl }
seal_or_none (Some s) = one_seal s

kept : (k : Kept) → OneLine (kept_text k)
kept keeping.Old = record { plain = refl }
kept _ = record { plain = refl }

pub shown : (line : Line) → OneLine (shown_text line)
shown (Sent n from to l) = literal (codes "sent ") refl & number n & space & letter from & letter to & space & label l
shown (NoRecord n) = literal (codes "none ") refl & number n
shown (Noted by note) = noted by note
shown (Bytes s file off bytes) = literal (codes "bytes ") refl & side s & space & number file & space & number off & space & hex_digits bytes
shown (Crash s boot k) = literal (codes "crash ") refl & side s & space & number boot & space & kept k
shown (Mistaken accepted s) = literal (codes "mistaken ") refl & one_seal accepted & space & seal_or_none s
shown (Ends records) = literal (codes "end ") refl & number records
