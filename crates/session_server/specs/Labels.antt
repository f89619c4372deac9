-- What records are called in a transcript.
use Rattle.std.specs.Prelude.{ℕ, List, [], ◌∷◌, fold}
use Rattle.std.specs.Int.{w32, from_be_bytes}
use Rattle.wire_xdr.specs.Arms.{number_of}
use Rattle.gss_ctx.specs.declared.admit.Why.{Why}
use Rattle.gss_ctx.specs.declared.admit.Why.TheVariants as whys
use Rattle.nfs_compound.specs.declared.op.Op.{Op}
use Rattle.nfs_compound.specs.Ops.{op_number}
use Rattle.outbox.specs.declared.label.CallLabel.{CallLabel}
use Rattle.outbox.specs.declared.label.CallLabel.TheVariants as calls
use Rattle.outbox.specs.declared.label.Label.{Label}
use Rattle.outbox.specs.declared.label.Label.TheVariants as labels
use Rattle.outbox.specs.declared.note.Dropped.{Dropped}
use Rattle.outbox.specs.declared.note.Dropped.TheVariants as dropped
use Rattle.rpc_msg.specs.Heads.{stat_case}
use Rattle.rpc_msg.specs.declared.reply.Denial.{Denial}
use Rattle.rpc_msg.specs.declared.reply.Denial.TheVariants.{Mismatch, Auth}
use Rattle.rpc_msg.specs.declared.reply.Stat.{Stat}

-- why a context dropped a call
abbrev pub drop_cause : Why → Dropped
drop_cause whys.Repeat = dropped.Repeat
drop_cause whys.Old = dropped.Old

abbrev pub denial_label : Denial → Label
denial_label (Auth why) = labels.Denied why
denial_label (Mismatch low high) = labels.Mismatch

abbrev pub fault_label : Stat → Label
fault_label failure = labels.Fault (number_of stat_case failure)

-- a COMPOUND is called by its last operation that was read
abbrev pub compound_label : List Op → CallLabel
compound_label ops = fold (λ label op. calls.Operation (op_number op)) calls.Compound ops

-- The status of a COMPOUND's reply stands in its first word (RFC 8881 section 16.2.2).
abbrev pub status_in : List ℕ → ℕ
status_in (a ∷ b ∷ c ∷ d ∷ rest) = from_be_bytes w32 (a ∷ b ∷ c ∷ d ∷ [])
status_in _ = 0
