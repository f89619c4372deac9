-- Forms of the operations on files (RFC 8881 sections 18.2, 18.3, 18.7, 18.22 and 18.32).
use Rattle.std.specs.Prelude.{ℕ, List, refl}
use Rattle.nfs_base.specs.Forms.{state_id, stability}
use Rattle.nfs_base.specs.declared.state_id.StateId.{StateId}
use Rattle.nfs_base.specs.declared.written.Stability.{Stability}
use Rattle.file_ops.specs.declared.files.CloseArgs.{CloseArgs}
use Rattle.file_ops.specs.declared.files.CommitArgs.{CommitArgs}
use Rattle.file_ops.specs.declared.files.Attributes.{Attributes}
use Rattle.file_ops.specs.declared.files.ReadArgs.{ReadArgs}
use Rattle.file_ops.specs.declared.files.ReadDone.{ReadDone}
use Rattle.file_ops.specs.declared.files.WriteArgs.{WriteArgs}
use Rattle.file_ops.specs.declared.files.WriteDone.{WriteDone}
use Rattle.wire_xdr.specs.Form.{Form}
use Rattle.wire_xdr.specs.Forms.{word, hyper, flag, fixed, both, seen_as}
use Rattle.file_ops.specs.Free.{bytes, bitmap}

unfoldable pub close_args : Form CloseArgs
close_args = seen_as (λ v. record { seqid = v.0; state_id = v.1 }) (λ v. (v.seqid, v.state_id)) (λ v. refl) (λ v. refl) (both word state_id)

unfoldable pub commit_args : Form CommitArgs
commit_args = seen_as (λ v. record { offset = v.0; count = v.1 }) (λ v. (v.offset, v.count)) (λ v. refl) (λ v. refl) (both hyper word)

unfoldable pub attributes : Form Attributes
attributes = seen_as (λ v. record { mask = v.0; values = v.1 }) (λ v. (v.mask, v.values)) (λ v. refl) (λ v. refl) (both bitmap bytes)

abbrev pub read_of : StateId × (ℕ × ℕ) → ReadArgs
read_of v = record { state_id = v.0; offset = v.1.0; count = v.1.1 }

unfoldable pub read_args : Form ReadArgs
read_args = seen_as read_of (λ v. (v.state_id, (v.offset, v.count))) (λ v. refl) (λ v. refl) (both state_id (both hyper word))

unfoldable pub read_done : Form ReadDone
read_done = seen_as (λ v. record { eof = v.0; bytes = v.1 }) (λ v. (v.eof, v.bytes)) (λ v. refl) (λ v. refl) (both flag bytes)

abbrev pub write_of : StateId × (ℕ × (Stability × List ℕ)) → WriteArgs
write_of v = record { state_id = v.0; offset = v.1.0; stable = v.1.1.0; bytes = v.1.1.1 }

unfoldable pub write_args : Form WriteArgs
write_args = seen_as write_of (λ v. (v.state_id, (v.offset, (v.stable, v.bytes)))) (λ v. refl) (λ v. refl) (both state_id (both hyper (both stability bytes)))

abbrev pub write_done_of : ℕ × (Stability × List ℕ) → WriteDone
write_done_of v = record { count = v.0; committed = v.1.0; verifier = v.1.1 }

unfoldable pub write_done : Form WriteDone
write_done = seen_as write_done_of (λ v. (v.count, (v.committed, v.verifier))) (λ v. refl) (λ v. refl) (both word (both stability (fixed 8)))
