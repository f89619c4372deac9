-- How many calls on its volume a server makes at most, for an operation and for several: READ reads (RFC 8881 section
-- 18.22), COMMIT commits (section 18.3), and WRITE writes, and commits too unless it needn't be stable (section 18.32).
-- No other operation that is served calls the volume.
use Rattle.std.specs.Prelude.{ℕ, List, sum_by}
use Rattle.nfs_base.specs.declared.written.Stability.{Stability}
use Rattle.nfs_base.specs.declared.written.Stability.TheVariants.{Unstable}
use Rattle.file_ops.specs.declared.args.FileArg.{FileArg}
use Rattle.file_ops.specs.declared.args.FileArg.TheVariants.{Read, Write, Commit}
use Rattle.nfs_compound.specs.declared.op.Op.{Op}
use Rattle.nfs_compound.specs.declared.op.Op.TheVariants.{Copy, File}

abbrev pub write_calls : Stability → ℕ
write_calls Unstable = 1
write_calls _ = 2

abbrev pub file_calls : FileArg → ℕ
file_calls (Read v) = 1
file_calls (Commit v) = 1
file_calls (Write v) = write_calls v.stable
file_calls _ = 0

abbrev pub op_calls : Op → ℕ
op_calls (Copy v) = 0
op_calls (File v) = file_calls v

abbrev pub volume_calls : List Op → ℕ
volume_calls ops = sum_by op_calls ops
