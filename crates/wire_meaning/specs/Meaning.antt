-- What the operations of these ends ask, and what their results say, as functions of their bytes (`wire_model`'s
-- `Meaning`). Own definitions: each question is the one compound by which these ends ask it, and any other asks nothing.
use Rattle.std.specs.Prelude.{ℕ, ◌+◌, ◌==◌, ◌&&◌, ◌||◌, Bool, true, false, if◌then◌else◌, List, [], ◌∷◌, Option, Some, None, option_map, Result, Ok, Err}
use Rattle.std.specs.List.{list_any}
use Rattle.call_results.specs.Results.{at, told_accepted, told_bytes, told_change, told_progress, told_size}
use Rattle.copy_model.specs.Job.{Plan}
use Rattle.copy_ops.specs.declared.arg.CopyArg.TheVariants as copies
use Rattle.copy_ops.specs.declared.args.CopyArgs.{CopyArgs}
use Rattle.copy_ops.specs.declared.callback.OffloadEnd.{OffloadEnd}
use Rattle.copy_ops.specs.declared.callback.OffloadEnd.TheVariants as ends
use Rattle.copy_ops.specs.declared.results.OffloadProgress.{OffloadProgress}
use Rattle.file_ops.specs.declared.args.FileArg.TheVariants as files
use Rattle.file_ops.specs.declared.files.TheConstants.{ATTR_CHANGE, ATTR_SIZE}
use Rattle.file_server.specs.Handles.{file_in}
use Rattle.nfs_base.specs.declared.job.JobName.{JobName}
use Rattle.nfs_base.specs.declared.state_id.StateId.{StateId}
use Rattle.nfs_base.specs.declared.status.Status.{Status}
use Rattle.nfs_base.specs.declared.written.Stability.{Stability}
use Rattle.nfs_base.specs.declared.written.Stability.TheVariants.{FileSync}
use Rattle.nfs_compound.specs.Compounds.{cb_compound_of, compound_of}
use Rattle.nfs_compound.specs.Results.{reply}
use Rattle.nfs_compound.specs.declared.cb_compound.CbCompound.{CbCompound}
use Rattle.nfs_compound.specs.declared.cb_op.CbOp.{CbOp}
use Rattle.nfs_compound.specs.declared.cb_op.CbOp.TheVariants as called_back
use Rattle.nfs_compound.specs.declared.compound.Compound.{Compound}
use Rattle.nfs_compound.specs.declared.op.Op.{Op}
use Rattle.nfs_compound.specs.declared.op.Op.TheVariants.{Copy, File}
use Rattle.nfs_compound.specs.declared.reply.Reply.{Reply}
use Rattle.nfs_compound.specs.declared.res.Res.{Res}
use Rattle.wire_model.specs.Meaning.{Meaning, Place}
use Rattle.wire_xdr.specs.All.{value_of}

-- ---- the operations of a compound, and the results of a reply; of what can't be read there are none

abbrev pub ops_read : Result Compound ℕ → List Op
ops_read (Ok c) = c.ops
ops_read (Err at) = []

abbrev pub asked_by : List ℕ → List Op
asked_by ops = ops_read (compound_of ops)

abbrev pub results_read : Option Reply → List Res
results_read (Some told) = told.results
results_read None = []

abbrev pub told_by : List ℕ → List Res
told_by results = results_read (value_of reply results)

-- ---- a copy by its stateid (RFC 7862 section 15.2)

abbrev pub job_named : StateId → JobName
job_named id = record { boot = id.boot; number = id.number }

-- ---- READ of one file (RFC 8881 section 18.22)

abbrev pub place_read : List Op → Option Place
place_read (File (files.Sequence slot) ∷ File (files.PutFh handle) ∷ File (files.Read args) ∷ []) =
    Some (record { file = file_in handle; off = args.offset })
place_read _ = None

-- ---- GETATTR of one file's change attribute, alone or with its size (section 18.7), alone or before COPY_NOTIFY

abbrev pub is_asked : List ℕ → Bool
is_asked (mask ∷ []) = (mask == ATTR_CHANGE) || (mask == ATTR_CHANGE + ATTR_SIZE)
is_asked _ = false

abbrev pub file_asked : List Op → Option ℕ
file_asked (File (files.Sequence slot) ∷ File (files.PutFh handle) ∷ File (files.GetAttr mask) ∷ []) =
    if is_asked mask then Some (file_in handle) else None
file_asked (File (files.Sequence slot) ∷ File (files.PutFh handle) ∷ File (files.GetAttr mask) ∷ Copy (copies.CopyNotify args) ∷ []) =
    if is_asked mask then Some (file_in handle) else None
file_asked _ = None

-- ---- COPY from a file of the source to one of the destination (RFC 7862 section 15.2)

abbrev pub plan_asked : (source file : List ℕ) → CopyArgs → Plan
plan_asked source file args = record {
  src_file = file_in source;
  src_off = args.src_off;
  dst_file = file_in file;
  dst_off = args.dst_off;
  count = args.count;
  consecutive = args.consecutive;
}

abbrev pub copy_asked : List Op → Option Plan
copy_asked (File (files.Sequence slot) ∷ File (files.PutFh source) ∷ File files.SaveFh ∷ File (files.PutFh file) ∷ Copy (copies.Copy args) ∷ []) =
    Some (plan_asked source file args)
copy_asked _ = None

-- ---- OFFLOAD_STATUS (section 15.9): a copy is complete that ended with status 0

abbrev pub status_asked : List Op → Option JobName
status_asked (File (files.Sequence slot) ∷ File (files.PutFh handle) ∷ Copy (copies.OffloadStatus id) ∷ []) = Some (job_named id)
status_asked _ = None

abbrev pub is_zero : Option Status → Bool
is_zero (Some status) = status.number == 0
is_zero None = false

abbrev pub is_complete : Option OffloadProgress → Bool
is_complete (Some progress) = is_zero progress.complete
is_complete None = false

-- ---- CB_OFFLOAD (section 16.1) of a copy that is stable

abbrev pub is_file_sync : Stability → Bool
is_file_sync FileSync = true
is_file_sync _ = false

abbrev pub ends_stable : OffloadEnd → Bool
ends_stable (ends.Done written) = is_file_sync written.committed
ends_stable (ends.Failed status count) = false

abbrev pub is_name : JobName → JobName → Bool
is_name name other = (name.boot == other.boot) && (name.number == other.number)

abbrev pub reports_one : JobName → CbOp → Bool
reports_one name (called_back.Offload told) = ends_stable told.end && is_name name (job_named told.id)
reports_one name (called_back.Sequence slot) = false

abbrev pub reported_by : JobName → List CbOp → Bool
reported_by name (called_back.Sequence slot ∷ ops) = list_any (reports_one name) ops
reported_by name _ = false

abbrev pub cb_ops_read : Result CbCompound ℕ → List CbOp
cb_ops_read (Ok c) = c.ops
cb_ops_read (Err at) = []

-- ---- all of them

abbrev pub meaning : Meaning
meaning = record {
  reads = λ ops. place_read (asked_by ops);
  data_in = λ results. at 2 told_bytes (told_by results);
  asks_attributes = λ ops. file_asked (asked_by ops);
  size_in = λ results. at 2 told_size (told_by results);
  change_in = λ results. at 2 told_change (told_by results);
  copies = λ ops. copy_asked (asked_by ops);
  name_in = λ results. option_map job_named (at 4 told_accepted (told_by results));
  asks_status = λ ops. status_asked (asked_by ops);
  says_complete = λ results. is_complete (at 2 told_progress (told_by results));
  reports = λ ops name. reported_by name (cb_ops_read (cb_compound_of ops));
}
