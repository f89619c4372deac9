-- The operations of a copy, a table: how the arguments and the result of each are spelled (RFC 7863).
use Rattle.std.specs.Prelude.{◌≡◌, ℕ, Bool, List, [], ◌∷◌, refl}
use Rattle.std.proofs.Common.{lit<}
use Rattle.nfs_base.specs.declared.limits.TheConstants.{MOST_NET_LOCS}
use Rattle.nfs_base.specs.declared.status.TheConstants.Status.{OFFLOAD_NO_REQS}
use Rattle.nfs_base.specs.declared.net_loc.NetLoc.{NetLoc}
use Rattle.nfs_base.specs.declared.state_id.StateId.{StateId}
use Rattle.nfs_base.specs.Forms.{status, state_id, handle, net_loc, time, write_response, answer}
use Rattle.copy_ops.specs.declared.operation.TheConstants.{OP_COPY, OP_COPY_NOTIFY, OP_OFFLOAD_CANCEL, OP_OFFLOAD_STATUS, OP_CLONE}
use Rattle.copy_ops.specs.declared.arg.CopyArg.{CopyArg}
use Rattle.copy_ops.specs.declared.arg.CopyArg.TheVariants as arguments
use Rattle.copy_ops.specs.declared.args.CopyArgs.{CopyArgs}
use Rattle.copy_ops.specs.declared.args.NotifyArgs.{NotifyArgs}
use Rattle.copy_ops.specs.declared.args.CloneArgs.{CloneArgs}
use Rattle.copy_ops.specs.declared.callback.CbOffload.{CbOffload}
use Rattle.copy_ops.specs.declared.callback.OffloadEnd.{OffloadEnd}
use Rattle.copy_ops.specs.declared.callback.OffloadEnd.TheVariants as ends
use Rattle.copy_ops.specs.declared.res.CopyRes.{CopyRes}
use Rattle.copy_ops.specs.declared.res.CopyRes.TheVariants as results
use Rattle.copy_ops.specs.declared.results.CopyDone.{CopyDone}
use Rattle.copy_ops.specs.declared.results.CopyAnswer.{CopyAnswer}
use Rattle.copy_ops.specs.declared.results.CopyAnswer.TheVariants.{Done, NoReqs, Refused}
use Rattle.copy_ops.specs.declared.results.NotifyGrant.{NotifyGrant}
use Rattle.copy_ops.specs.declared.results.OffloadProgress.{OffloadProgress}
use Rattle.wire_xdr.specs.Form.{Form}
use Rattle.wire_xdr.specs.Arms.{Case, ArmOf, IsListed, IsPicked, arm, holds, defaults, number_of, other_arm}
use Rattle.wire_xdr.specs.Forms.{hyper, flag, void, both, seen_as, list, option, chosen, union_or}

-- netloc4<8>
abbrev pub net_locs : Form (List NetLoc)
net_locs = list MOST_NET_LOCS (lit< tt) net_loc

-- ---- arguments

-- COPY4args: two stateids, two offsets and a count, whether consecutive, whether synchronous, and the
-- places of the source
abbrev pub to_copy_args : (StateId × (StateId × (ℕ × ℕ))) × (ℕ × (Bool × (Bool × List NetLoc))) → CopyArgs
to_copy_args v = record { src_id = v.0.0; dst_id = v.0.1.0; src_off = v.0.1.1.0; dst_off = v.0.1.1.1; count = v.1.0; consecutive = v.1.1.0; synchronous = v.1.1.1.0; sources = v.1.1.1.1 }

unfoldable pub copy_args : Form CopyArgs
copy_args = seen_as to_copy_args (λ v. ((v.src_id, (v.dst_id, (v.src_off, v.dst_off))), (v.count, (v.consecutive, (v.synchronous, v.sources))))) (λ v. refl) (λ v. refl) (both (both state_id (both state_id (both hyper hyper))) (both hyper (both flag (both flag net_locs))))

-- COPY_NOTIFY4args
unfoldable pub notify_args : Form NotifyArgs
notify_args = seen_as (λ v. record { src_id = v.0; destination = v.1 }) (λ v. (v.src_id, v.destination)) (λ v. refl) (λ v. refl) (both state_id net_loc)

-- CLONE4args: two stateids, two offsets and a count
unfoldable pub clone_args : Form CloneArgs
clone_args = seen_as (λ v. record { src_id = v.0; dst_id = v.1.0; src_off = v.1.1.0; dst_off = v.1.1.1.0; count = v.1.1.1.1 }) (λ v. (v.src_id, (v.dst_id, (v.src_off, (v.dst_off, v.count))))) (λ v. refl) (λ v. refl) (both state_id (both state_id (both hyper (both hyper hyper))))

abbrev pub copy_arg_case : CopyArg → Case CopyArg
copy_arg_case (arguments.Copy v) = holds OP_COPY copy_args arguments.Copy v
copy_arg_case (arguments.CopyNotify v) = holds OP_COPY_NOTIFY notify_args arguments.CopyNotify v
copy_arg_case (arguments.OffloadCancel v) = holds OP_OFFLOAD_CANCEL state_id arguments.OffloadCancel v
copy_arg_case (arguments.OffloadStatus v) = holds OP_OFFLOAD_STATUS state_id arguments.OffloadStatus v
copy_arg_case (arguments.Clone v) = holds OP_CLONE clone_args arguments.Clone v

abbrev pub copy_arg_arms : List (ArmOf copy_arg_case)
copy_arg_arms = arm OP_COPY copy_args arguments.Copy (λ v. refl) ∷ arm OP_COPY_NOTIFY notify_args arguments.CopyNotify (λ v. refl) ∷ arm OP_OFFLOAD_CANCEL state_id arguments.OffloadCancel (λ v. refl) ∷ arm OP_OFFLOAD_STATUS state_id arguments.OffloadStatus (λ v. refl) ∷ arm OP_CLONE clone_args arguments.Clone (λ v. refl) ∷ []

pub copy_arg_listed : (v : CopyArg) → IsListed copy_arg_arms v
copy_arg_listed (arguments.Copy v) = record { reads = λ otherwise c. refl; whole = refl }
copy_arg_listed _ = record { reads = λ otherwise c. refl; whole = refl }

-- the arguments of the operation with a number
unfoldable pub copy_arg : ℕ → Form CopyArg
copy_arg = chosen copy_arg_arms copy_arg_listed

abbrev pub copy_arg_number : CopyArg → ℕ
copy_arg_number = number_of copy_arg_case

pub copy_arg_own : (number : ℕ) (v : CopyArg) → (copy_arg number).Fits v → copy_arg_number v ≡ number
unfolding copy_arg
copy_arg_own number v fits = fits.0

-- ---- results

-- COPY4resok: what was written, whether consecutive and whether synchronous
unfoldable pub copy_done : Form CopyDone
copy_done = seen_as (λ v. record { response = v.0; consecutive = v.1.0; synchronous = v.1.1 }) (λ v. (v.response, (v.consecutive, v.synchronous))) (λ v. refl) (λ v. refl) (both write_response (both flag flag))

-- COPY4res: status 0 and what was done, OFFLOAD_NO_REQS and two bools, or another status alone
abbrev pub copy_answer_case : CopyAnswer → Case CopyAnswer
copy_answer_case (Done v) = holds 0 copy_done Done v
copy_answer_case (NoReqs consecutive synchronous) = holds OFFLOAD_NO_REQS.number (both flag flag) (λ v. NoReqs v.0 v.1) (consecutive, synchronous)
copy_answer_case (Refused refused) = defaults refused.number void (λ v. Refused refused) tt

abbrev pub copy_answer_arms : List (ArmOf copy_answer_case)
copy_answer_arms = arm 0 copy_done Done (λ v. refl) ∷ arm OFFLOAD_NO_REQS.number (both flag flag) (λ v. NoReqs v.0 v.1) (λ v. refl) ∷ []

abbrev pub refused_with : ℕ → Unit {0} → CopyAnswer
refused_with n v = Refused (record { number = n })

pub copy_answer_picked : (v : CopyAnswer) → IsPicked copy_answer_arms (other_arm (λ n. void) refused_with) v
copy_answer_picked (Done v) = record { reads = λ otherwise c. refl; whole = refl }
copy_answer_picked _ = record { reads = λ otherwise c. refl; whole = refl }

unfoldable pub copy_answer : Form CopyAnswer
copy_answer = union_or copy_answer_arms (λ n. void) refused_with (λ n v. refl) copy_answer_picked

-- COPY_NOTIFY4resok: a lease, a stateid, and the places of the source
unfoldable pub notify_grant : Form NotifyGrant
notify_grant = seen_as (λ v. record { lease = v.0; id = v.1.0; sources = v.1.1 }) (λ v. (v.lease, (v.id, v.sources))) (λ v. refl) (λ v. refl) (both time (both state_id net_locs))

-- OFFLOAD_STATUS4resok: a count, and a status where the copy is done
unfoldable pub offload_progress : Form OffloadProgress
offload_progress = seen_as (λ v. record { count = v.0; complete = v.1 }) (λ v. (v.count, v.complete)) (λ v. refl) (λ v. refl) (both hyper (option status))

abbrev pub copy_res_case : CopyRes → Case CopyRes
copy_res_case (results.Copy v) = holds OP_COPY copy_answer results.Copy v
copy_res_case (results.CopyNotify v) = holds OP_COPY_NOTIFY (answer notify_grant) results.CopyNotify v
copy_res_case (results.OffloadCancel v) = holds OP_OFFLOAD_CANCEL status results.OffloadCancel v
copy_res_case (results.OffloadStatus v) = holds OP_OFFLOAD_STATUS (answer offload_progress) results.OffloadStatus v
copy_res_case (results.Clone v) = holds OP_CLONE status results.Clone v

abbrev pub copy_res_arms : List (ArmOf copy_res_case)
copy_res_arms = arm OP_COPY copy_answer results.Copy (λ v. refl) ∷ arm OP_COPY_NOTIFY (answer notify_grant) results.CopyNotify (λ v. refl) ∷ arm OP_OFFLOAD_CANCEL status results.OffloadCancel (λ v. refl) ∷ arm OP_OFFLOAD_STATUS (answer offload_progress) results.OffloadStatus (λ v. refl) ∷ arm OP_CLONE status results.Clone (λ v. refl) ∷ []

pub copy_res_listed : (v : CopyRes) → IsListed copy_res_arms v
copy_res_listed (results.Copy v) = record { reads = λ otherwise c. refl; whole = refl }
copy_res_listed _ = record { reads = λ otherwise c. refl; whole = refl }

-- the result of the operation with a number
unfoldable pub copy_res : ℕ → Form CopyRes
copy_res = chosen copy_res_arms copy_res_listed

abbrev pub copy_res_number : CopyRes → ℕ
copy_res_number = number_of copy_res_case

pub copy_res_own : (number : ℕ) (v : CopyRes) → (copy_res number).Fits v → copy_res_number v ≡ number
unfolding copy_res
copy_res_own number v fits = fits.0

-- ---- the callback

-- offload_info4: status 0 and what was written, or another status and how many bytes were copied
abbrev pub offload_end_case : OffloadEnd → Case OffloadEnd
offload_end_case (ends.Done v) = holds 0 write_response ends.Done v
offload_end_case (ends.Failed failed count) = defaults failed.number hyper (λ n. ends.Failed failed n) count

abbrev pub offload_end_arms : List (ArmOf offload_end_case)
offload_end_arms = arm 0 write_response ends.Done (λ v. refl) ∷ []

abbrev pub failed_with : ℕ → ℕ → OffloadEnd
failed_with n count = ends.Failed (record { number = n }) count

pub offload_end_picked : (v : OffloadEnd) → IsPicked offload_end_arms (other_arm (λ n. hyper) failed_with) v
offload_end_picked (ends.Done v) = record { reads = λ otherwise c. refl; whole = refl }
offload_end_picked _ = record { reads = λ otherwise c. refl; whole = refl }

unfoldable pub offload_end : Form OffloadEnd
offload_end = union_or offload_end_arms (λ n. hyper) failed_with (λ n v. refl) offload_end_picked

-- CB_OFFLOAD4args: a handle, a stateid, and how the copy ended
unfoldable pub cb_offload : Form CbOffload
cb_offload = seen_as (λ v. record { handle = v.0; id = v.1.0; end = v.1.1 }) (λ v. (v.handle, (v.id, v.end))) (λ v. refl) (λ v. refl) (both handle (both state_id offload_end))
