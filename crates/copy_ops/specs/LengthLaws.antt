-- How many bytes the arguments and the results of a copy's operations have.
use Rattle.std.proofs.Common.{◌≡◌, ℕ, ◌+◌, ◌*◌, ◌≤◌, List, [], ◌++◌, length, refl, arith, lit<}
use Rattle.std.proofs.lemmas.List.{length-append}
use Rattle.wire_xdr.specs.Words.{flag_bytes}
use Rattle.wire_xdr.specs.Forms.{hyper, flag, void, both, option}
use Rattle.wire_xdr.specs.LengthLaws.{IsBounded, AreBounded, hyper_length, flag_length, list_bounded, option_bounded, chosen_bounded, union_or_bounded}
use Rattle.nfs_base.specs.declared.limits.TheConstants.{MOST_NET_LOCS, TEXT_LIMIT, HANDLE_LIMIT}
use Rattle.nfs_base.specs.Forms.{status, state_id, net_loc}
use Rattle.nfs_base.specs.LengthLaws.{status_bounded, state_id_bounded, handle_bounded, net_loc_bounded, time_bounded, write_response_bounded, answer_bounded}
use Rattle.copy_ops.specs.declared.arg.CopyArg.TheVariants as arguments
use Rattle.copy_ops.specs.declared.callback.OffloadEnd.TheVariants as ends
use Rattle.copy_ops.specs.declared.res.CopyRes.TheVariants as results
use Rattle.copy_ops.specs.declared.results.CopyAnswer.TheVariants.{Done, NoReqs, Refused}
use Rattle.copy_ops.specs.Forms.{net_locs, copy_args, notify_args, clone_args, copy_arg_case, copy_arg_arms, copy_arg_listed, copy_arg, copy_done, copy_answer_case, copy_answer_arms, refused_with, copy_answer_picked, copy_answer, notify_grant, offload_progress, copy_res_case, copy_res_arms, copy_res_listed, copy_res, offload_end_case, offload_end_arms, failed_with, offload_end_picked, offload_end, cb_offload}

-- ---- arguments

-- a place, and as many places as a list may have
abbrev pub place_most : ℕ
place_most = 4 + 2 * (TEXT_LIMIT + 7)

abbrev pub places_most : ℕ
places_most = 4 + MOST_NET_LOCS * place_most

pub net_locs_bounded : IsBounded net_locs places_most
net_locs_bounded = list_bounded MOST_NET_LOCS (lit< tt) net_loc place_most net_loc_bounded

pub copy_args_bounded : IsBounded copy_args (64 + places_most)
unfolding copy_args
copy_args_bounded v fits =
    let src = state_id_bounded v.src_id fits.0.0 in
    let dst = state_id_bounded v.dst_id fits.0.1.0 in
    let sources = net_locs_bounded v.sources fits.1.1.1.1 in
    grind (arith, length-append, hyper_length, flag_length)

pub notify_args_bounded : IsBounded notify_args (16 + place_most)
unfolding notify_args
notify_args_bounded v fits =
    let src = state_id_bounded v.src_id fits.0 in
    let destination = net_loc_bounded v.destination fits.1 in
    grind (arith, length-append)

pub clone_args_bounded : IsBounded clone_args 56
unfolding clone_args
clone_args_bounded v fits =
    let src = state_id_bounded v.src_id fits.0 in
    let dst = state_id_bounded v.dst_id fits.1.0 in
    grind (arith, length-append, hyper_length)

copy_arg_bodies : AreBounded copy_arg_case (64 + places_most)
copy_arg_bodies (arguments.Copy v) fits = copy_args_bounded v fits
copy_arg_bodies (arguments.CopyNotify v) fits = omega (arith, notify_args_bounded v fits)
copy_arg_bodies (arguments.OffloadCancel v) fits = omega (arith, state_id_bounded v fits)
copy_arg_bodies (arguments.OffloadStatus v) fits = omega (arith, state_id_bounded v fits)
copy_arg_bodies (arguments.Clone v) fits = omega (arith, clone_args_bounded v fits)

-- the arguments of an operation
pub copy_arg_bounded : (op : ℕ) → IsBounded (copy_arg op) (64 + places_most)
unfolding copy_arg
copy_arg_bounded op = chosen_bounded copy_arg_arms copy_arg_listed op (64 + places_most) copy_arg_bodies

-- ---- results

pub copy_done_bounded : IsBounded copy_done 48
unfolding copy_done
copy_done_bounded v fits =
    let response = write_response_bounded v.response fits.0 in
    grind (arith, length-append, flag_length)

copy_answer_bodies : AreBounded copy_answer_case 48
copy_answer_bodies (Done v) fits = copy_done_bounded v fits
copy_answer_bodies (NoReqs consecutive synchronous) fits = omega (arith, length-append (flag_bytes consecutive) (flag_bytes synchronous), flag_length consecutive, flag_length synchronous)
copy_answer_bodies (Refused refused) fits = omega arith

pub copy_answer_bounded : IsBounded copy_answer 52
unfolding copy_answer
copy_answer_bounded = union_or_bounded copy_answer_arms (λ n. void) refused_with (λ n v. refl) copy_answer_picked 48 copy_answer_bodies

pub notify_grant_bounded : IsBounded notify_grant (28 + places_most)
unfolding notify_grant
notify_grant_bounded v fits =
    let lease = time_bounded v.lease fits.0 in
    let id = state_id_bounded v.id fits.1.0 in
    let sources = net_locs_bounded v.sources fits.1.1 in
    grind (arith, length-append)

pub offload_progress_bounded : IsBounded offload_progress 16
unfolding offload_progress
offload_progress_bounded v fits =
    let complete = option_bounded status 4 status_bounded v.complete fits.1 in
    grind (arith, length-append, hyper_length)

copy_res_bodies : AreBounded copy_res_case (32 + places_most)
copy_res_bodies (results.Copy v) fits = omega (arith, copy_answer_bounded v fits)
copy_res_bodies (results.CopyNotify v) fits = omega (arith, answer_bounded notify_grant (28 + places_most) notify_grant_bounded v fits)
copy_res_bodies (results.OffloadCancel v) fits = omega (arith, status_bounded v fits)
copy_res_bodies (results.OffloadStatus v) fits = omega (arith, answer_bounded offload_progress 16 offload_progress_bounded v fits)
copy_res_bodies (results.Clone v) fits = omega (arith, status_bounded v fits)

-- the result of an operation, from its status on
pub copy_res_bounded : (op : ℕ) → IsBounded (copy_res op) (32 + places_most)
unfolding copy_res
copy_res_bounded op = chosen_bounded copy_res_arms copy_res_listed op (32 + places_most) copy_res_bodies

-- ---- the callback

offload_end_bodies : AreBounded offload_end_case 40
offload_end_bodies (ends.Done v) fits = write_response_bounded v fits
offload_end_bodies (ends.Failed failed count) fits = omega (arith, hyper_length count)

pub offload_end_bounded : IsBounded offload_end 44
unfolding offload_end
offload_end_bounded = union_or_bounded offload_end_arms (λ n. hyper) failed_with (λ n v. refl) offload_end_picked 40 offload_end_bodies

pub cb_offload_bounded : IsBounded cb_offload (HANDLE_LIMIT + 67)
unfolding cb_offload
cb_offload_bounded v fits =
    let handle = handle_bounded v.handle fits.0 in
    let id = state_id_bounded v.id fits.1.0 in
    let end = offload_end_bounded v.end fits.1.1 in
    grind (arith, length-append)
