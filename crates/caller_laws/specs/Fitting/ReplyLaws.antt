-- What is read from bytes has numbers below their bounds, and is bytes.
use Rattle.std.proofs.Common.{ℕ, List, [], ◌∷◌, ◌++◌, length, Option, Some, None}
use Rattle.std.specs.Prelude.{IfSome}
use Rattle.std.specs.List.{AllByRecursion, flat_map}
use Rattle.caller_laws.specs.Fitting.Answers.{CopyResIsFit, FileResIsFit, ReplyIsFit, ResIsFit}
use Rattle.caller_laws.specs.Fitting.Bounds.{NetLocFits}
use Rattle.caller_laws.specs.Fitting.BytesLaws.{first_part, fixed_part, opaque_part, second_part}
use Rattle.copy_ops.specs.Forms.{copy_answer, copy_done, copy_res, copy_res_number, notify_grant, offload_progress}
use Rattle.copy_ops.specs.declared.res.CopyRes.{CopyRes}
use Rattle.copy_ops.specs.declared.res.CopyRes.TheVariants as copies
use Rattle.copy_ops.specs.declared.results.CopyAnswer.TheVariants as answers
use Rattle.file_ops.specs.Files.{attributes, read_done}
use Rattle.file_ops.specs.Free.{bitmap}
use Rattle.file_ops.specs.Opening.{open_done}
use Rattle.file_ops.specs.Results.{file_res, file_res_number}
use Rattle.file_ops.specs.Sessions.{create_session_done, exchange_id_done}
use Rattle.file_ops.specs.declared.results.FileRes.{FileRes}
use Rattle.file_ops.specs.declared.results.FileRes.TheVariants as files
use Rattle.nfs_base.specs.Bounds.{StateIdFits}
use Rattle.nfs_base.specs.Forms.{answer, handle, net_loc, state_id, status, time, write_response}
use Rattle.nfs_base.specs.declared.answer.Answer.TheVariants.{Done}
use Rattle.nfs_base.specs.declared.net_loc.NetLoc.{NetLoc}
use Rattle.nfs_base.specs.declared.net_loc.NetLoc.TheVariants.{Name, Url, Addr}
use Rattle.nfs_base.specs.declared.state_id.StateId.{StateId}
use Rattle.nfs_compound.specs.Results.{outcome, reply, res_body}
use Rattle.nfs_compound.specs.declared.reply.Reply.{Reply}
use Rattle.nfs_compound.specs.declared.res.Res.{Res}
use Rattle.nfs_compound.specs.declared.res.Res.TheVariants.{Bare, Copy, File}
use Rattle.wire_xdr.specs.Cursor.{IsBytes}
use Rattle.wire_xdr.specs.Form.{Form}
use Rattle.wire_xdr.specs.Parts.{list_spell}
use Rattle.wire_xdr.specs.Words.{fixed_bytes, flag_bytes, opaque_bytes, word_bytes}

id_is : (id : StateId) → state_id.Fits id → StateIdFits id
unfolding state_id
id_is id fits = record { seqid = fits.0; kind = fits.1.0; boot = fits.1.1.0; number = fits.1.1.1 }

ids_are : (o : Option StateId) → IfSome o state_id.Fits → IfSome o StateIdFits
ids_are None fits = tt
ids_are (Some id) fits = id_is id fits

loc_is : (loc : NetLoc) → net_loc.Fits loc → IsBytes (net_loc.spell loc) → NetLocFits loc
unfolding net_loc
loc_is (Name name) fits h = record { short = fits.1; are_bytes = opaque_part name (second_part (word_bytes _) (opaque_bytes name) h) }
loc_is (Url url) fits h = record { short = fits.1; are_bytes = opaque_part url (second_part (word_bytes _) (opaque_bytes url) h) }
loc_is (Addr netid addr) fits h =
    let both : IsBytes (opaque_bytes netid ++ opaque_bytes addr) = second_part (word_bytes _) (opaque_bytes netid ++ opaque_bytes addr) h in (
      record { short = fits.1.0; are_bytes = opaque_part netid (first_part (opaque_bytes netid) (opaque_bytes addr) both) },
      record { short = fits.1.1; are_bytes = opaque_part addr (second_part (opaque_bytes netid) (opaque_bytes addr) both) },
    )

-- ---- lists

each_is : {A : Type 0} (form : Form A) (P : A → Type 0) → ((x : A) → form.Fits x → IsBytes (form.spell x) → P x) → (xs : List A) → AllByRecursion form.Fits xs
    → IsBytes (flat_map form.spell xs) → AllByRecursion P xs
each_is form P each [] fits h = tt
each_is form P each (x ∷ xs) fits h = (
  each x fits.0 (first_part (form.spell x) (flat_map form.spell xs) h),
  each_is form P each xs fits.1 (second_part (form.spell x) (flat_map form.spell xs) h),
)

list_is : {A : Type 0} (form : Form A) (P : A → Type 0) → ((x : A) → form.Fits x → IsBytes (form.spell x) → P x) → (xs : List A) → AllByRecursion form.Fits xs
    → IsBytes (list_spell form xs) → AllByRecursion P xs
unfolding list_spell
list_is form P each xs fits h = each_is form P each xs fits (second_part (word_bytes (length xs)) (flat_map form.spell xs) h)

-- ---- results

file_is : (n : ℕ) (res : FileRes) → (file_res n).Fits res → IsBytes ((file_res (file_res_number res)).spell res) → FileResIsFit res
unfolding file_res answer open_done handle attributes read_done exchange_id_done create_session_done
file_is n (files.Open (Done told)) fits h = id_is told.state_id fits.1.2.0
file_is n (files.GetFh (Done told)) fits h = record {
  least = fits.1.2.0;
  short = fits.1.2.1;
  are_bytes = opaque_part told (second_part (word_bytes _) (opaque_bytes told) h);
}
file_is n (files.GetAttr (Done told)) fits h =
    opaque_part told.values (second_part (bitmap.spell told.mask) (opaque_bytes told.values) (second_part (word_bytes _) (bitmap.spell told.mask ++ opaque_bytes told.values) h))
file_is n (files.Read (Done told)) fits h =
    opaque_part told.bytes (second_part (flag_bytes told.eof) (opaque_bytes told.bytes) (second_part (word_bytes _) (flag_bytes told.eof ++ opaque_bytes told.bytes) h))
file_is n (files.ExchangeId (Done told)) fits h = (fits.1.2.0.0, fits.1.2.0.1.0)
file_is n (files.CreateSession (Done told)) fits h = record {
  size_is = fits.1.2.0;
  are_bytes = fixed_part told.session (first_part (fixed_bytes told.session) _ (second_part (word_bytes _) (fixed_bytes told.session ++ _) h));
}
file_is n _ fits h = tt

copy_is : (n : ℕ) (res : CopyRes) → (copy_res n).Fits res → IsBytes ((copy_res (copy_res_number res)).spell res) → CopyResIsFit res
unfolding copy_res copy_answer copy_done write_response answer notify_grant offload_progress
copy_is n (copies.Copy (answers.Done told)) fits h = (ids_are told.response.callback_id fits.1.2.0.0, fits.1.2.0.1.0)
copy_is n (copies.CopyNotify (Done told)) fits h =
    let locs : IsBytes (list_spell net_loc told.sources) =
    second_part (state_id.spell told.id) (list_spell net_loc told.sources)
    (second_part (time.spell told.lease) (state_id.spell told.id ++ list_spell net_loc told.sources)
    (second_part (word_bytes _) (time.spell told.lease ++ (state_id.spell told.id ++ list_spell net_loc told.sources)) h)) in
    (id_is told.id fits.1.2.1.0, list_is net_loc NetLocFits loc_is told.sources fits.1.2.1.1.1 locs)
copy_is n (copies.OffloadStatus (Done told)) fits h = fits.1.2.0
copy_is n _ fits h = tt

res_is : (res : Res) → outcome.Fits res → IsBytes (outcome.spell res) → ResIsFit res
unfolding outcome res_body
res_is (File res) fits h = file_is (file_res_number res) res fits.1.2 (second_part (word_bytes _) ((file_res (file_res_number res)).spell res) h)
res_is (Copy res) fits h = copy_is (copy_res_number res) res fits.1.1 (second_part (word_bytes _) ((copy_res (copy_res_number res)).spell res) h)
res_is (Bare op s) fits h = tt

pub reply_is : (r : Reply) → reply.Fits r → IsBytes (reply.spell r) → ReplyIsFit r
unfolding reply
reply_is r fits h =
    let results : IsBytes (list_spell outcome r.results) =
    second_part (opaque_bytes r.tag) (list_spell outcome r.results) (second_part (status.spell r.status) (opaque_bytes r.tag ++ list_spell outcome r.results) h) in
    list_is outcome ResIsFit res_is r.results fits.1.1.1 results
