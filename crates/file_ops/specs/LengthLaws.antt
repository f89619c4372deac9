-- How many bytes the arguments and the results of the operations have, by their parts.
use Rattle.std.proofs.Common.{◌≡◌, ℕ, ◌+◌, ◌*◌, ◌≤◌, true, false, List, [], ◌∷◌, length, Option, Some, None, refl, arith}
use Rattle.std.proofs.lemmas.List.{length-append}
use Rattle.std.specs.List.{flat_map}
use Rattle.wire_xdr.specs.Words.{word_bytes, flag_bytes, opaque_bytes}
use Rattle.wire_xdr.specs.Form.{Form}
use Rattle.wire_xdr.specs.Arms.{body_spell, body_Fits}
use Rattle.wire_xdr.specs.Forms.{word, fixed, option}
use Rattle.wire_xdr.specs.Parts.{list_spell, option_spell}
use Rattle.wire_xdr.specs.LengthLaws.{IsBounded, AreBounded, word_length, hyper_length, flag_length, opaque_length, padding_below, word_bounded, option_bounded, union_bounded}
use Rattle.nfs_base.specs.declared.limits.TheConstants.{HANDLE_LIMIT}
use Rattle.nfs_base.specs.declared.answer.Answer.{Answer}
use Rattle.nfs_base.specs.declared.answer.Answer.TheVariants.{Done, Refused}
use Rattle.nfs_base.specs.Forms.{state_id, handle, answer}
use Rattle.nfs_base.specs.LengthLaws.{status_bounded, state_id_bounded, handle_bounded, time_bounded, stability_bounded, eight_bounded, sixteen_bounded, answer_bounded, done_length, refused_length}
use Rattle.file_ops.specs.declared.files.Attributes.{Attributes}
use Rattle.file_ops.specs.declared.files.ReadDone.{ReadDone}
use Rattle.file_ops.specs.declared.files.WriteArgs.{WriteArgs}
use Rattle.file_ops.specs.declared.opening.OpenDone.{OpenDone}
use Rattle.file_ops.specs.declared.results.FileRes.{FileRes}
use Rattle.file_ops.specs.declared.results.FileRes.TheVariants as results
use Rattle.file_ops.specs.declared.sessions.ImplId.{ImplId}
use Rattle.file_ops.specs.declared.sessions.ExchangeIdDone.{ExchangeIdDone}
use Rattle.file_ops.specs.declared.zero.Zero.TheVariants.{Word}
use Rattle.file_ops.specs.Free.{bitmap, zero_case, zero_arms, zero_listed, zero_word}
use Rattle.file_ops.specs.Files.{close_args, commit_args, attributes, read_args, read_done, write_args, write_done}
use Rattle.file_ops.specs.Opening.{open_done}
use Rattle.file_ops.specs.Parms.{channel_attrs}
use Rattle.file_ops.specs.Results.{res_case, file_res}
use Rattle.file_ops.specs.Sessions.{impl_id, exchange_id_done, create_session_done, sequence_args, sequence_done}

-- ---- what has no limit of its own

abbrev pub bytes_size : List ℕ → ℕ
bytes_size v = 7 + length v

pub bytes_sized : (v : List ℕ) → length (opaque_bytes v) ≤ bytes_size v
bytes_sized v = omega (arith, opaque_length v, padding_below (length v))

abbrev pub bitmap_size : List ℕ → ℕ
bitmap_size v = 4 + 4 * length v

words_length : (v : List ℕ) → length (flat_map word_bytes v) ≡ 4 * length v
words_length [] = refl
words_length (n ∷ v) = omega (arith, length-append (word_bytes n) (flat_map word_bytes v), word_length n, words_length v)

pub bitmap_sized : (v : List ℕ) → length (bitmap.spell v) ≡ bitmap_size v
unfolding list_spell
bitmap_sized v = omega (arith, length-append (word_bytes (length v)) (flat_map word_bytes v), word_length (length v), words_length v)

zero_bodies : AreBounded zero_case 0
zero_bodies Word fits = omega arith

pub zero_bounded : IsBounded zero_word 4
unfolding zero_word
zero_bounded = union_bounded zero_arms zero_listed 0 zero_bodies

-- ---- arguments

pub close_args_bounded : IsBounded close_args 20
unfolding close_args
close_args_bounded v fits = let id = state_id_bounded v.state_id fits.1 in grind (arith, length-append, word_length)

pub commit_args_bounded : IsBounded commit_args 12
unfolding commit_args
commit_args_bounded v fits = grind (arith, length-append, word_length, hyper_length)

pub read_args_bounded : IsBounded read_args 28
unfolding read_args
read_args_bounded v fits = let id = state_id_bounded v.state_id fits.0 in grind (arith, length-append, word_length, hyper_length)

pub write_args_sized : (v : WriteArgs) → write_args.Fits v → length (write_args.spell v) ≤ 28 + bytes_size v.bytes
unfolding write_args
write_args_sized v fits =
    let id = state_id_bounded v.state_id fits.0 in
    let stable = stability_bounded v.stable fits.1.1.0 in
    let bytes = bytes_sized v.bytes in
    grind (arith, length-append, hyper_length)

pub sequence_args_bounded : IsBounded sequence_args 32
unfolding sequence_args
sequence_args_bounded v fits = let session = sixteen_bounded v.session fits.0 in grind (arith, length-append, word_length, flag_length)

-- ---- results

-- a status, and what was done, which has so many bytes
abbrev pub answer_size : {T : Type 0} → (T → ℕ) → Answer T → ℕ
answer_size size (Done v) = 4 + size v
answer_size size (Refused refused) = 4

pub answer_sized : {T : Type 0} (form : Form T) (size : T → ℕ) → ((v : T) → form.Fits v → length (form.spell v) ≤ size v) → (v : Answer T) → (answer form).Fits v → length ((answer form).spell v) ≤ answer_size size v
unfolding answer
answer_sized form size bound (Done v) fits = omega (arith, done_length form v, bound v fits.2)
answer_sized form size bound (Refused refused) fits = omega (arith, refused_length form refused)

abbrev pub attributes_size : Attributes → ℕ
attributes_size v = bitmap_size v.mask + bytes_size v.values

pub attributes_sized : (v : Attributes) → attributes.Fits v → length (attributes.spell v) ≤ attributes_size v
unfolding attributes
attributes_sized v fits = omega (arith, length-append (bitmap.spell v.mask) (opaque_bytes v.values), bitmap_sized v.mask, bytes_sized v.values)

abbrev pub open_done_size : OpenDone → ℕ
open_done_size v = 44 + bitmap_size v.attributes_set

pub open_done_sized : (v : OpenDone) → open_done.Fits v → length (open_done.spell v) ≤ open_done_size v
unfolding open_done
open_done_sized v fits =
    let id = state_id_bounded v.state_id fits.0 in
    let set = bitmap_sized v.attributes_set in
    let delegation = zero_bounded v.delegation fits.1.1.1.1.1.1 in
    grind (arith, length-append, word_length, hyper_length, flag_length)

abbrev pub read_done_size : ReadDone → ℕ
read_done_size v = 4 + bytes_size v.bytes

pub read_done_sized : (v : ReadDone) → read_done.Fits v → length (read_done.spell v) ≤ read_done_size v
unfolding read_done
read_done_sized v fits = omega (arith, length-append (flag_bytes v.eof) (opaque_bytes v.bytes), flag_length v.eof, bytes_sized v.bytes)

pub write_done_bounded : IsBounded write_done 16
unfolding write_done
write_done_bounded v fits =
    let committed = stability_bounded v.committed fits.1.0 in
    let verifier = eight_bounded v.verifier fits.1.1 in
    grind (arith, length-append, word_length)

pub channel_attrs_bounded : IsBounded channel_attrs 32
unfolding channel_attrs
channel_attrs_bounded v fits =
    let rdma = option_bounded word 4 word_bounded v.rdma fits.1.1.1.1.1.1 in
    grind (arith, length-append, word_length)

pub create_session_done_bounded : IsBounded create_session_done 88
unfolding create_session_done
create_session_done_bounded v fits =
    let session = sixteen_bounded v.session fits.0 in
    let fore = channel_attrs_bounded v.fore fits.1.1.1.0 in
    let back = channel_attrs_bounded v.back fits.1.1.1.1 in
    grind (arith, length-append, word_length)

pub sequence_done_bounded : IsBounded sequence_done 36
unfolding sequence_done
sequence_done_bounded v fits =
    let session = sixteen_bounded v.session fits.0 in
    let flags = zero_bounded v.status_flags fits.1.1.1.1.1 in
    grind (arith, length-append, word_length)

-- who made an implementation, where that is told
abbrev pub impl_id_size : Option ImplId → ℕ
impl_id_size None = 4
impl_id_size (Some v) = 16 + bytes_size v.domain + bytes_size v.name

impl_id_length : (v : ImplId) → impl_id.Fits v → length (impl_id.spell v) ≤ 12 + bytes_size v.domain + bytes_size v.name
unfolding impl_id
impl_id_length v fits =
    let domain = bytes_sized v.domain in
    let name = bytes_sized v.name in
    let date = time_bounded v.date fits.1.1 in
    grind (arith, length-append)

pub impl_id_sized : (v : Option ImplId) → (option impl_id).Fits v → length ((option impl_id).spell v) ≤ impl_id_size v
unfolding option_spell
impl_id_sized None fits = omega (arith, flag_length false)
impl_id_sized (Some v) fits = omega (arith, length-append (flag_bytes true) (impl_id.spell v), flag_length true, impl_id_length v fits)

abbrev pub exchange_id_done_size : ExchangeIdDone → ℕ
exchange_id_done_size v = 28 + bytes_size v.major_id + bytes_size v.scope + impl_id_size v.impl_id

pub exchange_id_done_sized : (v : ExchangeIdDone) → exchange_id_done.Fits v → length (exchange_id_done.spell v) ≤ exchange_id_done_size v
unfolding exchange_id_done
exchange_id_done_sized v fits =
    let protection = zero_bounded v.protection fits.0.1.1.1 in
    let major = bytes_sized v.major_id in
    let scope = bytes_sized v.scope in
    let who = impl_id_sized v.impl_id fits.1.1.1.1 in
    grind (arith, length-append, word_length, hyper_length)

-- how many bytes the result of an operation has at most, from its status on
abbrev pub file_res_size : FileRes → ℕ
file_res_size (results.Close v) = 20
file_res_size (results.Commit v) = 12
file_res_size (results.GetAttr v) = answer_size attributes_size v
file_res_size (results.GetFh v) = 11 + HANDLE_LIMIT
file_res_size (results.Open v) = answer_size open_done_size v
file_res_size (results.Read v) = answer_size read_done_size v
file_res_size (results.Write v) = 20
file_res_size (results.ExchangeId v) = answer_size exchange_id_done_size v
file_res_size (results.CreateSession v) = 92
file_res_size (results.Sequence v) = 40
file_res_size _ = 4

pub file_res_bodies : (v : FileRes) → body_Fits res_case v → length (body_spell res_case v) ≤ file_res_size v
file_res_bodies (results.Close v) fits = answer_bounded state_id 16 state_id_bounded v fits
file_res_bodies (results.Commit v) fits = answer_bounded (fixed 8) 8 eight_bounded v fits
file_res_bodies (results.GetAttr v) fits = answer_sized attributes attributes_size attributes_sized v fits
file_res_bodies (results.GetFh v) fits = omega (arith, answer_bounded handle (HANDLE_LIMIT + 7) handle_bounded v fits)
file_res_bodies (results.Lookup v) fits = status_bounded v fits
file_res_bodies (results.Open v) fits = answer_sized open_done open_done_size open_done_sized v fits
file_res_bodies (results.PutFh v) fits = status_bounded v fits
file_res_bodies (results.PutRootFh v) fits = status_bounded v fits
file_res_bodies (results.Read v) fits = answer_sized read_done read_done_size read_done_sized v fits
file_res_bodies (results.RestoreFh v) fits = status_bounded v fits
file_res_bodies (results.SaveFh v) fits = status_bounded v fits
file_res_bodies (results.Write v) fits = answer_bounded write_done 16 write_done_bounded v fits
file_res_bodies (results.ExchangeId v) fits = answer_sized exchange_id_done exchange_id_done_size exchange_id_done_sized v fits
file_res_bodies (results.CreateSession v) fits = answer_bounded create_session_done 88 create_session_done_bounded v fits
file_res_bodies (results.DestroySession v) fits = status_bounded v fits
file_res_bodies (results.Sequence v) fits = answer_bounded sequence_done 36 sequence_done_bounded v fits
file_res_bodies (results.DestroyClientId v) fits = status_bounded v fits
file_res_bodies (results.ReclaimComplete v) fits = status_bounded v fits
file_res_bodies (results.Illegal v) fits = status_bounded v fits

pub file_res_sized : (op : ℕ) (v : FileRes) → (file_res op).Fits v → length ((file_res op).spell v) ≤ file_res_size v
unfolding file_res
file_res_sized op v fits = file_res_bodies v fits.1
