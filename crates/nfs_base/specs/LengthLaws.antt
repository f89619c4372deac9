-- How many bytes the spellings of the common types have.
use Rattle.std.proofs.Common.{◌≡◌, ℕ, ◌+◌, ◌*◌, [], length, refl, arith, lit<}
use Rattle.std.proofs.lemmas.List.{length-append}
use Rattle.wire_xdr.specs.Words.{padding, word_bytes, opaque_bytes}
use Rattle.wire_xdr.specs.Form.{Form}
use Rattle.wire_xdr.specs.Forms.{fixed, void}
use Rattle.wire_xdr.specs.LengthLaws.{IsBounded, AreBounded, word_length, hyper_length, signed_length, fixed_length, opaque_bounded, opaque_between_bounded, option_bounded, union_bounded, union_or_bounded}
use Rattle.nfs_base.specs.declared.limits.TheConstants.{HANDLE_LIMIT, TEXT_LIMIT}
use Rattle.nfs_base.specs.declared.answer.Answer.TheVariants.{Done, Refused}
use Rattle.nfs_base.specs.declared.status.Status.{Status}
use Rattle.nfs_base.specs.declared.net_loc.NetLoc.TheVariants.{Name, Url, Addr}
use Rattle.nfs_base.specs.declared.written.Stability.TheVariants.{Unstable, DataSync, FileSync}
use Rattle.nfs_base.specs.Forms.{status, state_id, handle, time, text, net_loc_case, net_loc_arms, net_loc_listed, net_loc, stability_case, stability_arms, stability_listed, stability, write_response, answer_case, answer_arms, refused_with, answer_picked, answer}

pub status_bounded : IsBounded status 4
unfolding status
status_bounded v fits = omega (arith, word_length v.number)

pub state_id_bounded : IsBounded state_id 16
unfolding state_id
state_id_bounded v fits = grind (arith, length-append, word_length)

pub handle_bounded : IsBounded handle (HANDLE_LIMIT + 7)
unfolding handle
handle_bounded = opaque_between_bounded 1 HANDLE_LIMIT (lit< tt)

pub time_bounded : IsBounded time 12
unfolding time
time_bounded v fits = grind (arith, length-append, word_length, signed_length)

pub text_bounded : IsBounded text (TEXT_LIMIT + 7)
text_bounded = opaque_bounded TEXT_LIMIT (lit< tt)

net_loc_bodies : AreBounded net_loc_case (2 * (TEXT_LIMIT + 7))
net_loc_bodies (Name name) fits = omega (arith, text_bounded name fits)
net_loc_bodies (Url url) fits = omega (arith, text_bounded url fits)
net_loc_bodies (Addr netid addr) fits = omega (arith, length-append (opaque_bytes netid) (opaque_bytes addr), text_bounded netid fits.0, text_bounded addr fits.1)

pub net_loc_bounded : IsBounded net_loc (4 + 2 * (TEXT_LIMIT + 7))
unfolding net_loc
net_loc_bounded = union_bounded net_loc_arms net_loc_listed (2 * (TEXT_LIMIT + 7)) net_loc_bodies

stability_bodies : AreBounded stability_case 0
stability_bodies Unstable fits = omega arith
stability_bodies DataSync fits = omega arith
stability_bodies FileSync fits = omega arith

pub stability_bounded : IsBounded stability 4
unfolding stability
stability_bounded = union_bounded stability_arms stability_listed 0 stability_bodies

-- fields whose length is a multiple of 4 have no padding
pub eight_bounded : IsBounded (fixed 8) 8
eight_bounded v fits = omega (arith, fixed_length v, fits)

pub sixteen_bounded : IsBounded (fixed 16) 16
sixteen_bounded v fits = omega (arith, fixed_length v, fits)

pub write_response_bounded : IsBounded write_response 40
unfolding write_response
write_response_bounded v fits =
    let id = option_bounded state_id 16 state_id_bounded v.callback_id fits.0 in
    let committed = stability_bounded v.committed fits.1.1.0 in
    let verifier = eight_bounded v.verifier fits.1.1.1 in
    grind (arith, length-append, hyper_length)

answer_bodies : {T : Type 0} (form : Form T) (n : ℕ) → IsBounded form n → AreBounded (answer_case form) n
answer_bodies form n bound (Done v) fits = bound v fits
answer_bodies form n bound (Refused refused) fits = omega arith

-- a status, and what was done
pub answer_bounded : {T : Type 0} (form : Form T) (n : ℕ) → IsBounded form n → IsBounded (answer form) (4 + n)
unfolding answer
answer_bounded form n bound = union_or_bounded (answer_arms form) (λ k. void) refused_with (λ k v. refl) (answer_picked form) n (answer_bodies form n bound)

-- the same of one answer, where what was done has no bound of its own
pub done_length : {T : Type 0} (form : Form T) (v : T) → length ((answer form).spell (Done v)) ≡ 4 + length (form.spell v)
unfolding answer
done_length form v = omega (arith, length-append (word_bytes 0) (form.spell v), word_length 0)

pub refused_length : {T : Type 0} (form : Form T) (s : Status) → length ((answer form).spell (Refused s)) ≡ 4
unfolding answer
refused_length form s = omega (arith, length-append (word_bytes s.number) [], word_length s.number)
