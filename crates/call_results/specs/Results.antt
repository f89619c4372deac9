-- What results say, by their places in a compound: SEQUENCE is the first, a PUTFH or PUTROOTFH the second.
use Rattle.std.specs.Prelude.{ℕ, List, [], ◌∷◌, slice_get, Option, Some, None, option_and_then}
use Rattle.std.specs.Int.{w64, from_be_bytes}
use Rattle.copy_ops.specs.declared.res.CopyRes.TheVariants as copies
use Rattle.copy_ops.specs.declared.results.CopyAnswer.TheVariants as copied
use Rattle.copy_ops.specs.declared.results.OffloadProgress.{OffloadProgress}
use Rattle.file_ops.specs.declared.results.FileRes.TheVariants as files
use Rattle.nfs_base.specs.declared.answer.Answer.TheVariants.{Done}
use Rattle.nfs_base.specs.declared.state_id.StateId.{StateId}
use Rattle.nfs_compound.specs.declared.res.Res.{Res}
use Rattle.nfs_compound.specs.declared.res.Res.TheVariants.{File, Copy}
use Rattle.call_results.specs.declared.copies.Granted.{Granted}
use Rattle.call_results.specs.declared.files.Opened.{Opened}
use Rattle.call_results.specs.declared.files.Written.{Written}

-- ---- a single result

abbrev pub opened_id : Res → Option StateId
opened_id (File (files.Open (Done opened))) = Some opened.state_id
opened_id _ = None

abbrev pub told_handle : Res → Option (List ℕ)
told_handle (File (files.GetFh (Done handle))) = Some handle
told_handle _ = None

-- the change attribute, where it is all that was told (RFC 8881 section 5.8.1.4)
abbrev pub word_of : List ℕ → Option ℕ
word_of (a ∷ b ∷ c ∷ d ∷ e ∷ f ∷ g ∷ h ∷ []) = Some (from_be_bytes w64 (a ∷ b ∷ c ∷ d ∷ e ∷ f ∷ g ∷ h ∷ []))
word_of _ = None

abbrev pub told_change : Res → Option ℕ
told_change (File (files.GetAttr (Done told))) = word_of told.values
told_change _ = None

-- the change attribute and the size, where they are all that was told (sections 5.8.1.4 and 5.8.1.5): the size
abbrev pub size_word : List ℕ → Option ℕ
size_word (p ∷ q ∷ r ∷ s ∷ t ∷ u ∷ v ∷ w ∷ a ∷ b ∷ c ∷ d ∷ e ∷ f ∷ g ∷ h ∷ []) =
    Some (from_be_bytes w64 (a ∷ b ∷ c ∷ d ∷ e ∷ f ∷ g ∷ h ∷ []))
size_word _ = None

abbrev pub told_size : Res → Option ℕ
told_size (File (files.GetAttr (Done told))) = size_word told.values
told_size _ = None

abbrev pub told_bytes : Res → Option (List ℕ)
told_bytes (File (files.Read (Done read))) = Some read.bytes
told_bytes _ = None

abbrev pub told_written : Res → Option Written
told_written (File (files.Write (Done write))) = Some (record { count = write.count; verifier = write.verifier })
told_written _ = None

abbrev pub told_committed : Res → Option (List ℕ)
told_committed (File (files.Commit (Done verifier))) = Some verifier
told_committed _ = None

abbrev pub told_grant : Res → Option StateId
told_grant (Copy (copies.CopyNotify (Done grant))) = Some grant.id
told_grant _ = None

abbrev pub told_accepted : Res → Option StateId
told_accepted (Copy (copies.Copy (copied.Done copy))) = copy.response.callback_id
told_accepted _ = None

abbrev pub told_progress : Res → Option OffloadProgress
told_progress (Copy (copies.OffloadStatus (Done progress))) = Some progress
told_progress _ = None

-- ---- the results of a call

abbrev pub at : {X : Type 0} → ℕ → (Res → Option X) → List Res → Option X
at place told results = option_and_then told (slice_get results place)

abbrev pub both_opened : Option StateId → Option (List ℕ) → Option Opened
both_opened (Some id) (Some handle) = Some (record { id = id; handle = handle })
both_opened (Some id) None = None
both_opened None handle = None

-- PUTROOTFH, OPEN, GETFH
abbrev pub open_in : List Res → Option Opened
open_in results = both_opened (at 2 opened_id results) (at 3 told_handle results)

abbrev pub both_granted : Option ℕ → Option StateId → Option Granted
both_granted (Some change) (Some id) = Some (record { change = change; id = id })
both_granted (Some change) None = None
both_granted None id = None

-- PUTFH, GETATTR, COPY_NOTIFY
abbrev pub grant_in : List Res → Option Granted
grant_in results = both_granted (at 2 told_change results) (at 3 told_grant results)
