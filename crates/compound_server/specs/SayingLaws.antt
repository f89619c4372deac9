-- An operation of a copy in code: where what it said on the page is how its result is spelled, its answer is its model's.
use Rattle.std.proofs.Common.{◌≡◌, ℕ, ◌+◌, ◌≤◌, Bool, List, ◌++◌, length, refl, sym, ap, subst, ◌∙◌, arith}
use Rattle.copy_ops.specs.Forms.{copy_answer, copy_res, notify_grant}
use Rattle.copy_ops.specs.Operations.{copy_res_status}
use Rattle.copy_ops.specs.declared.operation.TheConstants.{OP_CLONE, OP_COPY, OP_COPY_NOTIFY, OP_OFFLOAD_CANCEL, OP_OFFLOAD_STATUS}
use Rattle.copy_ops.specs.declared.res.CopyRes.{CopyRes}
use Rattle.copy_ops.specs.declared.res.CopyRes.TheVariants as results
use Rattle.copy_ops.specs.declared.results.CopyAnswer.TheVariants as copied
use Rattle.copy_ops.specs.declared.results.NotifyGrant.{NotifyGrant}
use Rattle.file_server.specs.Answering.{Says, Keeps, set_aside}
use Rattle.file_server.specs.Machine.{Machine, Going}
use Rattle.file_server.specs.declared.held.Held.{Held}
use Rattle.file_server.specs.declared.progress.Progress.{Progress}
use Rattle.file_server.specs.declared.progress.TheConstants.{MOST_RESULT}
use Rattle.nfs_base.specs.Forms.{answer, status}
use Rattle.nfs_base.specs.declared.answer.Answer.TheVariants.{Done, Refused}
use Rattle.nfs_base.specs.declared.status.Status.{Status}
use Rattle.server_volume.specs.Choices.{Agrees}
use Rattle.server_volume.specs.MomentLaws.{counted_none}
use Rattle.server_volume.specs.Moments.{Counted}
use Rattle.server_volume.specs.Store.{Seat}
use Rattle.server_volume.specs.declared.used.Used.{Used}
use Rattle.wire_xdr.specs.Words.{word_bytes}
use Rattle.compound_server.specs.Serves.{Told, served, served_bytes, told_of}

-- no call was made
pub ran_kept : {told V : Type 0} (seat : V → Seat) (old new : V) (used more : List Used) → new ≡ old → more ≡ used → Counted told (seat old) (seat new) used more
ran_kept {told} seat old new used more same still =
    subst (λ v. Counted told (seat old) (seat v) used more) (sym same) (subst (λ (us : List Used). Counted told (seat old) (seat old) used us) (sym still) (counted_none told (seat old) used))

abbrev pub going_at : {X : Type 0} → Machine X → Progress → Going X
going_at m p = record { machine = m; held = p.held; used = p.used; has_read = p.has_read }

abbrev going_of_parts : {X : Type 0} → Machine X → Held → List Used → Bool → Going X
going_of_parts m held used has_read = record { machine = m; held = held; used = used; has_read = has_read }

abbrev pub told_as : {X : Type 0} → Going X → List ℕ → ℕ → Told X
told_as g bytes status = record { going = g; bytes = bytes; status = status }

going_said : {X : Type 0} (m : Machine X) (p r : Progress) (text : List ℕ) → Says p text r → going_at m p ≡ going_at m r
going_said m p r text says =
    ap (λ (h : Held). going_of_parts m h p.used p.has_read) (sym says.held)
    ∙ ap (λ (us : List Used). going_of_parts m r.held us p.has_read) (sym says.used)
    ∙ ap (λ (b : Bool). going_of_parts m r.held r.used b) (sym says.has_read)

-- an answer is its model's where what was said is the result's spelling
pub serves_said : {X : Type 0} (m : Machine X) (res : CopyRes) (p r : Progress) (text : List ℕ) (s : Status) → Says p text r
    → served_bytes res ≡ text → copy_res_status res ≡ s
    → told_of (served (going_at m p) res) p.page.bytes ≡ told_as (going_at m r) r.page.bytes s.number
serves_said m res p r text s says spelled is =
    ap (λ g. told_as g (p.page.bytes ++ served_bytes res) (copy_res_status res).number) (going_said m p r text says)
    ∙ ap (λ (bytes : List ℕ). told_as (going_at m r) (p.page.bytes ++ bytes) (copy_res_status res).number) spelled
    ∙ ap (λ (bytes : List ℕ). told_as (going_at m r) bytes (copy_res_status res).number) (sym says.page.is)
    ∙ ap (λ (t : Status). told_as (going_at m r) r.page.bytes t.number) is

-- what is left of the room after a result of few bytes
pub keeps_said : (p r : Progress) (text : List ℕ) → Says p text r → length r.page.bytes ≤ length p.page.bytes + MOST_RESULT → Keeps p r
keeps_said p r text says len = record {
  page = omega (arith, ap (λ (b : Bool). set_aside b) says.has_read, len);
  room = says.page.room;
  used = omega (arith, ap (λ (us : List Used). length us) says.used);
  grows = λ choice agrees. subst (λ (us : List Used). Agrees choice us) says.used agrees;
}

-- ---- results that are a status alone

pub notify_refused_spelled : (s : Status) → served_bytes (results.CopyNotify (Refused s)) ≡ word_bytes OP_COPY_NOTIFY ++ word_bytes s.number
unfolding copy_res answer word_bytes
notify_refused_spelled s = refl

pub notify_done_spelled : (grant : NotifyGrant) → served_bytes (results.CopyNotify (Done grant)) ≡ word_bytes OP_COPY_NOTIFY ++ (word_bytes 0 ++ notify_grant.spell grant)
unfolding copy_res answer word_bytes
notify_done_spelled grant = refl

pub cancel_spelled : (s : Status) → served_bytes (results.OffloadCancel s) ≡ word_bytes OP_OFFLOAD_CANCEL ++ word_bytes s.number
unfolding copy_res status word_bytes
cancel_spelled s = refl

pub copy_refused_spelled : (s : Status) → served_bytes (results.Copy (copied.Refused s)) ≡ word_bytes OP_COPY ++ word_bytes s.number
unfolding copy_res copy_answer word_bytes
copy_refused_spelled s = refl

pub status_refused_spelled : (s : Status) → served_bytes (results.OffloadStatus (Refused s)) ≡ word_bytes OP_OFFLOAD_STATUS ++ word_bytes s.number
unfolding copy_res answer word_bytes
status_refused_spelled s = refl

pub clone_spelled : (s : Status) → served_bytes (results.Clone s) ≡ word_bytes OP_CLONE ++ word_bytes s.number
unfolding copy_res status word_bytes
clone_spelled s = refl
