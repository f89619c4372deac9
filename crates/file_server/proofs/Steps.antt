-- An operation in code: what it said behind the results, and what it leaves.
use Rattle.std.proofs.Common.{◌≡◌, ℕ, ◌+◌, ◌≤◌, Bool, true, List, ◌++◌, length, sym, ap, subst, ◌∙◌, arith}
use Rattle.nfs_base.specs.declared.status.Status.{Status}
use Rattle.wire_xdr.specs.Page.{Written, Added}
use Rattle.wire_xdr.specs.Words.{word_bytes, flag_bytes, opaque_bytes}
use Rattle.nfs_base.specs.declared.answer.Answer.TheVariants.{Done}
use Rattle.nfs_base.specs.Forms.{answer}
use Rattle.file_ops.specs.declared.operation.TheConstants.{OP_READ}
use Rattle.file_ops.specs.declared.results.FileRes.TheVariants as results
use Rattle.file_ops.specs.Files.{read_done}
use Rattle.file_ops.specs.declared.results.FileRes.{FileRes}
use Rattle.file_ops.specs.Results.{file_res, file_res_status}
use Rattle.server_volume.specs.declared.used.Used.{Used}
use Rattle.server_volume.specs.Choices.{Choice, Agrees, Grows}
use Rattle.server_volume.specs.MomentLaws.{counted_none}
use Rattle.server_volume.specs.Moments.{Counted}
use Rattle.server_volume.specs.Store.{Seat}
use Rattle.file_server.specs.declared.held.Held.{Held}
use Rattle.file_server.specs.declared.progress.TheConstants.{MOST_RESULT}
use Rattle.file_server.specs.declared.progress.Progress.{Progress}
use Rattle.file_server.specs.Machine.{Machine, Going, Shown, shown, res_bytes}
use Rattle.file_server.specs.Answering.{answered, Says, Keeps, CommitKeeps, set_aside}

-- no call was made
pub ran_still : {told : Type 0} (seat : Seat) (used more : List Used) → more ≡ used → Counted told seat seat used more
ran_still {told} seat used more same = subst (λ (us : List Used). Counted told seat seat used us) (sym same) (counted_none told seat used)

-- calls were made, and then none
pub ran_more : {told : Type 0} (old new : Seat) (used some more : List Used) → more ≡ some → Counted told old new used some → Counted told old new used more
ran_more {told} old new used some more same ran = subst (λ (us : List Used). Counted told old new used us) (sym same) ran

-- what agrees with the calls of one progress agrees with the same of another
pub agrees_as : (choice : Choice) (used more : List Used) → more ≡ used → Agrees choice more → Agrees choice used
agrees_as choice used more same agrees = subst (λ (us : List Used). Agrees choice us) same agrees

-- how far a compound is, by the machine and the code's progress
abbrev pub going_at : {X : Type 0} → Machine X → Progress → Going X
going_at m p = record { machine = m; held = p.held; used = p.used; has_read = p.has_read }

abbrev pub going_of_parts : {X : Type 0} → Machine X → Held → List Used → Bool → Going X
going_of_parts m held used has_read = record { machine = m; held = held; used = used; has_read = has_read }

abbrev pub shown_as : {X : Type 0} → Going X → List ℕ → ℕ → Shown X
shown_as g bytes status = record { going = g; bytes = bytes; status = status }

going_said : {X : Type 0} (m : Machine X) (q r : Progress) (text : List ℕ) → Says q text r → going_at m q ≡ going_at m r
going_said m q r text says =
    ap (λ (h : Held). going_of_parts m h q.used q.has_read) (sym says.held)
    ∙ ap (λ (us : List Used). going_of_parts m r.held us q.has_read) (sym says.used)
    ∙ ap (λ (b : Bool). going_of_parts m r.held r.used b) (sym says.has_read)

-- an answer is its model's where what was said is the result's spelling
pub does_said : {X : Type 0} (m : Machine X) (res : FileRes) (q r : Progress) (text : List ℕ) (status : Status) → Says q text r
    → res_bytes res ≡ text → file_res_status res ≡ status
    → shown (answered (going_at m q) res) q.page.bytes ≡ shown_as (going_at m r) r.page.bytes status.number
does_said m res q r text status says spelled is =
    ap (λ g. shown_as g (q.page.bytes ++ res_bytes res) (file_res_status res).number) (going_said m q r text says)
    ∙ ap (λ (bytes : List ℕ). shown_as (going_at m r) (q.page.bytes ++ bytes) (file_res_status res).number) spelled
    ∙ ap (λ (bytes : List ℕ). shown_as (going_at m r) bytes (file_res_status res).number) (sym says.page.is)
    ∙ ap (λ (s : Status). shown_as (going_at m r) r.page.bytes s.number) is

-- what is left of the room, where a result of few bytes was said after at most two calls
pub keeps_said : (p q r : Progress) (text : List ℕ) → Says q text r → q.page ≡ p.page → q.has_read ≡ p.has_read
    → Grows p.used q.used → length q.used ≤ length p.used + 2
    → length r.page.bytes ≤ length q.page.bytes + MOST_RESULT → Keeps p r
keeps_said p q r text says page read grows used len =
    let same_read : r.has_read ≡ p.has_read = says.has_read ∙ read in
    record {
      page =
          let aside = ap (λ (b : Bool). set_aside b) same_read in
          let before = ap (λ (w : Written). length w.bytes) page in
          omega (arith, aside, before, len);
      room = says.page.room ∙ ap (λ (w : Written). w.room) page;
      used = omega (arith, ap (λ (us : List Used). length us) says.used, used);
      grows = λ choice agrees. grows choice (agrees_as choice q.used r.used says.used agrees);
    }

-- the same of an operation that made one call at most
pub commit_keeps_said : (p q r : Progress) (text : List ℕ) → Says q text r → q.page ≡ p.page → q.has_read ≡ p.has_read
    → Grows p.used q.used → length q.used ≤ length p.used + 1
    → length r.page.bytes ≤ length q.page.bytes + MOST_RESULT → CommitKeeps p r
commit_keeps_said p q r text says page read grows used len = record {
  page = omega (arith, ap (λ (w : Written). length w.bytes) page, len);
  room = says.page.room ∙ ap (λ (w : Written). w.room) page;
  used = omega (arith, ap (λ (us : List Used). length us) says.used, used);
  grows = λ choice agrees. grows choice (agrees_as choice q.used r.used says.used agrees);
  has_read = says.has_read ∙ read;
}

-- a call, and then what made one more at most
pub keeps_after : (p q r : Progress) → CommitKeeps q r → q.page ≡ p.page → q.has_read ≡ p.has_read
    → Grows p.used q.used → length q.used ≤ length p.used + 1 → Keeps p r
keeps_after p q r keeps page read grows used =
    let same_read : r.has_read ≡ p.has_read = keeps.has_read ∙ read in
    record {
      page = omega (arith, ap (λ (b : Bool). set_aside b) same_read, ap (λ (w : Written). length w.bytes) page, keeps.page);
      room = keeps.room ∙ ap (λ (w : Written). w.room) page;
      used = omega (arith, keeps.used, used);
      grows = λ choice agrees. grows choice (keeps.grows choice agrees);
    }

-- a READ's data were said
pub read_said : {X : Type 0} (m : Machine X) (held : Held) (used : List Used) (old new : Written) (eof told_eof : Bool) (bytes told_bytes : List ℕ)
    → Added old (word_bytes OP_READ ++ (word_bytes 0 ++ (flag_bytes eof ++ opaque_bytes bytes))) new → told_eof ≡ eof → told_bytes ≡ bytes
    → shown (answered (going_of_parts m held used true) (results.Read (Done (record { eof = told_eof; bytes = told_bytes })))) old.bytes
    ≡ shown_as (going_of_parts m held used true) new.bytes 0
unfolding file_res answer read_done word_bytes
read_said m held used old new eof told_eof bytes told_bytes added same_eof same_bytes =
    let g = going_of_parts m held used true in
    ap (λ (b : Bool). shown (answered g (results.Read (Done (record { eof = b; bytes = told_bytes })))) old.bytes) same_eof
    ∙ ap (λ (bs : List ℕ). shown (answered g (results.Read (Done (record { eof = eof; bytes = bs })))) old.bytes) same_bytes
    ∙ ap (λ (bs : List ℕ). shown_as g bs 0) (sym added.is)
