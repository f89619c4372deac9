-- Calls keep a volume's files.
use Rattle.std.proofs.Common.{◌≡◌, ℕ, ◌+◌, List, [], ◌∷◌, length, refl, ◌∙◌, subst, sym}
use Rattle.std.proofs.lemmas.List.{length-set}
use Rattle.copy_model.specs.Volume.{change_of, committed, file_at, written}
use Rattle.server_volume.specs.Calls as calls
use Rattle.server_volume.specs.Calls.{Asked, done_by, left_by}
use Rattle.server_volume.specs.Moments.{Made, Ran, after_calls}
use Rattle.server_volume.specs.Store.{Seat, Store}
use Rattle.server_volume.specs.declared.used.CallAnswer.{CallAnswer}
use Rattle.server_volume.specs.declared.used.CallAnswer.TheVariants.{Done, DiskFailed, Refused}
use Rattle.server_volume.specs.declared.used.Used.{Used}
use Rattle.volume_laws.specs.Keeping.{KeepsFiles}

keeps_by : (old new : Store) → length new.volume.files ≡ length old.volume.files → new.volume.capacity ≡ old.volume.capacity
    → new.volume.boot ≡ old.volume.boot → new.tag ≡ old.tag → new.size ≡ old.size → KeepsFiles old new
keeps_by old new files capacity boot tag size =
    record { opening = record { files = files; capacity = capacity; boot = boot }; tag = tag; size = size }

keeps_same : (s : Store) → KeepsFiles s s
keeps_same s = keeps_by s s refl refl refl refl refl

keeps_on : (a b c : Store) → KeepsFiles a b → KeepsFiles b c → KeepsFiles a c
keeps_on a b c first second =
    keeps_by a c (second.opening.files ∙ first.opening.files) (second.opening.capacity ∙ first.opening.capacity)
    (second.opening.boot ∙ first.opening.boot) (second.tag ∙ first.tag) (second.size ∙ first.size)

writes_keep : (file off : ℕ) (bytes : List ℕ) (s : Store) → KeepsFiles s (done_by (calls.Writes file off bytes) s)
writes_keep file off [] s = keeps_by s s refl refl refl refl refl
writes_keep file off (b ∷ bs) s =
    let v = s.volume in
    keeps_by s (done_by (calls.Writes file off (b ∷ bs)) s)
    (length-set v.files file (written (file_at v file) off (b ∷ bs) (change_of v.boot (v.writes + 1)))) refl refl refl refl

commits_keep : (file : ℕ) (s : Store) → KeepsFiles s (done_by (calls.Commits file) s)
commits_keep file s =
    keeps_by s (done_by (calls.Commits file) s) (length-set s.volume.files file (committed (file_at s.volume file))) refl refl refl refl

left_keeps : (asked : Asked) (answer : CallAnswer) (s : Store) → KeepsFiles s (left_by asked answer s)
left_keeps asked Refused s = keeps_same s
left_keeps (calls.Reads file off len) Done s = keeps_same s
left_keeps (calls.Reads file off len) DiskFailed s = keeps_same s
left_keeps (calls.Writes file off bytes) Done s = writes_keep file off bytes s
left_keeps (calls.Writes file off bytes) DiskFailed s = keeps_by s (left_by (calls.Writes file off bytes) DiskFailed s) refl refl refl refl refl
left_keeps (calls.Commits file) Done s = commits_keep file s
left_keeps (calls.Commits file) DiskFailed s = keeps_by s (left_by (calls.Commits file) DiskFailed s) refl refl refl refl refl

after_keeps : (ms : List Made) (s : Store) → KeepsFiles s (after_calls s ms)
after_keeps [] s = keeps_same s
after_keeps (m ∷ ms) s =
    let left = left_by m.asked m.answer s in
    keeps_on s left (after_calls left ms) (left_keeps m.asked m.answer s) (after_keeps ms left)

pub ran_keeps : (old new : Seat) (used more : List Used) → Ran old new used more → KeepsFiles old.store new.store
ran_keeps old new used more ran = subst (λ (s : Store). KeepsFiles old.store s) (sym ran.store) (after_keeps ran.calls old.store)
