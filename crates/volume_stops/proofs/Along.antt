-- What the stores within and behind the calls of a step have of the one before: the number of the opening, the number of files, the
-- tag, and the size of the disk.
use Rattle.std.proofs.Common.{◌≡◌, ℕ, ◌+◌, List, [], ◌∷◌, length, refl, inl, inr, ◌∙◌}
use Rattle.std.proofs.lemmas.List.{length-set}
use Rattle.copy_model.specs.Volume as volumes
use Rattle.copy_model.specs.Volume.{Volume, write}
use Rattle.disk_model.specs.Disk.{Image}
use Rattle.server_volume.specs.Calls.{Asked, Reads, Writes, Commits, left_by}
use Rattle.server_volume.specs.Moments.{LeftBy, LeftOf, Made, stores_within, within}
use Rattle.server_volume.specs.Store.{Store}
use Rattle.server_volume.specs.declared.used.CallAnswer.{CallAnswer}
use Rattle.server_volume.specs.declared.used.CallAnswer.TheVariants.{Done, DiskFailed, Refused}
use Rattle.volume_stops.specs.Stops.{IsLeftBy, IsLeftOf}

pub record Keeps (s t : Store) : Type 0 where
  pub boot : t.volume.boot ≡ s.volume.boot
  pub files : length t.volume.files ≡ length s.volume.files
  pub tag_is : t.tag ≡ s.tag
  pub size_is : t.size ≡ s.size

pub keeps_none : (s : Store) → Keeps s s
keeps_none s = record { boot = refl; files = refl; tag_is = refl; size_is = refl }

keeps_on : (s t u : Store) → Keeps s t → Keeps t u → Keeps s u
keeps_on s t u first second = record {
  boot = second.boot ∙ first.boot;
  files = second.files ∙ first.files;
  tag_is = second.tag_is ∙ first.tag_is;
  size_is = second.size_is ∙ first.size_is;
}

written_boot : (v : Volume) (file off : ℕ) (bytes : List ℕ) → (write v file off bytes).boot ≡ v.boot
written_boot v file off [] = refl
written_boot v file off (b ∷ bs) = refl

written_files : (v : Volume) (file off : ℕ) (bytes : List ℕ) → length (write v file off bytes).files ≡ length v.files
written_files v file off [] = refl
written_files v file off (b ∷ bs) =
    length-set v.files file (volumes.written (volumes.file_at v file) off (b ∷ bs) (volumes.change_of v.boot (v.writes + 1)))

left_keeps : (asked : Asked) (answer : CallAnswer) (s : Store) → Keeps s (left_by asked answer s)
left_keeps (Reads file off len) Done s = keeps_none s
left_keeps (Reads file off len) DiskFailed s = keeps_none s
left_keeps (Reads file off len) Refused s = keeps_none s
left_keeps (Writes file off bytes) Done s = record {
  boot = written_boot s.volume file off bytes;
  files = written_files s.volume file off bytes;
  tag_is = refl;
  size_is = refl;
}
left_keeps (Writes file off bytes) DiskFailed s = record { boot = refl; files = refl; tag_is = refl; size_is = refl }
left_keeps (Writes file off bytes) Refused s = keeps_none s
left_keeps (Commits file) Done s = record {
  boot = refl;
  files = length-set s.volume.files file (volumes.committed (volumes.file_at s.volume file));
  tag_is = refl;
  size_is = refl;
}
left_keeps (Commits file) DiskFailed s = record { boot = refl; files = refl; tag_is = refl; size_is = refl }
left_keeps (Commits file) Refused s = keeps_none s

within_keeps : (asked : Asked) (answer : CallAnswer) (s : Store) → Keeps s (within asked answer s)
within_keeps (Reads file off len) answer s = keeps_none s
within_keeps (Writes file off bytes) answer s = keeps_none s
within_keeps (Commits file) Done s = record { boot = refl; files = refl; tag_is = refl; size_is = refl }
within_keeps (Commits file) DiskFailed s = record { boot = refl; files = refl; tag_is = refl; size_is = refl }
within_keeps (Commits file) Refused s = keeps_none s

-- What holds of an image that any such store leaves holds of one that is left by those within the calls.
within_each : (P : Type 0) (base s : Store) (ms : List Made) (image : Image) → Keeps base s
    → ((t : Store) → Keeps base t → LeftOf t image → P) → LeftBy (stores_within s ms) image → P
within_each P base s [] image keeps gives left = absurd left
within_each P base s (m ∷ ms) image keeps gives (inl here) =
    let inside = within m.asked m.answer s in
    gives inside (keeps_on base s inside keeps (within_keeps m.asked m.answer s)) here
within_each P base s (m ∷ ms) image keeps gives (inr later) =
    let next = left_by m.asked m.answer s in
    within_each P base next ms image (keeps_on base s next keeps (left_keeps m.asked m.answer s)) gives later

pub each : (P : Type 0) (s : Store) (ms : List Made) (image : Image) → ((t : Store) → Keeps s t → LeftOf t image → P)
    → LeftBy (s ∷ stores_within s ms) image → P
each P s ms image gives (inl here) = gives s (keeps_none s) here
each P s ms image gives (inr inside) = within_each P s s ms image (keeps_none s) gives inside

-- and so of a store that was opened
within_opened : (P : Type 0) (base s : Store) (ms : List Made) (t : Store) → Keeps base s
    → ((u : Store) → Keeps base u → IsLeftOf u t → P) → IsLeftBy (stores_within s ms) t → P
within_opened P base s [] t keeps gives left = absurd left
within_opened P base s (m ∷ ms) t keeps gives (inl here) =
    let inside = within m.asked m.answer s in
    gives inside (keeps_on base s inside keeps (within_keeps m.asked m.answer s)) here
within_opened P base s (m ∷ ms) t keeps gives (inr later) =
    let next = left_by m.asked m.answer s in
    within_opened P base next ms t (keeps_on base s next keeps (left_keeps m.asked m.answer s)) gives later

pub opened : (P : Type 0) (s : Store) (ms : List Made) (t : Store) → ((u : Store) → Keeps s u → IsLeftOf u t → P)
    → IsLeftBy (s ∷ stores_within s ms) t → P
opened P s ms t gives (inl here) = gives s (keeps_none s) here
opened P s ms t gives (inr inside) = within_opened P s s ms t (keeps_none s) gives inside
