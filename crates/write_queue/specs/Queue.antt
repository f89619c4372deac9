-- Writes and commits that wait for their answers, and the verifiers of those that were answered (RFC 8881 sections 18.3
-- and 18.32).
use Rattle.std.specs.Prelude.{ℕ, ◌==◌, ◌&&◌, ◌++◌, bytes_eq, not, Bool, true, if◌then◌else◌, List, [], ◌∷◌, filter, map, Option, Some, None}
use Rattle.std.specs.List.{list_all, list_any}
use Rattle.nfs_base.specs.declared.status.Status.{Status}
use Rattle.write_queue.specs.declared.queue.Head.{Head}
use Rattle.write_queue.specs.declared.queue.Head.TheVariants.{Due, Opening, Asked}
use Rattle.write_queue.specs.declared.seen.Seen.{Seen}
use Rattle.write_queue.specs.declared.work.Line.{Line}
use Rattle.write_queue.specs.declared.work.Line.TheVariants as lines
use Rattle.write_queue.specs.declared.work.Work.{Work}
use Rattle.write_queue.specs.declared.work.Work.TheVariants.{Write, Commit}

-- the works that aren't answered, in their order; how far the first of them is; what writes were answered
pub record Queued : Type 0 where
  pub works : List Work
  pub head : Head
  pub seen : List Seen

abbrev pub nothing_queued : Queued
nothing_queued = record { works = []; head = Due; seen = [] }

abbrev pub file_of : Work → ℕ
file_of (Write file offset bytes) = file
file_of (Commit file) = file

abbrev pub first : List Work → Option Work
first [] = None
first (work ∷ works) = Some work

-- what is due: the first work, where nothing of it is awaited
abbrev pub due_by : Head → Option Work → Option Work
due_by Due work = work
due_by Opening work = None
due_by Asked work = None

abbrev pub due : Queued → Option Work
due q = due_by q.head (first q.works)

abbrev pub queued : Work → Queued → Queued
queued work q = record q { works = q.works ++ work ∷ [] }

-- ---- verifiers

abbrev pub is_pair : ℕ → List ℕ → Seen → Bool
is_pair file verifier seen = (seen.file == file) && bytes_eq seen.verifier verifier

-- a write of a file was answered
abbrev pub noted : ℕ → List ℕ → List Seen → List Seen
noted file verifier seen =
    if list_any (is_pair file verifier) seen then seen else seen ++ (record { file = file; verifier = verifier }) ∷ []

-- a line of a commit was told
abbrev pub cleared : ℕ → List Seen → List Seen
cleared file seen = filter (λ one. not (one.file == file)) seen

abbrev pub agrees : ℕ → List ℕ → Seen → Bool
agrees file verifier seen = if seen.file == file then bytes_eq seen.verifier verifier else true

abbrev pub is_same : ℕ → List ℕ → List Seen → Bool
is_same file verifier seen = list_all (agrees file verifier) seen

-- ---- all are refused, where the setup goes down

abbrev pub refused : Status → Work → Line
refused status work = lines.Refused (file_of work) status

abbrev pub refusals : Status → Queued → List Line
refusals status q = map (refused status) q.works

abbrev pub emptied : Queued → Queued
emptied q = record q { works = []; head = Due }
