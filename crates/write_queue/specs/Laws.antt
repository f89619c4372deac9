-- A queue over its life: works come, the first is carried out, or the setup goes down; and what is told of them.
use Rattle.std.specs.Prelude.{ℕ, ◌++◌, List, [], ◌∷◌, option_to_list}
use Rattle.nfs_base.specs.declared.status.Status.{Status}
use Rattle.write_queue.specs.declared.work.Line.{Line}
use Rattle.write_queue.specs.declared.work.Line.TheVariants as lines
use Rattle.write_queue.specs.declared.work.QueueEvent.{QueueEvent}
use Rattle.write_queue.specs.declared.work.Work.{Work}
use Rattle.write_queue.specs.Queue.{Queued, emptied, queued, refusals}
use Rattle.write_queue.specs.Steps.{after}

pub data Turn : Type 0 where
  Comes : (work : Work) → Turn
  Happens : (event : QueueEvent) → Turn
  Falls : (status : Status) → Turn

abbrev pub turned : Turn → Queued → List Line × Queued
turned (Comes work) q = ([], queued work q)
turned (Happens event) q = (option_to_list (after event q).0, (after event q).1)
turned (Falls status) q = (refusals status q, emptied q)

abbrev pub ran : List Turn → Queued → Queued
ran [] q = q
ran (turn ∷ turns) q = ran turns (turned turn q).1

abbrev pub told : List Turn → Queued → List Line
told [] q = []
told (turn ∷ turns) q = (turned turn q).0 ++ told turns (turned turn q).1

-- the works that come, in their order
abbrev pub come_in : Turn → List Work
come_in (Comes work) = work ∷ []
come_in (Happens event) = []
come_in (Falls status) = []

abbrev pub come : List Turn → List Work
come [] = []
come (turn ∷ turns) = come_in turn ++ come turns

-- of which file a line speaks
abbrev pub line_file : Line → ℕ
line_file (lines.Written file count) = file
line_file (lines.Committed file same) = file
line_file (lines.Refused file status) = file
