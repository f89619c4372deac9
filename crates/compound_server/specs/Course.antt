-- A compound in a session, as plain data: how far its operations are at the files, and the clients' tables. RFC 8881
-- section 16.2.
use Rattle.std.specs.Prelude.{◌≡◌, ℕ, List, ◌++◌, Option}
use Rattle.copy_ops.specs.declared.arg.CopyArg.{CopyArg}
use Rattle.file_server.specs.declared.extension.Ask.{Ask}
use Rattle.file_server.specs.declared.extension.Caller.{Caller}
use Rattle.file_server.specs.declared.extension.Gate.{Gate}
use Rattle.file_server.specs.Answering.{going_of}
use Rattle.file_server.specs.Machine.{Going, Answered}
use Rattle.nfs_compound.specs.declared.res.Res.{Res}
use Rattle.nfs_compound.specs.declared.res.Res.TheVariants.{Copy, File}
use Rattle.nfs_compound.specs.Results.{outcome, res_status}
use Rattle.server_volume.specs.Choices.{Choice, Agrees}
use Rattle.sess_slots.specs.Table.{SessionTable}
use Rattle.file_server.specs.declared.progress.Progress.{Progress}
use Rattle.compound_server.specs.declared.server.Server.{Server}
use Rattle.compound_server.specs.Serves.{Served}

-- how far the operations are at the files, and the clients with their sessions
pub record Course (X : Type 0) : Type 0 where
  pub going : Going X
  pub sessions : SessionTable

-- an operation that was answered
pub record Performed (X : Type 0) : Type 0 where
  pub course : Course X
  pub res : Res

-- What a particular server adds, by who calls and what the call's context carries: whether it lets an operation go
-- on, and how it answers its own operations at a choice of what the disk does.
pub record Service (X C : Type 0) : Type 1 where
  pub gate : X → Caller → Option C → Ask → X × Gate
  pub serve : Choice → Caller → Option C → CopyArg → Going X → Served X

abbrev pub of_file : {X : Type 0} → SessionTable → Answered X → Performed X
of_file sessions a = record { course = record { going = a.going; sessions = sessions }; res = File a.res }

abbrev pub of_copy : {X : Type 0} → SessionTable → Served X → Performed X
of_copy sessions s = record { course = record { going = s.going; sessions = sessions }; res = Copy s.res }

-- ---- an operation in code is its model's

abbrev pub course_of : {D X : Type 0} → (D → ℕ) → Server D X → Progress → Course X
course_of size server p = record { going = going_of size server.files p; sessions = server.sessions }

-- what the code shows of an answer: how far the compound is then, the results behind those before, and the status
pub record Seen (X : Type 0) : Type 0 where
  pub course : Course X
  pub bytes : List ℕ
  pub status : ℕ

abbrev pub seen : {X : Type 0} → Performed X → List ℕ → Seen X
seen a before = record { course = a.course; bytes = before ++ outcome.spell a.res; status = (res_status a.res).number }

-- At each choice that agrees with the calls that were made, the model's answer is this one.
abbrev pub Performs : {X : Type 0} → (Choice → Performed X) → List ℕ → Course X → List ℕ → ℕ → Type 0
Performs told before new after status =
    (choice : Choice) → Agrees choice new.going.used → seen (told choice) before ≡ record { course = new; bytes = after; status = status }
