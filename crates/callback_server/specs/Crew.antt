-- The workers' links: how they were dialed, and how they were hung up. Own definitions.
use Rattle.std.specs.Prelude.{◌≡◌, ℕ, ◌+◌, ◌<◌, Bool, List, [], ◌∷◌, ◌++◌, length, map, Option, Some, None}
use Rattle.copy_workers.specs.Workers.{rows, AllWorkers}
use Rattle.copy_workers.specs.declared.report.WorkerEnd.{WorkerEnd}
use Rattle.rpc_msg.specs.Watching.{Watch}
use Rattle.net_links.specs.Links.{Standing, IsTold}
use Rattle.outcome.specs.Causes.{Rose}
use Rattle.link_server.specs.Answering.{Caller}
use Rattle.link_server.specs.Keeping.{Books}
use Rattle.link_server.specs.declared.tally.Tally.{Tally}
use Rattle.callback_server.specs.declared.dialing.DialFault.{DialFault}
use Rattle.callback_server.specs.declared.dialing.DialFault.TheVariants as faults
use Rattle.callback_server.specs.Keeping.{Serves}

-- the links of workers, as they stand
abbrev pub standing_of : List (Watch Standing) → List Standing
standing_of crew = map (λ watch. watch.link) crew

abbrev pub AllTold : List Standing → Type 0
AllTold [] = Unit {0}
AllTold (link ∷ links) = IsTold link × AllTold links

-- These links were hung up, in their order, and nothing else was done with the net.
pub record HangsAll (links : List Standing) (before now : Books) : Type 0 where
  pub hung : now.hung ≡ before.hung ++ links
  pub told : AllTold links
  pub up : before.up ≡ now.up + length links
  pub accepted : now.accepted ≡ before.accepted

-- Links were dialed: so many more are up.
abbrev pub Dials : (count : ℕ) → (before now : Books) → Type 0
Dials count before now = now ≡ record before { up = before.up + count }

-- A dial fails only where the net's count of faults rose. Want of memory has no cause.
abbrev pub DialedFor : (before now : ℕ) → DialFault → Type 0
DialedFor before now faults.Failed = Rose before now
DialedFor before now faults.NoMemory = Unit {0}

-- As many were dialed as were asked for, or fewer, for that cause.
abbrev pub DialsFor : (count workers before now : ℕ) → Option DialFault → Type 0
DialsFor count workers before now None = count ≡ workers
DialsFor count workers before now (Some fault) = (count < workers) × DialedFor before now fault

-- ---- at the end

-- Connections were served and hung up, while the workers' links were up; these were hung up then.
pub record ServesThen (answers : Caller → List ℕ → List ℕ → Caller → Type 0) (before now : Books) (links : List Standing)
    (tally : Tally) : Type 0 where
  pub earlier : List Standing
  pub serves : Serves answers before (record now { hung = earlier }) tally
  pub hung : now.hung ≡ earlier ++ links
  pub told : AllTold links

-- What is reported of workers: how many bytes each landed, how many turns it had, how many bytes it was given to send, and why it ended;
-- and whether the host was closed for them.
pub record CrewReport : Type 0 where
  pub shares : List ℕ
  pub turned : List ℕ
  pub given : List ℕ
  pub ends : List WorkerEnd
  pub shut : Bool

-- So many workers worked, each at a link of its own, with so many turns at most, until each ended for a cause.
pub record WorkedIs {L : Type 0} (workers turns : ℕ) (links : List (Watch L)) (report : CrewReport) : Type 0 where
  pub count : length links ≡ workers
  pub worked : AllWorkers turns report.shut links (rows report.shares report.turned report.given report.ends)

-- Connections were served beside workers. These are the workers' links, as they stood in the end.
pub record ServesBeside (told : Type 0) (answers : Caller → List ℕ → List ℕ → Caller → Type 0) (before now : Books)
    (workers turns : ℕ) (report : CrewReport) (tally : Tally) : Type 0 where
  pub crew : List (Watch Standing)
  pub worked : WorkedIs workers turns crew report
  pub served : told → ServesThen answers before now (standing_of crew) tally

-- No connection was accepted. Of the workers' links some were dialed and hung up again.
pub record ServesNone (told : Type 0) (before now : Books) (workers : ℕ) : Type 0 where
  pub links : List Standing
  pub few : length links < workers
  pub hung : told → HangsAll links (record before { up = before.up + length links }) now
