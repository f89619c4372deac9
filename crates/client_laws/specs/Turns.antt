-- What a client is told to do, one step a turn, and a run of turns.
use Rattle.std.specs.Prelude.{ℕ, ◌≡◌, ◌≤◌, ◌<◌, ◌==◌, ◌++◌, Bool, false, List, [], ◌∷◌, None}
use Rattle.client_copies.specs.declared.copy.Query.{Query}
use Rattle.client_copies.specs.declared.table.TheConstants.{MOST_COPIES}
use Rattle.nfs_base.specs.declared.copy_spec.CopySpec.{CopySpec}
use Rattle.nfs_base.specs.declared.side.Side.{Side}
use Rattle.outbox.specs.declared.note.Note.{Note}
use Rattle.outbox.specs.declared.outgoing.Outbox.{Outbox}
use Rattle.streams.specs.declared.draws.Drawn.{Drawn}
use Rattle.write_queue.specs.declared.work.Work.{Work}
use Rattle.client_core.specs.Commands.{IsBegun, IsWork, query_step, retry_step, tick_step}
use Rattle.client_core.specs.Endings.{Ways}
use Rattle.client_core.specs.Records.{IsRecord}
use Rattle.client_core.specs.State.{ClientState}
use Rattle.client_core.specs.Telling.{copy_of}

-- a copy is begun; the destination is asked of one; a write or a commit is queued; a second comes; all that is awaited goes
-- out again; a record comes from a server
pub data Turn : Type 0 where
  Begins : (j : ℕ) (spec : CopySpec) (now : ℕ) → Turn
  Asks : (query : Query) (j now : ℕ) → Turn
  Works : (side : Side) (work : Work) (now : ℕ) → Turn
  Ticks : (now : ℕ) → Turn
  Retries : (now : ℕ) → Turn
  Hears : (side : Side) (message : List ℕ) (now : ℕ) → Turn

abbrev pub IsTurn : {M W : Type 0} → Ways → (W → Drawn → W → Type 0) → Turn → ClientState M → W → W → ClientState M × Outbox → Type 0
IsTurn ways gives (Begins j spec now) c before after end = IsBegun ways gives j spec now c before after end
IsTurn ways gives (Asks query j now) c before after end = (end ≡ query_step ways.means.mic j query now c) × (after ≡ before)
IsTurn ways gives (Works side work now) c before after end = IsWork ways gives side work now c before after end
IsTurn ways gives (Ticks now) c before after end = (end ≡ tick_step ways.means.mic now c) × (after ≡ before)
IsTurn ways gives (Retries now) c before after end = (end ≡ retry_step ways.means.mic now c) × (after ≡ before)
IsTurn ways gives (Hears side message now) c before after end = IsRecord ways gives side message now c before after end

-- a copy is begun once, and its number is that of a slot; numbers that are asked of are bytes
abbrev pub MayTurn : {M : Type 0} → Turn → ClientState M → Type 0
MayTurn (Begins j spec now) c = (1 ≤ j) × (j < MOST_COPIES) × (copy_of j c ≡ None)
MayTurn (Asks query j now) c = j < 256
MayTurn _ c = Unit {0}

-- the copy is begun in this turn
abbrev pub begins : ℕ → Turn → Bool
begins j (Begins i spec now) = i == j
begins j _ = false

-- A run of turns, and all that was told in it. Each turn draws from draws of its own: others may draw between two turns.
abbrev pub IsRun : {M W : Type 0} → Ways → (W → Drawn → W → Type 0) → List Turn → ClientState M → ClientState M → List Note → Type 0
IsRun ways gives [] c d told = (d ≡ c) × (told ≡ [])
IsRun {M} {W} ways gives (turn ∷ turns) c d told =
    (e : ClientState M) × (out : Outbox) × (before : W) × (after : W) × (more : List Note)
    × MayTurn turn c × IsTurn ways gives turn c before after (e, out)
    × (told ≡ out.notes ++ more) × IsRun ways gives turns e d more
