-- The commands of a client, each one step.
use Rattle.std.specs.Prelude.{ℕ, ◌≡◌, nat_lt, Bool, true, false, List, Some}
use Rattle.client_copies.specs.Table.{with_begun}
use Rattle.client_copies.specs.declared.copy.Query.{Query}
use Rattle.client_copies.specs.declared.table.TheConstants.{MOST_COPIES}
use Rattle.gss_ctx.specs.Seals.{Mic}
use Rattle.nfs_base.specs.declared.copy_spec.CopySpec.{CopySpec}
use Rattle.nfs_base.specs.declared.side.Side.{Side}
use Rattle.outbox.specs.declared.note.Note.TheVariants as notes
use Rattle.outbox.specs.declared.outgoing.Outbox.{Outbox}
use Rattle.streams.specs.declared.draws.Drawn.{Drawn}
use Rattle.streams.specs.declared.draws.Drawn.TheVariants.{Got, Failed}
use Rattle.write_queue.specs.Queue.{queued}
use Rattle.write_queue.specs.declared.work.Work.{Work}
use Rattle.client_steps.specs.Acting.{Acting, on_desk, queue_at, with_queue}
use Rattle.client_steps.specs.Commands.{asked, retried, ticked}
use Rattle.client_steps.specs.CopySteps.{all_copies}
use Rattle.client_steps.specs.Desks.{in_note, noted}
use Rattle.client_steps.specs.declared.desk.Desk.{Desk}
use Rattle.client_core.specs.Endings.{IsStep, Ways, acting_at, ended_by, undrawn}
use Rattle.client_core.specs.State.{ClientState}

-- ---- a copy is begun with a drawn secret, and goes out where it can

abbrev pub begun_with : ℕ → CopySpec → List ℕ → Desk → Desk
begun_with j spec secret d = record d { copies = with_begun j spec secret d.copies }

abbrev pub IsBegunBy : {M W : Type 0} → Drawn → Ways → (W → Drawn → W → Type 0) → ℕ → CopySpec → ℕ → ClientState M → W → W → ClientState M × Outbox → Type 0
IsBegunBy (Got secret) ways gives j spec now c middle after end =
    IsStep ways gives (on_desk (begun_with j spec secret) (acting_at now c)) (λ a. c.back) c middle after end
IsBegunBy Failed ways gives j spec now c middle after end = (end ≡ undrawn c) × (after ≡ middle)

pub record IsBegun {M W : Type 0} (ways : Ways) (gives : W → Drawn → W → Type 0) (j : ℕ) (spec : CopySpec) (now : ℕ)
    (c : ClientState M) (before after : W) (end : ClientState M × Outbox) : Type 0 where
  pub drawn : Drawn
  pub middle : W
  pub gave : gives before drawn middle
  pub is : IsBegunBy drawn ways gives j spec now c middle after end

-- ---- a write or a commit is queued, and goes out where it can

abbrev pub with_work : Side → Work → Acting → Acting
with_work side work a = with_queue side (queued work (queue_at side a)) a

abbrev pub IsWork : {M W : Type 0} → Ways → (W → Drawn → W → Type 0) → Side → Work → ℕ → ClientState M → W → W → ClientState M × Outbox → Type 0
IsWork ways gives side work now c before after end =
    IsStep ways gives (with_work side work (acting_at now c)) (λ a. c.back) c before after end

-- ---- commands that draw nothing: cancel and status, a second, and all that is awaited once more

-- a number that no copy can have is idle
abbrev pub asked_if : Bool → Mic → ℕ → Query → Desk → Desk
asked_if true mic j query d = asked mic j query d
asked_if false mic j query d = noted (notes.Idle (in_note j)) d

abbrev pub query_step : {M : Type 0} → Mic → ℕ → Query → ℕ → ClientState M → ClientState M × Outbox
query_step mic j query now c = ended_by (Some (on_desk (asked_if (nat_lt j MOST_COPIES) mic j query) (acting_at now c))) (λ a. c.back) c

abbrev pub tick_step : {M : Type 0} → Mic → ℕ → ClientState M → ClientState M × Outbox
tick_step mic now c = ended_by (Some (on_desk (ticked mic all_copies) (acting_at now c))) (λ a. c.back) c

abbrev pub retry_step : {M : Type 0} → Mic → ℕ → ClientState M → ClientState M × Outbox
retry_step mic now c = ended_by (Some (retried mic (acting_at now c))) (λ a. c.back) c
