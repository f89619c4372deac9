-- How a step of a client begins and ends.
use Rattle.std.specs.Prelude.{ℕ, ◌≡◌, ◌+◌, false, List, [], Option, Some, None}
use Rattle.streams.specs.declared.draws.Drawn.{Drawn}
use Rattle.gss_ctx.specs.Table.{ContextTable}
use Rattle.gss_mech.specs.declared.mechanism.Accepted.{Accepted}
use Rattle.mount.specs.Taking.{Means}
use Rattle.outbox.specs.Outboxes.{no_outbox, undrawn_outbox}
use Rattle.outbox.specs.declared.outgoing.Outbox.{Outbox}
use Rattle.client_steps.specs.Acting.{Acting, GoesOn}
use Rattle.client_steps.specs.declared.desk.Desk.{Desk}
use Rattle.client_steps.specs.declared.setting.Setting.{Setting}
use Rattle.client_core.specs.Backs.{backs_ended}
use Rattle.client_core.specs.State.{ClientState, second_at}

-- What the client's mechanism does: its codes and keys, the tokens that it starts for the client's principal, and what it
-- makes of others'.
pub record Ways : Type 0 where
  pub means : Means
  pub started : List ℕ → Option (List ℕ)
  pub accepted : List ℕ → List ℕ → Option Accepted

abbrev pub ways_of : {M : Type 0} → (List ℕ → ℕ → List ℕ → List ℕ) → (List ℕ → ℕ → List ℕ → List ℕ) → (M → List ℕ → List ℕ → List ℕ → Option (List ℕ))
    → (M → List ℕ → List ℕ → Option (List ℕ)) → (M → List ℕ → List ℕ → Option Accepted) → Setting M → Ways
ways_of mic derived finished started accepted s = record {
  means = record { mic = mic; derived = derived; finished = finished s.mech s.me };
  started = started s.mech s.me;
  accepted = accepted s.mech;
}

-- ---- a step begins with what the client has, and an empty outbox

abbrev pub desk_at : {M : Type 0} → ℕ → ClientState M → Desk
desk_at now c = record {
  second = second_at now c;
  calls = c.calls;
  source = c.source;
  dest = c.dest;
  copies = c.copies;
  made = None;
  ended = [];
  out = no_outbox;
}

abbrev pub acting_at : {M : Type 0} → ℕ → ClientState M → Acting
acting_at now c = record { desk = desk_at now c; source_queue = c.source_queue; dest_queue = c.dest_queue }

-- ---- it ends: what was worked on comes in place, over these contexts, and the step is counted

abbrev pub stepped : {M : Type 0} → ClientState M → ClientState M
stepped c = record c { steps = c.steps + 1 }

abbrev pub settled : {M : Type 0} → Acting → ContextTable ℕ → ClientState M → ClientState M
settled a back c = record c {
  second = a.desk.second;
  calls = a.desk.calls;
  source = a.desk.source;
  dest = a.desk.dest;
  copies = a.desk.copies;
  source_queue = a.source_queue;
  dest_queue = a.dest_queue;
  back = backs_ended a.desk.ended back;
  steps = c.steps + 1;
}

-- where a draw failed, nothing is sent or told, and nothing changes but the count of steps
abbrev pub undrawn : {M : Type 0} → ClientState M → ClientState M × Outbox
undrawn c = (stepped c, undrawn_outbox)

-- what it gave; no draw failed
abbrev pub given : Acting → Outbox
given a = record a.desk.out { undrawn = false }

abbrev pub ended : {M : Type 0} → Acting → ContextTable ℕ → ClientState M → ClientState M × Outbox
ended a back c = (settled a back c, given a)

-- the client and the outbox, by what the step came to, the contexts as they are with it, and the client before
abbrev pub ended_by : {M : Type 0} → Option Acting → (Acting → ContextTable ℕ) → ClientState M → ClientState M × Outbox
ended_by None back c = undrawn c
ended_by (Some a) back c = ended a (back a) c

-- What was done goes on by what waits; that is the step.
pub record IsStep {M W : Type 0} (ways : Ways) (gives : W → Drawn → W → Type 0) (does : Acting) (back : Acting → ContextTable ℕ)
    (c : ClientState M) (before after : W) (end : ClientState M × Outbox) : Type 0 where
  pub to : Option Acting
  pub goes_on : GoesOn c.setting ways.means.mic ways.started gives does before after to
  pub is : end ≡ ended_by to back c
