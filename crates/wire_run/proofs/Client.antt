-- What the client does in a step: it counts one, and begins no copy but by its command.
use Rattle.std.proofs.Common.{◌≡◌, ◌≢◌, ℕ, ◌+◌, false, List, Option, Some, None, refl, sym, ap, subst}
use Rattle.std.specs.Prelude.{IfOk, IfSome, Result, Ok, Err}
use Rattle.std.proofs.lemmas.Bool.{ne_eqb}
use Rattle.client_copies.specs.declared.copy.Query.TheVariants as queries
use Rattle.client_core.specs.Endings.{Ways}
use Rattle.client_core.specs.State.{ClientState}
use Rattle.client_core.specs.Telling.{copy_of}
use Rattle.client_core.specs.declared.client.TheConstants.{MOST_STEPS}
use Rattle.client_laws.specs.Turns.{Asks, Begins, Hears, IsTurn, Retries, Ticks, Turn, Works, begins}
use Rattle.outbox.specs.declared.outgoing.Outbox.{Outbox}
use Rattle.streams.specs.declared.draws.Drawn.{Drawn}
use Rattle.wire_machine.specs.Ends.{ClientAct}
use Rattle.wire_machine.specs.Ends as acts
use Rattle.run_ends.specs.Ends.{Words, client_does, machines, ways}
use Rattle.wire_machine.specs.Steps.{command_of}
use Rattle.run_ends.specs.Handling.{IsHandled, client_took}
use Rattle.wire_run.specs.Stage.{ClientActs, begun_by}
use Rattle.wire_schedule.specs.declared.event.Event.{Event}
use Rattle.wire_schedule.specs.declared.event.Event.TheVariants as kinds
use Rattle.write_queue.specs.declared.work.Work.TheVariants as works

-- the turn of an act
abbrev turn_of : ClientAct → ℕ → Turn
turn_of (acts.Writes side file off bytes) now = Works side (works.Write file off bytes) now
turn_of (acts.Commits side file) now = Works side (works.Commit file) now
turn_of (acts.Begins copy spec) now = Begins copy spec now
turn_of (acts.Asks copy) now = Asks queries.Status copy now
turn_of (acts.Cancels copy) now = Asks queries.Cancel copy now
turn_of acts.Retries now = Retries now
turn_of (acts.ClientTakes from bytes) now = Hears from bytes now
turn_of acts.ClientTicks now = Ticks now

module _ {M W : Type 0} (words : Words M W) where
  is_turn : (act : ClientAct) (now : ℕ) (c d : ClientState M) (v w : W) (out : Outbox) → client_does words act now c v d w out
      → IsTurn (ways words c) words.gives (turn_of act now) c v w (d, out)
  is_turn (acts.Writes side file off bytes) now c d v w out does = does
  is_turn (acts.Commits side file) now c d v w out does = does
  is_turn (acts.Begins copy spec) now c d v w out does = does
  is_turn (acts.Asks copy) now c d v w out does = does
  is_turn (acts.Cancels copy) now c d v w out does = does
  is_turn acts.Retries now c d v w out does = does
  is_turn (acts.ClientTakes from bytes) now c d v w out does = does
  is_turn acts.ClientTicks now c d v w out does = does

-- a turn begins a copy where it is the command that does
begins_not : (act : ClientAct) (now j : ℕ) → begun_by act ≢ Some j → begins j (turn_of act now) ≡ false
begins_not (acts.Writes side file off bytes) now j other = refl
begins_not (acts.Commits side file) now j other = refl
begins_not (acts.Begins copy spec) now j other = ne_eqb copy j (λ e. other (ap (λ (n : ℕ). Some n) e))
begins_not (acts.Asks copy) now j other = refl
begins_not (acts.Cancels copy) now j other = refl
begins_not acts.Retries now j other = refl
begins_not (acts.ClientTakes from bytes) now j other = refl
begins_not acts.ClientTicks now j other = refl

-- the laws of a client's steps
pub record ClientLaws (M : Type 0) {W : Type 0} (gives : W → Drawn → W → Type 0) : Type 0 where
  pub steps : (ways : Ways) (turn : Turn) (c d : ClientState M) (v w : W) (out : Outbox) → IsTurn ways gives turn c v w (d, out) → d.steps ≡ c.steps + 1
  pub setting : (ways : Ways) (turn : Turn) (c d : ClientState M) (v w : W) (out : Outbox) → IsTurn ways gives turn c v w (d, out) → d.setting ≡ c.setting
  pub begun : (ways : Ways) (turn : Turn) (c d : ClientState M) (v w : W) (out : Outbox) (j : ℕ) → IsTurn ways gives turn c v w (d, out)
      → copy_of j c ≡ None → begins j turn ≡ false → copy_of j d ≡ None

-- a command takes no record
pub commands_take_none : (event : Event) → IfSome (command_of event) (λ (act : ClientAct). client_took act ≡ None)
commands_take_none (kinds.Write side file off bytes) = refl
commands_take_none (kinds.Commit side file) = refl
commands_take_none (kinds.Copy copy spec) = refl
commands_take_none (kinds.Status copy) = refl
commands_take_none (kinds.Cancel copy) = refl
commands_take_none kinds.Retry = refl
commands_take_none (kinds.Volume side files blocks) = tt
commands_take_none (kinds.Deliver number) = tt
commands_take_none kinds.Flow = tt
commands_take_none (kinds.Work worker) = tt
commands_take_none (kinds.Tick seconds) = tt
commands_take_none (kinds.Peek side file off len) = tt
commands_take_none (kinds.Crash side pick) = tt
commands_take_none (kinds.CrashAfter side calls pick) = tt

module _ {M : Type 0} (words : Words M ℕ) (laws : ClientLaws M words.gives) where
  pub acts_once : (act : ClientAct) (now : ℕ) (c d : ClientState M) (v w : ℕ) (out : Outbox) → IsHandled c.steps MOST_STEPS (client_took act) out
      → client_does words act now c v d w out → ClientActs (machines words) act now c v d w out
  acts_once act now c d v w out known does =
      let turn = is_turn words act now c d v w out does in
      record {
        acts = (does, known);
        counted = laws.steps (ways words c) (turn_of act now) c d v w out turn;
        setting = laws.setting (ways words c) (turn_of act now) c d v w out turn;
        begun = λ j other none. laws.begun (ways words c) (turn_of act now) c d v w out j turn none (begins_not act now j other);
      }

  pub commanded_once : {E : Type 0} (o : Option ClientAct) (now : ℕ) (c d : ClientState M) (v w : ℕ) (r : Result Outbox E)
      → IfSome o (λ (act : ClientAct). client_took act ≡ None) → IfOk r (IsHandled c.steps MOST_STEPS None)
      → IfOk r (λ out. IfSome o (λ (act : ClientAct). client_does words act now c v d w out))
      → IfOk r (λ out. IfSome o (λ (act : ClientAct). ClientActs (machines words) act now c v d w out))
  commanded_once (Some act) now c d v w (Ok out) none known does =
      acts_once act now c d v w out (subst (λ (took : Option (List ℕ)). IsHandled c.steps MOST_STEPS took out) (sym none) known) does
  commanded_once None now c d v w (Ok out) none known does = does
  commanded_once o now c d v w (Err e) none known does = tt

  pub taken_once : {E : Type 0} (act : ClientAct) (now : ℕ) (c d : ClientState M) (v w : ℕ) (r : Result Outbox E)
      → IfOk r (IsHandled c.steps MOST_STEPS (client_took act))
      → IfOk r (λ out. client_does words act now c v d w out) → IfOk r (ClientActs (machines words) act now c v d w)
  taken_once act now c d v w (Ok out) known does = acts_once act now c d v w out known does
  taken_once act now c d v w (Err e) known does = tt
