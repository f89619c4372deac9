-- An event makes a server, or is one of servers that are there.
use Rattle.std.proofs.Common.{◌≡◌, ◌⊎◌, inl, inr, ℕ, Bool, true, ◌&&◌, nat_lt, None, Some, is_none, refl, IsTrue}
use Rattle.std.proofs.lemmas.Bool.{and_parts}
use Rattle.nfs_base.specs.declared.side.Side.{Side}
use Rattle.wire_machine.specs.Check.{Reading}
use Rattle.wire_run.specs.Fresh.{event_small}
use Rattle.wire_run.specs.Running.{Became, Running, StepIs, VolumeIs, world_in}
use Rattle.run_ends.specs.Ends.{RunMachines, RunWorld}
use Rattle.wire_run.specs.declared.system.Stepped.{Stepped}
use Rattle.wire_schedule.specs.Admission.{admits, after, files_of, is_in_order, is_ready, is_within, most_events}
use Rattle.wire_schedule.specs.declared.context.Context.{Context}
use Rattle.wire_schedule.specs.declared.event.Event.{Event}
use Rattle.wire_schedule.specs.declared.event.Event.TheVariants as kinds

-- what a context says of an event that may come next
pub in_order : (context : Context) (event : Event) → IsTrue (admits context event) → is_in_order context event ≡ true
in_order context event admitted =
    (and_parts (is_within event) (is_in_order context event)
    (and_parts (nat_lt context.events most_events) (is_within event && is_in_order context event) admitted).1).1

module _ {D M : Type 0} (told : Type 0) (m : RunMachines M) (read : Reading) (faults size : D → ℕ) where
  -- a server is made that isn't there
  pub record Makes (mech : M) (context : Context) (old new : Running D M) (event : Event) (became : Stepped) : Type 0 where
    pub side : Side
    pub files : ℕ
    pub blocks : ℕ
    pub is : event ≡ kinds.Volume side files blocks
    pub absent : is_none (files_of context side) ≡ true
    pub made : VolumeIs told faults size mech side (record { files = files; blocks = blocks }) old new (kinds.Volume side files blocks) became

  -- servers that are there go on
  pub record Acts (context : Context) (old new : Running D M) (event : Event) (became : Stepped) : Type 0 where
    pub ready : is_ready context ≡ true
    pub is : (before : RunWorld M) → world_in old ≡ Some before → Became told m read faults size old new before event became
    pub source : (after context event).source ≡ context.source
    pub dest : (after context event).dest ≡ context.dest
    pub small : (a b : ℕ) → event_small a b event ≡ None

  acts : (context : Context) (old new : Running D M) (event : Event) (became : Stepped) (rest : Bool) → (is_ready context && rest) ≡ true
      → ((before : RunWorld M) → world_in old ≡ Some before → Became told m read faults size old new before event became)
      → (after context event).source ≡ context.source → (after context event).dest ≡ context.dest → ((a b : ℕ) → event_small a b event ≡ None)
      → Acts context old new event became
  acts context old new event became rest order is source dest small =
      record { ready = (and_parts (is_ready context) rest order).0; is = is; source = source; dest = dest; small = small }

  pub kind_of : (mech : M) (context : Context) (old new : Running D M) (event : Event) (became : Stepped) → is_in_order context event ≡ true
      → StepIs told m read faults size mech old new event became → Makes mech context old new event became ⊎ Acts context old new event became
  kind_of mech context old new (kinds.Volume side files blocks) became order is =
      inl (record { side = side; files = files; blocks = blocks; is = refl; absent = order; made = is })
  kind_of mech context old new (kinds.Write side file off bytes) became order is =
      inr (acts context old new (kinds.Write side file off bytes) became _ order is refl refl (λ a b. refl))
  kind_of mech context old new (kinds.Commit side file) became order is = inr (acts context old new (kinds.Commit side file) became _ order is refl refl (λ a b. refl))
  kind_of mech context old new (kinds.Copy copy spec) became order is = inr (acts context old new (kinds.Copy copy spec) became _ order is refl refl (λ a b. refl))
  kind_of mech context old new (kinds.Status copy) became order is = inr (acts context old new (kinds.Status copy) became _ order is refl refl (λ a b. refl))
  kind_of mech context old new (kinds.Cancel copy) became order is = inr (acts context old new (kinds.Cancel copy) became _ order is refl refl (λ a b. refl))
  kind_of mech context old new kinds.Retry became order is =
      inr (record { ready = order; is = is; source = refl; dest = refl; small = λ a b. refl })
  kind_of mech context old new (kinds.Deliver number) became order is =
      inr (record { ready = order; is = is; source = refl; dest = refl; small = λ a b. refl })
  kind_of mech context old new kinds.Flow became order is = inr (record { ready = order; is = is; source = refl; dest = refl; small = λ a b. refl })
  kind_of mech context old new (kinds.Work worker) became order is =
      inr (record { ready = order; is = is; source = refl; dest = refl; small = λ a b. refl })
  kind_of mech context old new (kinds.Tick seconds) became order is =
      inr (record { ready = order; is = is; source = refl; dest = refl; small = λ a b. refl })
  kind_of mech context old new (kinds.Peek side file off len) became order is =
      inr (acts context old new (kinds.Peek side file off len) became _ order is refl refl (λ a b. refl))
  kind_of mech context old new (kinds.Crash side pick) became order is =
      inr (record { ready = order; is = is; source = refl; dest = refl; small = λ a b. refl })
  kind_of mech context old new (kinds.CrashAfter side calls pick) became order is =
      inr (record { ready = order; is = is; source = refl; dest = refl; small = λ a b. refl })
