-- What a worker's call is called, and to whom it goes: a worker's number is its place and 1.
use Rattle.std.specs.Prelude.{ℕ, ◌+◌}
use Rattle.dest_tasks.specs.declared.post.Errand.{Errand}
use Rattle.dest_tasks.specs.declared.post.Errand.TheVariants as errands
use Rattle.file_ops.specs.declared.operation.TheConstants.{OP_CREATE_SESSION, OP_EXCHANGE_ID, OP_GETATTR, OP_READ}
use Rattle.mount.specs.declared.machine.Sent.{Sent}
use Rattle.outbox.specs.declared.label.CallLabel.{CallLabel}
use Rattle.outbox.specs.declared.label.CallLabel.TheVariants as calls
use Rattle.outbox.specs.declared.label.Label.TheVariants.{Call}
use Rattle.outbox.specs.declared.outgoing.Outgoing.{Outgoing}
use Rattle.outbox.specs.declared.outgoing.To.TheVariants.{Source}
use Rattle.session_client.specs.declared.setup.Setup.{Setup}
use Rattle.session_client.specs.declared.setup.Setup.TheVariants as setups

abbrev pub setup_label : Setup → CallLabel
setup_label setups.Down = calls.Init
setup_label (setups.Rooted _) = calls.Operation OP_EXCHANGE_ID
setup_label (setups.Registered _ _) = calls.Operation OP_CREATE_SESSION
setup_label (setups.Joined _ _) = calls.Compound
setup_label (setups.Up _ _) = calls.Compound

abbrev pub errand_label : Errand → Setup → CallLabel
errand_label errands.Setup setup = setup_label setup
errand_label errands.Confirm setup = calls.Create
errand_label errands.Size setup = calls.Operation OP_GETATTR
errand_label (errands.Bytes chunk) setup = calls.Operation OP_READ

abbrev pub workers_call : (place : ℕ) → CallLabel → Sent → Outgoing
workers_call place label sent = record { to = Source (place + 1); bytes = sent.bytes; seal = sent.seal; label = Call label }
