-- The words of a client, each with its cause, over the turn of a client.
use Rattle.std.specs.Prelude.{ℕ, ◌≡◌, List}
use Rattle.caller_laws.specs.Good.{Identity}
use Rattle.client_core.specs.State.{ClientState}
use Rattle.client_laws.specs.Speaking.Carried.{seen}
use Rattle.client_laws.specs.Turns.{Turn}
use Rattle.client_laws.specs.WholeTurns.{Purposes, acts_of}
use Rattle.nfs_base.specs.declared.seal.Seal.{Seal}
use Rattle.nfs_base.specs.declared.side.Side.{Side}
use Rattle.outbox.specs.declared.outgoing.Outbox.{Outbox}
use Rattle.wire_model.specs.CallerLaws.{Takes}
use Rattle.wire_model.specs.Wire.{Call, Purpose, Slotted}
use Rattle.wire_spelling.specs.Spelling.{spelling}

-- In this turn an answer is taken, to a call for this purpose.
pub record IsTold {M : Type 0} (who : Identity) (boot : ℕ) (purposes : Purposes) (c : ClientState M) (turn : Turn) (out : Outbox) (side : Side) (purpose : Purpose) : Type 0 where
  pub seal : Seal
  pub call : Call
  pub reply : List ℕ
  pub takes : Takes (spelling who.accepts who.whose) (seen boot purposes side c) (acts_of turn out) seal (Slotted seal call) reply
  pub purpose_is : call.purpose ≡ purpose
