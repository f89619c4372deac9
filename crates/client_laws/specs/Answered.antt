-- An answer to a call, as the wire of its server sees it: the record is taken as the reply to what the mount awaited, under that seal.
use Rattle.std.specs.Prelude.{ℕ, ◌≡◌, true, List, Some}
use Rattle.caller_laws.specs.Good.{Identity}
use Rattle.caller_laws.specs.View.{caller_of, handle_named, purpose_of, what_asked}
use Rattle.client_core.specs.State.{ClientState}
use Rattle.client_core.specs.Telling.{mount_at}
use Rattle.mount.specs.State.{context_of, pending_at}
use Rattle.mount.specs.declared.state.Aim.{Aim}
use Rattle.mount.specs.declared.state.Context.{Context}
use Rattle.mount.specs.declared.state.Pending.TheVariants.{Under}
use Rattle.nfs_base.specs.declared.side.Side.{Side}
use Rattle.nfs_compound.specs.Results.{reply}
use Rattle.nfs_compound.specs.declared.reply.Reply.{Reply}
use Rattle.outbox.specs.declared.outgoing.Outbox.{Outbox}
use Rattle.session_calls.specs.Answers.{is_answer}
use Rattle.session_client.specs.Asked.{ops_of}
use Rattle.session_client.specs.Pending.{Asking}
use Rattle.wire_model.specs.CallerLaws.{Takes}
use Rattle.wire_model.specs.Wire.{Purpose}
use Rattle.wire_spelling.specs.Replies.{results_of}
use Rattle.wire_spelling.specs.Spelling.{spelling}
use Rattle.wire_xdr.specs.All.{value_of}
use Rattle.client_laws.specs.CallerLaws.{above_at}
use Rattle.client_laws.specs.Turns.{Turn}
use Rattle.client_laws.specs.WholeTurns.{acts_of}

pub record IsAnswerTaken {M : Type 0} (who : Identity) (boot : ℕ) (purpose : ℕ → Purpose) (side : Side) (turn : Turn) (message : List ℕ)
    (c : ClientState M) (out : Outbox) (place : ℕ) (told : Reply) : Type 0 where
  pub context : ℕ
  pub aim : Aim
  pub asking : Asking
  pub under : Context
  -- it was awaited at this place, under this context of the mount
  pub awaited : pending_at (mount_at side c) place ≡ Some (Under context aim asking)
  pub there : context_of context (mount_at side c).contexts ≡ Some under
  pub takes : Takes (spelling who.accepts who.whose) (caller_of (above_at boot purpose c) (mount_at side c)) (acts_of turn out) asking.seal
      (what_asked asking.seal (handle_named under.root) (purpose_of aim (purpose place)) asking.asked) message
  -- it answers the operations that were asked, and its results spell what is told
  pub answers : is_answer (ops_of asking.asked) told ≡ true
  pub says : value_of reply (results_of message) ≡ Some told
