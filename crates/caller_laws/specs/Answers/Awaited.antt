-- A reply that a mount takes as the answer to a call (RFC 5531 section 9, RFC 2203 section 5.3.3, RFC 8881 section 16.2).
use Rattle.std.specs.Prelude.{◌≡◌, ℕ, true, List, Some}
use Rattle.mount.specs.State.{Mounted, context_of, pending_at}
use Rattle.mount.specs.Taking.{Means, taken_at}
use Rattle.mount.specs.declared.state.Aim.{Aim}
use Rattle.mount.specs.declared.state.Context.{Context}
use Rattle.mount.specs.declared.state.Pending.TheVariants.{Under}
use Rattle.nfs_compound.specs.Results.{reply}
use Rattle.nfs_compound.specs.declared.reply.Reply.{Reply}
use Rattle.session_calls.specs.Answers.{is_answer}
use Rattle.session_client.specs.Asked.{ops_of}
use Rattle.session_client.specs.Pending.{Asking}
use Rattle.wire_spelling.specs.Calls.{xid_in}
use Rattle.wire_spelling.specs.Replies.{is_reply, results_of}
use Rattle.wire_xdr.specs.All.{value_of}

-- A call was awaited at this place, under a context of the mount; the record is a reply by its xid, accepted under its seal; it
-- answers the operations that were asked, and its results spell what is told.
pub record IsAwaited (means : Means) (place : ℕ) (message : List ℕ) (m : Mounted) (told : Reply) : Type 0 where
  pub context : ℕ
  pub aim : Aim
  pub asking : Asking
  pub under : Context
  pub awaited : pending_at m place ≡ Some (Under context aim asking)
  pub there : context_of context m.contexts ≡ Some under
  pub is_reply : is_reply message ≡ true
  pub xid : xid_in message ≡ asking.awaited.xid
  pub accepted : (taken_at means place message m).0.accepted ≡ Some asking.seal
  pub answers : is_answer (ops_of asking.asked) told ≡ true
  pub says : value_of reply (results_of message) ≡ Some told
