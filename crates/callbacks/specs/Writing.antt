-- The reply to a CB_COMPOUND (RFC 8881 section 20.2).
use Rattle.std.specs.Prelude.{ℕ, ◌≤◌, length}
use Rattle.nfs_compound.specs.Callbacks.{cb_reply}
use Rattle.nfs_compound.specs.declared.cb_compound.CbCompound.{CbCompound}
use Rattle.nfs_compound.specs.declared.cb_reply.CbReply.{CbReply}
use Rattle.callbacks.specs.Callbacks.{Outcome}

-- its tag is that of the call
abbrev pub reply_to : CbCompound → Outcome → CbReply
reply_to c o = record { status = o.status; tag = c.tag; results = o.results }

-- it has a spelling, of fewer bytes than a record has
pub record CanBeWritten (c : CbCompound) (o : Outcome) : Type 0 where
  pub fits : cb_reply.Fits (reply_to c o)
  pub short : length (cb_reply.spell (reply_to c o)) ≤ 2048
