-- The reply to a CB_COMPOUND that was evaluated.
use Rattle.std.proofs.Common.{◌≡◌, ℕ, List, Option, refl}
use Rattle.callbacks.specs.Callbacks.{evaluated}
use Rattle.callbacks.specs.Writing.{reply_to}
use Rattle.client_copies.specs.Table.{Copies}
use Rattle.nfs_base.specs.declared.status.Status.{Status}
use Rattle.nfs_compound.specs.declared.cb_compound.CbCompound.{CbCompound}
use Rattle.nfs_compound.specs.declared.cb_reply.CbReply.{CbReply}
use Rattle.nfs_compound.specs.declared.cb_res.CbRes.{CbRes}

pub reply_is : (session own : Option (List ℕ)) (compound : CbCompound) (t u : Copies) (status : Status) (results : List CbRes) (reply : CbReply)
    → reply ≡ record { status = status; tag = compound.tag; results = results }
    → status ≡ (evaluated session compound u).status → results ≡ (evaluated session compound u).results → session ≡ own → u ≡ t
    → reply ≡ reply_to compound (evaluated own compound t)
reply_is session own compound t u status results reply is status_is results_is session_is copies_are =
    rw (is, status_is, results_is, session_is, copies_are) refl
