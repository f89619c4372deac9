-- Of two answers the one whose tests went further: None passed them all.
use Rattle.std.specs.Prelude.{Option, None, Some}
use Rattle.nfs_base.specs.declared.cause.PrivCause.{PrivCause}
use Rattle.nfs_base.specs.declared.cause.PrivCause.TheVariants.{Unknown, NoMatch, WrongUser, WrongPeer}

abbrev pub further : Option PrivCause → Option PrivCause → Option PrivCause
further None second = None
further first None = None
further (Some WrongPeer) second = Some WrongPeer
further first (Some WrongPeer) = Some WrongPeer
further (Some WrongUser) second = Some WrongUser
further first (Some WrongUser) = Some WrongUser
further (Some NoMatch) second = Some NoMatch
further first (Some NoMatch) = Some NoMatch
further (Some Unknown) (Some Unknown) = Some Unknown
