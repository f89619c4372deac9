-- The text of each word of the transcript. Own format.
use Rattle.std.specs.Prelude.{ℕ, List, ◌++◌, codes, decimal}
use Rattle.nfs_base.specs.declared.side.Side.{Side}
use Rattle.nfs_base.specs.declared.side.Side.TheVariants.{Source, Dest}
use Rattle.nfs_base.specs.declared.job.JobName.{JobName}
use Rattle.nfs_base.specs.declared.job.Stop.{Stop}
use Rattle.nfs_base.specs.declared.job.Stop.TheVariants.{Cancelled, LeaseExpired, ClientGone, SourceRefused, SourceFailed, PastEnd, NoRoom, DiskFault, LinkFault, Worn}
use Rattle.nfs_base.specs.declared.cause.PrivCause.{PrivCause}
use Rattle.nfs_base.specs.declared.cause.PrivCause.TheVariants as priv
use Rattle.nfs_base.specs.declared.cause.Cause.{Cause}
use Rattle.nfs_base.specs.declared.cause.Cause.TheVariants as cause

abbrev pub side_text : Side → List ℕ
side_text Source = codes "s"
side_text Dest = codes "d"

abbrev pub job_text : JobName → List ℕ
job_text job = decimal job.boot ++ codes "." ++ decimal job.number

abbrev pub stop_text : Stop → List ℕ
stop_text Cancelled = codes "cancelled"
stop_text LeaseExpired = codes "lease"
stop_text ClientGone = codes "gone"
stop_text (SourceRefused status) = codes "refused " ++ decimal status.number
stop_text (SourceFailed accept_stat) = codes "sourcefault " ++ decimal accept_stat
stop_text PastEnd = codes "pastend"
stop_text NoRoom = codes "noroom"
stop_text DiskFault = codes "disk"
stop_text LinkFault = codes "link"
stop_text Worn = codes "worn"

abbrev pub priv_cause_text : PrivCause → List ℕ
priv_cause_text priv.Unknown = codes "unknown"
priv_cause_text priv.NoMatch = codes "nomatch"
priv_cause_text priv.WrongUser = codes "wronguser"
priv_cause_text priv.WrongPeer = codes "wrongpeer"

abbrev pub cause_text : Cause → List ℕ
cause_text cause.NoPrivilege = codes "noprivilege"
cause_text cause.Stale = codes "stale"
cause_text cause.Unknown = codes "unknown"
cause_text cause.Expired = codes "expired"
cause_text cause.WrongFile = codes "wrongfile"
cause_text cause.WrongDestination = codes "wrongdestination"
cause_text cause.WrongUser = codes "wronguser"
cause_text cause.Unconfirmed = codes "unconfirmed"
