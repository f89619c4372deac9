-- What an operation answers (RFC 8881 section 15).
use Rattle.nfs_base.specs.declared.answer.Answer.{Answer}
use Rattle.nfs_base.specs.declared.answer.Answer.TheVariants.{Done, Refused}
use Rattle.nfs_base.specs.declared.status.Status.{Status}
use Rattle.nfs_base.specs.declared.status.TheConstants.Status.{OK}

-- the status that it begins with
abbrev pub answer_status : {T : Type 0} → Answer T → Status
answer_status (Done v) = OK
answer_status (Refused status) = status
