-- Why a call came to nothing, as a status (RFC 5531 section 9; the numbers from 20000 on are own).
use Rattle.std.specs.Prelude.{◌+◌, ◌-◌, ◌^◌, min}
use Rattle.nfs_base.specs.declared.status.Status.{Status}
use Rattle.nfs_base.specs.declared.status.TheConstants.Status.{PARTNER_NO_AUTH}
use Rattle.client_copies.specs.declared.refusal.Refusal.{Refusal}
use Rattle.client_copies.specs.declared.refusal.Refusal.TheVariants.{Answered, Failed, NotAllowed}
use Rattle.client_copies.specs.declared.refusal.TheConstants.{FAILED_CALL}

abbrev pub refused_with : Refusal → Status
refused_with (Answered status) = status
refused_with (Failed accept_stat) = record { number = min (FAILED_CALL + accept_stat) (2 ^ 32 - 1) }
refused_with NotAllowed = PARTNER_NO_AUTH
