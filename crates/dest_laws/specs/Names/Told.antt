-- What a callback can tell of a copy, so that it is read as it was told (RFC 7862 section 16.1). Own definitions.
use Rattle.std.specs.Prelude.{◌≡◌, ◌<◌, ◌≤◌, ◌^◌, length}
use Rattle.copy_ops.specs.declared.callback.OffloadEnd.{OffloadEnd}
use Rattle.copy_ops.specs.declared.callback.OffloadEnd.TheVariants as ends
use Rattle.dest_back.specs.declared.compound.Ended.{Ended}
use Rattle.nfs_base.specs.Forms.{state_id}
use Rattle.nfs_base.specs.declared.limits.TheConstants.{HANDLE_LIMIT}
use Rattle.wire_xdr.specs.Parts.{option_Fits}

-- the numbers of bytes don't count
abbrev pub EndCanBeTold : OffloadEnd → Type 0
EndCanBeTold (ends.Done response) = option_Fits state_id response.callback_id × (length response.verifier ≡ 8)
EndCanBeTold (ends.Failed status count) = status.number < 2 ^ 32

pub record CanBeTold (told : Ended) : Type 0 where
  pub handle : (1 ≤ length told.file) × (length told.file ≤ HANDLE_LIMIT)
  pub id : state_id.Fits told.id
  pub end : EndCanBeTold told.end
