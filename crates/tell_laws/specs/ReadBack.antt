-- What a caller reads of the results that a server has spelled.
use Rattle.std.specs.Prelude.{◌≡◌, ℕ, ◌<◌, ◌≤◌, ◌^◌, List, ◌++◌, length, Some}
use Rattle.std.specs.List.{AllByRecursion, flat_map}
use Rattle.nfs_base.specs.declared.limits.TheConstants.{TEXT_LIMIT}
use Rattle.nfs_base.specs.declared.status.Status.{Status}
use Rattle.nfs_compound.specs.Results.{outcome, reply}
use Rattle.nfs_compound.specs.declared.reply.Reply.{Reply}
use Rattle.nfs_compound.specs.declared.res.Res.{Res}
use Rattle.wire_xdr.specs.All.{value_of}

-- As many results are read as were told. The bytes of these may begin with those of results that can each be spelled: then such
-- results are read first, in this order.
pub record AreReadBack (told read : List Res) : Type 0 where
  pub as_many : length read ≡ length told
  pub first : (front : List Res) (rest : List ℕ) → AllByRecursion outcome.Fits front → length front ≤ length told
      → flat_map outcome.spell told ≡ flat_map outcome.spell front ++ rest → (more : List Res) × (read ≡ front ++ more)

-- so they are where the tag and the number of results can be spelled
abbrev pub ReadsBack : Type 0
ReadsBack = (status : Status) (tag : List ℕ) (told : List Res) (body : List ℕ) (v : Reply) → body ≡ reply.spell (record { status = status; tag = tag; results = told })
    → length tag ≤ TEXT_LIMIT → length told < 2 ^ 32 → value_of reply body ≡ Some v → AreReadBack told v.results
