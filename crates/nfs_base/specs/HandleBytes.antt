-- How the bytes of a handle lie in a field of as many as a handle may have.
use Rattle.std.specs.Prelude.{ℕ, ◌-◌, List, ◌++◌, length, replicate}
use Rattle.nfs_base.specs.declared.limits.TheConstants.{HANDLE_LIMIT}

-- the bytes, and zeros behind them
abbrev pub filled : List ℕ → List ℕ
filled bytes = bytes ++ replicate (HANDLE_LIMIT - length bytes) 0
