-- How long a location is.
use Rattle.std.specs.Prelude.{ℕ, ◌+◌, ◌≤◌, length}
use Rattle.nfs_base.specs.declared.net_loc.NetLoc.{NetLoc}
use Rattle.nfs_base.specs.declared.net_loc.NetLoc.TheVariants.{Name, Url, Addr}
use Rattle.source_core.specs.declared.own_location.TheConstants.{MOST_LOCATION}

-- how many bytes its strings have together
abbrev pub location_bytes : NetLoc → ℕ
location_bytes (Name name) = length name
location_bytes (Url url) = length url
location_bytes (Addr netid addr) = length netid + length addr

abbrev pub IsShort : NetLoc → Type 0
IsShort loc = location_bytes loc ≤ MOST_LOCATION
