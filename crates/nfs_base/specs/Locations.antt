-- When two network locations are the same: of one kind, and byte for byte.
use Rattle.std.specs.Prelude.{Bool, false, ◌&&◌, bytes_eq}
use Rattle.nfs_base.specs.declared.net_loc.NetLoc.{NetLoc}
use Rattle.nfs_base.specs.declared.net_loc.NetLoc.TheVariants.{Name, Url, Addr}

abbrev pub same_location : NetLoc → NetLoc → Bool
same_location (Name a) (Name b) = bytes_eq a b
same_location (Url a) (Url b) = bytes_eq a b
same_location (Addr a b) (Addr c d) = bytes_eq a c && bytes_eq b d
same_location _ _ = false
