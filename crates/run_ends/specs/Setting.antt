-- What is the same in every run: who the ends are, and where the servers are found. Own.
use Rattle.std.specs.Prelude.{ℕ, List, [], ◌∷◌, codes}
use Rattle.copy_privs.specs.declared.peer.Peer.{Peer}
use Rattle.nfs_base.specs.declared.net_loc.NetLoc.{NetLoc}
use Rattle.nfs_base.specs.declared.net_loc.NetLoc.TheVariants.{Addr}

abbrev pub tcp : List ℕ → NetLoc
tcp addr = Addr (codes "tcp") addr

abbrev pub source_place : NetLoc
source_place = tcp (codes "127.0.0.1.8.1")

abbrev pub dest_place : NetLoc
dest_place = tcp (codes "127.0.0.1.8.2")

-- the client's principal, and the destination's
abbrev pub user : List ℕ
user = codes "user"

abbrev pub dest_name : List ℕ
dest_name = codes "dest"

-- the source from which the destination copies, and the servers that the source knows
abbrev pub dest_source : Peer
dest_source = record { principal = codes "source"; loc = source_place }

abbrev pub source_peers : List Peer
source_peers = record { principal = dest_name; loc = dest_place } ∷ []
