-- What goes out to each server, as it is put to its link (RFC 5531 section 11).
use Rattle.std.specs.Prelude.{ℕ, Bool, true, false, List, [], if◌then◌else◌}
use Rattle.std.specs.List.{flat_map}
use Rattle.nfs_base.specs.declared.seal.End.TheVariants as ends
use Rattle.nfs_base.specs.declared.side.Side.{Side}
use Rattle.nfs_base.specs.declared.side.Side.TheVariants.{Source, Dest}
use Rattle.outbox.specs.declared.outgoing.Outgoing.{Outgoing}
use Rattle.outbox.specs.declared.outgoing.To.{To}
use Rattle.outbox.specs.declared.outgoing.To.TheVariants.{Server}
use Rattle.single_copy.specs.Links.{carried}

-- whether a record goes to this server
abbrev pub is_to : Side → To → Bool
is_to Source (Server ends.Source) = true
is_to Dest (Server ends.Dest) = true
is_to _ _ = false

abbrev pub put_for : Side → Outgoing → List ℕ
put_for side o = if is_to side o.to then carried o.bytes else []

-- what is put to a server's link of the records that go out, in their order
abbrev pub put_to : Side → List Outgoing → List ℕ
put_to side sent = flat_map (put_for side) sent
