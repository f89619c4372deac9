use Rattle.std.proofs.Common.{refl, subst, sym}
use Rattle.nfs_base.specs.Forms.{net_loc}
use Rattle.nfs_base.specs.declared.net_loc.NetLoc.{NetLoc}
use Rattle.wire_run.proofs.Systems.{client_started, dest_place_fits, new_rests, new_sound, source_place_fits}
use Rattle.wire_run.proofs.system.System.new.Goals as goal

pub new-requires-clause-source : goal.new-requires-clause-source
new-requires-clause-source g c =
    subst (λ (loc : NetLoc). net_loc.Fits loc) (sym c.in_ok-source_place.ensures.is) source_place_fits

pub new-requires-clause-dest : goal.new-requires-clause-dest
new-requires-clause-dest g c =
    subst (λ (loc : NetLoc). net_loc.Fits loc) (sym c.in_ok-dest_place.ensures) dest_place_fits

pub invariant_of-result : goal.invariant_of-result
invariant_of-result g c =
    new_sound g.D.Disk.Told g.D.Disk.size g.D.Disk.fuse c.start.result c.args.mech
    (record { source = c.new-2.result; dest = c.new-3.result; client = c.in_ok-client.client; draws = c.new-4.result; clock = 0; log = c.new-5.result; choices = c.new-6.result; flowed = 0; stops = record { source = c.none.result; dest = c.none-2.result } })
    c.args.disks.source c.args.disks.dest c.start.ensures c.new-2.ensures c.new-3.ensures
    (client_started c.in_ok-client.client c.args.mech c.in_ok-user.field-0 c.in_ok-source_place.field-0 c.in_ok-dest_place.field-0 c.in_ok-client.ensures c.in_ok-user.ensures c.in_ok-source_place.ensures.is c.in_ok-dest_place.ensures)
    refl refl c.new-5.ensures c.new-6.ensures.items c.none.ensures c.none-2.ensures

pub returns : goal.returns
returns g c =
    new_rests g.D.Disk.Told g.D.Disk.size g.D.Disk.fuse c.start.result c.args.mech
    (record { source = c.new-2.result; dest = c.new-3.result; client = c.in_ok-client.client; draws = c.new-4.result; clock = 0; log = c.new-5.result; choices = c.new-6.result; flowed = 0; stops = record { source = c.none.result; dest = c.none-2.result } })
    c.args.disks.source c.args.disks.dest c.start.ensures c.new-2.ensures c.new-3.ensures
    (client_started c.in_ok-client.client c.args.mech c.in_ok-user.field-0 c.in_ok-source_place.field-0 c.in_ok-dest_place.field-0 c.in_ok-client.ensures c.in_ok-user.ensures c.in_ok-source_place.ensures.is c.in_ok-dest_place.ensures)
    refl refl c.new-5.ensures c.new-6.ensures.items c.none.ensures c.none-2.ensures c.new-4.ensures
