use Rattle.std.proofs.Common.{◌≡◌, ◌≤◌, rules, subst}
use Rattle.std.specs.String.{string_bytes}
use Rattle.block_file.specs.declared.faults.OpenFault.{OpenFault}
use Rattle.std.specs.Prelude.{Some, None}
use Rattle.block_file.specs.Opened.{RefusedFor}
use Rattle.block_file.specs.Stored.{flaw_of}
use Rattle.dest_core.specs.Core.{IsNew}
use Rattle.disk_model.specs.Elapsed.{contents}
use Rattle.dest_server.proofs.Ending.{nothing_landed, refused_ends, served_ends}
use Rattle.dest_server.proofs.serving.serve_dest.Goals as goal

pub serve_all-last-requires-clause-nothing : goal.serve_all-last-requires-clause-nothing
serve_all-last-requires-clause-nothing g c =
    let new : IsNew c.args.mech c.args.partner.source c.args.partner.principal c.args.partner.own c.in-Ok-Ok.core = search rules in
    let none = nothing_landed c.args.mech c.args.partner.source c.args.partner.principal c.args.partner.own c.in-Ok-Ok.core new in search rules

pub returns-in-Ok-Ok-clause-ends : goal.returns-in-Ok-Ok-clause-ends
returns-in-Ok-Ok-clause-ends g c =
    let disk = c.in-Some.handed in
    let was : c.args.disk.now ≡ Some disk = search rules in
    let volume : g.D.Disk.Told → flaw_of (g.D.Disk.size disk) (contents (g.D.Disk.timeline disk)) ≡ None = search rules in
    served_ends _ _ _ _ _ _ _ _ disk c.hand_back.result _ c.in-Ok-Ok.core c.serve_all-last.result.0 c.serve_all-last.result.1 _ was volume
    (record { new = search rules; size = search rules; volume = search rules; tag = search rules })
    c.serve_all-last.ensures.meets c.serve_all-last.ensures.came
    (record { is = c.hand_back.ensures.disk; left = c.hand_back.ensures.left }) c.end_of.ensures c.hand_back.ensures.again

pub returns-in-NotVolume-clause-ends : goal.returns-in-NotVolume-clause-ends
returns-in-NotVolume-clause-ends g c =
    let disk = c.in-Some.handed in
    let back = c.in-Ok-Err.back in
    let was : c.args.disk.now ≡ Some disk = search rules in
    let flaw : g.D.Disk.Told → RefusedFor (flaw_of (g.D.Disk.size disk) (contents (g.D.Disk.timeline disk))) c.in-Ok-Err.fault = search rules in
    let size : g.D.Disk.size back ≡ g.D.Disk.size disk = search rules in
    let faults : g.D.Disk.faults disk ≤ g.D.Disk.faults back = search rules in
    refused_ends _ _ _ _ _ _ _ _ _ disk back c.in-NotVolume.block c.in-NotVolume.at string_bytes _ c.not_volume_line.result _ was
    (subst (λ (fault : OpenFault). g.D.Disk.Told → RefusedFor (flaw_of (g.D.Disk.size disk) (contents (g.D.Disk.timeline disk))) fault) c.in-NotVolume.is flaw) size faults c.not_volume_line.ensures c.put_line.ensures.put
