use Rattle.std.proofs.Common.{◌≡◌, ℕ, ◌+◌, ◌*◌, List, length, ap, sym, ◌∙◌, subst, le_of_eq, le_trans, arith}
use Rattle.block_file.specs.Opened.{Opened}
use Rattle.copy_privs.specs.declared.peer.Peer.{Peer}
use Rattle.nfs_base.specs.declared.net_loc.NetLoc.{NetLoc}
use Rattle.dest_core.specs.Core.{IsNew}
use Rattle.run_ends.specs.Setting.{dest_name, dest_place, dest_source}
use Rattle.run_ends.specs.First.{Shape}
use Rattle.run_ends.specs.declared.setting.TheConstants.{DEST_TAG}
use Rattle.wire_run.proofs.Making.{formatted_files, read_formatted, dest_fresh}
use Rattle.wire_run.proofs.ends.open_dest.Goals as goal

pub returns-then-files-clause-made : goal.returns-then-files-clause-made
returns-then-files-clause-made g c =
    let shape : Shape = record { files = c.args.files; blocks = c.args.blocks } in
    let core = c.in-Ok-2.core in
    let faults = rw c.in-Ok.is at c.in_ok-disk.ensures.faults in
    let faults2 = rw c.in-Ok-2.is at c.in_ok-core.ensures.faults in
    let size = rw c.in-Ok.is at c.in_ok-disk.ensures.size in
    let size2 = rw c.in-Ok-2.is at c.in_ok-core.ensures.size in
    let source : c.in_ok-source.source ≡ dest_source = c.in_ok-source.ensures in
    let name : c.in_ok-principal.principal ≡ dest_name = c.in_ok-principal.ensures in
    let own : c.in_ok-own.own ≡ dest_place = c.in_ok-own.ensures in
    let new =
    subst (λ (peer : Peer). IsNew c.args.mech peer dest_name dest_place core) source
    (subst (λ (bytes : List ℕ). IsNew c.args.mech c.in_ok-source.source bytes dest_place core) name
    (subst (λ (loc : NetLoc). IsNew c.args.mech c.in_ok-source.source c.in_ok-principal.principal loc core) own (rw c.in-Ok-2.is at c.in_ok-core.ensures.new))) in
    record {
      made = record {
        steps = new.steps;
        count = sym (c.files.ensures.count ∙ ap (λ (v : Opened _). length v.volume.files) c.volume.ensures) ∙ ap (λ (n : ℕ). n + 1) c.if-files.true;
        fits = rw c.in-Ok.is at c.in_ok-disk.ensures.small;
        later = le_trans faults faults2;
        as_large = size2 ∙ size;
      };
      fresh = λ told.
          let all = rw c.in-Ok.is at (c.in_ok-disk.ensures.formatted told) in
          let is = read_formatted (g.D.Disk.size c.in-Ok.disk) c.args.files c.args.blocks DEST_TAG (g.D.Disk.timeline c.in-Ok.disk) all in
          let volume = rw c.in-Ok-2.is at (c.in_ok-core.ensures.volume told) in
          let tag = rw c.in-Ok-2.is at (c.in_ok-core.ensures.tag told) in
          dest_fresh g.D.Disk.size c.args.mech shape core new (volume ∙ is.opened) (tag ∙ is.tag_is);
    }

pub returns-else-files-clause-made : goal.returns-else-files-clause-made
returns-else-files-clause-made g c =
    let core = c.in-Ok-2.core in
    let faults = rw c.in-Ok.is at c.in_ok-disk.ensures.faults in
    let faults2 = rw c.in-Ok-2.is at c.in_ok-core.ensures.faults in
    let size = rw c.in-Ok.is at c.in_ok-disk.ensures.size in
    let size2 = rw c.in-Ok-2.is at c.in_ok-core.ensures.size in
    let disk = c.hand_back.ensures.disk in
    record {
      why = (
        λ told.
            let all = rw c.in-Ok.is at (c.in_ok-disk.ensures.formatted told) in
            let is = read_formatted (g.D.Disk.size c.in-Ok.disk) c.args.files c.args.blocks DEST_TAG (g.D.Disk.timeline c.in-Ok.disk) all in
            let volume = rw c.in-Ok-2.is at (c.in_ok-core.ensures.volume told) in
            let count = formatted_files _ c.args.files (c.args.blocks * 4096) (volume ∙ is.opened) in
            let told_count = c.files.ensures.count ∙ ap (λ (v : Opened _). length v.volume.files) c.volume.ensures in
            let same : c.files.result ≡ c.args.files = omega (arith, count, told_count) in
            c.if-files.false same,
        rw c.in-Ok.is at c.in_ok-disk.ensures.small,
      );
      later = le_trans faults (le_trans faults2 (le_of_eq (ap g.D.Disk.faults (sym disk))));
      as_large = ap g.D.Disk.size disk ∙ (size2 ∙ size);
    }

pub returns-then-files-clause-unset : goal.returns-then-files-clause-unset
returns-then-files-clause-unset g c = λ none.
    let made = rw c.in-Ok.is at (c.in_ok-disk.ensures.unset none) in
    rw c.in-Ok-2.is at (c.in_ok-core.ensures.unset made)
