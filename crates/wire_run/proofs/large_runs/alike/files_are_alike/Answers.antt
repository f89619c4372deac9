use Rattle.std.proofs.Common.{◌≡◌, ◌*◌, ◌≤◌, length, refl, sym, ◌∙◌, arith}
use Rattle.std.proofs.lemmas.Grind.{div_ceil_times}
use Rattle.std.specs.List.{length_refill}
use Rattle.wire_run.proofs.large_runs.Both.{alike_to_all, alike_to_next, alike_to_none, chunk_before, differ_before, later_both, later_same, later_then, leaves_then}
use Rattle.wire_run.proofs.large_runs.alike.files_are_alike.Given.{Over}
use Rattle.wire_run.proofs.large_runs.alike.files_are_alike.Goals as goal
use Rattle.wire_run.proofs.large_runs.alike.files_are_alike.Goals.{After-drop-source-2, Else-not-chunk_is_alike}

pub loop-chunk-init : goal.loop-chunk-init
loop-chunk-init g c =
    record {
      alike = λ t. alike_to_none c.args.system.now;
      still = λ t. refl;
      context = refl;
      disks = c.requires.disks;
      source_later = later_same g.D.Disk.faults g.D.Disk.size c.args.system.now.source;
      dest_later = later_same g.D.Disk.faults g.D.Disk.size c.args.system.now.dest;
      source_len = sym c.in_ok-source.source.ok.0 ∙ c.in_ok-source.ensures.len;
      dest_len = sym c.in_ok-dest.dest.ok.0 ∙ c.in_ok-dest.ensures.len;
    }

pub returns-then-not-chunk_is_alike : goal.returns-then-not-chunk_is_alike
returns-then-not-chunk_is_alike g c =
    let old = c.args.system.now in
    let mid = c.loop-chunk.system in
    let new = c.chunk_is_alike.new.system in
    record {
      yes = λ t is. absurd (cc);
      no = λ t is.
          differ_before g.D.Disk.faults g.D.Disk.size old mid new (c.loop-chunk.invariant.still t)
          (later_both g.D.Disk.faults g.D.Disk.size old mid c.loop-chunk.invariant.source_later c.loop-chunk.invariant.dest_later)
          (c.chunk_is_alike.ensures.no t c.if-not-chunk_is_alike.true);
      still = λ t. leaves_then old mid new (c.loop-chunk.invariant.still t) (c.chunk_is_alike.ensures.still t);
      disks = c.chunk_is_alike.ensures.disks;
      source_later = later_then g.D.Disk.faults g.D.Disk.size old.source mid.source new.source c.loop-chunk.invariant.source_later c.chunk_is_alike.ensures.source_later;
      dest_later = later_then g.D.Disk.faults g.D.Disk.size old.dest mid.dest new.dest c.loop-chunk.invariant.dest_later c.chunk_is_alike.ensures.dest_later;
    }

same_size : (g : Over) (c : Else-not-chunk_is_alike g) → c.size-size.result ≡ c.size.result
same_size g c = cc

pub loop-chunk-preserved : goal.loop-chunk-preserved
loop-chunk-preserved g c =
    let old = c.args.system.now in
    let mid = c.loop-chunk.system in
    let new = c.chunk_is_alike.new.system in
    let off = c.loop-chunk.chunk * 65536 in
    let len = length c.deref_mut.result.now in
    record {
      alike = λ t.
          alike_to_next old c.size-size.result c.size.result c.loop-chunk.chunk len (c.size-size.ensures t) (c.size.ensures t) (same_size g c)
          (c.deref_mut.ensures.len ∙ (c.loop-chunk.source.ok.0 ∙ c.loop-chunk.invariant.source_len)) (c.loop-chunk.invariant.alike t)
          (chunk_before old mid off len (c.loop-chunk.invariant.still t) (c.chunk_is_alike.ensures.yes t c.if-not-chunk_is_alike.false));
      still = λ t. leaves_then old mid new (c.loop-chunk.invariant.still t) (c.chunk_is_alike.ensures.still t);
      context = c.chunk_is_alike.ensures.context ∙ c.loop-chunk.invariant.context;
      disks = c.chunk_is_alike.ensures.disks;
      source_later = later_then g.D.Disk.faults g.D.Disk.size old.source mid.source new.source c.loop-chunk.invariant.source_later c.chunk_is_alike.ensures.source_later;
      dest_later = later_then g.D.Disk.faults g.D.Disk.size old.dest mid.dest new.dest c.loop-chunk.invariant.dest_later c.chunk_is_alike.ensures.dest_later;
      source_len = sym (length_refill c.loop-chunk.source.len c.loop-chunk.source.items c.chunk_is_alike.new.source c.loop-chunk.source.ok.0) ∙ (c.loop-chunk.source.ok.0 ∙ c.loop-chunk.invariant.source_len);
      dest_len = sym (length_refill c.loop-chunk.dest.len c.loop-chunk.dest.items c.chunk_is_alike.new.dest c.loop-chunk.dest.ok.0) ∙ (c.loop-chunk.dest.ok.0 ∙ c.loop-chunk.invariant.dest_len);
    }

sized_same : (g : Over) (c : After-drop-source-2 g) → c.size-size.result ≡ c.size.result
sized_same g c = cc

all_read : (g : Over) (c : After-drop-source-2 g) → c.size-size.result ≤ c.loop-chunk.chunk * 65536
all_read g c = let times = div_ceil_times c.size-size.result 65536 (omega arith) in omega arith

pub returns : goal.returns
returns g c =
    record {
      yes = λ t is.
          alike_to_all c.args.system.now c.size-size.result c.size.result (c.loop-chunk.chunk * 65536) (c.size-size.ensures t) (c.size.ensures t) (sized_same g c) (all_read g c)
          (c.loop-chunk.invariant.alike t);
      no = λ t is. absurd (cc);
      still = c.loop-chunk.invariant.still;
      disks = c.loop-chunk.invariant.disks;
      source_later = c.loop-chunk.invariant.source_later;
      dest_later = c.loop-chunk.invariant.dest_later;
    }
