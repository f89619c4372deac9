use Rattle.std.proofs.Common.{◌≡◌, inl, length, ℕ, ◌∙◌, subst, Bool, true, false}
use Rattle.std.proofs.lemmas.Bool.Decides.{Decides-eqb}
use Rattle.std.proofs.lemmas.Slice.Eq.{slice_eq-Decides}
use Rattle.nfs_base.specs.declared.side.Side.TheVariants.{Source, Dest}
use Rattle.wire_run.proofs.large_runs.Both.{dest_unread, differ_before, later_then, leaves_one, leaves_then, shown_alike, shown_unlike, source_unread}
use Rattle.wire_run.proofs.large_runs.alike.chunk_is_alike.Goals as goal
use Rattle.wire_run.specs.System.{IsShown}

pub returns-then-not-peek : goal.returns-then-not-peek
returns-then-not-peek g c =
    record {
      yes = λ t is. absurd (cc);
      no = λ t is. source_unread g.D.Disk.Told g.D.Disk.faults c.args.system.now c.peek.new.self t (c.peek.ensures.unread c.if-not-peek.true);
      still = λ t. leaves_one Source c.args.system.now c.peek.new.self (c.peek.ensures.still t);
      context = c.peek.ensures.context;
      disks = c.peek.ensures.disks;
      source_later = c.peek.ensures.later Source;
      dest_later = c.peek.ensures.later Dest;
    }

pub returns-then-not-peek-2 : goal.returns-then-not-peek-2
returns-then-not-peek-2 g c =
    let old = c.args.system.now in
    let mid = c.peek.new.self in
    let new = c.peek-2.new.self in
    record {
      yes = λ t is. absurd (cc);
      no = λ t is.
          differ_before g.D.Disk.faults g.D.Disk.size old mid new (leaves_one Source old mid (c.peek.ensures.still t)) c.peek.ensures.later
          (dest_unread g.D.Disk.Told g.D.Disk.faults mid new t (c.peek-2.ensures.unread c.if-not-peek-2.true));
      still = λ t. leaves_then old mid new (leaves_one Source old mid (c.peek.ensures.still t)) (leaves_one Dest mid new (c.peek-2.ensures.still t));
      context = c.peek-2.ensures.context ∙ c.peek.ensures.context;
      disks = c.peek-2.ensures.disks;
      source_later = later_then g.D.Disk.faults g.D.Disk.size old.source mid.source new.source (c.peek.ensures.later Source) (c.peek-2.ensures.later Source);
      dest_later = later_then g.D.Disk.faults g.D.Disk.size old.dest mid.dest new.dest (c.peek.ensures.later Dest) (c.peek-2.ensures.later Dest);
    }

not_both : (b : Bool) → b ≡ true → b ≡ false → ⊥
not_both b is never = cc

pub returns : goal.returns
returns g c =
    let old = c.args.system.now in
    let mid = c.peek.new.self in
    let new = c.peek-2.new.self in
    let second : g.D.Disk.Told → IsShown mid Dest 1 c.args.off c.peek-2.new.out (length c.args.source.now) =
    λ t. subst (λ (len : ℕ). IsShown mid Dest 1 c.args.off c.peek-2.new.out len) c.requires.as_long (c.peek-2.ensures.bytes t c.if-not-peek-2.false) in
    record {
      yes = λ t is.
          shown_alike old mid c.args.off (length c.args.source.now) c.peek.new.out c.peek-2.new.out (leaves_one Source old mid (c.peek.ensures.still t))
          (c.peek.ensures.bytes t c.if-not-peek.false) (second t) ((slice_eq-Decides Decides-eqb _ _ _ c.eq.ensures).0 is);
      no = λ t is.
          inl (shown_unlike old mid c.args.off (length c.args.source.now) c.peek.new.out c.peek-2.new.out (leaves_one Source old mid (c.peek.ensures.still t))
          (c.peek.ensures.bytes t c.if-not-peek.false) (second t) (λ same. not_both c.eq.result ((slice_eq-Decides Decides-eqb _ _ _ c.eq.ensures).1 same) is));
      still = λ t. leaves_then old mid new (leaves_one Source old mid (c.peek.ensures.still t)) (leaves_one Dest mid new (c.peek-2.ensures.still t));
      context = c.peek-2.ensures.context ∙ c.peek.ensures.context;
      disks = c.peek-2.ensures.disks;
      source_later = later_then g.D.Disk.faults g.D.Disk.size old.source mid.source new.source (c.peek.ensures.later Source) (c.peek-2.ensures.later Source);
      dest_later = later_then g.D.Disk.faults g.D.Disk.size old.dest mid.dest new.dest (c.peek.ensures.later Dest) (c.peek-2.ensures.later Dest);
    }
