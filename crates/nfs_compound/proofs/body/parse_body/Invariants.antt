use Rattle.std.proofs.Common.{◌≡◌, ◌-◌}
use Rattle.nfs_compound.specs.Body.{one_at, body_at, with_front}
use Rattle.nfs_compound.proofs.body.parse_body.Given as goal

abbrev pub invariant-loop-place : goal.invariant-loop-place
invariant-loop-place g l =
    with_front l.ops (body_at (one_at g.O.Operation.class g.O.XdrBy.form) g.O.Operation.is_cut (l.count - l.place) l.place l.reader)
    ≡ body_at (one_at g.O.Operation.class g.O.XdrBy.form) g.O.Operation.is_cut l.count 0 l.fn.reader
