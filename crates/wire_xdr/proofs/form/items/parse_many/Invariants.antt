use Rattle.std.proofs.Common.{◌≡◌, ◌-◌}
use Rattle.wire_xdr.specs.Parts.{many}
use Rattle.wire_xdr.proofs.Loop.{with_front}
use Rattle.wire_xdr.proofs.form.items.parse_many.Given as goal

abbrev pub invariant-loop : goal.invariant-loop
invariant-loop g l = with_front l.items.items (many g.T.Xdr.form (l.count - l.counter) l.reader) ≡ many g.T.Xdr.form l.count l.fn.reader
