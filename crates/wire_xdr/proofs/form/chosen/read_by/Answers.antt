use Rattle.std.proofs.Common.{subst}
use Rattle.wire_xdr.specs.Cursor.{IsBytes}
use Rattle.wire_xdr.proofs.Whole.{read_ok}
use Rattle.wire_xdr.proofs.form.chosen.read_by.Goals as goal

pub returns-in-Ok : goal.returns-in-Ok
returns-in-Ok g c =
    let read =
    read_ok (g.T.XdrBy.form c.args.number) c.in-Ok.value c.args.reader.now c.parse_by.new.reader (subst IsBytes c.rest-rest.ensures.rest c.rest-rest.ensures.bytes)
    (rw c.again-next.ensures at c.in-Ok.ensures)
    in
    record { read = read; own = g.met.T.XdrBy.own c.args.number c.in-Ok.value read.found.1 }
