use Rattle.std.proofs.Common.{subst}
use Rattle.wire_xdr.specs.Cursor.{IsBytes}
use Rattle.wire_xdr.proofs.Whole.{read_ok}
use Rattle.wire_xdr.proofs.form.xdr.read.Goals as goal

pub returns-in-Ok : goal.returns-in-Ok
returns-in-Ok g c =
    read_ok g.T.Xdr.form c.in-Ok.value c.args.reader.now c.parse.new.reader (subst IsBytes c.rest-rest.ensures.rest c.rest-rest.ensures.bytes)
    (rw c.again-next.ensures at c.in-Ok.ensures)
