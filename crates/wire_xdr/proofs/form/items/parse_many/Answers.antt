use Rattle.std.proofs.lemmas.Result.{err_from_is_err_and}
use Rattle.wire_xdr.specs.Parts.{many}
use Rattle.wire_xdr.proofs.Loop.{goes_on, stops, is_done}
use Rattle.wire_xdr.proofs.form.items.parse_many.Goals as goal

pub returns-in_err-parse : goal.returns-in_err-parse
returns-in_err-parse g c =
    let form = g.T.Xdr.form in
    let p = err_from_is_err_and c.from_residual.result c.from_residual.ensures.1 in
    rw (p.1, p.2) (stops c.in_err-parse.field-0.0 form c.loop.items.items c.args.count c.loop.counter c.loop.reader (many form c.args.count c.args.reader.now) c.loop-test.true c.in_err-parse.ensures c.loop.invariant)

pub loop-preserved : goal.loop-preserved
loop-preserved g c =
    let form = g.T.Xdr.form in
    rw c.in_ok-push.ensures.items (goes_on form c.loop.items.items c.args.count c.loop.counter c.loop.reader c.in_ok-parse.field-0 c.parse.new.reader (many form c.args.count c.args.reader.now) c.loop-test.true c.in_ok-parse.ensures c.loop.invariant)

pub returns : goal.returns
returns g c =
    let form = g.T.Xdr.form in
    is_done form c.loop.items.items c.args.count c.loop.counter c.loop.reader (many form c.args.count c.args.reader.now) c.loop-test.false c.loop.invariant
