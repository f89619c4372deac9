use Rattle.std.proofs.Common.{eqb, length, sym, ap, ◌∙◌, ℕ, List}
use Rattle.nfs_compound.specs.Body.{one_at, body_at}
use Rattle.nfs_compound.proofs.Bodies.{goes_on, is_cut_off, stops, ends, trails}
use Rattle.nfs_compound.proofs.body.parse_body.Goals as goal

pub returns-then-is_last : goal.returns-then-is_last
returns-then-is_last g c =
    let one = one_at g.O.Operation.class g.O.XdrBy.form in
    let cut = g.O.Operation.is_cut in
    rw c.in_ok-push-in-Ok.ensures.ok
    (is_cut_off one cut c.loop-place.ops c.args.count c.loop-place.place c.loop-place.reader c.in-Ok.op c.parse_one.new.reader (body_at one cut c.args.count 0 c.args.reader.now) c.loop-place-test.true
    (rw c.in-Ok.is at c.in_ok-op.ensures) (sym c.cuts-is_last.ensures ∙ c.if-is_last.true) c.loop-place.invariant)

pub returns-in-Err : goal.returns-in-Err
returns-in-Err g c =
    let one = one_at g.O.Operation.class g.O.XdrBy.form in
    let cut = g.O.Operation.is_cut in
    stops one cut c.loop-place.ops c.args.count c.loop-place.place c.loop-place.reader c.in-Err.tail (body_at one cut c.args.count 0 c.args.reader.now) c.loop-place-test.true
    (rw c.in-Err.is at c.in_ok-op.ensures) c.loop-place.invariant

pub loop-place-preserved : goal.loop-place-preserved
loop-place-preserved g c =
    let one = one_at g.O.Operation.class g.O.XdrBy.form in
    let cut = g.O.Operation.is_cut in
    rw c.in_ok-push-in-Ok.ensures.ok
    (goes_on one cut c.loop-place.ops c.args.count c.loop-place.place c.loop-place.reader c.in-Ok.op c.parse_one.new.reader (body_at one cut c.args.count 0 c.args.reader.now) c.loop-place-test.true
    (rw c.in-Ok.is at c.in_ok-op.ensures) (sym c.cuts-is_last.ensures ∙ c.if-is_last.false) c.loop-place.invariant)

pub returns-then-is_empty : goal.returns-then-is_empty
returns-then-is_empty g c =
    let one = one_at g.O.Operation.class g.O.XdrBy.form in
    let cut = g.O.Operation.is_cut in
    ends one cut c.loop-place.ops c.args.count c.loop-place.place c.loop-place.reader (body_at one cut c.args.count 0 c.args.reader.now) c.loop-place-test.false
    (ap (λ (r : List ℕ). eqb (length r) 0) (sym c.rest.ensures.rest) ∙ sym c.is_empty.ensures ∙ c.if-is_empty.true) c.loop-place.invariant

pub returns-else-is_empty : goal.returns-else-is_empty
returns-else-is_empty g c =
    let one = one_at g.O.Operation.class g.O.XdrBy.form in
    let cut = g.O.Operation.is_cut in
    rw (c.at-else-is_empty.ensures, c.at.ensures)
    (trails one cut c.loop-place.ops c.args.count c.loop-place.place c.loop-place.reader (body_at one cut c.args.count 0 c.args.reader.now) c.loop-place-test.false
    (ap (λ (r : List ℕ). eqb (length r) 0) (sym c.rest.ensures.rest) ∙ sym c.is_empty.ensures ∙ c.if-is_empty.false) c.loop-place.invariant)
