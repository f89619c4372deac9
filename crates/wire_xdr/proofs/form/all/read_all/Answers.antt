use Rattle.std.proofs.Common.{◌∙◌, eqb, length, ℕ, List, sym, ap, subst}
use Rattle.wire_xdr.specs.Cursor.{IsBytes}
use Rattle.wire_xdr.proofs.All.{whole_value, more_behind, no_value}
use Rattle.wire_xdr.proofs.form.all.read_all.Goals as goal

pub returns-then-is_empty : goal.returns-then-is_empty
returns-then-is_empty g c =
    let bytes = subst IsBytes (c.rest-rest.ensures.rest ∙ c.new-reader.ensures.bytes) c.rest-rest.ensures.bytes in
    whole_value g.T.Xdr.form c.args.bytes.now c.new-reader.result c.in-Ok.value c.parse.new.reader bytes c.new-reader.ensures.start c.new-reader.ensures.bytes c.in-Ok.ensures
    (ap (λ (r : List ℕ). eqb (length r) 0) (sym c.rest.ensures.rest) ∙ sym c.is_empty.ensures ∙ c.if-is_empty.true)

pub returns-else-is_empty : goal.returns-else-is_empty
returns-else-is_empty g c =
    let bytes = subst IsBytes (c.rest-rest.ensures.rest ∙ c.new-reader.ensures.bytes) c.rest-rest.ensures.bytes in
    rw c.at.ensures
    (more_behind g.T.Xdr.form c.args.bytes.now c.new-reader.result c.in-Ok.value c.parse.new.reader bytes c.new-reader.ensures.start c.new-reader.ensures.bytes c.in-Ok.ensures
    (ap (λ (r : List ℕ). eqb (length r) 0) (sym c.rest.ensures.rest) ∙ sym c.is_empty.ensures ∙ c.if-is_empty.false))

pub returns-in-Err-Bad : goal.returns-in-Err-Bad
returns-in-Err-Bad g c =
    let bytes = subst IsBytes (c.rest-rest.ensures.rest ∙ c.new-reader.ensures.bytes) c.rest-rest.ensures.bytes in
    let told = rw c.in-Err-Bad.field-0-is at c.in-Err-Bad.ensures in
    rw c.in-Err-Bad.bad-is (no_value g.T.Xdr.form c.args.bytes.now c.new-reader.result c.in-Err-Bad.bad bytes c.new-reader.ensures.start c.new-reader.ensures.bytes told)
