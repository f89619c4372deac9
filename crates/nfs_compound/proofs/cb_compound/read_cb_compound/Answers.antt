use Rattle.std.proofs.Common.{◌≡◌, Ok, subst, ◌∙◌}
use Rattle.wire_xdr.specs.Cursor.{Cursor, IsBytes}
use Rattle.nfs_compound.specs.Compounds.{cb_compound_at}
use Rattle.nfs_compound.proofs.Reading.{starts}
use Rattle.nfs_compound.proofs.Compounds.{cb_compound_found}
use Rattle.nfs_compound.proofs.cb_compound.read_cb_compound.Goals as goal

pub returns-in-Ok-clause-found : goal.returns-in-Ok-clause-found
returns-in-Ok-clause-found c =
    let begin = starts c.new-reader.result c.args.bytes.now c.new-reader.ensures.start c.new-reader.ensures.bytes in
    let bytes : IsBytes c.args.bytes.now = subst IsBytes (c.rest-rest.ensures.rest ∙ c.new-reader.ensures.bytes) c.rest-rest.ensures.bytes in
    cb_compound_found c.args.bytes.now c.in-Ok.compound bytes (subst (λ (s : Cursor). cb_compound_at s ≡ Ok c.in-Ok.compound) begin c.in-Ok.ensures)
