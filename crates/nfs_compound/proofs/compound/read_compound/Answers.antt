use Rattle.std.proofs.Common.{◌≡◌, ℕ, List, Ok, subst, ◌∙◌}
use Rattle.wire_xdr.specs.Cursor.{Cursor, IsBytes}
use Rattle.nfs_compound.specs.declared.compound.Compound.{Compound}
use Rattle.nfs_compound.specs.Compounds.{compound_at, IsCompound}
use Rattle.nfs_compound.proofs.Reading.{starts}
use Rattle.nfs_compound.proofs.Compounds.{compound_found, compound_is_few}
use Rattle.nfs_compound.proofs.compound.read_compound.Goals as goal

-- what a reader at the first byte reads, where it lends all bytes
is_found : (reader : Cursor) (rest bytes : List ℕ) (compound : Compound) → reader.at ≡ 0 → reader.rest ≡ bytes → rest ≡ reader.rest → IsBytes rest → compound_at reader ≡ Ok compound → IsCompound compound bytes
is_found reader rest bytes compound at all lent octets read =
    compound_found bytes compound (subst IsBytes (lent ∙ all) octets) (subst (λ (c : Cursor). compound_at c ≡ Ok compound) (starts reader bytes at all) read)

pub returns-in-Ok-clause-found : goal.returns-in-Ok-clause-found
returns-in-Ok-clause-found c =
    is_found c.new-reader.result c.rest-rest.result.now c.args.bytes.now c.in-Ok.compound c.new-reader.ensures.start c.new-reader.ensures.bytes c.rest-rest.ensures.rest c.rest-rest.ensures.bytes c.in-Ok.ensures

pub returns-in-Ok-clause-tag : goal.returns-in-Ok-clause-tag
returns-in-Ok-clause-tag c =
    (is_found c.new-reader.result c.rest-rest.result.now c.args.bytes.now c.in-Ok.compound c.new-reader.ensures.start c.new-reader.ensures.bytes c.rest-rest.ensures.rest c.rest-rest.ensures.bytes c.in-Ok.ensures).fits.tag

pub returns-in-Ok-clause-few : goal.returns-in-Ok-clause-few
returns-in-Ok-clause-few c =
    compound_is_few c.args.bytes.now c.in-Ok.compound
    (is_found c.new-reader.result c.rest-rest.result.now c.args.bytes.now c.in-Ok.compound c.new-reader.ensures.start c.new-reader.ensures.bytes c.rest-rest.ensures.rest c.rest-rest.ensures.bytes c.in-Ok.ensures)
