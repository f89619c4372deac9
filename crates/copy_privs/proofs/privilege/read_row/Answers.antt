use Rattle.std.proofs.Common.{◌≡◌, ◌==◌, length, true, false, [], refl, sym, ◌∙◌}
use Rattle.copy_privs.proofs.Reading.{only_told}
use Rattle.copy_privs.proofs.privilege.read_row.Goals as goal

pub returns-else-is_empty-clause-only : goal.returns-else-is_empty-clause-only
returns-else-is_empty-clause-only c p fits is =
    let told = only_told c.args.row c.in_ok-privilege.field-0 c.new-reader.result c.read_by.new.reader c.args.bytes.now c.new-reader.ensures.bytes c.in_ok-privilege.ensures.read p fits is in
    let nothing : c.rest.result.now ≡ [] = c.rest.ensures.rest ∙ told.1 in
    let none : (length c.rest.result.now == 0) ≡ true = rw nothing refl in
    let wrong : true ≡ false = sym none ∙ sym c.is_empty.ensures ∙ c.if-is_empty.false in
    let never : ⊥ = cc in
    absurd never

pub returns-in-Err-clause-only : goal.returns-in-Err-clause-only
returns-in-Err-clause-only c p fits is =
    let told = only_told c.args.row c.in_ok-privilege.field-0 c.new-reader.result c.read_by.new.reader c.args.bytes.now c.new-reader.ensures.bytes c.in_ok-privilege.ensures.read p fits is in
    let other = c.in-Err.is in
    let never : ⊥ = cc in
    absurd never
