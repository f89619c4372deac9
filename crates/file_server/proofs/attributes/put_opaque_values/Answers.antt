use Rattle.std.proofs.Common.{List, ℕ, sym, subst}
use Rattle.wire_xdr.specs.Page.{Added}
use Rattle.file_server.proofs.Values.{values_spelled}
use Rattle.file_server.proofs.attributes.put_opaque_values.Goals as goal

pub returns-clause-added : goal.returns-clause-added
returns-clause-added c =
    subst (λ (text : List ℕ). Added c.args.page.now text c.put_values.new.page) (sym (values_spelled c.args.mask c.args.told.now)) c.put_values.ensures.added
