use Rattle.std.proofs.Common.{◌≡◌, ℕ, List, ◌++◌, length, sym, ap, ◌∙◌, append-nil}
use Rattle.std.specs.Prelude.{replicate}
use Rattle.wire_xdr.specs.Words.{fixed_bytes, padding}
use Rattle.compound_server.specs.PageLaws.{added_as}
use Rattle.dest_core.proofs.saying.put_verifier.Goals as goal

-- eight bytes have no padding
whole : (bytes : List ℕ) → length bytes ≡ 8 → bytes ≡ fixed_bytes bytes
unfolding fixed_bytes
whole bytes is = sym (ap (λ (n : ℕ). bytes ++ replicate (padding n) 0) is ∙ append-nil bytes)

pub returns-clause-added : goal.returns-clause-added
returns-clause-added c = added_as (whole c.args.verifier.now c.told-verifier) c.append.ensures.added
