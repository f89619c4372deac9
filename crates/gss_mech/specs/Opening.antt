-- The token of a realm that begins a context (own profile): the principal's name of at most 64 bytes, the
-- initiator's nonce, and a code.
use Rattle.std.specs.Prelude.{refl}
use Rattle.std.proofs.Common.{lit<}
use Rattle.gss_mech.specs.declared.token.Opening.{Opening}
use Rattle.wire_xdr.specs.Form.{Form}
use Rattle.wire_xdr.specs.Forms.{both, seen_as, opaque, fixed}

unfoldable pub opening : Form Opening
opening = seen_as (λ v. record { principal = v.0; nonce = v.1.0; code = v.1.1 }) (λ v. (v.principal, (v.nonce, v.code))) (λ v. refl) (λ v. refl) (both (opaque 64 (lit< tt)) (both (fixed 32) (fixed 32)))
