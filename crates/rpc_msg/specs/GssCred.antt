-- The credential of RPCSEC_GSS (RFC 2203 section 5), as it stands in the body of an auth of flavor 6.
use Rattle.std.specs.Prelude.{ℕ, refl}
use Rattle.std.proofs.Common.{lit<}
use Rattle.wire_xdr.specs.Form.{Form}
use Rattle.wire_xdr.specs.Forms.{word, opaque, both, seen_as}
use Rattle.rpc_msg.specs.declared.numbers.TheConstants.{AUTH_LIMIT}
use Rattle.rpc_msg.specs.declared.gss_cred.GssCred.{GssCred}

unfoldable pub gss_cred : Form GssCred
gss_cred =
    seen_as (λ v. record { version = v.0; gss_proc = v.1.0; seq_num = v.1.1.0; service = v.1.1.1.0; handle = v.1.1.1.1 })
    (λ v. (v.version, (v.gss_proc, (v.seq_num, (v.service, v.handle))))) (λ v. refl) (λ v. refl)
    (both word (both word (both word (both word (opaque AUTH_LIMIT (lit< tt))))))
