use Rattle.std.proofs.Common.{◌∙◌, ap, length}
use Rattle.gss_ctx.proofs.EndLemmas.{front_fits, code_sized, xid_of}
use Rattle.gss_ctx.proofs.sealer.write_front.Goals as goal

pub put-requires : goal.put-requires
put-requires g c =
    let sized = code_sized g.M.Mechanism.mic_of c.args.key.now c.args.head.now c.args.seq g.met.M.Mechanism.sized in
    rw c.in_ok-code_auth.ensures
    (front_fits c.args.head.now.xid c.in_ok-reply_code.field-0 c.args.what (xid_of c.args.head.now c.requires.head) (ap length c.in_ok-reply_code.ensures ∙ sized) c.requires.fits)
