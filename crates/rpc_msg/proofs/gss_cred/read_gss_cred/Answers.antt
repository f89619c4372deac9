use Rattle.rpc_msg.specs.GssCred.{gss_cred}
use Rattle.rpc_msg.proofs.HeadLaws.{reads_whole}
use Rattle.rpc_msg.proofs.gss_cred.read_gss_cred.Goals as goal

pub returns : goal.returns
returns c = reads_whole gss_cred c.args.body.now c.read_all.result c.read_all.ensures
