use Rattle.std.proofs.Common.{◌∙◌, ap}
use Rattle.copy_privs.specs.Create.{confirmation, confirm_refusal}
use Rattle.copy_privs.specs.Further.{further}
use Rattle.copy_privs.proofs.Confirmed.{one_more}
use Rattle.copy_privs.proofs.create.refuse_confirm.Goals as goal

pub returns : goal.returns
returns g c seen is =
    c.further.ensures
    ∙ ap (λ first. further first c.refuse_one.result) is
    ∙ ap (λ second. further (confirm_refusal g.M.Mechanism.mic_of c.args.peers.now (confirmation c.args.asked.now) seen) second) c.refuse_one.ensures
    ∙ one_more g.M.Mechanism.mic_of c.args.peers.now (confirmation c.args.asked.now) seen c.args.carried.now
