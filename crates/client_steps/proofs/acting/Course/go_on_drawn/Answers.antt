use Rattle.std.proofs.Common.{◌∙◌, ap, Some}
use Rattle.streams.specs.declared.draws.Drawn.TheVariants.{Got}
use Rattle.client_steps.specs.Acting.{Acting, all_go_on}
use Rattle.client_steps.proofs.acting.Course.go_on_drawn.Goals as goal

pub returns-in_ok-go_on_up-in-Got-clause-is : goal.returns-in_ok-go_on_up-in-Got-clause-is
returns-in_ok-go_on_up-in-Got-clause-is g c =
    let mic = g.M.Mechanism.mic_of in
    let s = c.args.setting.now in (
      Got c.in-Got.nonce,
      c.in-Got.ensures.given,
      ap (λ (a : Acting). Some a)
          (c.in_ok-go_on_up-in-Got.ensures ∙ ap (λ (a : Acting). all_go_on s mic a) c.in_ok-begin-in-Got.ensures),
    )
