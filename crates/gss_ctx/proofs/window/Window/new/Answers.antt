use Rattle.gss_ctx.proofs.WindowLemmas.{none_is}
use Rattle.gss_ctx.proofs.window.Window.new.Goals as goal

pub returns : goal.returns
returns c = none_is
