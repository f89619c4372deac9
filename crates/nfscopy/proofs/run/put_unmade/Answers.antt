use Rattle.std.proofs.Common.{inl, ℕ, List, sym, ◌∙◌, subst}
use Rattle.wire_run.specs.declared.fresh.Unmade.{Unmade}
use Rattle.command_line.specs.declared.ends.RunEnd.TheVariants.{NoVolume}
use Rattle.nfscopy.specs.Puts.{LastPut, UnmadePut}
use Rattle.nfscopy.proofs.run.put_unmade.Goals as goal

pub returns-in-Ok-not_volume_line-clause-puts : goal.returns-in-Ok-not_volume_line-clause-puts
returns-in-Ok-not_volume_line-clause-puts g c =
    let put = c.put_last-in-Ok-not_volume_line in
    subst (λ (u : Unmade). UnmadePut (g.K.Stream.takes c.args.output.now).taken (g.K.Stream.takes put.new.output).taken (g.K.Stream.takes c.args.output.now).faults (g.K.Stream.takes put.new.output).faults u put.result)
    (sym c.in-NotVolume.is)
    (inl (subst (λ (line : List ℕ). LastPut (g.K.Stream.takes c.args.output.now).taken (g.K.Stream.takes put.new.output).taken (g.K.Stream.takes c.args.output.now).faults (g.K.Stream.takes put.new.output).faults line NoVolume put.result)
    (c.as_bytes-in-Ok-not_volume_line.ensures.value ∙ c.in-Ok-not_volume_line.ensures) put.ensures.puts))
