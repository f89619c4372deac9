use Rattle.nfs_base.specs.declared.seal.End.TheVariants.{Dest}
use Rattle.wire_model.specs.Examples.{spelling, wire, seal_of, call, kept_answer}
use Rattle.wire_model.proofs.SmallWire.{wire_is_lawful, takes_kept_answer, told_once}
use Rattle.wire_model.proofs.sanity.kept_answer_example.Goals as goal

pub returns-clause-lawful : goal.returns-clause-lawful
returns-clause-lawful c = wire_is_lawful

pub returns-clause-takes : goal.returns-clause-takes
returns-clause-takes c = takes_kept_answer

pub returns-clause-told : goal.returns-clause-told
returns-clause-told c =
    c.lawful_wires.ensures.told spelling wire wire_is_lawful 6 Dest call (seal_of 2) kept_answer (λ e. absurd (cc)) takes_kept_answer

pub returns-clause-step : goal.returns-clause-step
returns-clause-step c = told_once
