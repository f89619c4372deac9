use Rattle.wire_model.proofs.Answered.{answers_told, executed_once, calls_simple}
use Rattle.wire_model.proofs.wires.lawful_wires.Goals as goal

pub returns-clause-told : goal.returns-clause-told
returns-clause-told c = answers_told

pub returns-clause-once : goal.returns-clause-once
returns-clause-once c = executed_once

pub returns-clause-simple : goal.returns-clause-simple
returns-clause-simple c = calls_simple
