use Rattle.std.specs.Prelude.{IsTrue}
use Rattle.disk_model.specs.Passes as laws
use Rattle.disk_model.proofs.crashes.crash_laws.Goals as goal

pub returns-clause-joined : goal.returns-clause-joined
returns-clause-joined c = λ p. laws.passes_on (λ image. IsTrue (p image))

pub returns-clause-crashed : goal.returns-clause-crashed
returns-clause-crashed c = λ p. laws.crashed (λ image. IsTrue (p image))
