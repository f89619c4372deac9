use Rattle.streams.specs.FrontLaws.{front_more}
use Rattle.streams.proofs.whole.puts_join.Goals as goal

pub returns-clause-all : goal.returns-clause-all
returns-clause-all c = front_more
