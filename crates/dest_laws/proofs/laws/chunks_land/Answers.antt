use Rattle.dest_laws.proofs.Chunks.{brought_lands, held_lands, whole_commits}
use Rattle.dest_laws.proofs.laws.chunks_land.Goals as goal

pub returns-clause-brought : goal.returns-clause-brought
returns-clause-brought c = brought_lands

pub returns-clause-held : goal.returns-clause-held
returns-clause-held c = held_lands

pub returns-clause-committed : goal.returns-clause-committed
returns-clause-committed c = whole_commits
