use Rattle.dest_tasks.proofs.Commits.{commit_is_right}
use Rattle.dest_tasks.proofs.laws.commits_are_whole.Goals as goal

pub returns-clause-running : goal.returns-clause-running
returns-clause-running c see left after b name is = (commit_is_right see left after b name is).running

pub returns-clause-whole : goal.returns-clause-whole
returns-clause-whole c see left after b name is = (commit_is_right see left after b name is).whole
