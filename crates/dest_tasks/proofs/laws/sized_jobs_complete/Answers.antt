use Rattle.dest_tasks.proofs.Completed.{all_are_left, commit_due, commits_end, goes_left, goes_running, goes_sized, goes_whole}
use Rattle.dest_tasks.proofs.laws.sized_jobs_complete.Goals as goal

pub returns-clause-begun : goal.returns-clause-begun
returns-clause-begun c = all_are_left

pub returns-clause-left : goal.returns-clause-left
returns-clause-left c = goes_left

pub returns-clause-sized : goal.returns-clause-sized
returns-clause-sized c = goes_sized

pub returns-clause-running : goal.returns-clause-running
returns-clause-running c = goes_running

pub returns-clause-whole : goal.returns-clause-whole
returns-clause-whole c = goes_whole

pub returns-clause-task : goal.returns-clause-task
returns-clause-task c = commit_due

pub returns-clause-committed : goal.returns-clause-committed
returns-clause-committed c = commits_end
