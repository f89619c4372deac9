use Rattle.std.proofs.Common.{length}
use Rattle.client_steps.proofs.parting.+next_file.Given as goal

abbrev pub decreases-next_file : goal.decreases-next_file
decreases-next_file l = length l.files.now
