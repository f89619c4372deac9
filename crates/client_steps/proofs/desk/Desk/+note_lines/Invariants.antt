use Rattle.std.proofs.Common.{length}
use Rattle.client_steps.proofs.desk.Desk.+note_lines.Given as goal

abbrev pub decreases-note_lines : goal.decreases-note_lines
decreases-note_lines l = length l.lines.now
