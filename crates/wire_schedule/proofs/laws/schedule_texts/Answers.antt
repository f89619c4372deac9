use Rattle.wire_schedule.proofs.TextLemmas.{text_reads_back}
use Rattle.wire_schedule.proofs.laws.schedule_texts.Goals as goal

pub returns : goal.returns
returns c = text_reads_back
