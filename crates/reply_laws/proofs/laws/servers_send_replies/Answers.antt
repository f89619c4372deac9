use Rattle.reply_laws.proofs.Owners.{turn_stays}
use Rattle.reply_laws.proofs.Turns.{turn_good}
use Rattle.reply_laws.proofs.laws.servers_send_replies.Goals as goal

pub returns : goal.returns
returns g c = record {
  answers = λ tokens second conn bytes s before after t sized all turn. turn_good _ _ sized tokens _ second conn s bytes all before after t turn;
  owner = λ tokens second conn judged s before after t turn. turn_stays _ _ tokens _ second conn s judged before after t turn;
}
