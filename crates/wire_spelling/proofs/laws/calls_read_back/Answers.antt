use Rattle.wire_spelling.specs.ReadLaws.{call_is_no_reply, call_read_back, call_xid, ops_back, unsealed_carried, xid_small}
use Rattle.wire_spelling.specs.RunLaws.{session_back}
use Rattle.wire_spelling.proofs.laws.calls_read_back.Goals as goal

pub returns : goal.returns
returns g c = record {
  head = call_read_back;
  no_reply = call_is_no_reply;
  xid = λ head body fits. call_xid head body (xid_small head fits);
  ops = λ key side head seq args fits small. ops_back (g.M.Mechanism.mic_of key side) head seq args (g.met.M.Mechanism.sized key side) fits small;
  found = λ key side. unsealed_carried (g.M.Mechanism.mic_of key side);
  session = session_back;
}
