use Rattle.single_copy.proofs.Puts.{sends_join}
use Rattle.single_copy.proofs.links.send_marked.Goals as goal

pub returns : goal.returns
returns g c =
    sends_join _ _ _ _ _ _ c.args.bytes.now (rw c.mark.ensures at c.send_piece.ensures) c.send_piece-2.ensures
