use Rattle.run_ends.proofs.mechanisms.Steps.{dest_same, source_same}
use Rattle.run_ends.proofs.mechanisms.laws.mechanisms_stay.Goals as goal
use Rattle.run_ends.specs.Ends.{count_gives, words_of}

pub returns : goal.returns
returns g c =
    let words = words_of g.M.Mechanism.mic_of g.M.Mechanism.derived g.M.Mechanism.started g.M.Mechanism.accepted g.M.Mechanism.finished count_gives in
    record {
      source = λ act now s before t after out. source_same words c.own_parts_go_on.ensures.step act now s before t after out;
      dest = λ act now s before t after out. dest_same words c.own_parts_go_on-2.ensures.step act now s before t after out;
    }
