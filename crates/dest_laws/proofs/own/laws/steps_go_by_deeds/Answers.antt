use Rattle.dest_laws.proofs.own.Steps.{by_count, by_kind}
use Rattle.dest_laws.proofs.own.laws.steps_go_by_deeds.Goals as goal
use Rattle.dest_laws.specs.Histories.Kinds.{is_end, is_taking}

pub returns : goal.returns
returns g c =
    let told = c.steps_give_one_entry.ensures in
    record {
      record_ = λ mech conn message now s before after t is.
          by_kind is_taking _ _ (c.records_take_and_end.ensures.record_ mech conn message now s before after t is);
      work = λ started codes place now s before after t is. by_count 0 1 _ _ (told.work started codes place now s before after t is);
      reply = λ codes finish place message now s t is. by_count 0 1 _ _ (told.reply codes finish place message now s t is);
      failure = λ codes place s. by_count 0 1 _ _ (told.failure codes place s);
      tick = λ codes now s. by_kind is_end _ _ (c.records_take_and_end.ensures.tick codes now s);
    }
