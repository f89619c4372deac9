use Rattle.std.proofs.Common.{inl}
use Rattle.dest_laws.proofs.copies.Steps.{failure_story, reply_story, rest_story, tick_story, work_story}
use Rattle.dest_laws.proofs.copies.laws.steps_have_stories.Goals as goal

pub returns : goal.returns
returns g c =
    let quiet = c.steps_give_one_entry.ensures.begin in
    let ends = c.records_take_and_end.ensures in
    record {
      record_ = λ mech conn message now s before after t is. inl (ends.record_ mech conn message now s before after t is);
      work = work_story _ quiet;
      reply = reply_story;
      failure = failure_story;
      tick = tick_story quiet;
      rest = rest_story;
    }
