use Rattle.dest_core.specs.Serving.{given}
use Rattle.run_ends.specs.Ends.{count_gives, words_of}
use Rattle.run_promise.proofs.dest.Numbers.{AreCounted, gives_one}
use Rattle.run_promise.proofs.Premises.{calls_none}
use Rattle.run_promise.proofs.dest.Records.{AreServed}
use Rattle.run_promise.proofs.dest.Whole.{few_at}
use Rattle.run_promise.proofs.dest.dests.jobs_are_few.Goals as goal
use Rattle.wire_meaning.specs.Meaning.{meaning}
use Rattle.wire_spelling.specs.Spelling.{spelling}

pub returns : goal.returns
returns g c mech first steps accepts whose is are never =
    let k = g.M.Mechanism in
    let words = words_of k.mic_of k.derived k.started k.accepted k.finished count_gives in
    let shown = c.destinations_are_shown.ensures in
    let served : AreServed words = record {
      good = c.contexts_stay.ensures.good;
      owner = c.steps_are_lawful.ensures.owner;
      changes = λ mech. c.servers_change_volumes_lawfully.ensures.laws mech calls_none;
      writes = c.servers_change_volumes_lawfully.ensures.writes;
    } in
    let counted : AreCounted words = record {
      turns = λ mech. c.own_parts_give_few.ensures given mech gives_one;
      kinds = c.steps_carry_compounds_out.ensures.kind;
      work = c.steps_give_one_entry.ensures.work;
      reply = c.steps_give_one_entry.ensures.reply;
      tick = c.steps_give_one_entry.ensures.tick;
    } in
    few_at words accepts whose first steps mech is never served (shown.did mech first steps (spelling accepts whose) meaning is are never)
    c.contexts_rest.ensures.start counted
