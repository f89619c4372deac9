use Rattle.std.proofs.Common.{suc}
use Rattle.run_promise.proofs.owing.openings.openings_owe_all.Goals as goal
use Rattle.wire_meaning.specs.Meaning.{meaning}
use Rattle.wire_spelling.specs.Spelling.{spelling}

pub returns : goal.returns
returns g c =
    let goes = c.destinations_go_as_callers.ensures in
    let names = c.names_are_lawful.ensures in
    let spelled = c.what_is_awaited_is_spelled.ensures in
    let own = c.names_are_lawful-2.ensures.own in
    record {
      all = λ mech first steps accepts whose seen purposes begun are never owns gives tokens.
          let as_caller = goes mech first steps accepts whose begun are never owns gives tokens in
          record {
            calls = c.destinations_are_lawful_callers.ensures mech first steps accepts whose seen purposes begun as_caller;
            volume = c.volumes_are_lawful.ensures mech first steps accepts whose seen purposes begun are never (λ k. spelled _ (as_caller k).fit);
            start = c.destinations_are_shown.ensures.start mech first steps (spelling accepts whose) meaning seen purposes begun;
            copies =
                c.copies_are_lawful.ensures mech first steps accepts whose seen purposes begun are never (λ k. spelled _ (as_caller k).fit)
                (λ k. names.safe mech first steps accepts whose seen purposes begun are never
                (λ l. own _ _ (as_caller l).settled.good (as_caller l).settled.server) (suc k));
            names =
                names.laws mech first steps accepts whose seen purposes begun are never
                (λ l. own _ _ (as_caller l).settled.good (as_caller l).settled.server);
          };
      safe = λ mech first steps accepts whose seen purposes begun are never owns gives tokens k.
          let as_caller = goes mech first steps accepts whose begun are never owns gives tokens in
          names.safe mech first steps accepts whose seen purposes begun are never
          (λ l. own _ _ (as_caller l).settled.good (as_caller l).settled.server) k;
    }
