use Rattle.std.specs.Prelude.{length}
use Rattle.run_promise.proofs.dest.copies.shown_copies_are_lawful.Goals as goal

pub returns : goal.returns
returns g c mech first steps spell meaning seen purposes is are never lands holds safe k =
    let shown = c.destinations_are_shown.ensures in
    let last = length steps in
    c.runs_keep_copies.ensures spell meaning _ _ _ last (shown.run mech first steps spell meaning seen purposes is are never).run
    (shown.start mech first steps spell meaning seen purposes is).none_made (shown.last first steps spell meaning seen purposes) lands holds safe k
