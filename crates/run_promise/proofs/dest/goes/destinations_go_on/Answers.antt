use Rattle.std.specs.Prelude.{slice_get}
use Rattle.nfs_base.specs.declared.seal.End.TheVariants.{Dest}
use Rattle.run_ends.specs.Ends.{count_gives, machines, words_of}
use Rattle.run_promise.proofs.dest.Going.{goes_on}
use Rattle.run_promise.proofs.dest.goes.destinations_go_on.Goals as goal
use Rattle.run_promise.specs.System.System.{opening_of, telling}
use Rattle.wire_machine.specs.History.{acts_at, at_moment}

pub returns : goal.returns
returns g c mech first steps spell meaning seen purposes is are never k spelled =
    let t = g.M.Mechanism in
    let words = words_of t.mic_of t.derived t.started t.accepted t.finished count_gives in
    let shown = c.destinations_are_shown.ensures in
    goes_on words spell meaning (opening_of (machines words) (record { mic = t.mic_of; derived = t.derived }) spell meaning seen first steps purposes) k
    (at_moment (machines words) (telling (record { mic = t.mic_of; derived = t.derived })) spell meaning first steps k) (slice_get steps k)
    (acts_at (machines words) (telling (record { mic = t.mic_of; derived = t.derived })) spell meaning first steps Dest k).executed
    (shown.step mech first steps spell meaning seen purposes is are never k) (shown.quiet first steps spell meaning k) spelled
    (shown.did mech first steps spell meaning is are never k)
