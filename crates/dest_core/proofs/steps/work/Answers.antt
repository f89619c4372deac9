use Rattle.std.proofs.Common.{ℕ, [], subst, sym, ◌∙◌}
use Rattle.server_volume.specs.Moments.{Counted}
use Rattle.server_volume.specs.Store.{seat_of}
use Rattle.dest_core.proofs.Hosts.{counted_put}
use Rattle.dest_core.proofs.Turns.{undrawn_is, work_told}
use Rattle.dest_core.specs.Landing.{landed_by, LandsTold}
use Rattle.dest_core.proofs.steps.work.Goals as goal

pub make_turn-requires-clause-counted : goal.make_turn-requires-clause-counted
make_turn-requires-clause-counted g c =
    let due = c.turn_due in
    counted_put c.args.host.now due.new.server due.new.server.files.extra.copier due.ensures.same due.ensures.given c.requires.counted

pub returns-clause-is : goal.returns-clause-is
returns-clause-is g c = λ told.
    work_told g.W.Draws.gives (g.M.Mechanism.started c.args.host.now.server.files.extra.mech) (record { mic = g.M.Mechanism.mic_of; derived = g.M.Mechanism.derived }) g.D.Disk.size
    c.args.place c.args.now c.second_at-second.result c.in_ok-turn.turn c.args.host.now c.make_turn.new.host c.turn_due.new.server c.args.draws.now c.turn_due.new.draws c.make_turn.result
    c.second_at-second.ensures c.turn_due.ensures.same c.in_ok-turn.ensures.turn (c.make_turn.ensures.is told)

pub returns-clause-ran : goal.returns-clause-ran
returns-clause-ran g c =
    let D = g.D.Disk in
    let seat = seat_of D.size D.fuse D.timeline D.faults in
    subst (λ s. Counted D.Told (seat s.files.volume) (seat c.make_turn.new.host.server.files.volume) [] c.make_turn.result.used) c.turn_due.ensures.same (c.make_turn.ensures.ran)

pub returns-clause-undrawn : goal.returns-clause-undrawn
returns-clause-undrawn g c = λ drawn. c.in_ok-turn.ensures.undrawn (undrawn_is c.in_ok-turn.turn (sym c.make_turn.ensures.undrawn ∙ drawn))

pub make_turn-requires-clause-silent : goal.make_turn-requires-clause-silent
make_turn-requires-clause-silent g c = c.turn_due.ensures.told ∙ c.requires.silent

pub returns-clause-lands : goal.returns-clause-lands
returns-clause-lands g c =
    subst (λ (n : ℕ). LandsTold n (landed_by c.make_turn.new.host) c.make_turn.result.notes) c.turn_due.ensures.keeps.bytes c.make_turn.ensures.lands
