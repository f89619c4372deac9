use Rattle.std.proofs.Common.{List, subst, ◌∙◌, arith}
use Rattle.server_volume.specs.Choices.{Agrees}
use Rattle.server_volume.specs.Store.{seat_of}
use Rattle.server_volume.specs.declared.used.Used.{Used}
use Rattle.dest_core.proofs.Hosts.{still_counted}
use Rattle.dest_core.proofs.Turns.{ran_within, turn_told}
use Rattle.dest_core.proofs.Landings.{few_told, lands_told, none_untold}
use Rattle.dest_core.specs.Landing.{copies_in}
use Rattle.dest_core.proofs.steps.make_turn.Goals as goal

pub finish-requires-clause-counted : goal.finish-requires-clause-counted
finish-requires-clause-counted g c =
    let made = c.make_turn_on-sent in
    still_counted c.second_comes.new.host made.new.files made.ensures.opens made.ensures.given c.second_comes.ensures.counted

pub returns-clause-is : goal.returns-clause-is
returns-clause-is g c = λ told choice agrees.
    let made = c.make_turn_on-sent in
    turn_told g.D.Disk.size choice c.args.place c.args.now c.args.turn c.args.host.now c.second_comes.new.host made.new.files made.result _ made.new.used c.is_undrawn-undrawn.result _
    c.second_comes.ensures.is made.ensures.opens made.ensures.rest (cc)
    (made.ensures.does told choice (subst (λ (us : List Used). Agrees choice us) c.finish.ensures.used agrees)) c.is_undrawn-undrawn.ensures c.finish.ensures.is

pub returns-clause-ran : goal.returns-clause-ran
returns-clause-ran g c =
    let D = g.D.Disk in
    let made = c.make_turn_on-sent in
    ran_within (seat_of D.size D.fuse D.timeline D.faults) c.args.host.now.server.files.volume c.second_comes.new.host.server.files.volume made.new.files.volume c.finish.new.host.server.files.volume
    _ made.new.used c.finish.result.used c.second_comes.ensures.volume c.finish.ensures.volume (cc) c.finish.ensures.used (made.ensures.ran)

pub returns-clause-lands : goal.returns-clause-lands
returns-clause-lands g c =
    let came = copies_in c.second_comes.new.host in
    let made = c.make_turn_on-sent in
    let none = c.second_comes.ensures.keeps.untold ∙ none_untold (copies_in c.args.host.now) c.requires.silent in
    let few = few_told (copies_in c.args.host.now) came 16 c.requires.silent c.second_comes.ensures.notes (omega arith) in
    lands_told (copies_in c.args.host.now) came made.new.files.extra.copier.copies (copies_in c.finish.new.host) c.finish.result.notes none few
    c.second_comes.ensures.keeps.bytes made.ensures.lands c.finish.ensures.notes c.finish.ensures.landed
