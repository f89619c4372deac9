use Rattle.std.proofs.Common.{◌≡◌, ◌<◌, List, length, subst, ap, ◌∙◌, arith}
use Rattle.dest_jobs.specs.Counting.{bytes_in, untold_in}
use Rattle.dest_jobs.specs.declared.copies.Copies.{Copies}
use Rattle.outbox.specs.declared.note.TheConstants.{MOST_NOTES}
use Rattle.server_volume.specs.Choices.{Agrees}
use Rattle.server_volume.specs.Store.{seat_of}
use Rattle.server_volume.specs.declared.used.Used.{Used}
use Rattle.dest_core.proofs.Hosts.{still_counted}
use Rattle.dest_core.proofs.Turns.{effect_told, ran_within}
use Rattle.dest_core.proofs.Landings.{lands_told}
use Rattle.dest_core.specs.Landing.{copies_in}
use Rattle.dest_core.proofs.steps.make_effect.Goals as goal

pub finish-requires-clause-counted : goal.finish-requires-clause-counted
finish-requires-clause-counted g c =
    let made = c.make_effect_on-sent in
    still_counted c.tick.new.self made.new.files made.ensures.opens made.ensures.given c.tick.ensures.counted

pub returns-clause-is : goal.returns-clause-is
returns-clause-is g c = λ told choice agrees.
    let made = c.make_effect_on-sent in
    effect_told g.D.Disk.size choice c.args.place c.args.now c.args.heard c.args.host.now c.tick.new.self made.new.files made.result _ made.new.used _
    c.tick.ensures.is made.ensures.opens made.ensures.rest (cc)
    (made.ensures.does told choice (subst (λ (us : List Used). Agrees choice us) c.finish.ensures.used agrees)) c.finish.ensures.is

pub returns-clause-ran : goal.returns-clause-ran
returns-clause-ran g c =
    let D = g.D.Disk in
    let made = c.make_effect_on-sent in
    ran_within (seat_of D.size D.fuse D.timeline D.faults) c.args.host.now.server.files.volume c.tick.new.self.server.files.volume made.new.files.volume c.finish.new.host.server.files.volume
    _ made.new.used c.finish.result.used c.tick.ensures.volume c.finish.ensures.volume (cc) c.finish.ensures.used (made.ensures.ran)

pub returns-clause-lands : goal.returns-clause-lands
returns-clause-lands g c =
    let old = copies_in c.args.host.now in
    let came = copies_in c.tick.new.self in
    let made = c.make_effect_on-sent in
    let same : came ≡ old = ap (λ s. s.state.machine.extra.copier.copies) c.tick.ensures.is in
    let none = ap (λ (x : Copies). untold_in x) same ∙ c.requires.untold in
    let few : length came.told < MOST_NOTES = let n = ap (λ (x : Copies). length x.told) same in omega (arith, n, c.requires.note) in
    lands_told old came made.new.files.extra.copier.copies (copies_in c.finish.new.host) c.finish.result.notes none few
    (ap (λ (x : Copies). bytes_in x) same) made.ensures.lands c.finish.ensures.notes c.finish.ensures.landed
