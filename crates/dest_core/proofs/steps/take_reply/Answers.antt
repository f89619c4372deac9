use Rattle.std.proofs.Common.{ℕ, List, [], length, subst, ap, ◌∙◌, arith}
use Rattle.outbox.specs.declared.note.Note.{Note}
use Rattle.server_volume.specs.Moments.{Counted}
use Rattle.server_volume.specs.Store.{seat_of}
use Rattle.dest_core.proofs.Hosts.{counted_put}
use Rattle.dest_core.proofs.Turns.{reply_told}
use Rattle.dest_core.proofs.Landings.{none_untold}
use Rattle.dest_core.specs.Landing.{copies_in, landed_by, LandsTold}
use Rattle.dest_core.proofs.steps.take_reply.Goals as goal

pub make_effect-requires-clause-counted : goal.make_effect-requires-clause-counted
make_effect-requires-clause-counted g c =
    let heard = c.hear in
    counted_put c.args.host.now heard.new.server heard.new.server.files.extra.copier heard.ensures.same heard.ensures.given c.requires.counted

pub returns-clause-is : goal.returns-clause-is
returns-clause-is g c = λ told.
    reply_told (record { mic = g.M.Mechanism.mic_of; derived = g.M.Mechanism.derived }) (g.M.Mechanism.finished c.args.host.now.server.files.extra.mech c.args.host.now.server.files.extra.copier.principal) g.D.Disk.size
    c.args.place c.args.record_.now c.args.now c.second_at-second.result c.in_ok-heard.heard c.args.host.now c.make_effect.new.host c.hear.new.server c.make_effect.result
    c.second_at-second.ensures c.hear.ensures.same c.in_ok-heard.ensures.heard (c.make_effect.ensures.is told)

pub returns-clause-ran : goal.returns-clause-ran
returns-clause-ran g c =
    let D = g.D.Disk in
    let seat = seat_of D.size D.fuse D.timeline D.faults in
    subst (λ s. Counted D.Told (seat s.files.volume) (seat c.make_effect.new.host.server.files.volume) [] c.make_effect.result.used) c.hear.ensures.same (c.make_effect.ensures.ran)

pub make_effect-requires-clause-note : goal.make_effect-requires-clause-note
make_effect-requires-clause-note g c =
    let none = ap (λ (ns : List Note). length ns) c.requires.silent in
    omega (arith, none, c.hear.ensures.notes)

pub make_effect-requires-clause-untold : goal.make_effect-requires-clause-untold
make_effect-requires-clause-untold g c = c.hear.ensures.keeps.untold ∙ none_untold (copies_in c.args.host.now) c.requires.silent

pub returns-clause-lands : goal.returns-clause-lands
returns-clause-lands g c =
    subst (λ (n : ℕ). LandsTold n (landed_by c.make_effect.new.host) c.make_effect.result.notes) c.hear.ensures.keeps.bytes c.make_effect.ensures.lands
