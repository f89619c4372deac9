use Rattle.std.proofs.Common.{refl, sym, ◌∙◌}
use Rattle.std.specs.String.{string_bytes}
use Rattle.run_ends.specs.Ends.{count_gives, words_of}
use Rattle.wire_log.specs.Keeping.{reading}
use Rattle.wire_run.proofs.Comings.{undelivered}
use Rattle.wire_run.proofs.Handed.{deliver_ends}
use Rattle.wire_run.proofs.Marking.{marked_fair, marked_sent, marked_small, marked_stops, none_posted, rest_small, rest_stops, unmarked_grows}
use Rattle.wire_run.proofs.Settled.{kept_all}
use Rattle.wire_run.proofs.stage.Stage.deliver.Goals as goal

pub hand_over-requires-clause-fair : goal.hand_over-requires-clause-fair
hand_over-requires-clause-fair g c = marked_fair g.D.Disk.Told g.D.Disk.size g.D.Disk.fuse c.args.number c.args.self.now c.mark.new.self c.requires c.mark.ensures

pub hand_over-requires-clause-sent : goal.hand_over-requires-clause-sent
hand_over-requires-clause-sent g c = marked_sent c.args.number c.args.self.now.log c.mark.new.self (sym c.has.ensures ∙ c.if-has.true) c.mark.ensures

pub returns-then-has-clause-small : goal.returns-then-has-clause-small
returns-then-has-clause-small g c =
    deliver_ends g.D.Disk.Told (words_of g.M.Mechanism.mic_of g.M.Mechanism.derived g.M.Mechanism.started g.M.Mechanism.accepted g.M.Mechanism.finished count_gives) reading g.D.Disk.faults g.D.Disk.size
    c.args.number c.args.self.now c.hand_over.new.self c.mark.new.self (string_bytes c.args.text.now) (string_bytes c.hand_over.new.text) c.hand_over.result
    (sym c.has.ensures ∙ c.if-has.true) c.mark.ensures c.hand_over.ensures.comes

pub returns-then-has-clause-keeps : goal.returns-then-has-clause-keeps
returns-then-has-clause-keeps g c = marked_small g.D.Disk.Told c.args.number c.args.self.now c.hand_over.new.self c.mark.new.self c.mark.ensures c.hand_over.ensures.keeps

pub returns-then-has-clause-stops : goal.returns-then-has-clause-stops
returns-then-has-clause-stops g c =
    marked_stops g.D.Disk.Told g.D.Disk.size g.D.Disk.fuse c.args.self.now c.hand_over.new.self c.mark.new.self c.hand_over.ensures.stops

pub returns-in_err-push_to-clause-keeps : goal.returns-in_err-push_to-clause-keeps
returns-in_err-push_to-clause-keeps g c = rest_small g.D.Disk.Told c.args.self.now c.args.self.now c.requires.ready (kept_all c.args.self.now c.requires.bytes)

pub returns-in_err-push_to-clause-stops : goal.returns-in_err-push_to-clause-stops
returns-in_err-push_to-clause-stops g c =
    rest_stops g.D.Disk.Told g.D.Disk.size g.D.Disk.fuse c.args.self.now c.args.self.now c.requires.watched (kept_all c.args.self.now c.requires.bytes)

pub returns-in_err-push_to-clause-grows : goal.returns-in_err-push_to-clause-grows
returns-in_err-push_to-clause-grows g c = unmarked_grows c.args.number c.args.self.now.log c.args.self.now.log (none_posted c.args.number c.args.self.now.log c.has.result c.has.ensures c.if-has.false) refl

pub returns-in_err-count-clause-keeps : goal.returns-in_err-count-clause-keeps
returns-in_err-count-clause-keeps g c = rest_small g.D.Disk.Told c.args.self.now c.count.new.self c.requires.ready c.count.ensures.keeps

pub returns-in_err-count-clause-stops : goal.returns-in_err-count-clause-stops
returns-in_err-count-clause-stops g c = rest_stops g.D.Disk.Told g.D.Disk.size g.D.Disk.fuse c.args.self.now c.count.new.self c.requires.watched c.count.ensures.keeps

pub returns-in_err-count-clause-grows : goal.returns-in_err-count-clause-grows
returns-in_err-count-clause-grows g c = unmarked_grows c.args.number c.args.self.now.log c.count.new.self.log (none_posted c.args.number c.args.self.now.log c.has.result c.has.ensures c.if-has.false) c.count.ensures.log

pub returns-in_ok-count-clause-small : goal.returns-in_ok-count-clause-small
returns-in_ok-count-clause-small g c =
    undelivered g.D.Disk.Told (words_of g.M.Mechanism.mic_of g.M.Mechanism.derived g.M.Mechanism.started g.M.Mechanism.accepted g.M.Mechanism.finished count_gives) reading g.D.Disk.faults g.D.Disk.size
    c.args.number c.args.self.now c.count.new.self (string_bytes c.args.text.now) (string_bytes c.push_to.new.text) (none_posted c.args.number c.args.self.now.log c.has.result c.has.ensures c.if-has.false)
    c.in_ok-push_to.ensures c.requires.ready c.count.ensures.keeps c.count.ensures.log c.in_ok-count.ensures.choices

pub returns-in_ok-count-clause-keeps : goal.returns-in_ok-count-clause-keeps
returns-in_ok-count-clause-keeps g c = rest_small g.D.Disk.Told c.args.self.now c.count.new.self c.requires.ready c.count.ensures.keeps

pub returns-in_ok-count-clause-stops : goal.returns-in_ok-count-clause-stops
returns-in_ok-count-clause-stops g c = rest_stops g.D.Disk.Told g.D.Disk.size g.D.Disk.fuse c.args.self.now c.count.new.self c.requires.watched c.count.ensures.keeps

pub returns-in_ok-count-clause-grows : goal.returns-in_ok-count-clause-grows
returns-in_ok-count-clause-grows g c = unmarked_grows c.args.number c.args.self.now.log c.count.new.self.log (none_posted c.args.number c.args.self.now.log c.has.result c.has.ensures c.if-has.false) c.count.ensures.log
