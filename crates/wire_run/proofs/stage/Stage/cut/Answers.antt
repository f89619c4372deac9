use Rattle.std.proofs.Common.{Option, ap, sym, ◌∙◌}
use Rattle.std.specs.String.{string_bytes}
use Rattle.server_volume.specs.declared.used.Used.{Used}
use Rattle.wire_log.specs.Keeping.{reading}
use Rattle.wire_run.proofs.Cuts.{keeps_away, keeps_mistaken, keeps_reopened, pending_is, reopened_bytes, reopened_open, stop_lost, stop_mistaken, stop_told}
use Rattle.wire_run.proofs.stage.Stage.cut.Goals as goal

pub tell_stop-requires-clause-open : goal.tell_stop-requires-clause-open
tell_stop-requires-clause-open g c = reopened_open g.D.Disk.Told g.D.Disk.size g.D.Disk.fuse g.D.Disk.timeline g.D.Disk.faults c.args.side c.args.self.now c.reopen.new.self (rw c.in-Ok.is at c.in_ok-lost.ensures.reopens)

pub tell_stop-requires-clause-bytes : goal.tell_stop-requires-clause-bytes
tell_stop-requires-clause-bytes g c =
    reopened_bytes g.D.Disk.Told g.D.Disk.size g.D.Disk.fuse g.D.Disk.timeline g.D.Disk.faults c.args.side c.args.self.now c.reopen.new.self (rw c.in-Ok.is at c.in_ok-lost.ensures.reopens) c.requires.bytes

pub returns-in_err-lost-clause-keeps : goal.returns-in_err-lost-clause-keeps
returns-in_err-lost-clause-keeps g c = keeps_away g.D.Disk.Told g.D.Disk.size g.D.Disk.fuse g.D.Disk.timeline g.D.Disk.faults c.args.side c.args.acted.now.out.used c.args.self.now c.reopen.new.self c.in_err-lost.ensures.away

pub returns-in-Err-clause-ends : goal.returns-in-Err-clause-ends
returns-in-Err-clause-ends g c =
    stop_lost g.D.Disk.Told g.D.Disk.size g.D.Disk.fuse g.D.Disk.timeline g.D.Disk.faults reading c.args.side c.args.acted.now c.args.self.now c.args.pick c.requires.due c.reopen.new.self (string_bytes c.args.text.now) c.in-Err.lost
    (rw c.in-Err.is at c.in_ok-lost.ensures.reopens)

pub returns-in-Err-clause-keeps : goal.returns-in-Err-clause-keeps
returns-in-Err-clause-keeps g c =
    let at = rw c.in-Err.is at c.in_ok-lost.ensures.reopens in
    keeps_away g.D.Disk.Told g.D.Disk.size g.D.Disk.fuse g.D.Disk.timeline g.D.Disk.faults c.args.side c.args.acted.now.out.used c.args.self.now c.reopen.new.self at.rest

pub returns-in-Some-clause-ends : goal.returns-in-Some-clause-ends
returns-in-Some-clause-ends g c =
    stop_mistaken g.D.Disk.Told g.D.Disk.size g.D.Disk.fuse g.D.Disk.timeline g.D.Disk.faults reading c.args.side c.args.acted.now c.args.self.now c.args.pick c.requires.due c.reopen.new.self (string_bytes c.args.text.now) c.in-Some.mistake
    (rw c.in-Ok.is at c.in_ok-lost.ensures.reopens) (sym c.mistake.ensures ∙ c.in-Some.is)

pub returns-in-Some-clause-keeps : goal.returns-in-Some-clause-keeps
returns-in-Some-clause-keeps g c =
    keeps_mistaken g.D.Disk.Told g.D.Disk.size g.D.Disk.fuse g.D.Disk.timeline g.D.Disk.faults c.args.side c.args.acted.now.out.used c.args.self.now c.reopen.new.self (rw c.in-Ok.is at c.in_ok-lost.ensures.reopens) c.requires.bytes

pub returns-in_err-tell_stop-in-None-clause-keeps : goal.returns-in_err-tell_stop-in-None-clause-keeps
returns-in_err-tell_stop-in-None-clause-keeps g c =
    keeps_reopened g.D.Disk.Told g.D.Disk.size g.D.Disk.fuse g.D.Disk.timeline g.D.Disk.faults c.args.side c.args.acted.now.out.used c.args.self.now c.reopen.new.self c.tell_stop.new.self (rw c.in-Ok.is at c.in_ok-lost.ensures.reopens) c.tell_stop.ensures.keeps

pub returns-in_ok-tell_stop-in-None-clause-ends : goal.returns-in_ok-tell_stop-in-None-clause-ends
returns-in_ok-tell_stop-in-None-clause-ends g c =
    stop_told g.D.Disk.Told g.D.Disk.size g.D.Disk.fuse g.D.Disk.timeline g.D.Disk.faults reading c.args.side c.args.acted.now c.args.self.now c.args.pick c.requires.due c.reopen.new.self c.tell_stop.new.self
    (string_bytes c.args.text.now) (string_bytes c.tell_stop.new.text) c.within-pending.result (rw c.in-Ok.is at c.in_ok-lost.ensures.reopens)
    (pending_is c.args.side c.args.self.now c.at.result c.within-pending.result c.args.acted.now.out.used c.as_slice.result.now c.at.ensures c.as_slice.ensures c.within-pending.ensures)
    (sym c.mistake.ensures ∙ c.in-None.is) c.tell_stop.ensures.keeps c.tell_stop.ensures.log c.in_ok-tell_stop-in-None.ensures.lines c.in_ok-tell_stop-in-None.ensures.choices

pub returns-in_ok-tell_stop-in-None-clause-keeps : goal.returns-in_ok-tell_stop-in-None-clause-keeps
returns-in_ok-tell_stop-in-None-clause-keeps g c =
    keeps_reopened g.D.Disk.Told g.D.Disk.size g.D.Disk.fuse g.D.Disk.timeline g.D.Disk.faults c.args.side c.args.acted.now.out.used c.args.self.now c.reopen.new.self c.tell_stop.new.self (rw c.in-Ok.is at c.in_ok-lost.ensures.reopens) c.tell_stop.ensures.keeps
