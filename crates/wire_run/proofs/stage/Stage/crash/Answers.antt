use Rattle.std.proofs.Common.{[], inl, inr}
use Rattle.std.specs.String.{string_bytes}
use Rattle.run_ends.specs.Ends.{count_gives, words_of}
use Rattle.wire_log.specs.Keeping.{reading}
use Rattle.wire_run.proofs.Crashing.{crash_done, crash_lost, crash_may, crash_small, crash_stops, open_at, reopened_bytes, reopened_open}
use Rattle.wire_run.proofs.Outcomes.{end_rest, rest_begins}
use Rattle.wire_run.proofs.stage.Stage.crash.Goals as goal

pub rests-requires : goal.rests-requires
rests-requires g c =
    open_at c.args.side c.args.self.now c.requires.fair.ready

pub reopen-requires : goal.reopen-requires
reopen-requires g c = record {
  may =
      crash_may g.D.Disk.Told g.D.Disk.size g.D.Disk.fuse g.D.Disk.timeline g.D.Disk.faults c.servers_stop.ensures.stops c.args.self.now c.requires.fair c.args.side c.rests.ensures;
}

pub tell_stop-requires-clause-open : goal.tell_stop-requires-clause-open
tell_stop-requires-clause-open g c =
    reopened_open g.D.Disk.Told g.D.Disk.size g.D.Disk.fuse g.D.Disk.timeline g.D.Disk.faults c.servers_stop.ensures.stops c.args.self.now c.requires.fair c.args.side c.reopen.new.self (rw c.in-Ok.is at c.in_ok-lost.ensures.reopens)

pub tell_stop-requires-clause-bytes : goal.tell_stop-requires-clause-bytes
tell_stop-requires-clause-bytes g c =
    reopened_bytes g.D.Disk.Told g.D.Disk.size g.D.Disk.fuse g.D.Disk.timeline g.D.Disk.faults c.servers_stop.ensures.stops c.args.self.now c.requires.fair c.args.side c.reopen.new.self (rw c.in-Ok.is at c.in_ok-lost.ensures.reopens)

pub returns-in_err-lost-clause-keeps : goal.returns-in_err-lost-clause-keeps
returns-in_err-lost-clause-keeps g c =
    crash_small g.D.Disk.Told g.D.Disk.size g.D.Disk.fuse g.D.Disk.timeline g.D.Disk.faults c.servers_stop.ensures.stops c.args.self.now c.requires.fair c.args.side c.reopen.new.self c.rests.ensures
    (inr (inr c.in_err-lost.ensures.away))

pub returns-in_err-lost-clause-stops : goal.returns-in_err-lost-clause-stops
returns-in_err-lost-clause-stops g c =
    crash_stops g.D.Disk.Told g.D.Disk.size g.D.Disk.fuse g.D.Disk.timeline g.D.Disk.faults c.servers_stop.ensures.stops c.args.self.now c.requires.fair c.args.side c.reopen.new.self c.rests.ensures
    (inr (inr c.in_err-lost.ensures.away))

pub returns-in_err-lost-clause-begun : goal.returns-in_err-lost-clause-begun
returns-in_err-lost-clause-begun g c =
    rest_begins c.args.self.now c.reopen.new.self (end_rest g.D.Disk.Told g.D.Disk.size g.D.Disk.fuse g.D.Disk.timeline g.D.Disk.faults c.args.side [] c.args.self.now c.reopen.new.self c.requires.fair.bytes
    (inr (inr c.in_err-lost.ensures.away)))

pub returns-in_err-lost-clause-clock : goal.returns-in_err-lost-clause-clock
returns-in_err-lost-clause-clock g c =
    let r = end_rest g.D.Disk.Told g.D.Disk.size g.D.Disk.fuse g.D.Disk.timeline g.D.Disk.faults c.args.side [] c.args.self.now c.reopen.new.self c.requires.fair.bytes
    (inr (inr c.in_err-lost.ensures.away)) in r.clock

pub returns-in-Err-clause-small : goal.returns-in-Err-clause-small
returns-in-Err-clause-small g c =
    crash_lost g.D.Disk.Told g.D.Disk.size g.D.Disk.fuse g.D.Disk.timeline g.D.Disk.faults c.servers_stop.ensures.stops c.args.self.now c.requires.fair c.args.side c.args.pick c.reopen.new.self c.in-Err.lost (string_bytes c.args.text.now) c.rests.ensures
    (rw c.in-Err.is at c.in_ok-lost.ensures.reopens)

pub returns-in-Err-clause-keeps : goal.returns-in-Err-clause-keeps
returns-in-Err-clause-keeps g c =
    let at = rw c.in-Err.is at c.in_ok-lost.ensures.reopens in
    crash_small g.D.Disk.Told g.D.Disk.size g.D.Disk.fuse g.D.Disk.timeline g.D.Disk.faults c.servers_stop.ensures.stops c.args.self.now c.requires.fair c.args.side c.reopen.new.self c.rests.ensures
    (inr (inr at.rest))

pub returns-in-Err-clause-stops : goal.returns-in-Err-clause-stops
returns-in-Err-clause-stops g c =
    let at = rw c.in-Err.is at c.in_ok-lost.ensures.reopens in
    crash_stops g.D.Disk.Told g.D.Disk.size g.D.Disk.fuse g.D.Disk.timeline g.D.Disk.faults c.servers_stop.ensures.stops c.args.self.now c.requires.fair c.args.side c.reopen.new.self c.rests.ensures
    (inr (inr at.rest))

pub returns-in-Err-clause-begun : goal.returns-in-Err-clause-begun
returns-in-Err-clause-begun g c =
    let at = rw c.in-Err.is at c.in_ok-lost.ensures.reopens in
    rest_begins c.args.self.now c.reopen.new.self (end_rest g.D.Disk.Told g.D.Disk.size g.D.Disk.fuse g.D.Disk.timeline g.D.Disk.faults c.args.side [] c.args.self.now c.reopen.new.self c.requires.fair.bytes
    (inr (inr at.rest)))

pub returns-in-Err-clause-clock : goal.returns-in-Err-clause-clock
returns-in-Err-clause-clock g c =
    let at = rw c.in-Err.is at c.in_ok-lost.ensures.reopens in
    let r = end_rest g.D.Disk.Told g.D.Disk.size g.D.Disk.fuse g.D.Disk.timeline g.D.Disk.faults c.args.side [] c.args.self.now c.reopen.new.self c.requires.fair.bytes
    (inr (inr at.rest)) in r.clock

pub returns-in_err-tell_stop-in-Ok-clause-keeps : goal.returns-in_err-tell_stop-in-Ok-clause-keeps
returns-in_err-tell_stop-in-Ok-clause-keeps g c =
    crash_small g.D.Disk.Told g.D.Disk.size g.D.Disk.fuse g.D.Disk.timeline g.D.Disk.faults c.servers_stop.ensures.stops c.args.self.now c.requires.fair c.args.side c.tell_stop.new.self c.rests.ensures
    (inr (inl (record { reopened = c.reopen.new.self; opens = rw c.in-Ok.is at c.in_ok-lost.ensures.reopens; keeps = c.tell_stop.ensures.keeps })))

pub returns-in_err-tell_stop-in-Ok-clause-stops : goal.returns-in_err-tell_stop-in-Ok-clause-stops
returns-in_err-tell_stop-in-Ok-clause-stops g c =
    crash_stops g.D.Disk.Told g.D.Disk.size g.D.Disk.fuse g.D.Disk.timeline g.D.Disk.faults c.servers_stop.ensures.stops c.args.self.now c.requires.fair c.args.side c.tell_stop.new.self c.rests.ensures
    (inr (inl (record { reopened = c.reopen.new.self; opens = rw c.in-Ok.is at c.in_ok-lost.ensures.reopens; keeps = c.tell_stop.ensures.keeps })))

pub returns-in_err-tell_stop-in-Ok-clause-begun : goal.returns-in_err-tell_stop-in-Ok-clause-begun
returns-in_err-tell_stop-in-Ok-clause-begun g c =
    rest_begins c.args.self.now c.tell_stop.new.self (end_rest g.D.Disk.Told g.D.Disk.size g.D.Disk.fuse g.D.Disk.timeline g.D.Disk.faults c.args.side [] c.args.self.now c.tell_stop.new.self c.requires.fair.bytes
    (inr (inl (record { reopened = c.reopen.new.self; opens = rw c.in-Ok.is at c.in_ok-lost.ensures.reopens; keeps = c.tell_stop.ensures.keeps }))))

pub returns-in_err-tell_stop-in-Ok-clause-clock : goal.returns-in_err-tell_stop-in-Ok-clause-clock
returns-in_err-tell_stop-in-Ok-clause-clock g c =
    let r = end_rest g.D.Disk.Told g.D.Disk.size g.D.Disk.fuse g.D.Disk.timeline g.D.Disk.faults c.args.side [] c.args.self.now c.tell_stop.new.self c.requires.fair.bytes
    (inr (inl (record { reopened = c.reopen.new.self; opens = rw c.in-Ok.is at c.in_ok-lost.ensures.reopens; keeps = c.tell_stop.ensures.keeps }))) in r.clock

pub returns-in_ok-tell_stop-in-Ok-clause-small : goal.returns-in_ok-tell_stop-in-Ok-clause-small
returns-in_ok-tell_stop-in-Ok-clause-small g c =
    crash_done g.D.Disk.Told g.D.Disk.size g.D.Disk.fuse g.D.Disk.timeline g.D.Disk.faults c.servers_stop.ensures.stops c.args.self.now c.requires.fair (words_of g.M.Mechanism.mic_of g.M.Mechanism.derived g.M.Mechanism.started g.M.Mechanism.accepted g.M.Mechanism.finished count_gives) reading c.args.pick c.reopen.new.self c.tell_stop.new.self
    (string_bytes c.args.text.now) (string_bytes c.tell_stop.new.text) c.tell_stop.ensures.keeps c.tell_stop.ensures.log c.args.side c.at-pending.result c.at-pending.ensures c.rests.ensures (rw c.in-Ok.is at c.in_ok-lost.ensures.reopens)
    c.in_ok-tell_stop-in-Ok.ensures.lines c.in_ok-tell_stop-in-Ok.ensures.choices

pub returns-in_ok-tell_stop-in-Ok-clause-keeps : goal.returns-in_ok-tell_stop-in-Ok-clause-keeps
returns-in_ok-tell_stop-in-Ok-clause-keeps g c =
    crash_small g.D.Disk.Told g.D.Disk.size g.D.Disk.fuse g.D.Disk.timeline g.D.Disk.faults c.servers_stop.ensures.stops c.args.self.now c.requires.fair c.args.side c.tell_stop.new.self c.rests.ensures
    (inr (inl (record { reopened = c.reopen.new.self; opens = rw c.in-Ok.is at c.in_ok-lost.ensures.reopens; keeps = c.tell_stop.ensures.keeps })))

pub returns-in_ok-tell_stop-in-Ok-clause-stops : goal.returns-in_ok-tell_stop-in-Ok-clause-stops
returns-in_ok-tell_stop-in-Ok-clause-stops g c =
    crash_stops g.D.Disk.Told g.D.Disk.size g.D.Disk.fuse g.D.Disk.timeline g.D.Disk.faults c.servers_stop.ensures.stops c.args.self.now c.requires.fair c.args.side c.tell_stop.new.self c.rests.ensures
    (inr (inl (record { reopened = c.reopen.new.self; opens = rw c.in-Ok.is at c.in_ok-lost.ensures.reopens; keeps = c.tell_stop.ensures.keeps })))

pub returns-in_ok-tell_stop-in-Ok-clause-begun : goal.returns-in_ok-tell_stop-in-Ok-clause-begun
returns-in_ok-tell_stop-in-Ok-clause-begun g c =
    rest_begins c.args.self.now c.tell_stop.new.self (end_rest g.D.Disk.Told g.D.Disk.size g.D.Disk.fuse g.D.Disk.timeline g.D.Disk.faults c.args.side [] c.args.self.now c.tell_stop.new.self c.requires.fair.bytes
    (inr (inl (record { reopened = c.reopen.new.self; opens = rw c.in-Ok.is at c.in_ok-lost.ensures.reopens; keeps = c.tell_stop.ensures.keeps }))))

pub returns-in_ok-tell_stop-in-Ok-clause-clock : goal.returns-in_ok-tell_stop-in-Ok-clause-clock
returns-in_ok-tell_stop-in-Ok-clause-clock g c =
    let r = end_rest g.D.Disk.Told g.D.Disk.size g.D.Disk.fuse g.D.Disk.timeline g.D.Disk.faults c.args.side [] c.args.self.now c.tell_stop.new.self c.requires.fair.bytes
    (inr (inl (record { reopened = c.reopen.new.self; opens = rw c.in-Ok.is at c.in_ok-lost.ensures.reopens; keeps = c.tell_stop.ensures.keeps }))) in r.clock
