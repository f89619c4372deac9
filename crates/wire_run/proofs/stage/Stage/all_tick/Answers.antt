use Rattle.std.proofs.Common.{Option, None, Some, ℕ, ◌≡◌, refl, arith, ap}
use Rattle.client_core.specs.State.{ClientState}
use Rattle.wire_machine.specs.Ends as acts
use Rattle.run_ends.specs.Ends.{count_gives, run_machines, words_of}
use Rattle.wire_run.proofs.Cores.{dest_open, source_open}
use Rattle.wire_run.proofs.Keeping.{dest_keeps_by, dest_still, looked_keeps, one_dest, one_source, same_dest, source_keeps_by, starved}
use Rattle.wire_run.proofs.Watched.{dest_looks, dest_same, keeps_stops, source_looks, source_same, stops_same}
use Rattle.wire_run.specs.Watching.{no_side}
use Rattle.wire_run.proofs.stage.Stage.all_tick.Goals as goal

none_other : (j : ℕ) → ◌≡◌ {A = Option ℕ} None (Some j) → ⊥
none_other j e = cc

pub returns-in_err-source-clause-keeps : goal.returns-in_err-source-clause-keeps
returns-in_err-source-clause-keeps g c = starved g.D.Disk.Told c.args.self.now c.tick.new.self c.args.self.now.dest c.args.self.now.client c.args.self.now.draws c.args.self.now.clock c.requires.ready c.requires.bytes c.in_err-source.ensures.err refl refl

pub returns-in_err-dest-clause-keeps : goal.returns-in_err-dest-clause-keeps
returns-in_err-dest-clause-keeps g c =
    looked_keeps g.D.Disk.Told c.args.self.now c.tick.new.self c.tick-2.new.self c.args.self.now.client c.requires.bytes
    (source_keeps_by g.D.Disk.Told (run_machines g.M.Mechanism.mic_of g.M.Mechanism.derived g.M.Mechanism.started g.M.Mechanism.accepted g.M.Mechanism.finished) g.D.Disk.faults g.D.Disk.size acts.SourceTicks c.args.self.now.clock c.args.self.now.source c.tick.new.self c.args.self.now.draws c.args.self.now.draws c.in_ok-source.source (c.in_ok-source.ensures.acts c.args.self.now.draws))
    (dest_still g.D.Disk.Told c.args.self.now.dest c.tick-2.new.self c.requires.ready.dest c.in_err-dest.ensures.err) refl
    (one_source c.args.self.now.source c.tick.new.self _ _ (c.in_ok-source.ensures.acts c.args.self.now.draws).was_is (c.in_ok-source.ensures.acts c.args.self.now.draws).next_is (c.in_ok-source.ensures.acts c.args.self.now.draws).counted)
    (same_dest c.args.self.now.dest c.tick-2.new.self c.in_err-dest.ensures.err) (omega arith)

pub returns-in_err-client-clause-keeps : goal.returns-in_err-client-clause-keeps
returns-in_err-client-clause-keeps g c =
    looked_keeps g.D.Disk.Told c.args.self.now c.tick.new.self c.tick-2.new.self c.client_ticks.new.client c.requires.bytes
    (source_keeps_by g.D.Disk.Told (run_machines g.M.Mechanism.mic_of g.M.Mechanism.derived g.M.Mechanism.started g.M.Mechanism.accepted g.M.Mechanism.finished) g.D.Disk.faults g.D.Disk.size acts.SourceTicks c.args.self.now.clock c.args.self.now.source c.tick.new.self c.args.self.now.draws c.args.self.now.draws c.in_ok-source.source (c.in_ok-source.ensures.acts c.args.self.now.draws))
    (dest_keeps_by g.D.Disk.Told (run_machines g.M.Mechanism.mic_of g.M.Mechanism.derived g.M.Mechanism.started g.M.Mechanism.accepted g.M.Mechanism.finished) g.D.Disk.faults g.D.Disk.size acts.DestTicks c.args.self.now.clock c.args.self.now.dest c.tick-2.new.self c.args.self.now.draws c.args.self.now.draws c.in_ok-dest.dest (c.in_ok-dest.ensures.acts c.args.self.now.draws))
    (ap (λ (x : ClientState _). x.setting) c.in_err-client.ensures.err)
    (one_source c.args.self.now.source c.tick.new.self _ _ (c.in_ok-source.ensures.acts c.args.self.now.draws).was_is (c.in_ok-source.ensures.acts c.args.self.now.draws).next_is (c.in_ok-source.ensures.acts c.args.self.now.draws).counted)
    (one_dest c.args.self.now.dest c.tick-2.new.self _ _ (c.in_ok-dest.ensures.acts c.args.self.now.draws).was_is (c.in_ok-dest.ensures.acts c.args.self.now.draws).next_is (c.in_ok-dest.ensures.acts c.args.self.now.draws).counted)
    (omega (arith, ap (λ (x : ClientState _). x.steps) c.in_err-client.ensures.err))

pub opening-requires : goal.opening-requires
opening-requires g c = let a = c.in_ok-source.ensures.acts c.args.self.now.draws in source_open c.tick.new.self a.next a.next_is

pub opening-requires-2 : goal.opening-requires-2
opening-requires-2 g c = let a = c.in_ok-dest.ensures.acts c.args.self.now.draws in dest_open c.tick-2.new.self a.next a.next_is

pub returns-clause-ticks : goal.returns-clause-ticks
returns-clause-ticks g c = record {
  source = c.in_ok-source.ensures.acts c.args.self.now.draws;
  dest = c.in_ok-dest.ensures.acts c.args.self.now.draws;
  client = (c.in_ok-client.ensures.acts c.args.self.now.draws).acts;
  source_opening = c.opening.ensures;
  dest_opening = c.opening-2.ensures;
}

pub returns-clause-keeps : goal.returns-clause-keeps
returns-clause-keeps g c =
    let a = c.in_ok-client.ensures.acts c.args.self.now.draws in
    looked_keeps g.D.Disk.Told c.args.self.now c.tick.new.self c.tick-2.new.self c.client_ticks.new.client c.requires.bytes
    (source_keeps_by g.D.Disk.Told (run_machines g.M.Mechanism.mic_of g.M.Mechanism.derived g.M.Mechanism.started g.M.Mechanism.accepted g.M.Mechanism.finished) g.D.Disk.faults g.D.Disk.size acts.SourceTicks c.args.self.now.clock c.args.self.now.source c.tick.new.self c.args.self.now.draws c.args.self.now.draws c.in_ok-source.source (c.in_ok-source.ensures.acts c.args.self.now.draws))
    (dest_keeps_by g.D.Disk.Told (run_machines g.M.Mechanism.mic_of g.M.Mechanism.derived g.M.Mechanism.started g.M.Mechanism.accepted g.M.Mechanism.finished) g.D.Disk.faults g.D.Disk.size acts.DestTicks c.args.self.now.clock c.args.self.now.dest c.tick-2.new.self c.args.self.now.draws c.args.self.now.draws c.in_ok-dest.dest (c.in_ok-dest.ensures.acts c.args.self.now.draws))
    a.setting
    (one_source c.args.self.now.source c.tick.new.self _ _ (c.in_ok-source.ensures.acts c.args.self.now.draws).was_is (c.in_ok-source.ensures.acts c.args.self.now.draws).next_is (c.in_ok-source.ensures.acts c.args.self.now.draws).counted)
    (one_dest c.args.self.now.dest c.tick-2.new.self _ _ (c.in_ok-dest.ensures.acts c.args.self.now.draws).was_is (c.in_ok-dest.ensures.acts c.args.self.now.draws).next_is (c.in_ok-dest.ensures.acts c.args.self.now.draws).counted)
    (omega (arith, a.counted))

pub returns-clause-begun : goal.returns-clause-begun
returns-clause-begun g c = λ j none. (c.in_ok-client.ensures.acts c.args.self.now.draws).begun j (none_other j) none

pub returns-in_err-source-clause-stops : goal.returns-in_err-source-clause-stops
returns-in_err-source-clause-stops g c = stops_same g.D.Disk.Told g.D.Disk.size g.D.Disk.fuse no_side c.args.self.now _ c.requires.watched c.in_err-source.ensures.err refl refl

pub returns-in_err-dest-clause-stops : goal.returns-in_err-dest-clause-stops
returns-in_err-dest-clause-stops g c =
    keeps_stops g.D.Disk.Told g.D.Disk.size g.D.Disk.fuse no_side c.args.self.now _
    (source_looks g.D.Disk.Told g.D.Disk.size g.D.Disk.fuse (words_of g.M.Mechanism.mic_of g.M.Mechanism.derived g.M.Mechanism.started g.M.Mechanism.accepted g.M.Mechanism.finished count_gives) g.D.Disk.timeline g.D.Disk.faults c.args.self.now.clock c.args.self.now.source c.tick.new.self c.args.self.now.draws c.args.self.now.draws c.in_ok-source.source
    (c.in_ok-source.ensures.acts c.args.self.now.draws) c.in_ok-source.ensures.calls c.tick.ensures.fuse)
    (dest_same g.D.Disk.Told g.D.Disk.size g.D.Disk.fuse c.args.self.now.dest c.tick-2.new.self c.in_err-dest.ensures.err) refl c.requires.watched

pub returns-in_err-client-clause-stops : goal.returns-in_err-client-clause-stops
returns-in_err-client-clause-stops g c =
    keeps_stops g.D.Disk.Told g.D.Disk.size g.D.Disk.fuse no_side c.args.self.now _
    (source_looks g.D.Disk.Told g.D.Disk.size g.D.Disk.fuse (words_of g.M.Mechanism.mic_of g.M.Mechanism.derived g.M.Mechanism.started g.M.Mechanism.accepted g.M.Mechanism.finished count_gives) g.D.Disk.timeline g.D.Disk.faults c.args.self.now.clock c.args.self.now.source c.tick.new.self c.args.self.now.draws c.args.self.now.draws c.in_ok-source.source
    (c.in_ok-source.ensures.acts c.args.self.now.draws) c.in_ok-source.ensures.calls c.tick.ensures.fuse)
    (dest_looks g.D.Disk.Told g.D.Disk.size g.D.Disk.fuse (words_of g.M.Mechanism.mic_of g.M.Mechanism.derived g.M.Mechanism.started g.M.Mechanism.accepted g.M.Mechanism.finished count_gives) g.D.Disk.timeline g.D.Disk.faults c.args.self.now.clock c.args.self.now.dest c.tick-2.new.self c.args.self.now.draws c.args.self.now.draws c.in_ok-dest.dest
    (c.in_ok-dest.ensures.acts c.args.self.now.draws) c.in_ok-dest.ensures.calls c.tick-2.ensures.fuse)
    refl c.requires.watched

pub returns-clause-stops : goal.returns-clause-stops
returns-clause-stops g c =
    keeps_stops g.D.Disk.Told g.D.Disk.size g.D.Disk.fuse no_side c.args.self.now _
    (source_looks g.D.Disk.Told g.D.Disk.size g.D.Disk.fuse (words_of g.M.Mechanism.mic_of g.M.Mechanism.derived g.M.Mechanism.started g.M.Mechanism.accepted g.M.Mechanism.finished count_gives) g.D.Disk.timeline g.D.Disk.faults c.args.self.now.clock c.args.self.now.source c.tick.new.self c.args.self.now.draws c.args.self.now.draws c.in_ok-source.source
    (c.in_ok-source.ensures.acts c.args.self.now.draws) c.in_ok-source.ensures.calls c.tick.ensures.fuse)
    (dest_looks g.D.Disk.Told g.D.Disk.size g.D.Disk.fuse (words_of g.M.Mechanism.mic_of g.M.Mechanism.derived g.M.Mechanism.started g.M.Mechanism.accepted g.M.Mechanism.finished count_gives) g.D.Disk.timeline g.D.Disk.faults c.args.self.now.clock c.args.self.now.dest c.tick-2.new.self c.args.self.now.draws c.args.self.now.draws c.in_ok-dest.dest
    (c.in_ok-dest.ensures.acts c.args.self.now.draws) c.in_ok-dest.ensures.calls c.tick-2.ensures.fuse)
    refl c.requires.watched
