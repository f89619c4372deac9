use Rattle.std.proofs.Common.{ℕ, List, [], ◌≡◌, None, Some, arith, map, rules, subst, sym}
use Rattle.std.specs.String.{string_bytes}
use Rattle.wire_log.specs.Keeping.{reading}
use Rattle.wire_machine.specs.World.{waiting}
use Rattle.run_ends.specs.Ends.{run_machines}
use Rattle.wire_run.specs.Running.{fault_in, text_in}
use Rattle.wire_run.proofs.Flows.{HasFlowed, flow_begun, flow_done, flow_next, flow_stops, goes_as}
use Rattle.wire_run.proofs.FlowStops.{begins_on, ended_as, flow_keeps_none, flow_keeps_on, flow_loses, flow_stops_none, flow_stops_on, next_flowing}
use Rattle.wire_run.proofs.stage.Stage.flow.Goals as goal
use Rattle.wire_schedule.specs.declared.event.Event.TheVariants as kinds

pub deliveries-init : goal.deliveries-init
deliveries-init g c =
    let none : string_bytes c.new-text.result ≡ [] = search rules in
    record {
      flowed = subst (λ (t : List ℕ). HasFlowed g.D.Disk.Told (run_machines g.M.Mechanism.mic_of g.M.Mechanism.derived g.M.Mechanism.started g.M.Mechanism.accepted g.M.Mechanism.finished) reading g.D.Disk.faults g.D.Disk.size c.count-last.result c.args.self.now c.args.self.now t) (sym none)
          (subst (λ (n : ℕ). HasFlowed g.D.Disk.Told (run_machines g.M.Mechanism.mic_of g.M.Mechanism.derived g.M.Mechanism.started g.M.Mechanism.accepted g.M.Mechanism.finished) reading g.D.Disk.faults g.D.Disk.size n c.args.self.now c.args.self.now []) (sym c.count-last.ensures.exact)
          (flow_begun g.D.Disk.Told (run_machines g.M.Mechanism.mic_of g.M.Mechanism.derived g.M.Mechanism.started g.M.Mechanism.accepted g.M.Mechanism.finished) reading g.D.Disk.faults g.D.Disk.size c.args.self.now c.requires.ready c.requires.within c.requires.delivered));
      keeps = flow_keeps_none g.D.Disk.Told g.D.Disk.size g.D.Disk.fuse c.args.self.now c.requires;
      stops = flow_stops_none g.D.Disk.Told g.D.Disk.size g.D.Disk.fuse c.args.self.now c.requires;
      flowing = c.requires;
      begun = λ j other. other;
      all = omega (arith, c.count-last.ensures.exact);
      few = c.count-last.ensures.most;
    }

pub flow_one-requires-clause-flowing : goal.flow_one-requires-clause-flowing
flow_one-requires-clause-flowing g c = c.deliveries.invariant.flowing

pub flow_one-requires-clause-more : goal.flow_one-requires-clause-more
flow_one-requires-clause-more g c = omega (arith, c.deliveries-test.true, c.deliveries.invariant.all)

pub flow_one-requires-clause-few : goal.flow_one-requires-clause-few
flow_one-requires-clause-few g c = omega (arith, c.deliveries-test.true, c.deliveries.invariant.few)

pub returns-in_err-flow_one-clause-keeps : goal.returns-in_err-flow_one-clause-keeps
returns-in_err-flow_one-clause-keeps g c = flow_keeps_on g.D.Disk.Told c.args.self.now c.deliveries.self c.flow_one.new.self c.deliveries.invariant.keeps c.flow_one.ensures.keeps

pub returns-in_err-flow_one-clause-stops : goal.returns-in_err-flow_one-clause-stops
returns-in_err-flow_one-clause-stops g c = flow_stops_on g.D.Disk.Told g.D.Disk.size g.D.Disk.fuse c.args.self.now c.deliveries.self c.flow_one.new.self c.deliveries.invariant.stops c.flow_one.ensures.stops

pub returns-in_err-flow_one-clause-begun : goal.returns-in_err-flow_one-clause-begun
returns-in_err-flow_one-clause-begun g c = begins_on c.args.self.now.client c.deliveries.self.client c.flow_one.new.self.client c.deliveries.invariant.begun c.flow_one.ensures.begun

pub returns-in-Ok-Some-clause-goes : goal.returns-in-Ok-Some-clause-goes
returns-in-Ok-Some-clause-goes g c =
    flow_stops g.D.Disk.Told (run_machines g.M.Mechanism.mic_of g.M.Mechanism.derived g.M.Mechanism.started g.M.Mechanism.accepted g.M.Mechanism.finished) reading g.D.Disk.faults g.D.Disk.size
    c.count-last.result c.args.self.now c.deliveries.self c.flow_one.new.self (string_bytes c.deliveries.text) (string_bytes c.flow_one.new.text) (text_in c.stepped.result) c.in_ok-flow_one.field-0 c.in-Ok-Some.fault (fault_in c.stepped.result)
    c.deliveries.invariant.flowed c.deliveries-test.true c.deliveries.invariant.all (ended_as c.in_ok-flow_one.field-0 c.in-Ok-Some.field-0 (Some c.in-Ok-Some.fault) c.in-Ok-Some.is c.in-Ok-Some.field-0-is) c.in_ok-flow_one.ensures.flows c.stepped.ensures.text c.stepped.ensures.fault

pub returns-in-Ok-Some-clause-keeps : goal.returns-in-Ok-Some-clause-keeps
returns-in-Ok-Some-clause-keeps g c = flow_keeps_on g.D.Disk.Told c.args.self.now c.deliveries.self c.flow_one.new.self c.deliveries.invariant.keeps c.flow_one.ensures.keeps

pub returns-in-Ok-Some-clause-stops : goal.returns-in-Ok-Some-clause-stops
returns-in-Ok-Some-clause-stops g c = flow_stops_on g.D.Disk.Told g.D.Disk.size g.D.Disk.fuse c.args.self.now c.deliveries.self c.flow_one.new.self c.deliveries.invariant.stops c.flow_one.ensures.stops

pub returns-in-Ok-Some-clause-begun : goal.returns-in-Ok-Some-clause-begun
returns-in-Ok-Some-clause-begun g c = begins_on c.args.self.now.client c.deliveries.self.client c.flow_one.new.self.client c.deliveries.invariant.begun c.flow_one.ensures.begun

pub returns-in-Err-clause-goes : goal.returns-in-Err-clause-goes
returns-in-Err-clause-goes g c =
    flow_loses g.D.Disk.Told (run_machines g.M.Mechanism.mic_of g.M.Mechanism.derived g.M.Mechanism.started g.M.Mechanism.accepted g.M.Mechanism.finished) reading g.D.Disk.faults g.D.Disk.size
    g.D.Disk.fuse c.count-last.result c.in-Err.lost c.in_ok-flow_one.field-0 c.args.self.now c.deliveries.self c.flow_one.new.self (string_bytes c.deliveries.text) (string_bytes c.flow_one.new.text)
    c.deliveries.invariant.flowed c.deliveries.invariant.flowing.ready c.deliveries.invariant.stops c.flow_one.ensures.keeps.keeps c.in-Err.is c.in_ok-flow_one.ensures.flows

pub returns-in-Err-clause-keeps : goal.returns-in-Err-clause-keeps
returns-in-Err-clause-keeps g c = flow_keeps_on g.D.Disk.Told c.args.self.now c.deliveries.self c.flow_one.new.self c.deliveries.invariant.keeps c.flow_one.ensures.keeps

pub returns-in-Err-clause-stops : goal.returns-in-Err-clause-stops
returns-in-Err-clause-stops g c = flow_stops_on g.D.Disk.Told g.D.Disk.size g.D.Disk.fuse c.args.self.now c.deliveries.self c.flow_one.new.self c.deliveries.invariant.stops c.flow_one.ensures.stops

pub returns-in-Err-clause-begun : goal.returns-in-Err-clause-begun
returns-in-Err-clause-begun g c = begins_on c.args.self.now.client c.deliveries.self.client c.flow_one.new.self.client c.deliveries.invariant.begun c.flow_one.ensures.begun

pub deliveries-preserved : goal.deliveries-preserved
deliveries-preserved g c =
    let is = ended_as c.in_ok-flow_one.field-0 c.in-Ok-None.field-0 None c.in-Ok-None.is c.in-Ok-None.field-0-is in
    record {
      flowed = flow_next g.D.Disk.Told (run_machines g.M.Mechanism.mic_of g.M.Mechanism.derived g.M.Mechanism.started g.M.Mechanism.accepted g.M.Mechanism.finished) reading g.D.Disk.faults g.D.Disk.size
          c.count-last.result c.args.self.now c.deliveries.self c.flow_one.new.self (string_bytes c.deliveries.text) (string_bytes c.flow_one.new.text) c.in_ok-flow_one.field-0
          c.deliveries.invariant.flowed c.deliveries.invariant.stops.armed c.deliveries-test.true c.deliveries.invariant.all is c.in_ok-flow_one.ensures.flows c.flow_one.ensures.flowed;
      keeps = flow_keeps_on g.D.Disk.Told c.args.self.now c.deliveries.self c.flow_one.new.self c.deliveries.invariant.keeps c.flow_one.ensures.keeps;
      stops = flow_stops_on g.D.Disk.Told g.D.Disk.size g.D.Disk.fuse c.args.self.now c.deliveries.self c.flow_one.new.self c.deliveries.invariant.stops c.flow_one.ensures.stops;
      flowing = next_flowing g.D.Disk.Told g.D.Disk.size g.D.Disk.fuse c.flow_one.new.self c.in_ok-flow_one.field-0 is c.in_ok-flow_one.ensures.flowing;
      begun = begins_on c.args.self.now.client c.deliveries.self.client c.flow_one.new.self.client c.deliveries.invariant.begun c.flow_one.ensures.begun;
      all = omega (arith, c.deliveries.invariant.all, c.flow_one.ensures.keeps.keeps.log.longer);
      few = c.deliveries.invariant.few;
    }

pub returns-clause-goes : goal.returns-clause-goes
returns-clause-goes g c =
    goes_as g.D.Disk.Told (run_machines g.M.Mechanism.mic_of g.M.Mechanism.derived g.M.Mechanism.started g.M.Mechanism.accepted g.M.Mechanism.finished) reading g.D.Disk.faults g.D.Disk.size
    (map kinds.Deliver (waiting c.args.self.now.log)) c.args.self.now c.deliveries.self (string_bytes c.deliveries.text) (text_in c.stepped-2.result) None (fault_in c.stepped-2.result) c.stepped-2.ensures.text c.stepped-2.ensures.fault
    (flow_done g.D.Disk.Told (run_machines g.M.Mechanism.mic_of g.M.Mechanism.derived g.M.Mechanism.started g.M.Mechanism.accepted g.M.Mechanism.finished) reading g.D.Disk.faults g.D.Disk.size c.count-last.result c.args.self.now c.deliveries.self (string_bytes c.deliveries.text) c.deliveries.invariant.flowed (omega (arith, c.deliveries-test.false)))

pub returns-clause-keeps : goal.returns-clause-keeps
returns-clause-keeps g c = c.deliveries.invariant.keeps

pub returns-clause-stops : goal.returns-clause-stops
returns-clause-stops g c = c.deliveries.invariant.stops

pub returns-clause-begun : goal.returns-clause-begun
returns-clause-begun g c = c.deliveries.invariant.begun
