use Rattle.std.proofs.Common.{arith, ap, refl}
use Rattle.wire_machine.specs.Runs.{events_in}
use Rattle.wire_run.specs.Running.{Running}
use Rattle.wire_run.proofs.Tracing.{cut_later, disks_along, faults_along}
use Rattle.wire_run.proofs.Turns.{if_err, if_ok, on_err}
use Rattle.wire_run.proofs.Whole.{cut_last, run_cut, run_last, run_over, schedule_admitted}
use Rattle.wire_run.proofs.system.System.run.Goals as goal

pub returns-in_err-ran-clause-err : goal.returns-in_err-ran-clause-err
returns-in_err-ran-clause-err g c =
    on_err _ _
    (run_cut _ _ _ _ _ _ c.args.self.now _ _ c.requires.rest
    (schedule_admitted _ c.args.schedule.now (ap (λ (r : Running g.row.D.Denot g.row.M.Denot). r.context) c.requires.rest) c.run_all.ensures.admitted) c.in_err-ran.ensures.err)

pub returns-in_err-ran-clause-later : goal.returns-in_err-ran-clause-later
returns-in_err-ran-clause-later g c = cut_later _ _ _ _ _ _ _ _ _ c.in_err-ran.ensures.err

pub returns-in-Some-clause-ran : goal.returns-in-Some-clause-ran
returns-in-Some-clause-ran g c =
    let ended = run_over _ _ _ _ _ (events_in c.args.schedule.now) c.args.self.now c.run_all.new.self _ _ c.in-Some.ran c.requires.rest
    (schedule_admitted _ c.args.schedule.now (ap (λ (r : Running g.row.D.Denot g.row.M.Denot). r.context) c.requires.rest) c.run_all.ensures.admitted)
    (rw c.in-Some.is at c.in_ok-ran.ensures.ran) in
    ended.is

pub returns-in-Some-clause-there : goal.returns-in-Some-clause-there
returns-in-Some-clause-there g c = disks_along _ _ _ _ _ _ c.args.self.now _ _ _ _ c.requires.disks c.in_ok-ran.ensures.ran

pub returns-in-Some-clause-later : goal.returns-in-Some-clause-later
returns-in-Some-clause-later g c = faults_along _ _ _ _ _ _ _ _ _ _ _ c.in_ok-ran.ensures.ran

pub returns-in-Some-clause-cause : goal.returns-in-Some-clause-cause
returns-in-Some-clause-cause g c =
    let ended = run_over _ _ _ _ _ (events_in c.args.schedule.now) c.args.self.now c.run_all.new.self _ _ c.in-Some.ran c.requires.rest
    (schedule_admitted _ c.args.schedule.now (ap (λ (r : Running g.row.D.Denot g.row.M.Denot). r.context) c.requires.rest) c.run_all.ensures.admitted)
    (rw c.in-Some.is at c.in_ok-ran.ensures.ran) in
    ended.cause

pub returns-in-None-clause-ran : goal.returns-in-None-clause-ran
returns-in-None-clause-ran g c =
    let admitted = schedule_admitted _ c.args.schedule.now (ap (λ (r : Running g.row.D.Denot g.row.M.Denot). r.context) c.requires.rest) c.run_all.ensures.admitted in
    if_ok c.put_last.result _ _
    (λ end put.
    let ended = run_last _ _ _ _ _ (record { source = λ s. refl; dest = λ s. refl }) (events_in c.args.schedule.now) c.args.self.now c.run_all.new.self (g.K.Stream.takes c.args.out.now) (g.K.Stream.takes c.run_all.new.out) (g.K.Stream.takes c.put_last.new.out) end c.requires.rest admitted
    (rw c.in-None.is at c.in_ok-ran.ensures.ran) put in
    ended.is)
    c.put_last.ensures.ran

pub returns-in-None-clause-err : goal.returns-in-None-clause-err
returns-in-None-clause-err g c =
    let admitted = schedule_admitted _ c.args.schedule.now (ap (λ (r : Running g.row.D.Denot g.row.M.Denot). r.context) c.requires.rest) c.run_all.ensures.admitted in
    if_err c.put_last.result _ _
    (λ same. run_cut _ _ _ _ _ _ c.args.self.now _ _ c.requires.rest admitted (cut_last _ _ _ _ _ _ _ _ _ _ _ (rw c.in-None.is at c.in_ok-ran.ensures.ran) same))
    c.put_last.ensures.err

pub returns-in-None-clause-there : goal.returns-in-None-clause-there
returns-in-None-clause-there g c =
    if_ok c.put_last.result _ _ (λ end put. disks_along _ _ _ _ _ _ c.args.self.now _ _ _ _ c.requires.disks c.in_ok-ran.ensures.ran) c.put_last.ensures.ran

pub returns-in-None-clause-later : goal.returns-in-None-clause-later
returns-in-None-clause-later g c =
    let before = faults_along _ _ _ _ _ _ _ _ _ _ _ c.in_ok-ran.ensures.ran in
    omega (arith, before, c.put_last.ensures.later)

pub returns-in-None-clause-cause : goal.returns-in-None-clause-cause
returns-in-None-clause-cause g c =
    let admitted = schedule_admitted _ c.args.schedule.now (ap (λ (r : Running g.row.D.Denot g.row.M.Denot). r.context) c.requires.rest) c.run_all.ensures.admitted in
    if_ok c.put_last.result _ _
    (λ end put.
    let ended = run_last _ _ _ _ _ (record { source = λ s. refl; dest = λ s. refl }) (events_in c.args.schedule.now) c.args.self.now c.run_all.new.self (g.K.Stream.takes c.args.out.now) (g.K.Stream.takes c.run_all.new.out) (g.K.Stream.takes c.put_last.new.out) end c.requires.rest admitted
    (rw c.in-None.is at c.in_ok-ran.ensures.ran) put in
    ended.cause)
    c.put_last.ensures.ran
