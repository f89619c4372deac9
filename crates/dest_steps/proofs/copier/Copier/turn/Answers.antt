use Rattle.std.proofs.Common.{◌<◌, sym, subst, ◌∙◌, le-leb, length, arith}
use Rattle.std.proofs.lemmas.Result.{IfOk-weaker}
use Rattle.nfs_base.specs.declared.limits.TheConstants.{NAME_LIMIT}
use Rattle.dest_steps.specs.Copier.{around_of, Codes}
use Rattle.dest_steps.specs.Turning.{send_at}
use Rattle.dest_steps.specs.declared.copier.Copier.{Copier}
use Rattle.dest_steps.proofs.Quiet.{begins_if, on_err_both, quiet_same}
use Rattle.dest_steps.proofs.Turns.{turn_is, IsWorked}
use Rattle.dest_steps.proofs.copier.Copier.turn.Goals as goal

pub ready-requires-clause-numbered : goal.ready-requires-clause-numbered
ready-requires-clause-numbered g c =
    let x = c.args.self.now in
    let y = c.next_due.new.self in
    let due = c.in_ok-due.due in
    let at = send_at (around_of c.args.sessions.now c.args.here) c.args.place c.in-Some.xid in
    begins_if due (y.work.mount.calls < c.in-Some.xid) (λ quiet.
    subst (λ (z : Copier). z.work.mount.calls < c.in-Some.xid)
    (sym (quiet_same g.M.Mechanism.mic_of at c.args.sessions.now due x y (record { due_is = c.in_ok-due.ensures.due; after_is = c.in_ok-due.ensures.after }) quiet))
    c.in-Some.ensures.above)

pub returns-clause-turn : goal.returns-clause-turn
returns-clause-turn g c =
    let x = c.args.self.now in
    let y = c.next_due.new.self in
    let due = c.in_ok-due.due in
    let around = around_of c.args.sessions.now c.args.here in
    let codes : Codes = record { mic = g.M.Mechanism.mic_of; derived = g.M.Mechanism.derived } in
    let worked : IsWorked codes around c.args.place c.in-Some.xid c.setup-setup.result due x y =
    record {
      short_is = le-leb (length x.principal) NAME_LIMIT (omega arith);
      xid_is = sym c.next_xid.ensures.xid ∙ c.in-Some.is;
      setup_is = c.setup-setup.ensures;
      due_is = c.in_ok-due.ensures.due;
      after_is = c.in_ok-due.ensures.after;
    } in
    IfOk-weaker c.ready.result _ _
    (λ t is. turn_is g.W.Draws.gives (g.M.Mechanism.started c.args.mech.now) codes around c.args.place c.in-Some.xid c.setup-setup.result due x y
    c.args.draws.now c.ready.new.draws (t, c.ready.new.self) worked is) c.ready.ensures.due

pub returns-clause-err : goal.returns-clause-err
returns-clause-err g c =
    let x = c.args.self.now in
    let y = c.next_due.new.self in
    let at = send_at (around_of c.args.sessions.now c.args.here) c.args.place c.in-Some.xid in
    on_err_both c.ready.result
    (λ same quiet. same ∙ quiet_same g.M.Mechanism.mic_of at c.args.sessions.now c.in_ok-due.due x y (record { due_is = c.in_ok-due.ensures.due; after_is = c.in_ok-due.ensures.after }) quiet)
    c.ready.ensures.err c.ready.ensures.quiet
