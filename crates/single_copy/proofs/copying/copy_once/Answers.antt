use Rattle.std.proofs.Common.{sym, ◌∙◌}
use Rattle.single_copy.proofs.Faulted.{draw_faulted}
use Rattle.single_copy.proofs.Looping.{out_copies, short_starves}
use Rattle.single_copy.proofs.Outcomes.{on_err}
use Rattle.single_copy.proofs.copying.copy_once.Goals as goal

pub returns-clause-ok : goal.returns-clause-ok
returns-clause-ok g c =
    out_copies _ _ _ c.in_ok-phase.phase c.answer.result c.nexts_join.ensures.more c.in_ok-phase.ensures.ok
    (rw (c.report.ensures, c.any_faulty.ensures) at c.answer.ensures)

pub returns-clause-draw_fault : goal.returns-clause-draw_fault
returns-clause-draw_fault g c = λ fault.
    draw_faulted _ _ c.in_ok-phase.phase c.report.result c.any_faulty.result c.in_ok-phase.ensures.drawn (sym c.answer.ensures ∙ fault)

pub returns-in_err-phase-clause-err : goal.returns-in_err-phase-clause-err
returns-in_err-phase-clause-err g c = on_err _ _ (short_starves _ _ _ _ _ c.nexts_join.ensures.more c.in_err-phase.ensures.err)
