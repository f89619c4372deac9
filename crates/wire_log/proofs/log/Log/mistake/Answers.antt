use Rattle.std.proofs.Common.{ℕ, true, false, List, Option, ap, sym, ◌∙◌}
use Rattle.nfs_base.specs.declared.seal.Seal.{Seal}
use Rattle.wire_log.specs.Looking.{first_seal}
use Rattle.wire_log.proofs.Looked.{mistaken}
use Rattle.wire_log.proofs.log.Log.mistake.Goals as goal
use Rattle.wire_machine.specs.Check.{mistake_unless}

pub returns-then-is_right : goal.returns-then-is_right
returns-then-is_right c =
    mistaken c.as_slice-records.result.now c.args.end c.args.opening c.in_ok-accepted.accepted c.args.took c.in_ok-taken.taken.now c.in_ok-taken.ensures
    c.self.inside.records.items c.self.inside.bytes c.args.self.now c.args.accepted true c.self.invariant c.as_slice-records.ensures.value c.self.view_is c.in_ok-accepted.was
    (sym c.is_right.ensures ∙ c.if-is_right.true)

pub returns : goal.returns
returns c =
    ap (λ (s : Option Seal). mistake_unless false c.in_ok-accepted.accepted s) (c.first_seal.ensures ∙ ap (λ (bs : List ℕ). first_seal c.as_slice-records.result.now bs) c.as_slice.ensures)
    ∙ mistaken c.as_slice-records.result.now c.args.end c.args.opening c.in_ok-accepted.accepted c.args.took c.in_ok-taken.taken.now c.in_ok-taken.ensures
    c.self.inside.records.items c.self.inside.bytes c.args.self.now c.args.accepted false c.self.invariant c.as_slice-records.ensures.value c.self.view_is c.in_ok-accepted.was
    (sym c.is_right.ensures ∙ c.if-is_right.false)
