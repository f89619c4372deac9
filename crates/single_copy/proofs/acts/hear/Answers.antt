use Rattle.std.proofs.Common.{refl, sym, ◌∙◌}
use Rattle.single_copy.proofs.Outcomes.{ok_join}
use Rattle.single_copy.proofs.acts.hear.Goals as goal

pub returns-then-has_left-clause-acts : goal.returns-then-has_left-clause-acts
returns-then-has_left-clause-acts g c =
    let left = sym c.has_left.ensures ∙ c.if-has_left.true in
    ok_join c.on_record.result _ _ _ c.on_record.ensures.is c.on_record.ensures.undrawn
    (λ out is undrawn. λ copy. record { does = rw left is; undrawn = undrawn; later = c.on_record.ensures.later })

pub returns-else-has_left-clause-acts : goal.returns-else-has_left-clause-acts
returns-else-has_left-clause-acts g c =
    let left = sym c.has_left.ensures ∙ c.if-has_left.false in
    ok_join c.on_record-else-has_left.result _ _ _ c.on_record-else-has_left.ensures.is c.on_record-else-has_left.ensures.undrawn
    (λ out is undrawn. λ copy. record { does = rw left (record { step = is; source = refl; dest = refl }); undrawn = undrawn; later = c.on_record-else-has_left.ensures.later })
