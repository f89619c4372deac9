use Rattle.std.proofs.Common.{[], ◌∷◌, ◌++◌, ap, ◌∙◌}
use Rattle.std.proofs.lemmas.List.{map-append}
use Rattle.compound_server.specs.Preparing.{op_of}
use Rattle.compound_server.proofs.Suited.{suited_behind}
use Rattle.compound_server.proofs.preparing.prepare.Goals as goal

-- src/preparing.rt:70:5
pub loop-op-preserved : goal.loop-op-preserved
loop-op-preserved g c = rw c.in_ok-push_back.ensures.items (record {
  ops = map-append op_of c.loop-op.prepared.items (c.in_ok-prepare_one.field-0 ∷ []) ∙ ap (λ os. os ++ op_of c.in_ok-prepare_one.field-0 ∷ []) c.loop-op.invariant.ops ∙ ap (λ o. c.loop-op.yielded ++ o ∷ []) c.in_ok-prepare_one.ensures.op;
  suited = suited_behind g.X.Serving.suits c.args.carry.now c.loop-op.prepared.items c.in_ok-prepare_one.field-0 c.loop-op.invariant.suited c.in_ok-prepare_one.ensures.suited;
})
