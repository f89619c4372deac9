use Rattle.std.proofs.Common.{◌≡◌, ℕ, take}
use Rattle.disk_model.specs.declared.store.Call.{Call}
use Rattle.disk_model.specs.Replay.{base_of, torn, has_place}
use Rattle.disk_model.proofs.store.apply.Given as goal

abbrev pub invariant-loop-call : goal.invariant-loop-call
invariant-loop-call l = record {
  torn : (b : ℕ) → base_of l.left b ≡ torn l.pick (take l.call-index l.calls) (base_of l.initial.left) b;
  placed : (call : Call) → has_place l.left call ≡ has_place l.initial.left call;
}
