use Rattle.std.proofs.Common.{◌≡◌, ℕ, ◌≤◌, ◌<◌, false, take, get_or}
use Rattle.disk_model.specs.declared.store.Call.TheVariants.{Synced}
use Rattle.disk_model.specs.Disk.{Image}
use Rattle.disk_model.specs.Replay.{replay, at_rest, is_sync}
use Rattle.disk_model.proofs.store.synced_len.Given as goal

abbrev pub invariant-loop-k : goal.invariant-loop-k
invariant-loop-k l = record {
  within : l.synced ≤ l.k;
  rest : (image : Image) → replay (take l.synced l.calls) (at_rest image) ≡ at_rest (replay (take l.synced l.calls) (at_rest image)).reads;
  later : (k : ℕ) → l.synced ≤ k → k < l.k → is_sync (get_or l.calls k Synced) ≡ false;
}
