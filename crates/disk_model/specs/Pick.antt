-- What the disk in memory leaves at a crash. Own definitions.
use Rattle.std.specs.Prelude.{ℕ, zero, suc, ◌++◌, List, take, drop, replicate, if◌then◌else◌}
use Rattle.disk_model.specs.Disk.{Image, DiskState}
use Rattle.disk_model.specs.Elapsed.{Timeline}

-- One block that was written since the last sync, from what that sync left of it and the last write:
-- pick 0 is what the sync left, 1 the last write, 2 the byte 0xA5 throughout, and any other the first
-- 2,048 bytes of the last write and what the sync left of the rest.
abbrev pub picked : ℕ → List ℕ → List ℕ → List ℕ
picked zero safe written = safe
picked (suc zero) safe written = written
picked (suc (suc zero)) safe written = replicate 4096 165
picked (suc (suc (suc _))) safe written = take 2048 written ++ drop 2048 safe

-- What stood in a block when it was last closed, at this moment or before: what the last sync left.
abbrev pub safe_at : (ℕ → DiskState) → ℕ → ℕ → List ℕ
safe_at state zero b = (state zero).reads b
safe_at state (suc k) b = if (state (suc k)).is_open b then safe_at state k b else (state (suc k)).reads b

-- What a crash at this moment leaves, under a pick.
abbrev pub left_by : ℕ → Timeline → ℕ → Image
left_by pick t k b =
    if (t.state k).is_open b then picked pick (safe_at t.state k b) ((t.state k).reads b) else (t.state k).reads b
