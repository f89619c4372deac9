-- The disk in memory, from what the last crash left and its calls since. Own definitions.
use Rattle.std.specs.Prelude.{◌≡◌, ℕ, ◌==◌, ◌&&◌, ◌+◌, ◌≤◌, ◌<◌, Bool, true, false, List, length, take, fold, Option, Some, None, is_some, slice_index_or, if◌then◌else◌}
use Rattle.std.specs.BTreeMap.{BTreeMap, get}
use Rattle.std.specs.Ordering.{nat_cmp}
use Rattle.std.specs.Global.{Box}
use Rattle.disk_model.specs.declared.store.Call.{Call}
use Rattle.disk_model.specs.declared.store.Call.TheVariants.{Wrote, Synced}
use Rattle.disk_model.specs.Disk.{Image, DiskState, zero_block}
use Rattle.disk_model.specs.Elapsed.{Timeline}
use Rattle.disk_model.specs.Pick.{picked}

-- what a place holds, or else what is given
abbrev pub held : Option (Box (List ℕ)) → List ℕ → List ℕ
held None other = other
held (Some block) other = block.value

-- the image that the last crash left
abbrev pub base_of : BTreeMap ℕ (Box (List ℕ)) → Image
base_of left b = held (get nat_cmp left b) zero_block

-- what a read gives: the last write since, or what the last crash left
abbrev pub latest_of : BTreeMap ℕ (Box (List ℕ)) → BTreeMap ℕ (Box (List ℕ)) → Image
latest_of written left b = held (get nat_cmp written b) (base_of left b)

-- the same image with one block changed
abbrev pub put : {A : Type 0} → (ℕ → A) → ℕ → A → ℕ → A
put f at x b = if b == at then x else f b

-- What a read gives, what the last sync left (or the crash before it), and which blocks were written since.
pub record Replay : Type 0 where
  pub reads : Image
  pub safe : Image
  pub is_open : ℕ → Bool

-- the disk where nothing was written since a sync or a crash
abbrev pub at_rest : Image → Replay
at_rest image = record { reads = image; safe = image; is_open = λ _. false }

-- the disk after one more call
abbrev pub after : Replay → Call → Replay
after s (Wrote at block) =
    record { reads = put s.reads at block.value; safe = s.safe; is_open = put s.is_open at true }
after s Synced = at_rest s.reads

abbrev pub replay : List Call → Replay → Replay
replay calls s = fold after s calls

-- the replay as a crash sees it
abbrev pub seen : Replay → DiskState
seen s = record { reads = s.reads; is_open = s.is_open }

-- the moments since the crash that left this image: one a call
abbrev pub moments : Image → List Call → ℕ → Timeline
moments base calls stop =
    record {
      latest = length calls;
      state = λ k. seen (replay (take k calls) (at_rest base));
      stop = stop;
    }

-- One moment later, with the moments that were as they were.
pub record Follows (old new : Timeline) : Type 0 where
  pub later : new.latest ≡ old.latest + 1
  pub past : (k : ℕ) → k ≤ old.latest → new.state k ≡ old.state k

-- whether there is a place for the block that a call wrote, and the block is whole
abbrev pub has_place : BTreeMap ℕ (Box (List ℕ)) → Call → Bool
has_place blocks (Wrote at block) = is_some (get nat_cmp blocks at) && (length block.value == 4096)
has_place blocks Synced = true

-- each block reads as the calls left it
abbrev pub IsReplayed : BTreeMap ℕ (Box (List ℕ)) → BTreeMap ℕ (Box (List ℕ)) → List Call → Type 0
IsReplayed written left calls = (b : ℕ) → latest_of written left b ≡ (replay calls (at_rest (base_of left))).reads b

-- each block that the calls wrote has a place
abbrev pub HavePlaces : BTreeMap ℕ (Box (List ℕ)) → List Call → Type 0
HavePlaces left calls = (k : ℕ) → k < length calls → has_place left (slice_index_or calls k Synced) ≡ true

abbrev pub is_sync : Call → Bool
is_sync (Wrote _ _) = false
is_sync Synced = true

-- the blocks with one more call written over them, as a pick has it
abbrev pub torn_by : ℕ → Image → Call → Image
torn_by pick image (Wrote at block) = put image at (picked pick (image at) block.value)
torn_by pick image Synced = image

abbrev pub torn : ℕ → List Call → Image → Image
torn pick calls image = fold (torn_by pick) image calls
