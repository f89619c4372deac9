-- What the places of the disk in memory hold.
use Rattle.std.proofs.Common.{◌≡◌, ◌==◌, ℕ, ◌+◌, ◌≤◌, true, false, cond, Some, None, is_some, Result, Ok, Err, is_ok, OnErr, length-append, List, [], ◌∷◌, ◌++◌, length, get_or, sym, ap, subst, arith, inl, inr}
use Rattle.std.proofs.Math.Seq.{take-length}
use Rattle.std.specs.BTreeMap.{BTreeMap, get, Updates}
use Rattle.std.specs.BTreeMap.{is_at}
use Rattle.std.specs.Global.{Box}
use Rattle.std.proofs.lemmas.Grind.{common_steps}
use Rattle.std.specs.Ordering.{nat_cmp}
use Rattle.disk_model.specs.declared.store.Call.{Call}
use Rattle.disk_model.specs.declared.store.Call.TheVariants.{Wrote, Synced}
use Rattle.disk_model.specs.Disk.{Image, zero_block}
use Rattle.disk_model.specs.Elapsed.{contents}
use Rattle.disk_model.specs.Replay.{base_of, latest_of, held, after, replay, at_rest, moments, has_place, IsReplayed, HavePlaces}
use Rattle.std.proofs.lemmas.List.Sums.{fold_push}
use Rattle.std.proofs.lemmas.Bool.{cases_lt}
use Rattle.std.proofs.lemmas.List.{get_or_push}
use Rattle.std.proofs.Math.ListN.{get_or-append}

-- what a read gives at the last moment
pub contents_now : (base : Image) (calls : List Call) (b : ℕ) → contents (moments base calls 0) b ≡ (replay calls (at_rest base)).reads b
contents_now base calls b = ap (λ (cs : List Call). (replay cs (at_rest base)).reads b) (take-length calls)

pub latest_none : (written left : BTreeMap ℕ (Box (List ℕ))) (b : ℕ) → get nat_cmp written b ≡ None → get nat_cmp left b ≡ None
    → latest_of written left b ≡ zero_block
latest_none written left b none_written none_left = rw (none_written, none_left)

-- a key of the map is found by its number
pub same_key : (at b : ℕ) → is_at (nat_cmp at) b ≡ (b == at)
same_key at b = grind (arith, common_steps)

-- a place that holds zeros, made where there was none, changes no block
pub base_kept : (old new : BTreeMap ℕ (Box (List ℕ))) (at : ℕ) (zeros : Box (List ℕ)) (b : ℕ)
    → is_some (get nat_cmp old at) ≡ false → zeros.value ≡ zero_block → Updates nat_cmp old new at (Some zeros)
    → base_of new b ≡ base_of old b
base_kept old new at zeros b absent zero updates = grind (arith, common_steps)

-- the facts of the store, where nothing was written
pub still_replayed : (written written' left left' : BTreeMap ℕ (Box (List ℕ))) (calls calls' : List Call)
    → written'.entries ≡ written.entries → base_of left' ≡ base_of left → calls' ≡ calls
    → IsReplayed written left calls → IsReplayed written' left' calls'
still_replayed written written' left left' calls calls' same base same_calls replayed b =
    let before : held (get nat_cmp written' b) (base_of left b) ≡ (replay calls' (at_rest (base_of left))).reads b =
    rw (same, same_calls) (replayed b) in
    subst (λ (image : Image). held (get nat_cmp written' b) (image b) ≡ (replay calls' (at_rest image)).reads b) (sym base) before

pub still_placed : (left left' : BTreeMap ℕ (Box (List ℕ))) (calls calls' : List Call)
    → ((call : Call) → has_place left call ≡ true → has_place left' call ≡ true) → calls' ≡ calls
    → HavePlaces left calls → HavePlaces left' calls'
still_placed left left' calls calls' placed same_calls places k lt =
    placed (get_or calls' k Synced) (rw same_calls (places k (omega (arith, ap length same_calls))))

-- and where a block was written
pub wrote_replayed : (written written' left left' : BTreeMap ℕ (Box (List ℕ))) (calls calls' : List Call) (at : ℕ) (logged latest : Box (List ℕ))
    → Updates nat_cmp written written' at (Some latest) → latest.value ≡ logged.value
    → base_of left' ≡ base_of left → calls' ≡ calls ++ Wrote at logged ∷ []
    → IsReplayed written left calls → IsReplayed written' left' calls'
wrote_replayed written written' left left' calls calls' at logged latest updates alike base pushed replayed b =
    let before : held (get nat_cmp written' b) (base_of left b) ≡ (replay calls' (at_rest (base_of left))).reads b =
    rw (pushed, fold_push after (at_rest (base_of left)) calls (Wrote at logged)) (grind (arith, common_steps, replayed b)) in
    subst (λ (image : Image). held (get nat_cmp written' b) (image b) ≡ (replay calls' (at_rest image)).reads b) (sym base) before

pub wrote_placed : (left left' : BTreeMap ℕ (Box (List ℕ))) (calls calls' : List Call) (at : ℕ) (logged : Box (List ℕ))
    → ((call : Call) → has_place left call ≡ true → has_place left' call ≡ true) → is_some (get nat_cmp left' at) ≡ true
    → length logged.value ≡ 4096 → calls' ≡ calls ++ Wrote at logged ∷ []
    → HavePlaces left calls → HavePlaces left' calls'
wrote_placed left left' calls calls' at logged placed here whole pushed places k lt =
    rw pushed (elim (cases_lt k (length calls)) [
      | inl old ↦ rw get_or-append (placed _ (places k old))
      | inr new ↦
          let last : length calls ≡ k = omega (arith, ap length pushed, length-append {A = Call}) in
          rw (get_or_push calls (Wrote at logged) Synced k last) (rw (here, whole))
    ])

-- a push into room that is there
pub pushed_with_room : {T E : Type 0} (result : Result T E) (calls same pushed : List Call) (call : Call) (len capacity : ℕ)
    → pushed ≡ cond (is_ok result) (same ++ call ∷ []) same → OnErr result (capacity ≤ len) → len + 1 ≤ capacity
    → same ≡ calls → pushed ≡ calls ++ call ∷ []
pushed_with_room (Ok _) calls same pushed call len capacity items full room alike = rw (← alike) items
pushed_with_room (Err _) calls same pushed call len capacity items full room alike = absurd (omega arith)
