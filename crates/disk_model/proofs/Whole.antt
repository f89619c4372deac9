-- Each block of the disk in memory has all its bytes.
use Rattle.std.proofs.Common.{◌≡◌, ◌==◌, ℕ, zero, suc, ◌-◌, ◌<◌, ◌≤◌, true, List, [], ◌∷◌, length, take, drop, ◌∙◌, ap, arith, inl, inr, length-append, length-drop}
use Rattle.std.proofs.lemmas.Bool.{cases_Bool, and_parts, eqb-true}
use Rattle.std.proofs.lemmas.List.{length-replicate, length-take-le, get_or-take}
use Rattle.std.specs.BTreeMap.{BTreeMap}
use Rattle.std.specs.Global.{Box}
use Rattle.disk_model.specs.declared.store.Call.{Call}
use Rattle.disk_model.specs.declared.store.Call.TheVariants.{Wrote, Synced}
use Rattle.disk_model.specs.Disk.{Image, zero_block}
use Rattle.disk_model.specs.Elapsed.{contents}
use Rattle.disk_model.specs.Pick.{picked}
use Rattle.disk_model.specs.Replay.{Replay, put, after, replay, at_rest, moments, has_place, HavePlaces, torn_by, torn}
use Rattle.disk_model.proofs.Stored.{contents_now}

-- a block of zeros is whole
pub zero_whole : length zero_block ≡ 4096
unfolding zero_block
zero_whole = length-replicate {A = ℕ} 4096 0

-- so is a block with one written over it
picked_whole : (pick : ℕ) (safe written : List ℕ) → length safe ≡ 4096 → length written ≡ 4096 → length (picked pick safe written) ≡ 4096
picked_whole zero safe written s w = s
picked_whole (suc zero) safe written s w = w
picked_whole (suc (suc zero)) safe written s w = length-replicate {A = ℕ} 4096 165
picked_whole (suc (suc (suc _))) safe written s w =
    let front : length (take 2048 written) ≡ 2048 = length-take-le 2048 written (omega arith) in
    let back : length (drop 2048 safe) ≡ length safe - 2048 = length-drop 2048 safe in
    length-append (take 2048 written) (drop 2048 safe) ∙ (omega arith)

put_whole : (image : Image) (at : ℕ) (block : List ℕ) → ((b : ℕ) → length (image b) ≡ 4096) → length block ≡ 4096
    → (b : ℕ) → length (put image at block b) ≡ 4096
put_whole image at block whole here b = elim (cases_Bool (b == at)) [
  | inl is ↦ rw is here
  | inr apart ↦ rw apart (whole b)
]

wrote_whole : (places : BTreeMap ℕ (Box (List ℕ))) (at : ℕ) (block : Box (List ℕ)) → has_place places (Wrote at block) ≡ true → length block.value ≡ 4096
wrote_whole places at block placed = eqb-true _ _ (and_parts _ _ placed).1

-- and so are all blocks after calls that wrote whole ones, and after a crash of them
length_take : {A : Type 0} (n : ℕ) (xs : List A) → (length (take n xs) ≤ n) × (length (take n xs) ≤ length xs)
length_take zero xs = (omega arith, omega arith)
length_take (suc n) [] = (omega arith, omega arith)
length_take (suc n) (x ∷ xs) =
    let rest = length_take n xs in
    (omega (arith, rest.0), omega (arith, rest.1))

pub replay_whole : (places : BTreeMap ℕ (Box (List ℕ))) (calls : List Call) (s : Replay) → HavePlaces places calls
    → ((b : ℕ) → length (s.reads b) ≡ 4096) → (b : ℕ) → length ((replay calls s).reads b) ≡ 4096
replay_whole places [] s placed whole = whole
replay_whole places (Wrote at block ∷ calls) s placed whole =
    replay_whole places calls (after s (Wrote at block)) (λ k lt. placed (suc k) (omega arith))
    (put_whole s.reads at block.value whole (wrote_whole places at block (placed 0 (omega arith))))
replay_whole places (Synced ∷ calls) s placed whole =
    replay_whole places calls (after s Synced) (λ k lt. placed (suc k) (omega arith)) whole

torn_whole : (places : BTreeMap ℕ (Box (List ℕ))) (pick : ℕ) (calls : List Call) (image : Image) → HavePlaces places calls
    → ((b : ℕ) → length (image b) ≡ 4096) → (b : ℕ) → length (torn pick calls image b) ≡ 4096
torn_whole places pick [] image placed whole = whole
torn_whole places pick (Wrote at block ∷ calls) image placed whole =
    torn_whole places pick calls (torn_by pick image (Wrote at block)) (λ k lt. placed (suc k) (omega arith))
    (put_whole image at (picked pick (image at) block.value) whole
    (picked_whole pick (image at) block.value (whole at) (wrote_whole places at block (placed 0 (omega arith)))))
torn_whole places pick (Synced ∷ calls) image placed whole =
    torn_whole places pick calls image (λ k lt. placed (suc k) (omega arith)) whole

pub front_whole : (places : BTreeMap ℕ (Box (List ℕ))) (pick n : ℕ) (calls : List Call) (image : Image) → HavePlaces places calls
    → ((b : ℕ) → length (image b) ≡ 4096) → (b : ℕ) → length (torn pick (take n calls) image b) ≡ 4096
front_whole places pick n calls image placed whole =
    torn_whole places pick (take n calls) image
    (λ k lt.
    let parts = length_take n calls in
    let below : k < n = omega (arith, parts) in
    let within : k < length calls = omega (arith, parts) in
    rw (get_or-take n calls k Synced below) (placed k within))
    whole

pub read_whole : (places : BTreeMap ℕ (Box (List ℕ))) (base : Image) (calls : List Call) → HavePlaces places calls
    → ((b : ℕ) → length (base b) ≡ 4096) → (b : ℕ) → length (contents (moments base calls 0) b) ≡ 4096
read_whole places base calls placed whole b =
    ap (λ (l : List ℕ). length l) (contents_now base calls b) ∙ replay_whole places calls (at_rest base) placed whole b
