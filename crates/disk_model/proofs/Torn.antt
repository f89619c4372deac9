-- What a crash of the disk in memory leaves: the calls up to the last sync are written over what the
-- crash before left, and those after it as the pick has it.
use Rattle.std.proofs.Common.{◌≡◌, ◌==◌, ℕ, zero, suc, ◌+◌, ◌-◌, ◌≤◌, ◌<◌, Bool, true, false, if◌then◌else◌, List, [], ◌∷◌, ◌++◌, length, take, drop, get_or, refl, sym, ◌∙◌, ap, subst, arith, inl, inr}
use Rattle.std.proofs.lemmas.Bool.{cases_Bool, and_parts, eqb-true}
use Rattle.std.proofs.lemmas.Grind.{common_steps}
use Rattle.std.proofs.lemmas.List.{take-append-drop, length-take-le, length-drop, take_rest, get_or-take, get_or-drop}
use Rattle.std.proofs.lemmas.Slice.{drop-append-drop}
use Rattle.std.proofs.lemmas.List.Sums.{fold_push, fold-append}
use Rattle.std.proofs.Math.Seq.{take-suc}
use Rattle.std.specs.BTreeMap.{BTreeMap}
use Rattle.std.specs.Global.{Box}
use Rattle.disk_model.specs.declared.store.Call.{Call}
use Rattle.disk_model.specs.declared.store.Call.TheVariants.{Wrote, Synced}
use Rattle.disk_model.specs.Disk.{Image}
use Rattle.disk_model.specs.Pick.{picked, safe_at, left_by}
use Rattle.disk_model.specs.Replay.{Replay, put, after, replay, at_rest, moments, has_place, HavePlaces, is_sync, torn}

-- a call that wrote a whole block
abbrev WroteWhole : Call → Type 0
WroteWhole (Wrote _ block) = length block.value ≡ 4096
WroteWhole Synced = ⊥

-- a block that isn't open holds what the last sync left
closed_after : (s : Replay) (call : Call) → ((b : ℕ) → s.is_open b ≡ false → s.reads b ≡ s.safe b)
    → (b : ℕ) → (after s call).is_open b ≡ false → (after s call).reads b ≡ (after s call).safe b
closed_after s (Wrote at block) closed b shut = grind (arith, common_steps, closed b)
closed_after s Synced closed b shut = refl

closed_safe : (calls : List Call) (s : Replay) → ((b : ℕ) → s.is_open b ≡ false → s.reads b ≡ s.safe b)
    → (b : ℕ) → (replay calls s).is_open b ≡ false → (replay calls s).reads b ≡ (replay calls s).safe b
closed_safe [] s closed = closed
closed_safe (call ∷ calls) s closed = closed_safe calls (after s call) (closed_after s call closed)

-- the calls under the pick that keeps the last write
torn_last : (calls : List Call) (s : Replay) (image : Image) → ((b : ℕ) → image b ≡ s.reads b)
    → (b : ℕ) → torn 1 calls image b ≡ (replay calls s).reads b
torn_last [] s image same = same
torn_last (Wrote at block ∷ calls) s image same =
    torn_last calls (after s (Wrote at block)) (put image at block.value)
    (λ b. ap (λ (x : List ℕ). if b == at then block.value else x) (same b))
torn_last (Synced ∷ calls) s image same = torn_last calls (after s Synced) image same

-- what a crash leaves of a replay
abbrev left : ℕ → Replay → Image
left pick s b = if s.is_open b then picked pick (s.safe b) (s.reads b) else s.reads b

-- a block torn twice is torn once
picked_again : (pick : ℕ) (safe first second : List ℕ) → 2048 ≤ length first
    → picked pick (picked pick safe first) second ≡ picked pick safe second
picked_again zero safe first second long = refl
picked_again (suc zero) safe first second long = refl
picked_again (suc (suc zero)) safe first second long = refl
picked_again (suc (suc (suc _))) safe first second long =
    ap (λ (rest : List ℕ). take 2048 second ++ rest)
    (drop-append-drop 2048 safe (take 2048 first) 2048 (omega arith) (length-take-le 2048 first long))

long_after : (s : Replay) (at : ℕ) (block : Box (List ℕ)) → length block.value ≡ 4096
    → ((b : ℕ) → s.is_open b ≡ true → length (s.reads b) ≡ 4096)
    → (b : ℕ) → put s.is_open at true b ≡ true → length (put s.reads at block.value b) ≡ 4096
long_after s at block whole long b opened = elim (cases_Bool (b == at)) [
  | inl here ↦ rw here whole
  | inr apart ↦ rw apart (long b (rw apart at opened))
]

-- a block written over what a crash would leave of it
torn_over : (pick : ℕ) (opened : Bool) (safe reads written held : List ℕ)
    → (opened ≡ false → reads ≡ safe) → (opened ≡ true → length reads ≡ 4096)
    → held ≡ (if opened then picked pick safe reads else reads) → picked pick held written ≡ picked pick safe written
torn_over pick true safe reads written held closed long is =
    let whole : length reads ≡ 4096 = long refl in
    rw is (picked_again pick safe reads written (omega arith))
torn_over pick false safe reads written held closed long is = rw (is, closed refl) refl

left_after : (pick at : ℕ) (block : Box (List ℕ)) (s : Replay) (image : Image)
    → ((b : ℕ) → s.is_open b ≡ false → s.reads b ≡ s.safe b)
    → ((b : ℕ) → s.is_open b ≡ true → length (s.reads b) ≡ 4096)
    → ((b : ℕ) → image b ≡ left pick s b)
    → (b : ℕ) → put image at (picked pick (image at) block.value) b ≡ left pick (after s (Wrote at block)) b
left_after pick at block s image closed long same b =
    let here : picked pick (image at) block.value ≡ picked pick (s.safe at) block.value =
    torn_over pick (s.is_open at) (s.safe at) (s.reads at) block.value (image at) (closed at) (long at) (same at) in
    elim (cases_Bool (b == at)) [
      | inl is ↦ let e : b ≡ at = grind arith in rw (is, e) here
      | inr apart ↦ rw (apart, same b) refl
    ]

-- the calls under any pick, where none of them is a sync
torn_left : (pick : ℕ) (calls : List Call) (s : Replay) (image : Image)
    → ((k : ℕ) → k < length calls → WroteWhole (get_or calls k Synced))
    → ((b : ℕ) → s.is_open b ≡ false → s.reads b ≡ s.safe b)
    → ((b : ℕ) → s.is_open b ≡ true → length (s.reads b) ≡ 4096)
    → ((b : ℕ) → image b ≡ left pick s b)
    → (b : ℕ) → torn pick calls image b ≡ left pick (replay calls s) b
torn_left pick [] s image whole closed long same = same
torn_left pick (Wrote at block ∷ calls) s image whole closed long same =
    torn_left pick calls (after s (Wrote at block)) (put image at (picked pick (image at) block.value))
    (λ k lt. whole (suc k) (omega arith))
    (closed_after s (Wrote at block) closed)
    (long_after s at block (whole 0 (omega arith)) long)
    (left_after pick at block s image closed long same)
torn_left pick (Synced ∷ calls) s image whole closed long same = absurd (whole 0 (omega arith))

-- what the last sync left, in the words of the model
safe_after : (s : Replay) (call : Call) (older : List ℕ) (b : ℕ)
    → (s.is_open b ≡ false → s.reads b ≡ s.safe b) → s.safe b ≡ older
    → (after s call).safe b ≡ (if (after s call).is_open b then older else (after s call).reads b)
safe_after s (Wrote at block) older b closed same = elim (cases_Bool (b == at)) [
  | inl here ↦ rw here same
  | inr apart ↦ rw apart (elim (cases_Bool (s.is_open b)) [
    | inl opened ↦ rw opened same
    | inr shut ↦ rw shut (sym (closed shut))
  ])
]
safe_after s Synced older b closed same = refl

safe_is : (base : Image) (calls : List Call) (k : ℕ) → k ≤ length calls → (b : ℕ)
    → (replay (take k calls) (at_rest base)).safe b ≡ safe_at (moments base calls 0).state k b
safe_is base calls zero le b = refl
safe_is base calls (suc k) le b =
    let before : Replay = replay (take k calls) (at_rest base) in
    let step : replay (take (suc k) calls) (at_rest base) ≡ after before (get_or calls k Synced) =
    ap (λ (cs : List Call). replay cs (at_rest base)) (take-suc calls k Synced (omega arith))
    ∙ fold_push after (at_rest base) (take k calls) (get_or calls k Synced) in
    subst (λ (s : Replay). s.safe b ≡ (if s.is_open b then safe_at (moments base calls 0).state k b else s.reads b)) (sym step)
    (safe_after before (get_or calls k Synced) (safe_at (moments base calls 0).state k b) b
    (closed_safe (take k calls) (at_rest base) (λ _ _. refl) b)
    (safe_is base calls k (omega arith) b))

wrote_whole : (places : BTreeMap ℕ (Box (List ℕ))) (call : Call) → has_place places call ≡ true → is_sync call ≡ false → WroteWhole call
wrote_whole places (Wrote at block) placed is = eqb-true _ _ (and_parts _ _ placed).1
wrote_whole places Synced placed is = absurd (cc)

pub crash_leaves : (pick until synced : ℕ) (places : BTreeMap ℕ (Box (List ℕ))) (base once twice : Image) (calls : List Call)
    → until ≤ length calls → HavePlaces places calls
    → ((k : ℕ) → synced ≤ k → k < length (take until calls) → is_sync (get_or (take until calls) k Synced) ≡ false)
    → replay (take synced (take until calls)) (at_rest base) ≡ at_rest (replay (take synced (take until calls)) (at_rest base)).reads
    → ((b : ℕ) → once b ≡ torn 1 (take synced (take until calls)) base b)
    → ((b : ℕ) → twice b ≡ torn pick (take (length (take until calls) - synced) (drop synced (take until calls))) once b)
    → (b : ℕ) → twice b ≡ left_by pick (moments base calls 0) until b
crash_leaves pick until synced places base once twice calls le placed later rest kept tears b =
    let cs : List Call = take until calls in
    let s : Replay = replay (take synced cs) (at_rest base) in
    let whole : (k : ℕ) → synced ≤ k → k < length cs → WroteWhole (get_or cs k Synced) =
    λ k from lt.
    let below : k < until = omega (arith, length-take-le until calls le) in
    wrote_whole places (get_or cs k Synced)
    (rw (get_or-take until calls k Synced below) (placed k (omega arith))) (later k from lt) in
    let once_is : (b : ℕ) → once b ≡ s.reads b =
    λ b. kept b ∙ torn_last (take synced cs) (at_rest base) base (λ _. refl) b in
    let second : torn pick (drop synced cs) once b ≡ left pick (replay (drop synced cs) (at_rest s.reads)) b =
    torn_left pick (drop synced cs) (at_rest s.reads) once
    (λ k lt. rw (get_or-drop synced cs k Synced) (whole (synced + k) (omega arith) (omega (arith, length-drop synced cs))))
    (λ _ _. refl) (λ b opened. absurd (cc)) once_is b in
    let joined : replay (drop synced cs) (at_rest s.reads) ≡ replay cs (at_rest base) =
    ap (replay (drop synced cs)) (sym rest) ∙ (sym (fold-append after (at_rest base) (take synced cs) (drop synced cs))
    ∙ ap (λ (xs : List Call). replay xs (at_rest base)) (take-append-drop synced cs)) in
    tears b ∙ (ap (λ (xs : List Call). torn pick xs once b) (take_rest cs synced) ∙ (second ∙ (ap (λ (r : Replay). left pick r b) joined
    ∙ ap (λ (x : List ℕ). if (replay cs (at_rest base)).is_open b then picked pick x ((replay cs (at_rest base)).reads b) else (replay cs (at_rest base)).reads b)
    (safe_is base calls until le b))))
