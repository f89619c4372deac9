-- The clauses of a volume's calls, as facts on the store and its moments.
use Rattle.std.proofs.Common.{◌≡◌, ℕ, ◌<◌, ◌≤◌, true, false, Some, None, Result, Err, List, length, refl, sym, ap, subst, ◌∙◌, inl}
use Rattle.std.specs.Prelude.{◌↔◌, IsOk, IsErr}
use Rattle.copy_model.specs.Volume.{Volume, write, commit, fail_write, fail_commit}
use Rattle.disk_model.specs.declared.fuse.Fuse.{Fuse}
use Rattle.disk_model.specs.Elapsed.{Timeline}
use Rattle.disk_model.specs.Passes.{Passes, passes_none, passes_only}
use Rattle.block_file.specs.Opened.{Opened, MayBeLeft, homes_by, turned}
use Rattle.block_file.specs.declared.faults.ReadFault.{ReadFault}
use Rattle.block_file.specs.declared.faults.ReadFault.TheVariants as reading
use Rattle.block_file.specs.declared.faults.WriteFault.{WriteFault}
use Rattle.block_file.specs.declared.faults.WriteFault.TheVariants as writing
use Rattle.server_volume.specs.declared.used.CallAnswer.TheVariants.{Done}
use Rattle.server_volume.specs.Store.{Store, Seat, store_of, seat_of}
use Rattle.server_volume.specs.Calls.{Reads, Commits, write_fault}
use Rattle.server_volume.specs.Moments.{within, LeftOf, LeftBy}
use Rattle.server_volume.proofs.CallLemmas.{ReadFacts, Stays, WriteFacts}

abbrev store : Volume → (tag : ℕ) → List ℕ → (size : ℕ) → Store
store volume tag homes size = record { volume = volume; tag = tag; homes = homes; size = size }

-- a store by its parts
store_is : {v w : Volume} {t u : ℕ} {h i : List ℕ} {n m : ℕ} → v ≡ w → t ≡ u → h ≡ i → n ≡ m → store v t h n ≡ store w u i m
store_is {v} {w} {t} {u} {h} {i} {n} {m} volume tag homes size =
    ap (λ (x : Volume). store x t h n) volume ∙ ap (λ (x : ℕ). store w x h n) tag
    ∙ ap (λ (x : List ℕ). store w u x n) homes ∙ ap (λ (x : ℕ). store w u i x) size

is_err : {A F : Type 0} (result : Result A F) (fault : F) → result ≡ Err fault → IsErr result
is_err result fault e = subst (λ r. IsErr r) (sym e) refl

-- a volume that is as it was
stays_as : {D : Type 0} (size : D → ℕ) (fuse : D → Fuse) (timeline : D → Timeline) (faults : D → ℕ) (old new : Opened D) → new ≡ old
    → Stays (seat_of size fuse timeline faults old) (seat_of size fuse timeline faults new)
stays_as size fuse timeline faults old new same = record {
  store = ap (store_of size) same;
  fuse = ap (λ (v : Opened _). fuse v.disk) same;
  timeline = ap (λ (v : Opened _). timeline v.disk) same;
}

pub read_facts : {D A : Type 0} (size : D → ℕ) (fuse : D → Fuse) (timeline : D → Timeline) (faults : D → ℕ) (file off len : ℕ) (result : Result A ReadFault) (old new : Opened D)
    → file < length old.volume.files
    → ((result ≡ Err reading.Broken) ↔ (old.volume.broken ≡ true))
    → new.volume ≡ old.volume → new.tag ≡ old.tag → new.homes ≡ old.homes → size new.disk ≡ size old.disk
    → fuse new.disk ≡ fuse old.disk → timeline new.disk ≡ timeline old.disk
    → ReadFacts result (Reads file off len) (seat_of size fuse timeline faults old) (seat_of size fuse timeline faults new)
read_facts size fuse timeline faults file off len result old new there broken volume tag homes blocks lit time =
    let same : store_of size new ≡ store_of size old = store_is volume tag homes blocks in
    record {
      broken = broken;
      kept = λ e. record { store = same; fuse = lit; timeline = time };
      done = λ ok. same;
      failed = λ e. same;
      serves = λ whole. record { there = there; whole = whole };
      moments = λ whole stores now covered.
          subst (λ (f : Fuse). Passes (fuse old.disk) f (timeline old.disk) (timeline new.disk) (LeftBy stores)) (sym lit)
          (subst (λ (t : Timeline). Passes (fuse old.disk) (fuse old.disk) (timeline old.disk) t (LeftBy stores)) (sym time)
          (passes_none (LeftBy stores) (fuse old.disk) (timeline old.disk) now));
    }

pub commit_facts : {D A : Type 0} (size : D → ℕ) (fuse : D → Fuse) (timeline : D → Timeline) (faults : D → ℕ) (file : ℕ) (result : Result A ReadFault) (old new : Opened D)
    → file < length old.volume.files
    → ((result ≡ Err reading.Broken) ↔ (old.volume.broken ≡ true))
    → (result ≡ Err reading.Broken → new ≡ old)
    → (IsOk result → new.volume ≡ commit old.volume file)
    → (result ≡ Err reading.DiskFailed → new.volume ≡ fail_commit old.volume file)
    → (IsOk result → new.homes ≡ turned old.homes file) → (IsErr result → new.homes ≡ old.homes)
    → (old.volume.broken ≡ false → Passes (fuse old.disk) (fuse new.disk) (timeline old.disk) (timeline new.disk)
    (MayBeLeft (size old.disk) old.tag (homes_by old.homes) (fail_commit old.volume file)))
    → new.tag ≡ old.tag → size new.disk ≡ size old.disk
    → ReadFacts result (Commits file) (seat_of size fuse timeline faults old) (seat_of size fuse timeline faults new)
commit_facts size fuse timeline faults file result old new there broken kept done failed homes homes_kept moments tag blocks = record {
  broken = broken;
  kept = λ e. stays_as size fuse timeline faults old new (kept e);
  done = λ ok. store_is (done ok) tag (homes ok) blocks;
  failed = λ e. store_is (failed e) tag (homes_kept (is_err result reading.DiskFailed e)) blocks;
  serves = λ whole. record { there = there; whole = whole };
  moments = λ whole stores now covered.
      let s = within (Commits file) Done (store_of size old) in
      passes_only (LeftOf s) (LeftBy stores) (fuse old.disk) (fuse new.disk) (timeline old.disk) (timeline new.disk)
      (λ image left. covered image (inl left)) (moments whole);
}

pub write_facts : {D A : Type 0} (size : D → ℕ) (fuse : D → Fuse) (timeline : D → Timeline) (faults : D → ℕ) (file off : ℕ) (bytes : List ℕ) (result : Result A WriteFault) (old new : Opened D)
    → file < length old.volume.files
    → ((fault : WriteFault) → write_fault old.volume off bytes ≡ Some fault → result ≡ Err fault)
    → (write_fault old.volume off bytes ≡ None → IsErr result → result ≡ Err writing.DiskFailed)
    → (IsErr result → (result ≡ Err writing.DiskFailed → ⊥) → new ≡ old)
    → (IsOk result → new.volume ≡ write old.volume file off bytes)
    → (result ≡ Err writing.DiskFailed → new.volume ≡ fail_write old.volume)
    → (old.volume.broken ≡ false → Passes (fuse old.disk) (fuse new.disk) (timeline old.disk) (timeline new.disk)
    (MayBeLeft (size old.disk) old.tag (homes_by old.homes) old.volume))
    → new.tag ≡ old.tag → new.homes ≡ old.homes → size new.disk ≡ size old.disk
    → WriteFacts result file off bytes (seat_of size fuse timeline faults old) (seat_of size fuse timeline faults new)
write_facts size fuse timeline faults file off bytes result old new there tested passed kept done failed moments tag homes blocks = record {
  tested = tested;
  passed = passed;
  kept = λ err other. stays_as size fuse timeline faults old new (kept err other);
  done = λ ok. store_is (done ok) tag homes blocks;
  failed = λ e. store_is (failed e) tag homes blocks;
  there = there;
  moments = λ whole stores now covered.
      let s = store_of size old in
      passes_only (LeftOf s) (LeftBy stores) (fuse old.disk) (fuse new.disk) (timeline old.disk) (timeline new.disk)
      (λ image left. covered image (inl left)) (moments whole);
}
