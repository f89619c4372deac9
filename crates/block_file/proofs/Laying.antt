-- What a crash during a format may leave.
use Rattle.std.proofs.Common.{◌≡◌, ◌≢◌, ℕ, ◌+◌, ◌*◌, ◌≤◌, false, List, inl, inr, refl, ◌∙◌, arith}
use Rattle.disk_model.specs.declared.disk.Io.{Io}
use Rattle.disk_model.specs.declared.disk.Io.TheVariants.{Done}
use Rattle.disk_model.specs.declared.fuse.Fuse.{Fuse}
use Rattle.disk_model.specs.Disk.{Image, DiskState, MayLeave, IsSettled, Writes, Syncs}
use Rattle.disk_model.specs.Elapsed.{Timeline, present, Elapses}
use Rattle.disk_model.specs.Passes.{Passes, passes_none, passes_one, passes_on, passes_only}
use Rattle.block_file.specs.Stored.{IsCleared, HasHead, KeepsHead, LeftByFormat}

pub keeps_none : (s : DiskState) → KeepsHead s s
keeps_none s = record { reads = refl; kept = λ is. is }

pub keeps_on : (old middle new : DiskState) → KeepsHead old middle → KeepsHead middle new → KeepsHead old new
keeps_on old middle new before after = record { reads = after.reads ∙ before.reads; kept = λ is. after.kept (before.kept is) }

pub keeps_write : (at : ℕ) (block : List ℕ) (result : Io) (old new : DiskState) → 0 ≢ at → Writes at block result old new → KeepsHead old new
keeps_write at block result old new ne wrote = let e = wrote.elsewhere 0 ne in record { reads = e.0; kept = λ is. e.1 ∙ is }

pub keeps_sync : (result : Io) (old new : DiskState) → Syncs result old new → KeepsHead old new
keeps_sync result old new synced = record { reads = synced.same 0; kept = synced.kept 0 }

-- a crash leaves the head of the state that a call left, and so that of the state before it
head_left : (old new : DiskState) → KeepsHead old new → (image : Image) → MayLeave new image → HasHead old image
head_left old new keeps image left is = left 0 (keeps.kept is) ∙ keeps.reads

pub head_one : (old_fuse new_fuse : Fuse) (old new : Timeline) → KeepsHead (present old) (present new) → Elapses old_fuse new_fuse old new → new.latest ≤ old.latest + 1
    → Passes old_fuse new_fuse old new (HasHead (present old))
head_one old_fuse new_fuse old new keeps time soon =
    passes_one (HasHead (present old)) old_fuse new_fuse old new time soon (head_left (present old) (present old) (keeps_none (present old))) (head_left (present old) (present new) keeps)

pub head_none : (fuse : Fuse) (t : Timeline) → Passes fuse fuse t t (HasHead (present t))
head_none fuse t = passes_none (HasHead (present t)) fuse t (head_left (present t) (present t) (keeps_none (present t)))

pub head_on : (first second third : Fuse) (old middle new : Timeline) → Passes first second old middle (HasHead (present old)) → KeepsHead (present old) (present middle)
    → Passes second third middle new (HasHead (present middle)) → Passes first third old new (HasHead (present old))
head_on first second third old middle new before keeps after =
    passes_on (HasHead (present old)) first second third old middle new before
    (passes_only (HasHead (present middle)) (HasHead (present old)) second third middle new (λ image has is. has (keeps.kept is) ∙ keeps.reads) after)

-- while the head is as it was
pub format_head : (files blocks : ℕ) (s : DiskState) (old_fuse new_fuse : Fuse) (old new : Timeline) → Passes old_fuse new_fuse old new (HasHead s) → Passes old_fuse new_fuse old new (LeftByFormat files blocks s)
format_head files blocks s old_fuse new_fuse old new passes =
    passes_only (HasHead s) (LeftByFormat files blocks s) old_fuse new_fuse old new (λ image has. inl has) passes

-- All blocks but block 0 are laid out and safe.
pub record IsLaid (files blocks : ℕ) (s : DiskState) : Type 0 where
  pub cleared : IsCleared files blocks s.reads
  pub kept : (b : ℕ) → b ≢ 0 → s.is_open b ≡ false

pub laid_settled : (files blocks : ℕ) (s : DiskState) → IsCleared files blocks s.reads → IsSettled s → IsLaid files blocks s
laid_settled files blocks s cleared settled = record { cleared = cleared; kept = λ b ne. settled b }

same_cleared : (files blocks : ℕ) (one two : Image) → ((b : ℕ) → b ≢ 0 → two b ≡ one b) → IsCleared files blocks one → IsCleared files blocks two
same_cleared files blocks one two same is = record {
  slots = λ slot lt. let ne : 4 + 3 * files + 2 * slot ≢ 0 = omega arith in same (4 + 3 * files + 2 * slot) ne ∙ is.slots slot lt;
  cells = λ j lt.
      let a : 1 + 3 * j ≢ 0 = omega arith in
      let b : 2 + 3 * j ≢ 0 = omega arith in
      (same (1 + 3 * j) a ∙ (is.cells j lt).0, same (2 + 3 * j) b ∙ (is.cells j lt).1);
}

laid_left : (files blocks : ℕ) (s : DiskState) → IsLaid files blocks s → (image : Image) → MayLeave s image → IsCleared files blocks image
laid_left files blocks s laid image left = same_cleared files blocks s.reads image (λ b ne. left b (laid.kept b ne)) laid.cleared

pub laid_write : (files blocks : ℕ) (block : List ℕ) (result : Io) (old new : DiskState) → IsLaid files blocks old → Writes 0 block result old new → IsLaid files blocks new
laid_write files blocks block result old new laid wrote = record {
  cleared = same_cleared files blocks old.reads new.reads (λ b ne. (wrote.elsewhere b ne).0) laid.cleared;
  kept = λ b ne. (wrote.elsewhere b ne).1 ∙ laid.kept b ne;
}

pub laid_sync : (files blocks : ℕ) (result : Io) (old new : DiskState) → IsLaid files blocks old → Syncs result old new → IsLaid files blocks new
laid_sync files blocks result old new laid synced = record {
  cleared = same_cleared files blocks old.reads new.reads (λ b ne. synced.same b) laid.cleared;
  kept = λ b ne. synced.kept b (laid.kept b ne);
}

-- once they are laid out
pub laid_one : (files blocks : ℕ) (s : DiskState) (old_fuse new_fuse : Fuse) (old new : Timeline) → IsLaid files blocks (present old) → IsLaid files blocks (present new)
    → Elapses old_fuse new_fuse old new → new.latest ≤ old.latest + 1 → Passes old_fuse new_fuse old new (LeftByFormat files blocks s)
laid_one files blocks s old_fuse new_fuse old new before after time soon =
    passes_one (LeftByFormat files blocks s) old_fuse new_fuse old new time soon
    (λ image left. inr (laid_left files blocks (present old) before image left)) (λ image left. inr (laid_left files blocks (present new) after image left))

-- after the first sync
pub laid_synced : (files blocks : ℕ) (old new : DiskState) → IsCleared files blocks old.reads → Syncs Done old new → IsLaid files blocks new
laid_synced files blocks old new cleared synced =
    laid_settled files blocks new (same_cleared files blocks old.reads new.reads (λ b ne. synced.same b) cleared) (synced.settled refl)
