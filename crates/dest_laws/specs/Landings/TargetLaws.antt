-- Where a chunk is written there is a file, which is the job's, and it isn't the root.
use Rattle.std.proofs.Common.{◌≡◌, ◌∙◌, ℕ, ◌<◌, Bool, true, false, length, Option, Some, None, refl, ap, subst}
use Rattle.std.specs.Prelude.{◌==◌, ◌||◌, if◌then◌else◌, nat_le, nat_lt}
use Rattle.std.proofs.lemmas.Bool.{eqb-false, leb-false}
use Rattle.dest_steps.specs.Landing.{paired, target, target_file, target_off}
use Rattle.job_log.specs.declared.chunk.Chunk.{Chunk}
use Rattle.job_table.specs.declared.job.Job.{Job}
use Rattle.nfs_base.specs.declared.limits.TheConstants.{DATA_LIMIT}
use Rattle.server_volume.specs.Store.{Store}

below_by : (a b : Bool) (files file : ℕ) → nat_le files file ≡ b → (a || b) ≡ false → file < files
below_by true b files file le is = absurd cc
below_by false true files file le is = absurd cc
below_by false false files file le is = leb-false files file le

file_if : (b : Bool) (files file got : ℕ) → (file == 0 || nat_le files file) ≡ b → (if b then None else Some file) ≡ Some got → got < files
file_if true files file got is some = absurd cc
file_if false files file got is some =
    let same : file ≡ got = cc in
    subst (λ (n : ℕ). n < files) same (below_by (file == 0) (nat_le files file) files file refl is)

pub job_file : (s : Store) (job : Option Job) (got : ℕ) → target_file s job ≡ Some got → got < length s.volume.files
job_file s None got is = absurd cc
job_file s (Some job) got is = file_if (job.plan.file == 0 || nat_le (length s.volume.files) job.plan.file) (length s.volume.files) job.plan.file got refl is

pub paired_file : (file off : Option ℕ) (got : ℕ × ℕ) → paired file off ≡ Some got → file ≡ Some got.0
paired_file None off got is = absurd cc
paired_file (Some file) None got is = absurd cc
paired_file (Some file) (Some off) got is = let same : (file, off) ≡ got = cc in ap (λ (p : ℕ × ℕ). Some p.0) same

target_if : (b : Bool) (s : Store) (chunk : Chunk) (job : Option Job) (got : ℕ × ℕ) → (if b then None else paired (target_file s job) (target_off chunk job)) ≡ Some got
    → got.0 < length s.volume.files
target_if true s chunk job got is = absurd cc
target_if false s chunk job got is = job_file s job got.0 (paired_file (target_file s job) (target_off chunk job) got is)

pub target_there : (s : Store) (chunk : Chunk) (len : ℕ) (job : Option Job) (got : ℕ × ℕ) → target s chunk len job ≡ Some got → got.0 < length s.volume.files
target_there s chunk len job got is = target_if (nat_lt DATA_LIMIT len) s chunk job got is

-- ---- it isn't the root

root_if : (root past : Bool) (file got : ℕ) → (file == 0) ≡ root → (if root || past then None else Some file) ≡ Some got → got ≡ 0 → ⊥
root_if true past file got is some zero = absurd cc
root_if false true file got is some zero = absurd cc
root_if false false file got is some zero =
    let same : file ≡ got = cc in
    eqb-false file 0 is (same ∙ zero)

pub job_off_root : (s : Store) (job : Option Job) (got : ℕ) → target_file s job ≡ Some got → got ≡ 0 → ⊥
job_off_root s None got is zero = absurd cc
job_off_root s (Some job) got is zero =
    root_if (job.plan.file == 0) (nat_le (length s.volume.files) job.plan.file) job.plan.file got refl is zero

target_off_if : (long : Bool) (s : Store) (chunk : Chunk) (job : Option Job) (got : ℕ × ℕ)
    → (if long then None else paired (target_file s job) (target_off chunk job)) ≡ Some got → got.0 ≡ 0 → ⊥
target_off_if true s chunk job got is zero = absurd cc
target_off_if false s chunk job got is zero = job_off_root s job got.0 (paired_file (target_file s job) (target_off chunk job) got is) zero

pub target_off_root : (s : Store) (chunk : Chunk) (len : ℕ) (job : Option Job) (got : ℕ × ℕ) → target s chunk len job ≡ Some got → got.0 ≡ 0 → ⊥
target_off_root s chunk len job got is zero = target_off_if (nat_lt DATA_LIMIT len) s chunk job got is zero
