-- A chunk that is brought or held lands, and a whole job is committed, where the volume does it.
use Rattle.std.proofs.Common.{◌≡◌, ℕ, Bool, true, List, Option, Some, None, refl, sym, subst}
use Rattle.std.specs.Prelude.{length}
use Rattle.block_file.specs.declared.faults.ReadFault.{ReadFault}
use Rattle.block_file.specs.declared.faults.WriteFault.{WriteFault}
use Rattle.dest_steps.specs.Landing.{Doing, landed, landed_by, target, target_file, with_copier, with_write, written, written_where}
use Rattle.dest_steps.specs.Replying.{effect_done, mounted}
use Rattle.dest_steps.specs.Working.{commit_done, commit_if, commit_in, held_landed, may_commit, turn_made, with_commit, without_post}
use Rattle.dest_steps.specs.declared.landing.Landing.{Landing}
use Rattle.dest_steps.specs.declared.replying.Effect.TheVariants as effects
use Rattle.dest_steps.specs.declared.turning.Committing.{Committing}
use Rattle.dest_steps.specs.declared.turning.Turn.TheVariants as turns
use Rattle.dest_tasks.specs.Completing.{Commits, Does, Lands}
use Rattle.dest_tasks.specs.Posts.{post_at}
use Rattle.dest_tasks.specs.declared.post.Post.{Post}
use Rattle.dest_tasks.specs.declared.post.Post.TheVariants.{Holds}
use Rattle.job_book.specs.Book.{id_of, named}
use Rattle.job_log.specs.declared.chunk.Chunk.{Chunk}
use Rattle.job_log.specs.declared.chunk.Landing.{Landing as Takes}
use Rattle.job_log.specs.declared.chunk.Landing.TheVariants as takes
use Rattle.job_table.specs.Table.{table_landing}
use Rattle.mount.specs.State.{Mounted}
use Rattle.nfs_base.specs.declared.job.JobName.{JobName}
use Rattle.server_volume.specs.Calls.{commit_call, write_call}
use Rattle.server_volume.specs.Choices.{Choice}
use Rattle.dest_laws.specs.Deeds.{book_in}

chunk_lands : (choice : Choice) (place : ℕ) (job : JobName) (chunk : Chunk) (bytes : List ℕ) (told : Landing) (at : ℕ × ℕ) (d : Doing)
    → table_landing (book_in d).table (id_of job) chunk ≡ takes.Landed → target d.store chunk (length bytes) (named (book_in d).table job) ≡ Some at
    → (write_call choice d.used d.store at.0 at.1 bytes).fault ≡ None
    → Does (Lands job chunk) (book_in d) (book_in (landed choice place job chunk bytes (Some told) d).doing)
chunk_lands choice place job chunk bytes told at d lands there whole =
    let c = write_call choice d.used d.store at.0 at.1 bytes in
    let by_fault : Does (Lands job chunk) (book_in d) (book_in (written job chunk told c.fault (with_write c d)).doing) =
    subst (λ (fault : Option WriteFault). Does (Lands job chunk) (book_in d) (book_in (written job chunk told fault (with_write c d)).doing)) (sym whole) (lands, refl) in
    let by_place : Does (Lands job chunk) (book_in d) (book_in (written_where choice job chunk bytes told (target d.store chunk (length bytes) (named (book_in d).table job)) d).doing) =
    subst (λ (to : Option (ℕ × ℕ)). Does (Lands job chunk) (book_in d) (book_in (written_where choice job chunk bytes told to d).doing)) (sym there) by_fault in
    subst (λ (answer : Takes). Does (Lands job chunk) (book_in d) (book_in (landed_by answer choice place job chunk bytes (Some told) d).doing)) (sym lands) by_place

pub brought_lands : (choice : Choice) (place : ℕ) (job : JobName) (chunk : Chunk) (bytes : List ℕ) (told : Landing) (m : Mounted) (at : ℕ × ℕ) (d : Doing)
    → table_landing (book_in d).table (id_of job) chunk ≡ takes.Landed → target d.store chunk (length bytes) (named (book_in d).table job) ≡ Some at
    → (write_call choice d.used d.store at.0 at.1 bytes).fault ≡ None
    → Does (Lands job chunk) (book_in d) (book_in (effect_done choice place (effects.Lands job chunk bytes (Some told) m) d).doing)
brought_lands choice place job chunk bytes told m at d lands there whole =
    chunk_lands choice place job chunk bytes told at (with_copier (mounted m d.copier) d) lands there whole

pub held_lands : (choice : Choice) (place : ℕ) (job : JobName) (chunk : Chunk) (bytes : List ℕ) (told : Landing) (at : ℕ × ℕ) (d : Doing)
    → post_at d.copier.work.workers place ≡ Holds job chunk bytes
    → table_landing (book_in d).table (id_of job) chunk ≡ takes.Landed → target d.store chunk (length bytes) (named (book_in d).table job) ≡ Some at
    → (write_call choice d.used d.store at.0 at.1 bytes).fault ≡ None
    → Does (Lands job chunk) (book_in d) (book_in (turn_made choice place (turns.Lands (Some told)) d).doing)
held_lands choice place job chunk bytes told at d holds lands there whole =
    subst (λ (post : Post). Does (Lands job chunk) (book_in d) (book_in (held_landed choice place (Some told) post d).doing)) (sym holds)
    (chunk_lands choice place job chunk bytes told at (without_post place d) lands there whole)

pub whole_commits : (choice : Choice) (place : ℕ) (job : JobName) (told : Committing) (file : ℕ) (d : Doing) → may_commit job d.copier ≡ true
    → target_file d.store (named (book_in d).table job) ≡ Some file → (commit_call choice d.used d.store file).fault ≡ None
    → Does (Commits job) (book_in d) (book_in (turn_made choice place (turns.Commits job told) d).doing)
whole_commits choice place job told file d may there whole =
    let c = commit_call choice d.used d.store file in
    let by_fault : Does (Commits job) (book_in d) (book_in (commit_done job told c.fault (with_commit c d)).doing) =
    subst (λ (fault : Option ReadFault). Does (Commits job) (book_in d) (book_in (commit_done job told fault (with_commit c d)).doing)) (sym whole) refl in
    let by_file : Does (Commits job) (book_in d) (book_in (commit_in choice job told (target_file d.store (named (book_in d).table job)) d).doing) =
    subst (λ (to : Option ℕ). Does (Commits job) (book_in d) (book_in (commit_in choice job told to d).doing)) (sym there) by_fault in
    subst (λ (is : Bool). Does (Commits job) (book_in d) (book_in (commit_if is choice job told d).doing)) (sym may) by_file
