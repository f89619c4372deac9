-- What a step of a destination does to its jobs leaves the table kept.
use Rattle.std.proofs.Common.{Bool, Err, List, None, Ok, Option, Result, Some, ap, false, length, refl, subst, sym, true, ℕ, ◌≡◌}
use Rattle.std.proofs.lemmas.Bool.{and_parts}
use Rattle.std.specs.Prelude.{is_none}
use Rattle.block_file.specs.declared.faults.ReadFault.{ReadFault}
use Rattle.block_file.specs.declared.faults.WriteFault.{WriteFault}
use Rattle.dest_jobs.specs.Progress.{stopped_if}
use Rattle.dest_jobs.specs.declared.copies.Copies.{Copies}
use Rattle.dest_laws.proofs.sound.Deeds.{commit_keeps, land_keeps, size_keeps, stop_keeps}
use Rattle.dest_laws.proofs.sound.Logs.{LogLaws}
use Rattle.dest_laws.specs.Deeds.{book_in}
use Rattle.dest_laws.specs.Sound.Kept.{IsKept}
use Rattle.dest_steps.specs.Copier.{Around, Codes}
use Rattle.dest_steps.specs.Failing.{link_failed}
use Rattle.dest_steps.specs.Landing.{Doing, cause_of, landed_by, target, target_file, with_copier, with_write, written, written_if, written_where}
use Rattle.dest_steps.specs.Replying.{IsFound, IsHeard, IsHeardIf, IsSizedBy, IsSizedIf, effect_done, is_read, len_for, may_size, mounted, taken_of}
use Rattle.dest_steps.specs.Working.{commit_done, commit_if, commit_in, held_landed, may_commit, turn_made, with_commit, without_post}
use Rattle.dest_steps.specs.declared.copier.Copier.{Copier}
use Rattle.dest_steps.specs.declared.failing.Failing.{Failing}
use Rattle.dest_steps.specs.declared.failing.Failing.TheVariants as fails
use Rattle.dest_steps.specs.declared.landing.Landing.{Landing}
use Rattle.dest_steps.specs.declared.replying.Effect.{Effect}
use Rattle.dest_steps.specs.declared.replying.Effect.TheVariants as effects
use Rattle.dest_steps.specs.declared.replying.Heard.{Heard}
use Rattle.dest_steps.specs.declared.turning.Committing.{Committing}
use Rattle.dest_steps.specs.declared.turning.Turn.TheVariants as turns
use Rattle.dest_steps.specs.declared.turning.Turn.{Turn as DueTurn}
use Rattle.dest_tasks.specs.Posts.{post_at}
use Rattle.dest_tasks.specs.declared.post.Errand.{Errand}
use Rattle.dest_tasks.specs.declared.post.Post.{Post}
use Rattle.dest_tasks.specs.declared.post.Post.TheVariants.{Awaits, Holds, Idle}
use Rattle.dest_work.specs.Findings.{len_of as length_for}
use Rattle.dest_work.specs.declared.finding.Finding.{Finding}
use Rattle.dest_work.specs.declared.finding.Finding.TheVariants as findings
use Rattle.dest_work.specs.declared.work.Taken.{Taken}
use Rattle.job_book.specs.Book.{BookView, id_of, named}
use Rattle.job_book.specs.Working.{size_in, is_whole, with_its}
use Rattle.job_log.specs.Log.{sized}
use Rattle.job_log.specs.declared.chunk.Chunk.{Chunk}
use Rattle.job_log.specs.declared.chunk.Landing.{Landing as Takes}
use Rattle.job_log.specs.declared.chunk.Landing.TheVariants as takes
use Rattle.job_table.specs.Table.{is_running, table_landing}
use Rattle.job_table.specs.declared.job.Job.{Job}
use Rattle.mount.specs.State.{Mounted}
use Rattle.nfs_base.specs.declared.job.JobName.{JobName}
use Rattle.nfs_base.specs.declared.job.Stop.{Stop}
use Rattle.nfs_base.specs.declared.job.Stop.TheVariants.{DiskFault, LinkFault}
use Rattle.server_volume.specs.Calls.{commit_call, write_call}
use Rattle.server_volume.specs.Choices.{Choice}

-- what is done to one book and leaves another keeps the table
abbrev pub Keeps : BookView → BookView → Type 0
Keeps b c = IsKept b.table → IsKept c.table

still : (b c : BookView) → c ≡ b → Keeps b c
still b c same kept = subst (λ (x : BookView). IsKept x.table) (sym same) kept

module _ (laws : LogLaws) where
  stop_if : (running : Bool) (cause : Stop) (job : JobName) (x : Copies) → is_running x.book.table (id_of job) ≡ running
      → Keeps x.book (stopped_if running cause job x).book
  stop_if true cause job x is kept = stop_keeps laws cause job x.book is kept
  stop_if false cause job x is kept = kept

  -- ---- a chunk lands

  written_keeps : (job : JobName) (chunk : Chunk) (told : Landing) (fault : Option WriteFault) (d : Doing)
      → table_landing (book_in d).table (id_of job) chunk ≡ takes.Landed → Keeps (book_in d) (book_in (written job chunk told fault d).doing)
  written_keeps job chunk told None d lands kept = land_keeps laws job chunk (book_in d) lands kept
  written_keeps job chunk told (Some fault) d lands kept = stop_if (is_running (book_in d).table (id_of job)) (cause_of fault) job d.copier.copies refl kept

  where_keeps : (choice : Choice) (job : JobName) (chunk : Chunk) (bytes : List ℕ) (told : Landing) (place : Option (ℕ × ℕ)) (d : Doing)
      → table_landing (book_in d).table (id_of job) chunk ≡ takes.Landed → Keeps (book_in d) (book_in (written_where choice job chunk bytes told place d).doing)
  where_keeps choice job chunk bytes told None d lands kept = kept
  where_keeps choice job chunk bytes told (Some place) d lands kept =
      let c = write_call choice d.used d.store place.0 place.1 bytes in
      written_keeps job chunk told c.fault (with_write c d) lands kept

  if_keeps : (choice : Choice) (job : JobName) (chunk : Chunk) (bytes : List ℕ) (told : Option Landing) (d : Doing)
      → table_landing (book_in d).table (id_of job) chunk ≡ takes.Landed → Keeps (book_in d) (book_in (written_if choice job chunk bytes told d).doing)
  if_keeps choice job chunk bytes None d lands kept = kept
  if_keeps choice job chunk bytes (Some told) d lands kept =
      where_keeps choice job chunk bytes told (target d.store chunk (length bytes) (named (book_in d).table job)) d lands kept

  landed_keeps : (answer : Takes) (choice : Choice) (place : ℕ) (job : JobName) (chunk : Chunk) (bytes : List ℕ) (told : Option Landing) (d : Doing)
      → table_landing (book_in d).table (id_of job) chunk ≡ answer → Keeps (book_in d) (book_in (landed_by answer choice place job chunk bytes told d).doing)
  landed_keeps takes.Late choice place job chunk bytes told d lands kept = kept
  landed_keeps takes.Held choice place job chunk bytes told d lands kept = kept
  landed_keeps takes.Landed choice place job chunk bytes told d lands kept = if_keeps choice job chunk bytes told d lands kept

  held_keeps : (choice : Choice) (place : ℕ) (told : Option Landing) (post : Post) (d : Doing) → Keeps (book_in d) (book_in (held_landed choice place told post d).doing)
  held_keeps choice place told Idle d kept = kept
  held_keeps choice place told (Awaits job errand) d kept = kept
  held_keeps choice place told (Holds job chunk bytes) d kept =
      landed_keeps (table_landing (book_in d).table (id_of job) chunk) choice place job chunk bytes told (without_post place d) refl kept

  -- ---- a job is committed

  done_keeps : (job : JobName) (told : Committing) (fault : Option ReadFault) (d : Doing) → may_commit job d.copier ≡ true
      → Keeps (book_in d) (book_in (commit_done job told fault d).doing)
  done_keeps job told None d may kept =
      let parts = and_parts (is_running (book_in d).table (id_of job)) (is_whole (named (book_in d).table job)) may in
      commit_keeps laws job (book_in d) parts.0 parts.1 kept
  done_keeps job told (Some fault) d may kept = stop_if (is_running (book_in d).table (id_of job)) DiskFault job d.copier.copies refl kept

  file_keeps : (choice : Choice) (job : JobName) (told : Committing) (file : Option ℕ) (d : Doing) → may_commit job d.copier ≡ true
      → Keeps (book_in d) (book_in (commit_in choice job told file d).doing)
  file_keeps choice job told None d may kept = kept
  file_keeps choice job told (Some file) d may kept =
      let c = commit_call choice d.used d.store file in
      done_keeps job told c.fault (with_commit c d) may kept

  if_committed : (may : Bool) (choice : Choice) (job : JobName) (told : Committing) (d : Doing) → may_commit job d.copier ≡ may
      → Keeps (book_in d) (book_in (commit_if may choice job told d).doing)
  if_committed false choice job told d may kept = kept
  if_committed true choice job told d may kept = file_keeps choice job told (target_file d.store (named (book_in d).table job)) d may kept

  -- ---- a worker's turn

  pub turn_keeps : (choice : Choice) (place : ℕ) (turn : DueTurn) (d : Doing) → Keeps (book_in d) (book_in (turn_made choice place turn d).doing)
  turn_keeps choice place turns.Rest d kept = kept
  turn_keeps choice place turns.Undrawn d kept = kept
  turn_keeps choice place (turns.Sent call) d kept = kept
  turn_keeps choice place (turns.Stops job cause told) d kept = stop_if (is_running (book_in d).table (id_of job)) cause job d.copier.copies refl kept
  turn_keeps choice place (turns.Lands told) d kept = held_keeps choice place told (post_at d.copier.work.workers place) d kept
  turn_keeps choice place (turns.Commits job told) d kept = if_committed (may_commit job d.copier) choice job told d refl kept

  -- ---- a record of the source

  pub effect_keeps : (choice : Choice) (place : ℕ) (effect : Effect) (d : Doing) → Keeps (book_in d) (book_in (effect_done choice place effect d).doing)
  effect_keeps choice place (effects.Drops why) d kept = kept
  effect_keeps choice place (effects.Goes m) d kept = kept
  effect_keeps choice place (effects.Denied job m) d kept = kept
  effect_keeps choice place (effects.Stops job cause told m) d kept = stop_if (is_running (book_in d).table (id_of job)) cause job d.copier.copies refl kept
  effect_keeps choice place (effects.Lands job chunk bytes told m) d kept =
      landed_keeps (table_landing (book_in d).table (id_of job) chunk) choice place job chunk bytes told (with_copier (mounted m d.copier) d) refl kept

  same_keeps : (old new : Copier) → new ≡ old → Keeps old.copies.book new.copies.book
  same_keeps old new same = still old.copies.book new.copies.book (ap (λ (x : Copier). x.copies.book) same)

  is_none_so : (size : Option ℕ) → is_none size ≡ true → size ≡ None
  is_none_so None is = refl
  is_none_so (Some size) is = absurd (cc)

  sized_job : (spare len size : ℕ) (job : JobName) (b : BookView) (found : Option Job) → named b.table job ≡ found → len_for b.table.capacity size found ≡ Some (Ok len)
      → is_running b.table (id_of job) ≡ true → size_in (named b.table job) ≡ None → Keeps b (with_its job (λ log. sized (record log { spare = spare }) len) b)
  sized_job spare len size job b None found is runs unsized kept = absurd (cc)
  sized_job spare len size job b (Some x) found is runs unsized kept =
      let gives : length_for x.plan b.table.capacity size ≡ Ok len = (let e = is in cc) in
      size_keeps laws spare len size job b x found runs unsized gives kept

  sized_keeps : (codes : Codes) (around : Around) (job : JobName) (size : ℕ) (m : Mounted) (len : Option (Result ℕ Stop)) (old : Copier) (effect : Effect) (new : Copier)
      → len_for old.copies.book.table.capacity size (named old.copies.book.table job) ≡ len → may_size job old ≡ true
      → IsSizedBy codes around job m len old effect new → Keeps old.copies.book new.copies.book
  sized_keeps codes around job size m None old effect new len_is may is kept = same_keeps old new is.still kept
  sized_keeps codes around job size m (Some (Err cause)) old effect new len_is may is kept = same_keeps old new is.still kept
  sized_keeps codes around job size m (Some (Ok len)) old effect new len_is may is kept =
      let parts = and_parts (is_running old.copies.book.table (id_of job)) (is_none (size_in (named old.copies.book.table job))) may in
      subst (λ (b : BookView). IsKept b.table) (sym (ap (λ (x : Copier). x.copies.book) is.is))
      (sized_job is.spare len size job old.copies.book (named old.copies.book.table job) refl len_is parts.0
      (is_none_so (size_in (named old.copies.book.table job)) parts.1) kept)

  size_if : (may : Bool) (codes : Codes) (around : Around) (job : JobName) (size : ℕ) (m : Mounted) (old : Copier) (effect : Effect) (new : Copier)
      → may_size job old ≡ may → IsSizedIf may codes around job size m old effect new → Keeps old.copies.book new.copies.book
  size_if false codes around job size m old effect new may is = same_keeps old new is.still
  size_if true codes around job size m old effect new may is =
      sized_keeps codes around job size m (len_for old.copies.book.table.capacity size (named old.copies.book.table job)) old effect new refl may is

  found_keeps : (codes : Codes) (around : Around) (job : JobName) (errand : Errand) (finding : Finding) (m : Mounted) (old : Copier) (effect : Effect) (new : Copier)
      → IsFound codes around job errand finding m old effect new → Keeps old.copies.book new.copies.book
  found_keeps codes around job errand findings.Unmatched m old effect new is = same_keeps old new is.still
  found_keeps codes around job errand findings.GoesOn m old effect new is = same_keeps old new is.still
  found_keeps codes around job errand findings.FirstDenial m old effect new is = same_keeps old new is.still
  found_keeps codes around job errand (findings.Stops cause) m old effect new is = same_keeps old new is.still
  found_keeps codes around job errand (findings.HasSize size) m old effect new is = size_if (may_size job old) codes around job size m old effect new refl is
  found_keeps codes around job errand (findings.Brings bytes) m old effect new is = same_keeps old new is.still

  read_keeps : (read : Bool) (codes : Codes) (around : Around) (t : Option Taken) (old : Copier) (heard : Heard) (new : Copier)
      → IsHeardIf read codes around t old heard new → Keeps old.copies.book new.copies.book
  read_keeps false codes around t old heard new is = same_keeps old new is.still
  read_keeps true codes around None old heard new is = same_keeps old new is.still
  read_keeps true codes around (Some t) old heard new is = found_keeps codes around t.job t.errand t.finding t.mount old heard.effect new is.effect

  pub heard_keeps : (codes : Codes) (finished : List ℕ → List ℕ → Option (List ℕ)) (around : Around) (at : ℕ) (message : List ℕ) (old : Copier) (heard : Heard) (new : Copier)
      → IsHeard codes finished around at message old heard new → Keeps old.copies.book new.copies.book
  heard_keeps codes finished around at message old heard new is =
      read_keeps (is_read message) codes around (taken_of codes finished at message old) old heard new is

  -- ---- a link that failed

  pub failed_keeps : (place : ℕ) (failing : Failing) (x : Copier) → Keeps x.copies.book (link_failed place failing x).0.copies.book
  failed_keeps place fails.Nothing x kept = kept
  failed_keeps place (fails.Stops job told) x kept = stop_if (is_running x.copies.book.table (id_of job)) LinkFault job x.copies refl kept
