-- What a worker's turn and an answer do to the volume and to the jobs: a chunk is written and lands, or no chunk is written.
use Rattle.std.proofs.Common.{◌≡◌, ◌∙◌, ◌⊎◌, inl, inr, ℕ, ◌≤◌, Bool, true, false, List, [], length, Option, Some, None, refl, sym, ap, subst, arith}
use Rattle.block_file.specs.declared.faults.ReadFault.{ReadFault}
use Rattle.block_file.specs.declared.faults.ReadFault.TheVariants as reading
use Rattle.block_file.specs.declared.faults.WriteFault.TheVariants as writing
use Rattle.block_file.specs.declared.faults.WriteFault.{WriteFault}
use Rattle.copy_model.specs.Effect.{Effect as VolumeEffect, Commits, CommitFails, Crashes, Rests, Writes, WriteFails}
use Rattle.copy_model.specs.Volume.{Volume}
use Rattle.dest_jobs.specs.Progress.{commits, lands, stopped_if, stops}
use Rattle.dest_jobs.specs.declared.copies.Copies.{Copies}
use Rattle.dest_laws.proofs.landings.Deeds.{is_plain}
use Rattle.dest_laws.proofs.landings.Doings.{work_in}
use Rattle.dest_laws.specs.Histories.Kinds.{GoesBy}
use Rattle.dest_laws.specs.Own.GoingLaws.{none, one}
use Rattle.dest_steps.specs.Landing.{Doing, landed, landed_by, target, target_file, with_write, written, written_if, written_where}
use Rattle.dest_steps.specs.Replying.{effect_done, mounted}
use Rattle.dest_steps.specs.Working.{commit_done, commit_if, commit_in, held_landed, may_commit, turn_made, with_commit, without_post}
use Rattle.dest_steps.specs.declared.landing.Landing.{Landing}
use Rattle.dest_steps.specs.declared.replying.Effect.{Effect}
use Rattle.dest_steps.specs.declared.replying.Effect.TheVariants as effects
use Rattle.dest_steps.specs.declared.turning.Committing.{Committing}
use Rattle.dest_steps.specs.declared.turning.Turn.TheVariants as turns
use Rattle.dest_steps.specs.declared.turning.Turn.{Turn}
use Rattle.dest_tasks.specs.Completing as deeds
use Rattle.dest_tasks.specs.Posts.{post_at}
use Rattle.dest_tasks.specs.declared.post.Post.{Post}
use Rattle.dest_tasks.specs.declared.post.Post.TheVariants.{Awaits, Holds, Idle}
use Rattle.job_book.specs.Book.{BookView, id_of, named}
use Rattle.job_log.specs.declared.chunk.Chunk.{Chunk}
use Rattle.job_log.specs.declared.chunk.Landing.{Landing as Takes}
use Rattle.job_log.specs.declared.chunk.Landing.TheVariants as takes
use Rattle.job_table.specs.Table.{is_running, table_landing}
use Rattle.nfs_base.specs.declared.job.JobName.{JobName}
use Rattle.nfs_base.specs.declared.job.Stop.{Stop}
use Rattle.server_volume.specs.Calls as calls
use Rattle.server_volume.specs.Calls.{Called, called, commit_call, done_by, write_call, write_fault}
use Rattle.server_volume.specs.Choices.{Choice, Fate, Failed, Went, noted}
use Rattle.server_volume.specs.declared.used.CallAnswer.{CallAnswer}
use Rattle.server_volume.specs.declared.used.CallAnswer.TheVariants as answers
use Rattle.server_volume.specs.declared.used.Used.{Used}
use Rattle.server_volume.specs.declared.used.VolumeCall.TheVariants as asked
use Rattle.server_volume.specs.declared.used.VolumeCall.{VolumeCall}
use Rattle.wire_machine.specs.History.{effect_of}

abbrev pub book_at : Doing → BookView
book_at d = d.copier.copies.book

-- ---- no bytes are written, and no job gets a length or a landing

abbrev pub is_writing : VolumeEffect → Bool
is_writing Rests = false
is_writing (Writes file off bytes) = true
is_writing (Commits file) = false
is_writing WriteFails = false
is_writing (CommitFails file) = false
is_writing (Crashes under kept) = false

pub record WritesNone (d e : Doing) : Type 0 where
  pub few : length e.used ≤ 1
  pub quiet : (v : Volume) → is_writing (effect_of v e.used) ≡ false
  pub plain : GoesBy is_plain (book_at d) (book_at e)

-- ---- a chunk is written whole, and lands

pub record WritesOne (job : JobName) (chunk : Chunk) (bytes : List ℕ) (d e : Doing) : Type 0 where
  pub takes_it : table_landing (book_at d).table (id_of job) chunk ≡ takes.Landed
  pub file : ℕ
  pub off : ℕ
  pub to : target d.store chunk (length bytes) (named (book_at d).table job) ≡ Some (file, off)
  pub used : e.used ≡ noted [] (asked.Write file off (length bytes)) answers.Done
  pub store : e.store ≡ done_by (calls.Writes file off bytes) d.store
  pub copies : e.copier.copies ≡ lands job chunk d.copier.copies

abbrev pub Outcome : (JobName → Chunk → List ℕ → Type 0) → Doing → Doing → Type 0
Outcome P d e = WritesNone d e ⊎ ((job : JobName) × (chunk : Chunk) × (bytes : List ℕ) × P job chunk bytes × WritesOne job chunk bytes d e)

-- ---- parts

few_none : (used : List Used) → used ≡ [] → length used ≤ 1
few_none used is = subst (λ (u : List Used). length u ≤ 1) (sym is) (omega arith)

few_noted : (used : List Used) (call : VolumeCall) (answer : CallAnswer) → used ≡ [] → length (noted used call answer) ≤ 1
few_noted used call answer is = subst (λ (u : List Used). length (noted u call answer) ≤ 1) (sym is) (omega arith)

unused : (used : List Used) → used ≡ [] → (v : Volume) → is_writing (effect_of v used) ≡ false
unused used is v = ap (λ (u : List Used). is_writing (effect_of v u)) is

plain_same : (b c : BookView) → c ≡ b → GoesBy is_plain b c
plain_same b c same = none is_plain b c same

if_stops : (running : Bool) (cause : Stop) (job : JobName) (x : Copies) → GoesBy is_plain x.book (stopped_if running cause job x).book
if_stops true cause job x = one is_plain (deeds.Stops cause job) x.book (stopped_if true cause job x).book refl refl
if_stops false cause job x = none is_plain x.book x.book refl

pub stop_plain : (cause : Stop) (job : JobName) (x : Copies) → GoesBy is_plain x.book (stops cause job x).book
stop_plain cause job x = if_stops (is_running x.book.table (id_of job)) cause job x

commit_plain : (job : JobName) (x : Copies) → GoesBy is_plain x.book (commits job x).book
commit_plain job x = one is_plain (deeds.Commits job) x.book (commits job x).book refl refl

-- ---- the write

module _ (job : JobName) (chunk : Chunk) (bytes : List ℕ) (told : Landing) (d : Doing) (none_yet : d.used ≡ []) (file off : ℕ) where
  abbrev Ends : Called WriteFault → Type 0
  Ends c = WritesNone d (written job chunk told c.fault (with_write c d)).doing
      ⊎ ((c.used ≡ noted [] (asked.Write file off (length bytes)) answers.Done) × (c.store ≡ done_by (calls.Writes file off bytes) d.store) × (c.fault ≡ None))

  called_ends : (fault : Option WriteFault) (fate : Fate) → Ends (called fault writing.DiskFailed fate (calls.Writes file off bytes) d.used d.store)
  called_ends (Some fault) fate = inl (record {
    few = few_noted d.used (asked.Write file off (length bytes)) answers.Refused none_yet;
    quiet = λ v. ap (λ (u : List Used). is_writing (effect_of v (noted u (asked.Write file off (length bytes)) answers.Refused))) none_yet;
    plain = stop_plain _ job d.copier.copies;
  })
  called_ends None Went = inr (ap (λ (u : List Used). noted u (asked.Write file off (length bytes)) answers.Done) none_yet, refl, refl)
  called_ends None Failed = inl (record {
    few = few_noted d.used (asked.Write file off (length bytes)) answers.DiskFailed none_yet;
    quiet = λ v. ap (λ (u : List Used). is_writing (effect_of v (noted u (asked.Write file off (length bytes)) answers.DiskFailed))) none_yet;
    plain = stop_plain _ job d.copier.copies;
  })

  call_ends : (choice : Choice) → Ends (write_call choice d.used d.store file off bytes)
  unfolding write_call
  call_ends choice = called_ends (write_fault d.store.volume off bytes) (choice (length d.used))

module _ (choice : Choice) (job : JobName) (chunk : Chunk) (bytes : List ℕ) (d : Doing) (none_yet : d.used ≡ [])
    (takes_it : table_landing (book_at d).table (id_of job) chunk ≡ takes.Landed) where
  abbrev Result : Doing → Type 0
  Result e = WritesNone d e ⊎ WritesOne job chunk bytes d e

  by_call : (told : Landing) (file off : ℕ) (c : Called WriteFault) → target d.store chunk (length bytes) (named (book_at d).table job) ≡ Some (file, off)
      → Ends job chunk bytes told d none_yet file off c → Result (written job chunk told c.fault (with_write c d)).doing
  by_call told file off c to (inl quiet) = inl quiet
  by_call told file off c to (inr done) =
      subst (λ (fault : Option WriteFault). Result (written job chunk told fault (with_write c d)).doing) (sym done.2)
      (inr (record { takes_it = takes_it; file = file; off = off; to = to; used = done.0; store = done.1; copies = refl }))

  where_result : (told : Landing) (place : Option (ℕ × ℕ)) → target d.store chunk (length bytes) (named (book_at d).table job) ≡ place
      → Result (written_where choice job chunk bytes told place d).doing
  where_result told None to = inl (record { few = few_none d.used none_yet; quiet = unused d.used none_yet; plain = plain_same (book_at d) (book_at d) refl })
  where_result told (Some place) to =
      by_call told place.0 place.1 (write_call choice d.used d.store place.0 place.1 bytes) to (call_ends job chunk bytes told d none_yet place.0 place.1 choice)

  if_result : (told : Option Landing) → Result (written_if choice job chunk bytes told d).doing
  if_result None = inl (record { few = few_none d.used none_yet; quiet = unused d.used none_yet; plain = plain_same (book_at d) (book_at d) refl })
  if_result (Some told) = where_result told (target d.store chunk (length bytes) (named (book_at d).table job)) refl

landed_result : (l : Takes) (choice : Choice) (place : ℕ) (job : JobName) (chunk : Chunk) (bytes : List ℕ) (told : Option Landing) (d : Doing) → d.used ≡ []
    → table_landing (book_at d).table (id_of job) chunk ≡ l
    → WritesNone d (landed_by l choice place job chunk bytes told d).doing ⊎ WritesOne job chunk bytes d (landed_by l choice place job chunk bytes told d).doing
landed_result takes.Late choice place job chunk bytes told d none_yet is = inl (record { few = few_none d.used none_yet; quiet = unused d.used none_yet; plain = plain_same (book_at d) (book_at d) refl })
landed_result takes.Held choice place job chunk bytes told d none_yet is = inl (record { few = few_none d.used none_yet; quiet = unused d.used none_yet; plain = plain_same (book_at d) (book_at d) refl })
landed_result takes.Landed choice place job chunk bytes told d none_yet is = if_result choice job chunk bytes d none_yet is told

lands_result : (choice : Choice) (place : ℕ) (job : JobName) (chunk : Chunk) (bytes : List ℕ) (told : Option Landing) (d : Doing) → d.used ≡ []
    → WritesNone d (landed choice place job chunk bytes told d).doing ⊎ WritesOne job chunk bytes d (landed choice place job chunk bytes told d).doing
lands_result choice place job chunk bytes told d none_yet =
    landed_result (table_landing (book_at d).table (id_of job) chunk) choice place job chunk bytes told d none_yet refl

-- ---- a commit

module _ (job : JobName) (told : Committing) (d : Doing) (none_yet : d.used ≡ []) (file : ℕ) where
  abbrev Commit : Called ReadFault → Type 0
  Commit c = WritesNone d (commit_done job told c.fault (with_commit c d)).doing

  called_commit : (fault : Option ReadFault) (fate : Fate) → Commit (called fault reading.DiskFailed fate (calls.Commits file) d.used d.store)
  called_commit (Some fault) fate = record {
    few = few_noted d.used (calls.call_of (calls.Commits file) d.store) answers.Refused none_yet;
    quiet = λ v. ap (λ (u : List Used). is_writing (effect_of v (noted u (calls.call_of (calls.Commits file) d.store) answers.Refused))) none_yet;
    plain = stop_plain _ job d.copier.copies;
  }
  called_commit None Went = record {
    few = few_noted d.used (calls.call_of (calls.Commits file) d.store) answers.Done none_yet;
    quiet = λ v. ap (λ (u : List Used). is_writing (effect_of v (noted u (calls.call_of (calls.Commits file) d.store) answers.Done))) none_yet;
    plain = commit_plain job d.copier.copies;
  }
  called_commit None Failed = record {
    few = few_noted d.used (calls.call_of (calls.Commits file) d.store) answers.DiskFailed none_yet;
    quiet = λ v. ap (λ (u : List Used). is_writing (effect_of v (noted u (calls.call_of (calls.Commits file) d.store) answers.DiskFailed))) none_yet;
    plain = stop_plain _ job d.copier.copies;
  }

  call_commit : (choice : Choice) → Commit (commit_call choice d.used d.store file)
  unfolding commit_call
  call_commit choice = called_commit (calls.broken_fault d.store.volume.broken) (choice (length d.used))

rests : (d e : Doing) → d.used ≡ [] → e.used ≡ d.used → book_at e ≡ book_at d → WritesNone d e
rests d e none_yet used book = record { few = few_none e.used (used ∙ none_yet); quiet = unused e.used (used ∙ none_yet); plain = plain_same (book_at d) (book_at e) book }

in_commit : (choice : Choice) (job : JobName) (told : Committing) (file : Option ℕ) (d : Doing) → d.used ≡ [] → WritesNone d (commit_in choice job told file d).doing
in_commit choice job told None d none_yet = rests d d none_yet refl refl
in_commit choice job told (Some file) d none_yet = call_commit job told d none_yet file choice

if_commit : (may : Bool) (choice : Choice) (job : JobName) (told : Committing) (d : Doing) → d.used ≡ [] → WritesNone d (commit_if may choice job told d).doing
if_commit false choice job told d none_yet = rests d d none_yet refl refl
if_commit true choice job told d none_yet = in_commit choice job told (target_file d.store (named d.copier.copies.book.table job)) d none_yet

-- ---- a turn

abbrev pub IsHeldAt : ℕ → Doing → JobName → Chunk → List ℕ → Type 0
IsHeldAt place d job chunk bytes = post_at (work_in d).workers place ≡ Holds job chunk bytes

either : {P : JobName → Chunk → List ℕ → Type 0} (job : JobName) (chunk : Chunk) (bytes : List ℕ) (d e : Doing) → P job chunk bytes → WritesNone d e ⊎ WritesOne job chunk bytes d e → Outcome P d e
either job chunk bytes d e is (inl quiet) = inl quiet
either job chunk bytes d e is (inr writes) = inr (job, chunk, bytes, is, writes)

same_none : (d u e : Doing) → book_at u ≡ book_at d → WritesNone u e → WritesNone d e
same_none d u e same x = record { few = x.few; quiet = x.quiet; plain = subst (λ (b : BookView). GoesBy is_plain b (book_at e)) same x.plain }

held_outcome : (choice : Choice) (place : ℕ) (told : Option Landing) (post : Post) (d : Doing) → d.used ≡ [] → post_at (work_in d).workers place ≡ post
    → Outcome (IsHeldAt place d) d (held_landed choice place told post d).doing
held_outcome choice place told Idle d none_yet is = inl (rests d (without_post place d) none_yet refl refl)
held_outcome choice place told (Awaits job errand) d none_yet is = inl (rests d d none_yet refl refl)
held_outcome choice place told (Holds job chunk bytes) d none_yet is =
    let u = without_post place d in
    let e = (landed choice place job chunk bytes told u).doing in
    elim (lands_result choice place job chunk bytes told u none_yet) [
      | inl quiet ↦ inl (same_none d u e refl quiet)
      | inr w ↦ inr (job, chunk, bytes, is, record { takes_it = w.takes_it; file = w.file; off = w.off; to = w.to; used = w.used; store = w.store; copies = w.copies })
    ]

pub turn_outcome : (choice : Choice) (place : ℕ) (turn : Turn) (d : Doing) → d.used ≡ [] → Outcome (IsHeldAt place d) d (turn_made choice place turn d).doing
turn_outcome choice place turns.Rest d none_yet = inl (rests d d none_yet refl refl)
turn_outcome choice place turns.Undrawn d none_yet = inl (rests d d none_yet refl refl)
turn_outcome choice place (turns.Sent call) d none_yet = inl (rests d d none_yet refl refl)
turn_outcome choice place (turns.Stops job cause told) d none_yet = inl (record { few = few_none d.used none_yet; quiet = unused d.used none_yet; plain = stop_plain cause job d.copier.copies })
turn_outcome choice place (turns.Lands told) d none_yet = held_outcome choice place told (post_at d.copier.work.workers place) d none_yet refl
turn_outcome choice place (turns.Commits job told) d none_yet = inl (if_commit (may_commit job d.copier) choice job told d none_yet)

-- ---- an answer

abbrev pub IsEffect : Effect → JobName → Chunk → List ℕ → Type 0
IsEffect (effects.Lands job chunk bytes told m) name piece piece_bytes = (job ≡ name) × (chunk ≡ piece) × (bytes ≡ piece_bytes)
IsEffect _ name piece piece_bytes = ⊥

pub effect_outcome : (choice : Choice) (place : ℕ) (effect : Effect) (d : Doing) → d.used ≡ [] → Outcome (IsEffect effect) d (effect_done choice place effect d).doing
effect_outcome choice place (effects.Drops why) d none_yet = inl (rests d (effect_done choice place (effects.Drops why) d).doing none_yet refl refl)
effect_outcome choice place (effects.Goes m) d none_yet = inl (rests d (effect_done choice place (effects.Goes m) d).doing none_yet refl refl)
effect_outcome choice place (effects.Denied job m) d none_yet = inl (rests d (effect_done choice place (effects.Denied job m) d).doing none_yet refl refl)
effect_outcome choice place (effects.Stops job cause told m) d none_yet = inl (record { few = few_none d.used none_yet; quiet = unused d.used none_yet; plain = stop_plain cause job d.copier.copies })
effect_outcome choice place (effects.Lands job chunk bytes told m) d none_yet =
    let u : Doing = record d { copier = mounted m d.copier } in
    let e = (landed choice place job chunk bytes told u).doing in
    elim (lands_result choice place job chunk bytes told u none_yet) [
      | inl quiet ↦ inl (same_none d u e refl quiet)
      | inr w ↦ inr (job, chunk, bytes, (refl, refl, refl), record { takes_it = w.takes_it; file = w.file; off = w.off; to = w.to; used = w.used; store = w.store; copies = w.copies })
    ]

-- ---- one call at most is made

pub outcome_few : {P : JobName → Chunk → List ℕ → Type 0} (d e : Doing) → Outcome P d e → length e.used ≤ 1
outcome_few d e (inl quiet) = quiet.few
outcome_few d e (inr (job, chunk, bytes, is, writes)) = subst (λ (u : List Used). length u ≤ 1) (sym writes.used) (omega arith)
