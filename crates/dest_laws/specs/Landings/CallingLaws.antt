-- A worker's turn and a record of the source call the volume once at most, and then on a file that is there and isn't the root. So
-- what is so of no call, and of each such call, is so of what they leave of the volume.
use Rattle.std.proofs.Common.{◌≡◌, ◌∙◌, ℕ, ◌<◌, Bool, true, false, List, [], length, Option, Some, None, refl, sym, ap, subst}
use Rattle.block_file.specs.Opened.{refusal_of}
use Rattle.block_file.specs.declared.faults.ReadFault.{ReadFault}
use Rattle.block_file.specs.declared.faults.ReadFault.TheVariants as reading
use Rattle.block_file.specs.declared.faults.WriteFault.TheVariants as writing
use Rattle.block_file.specs.declared.faults.WriteFault.{WriteFault}
use Rattle.dest_core.specs.Stepping.{DestState, DestStep, IsReply, IsWork, doing_in, second_in, with_copier, without_lapsed}
use Rattle.dest_laws.specs.Landings.TargetLaws.{job_file, job_off_root, target_off_root, target_there}
use Rattle.dest_steps.specs.Copier.{Codes}
use Rattle.dest_steps.specs.Landing.{Doing, landed, landed_by, target, target_file, with_write, written, written_if, written_where}
use Rattle.dest_steps.specs.Replying.{effect_done, mounted}
use Rattle.dest_steps.specs.Working.{commit_done, commit_if, commit_in, held_landed, may_commit, turn_made, with_commit, without_post}
use Rattle.dest_steps.specs.declared.landing.Landing.{Landing}
use Rattle.dest_steps.specs.declared.replying.Effect.{Effect}
use Rattle.dest_steps.specs.declared.replying.Effect.TheVariants as effects
use Rattle.dest_steps.specs.declared.turning.Committing.{Committing}
use Rattle.dest_steps.specs.declared.turning.Turn.TheVariants as turns
use Rattle.dest_steps.specs.declared.turning.Turn.{Turn}
use Rattle.dest_tasks.specs.Posts.{post_at}
use Rattle.dest_tasks.specs.declared.post.Post.{Post}
use Rattle.dest_tasks.specs.declared.post.Post.TheVariants.{Awaits, Holds, Idle}
use Rattle.job_book.specs.Book.{id_of, named}
use Rattle.job_log.specs.declared.chunk.Chunk.{Chunk}
use Rattle.job_log.specs.declared.chunk.Landing.{Landing as Takes}
use Rattle.job_log.specs.declared.chunk.Landing.TheVariants as takes
use Rattle.job_table.specs.Table.{table_landing}
use Rattle.nfs_base.specs.declared.job.JobName.{JobName}
use Rattle.server_volume.specs.Calls as calls
use Rattle.server_volume.specs.Calls.{Asked, Called, broken_fault, call_of, called, commit_call, left_by, write_call, write_fault}
use Rattle.server_volume.specs.Choices.{Choice, Failed, Fate, Went, choice_of, noted}
use Rattle.server_volume.specs.Moments.{IsTaken}
use Rattle.server_volume.specs.Store.{Store}
use Rattle.server_volume.specs.declared.used.CallAnswer.{CallAnswer}
use Rattle.server_volume.specs.declared.used.CallAnswer.TheVariants as answers
use Rattle.server_volume.specs.declared.used.Used.{Used}
use Rattle.streams.specs.declared.draws.Drawn.{Drawn}
use Rattle.tell_laws.specs.Volumes.{file_called}

whole_to_write : (broken : Bool) (writes capacity off len : ℕ) → refusal_of broken writes capacity off len ≡ None → broken ≡ false
whole_to_write true writes capacity off len is = absurd cc
whole_to_write false writes capacity off len is = refl

whole_to_commit : (broken : Bool) → broken_fault broken ≡ None → broken ≡ false
whole_to_commit true is = absurd cc
whole_to_commit false is = refl

module _ (Came : Store → Store → List Used → Type 0) (none_came : (s : Store) → Came s s [])
    (one_came : (s : Store) (asked : Asked) (answer : CallAnswer) → IsTaken answer s asked → (file_called (call_of asked s) ≡ 0 → ⊥)
    → Came s (left_by asked answer s) (noted [] (call_of asked s) answer)) where
  came_as : (old now left : Store) (used calls_noted : List Used) → now ≡ left → used ≡ calls_noted → Came old left calls_noted → Came old now used
  came_as old now left used calls_noted is same came =
      subst (λ (s : Store). Came old s used) (sym is) (subst (λ (us : List Used). Came old left us) (sym same) came)

  abbrev Goes : Doing → Doing → Type 0
  Goes d e = Came d.store e.store e.used

  rests : (d e : Doing) → d.used ≡ [] → e.store ≡ d.store → e.used ≡ d.used → Goes d e
  rests d e none store used = came_as d.store e.store d.store e.used [] store (used ∙ none) (none_came d.store)

  -- ---- one call

  abbrev CallGoes : {F : Type 0} → Doing → Called F → Type 0
  CallGoes d c = Came d.store c.store c.used

  answered : (d : Doing) → d.used ≡ [] → (asked : Asked) (answer : CallAnswer) → IsTaken answer d.store asked → (file_called (call_of asked d.store) ≡ 0 → ⊥)
      → Came d.store (left_by asked answer d.store) (noted d.used (call_of asked d.store) answer)
  answered d none asked answer taken off_root =
      came_as d.store (left_by asked answer d.store) (left_by asked answer d.store) (noted d.used (call_of asked d.store) answer)
      (noted [] (call_of asked d.store) answer) refl (ap (λ (u : List Used). noted u (call_of asked d.store) answer) none)
      (one_came d.store asked answer taken off_root)

  -- ---- a write

  write_called : (d : Doing) → d.used ≡ [] → (file off : ℕ) (bytes : List ℕ) → file < length d.store.volume.files → (file ≡ 0 → ⊥)
      → (fault : Option WriteFault) (fate : Fate) → write_fault d.store.volume off bytes ≡ fault
      → CallGoes d (called fault writing.DiskFailed fate (calls.Writes file off bytes) d.used d.store)
  write_called d none file off bytes there off_root (Some fault) fate is = answered d none (calls.Writes file off bytes) answers.Refused tt off_root
  write_called d none file off bytes there off_root None Went is =
      let v = d.store.volume in
      answered d none (calls.Writes file off bytes) answers.Done
      (record { there = there; whole = whole_to_write v.broken v.writes v.capacity off (length bytes) is }, is) off_root
  write_called d none file off bytes there off_root None Failed is =
      let v = d.store.volume in
      answered d none (calls.Writes file off bytes) answers.DiskFailed
      (record { there = there; whole = whole_to_write v.broken v.writes v.capacity off (length bytes) is }, is) off_root

  write_goes : (d : Doing) → d.used ≡ [] → (file off : ℕ) (bytes : List ℕ) → file < length d.store.volume.files → (file ≡ 0 → ⊥)
      → (choice : Choice) → CallGoes d (write_call choice d.used d.store file off bytes)
  unfolding write_call
  write_goes d none file off bytes there off_root choice =
      write_called d none file off bytes there off_root (write_fault d.store.volume off bytes) (choice (length d.used)) refl

  written_goes : (job : JobName) (chunk : Chunk) (told : Landing) (d : Doing) (c : Called WriteFault) (fault : Option WriteFault) → CallGoes d c
      → Goes d (written job chunk told fault (with_write c d)).doing
  written_goes job chunk told d c None goes = goes
  written_goes job chunk told d c (Some fault) goes = goes

  where_goes : (choice : Choice) (job : JobName) (chunk : Chunk) (bytes : List ℕ) (told : Landing) (place : Option (ℕ × ℕ)) (d : Doing) → d.used ≡ []
      → target d.store chunk (length bytes) (named d.copier.copies.book.table job) ≡ place → Goes d (written_where choice job chunk bytes told place d).doing
  where_goes choice job chunk bytes told None d none to = rests d d none refl refl
  where_goes choice job chunk bytes told (Some place) d none to =
      let c = write_call choice d.used d.store place.0 place.1 bytes in
      let there = named d.copier.copies.book.table job in
      written_goes job chunk told d c c.fault
      (write_goes d none place.0 place.1 bytes (target_there d.store chunk (length bytes) there place to)
      (target_off_root d.store chunk (length bytes) there place to) choice)

  if_goes : (choice : Choice) (job : JobName) (chunk : Chunk) (bytes : List ℕ) (told : Option Landing) (d : Doing) → d.used ≡ [] → Goes d (written_if choice job chunk bytes told d).doing
  if_goes choice job chunk bytes None d none = rests d d none refl refl
  if_goes choice job chunk bytes (Some told) d none =
      where_goes choice job chunk bytes told (target d.store chunk (length bytes) (named d.copier.copies.book.table job)) d none refl

  by_goes : (l : Takes) (choice : Choice) (place : ℕ) (job : JobName) (chunk : Chunk) (bytes : List ℕ) (told : Option Landing) (d : Doing) → d.used ≡ []
      → Goes d (landed_by l choice place job chunk bytes told d).doing
  by_goes takes.Late choice place job chunk bytes told d none = rests d (landed_by takes.Late choice place job chunk bytes told d).doing none refl refl
  by_goes takes.Held choice place job chunk bytes told d none = rests d (landed_by takes.Held choice place job chunk bytes told d).doing none refl refl
  by_goes takes.Landed choice place job chunk bytes told d none = if_goes choice job chunk bytes told d none

  landed_goes : (choice : Choice) (place : ℕ) (job : JobName) (chunk : Chunk) (bytes : List ℕ) (told : Option Landing) (d : Doing) → d.used ≡ []
      → Goes d (landed choice place job chunk bytes told d).doing
  landed_goes choice place job chunk bytes told d none =
      by_goes (table_landing d.copier.copies.book.table (id_of job) chunk) choice place job chunk bytes told d none

  -- ---- a commit

  commit_called : (d : Doing) → d.used ≡ [] → (file : ℕ) → file < length d.store.volume.files → (file ≡ 0 → ⊥)
      → (fault : Option ReadFault) (fate : Fate) → broken_fault d.store.volume.broken ≡ fault
      → CallGoes d (called fault reading.DiskFailed fate (calls.Commits file) d.used d.store)
  commit_called d none file there off_root (Some fault) fate is = answered d none (calls.Commits file) answers.Refused tt off_root
  commit_called d none file there off_root None Went is =
      answered d none (calls.Commits file) answers.Done (record { there = there; whole = whole_to_commit d.store.volume.broken is }) off_root
  commit_called d none file there off_root None Failed is =
      answered d none (calls.Commits file) answers.DiskFailed (record { there = there; whole = whole_to_commit d.store.volume.broken is }) off_root

  commit_goes : (d : Doing) → d.used ≡ [] → (file : ℕ) → file < length d.store.volume.files → (file ≡ 0 → ⊥)
      → (choice : Choice) → CallGoes d (commit_call choice d.used d.store file)
  unfolding commit_call
  commit_goes d none file there off_root choice =
      commit_called d none file there off_root (broken_fault d.store.volume.broken) (choice (length d.used)) refl

  committed_goes : (job : JobName) (told : Committing) (d : Doing) (c : Called ReadFault) (fault : Option ReadFault) → CallGoes d c
      → Goes d (commit_done job told fault (with_commit c d)).doing
  committed_goes job told d c None goes = goes
  committed_goes job told d c (Some fault) goes = goes

  in_goes : (choice : Choice) (job : JobName) (told : Committing) (file : Option ℕ) (d : Doing) → d.used ≡ []
      → target_file d.store (named d.copier.copies.book.table job) ≡ file → Goes d (commit_in choice job told file d).doing
  in_goes choice job told None d none is = rests d d none refl refl
  in_goes choice job told (Some file) d none is =
      let c = commit_call choice d.used d.store file in
      let there = named d.copier.copies.book.table job in
      committed_goes job told d c c.fault (commit_goes d none file (job_file d.store there file is) (job_off_root d.store there file is) choice)

  may_goes : (may : Bool) (choice : Choice) (job : JobName) (told : Committing) (d : Doing) → d.used ≡ [] → Goes d (commit_if may choice job told d).doing
  may_goes false choice job told d none = rests d d none refl refl
  may_goes true choice job told d none = in_goes choice job told (target_file d.store (named d.copier.copies.book.table job)) d none refl

  -- ---- a turn, and an answer

  held_goes : (choice : Choice) (place : ℕ) (told : Option Landing) (post : Post) (d : Doing) → d.used ≡ [] → Goes d (held_landed choice place told post d).doing
  held_goes choice place told Idle d none = rests d (without_post place d) none refl refl
  held_goes choice place told (Awaits job errand) d none = rests d d none refl refl
  held_goes choice place told (Holds job chunk bytes) d none = landed_goes choice place job chunk bytes told (without_post place d) none

  turn_goes : (choice : Choice) (place : ℕ) (turn : Turn) (d : Doing) → d.used ≡ [] → Goes d (turn_made choice place turn d).doing
  turn_goes choice place turns.Rest d none = rests d d none refl refl
  turn_goes choice place turns.Undrawn d none = rests d d none refl refl
  turn_goes choice place (turns.Sent call) d none = rests d d none refl refl
  turn_goes choice place (turns.Stops job cause told) d none = rests d (turn_made choice place (turns.Stops job cause told) d).doing none refl refl
  turn_goes choice place (turns.Lands told) d none = held_goes choice place told (post_at d.copier.work.workers place) d none
  turn_goes choice place (turns.Commits job told) d none = may_goes (may_commit job d.copier) choice job told d none

  effect_goes : (choice : Choice) (place : ℕ) (effect : Effect) (d : Doing) → d.used ≡ [] → Goes d (effect_done choice place effect d).doing
  effect_goes choice place (effects.Drops why) d none = rests d (effect_done choice place (effects.Drops why) d).doing none refl refl
  effect_goes choice place (effects.Goes m) d none = rests d (effect_done choice place (effects.Goes m) d).doing none refl refl
  effect_goes choice place (effects.Denied job m) d none = rests d (effect_done choice place (effects.Denied job m) d).doing none refl refl
  effect_goes choice place (effects.Stops job cause told m) d none = rests d (effect_done choice place (effects.Stops job cause told m) d).doing none refl refl
  effect_goes choice place (effects.Lands job chunk bytes told m) d none =
      landed_goes choice place job chunk bytes told (record d { copier = mounted m d.copier }) none

  -- ---- whole steps

  abbrev pub StepComes : {M : Type 0} → DestState M → DestStep M → Type 0
  StepComes s t = Came s.state.machine.store t.host.state.machine.store t.out.used

  pub work_comes : {M W : Type 0} (gives : W → Drawn → W → Type 0) (started : List ℕ → List ℕ → Option (List ℕ)) (codes : Codes) (place now : ℕ)
      (s : DestState M) (before after : W) (t : DestStep M) → IsWork gives started codes place now s before after t → StepComes s t
  work_comes {M} gives started codes place now s before after t work =
      let choice = choice_of t.out.used in
      let start : DestState M = with_copier work.copier s in
      let d = doing_in (without_lapsed (second_in now start)) in
      subst (λ (v : DestStep M). StepComes s v) (sym (work.is choice (λ n below. refl))) (turn_goes choice place work.turn d refl)

  pub reply_comes : {M : Type 0} (codes : Codes) (finish : List ℕ → List ℕ → Option (List ℕ)) (place : ℕ) (message : List ℕ) (now : ℕ)
      (s : DestState M) (t : DestStep M) → IsReply codes finish place message now s t → StepComes s t
  reply_comes {M} codes finish place message now s t reply =
      let choice = choice_of t.out.used in
      let start : DestState M = with_copier reply.copier s in
      let d = doing_in (second_in now start) in
      subst (λ (v : DestStep M). StepComes s v) (sym (reply.is choice (λ n below. refl))) (effect_goes choice place reply.heard.effect d refl)
