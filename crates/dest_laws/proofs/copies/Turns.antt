-- What a worker's turn and a record of the source do to the jobs: a commit is one of the job's file, and a length is one that the
-- source gave.
use Rattle.std.proofs.Common.{◌≡◌, ℕ, arith, Bool, true, false, List, [], Option, Some, None, Result, Ok, Err, refl, sym, ap, subst, ◌∙◌}
use Rattle.std.specs.Prelude.{◌&&◌, ◌||◌, ◌==◌, ◌-◌, nat_le, is_none, length, if◌then◌else◌}
use Rattle.block_file.specs.Opened.{homes_by}
use Rattle.block_file.specs.declared.faults.ReadFault.{ReadFault}
use Rattle.block_file.specs.declared.faults.ReadFault.TheVariants as reading
use Rattle.block_file.specs.declared.faults.WriteFault.{WriteFault}
use Rattle.copy_model.specs.Effect as effects_on
use Rattle.copy_model.specs.Effect.{Effect as OnVolume}
use Rattle.copy_model.specs.Volume.{Volume}
use Rattle.dest_jobs.specs.Progress.{stopped_if}
use Rattle.dest_jobs.specs.declared.copies.Copies.{Copies}
use Rattle.dest_laws.proofs.copies.Joined.{none, one}
use Rattle.dest_laws.specs.Copies.Story.{GoesWell, HasLength, IsCommitted, IsMet, WasThere}
use Rattle.dest_laws.specs.Deeds.{ByDeeds, book_in, entry_in}
use Rattle.dest_steps.specs.Copier.{Around, Codes}
use Rattle.dest_steps.specs.Failing.{link_failed}
use Rattle.dest_steps.specs.Landing.{Doing, cause_of, landed_by, target, target_file, with_copier, with_write, written, written_if, written_where}
use Rattle.dest_steps.specs.Replying.{IsFound, IsHeard, IsHeardIf, IsSizedBy, IsSizedIf, effect_done, is_read, len_for, may_size, mounted, taken_of}
use Rattle.dest_steps.specs.Working.{commit_by, commit_done, commit_if, commit_in, held_landed, may_commit, turn_made, with_commit, without_post}
use Rattle.dest_steps.specs.declared.copier.Copier.{Copier}
use Rattle.dest_steps.specs.declared.failing.Failing.{Failing}
use Rattle.dest_steps.specs.declared.failing.Failing.TheVariants as fails
use Rattle.dest_steps.specs.declared.landing.Landing.{Landing}
use Rattle.dest_steps.specs.declared.replying.Effect.{Effect}
use Rattle.dest_steps.specs.declared.replying.Effect.TheVariants as effects
use Rattle.dest_steps.specs.declared.replying.Heard.{Heard}
use Rattle.dest_steps.specs.declared.turning.Committing.{Committing}
use Rattle.dest_steps.specs.declared.turning.Turn.TheVariants as turns
use Rattle.dest_steps.specs.declared.turning.Turn.{Turn}
use Rattle.dest_tasks.specs.Completing as does
use Rattle.dest_tasks.specs.Completing.{Comes, Deed}
use Rattle.dest_tasks.specs.Posts.{post_at}
use Rattle.dest_tasks.specs.declared.post.Errand.{Errand}
use Rattle.dest_tasks.specs.declared.post.Post.{Post}
use Rattle.dest_tasks.specs.declared.post.Post.TheVariants.{Awaits, Holds, Idle}
use Rattle.dest_work.specs.declared.finding.Finding.{Finding}
use Rattle.dest_work.specs.declared.finding.Finding.TheVariants as findings
use Rattle.dest_work.specs.declared.work.Taken.{Taken}
use Rattle.job_book.specs.Book.{BookView, id_of, named}
use Rattle.job_book.specs.Working.{size_in}
use Rattle.job_log.specs.declared.chunk.Chunk.{Chunk}
use Rattle.job_log.specs.declared.chunk.Landing.{Landing as Takes}
use Rattle.job_log.specs.declared.chunk.Landing.TheVariants as takes
use Rattle.job_table.specs.Table.{is_running, table_landing}
use Rattle.job_table.specs.declared.job.Job.{Job}
use Rattle.mount.specs.State.{Mounted}
use Rattle.nfs_base.specs.declared.job.JobName.{JobName}
use Rattle.nfs_base.specs.declared.job.Stop.{Stop}
use Rattle.nfs_base.specs.declared.job.Stop.TheVariants.{DiskFault, LinkFault}
use Rattle.server_volume.specs.Calls as asks
use Rattle.server_volume.specs.Calls.{Called, called, commit_call, write_call}
use Rattle.server_volume.specs.Choices.{Choice, Failed, Fate, Went, noted}
use Rattle.server_volume.specs.Store.{Store}
use Rattle.server_volume.specs.declared.used.CallAnswer.TheVariants as answers
use Rattle.server_volume.specs.declared.used.Used.{Used}
use Rattle.server_volume.specs.declared.used.VolumeCall.TheVariants as calls
use Rattle.wire_machine.specs.History.{effect_of}

-- ---- a commit that went through is what the step did to the volume

commit_noted : (refused : Option ReadFault) (fate : Fate) (file : ℕ) (used : List Used) (s : Store)
    → (called refused reading.DiskFailed fate (asks.Commits file) used s).fault ≡ None
    → (called refused reading.DiskFailed fate (asks.Commits file) used s).used ≡ noted used (calls.Commit file (1 - homes_by s.homes file)) answers.Done
commit_noted (Some fault) fate file used s none_is = absurd (cc)
commit_noted None Went file used s none_is = refl
commit_noted None Failed file used s none_is = absurd (cc)

call_noted : (choice : Choice) (file : ℕ) (used : List Used) (s : Store) → (commit_call choice used s file).fault ≡ None
    → (commit_call choice used s file).used ≡ noted used (calls.Commit file (1 - homes_by s.homes file)) answers.Done
unfolding commit_call
call_noted choice file used s none_is = commit_noted _ (choice (length used)) file used s none_is

done_used : (job : JobName) (told : Committing) (fault : Option ReadFault) (d : Doing) → (commit_done job told fault d).doing.used ≡ d.used
done_used job told None d = refl
done_used job told (Some fault) d = refl

commit_is : (choice : Choice) (job : JobName) (told : Committing) (file : ℕ) (d : Doing) → d.used ≡ [] → (commit_call choice d.used d.store file).fault ≡ None
    → (v : Volume) → effect_of v (commit_by job told (commit_call choice d.used d.store file) d).doing.used ≡ effects_on.Commits file
commit_is choice job told file d unused gone v =
    let c = commit_call choice d.used d.store file in
    let call = calls.Commit file (1 - homes_by d.store.homes file) in
    ap (λ (u : List Used). effect_of v u)
    (done_used job told c.fault (with_commit c d) ∙ call_noted choice file d.used d.store gone ∙ ap (λ (u : List Used). noted u call answers.Done) unused)

-- ---- the file of a job that is there

file_is : (refused : Bool) (file at : ℕ) → (if refused then None else Some file) ≡ Some at → file ≡ at
file_is true file at is = absurd (cc)
file_is false file at is = let e = is in cc

pub record FileOf (job : Option Job) (file : ℕ) : Type 0 where
  pub it : Job
  pub there : job ≡ Some it
  pub file_is : it.plan.file ≡ file

file_of_job : (s : Store) (job : Option Job) (file : ℕ) → target_file s job ≡ Some file → FileOf job file
file_of_job s None file is = absurd (cc)
file_of_job s (Some job) file is = record {
  it = job;
  there = refl;
  file_is = file_is ((job.plan.file == 0) || nat_le (length s.volume.files) job.plan.file) job.plan.file file is;
}

-- ---- deeds that give no entry need nothing

pub silent : (b : BookView) (used : List Used) (deed : Deed) → entry_in deed ≡ 0 → IsMet b used deed
silent b used (does.Accepts plan) is = tt
silent b used (does.Sizes spare len name) is = absurd (omega (arith, is))
silent b used (does.Claims name) is = tt
silent b used (does.GivesBack name chunk) is = tt
silent b used (does.Lands name chunk) is = tt
silent b used (does.Stops cause name) is = tt
silent b used (does.Commits name) is = absurd (omega (arith, is))
silent b used (does.Retires name) is = tt

module _ (b : BookView) (used : List Used) where
  abbrev Goes : BookView → BookView → Type 0
  Goes c d = GoesWell (IsMet b used) 0 1 c d

  still : (c d : BookView) → d ≡ c → Goes c d
  still c d same = none (IsMet b used) c d same

  pub stop_goes : (running : Bool) (cause : Stop) (job : JobName) (x : Copies) → Goes x.book (stopped_if running cause job x).book
  stop_goes true cause job x =
      one (IsMet b used) (does.Stops cause job) x.book (stopped_if true cause job x).book refl (omega arith) (omega arith) tt
  stop_goes false cause job x = still x.book x.book refl

  -- ---- a chunk lands

  written_goes : (job : JobName) (chunk : Chunk) (told : Landing) (fault : Option WriteFault) (d : Doing)
      → table_landing (book_in d).table (id_of job) chunk ≡ takes.Landed → Goes (book_in d) (book_in (written job chunk told fault d).doing)
  written_goes job chunk told None d lands =
      one (IsMet b used) (does.Lands job chunk) (book_in d) (book_in (written job chunk told None d).doing) (lands, refl) (omega arith) (omega arith) tt
  written_goes job chunk told (Some fault) d lands = stop_goes (is_running (book_in d).table (id_of job)) (cause_of fault) job d.copier.copies

  where_goes : (choice : Choice) (job : JobName) (chunk : Chunk) (bytes : List ℕ) (told : Landing) (place : Option (ℕ × ℕ)) (d : Doing)
      → table_landing (book_in d).table (id_of job) chunk ≡ takes.Landed → Goes (book_in d) (book_in (written_where choice job chunk bytes told place d).doing)
  where_goes choice job chunk bytes told None d lands = still (book_in d) (book_in d) refl
  where_goes choice job chunk bytes told (Some place) d lands =
      let c = write_call choice d.used d.store place.0 place.1 bytes in
      written_goes job chunk told c.fault (with_write c d) lands

  if_goes : (choice : Choice) (job : JobName) (chunk : Chunk) (bytes : List ℕ) (told : Option Landing) (d : Doing)
      → table_landing (book_in d).table (id_of job) chunk ≡ takes.Landed → Goes (book_in d) (book_in (written_if choice job chunk bytes told d).doing)
  if_goes choice job chunk bytes None d lands = still (book_in d) (book_in d) refl
  if_goes choice job chunk bytes (Some told) d lands =
      where_goes choice job chunk bytes told (target d.store chunk (length bytes) (named (book_in d).table job)) d lands

  landed_goes : (answer : Takes) (choice : Choice) (place : ℕ) (job : JobName) (chunk : Chunk) (bytes : List ℕ) (told : Option Landing) (d : Doing)
      → table_landing (book_in d).table (id_of job) chunk ≡ answer → Goes (book_in d) (book_in (landed_by answer choice place job chunk bytes told d).doing)
  landed_goes takes.Late choice place job chunk bytes told d lands = still (book_in d) (book_in d) refl
  landed_goes takes.Held choice place job chunk bytes told d lands = still (book_in d) (book_in d) refl
  landed_goes takes.Landed choice place job chunk bytes told d lands = if_goes choice job chunk bytes told d lands

  held_goes : (choice : Choice) (place : ℕ) (told : Option Landing) (post : Post) (d : Doing) → Goes (book_in d) (book_in (held_landed choice place told post d).doing)
  held_goes choice place told Idle d = still (book_in d) (book_in d) refl
  held_goes choice place told (Awaits job errand) d = still (book_in d) (book_in d) refl
  held_goes choice place told (Holds job chunk bytes) d =
      landed_goes (table_landing (book_in d).table (id_of job) chunk) choice place job chunk bytes told (without_post place d) refl

  -- ---- a job is committed

  done_goes : (job : JobName) (told : Committing) (fault : Option ReadFault) (d : Doing) → (fault ≡ None → IsCommitted b job used)
      → Goes (book_in d) (book_in (commit_done job told fault d).doing)
  done_goes job told None d met =
      one (IsMet b used) (does.Commits job) (book_in d) (book_in (commit_done job told None d).doing) refl (omega arith) (omega arith) (met refl)
  done_goes job told (Some fault) d met = stop_goes (is_running (book_in d).table (id_of job)) DiskFault job d.copier.copies

  -- ---- a record of the source

  pub effect_goes : (choice : Choice) (place : ℕ) (effect : Effect) (d : Doing) → Goes (book_in d) (book_in (effect_done choice place effect d).doing)
  effect_goes choice place (effects.Drops why) d = still (book_in d) (book_in d) refl
  effect_goes choice place (effects.Goes m) d = still (book_in d) (book_in d) refl
  effect_goes choice place (effects.Denied job m) d = still (book_in d) (book_in d) refl
  effect_goes choice place (effects.Stops job cause told m) d = stop_goes (is_running (book_in d).table (id_of job)) cause job d.copier.copies
  effect_goes choice place (effects.Lands job chunk bytes told m) d =
      landed_goes (table_landing (book_in d).table (id_of job) chunk) choice place job chunk bytes told (with_copier (mounted m d.copier) d) refl

  -- ---- a link that failed

  failed_goes : (place : ℕ) (failing : Failing) (x : Copier) → Goes x.copies.book (link_failed place failing x).0.copies.book
  failed_goes place fails.Nothing x = still x.copies.book x.copies.book refl
  failed_goes place (fails.Stops job told) x = stop_goes (is_running x.copies.book.table (id_of job)) LinkFault job x.copies

-- ---- a worker's turn

file_goes : (b : BookView) (choice : Choice) (job : JobName) (told : Committing) (file : Option ℕ) (d : Doing) → d.used ≡ [] → ByDeeds b (book_in d)
    → target_file d.store (named (book_in d).table job) ≡ file
    → GoesWell (IsMet b (commit_in choice job told file d).doing.used) 0 1 (book_in d) (book_in (commit_in choice job told file d).doing)
file_goes b choice job told None d unused came is = still b d.used (book_in d) (book_in d) refl
file_goes b choice job told (Some file) d unused came is =
    let c = commit_call choice d.used d.store file in
    let job_is = file_of_job d.store (named (book_in d).table job) file is in
    let there : WasThere b job = record { book = book_in d; come = came; job = job_is.it; found = job_is.there } in
    done_goes b (commit_by job told c d).doing.used job told c.fault (with_commit c d)
    (λ gone. record {
      there = there;
      call = λ v. commit_is choice job told file d unused gone v ∙ ap (λ (f : ℕ). effects_on.Commits f) (sym job_is.file_is);
    })

commit_goes : (may : Bool) (b : BookView) (choice : Choice) (job : JobName) (told : Committing) (d : Doing) → d.used ≡ [] → ByDeeds b (book_in d)
    → GoesWell (IsMet b (commit_if may choice job told d).doing.used) 0 1 (book_in d) (book_in (commit_if may choice job told d).doing)
commit_goes false b choice job told d unused came = still b d.used (book_in d) (book_in d) refl
commit_goes true b choice job told d unused came =
    file_goes b choice job told (target_file d.store (named (book_in d).table job)) d unused came refl

pub turn_goes : (b : BookView) (choice : Choice) (place : ℕ) (turn : Turn) (d : Doing) → d.used ≡ [] → ByDeeds b (book_in d)
    → GoesWell (IsMet b (turn_made choice place turn d).doing.used) 0 1 (book_in d) (book_in (turn_made choice place turn d).doing)
turn_goes b choice place turns.Rest d unused came = still b d.used (book_in d) (book_in d) refl
turn_goes b choice place turns.Undrawn d unused came = still b d.used (book_in d) (book_in d) refl
turn_goes b choice place (turns.Sent call) d unused came = still b d.used (book_in d) (book_in d) refl
turn_goes b choice place (turns.Stops job cause told) d unused came =
    stop_goes b (turn_made choice place (turns.Stops job cause told) d).doing.used (is_running (book_in d).table (id_of job)) cause job d.copier.copies
turn_goes b choice place (turns.Lands told) d unused came =
    held_goes b (turn_made choice place (turns.Lands told) d).doing.used choice place told (post_at d.copier.work.workers place) d
turn_goes b choice place (turns.Commits job told) d unused came = commit_goes (may_commit job d.copier) b choice job told d unused came

-- ---- a record of the source, heard and done: an answer that gives a length does nothing more

is_none_so : (size : Option ℕ) → is_none size ≡ true → size ≡ None
is_none_so None is = refl
is_none_so (Some size) is = absurd (cc)

second : (a b : Bool) → (a && b) ≡ true → b ≡ true
second true b is = is
second false b is = absurd (cc)

module _ (used : List Used) (choice : Choice) (place : ℕ) where
  quiet_then : (effect : Effect) (old new : Copier) (d : Doing) → new ≡ old → d.copier ≡ new
      → GoesWell (IsMet old.copies.book used) 0 1 old.copies.book (book_in (effect_done choice place effect d).doing)
  quiet_then effect old new d same here =
      subst (λ (b : BookView). GoesWell (IsMet old.copies.book used) 0 1 b (book_in (effect_done choice place effect d).doing))
      (ap (λ (x : Copier). x.copies.book) (here ∙ same)) (effect_goes old.copies.book used choice place effect d)

  goes_nowhere : (effect : Effect) (m : Mounted) (d : Doing) → effect ≡ effects.Goes m → book_in (effect_done choice place effect d).doing ≡ book_in d
  goes_nowhere effect m d is = ap (λ e. book_in (effect_done choice place e d).doing) is

  has_length : (old : Copier) (job : JobName) (size len : ℕ) (found : Option Job) → named old.copies.book.table job ≡ found
      → len_for old.copies.book.table.capacity size found ≡ Some (Ok len) → HasLength old.copies.book job len
  unfolding Comes
  has_length old job size len None found is = absurd (cc)
  has_length old job size len (Some x) found is = record {
    there = record { book = old.copies.book; come = ([], refl); job = x; found = found };
    size = size;
    gives = let e = is in cc;
  }

  sized_then : (codes : Codes) (around : Around) (job : JobName) (size : ℕ) (m : Mounted) (len : Option (Result ℕ Stop)) (old : Copier) (effect : Effect) (new : Copier) (d : Doing)
      → len_for old.copies.book.table.capacity size (named old.copies.book.table job) ≡ len
      → size_in (named old.copies.book.table job) ≡ None → IsSizedBy codes around job m len old effect new → d.copier ≡ new
      → GoesWell (IsMet old.copies.book used) 0 1 old.copies.book (book_in (effect_done choice place effect d).doing)
  sized_then codes around job size m None old effect new d len_is unsized is here = quiet_then effect old new d is.still here
  sized_then codes around job size m (Some (Err cause)) old effect new d len_is unsized is here = quiet_then effect old new d is.still here
  sized_then codes around job size m (Some (Ok len)) old effect new d len_is unsized is here =
      subst (λ (b : BookView). GoesWell (IsMet old.copies.book used) 0 1 old.copies.book b)
      (sym (goes_nowhere effect m d is.effect_is ∙ ap (λ (x : Copier). x.copies.book) here))
      (one (IsMet old.copies.book used) (does.Sizes is.spare len job) old.copies.book new.copies.book (unsized, ap (λ (x : Copier). x.copies.book) is.is)
      (omega arith) (omega arith) (has_length old job size len (named old.copies.book.table job) refl len_is))

  size_then : (may : Bool) (codes : Codes) (around : Around) (job : JobName) (size : ℕ) (m : Mounted) (old : Copier) (effect : Effect) (new : Copier) (d : Doing)
      → may_size job old ≡ may → IsSizedIf may codes around job size m old effect new → d.copier ≡ new
      → GoesWell (IsMet old.copies.book used) 0 1 old.copies.book (book_in (effect_done choice place effect d).doing)
  size_then false codes around job size m old effect new d may is here = quiet_then effect old new d is.still here
  size_then true codes around job size m old effect new d may is here =
      let none_yet = second (is_running old.copies.book.table (id_of job)) (is_none (size_in (named old.copies.book.table job))) may in
      sized_then codes around job size m (len_for old.copies.book.table.capacity size (named old.copies.book.table job)) old effect new d refl
      (is_none_so (size_in (named old.copies.book.table job)) none_yet) is here

  found_then : (codes : Codes) (around : Around) (job : JobName) (errand : Errand) (finding : Finding) (m : Mounted) (old : Copier) (effect : Effect) (new : Copier) (d : Doing)
      → IsFound codes around job errand finding m old effect new → d.copier ≡ new
      → GoesWell (IsMet old.copies.book used) 0 1 old.copies.book (book_in (effect_done choice place effect d).doing)
  found_then codes around job errand findings.Unmatched m old effect new d is here = quiet_then effect old new d is.still here
  found_then codes around job errand findings.GoesOn m old effect new d is here = quiet_then effect old new d is.still here
  found_then codes around job errand findings.FirstDenial m old effect new d is here = quiet_then effect old new d is.still here
  found_then codes around job errand (findings.Stops cause) m old effect new d is here = quiet_then effect old new d is.still here
  found_then codes around job errand (findings.HasSize size) m old effect new d is here =
      size_then (may_size job old) codes around job size m old effect new d refl is here
  found_then codes around job errand (findings.Brings bytes) m old effect new d is here = quiet_then effect old new d is.still here

  read_then : (read : Bool) (codes : Codes) (around : Around) (t : Option Taken) (old : Copier) (heard : Heard) (new : Copier) (d : Doing)
      → IsHeardIf read codes around t old heard new → d.copier ≡ new
      → GoesWell (IsMet old.copies.book used) 0 1 old.copies.book (book_in (effect_done choice place heard.effect d).doing)
  read_then false codes around t old heard new d is here = quiet_then heard.effect old new d is.still here
  read_then true codes around None old heard new d is here = quiet_then heard.effect old new d is.still here
  read_then true codes around (Some t) old heard new d is here =
      found_then codes around t.job t.errand t.finding t.mount old heard.effect new d is.effect here

  pub heard_goes : (codes : Codes) (finished : List ℕ → List ℕ → Option (List ℕ)) (around : Around) (at : ℕ) (message : List ℕ) (old : Copier) (heard : Heard) (new : Copier) (d : Doing)
      → IsHeard codes finished around at message old heard new → d.copier ≡ new
      → GoesWell (IsMet old.copies.book used) 0 1 old.copies.book (book_in (effect_done choice place heard.effect d).doing)
  heard_goes codes finished around at message old heard new d is here =
      read_then (is_read message) codes around (taken_of codes finished at message old) old heard new d is here

pub failure_goes : (b : BookView) (used : List Used) (place : ℕ) (failing : Failing) (x : Copier)
    → GoesWell (IsMet b used) 0 1 x.copies.book (link_failed place failing x).0.copies.book
failure_goes b used place failing x = failed_goes b used place failing x
