-- In a worker's turn, in what a record of the source does, where a link failed and in a second that comes by itself, what goes out
-- to clients tells what is right.
use Rattle.std.proofs.Common.{◌≡◌, ℕ, ◌+◌, ◌<◌, ◌^◌, Bool, true, false, List, [], ◌∷◌, ◌++◌, Option, Some, None, refl, ap, subst, ◌∙◌, arith, lit<}
use Rattle.std.specs.Prelude.{◌-◌, ◌&&◌, ◌||◌, nat_lt, if◌then◌else◌, find, option_map}
use Rattle.std.proofs.lemmas.Bool.{ltb-true}
use Rattle.block_file.specs.declared.faults.ReadFault.{ReadFault}
use Rattle.block_file.specs.declared.faults.WriteFault.TheVariants as faults
use Rattle.block_file.specs.declared.faults.WriteFault.{WriteFault}
use Rattle.copy_model.specs.Job.{Committed, Entry}
use Rattle.copy_model.specs.Marks.{is_commit, is_committed}
use Rattle.copy_ops.specs.declared.callback.OffloadEnd.{OffloadEnd}
use Rattle.copy_ops.specs.declared.callback.OffloadEnd.TheVariants as offloads
use Rattle.dest_back.specs.Callbacks.{CallbackTable}
use Rattle.dest_back.specs.declared.compound.Ended.{Ended}
use Rattle.dest_back.specs.declared.telling.Sent.{Sent as Callback}
use Rattle.dest_laws.proofs.names.Callbacks.{told_goes}
use Rattle.dest_laws.proofs.names.Caused.{commits_caused, lands_caused, stops_caused}
use Rattle.dest_laws.specs.Names.Causes.{Fails, HaveCauses}
use Rattle.dest_laws.specs.Names.Posts.{AreRight, BacksFit, CanCommit, CanStop, Goes, GoRight, GoesRight, IsCommitted}
use Rattle.dest_steps.specs.Copier.{Around, Codes, last_xid, xid_of}
use Rattle.dest_steps.specs.Landing.{Doing, Done, landed, landed_by, with_write, written, stopped, written_if, written_where}
use Rattle.dest_steps.specs.Telling.{call_at, commit_telling, ended_of, landed_by as landed_bytes_by, safe_end, stop_telling, stop_telling_by, telling, telling_by, telling_of}
use Rattle.dest_steps.specs.Turning.{landing_for, landing_if}
use Rattle.dest_steps.specs.Working.{commit_done, commit_if, commit_in, held_landed, may_commit, turn_made, with_commit, without_post}
use Rattle.dest_steps.specs.declared.copier.Copier.{Copier}
use Rattle.dest_steps.specs.declared.landing.Landing.{Landing}
use Rattle.dest_steps.specs.declared.telling.Telling.{Telling}
use Rattle.dest_steps.specs.declared.turning.Committing.{Committing}
use Rattle.dest_steps.specs.declared.turning.Turn.TheVariants as turns
use Rattle.dest_steps.specs.declared.turning.Turn.{Turn}
use Rattle.dest_tasks.specs.Posts.{post_at}
use Rattle.dest_tasks.specs.Seats.{seat_of}
use Rattle.dest_tasks.specs.declared.post.Post.{Post}
use Rattle.dest_tasks.specs.declared.post.Post.TheVariants.{Awaits, Holds, Idle}
use Rattle.job_book.specs.Book.{id_of, named}
use Rattle.job_book.specs.Working.{is_whole}
use Rattle.job_log.specs.Log.{with_entry}
use Rattle.job_log.specs.declared.chunk.Chunk.{Chunk}
use Rattle.job_log.specs.declared.chunk.Landing.{Landing as Takes}
use Rattle.job_log.specs.declared.chunk.Landing.TheVariants as takes
use Rattle.job_table.specs.Table.{JobTable, changed, is_job, is_live, is_running, passes, with_log, status_of, table_landing}
use Rattle.job_table.specs.declared.job.Job.{Job}
use Rattle.mount.specs.State.{Mounted}
use Rattle.nfs_base.specs.declared.job.JobName.{JobName}
use Rattle.nfs_base.specs.declared.job.Stop.{Stop}
use Rattle.nfs_base.specs.declared.job.Stop.TheVariants.{DiskFault, LinkFault, Worn}
use Rattle.nfs_base.specs.declared.status.Status.{Status}
use Rattle.outbox.specs.declared.outgoing.Outgoing.{Outgoing}
use Rattle.server_volume.specs.Calls.{commit_call, write_call}
use Rattle.server_volume.specs.Choices.{Choice}

-- ---- numbers of calls

xid_by : (last n : ℕ) (left : Bool) → nat_lt last (2 ^ 32 - 1) ≡ left → (if left then Some (last + 1) else None) ≡ Some n → n < 2 ^ 32
xid_by last n true is told = let below : last < 4294967295 = ltb-true last 4294967295 is in let same : last + 1 ≡ n = cc in omega arith
xid_by last n false is told = absurd cc

pub xid_small : (m : Mounted) (c : CallbackTable) (n : ℕ) → xid_of m c ≡ Some n → n < 2 ^ 32
xid_small m c n is = xid_by (last_xid m c) n (nat_lt (last_xid m c) (2 ^ 32 - 1)) refl is

-- ---- what a stop is told by

pub disk_small : Fails DiskFault
disk_small status is = let same : record { number = 5 } ≡ status = cc in subst (λ (s : Status). (0 < s.number) × (s.number < 2 ^ 32)) same (lit< tt, lit< tt)

pub worn_small : Fails Worn
worn_small status is = let same : record { number = 10006 } ≡ status = cc in subst (λ (s : Status). (0 < s.number) × (s.number < 2 ^ 32)) same (lit< tt, lit< tt)

pub link_small : Fails LinkFault
link_small status is = let same : record { number = 10088 } ≡ status = cc in subst (λ (s : Status). (0 < s.number) × (s.number < 2 ^ 32)) same (lit< tt, lit< tt)

-- ---- a job that gets the entry of its commit is committed

is_committed_end : (es : List Entry) → is_committed (es ++ Committed ∷ []) ≡ true
is_committed_end [] = refl
is_committed_end (e ∷ es) = by (is_commit e) (is_committed_end es)
  where
    by : (b : Bool) → is_committed (es ++ Committed ∷ []) ≡ true → (b || is_committed (es ++ Committed ∷ [])) ≡ true
    by true is = refl
    by false is = is

found_at : (p : Job → Bool) (f : Job → Job) (x : Job) (xs : List Job) (b : Bool) → p x ≡ b → p (f x) ≡ p x → find p (changed p f xs) ≡ option_map f (find p xs)
    → find p (if b then f x ∷ xs else x ∷ changed p f xs) ≡ option_map f (if b then Some x else find p xs)
found_at p f x xs true is keeps rest = rw (keeps, is) refl
found_at p f x xs false is keeps rest = rw is rest

find_changed : (p : Job → Bool) (f : Job → Job) (xs : List Job) → ((x : Job) → p (f x) ≡ p x) → find p (changed p f xs) ≡ option_map f (find p xs)
find_changed p f [] keeps = refl
find_changed p f (x ∷ xs) keeps = found_at p f x xs (p x) refl (keeps x) (find_changed p f xs keeps)

gets_commit : (t : JobTable) (name : JobName) (job : Job) → named t name ≡ Some job → IsCommitted (with_log t (id_of name) (λ log. with_entry log Committed)) name
gets_commit t name job there =
    let f : Job → Job = λ j. record j { log = with_entry j.log Committed } in
    record {
      job = f job;
      there = find_changed (is_job t.boot (id_of name)) f t.jobs (λ x. refl) ∙ ap (λ (j : Option Job). option_map f j) there;
      committed = is_committed_end job.log.entries;
    }

runs_there : (t : JobTable) (name : JobName) (whole : Bool) → (is_running t (id_of name) && whole) ≡ true → (job : Job) × (named t name ≡ Some job)
runs_there t name whole is = by (named t name) refl (and_left (is_running t (id_of name)) whole is)
  where
    and_left : (a b : Bool) → (a && b) ≡ true → a ≡ true
    and_left true b is = refl
    and_left false b is = absurd cc

    by : (found : Option Job) → named t name ≡ found → passes is_live found ≡ true → (job : Job) × (named t name ≡ Some job)
    by None there live = absurd cc
    by (Some job) there live = (job, there)

module _ (codes : Codes) (right : Ended → Type 0) where
  -- what is told where a job ends is right
  pub record IsTold (told : Telling) : Type 0 where
    pub are : AreRight right told.back
    pub go : GoRight codes.mic right told.sent

  -- what is left of a destination's copies, and what goes out: stopped jobs have causes
  pub record IsDone (copier : Copier) (sent : List Outgoing) : Type 0 where
    pub are : AreRight right copier.back
    pub go : GoRight codes.mic right sent
    pub have : HaveCauses copier.copies.book.table

  abbrev pub LandingIsTold : Option Landing → Type 0
  LandingIsTold None = Unit {0}
  LandingIsTold (Some told) = IsTold told.fault × IsTold told.worn

  outcome_told : (outcome : Option Callback × CallbackTable) → Goes codes.mic right outcome → IsTold (telling_of outcome)
  outcome_told (None, c) goes = record { are = record { tells = goes.tells; fit = goes.fit }; go = tt }
  outcome_told (Some call, c) goes = record { are = record { tells = goes.tells; fit = goes.fit }; go = (goes.sent call refl, tt) }

  module _ (around : Around) (backs : BacksFit around.sessions) where
    telling_told : (name : JobName) (end : OffloadEnd) (xid seat : Option ℕ) (job : Option Job) (x : Copier) → ((n : ℕ) → xid ≡ Some n → n < 2 ^ 32) → AreRight right x.back
        → ((j : Job) → job ≡ Some j → right (ended_of around name j end)) → IsTold (telling_by codes around name end xid seat job x)
    telling_told name end None seat job x small are can = record { are = are; go = tt }
    telling_told name end (Some xid) None job x small are can = record { are = are; go = tt }
    telling_told name end (Some xid) (Some seat) None x small are can = record { are = are; go = tt }
    telling_told name end (Some xid) (Some seat) (Some job) x small are can =
        outcome_told _ (told_goes codes.mic codes.derived right around.sessions backs (call_at around seat xid) (small xid refl) x.back are.tells are.fit (ended_of around name job end) (can job refl))

    pub told_right : (name : JobName) (end : OffloadEnd) (x : Copier) → AreRight right x.back
        → ((j : Job) → named x.copies.book.table name ≡ Some j → right (ended_of around name j end)) → IsTold (telling codes around name end x)
    told_right name end x are can =
        telling_told name end (xid_of x.work.mount x.back) (seat_of name.number x.work.seats) (named x.copies.book.table name) x (xid_small x.work.mount x.back) are can

    stop_by : (name : JobName) (status : Option Status) (x : Copier) → AreRight right x.back → CanStop around right x.copies.book.table
        → ((s : Status) → status ≡ Some s → (0 < s.number) × (s.number < 2 ^ 32)) → IsTold (stop_telling_by codes around name status x)
    stop_by name None x are can small = record { are = are; go = tt }
    stop_by name (Some status) x are can small =
        told_right name (offloads.Failed status (landed_bytes_by name x)) x are (λ j there. can name j status (landed_bytes_by name x) there (small status refl).1)

    pub stop_right : (name : JobName) (cause : Stop) (x : Copier) → AreRight right x.back → CanStop around right x.copies.book.table → Fails cause
        → IsTold (stop_telling codes around name cause x)
    stop_right name cause x are can small = stop_by name (status_of cause) x are can small

    pub commit_right : (name : JobName) (x : Copier) → AreRight right x.back → CanCommit around right name → IsTold (commit_telling codes around name x)
    commit_right name x are can = told_right name (safe_end around.boot (landed_bytes_by name x)) x are (λ j there. can j (landed_bytes_by name x))

    landing_by : (running : Bool) (job : JobName) (x : Copier) → AreRight right x.back → CanStop around right x.copies.book.table → LandingIsTold (landing_if running codes around job x)
    landing_by true job x are can = (stop_right job DiskFault x are can disk_small, stop_right job Worn x are can worn_small)
    landing_by false job x are can = tt

    pub landing_right : (job : JobName) (x : Copier) → AreRight right x.back → CanStop around right x.copies.book.table → LandingIsTold (landing_for codes around job x)
    landing_right job x are can = landing_by (is_running x.copies.book.table (id_of job)) job x are can

  abbrev pub CommitIsTold : (JobName → Type 0) → JobName → Committing → Type 0
  CommitIsTold can job told = (can job → IsTold told.done) × IsTold told.fault

  abbrev pub TurnIsTold : (JobName → Type 0) → Turn → Type 0
  TurnIsTold can turns.Rest = Unit {0}
  TurnIsTold can turns.Undrawn = Unit {0}
  TurnIsTold can (turns.Sent call) = GoesRight codes.mic right call
  TurnIsTold can (turns.Stops job cause told) = IsTold told × Fails cause
  TurnIsTold can (turns.Lands told) = LandingIsTold told
  TurnIsTold can (turns.Commits job told) = CommitIsTold can job told

  -- ---- a job is stopped, or a chunk lands

  abbrev pub HaveIn : Doing → Type 0
  HaveIn d = HaveCauses d.copier.copies.book.table

  module _ (choice : Choice) where
    abbrev pub Lands : Done → Type 0
    Lands done = IsDone done.doing.copier done.sent

    stop_done : (job : JobName) (cause : Stop) (told : Telling) (d : Doing) → IsTold told → Fails cause → HaveIn d → Lands (stopped job cause told d)
    stop_done job cause told d is fails have = record { are = is.are; go = is.go; have = stops_caused cause job d.copier.copies fails have }

    written_done : (job : JobName) (chunk : Chunk) (told : Landing) (fault : Option WriteFault) (d : Doing) → AreRight right d.copier.back → HaveIn d → LandingIsTold (Some told)
        → Lands (written job chunk told fault d)
    written_done job chunk told None d are have is = record { are = are; go = tt; have = lands_caused job chunk d.copier.copies have }
    written_done job chunk told (Some faults.Worn) d are have is = stop_done job Worn told.worn d is.1 worn_small have
    written_done job chunk told (Some faults.TooFar) d are have is = stop_done job DiskFault told.fault d is.0 disk_small have
    written_done job chunk told (Some faults.DiskFailed) d are have is = stop_done job DiskFault told.fault d is.0 disk_small have
    written_done job chunk told (Some faults.Broken) d are have is = stop_done job DiskFault told.fault d is.0 disk_small have

    where_done : (job : JobName) (chunk : Chunk) (bytes : List ℕ) (told : Landing) (place : Option (ℕ × ℕ)) (d : Doing) → AreRight right d.copier.back → HaveIn d → LandingIsTold (Some told)
        → Lands (written_where choice job chunk bytes told place d)
    where_done job chunk bytes told None d are have is = record { are = are; go = tt; have = have }
    where_done job chunk bytes told (Some place) d are have is =
        let c = write_call choice d.used d.store place.0 place.1 bytes in written_done job chunk told c.fault (with_write c d) are have is

    if_done : (job : JobName) (chunk : Chunk) (bytes : List ℕ) (told : Option Landing) (d : Doing) → AreRight right d.copier.back → HaveIn d → LandingIsTold told
        → Lands (written_if choice job chunk bytes told d)
    if_done job chunk bytes None d are have is = record { are = are; go = tt; have = have }
    if_done job chunk bytes (Some told) d are have is = where_done job chunk bytes told _ d are have is

    landed_done : (answer : Takes) (place : ℕ) (job : JobName) (chunk : Chunk) (bytes : List ℕ) (told : Option Landing) (d : Doing) → AreRight right d.copier.back → HaveIn d → LandingIsTold told
        → Lands (landed_by answer choice place job chunk bytes told d)
    landed_done takes.Late place job chunk bytes told d are have is = record { are = are; go = tt; have = have }
    landed_done takes.Held place job chunk bytes told d are have is = record { are = are; go = tt; have = have }
    landed_done takes.Landed place job chunk bytes told d are have is = if_done job chunk bytes told d are have is

    pub lands_right : (place : ℕ) (job : JobName) (chunk : Chunk) (bytes : List ℕ) (told : Option Landing) (d : Doing) → AreRight right d.copier.back → HaveIn d → LandingIsTold told
        → Lands (landed choice place job chunk bytes told d)
    lands_right place job chunk bytes told d are have is = landed_done (table_landing d.copier.copies.book.table (id_of job) chunk) place job chunk bytes told d are have is

    held_right : (place : ℕ) (told : Option Landing) (post : Post) (d : Doing) → AreRight right d.copier.back → HaveIn d → LandingIsTold told → Lands (held_landed choice place told post d)
    held_right place told Idle d are have is = record { are = are; go = tt; have = have }
    held_right place told (Awaits job errand) d are have is = record { are = are; go = tt; have = have }
    held_right place told (Holds job chunk bytes) d are have is = lands_right place job chunk bytes told (without_post place d) are have is

    -- ---- a commit, which is told of only once it has gone through

    module _ (can : JobName → Type 0) where
      abbrev Then : JobName → Done → Type 0
      Then job done = IsCommitted done.doing.copier.copies.book.table job → can job

      fault_done : (job : JobName) (told : Committing) (fault : Option ReadFault) (d : Doing) (j : Job) → named d.copier.copies.book.table job ≡ Some j → HaveIn d → CommitIsTold can job told
          → Then job (commit_done job told fault d) → Lands (commit_done job told fault d)
      fault_done job told None d j there have is gets =
          let made : IsTold told.done = is.0 (gets (gets_commit d.copier.copies.book.table job j there)) in
          record { are = made.are; go = made.go; have = commits_caused job d.copier.copies have }
      fault_done job told (Some f) d j there have is gets = stop_done job DiskFault told.fault d is.1 disk_small have

      in_done : (job : JobName) (told : Committing) (file : Option ℕ) (d : Doing) (j : Job) → named d.copier.copies.book.table job ≡ Some j → AreRight right d.copier.back → HaveIn d
          → CommitIsTold can job told → Then job (commit_in choice job told file d) → Lands (commit_in choice job told file d)
      in_done job told None d j there are have is gets = record { are = are; go = tt; have = have }
      in_done job told (Some file) d j there are have is gets =
          let c = commit_call choice d.used d.store file in fault_done job told c.fault (with_commit c d) j there have is gets

      may_done : (job : JobName) (told : Committing) (may : Bool) (d : Doing) → may_commit job d.copier ≡ may → AreRight right d.copier.back → HaveIn d → CommitIsTold can job told
          → Then job (commit_if may choice job told d) → Lands (commit_if may choice job told d)
      may_done job told false d runs are have is gets = record { are = are; go = tt; have = have }
      may_done job told true d runs are have is gets =
          let j = runs_there d.copier.copies.book.table job (is_whole (named d.copier.copies.book.table job)) runs in
          in_done job told _ d j.0 j.1 are have is gets

      pub turn_right : (place : ℕ) (turn : Turn) (d : Doing) → AreRight right d.copier.back → HaveIn d → TurnIsTold can turn
          → ((job : JobName) → Then job (turn_made choice place turn d)) → Lands (turn_made choice place turn d)
      turn_right place turns.Rest d are have is gets = record { are = are; go = tt; have = have }
      turn_right place turns.Undrawn d are have is gets = record { are = are; go = tt; have = have }
      turn_right place (turns.Sent call) d are have is gets = record { are = are; go = (is, tt); have = have }
      turn_right place (turns.Stops job cause told) d are have is gets = stop_done job cause told d is.0 is.1 have
      turn_right place (turns.Lands told) d are have is gets = held_right place told (post_at d.copier.work.workers place) d are have is
      turn_right place (turns.Commits job told) d are have is gets = may_done job told (may_commit job d.copier) d refl are have is (gets job)
