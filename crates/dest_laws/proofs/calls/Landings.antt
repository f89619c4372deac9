-- What is done on the volume and to the jobs leaves the mount, and tells clients alone.
use Rattle.std.proofs.Common.{◌≡◌, ◌∙◌, inl, inr, ℕ, Bool, true, false, List, [], length, Option, Some, None, refl, sym, ap}
use Rattle.std.proofs.lemmas.Bool.{cases_eq}
use Rattle.std.proofs.lemmas.List.{get_or-set_other}
use Rattle.block_file.specs.declared.faults.ReadFault.{ReadFault}
use Rattle.block_file.specs.declared.faults.WriteFault.TheVariants as faults
use Rattle.block_file.specs.declared.faults.WriteFault.{WriteFault}
use Rattle.caller_laws.specs.Good.{Identity}
use Rattle.dest_back.specs.Callbacks.{CallbackTable}
use Rattle.dest_laws.proofs.calls.Callbacks.{Tells, TellsBy, tells_none}
use Rattle.dest_laws.specs.Calls.Settled.{AreClients}
use Rattle.dest_laws.specs.View.View.{post_purpose}
use Rattle.dest_steps.specs.Landing as landings
use Rattle.dest_steps.specs.Landing.{Doing, Done as DoneTo, landed, stopped}
use Rattle.dest_steps.specs.Working as workings
use Rattle.dest_steps.specs.declared.landing.Landing.{Landing}
use Rattle.dest_steps.specs.declared.telling.Telling.{Telling}
use Rattle.dest_steps.specs.declared.turning.Committing.{Committing}
use Rattle.dest_steps.specs.declared.turning.Turn.TheVariants as turns
use Rattle.dest_steps.specs.declared.turning.Turn.{Turn}
use Rattle.dest_tasks.specs.Posts.{post_at, put_at}
use Rattle.dest_tasks.specs.declared.post.Post.{Post}
use Rattle.dest_tasks.specs.declared.post.Post.TheVariants.{Awaits, Holds, Idle}
use Rattle.job_book.specs.Book.{id_of, named}
use Rattle.job_log.specs.declared.chunk.Chunk.{Chunk}
use Rattle.job_log.specs.declared.chunk.Landing.{Landing as TakesIt}
use Rattle.job_log.specs.declared.chunk.Landing.TheVariants as takes
use Rattle.job_table.specs.Table.{table_landing}
use Rattle.mount.specs.State.{Mounted, awaited_at}
use Rattle.mount.specs.declared.state.Awaiting.{Awaiting}
use Rattle.nfs_base.specs.declared.job.JobName.{JobName}
use Rattle.nfs_base.specs.declared.job.Stop.{Stop}
use Rattle.server_volume.specs.Calls.{Called, Commits, commit_call, write_call}
use Rattle.server_volume.specs.Choices.{Choice}
use Rattle.server_volume.specs.declared.used.CallAnswer.TheVariants.{DiskFailed}

-- ---- posts

-- what the calls that are awaited are for stays
abbrev pub KeepsPurposes : Mounted → List Post → List Post → Type 0
KeepsPurposes m old new = (place : ℕ) (a : Awaiting) → awaited_at m place ≡ Some a → post_purpose (post_at new place) ≡ post_purpose (post_at old place)

pub put_keeps : (m : Mounted) (place : ℕ) (post : Post) (posts : List Post) → awaited_at m place ≡ None → KeepsPurposes m posts (put_at place post posts)
put_keeps m place post posts free other a there =
    elim (cases_eq other place) [
      | inl same ↦
          let both : None ≡ Some a = sym free ∙ sym (ap (awaited_at m) same) ∙ there in
          absurd cc
      | inr apart ↦ ap post_purpose (get_or-set_other posts place other post Idle apart)
    ]

pub keeps_on : (m : Mounted) (a b c : List Post) → KeepsPurposes m a b → KeepsPurposes m b c → KeepsPurposes m a c
keeps_on m a b c first second place waits there = second place waits there ∙ first place waits there

-- ---- what is done

pub record Ends (who : Identity) (m : Mounted) (d : Doing) (done : DoneTo) : Type 0 where
  pub mount : done.doing.copier.work.mount ≡ d.copier.work.mount
  pub posts : KeepsPurposes d.copier.work.mount d.copier.work.workers done.doing.copier.work.workers
  pub tells : Tells who m d.copier.back done.sent done.doing.copier.back

abbrev pub LandingTells : Identity → Mounted → CallbackTable → Option Landing → Type 0
LandingTells who m back None = Unit {0}
LandingTells who m back (Some told) = TellsBy who m back told.fault × TellsBy who m back told.worn

-- a call to the source is another matter
abbrev pub TurnTells : Identity → Mounted → CallbackTable → Turn → Type 0
TurnTells who m back (turns.Sent call) = ⊥
TurnTells who m back (turns.Stops job cause told) = TellsBy who m back told
TurnTells who m back (turns.Lands told) = LandingTells who m back told
TurnTells who m back (turns.Commits job told) = TellsBy who m back told.done × TellsBy who m back told.fault
TurnTells who m back _ = Unit {0}

module _ (who : Identity) (m : Mounted) where
  pub still_ends : (d : Doing) → AreClients d.copier.back → Ends who m d (landings.still d)
  still_ends d clients = record { mount = refl; posts = λ place a there. refl; tells = tells_none who m d.copier.back clients }

  pub stopped_ends : (job : JobName) (cause : Stop) (told : Telling) (d : Doing) → TellsBy who m d.copier.back told → Ends who m d (stopped job cause told d)
  stopped_ends job cause told d tells = record { mount = refl; posts = λ place a there. refl; tells = tells }

  fault_tells : (fault : WriteFault) (told : Landing) (back : CallbackTable) → TellsBy who m back told.fault → TellsBy who m back told.worn
      → TellsBy who m back (landings.told_of fault told)
  fault_tells faults.Worn told back fault worn = worn
  fault_tells faults.TooFar told back fault worn = fault
  fault_tells faults.DiskFailed told back fault worn = fault
  fault_tells faults.Broken told back fault worn = fault

  written_ends : (job : JobName) (chunk : Chunk) (told : Landing) (d : Doing) (c : Called WriteFault) → AreClients d.copier.back
      → TellsBy who m d.copier.back told.fault → TellsBy who m d.copier.back told.worn → (o : Option WriteFault)
      → Ends who m d (landings.written job chunk told o (landings.with_write c d))
  written_ends job chunk told d c clients fault worn None =
      record { mount = refl; posts = λ place a there. refl; tells = tells_none who m d.copier.back clients }
  written_ends job chunk told d c clients fault worn (Some why) =
      record { mount = refl; posts = λ place a there. refl; tells = fault_tells why told d.copier.back fault worn }

  where_ends : (choice : Choice) (job : JobName) (chunk : Chunk) (bytes : List ℕ) (told : Landing) (d : Doing) → AreClients d.copier.back
      → TellsBy who m d.copier.back told.fault → TellsBy who m d.copier.back told.worn → (o : Option (ℕ × ℕ))
      → Ends who m d (landings.written_where choice job chunk bytes told o d)
  where_ends choice job chunk bytes told d clients fault worn None = still_ends d clients
  where_ends choice job chunk bytes told d clients fault worn (Some place) =
      let c = write_call choice d.used d.store place.0 place.1 bytes in
      written_ends job chunk told d c clients fault worn c.fault

  if_ends : (choice : Choice) (job : JobName) (chunk : Chunk) (bytes : List ℕ) (d : Doing) → AreClients d.copier.back → (told : Option Landing)
      → LandingTells who m d.copier.back told → Ends who m d (landings.written_if choice job chunk bytes told d)
  if_ends choice job chunk bytes d clients None tells = still_ends d clients
  if_ends choice job chunk bytes d clients (Some told) tells =
      where_ends choice job chunk bytes told d clients tells.0 tells.1 (landings.target d.store chunk (length bytes) (named d.copier.copies.book.table job))

  pub landed_ends : (choice : Choice) (place : ℕ) (job : JobName) (chunk : Chunk) (bytes : List ℕ) (told : Option Landing) (d : Doing) → AreClients d.copier.back
      → LandingTells who m d.copier.back told → awaited_at d.copier.work.mount place ≡ None → Ends who m d (landed choice place job chunk bytes told d)
  landed_ends choice place job chunk bytes told d clients tells free = by (table_landing d.copier.copies.book.table (id_of job) chunk)
    where
      by : (t : TakesIt) → Ends who m d (landings.landed_by t choice place job chunk bytes told d)
      by takes.Late = record { mount = refl; posts = λ q a there. refl; tells = tells_none who m d.copier.back clients }
      by takes.Held = record {
        mount = refl;
        posts = put_keeps d.copier.work.mount place (Holds job chunk bytes) d.copier.work.workers free;
        tells = tells_none who m d.copier.back clients;
      }
      by takes.Landed = if_ends choice job chunk bytes d clients told tells

  held_ends : (choice : Choice) (place : ℕ) (told : Option Landing) (d : Doing) → AreClients d.copier.back → LandingTells who m d.copier.back told
      → awaited_at d.copier.work.mount place ≡ None → (post : Post) → Ends who m d (workings.held_landed choice place told post d)
  held_ends choice place told d clients tells free Idle = record {
    mount = refl;
    posts = put_keeps d.copier.work.mount place Idle d.copier.work.workers free;
    tells = tells_none who m d.copier.back clients;
  }
  held_ends choice place told d clients tells free (Awaits job errand) = still_ends d clients
  held_ends choice place told d clients tells free (Holds job chunk bytes) =
      let e = workings.without_post place d in
      let done = landed choice place job chunk bytes told e in
      let ends = landed_ends choice place job chunk bytes told e clients tells free in
      record {
        mount = ends.mount;
        posts = keeps_on d.copier.work.mount d.copier.work.workers e.copier.work.workers done.doing.copier.work.workers
            (put_keeps d.copier.work.mount place Idle d.copier.work.workers free) ends.posts;
        tells = ends.tells;
      }

  commit_ends : (job : JobName) (told : Committing) (d : Doing) (c : Called ReadFault) → TellsBy who m d.copier.back told.done
      → TellsBy who m d.copier.back told.fault → (o : Option ReadFault) → Ends who m d (workings.commit_done job told o (workings.with_commit c d))
  commit_ends job told d c done fault None = record { mount = refl; posts = λ q a there. refl; tells = done }
  commit_ends job told d c done fault (Some why) = record { mount = refl; posts = λ q a there. refl; tells = fault }

  committed_ends : (choice : Choice) (job : JobName) (told : Committing) (d : Doing) → AreClients d.copier.back → TellsBy who m d.copier.back told.done
      → TellsBy who m d.copier.back told.fault → (may : Bool) → Ends who m d (workings.commit_if may choice job told d)
  committed_ends choice job told d clients done fault false = still_ends d clients
  committed_ends choice job told d clients done fault true = by (landings.target_file d.store (named d.copier.copies.book.table job))
    where
      by : (o : Option ℕ) → Ends who m d (workings.commit_in choice job told o d)
      by None = still_ends d clients
      by (Some file) =
          let c = commit_call choice d.used d.store file in
          commit_ends job told d c done fault c.fault

  -- a turn by which nothing goes out to the source
  pub made_ends : (choice : Choice) (place : ℕ) (turn : Turn) (d : Doing) → AreClients d.copier.back → TurnTells who m d.copier.back turn
      → ((told : Option Landing) → turn ≡ turns.Lands told → awaited_at d.copier.work.mount place ≡ None) → Ends who m d (workings.turn_made choice place turn d)
  made_ends choice place turns.Rest d clients tells free = still_ends d clients
  made_ends choice place turns.Undrawn d clients tells free = still_ends d clients
  made_ends choice place (turns.Sent call) d clients tells free = absurd tells
  made_ends choice place (turns.Stops job cause told) d clients tells free = stopped_ends job cause told d tells
  made_ends choice place (turns.Lands told) d clients tells free =
      held_ends choice place told d clients tells (free told refl) (post_at d.copier.work.workers place)
  made_ends choice place (turns.Commits job told) d clients tells free =
      committed_ends choice job told d clients tells.0 tells.1 (workings.may_commit job d.copier)
