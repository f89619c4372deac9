-- What the steps of a destination do to its jobs.
use Rattle.std.proofs.Common.{◌≡◌, ℕ, arith, Bool, true, false, List, Option, Some, None, Result, Ok, Err, refl, sym, ap, subst, ◌∙◌}
use Rattle.std.specs.Prelude.{◌&&◌, is_none, length}
use Rattle.block_file.specs.declared.faults.ReadFault.{ReadFault}
use Rattle.block_file.specs.declared.faults.WriteFault.{WriteFault}
use Rattle.dest_steps.specs.Copier.{Around, Codes}
use Rattle.dest_steps.specs.Failing.{link_failed}
use Rattle.dest_steps.specs.Hearing.{hearing_done, job_name}
use Rattle.dest_steps.specs.Landing.{Doing, cause_of, landed_by, target, target_file, with_copier, with_write, written, written_if, written_where}
use Rattle.dest_steps.specs.Replying.{IsFound, IsHeard, IsHeardIf, IsSizedBy, IsSizedIf, effect_done, is_read, len_for, may_size, mounted, taken_of}
use Rattle.dest_steps.specs.Working.{commit_done, commit_if, commit_in, held_landed, may_commit, turn_made, with_commit, without_post}
use Rattle.dest_steps.specs.declared.copier.Copier.{Copier}
use Rattle.dest_steps.specs.declared.failing.Failing.{Failing}
use Rattle.dest_steps.specs.declared.failing.Failing.TheVariants as fails
use Rattle.dest_steps.specs.declared.landing.Landing.{Landing}
use Rattle.dest_steps.specs.declared.replying.Effect.{Effect}
use Rattle.dest_steps.specs.declared.replying.Effect.TheVariants as effects
use Rattle.dest_steps.specs.declared.replying.Heard.{Heard}
use Rattle.dest_steps.specs.declared.turning.Committing.{Committing}
use Rattle.dest_steps.specs.declared.turning.Turn.{Turn}
use Rattle.dest_steps.specs.declared.turning.Turn.TheVariants as turns
use Rattle.dest_back.specs.declared.hearing.Hearing.{Hearing}
use Rattle.dest_back.specs.declared.hearing.Hearing.TheVariants as hears
use Rattle.dest_tasks.specs.Completing.{Commits, Lands, Sizes}
use Rattle.dest_tasks.specs.Posts.{post_at}
use Rattle.dest_tasks.specs.declared.post.Errand.{Errand}
use Rattle.dest_tasks.specs.declared.post.Post.{Post}
use Rattle.dest_tasks.specs.declared.post.Post.TheVariants.{Awaits, Holds, Idle}
use Rattle.dest_work.specs.declared.finding.Finding.{Finding}
use Rattle.dest_work.specs.declared.finding.Finding.TheVariants as findings
use Rattle.dest_work.specs.declared.work.Taken.{Taken}
use Rattle.job_book.specs.Book.{BookView, id_of, named}
use Rattle.job_book.specs.Working.{size_in}
use Rattle.job_log.specs.declared.chunk.Chunk.{Chunk}
use Rattle.job_log.specs.declared.chunk.Landing.{Landing as Takes}
use Rattle.job_log.specs.declared.chunk.Landing.TheVariants as takes
use Rattle.job_table.specs.Table.{is_ended, is_running, table_landing}
use Rattle.mount.specs.State.{Mounted}
use Rattle.nfs_base.specs.declared.job.JobName.{JobName}
use Rattle.nfs_base.specs.declared.job.Stop.{Stop}
use Rattle.nfs_base.specs.declared.job.Stop.TheVariants.{DiskFault, LinkFault}
use Rattle.server_volume.specs.Calls.{commit_call, write_call}
use Rattle.server_volume.specs.Choices.{Choice}
use Rattle.dest_laws.specs.Deeds.{GoesWithin, book_in}
use Rattle.dest_laws.proofs.Ends.{report_does, stop_does}
use Rattle.dest_laws.proofs.Joined.{none, one}

-- ---- a chunk lands

written_does : (job : JobName) (chunk : Chunk) (told : Landing) (fault : Option WriteFault) (d : Doing)
    → table_landing (book_in d).table (id_of job) chunk ≡ takes.Landed → GoesWithin 0 1 (book_in d) (book_in (written job chunk told fault d).doing)
written_does job chunk told None d lands = one (Lands job chunk) (book_in d) (book_in (written job chunk told None d).doing) (lands, refl) (omega arith) (omega arith)
written_does job chunk told (Some fault) d lands =
    stop_does (is_running (book_in d).table (id_of job)) (cause_of fault) job d.copier.copies

where_does : (choice : Choice) (job : JobName) (chunk : Chunk) (bytes : List ℕ) (told : Landing) (place : Option (ℕ × ℕ)) (d : Doing)
    → table_landing (book_in d).table (id_of job) chunk ≡ takes.Landed → GoesWithin 0 1 (book_in d) (book_in (written_where choice job chunk bytes told place d).doing)
where_does choice job chunk bytes told None d lands = none (book_in d) (book_in d) refl
where_does choice job chunk bytes told (Some place) d lands =
    let c = write_call choice d.used d.store place.0 place.1 bytes in
    written_does job chunk told c.fault (with_write c d) lands

if_does : (choice : Choice) (job : JobName) (chunk : Chunk) (bytes : List ℕ) (told : Option Landing) (d : Doing)
    → table_landing (book_in d).table (id_of job) chunk ≡ takes.Landed → GoesWithin 0 1 (book_in d) (book_in (written_if choice job chunk bytes told d).doing)
if_does choice job chunk bytes None d lands = none (book_in d) (book_in d) refl
if_does choice job chunk bytes (Some told) d lands =
    where_does choice job chunk bytes told (target d.store chunk (length bytes) (named (book_in d).table job)) d lands

landed_does : (answer : Takes) (choice : Choice) (place : ℕ) (job : JobName) (chunk : Chunk) (bytes : List ℕ) (told : Option Landing) (d : Doing)
    → table_landing (book_in d).table (id_of job) chunk ≡ answer → GoesWithin 0 1 (book_in d) (book_in (landed_by answer choice place job chunk bytes told d).doing)
landed_does takes.Late choice place job chunk bytes told d lands = none (book_in d) (book_in d) refl
landed_does takes.Held choice place job chunk bytes told d lands = none (book_in d) (book_in d) refl
landed_does takes.Landed choice place job chunk bytes told d lands = if_does choice job chunk bytes told d lands

held_does : (choice : Choice) (place : ℕ) (told : Option Landing) (post : Post) (d : Doing) → GoesWithin 0 1 (book_in d) (book_in (held_landed choice place told post d).doing)
held_does choice place told Idle d = none (book_in d) (book_in d) refl
held_does choice place told (Awaits job errand) d = none (book_in d) (book_in d) refl
held_does choice place told (Holds job chunk bytes) d =
    landed_does (table_landing (book_in d).table (id_of job) chunk) choice place job chunk bytes told (without_post place d) refl

-- ---- a job is committed

done_does : (job : JobName) (told : Committing) (fault : Option ReadFault) (d : Doing) → GoesWithin 0 1 (book_in d) (book_in (commit_done job told fault d).doing)
done_does job told None d = one (Commits job) (book_in d) (book_in (commit_done job told None d).doing) refl (omega arith) (omega arith)
done_does job told (Some fault) d = stop_does (is_running (book_in d).table (id_of job)) DiskFault job d.copier.copies

file_does : (choice : Choice) (job : JobName) (told : Committing) (file : Option ℕ) (d : Doing) → GoesWithin 0 1 (book_in d) (book_in (commit_in choice job told file d).doing)
file_does choice job told None d = none (book_in d) (book_in d) refl
file_does choice job told (Some file) d =
    let c = commit_call choice d.used d.store file in
    done_does job told c.fault (with_commit c d)

commit_does : (may : Bool) (choice : Choice) (job : JobName) (told : Committing) (d : Doing) → GoesWithin 0 1 (book_in d) (book_in (commit_if may choice job told d).doing)
commit_does false choice job told d = none (book_in d) (book_in d) refl
commit_does true choice job told d = file_does choice job told (target_file d.store (named (book_in d).table job)) d

-- ---- a worker's turn

pub turn_does : (choice : Choice) (place : ℕ) (turn : Turn) (d : Doing) → GoesWithin 0 1 (book_in d) (book_in (turn_made choice place turn d).doing)
turn_does choice place turns.Rest d = none (book_in d) (book_in d) refl
turn_does choice place turns.Undrawn d = none (book_in d) (book_in d) refl
turn_does choice place (turns.Sent call) d = none (book_in d) (book_in d) refl
turn_does choice place (turns.Stops job cause told) d = stop_does (is_running (book_in d).table (id_of job)) cause job d.copier.copies
turn_does choice place (turns.Lands told) d = held_does choice place told (post_at d.copier.work.workers place) d
turn_does choice place (turns.Commits job told) d = commit_does (may_commit job d.copier) choice job told d

-- ---- a reply of the source

pub effect_does : (choice : Choice) (place : ℕ) (effect : Effect) (d : Doing) → GoesWithin 0 1 (book_in d) (book_in (effect_done choice place effect d).doing)
effect_does choice place (effects.Drops why) d = none (book_in d) (book_in d) refl
effect_does choice place (effects.Goes m) d = none (book_in d) (book_in d) refl
effect_does choice place (effects.Denied job m) d = none (book_in d) (book_in d) refl
effect_does choice place (effects.Stops job cause told m) d = stop_does (is_running (book_in d).table (id_of job)) cause job d.copier.copies
effect_does choice place (effects.Lands job chunk bytes told m) d =
    landed_does (table_landing (book_in d).table (id_of job) chunk) choice place job chunk bytes told (with_copier (mounted m d.copier) d) refl

still_does : (old new : Copier) → new ≡ old → GoesWithin 0 1 old.copies.book new.copies.book
still_does old new same = none old.copies.book new.copies.book (ap (λ (x : Copier). x.copies.book) same)

is_none_so : (size : Option ℕ) → is_none size ≡ true → size ≡ None
is_none_so None is = refl
is_none_so (Some size) is = absurd (cc)

second : (a b : Bool) → (a && b) ≡ true → b ≡ true
second true b is = is
second false b is = absurd (cc)

sized_does : (codes : Codes) (around : Around) (job : JobName) (m : Mounted) (len : Option (Result ℕ Stop)) (old : Copier) (effect : Effect) (new : Copier)
    → size_in (named old.copies.book.table job) ≡ None → IsSizedBy codes around job m len old effect new → GoesWithin 0 1 old.copies.book new.copies.book
sized_does codes around job m None old effect new unsized is = still_does old new is.still
sized_does codes around job m (Some (Err cause)) old effect new unsized is = still_does old new is.still
sized_does codes around job m (Some (Ok len)) old effect new unsized is =
    one (Sizes is.spare len job) old.copies.book new.copies.book (unsized, ap (λ (x : Copier). x.copies.book) is.is) (omega arith) (omega arith)

size_does : (may : Bool) (codes : Codes) (around : Around) (job : JobName) (size : ℕ) (m : Mounted) (old : Copier) (effect : Effect) (new : Copier)
    → may_size job old ≡ may → IsSizedIf may codes around job size m old effect new → GoesWithin 0 1 old.copies.book new.copies.book
size_does false codes around job size m old effect new may is = still_does old new is.still
size_does true codes around job size m old effect new may is =
    let none_yet = second (is_running old.copies.book.table (id_of job)) (is_none (size_in (named old.copies.book.table job))) may in
    sized_does codes around job m (len_for old.copies.book.table.capacity size (named old.copies.book.table job)) old effect new
    (is_none_so (size_in (named old.copies.book.table job)) none_yet) is

found_does : (codes : Codes) (around : Around) (job : JobName) (errand : Errand) (finding : Finding) (m : Mounted) (old : Copier) (effect : Effect) (new : Copier)
    → IsFound codes around job errand finding m old effect new → GoesWithin 0 1 old.copies.book new.copies.book
found_does codes around job errand findings.Unmatched m old effect new is = still_does old new is.still
found_does codes around job errand findings.GoesOn m old effect new is = still_does old new is.still
found_does codes around job errand findings.FirstDenial m old effect new is = still_does old new is.still
found_does codes around job errand (findings.Stops cause) m old effect new is = still_does old new is.still
found_does codes around job errand (findings.HasSize size) m old effect new is = size_does (may_size job old) codes around job size m old effect new refl is
found_does codes around job errand (findings.Brings bytes) m old effect new is = still_does old new is.still

read_does : (read : Bool) (codes : Codes) (around : Around) (t : Option Taken) (old : Copier) (heard : Heard) (new : Copier)
    → IsHeardIf read codes around t old heard new → GoesWithin 0 1 old.copies.book new.copies.book
read_does false codes around t old heard new is = still_does old new is.still
read_does true codes around None old heard new is = still_does old new is.still
read_does true codes around (Some t) old heard new is = found_does codes around t.job t.errand t.finding t.mount old heard.effect new is.effect

pub heard_does : (codes : Codes) (finished : List ℕ → List ℕ → Option (List ℕ)) (around : Around) (place : ℕ) (message : List ℕ) (old : Copier) (heard : Heard) (new : Copier)
    → IsHeard codes finished around place message old heard new → GoesWithin 0 1 old.copies.book new.copies.book
heard_does codes finished around place message old heard new is =
    read_does (is_read message) codes around (taken_of codes finished place message old) old heard new is

-- ---- a record of the source, heard and done: an answer that gives a length does nothing more

-- what is done once nothing came of hearing
quiet_then : (choice : Choice) (place : ℕ) (effect : Effect) (old new : Copier) (d : Doing) → new ≡ old → d.copier ≡ new
    → GoesWithin 0 1 old.copies.book (book_in (effect_done choice place effect d).doing)
quiet_then choice place effect old new d same here =
    subst (λ (b : BookView). GoesWithin 0 1 b (book_in (effect_done choice place effect d).doing)) (ap (λ (x : Copier). x.copies.book) (here ∙ same))
    (effect_does choice place effect d)

-- what is done is nothing
goes_nowhere : (choice : Choice) (place : ℕ) (effect : Effect) (m : Mounted) (d : Doing) → effect ≡ effects.Goes m
    → book_in (effect_done choice place effect d).doing ≡ book_in d
goes_nowhere choice place effect m d is = ap (λ e. book_in (effect_done choice place e d).doing) is

sized_then : (choice : Choice) (place : ℕ) (codes : Codes) (around : Around) (job : JobName) (m : Mounted) (len : Option (Result ℕ Stop)) (old : Copier) (effect : Effect) (new : Copier) (d : Doing)
    → size_in (named old.copies.book.table job) ≡ None → IsSizedBy codes around job m len old effect new → d.copier ≡ new
    → GoesWithin 0 1 old.copies.book (book_in (effect_done choice place effect d).doing)
sized_then choice place codes around job m None old effect new d unsized is here = quiet_then choice place effect old new d is.still here
sized_then choice place codes around job m (Some (Err cause)) old effect new d unsized is here = quiet_then choice place effect old new d is.still here
sized_then choice place codes around job m (Some (Ok len)) old effect new d unsized is here =
    subst (λ (b : BookView). GoesWithin 0 1 old.copies.book b)
    (sym (goes_nowhere choice place effect m d is.effect_is ∙ ap (λ (x : Copier). x.copies.book) here))
    (sized_does codes around job m (Some (Ok len)) old effect new unsized is)

size_then : (may : Bool) (choice : Choice) (place : ℕ) (codes : Codes) (around : Around) (job : JobName) (size : ℕ) (m : Mounted) (old : Copier) (effect : Effect) (new : Copier) (d : Doing)
    → may_size job old ≡ may → IsSizedIf may codes around job size m old effect new → d.copier ≡ new
    → GoesWithin 0 1 old.copies.book (book_in (effect_done choice place effect d).doing)
size_then false choice place codes around job size m old effect new d may is here = quiet_then choice place effect old new d is.still here
size_then true choice place codes around job size m old effect new d may is here =
    let none_yet = second (is_running old.copies.book.table (id_of job)) (is_none (size_in (named old.copies.book.table job))) may in
    sized_then choice place codes around job m (len_for old.copies.book.table.capacity size (named old.copies.book.table job)) old effect new d
    (is_none_so (size_in (named old.copies.book.table job)) none_yet) is here

found_then : (choice : Choice) (place : ℕ) (codes : Codes) (around : Around) (job : JobName) (errand : Errand) (finding : Finding) (m : Mounted) (old : Copier) (effect : Effect) (new : Copier) (d : Doing)
    → IsFound codes around job errand finding m old effect new → d.copier ≡ new → GoesWithin 0 1 old.copies.book (book_in (effect_done choice place effect d).doing)
found_then choice place codes around job errand findings.Unmatched m old effect new d is here = quiet_then choice place effect old new d is.still here
found_then choice place codes around job errand findings.GoesOn m old effect new d is here = quiet_then choice place effect old new d is.still here
found_then choice place codes around job errand findings.FirstDenial m old effect new d is here = quiet_then choice place effect old new d is.still here
found_then choice place codes around job errand (findings.Stops cause) m old effect new d is here = quiet_then choice place effect old new d is.still here
found_then choice place codes around job errand (findings.HasSize size) m old effect new d is here = size_then (may_size job old) choice place codes around job size m old effect new d refl is here
found_then choice place codes around job errand (findings.Brings bytes) m old effect new d is here = quiet_then choice place effect old new d is.still here

read_then : (read : Bool) (choice : Choice) (place : ℕ) (codes : Codes) (around : Around) (t : Option Taken) (old : Copier) (heard : Heard) (new : Copier) (d : Doing)
    → IsHeardIf read codes around t old heard new → d.copier ≡ new → GoesWithin 0 1 old.copies.book (book_in (effect_done choice place heard.effect d).doing)
read_then false choice place codes around t old heard new d is here = quiet_then choice place heard.effect old new d is.still here
read_then true choice place codes around None old heard new d is here = quiet_then choice place heard.effect old new d is.still here
read_then true choice place codes around (Some t) old heard new d is here =
    found_then choice place codes around t.job t.errand t.finding t.mount old heard.effect new d is.effect here

pub record_does : (choice : Choice) (codes : Codes) (finished : List ℕ → List ℕ → Option (List ℕ)) (around : Around) (place : ℕ) (message : List ℕ) (old : Copier) (heard : Heard) (new : Copier) (d : Doing)
    → IsHeard codes finished around place message old heard new → d.copier ≡ new
    → GoesWithin 0 1 old.copies.book (book_in (effect_done choice place heard.effect d).doing)
record_does choice codes finished around place message old heard new d is here =
    read_then (is_read message) choice place codes around (taken_of codes finished place message old) old heard new d is here

-- ---- a worker's link failed, and a client's reply

pub failure_does : (place : ℕ) (failing : Failing) (x : Copier) → GoesWithin 0 1 x.copies.book (link_failed place failing x).0.copies.book
failure_does place fails.Nothing x = none x.copies.book x.copies.book refl
failure_does place (fails.Stops job told) x = stop_does (is_running x.copies.book.table (id_of job)) LinkFault job x.copies

pub hearing_does : (boot : ℕ) (hearing : Hearing) (x : Copier) → GoesWithin 0 0 x.copies.book (hearing_done boot hearing x).0.copies.book
hearing_does boot hears.Unmatched x = none x.copies.book x.copies.book refl
hearing_does boot (hears.Passed number accepted) x = none x.copies.book x.copies.book refl
hearing_does boot (hears.Done number seal) x = report_does (is_ended x.copies.book.table (id_of (job_name boot number))) (job_name boot number) x.copies
