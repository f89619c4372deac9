-- What is done in a worker's turn, and by what an answer is, to the workers' posts: a worker that held a chunk is idle, or holds it
-- again; and one that awaited an answer is idle, or holds the bytes that it brought.
use Rattle.std.proofs.Common.{◌≡◌, ◌⊎◌, inl, inr, ℕ, Bool, true, false, List, length, Option, Some, None, refl, sym, ap, subst}
use Rattle.block_file.specs.declared.faults.ReadFault.{ReadFault}
use Rattle.block_file.specs.declared.faults.WriteFault.{WriteFault}
use Rattle.dest_laws.proofs.landings.Places.{Fewer}
use Rattle.dest_laws.proofs.landings.Posts.{Has, put_has, settled_has, work_fewer, work_settled}
use Rattle.dest_laws.specs.Landings.Posted.{ArePostedIn, IsPosted, asked_at}
use Rattle.dest_steps.specs.Landing.{Doing, landed, landed_by, target, target_file, with_write, written, written_if, written_where}
use Rattle.dest_steps.specs.Replying.{effect_done, mounted}
use Rattle.dest_steps.specs.Working.{commit_done, commit_if, commit_in, held_landed, may_commit, turn_made, with_commit, without_post}
use Rattle.dest_steps.specs.declared.copier.Copier.{Copier}
use Rattle.dest_steps.specs.declared.landing.Landing.{Landing}
use Rattle.dest_steps.specs.declared.replying.Effect.{Effect}
use Rattle.dest_steps.specs.declared.replying.Effect.TheVariants as effects
use Rattle.dest_steps.specs.declared.turning.Committing.{Committing}
use Rattle.dest_steps.specs.declared.turning.Turn.TheVariants as turns
use Rattle.dest_steps.specs.declared.turning.Turn.{Turn}
use Rattle.dest_tasks.specs.Posts.{post_at, put_at}
use Rattle.dest_tasks.specs.declared.post.Post.{Post}
use Rattle.dest_tasks.specs.declared.post.Post.TheVariants.{Awaits, Holds, Idle}
use Rattle.dest_work.specs.Work.{with_mount}
use Rattle.dest_work.specs.declared.work.Work.{Work}
use Rattle.job_book.specs.Book.{id_of, named}
use Rattle.job_log.specs.declared.chunk.Chunk.{Chunk}
use Rattle.job_log.specs.declared.chunk.Landing.{Landing as Takes}
use Rattle.job_log.specs.declared.chunk.Landing.TheVariants as takes
use Rattle.job_table.specs.Table.{JobTable, table_landing}
use Rattle.mount.specs.State.{Mounted}
use Rattle.nfs_base.specs.declared.job.JobName.{JobName}
use Rattle.server_volume.specs.Calls.{Called, commit_call, write_call}
use Rattle.server_volume.specs.Choices.{Choice}

abbrev pub work_in : Doing → Work
work_in d = d.copier.work

abbrev pub with_post : (place : ℕ) → Post → Work → Work
with_post place post w = record w { workers = put_at place post w.workers }

-- ---- a chunk lands, or waits

abbrev pub Waits : ℕ → JobName → Chunk → List ℕ → Doing → Work → Type 0
Waits place job chunk bytes d v =
    (v ≡ work_in d) ⊎ ((table_landing d.copier.copies.book.table (id_of job) chunk ≡ takes.Held) × (v ≡ with_post place (Holds job chunk bytes) (work_in d)))

written_work : (job : JobName) (chunk : Chunk) (told : Landing) (fault : Option WriteFault) (d : Doing) → work_in (written job chunk told fault d).doing ≡ work_in d
written_work job chunk told None d = refl
written_work job chunk told (Some fault) d = refl

called_work : (job : JobName) (chunk : Chunk) (told : Landing) (c : Called WriteFault) (d : Doing) → work_in (written job chunk told c.fault (with_write c d)).doing ≡ work_in d
called_work job chunk told c d = written_work job chunk told c.fault (with_write c d)

where_work : (choice : Choice) (job : JobName) (chunk : Chunk) (bytes : List ℕ) (told : Landing) (place : Option (ℕ × ℕ)) (d : Doing)
    → work_in (written_where choice job chunk bytes told place d).doing ≡ work_in d
where_work choice job chunk bytes told None d = refl
where_work choice job chunk bytes told (Some place) d = called_work job chunk told (write_call choice d.used d.store place.0 place.1 bytes) d

if_work : (choice : Choice) (job : JobName) (chunk : Chunk) (bytes : List ℕ) (told : Option Landing) (d : Doing)
    → work_in (written_if choice job chunk bytes told d).doing ≡ work_in d
if_work choice job chunk bytes None d = refl
if_work choice job chunk bytes (Some told) d =
    where_work choice job chunk bytes told (target d.store chunk (length bytes) (named d.copier.copies.book.table job)) d

landed_work : (l : Takes) (choice : Choice) (place : ℕ) (job : JobName) (chunk : Chunk) (bytes : List ℕ) (told : Option Landing) (d : Doing)
    → table_landing d.copier.copies.book.table (id_of job) chunk ≡ l → Waits place job chunk bytes d (work_in (landed_by l choice place job chunk bytes told d).doing)
landed_work takes.Late choice place job chunk bytes told d is = inl refl
landed_work takes.Held choice place job chunk bytes told d is = inr (is, refl)
landed_work takes.Landed choice place job chunk bytes told d is = inl (if_work choice job chunk bytes told d)

pub lands_work : (choice : Choice) (place : ℕ) (job : JobName) (chunk : Chunk) (bytes : List ℕ) (told : Option Landing) (d : Doing)
    → Waits place job chunk bytes d (work_in (landed choice place job chunk bytes told d).doing)
lands_work choice place job chunk bytes told d =
    landed_work (table_landing d.copier.copies.book.table (id_of job) chunk) choice place job chunk bytes told d refl

-- ---- a turn is made

pub record HoldsAgain (place : ℕ) (w v : Work) : Type 0 where
  pub job : JobName
  pub chunk : Chunk
  pub bytes : List ℕ
  pub post : post_at w.workers place ≡ Holds job chunk bytes
  pub is : v ≡ with_post place (Holds job chunk bytes) (with_post place Idle w)

abbrev pub Turned : ℕ → Work → Work → Type 0
Turned place w v = (v ≡ w) ⊎ ((v ≡ with_post place Idle w) ⊎ HoldsAgain place w v)

held_work : (choice : Choice) (place : ℕ) (told : Option Landing) (post : Post) (d : Doing) → post_at (work_in d).workers place ≡ post
    → Turned place (work_in d) (work_in (held_landed choice place told post d).doing)
held_work choice place told Idle d is = inr (inl refl)
held_work choice place told (Awaits job errand) d is = inl refl
held_work choice place told (Holds job chunk bytes) d is =
    elim (lands_work choice place job chunk bytes told (without_post place d)) [
      | inl same ↦ inr (inl same)
      | inr waits ↦ inr (inr (record { job = job; chunk = chunk; bytes = bytes; post = is; is = waits.1 }))
    ]

done_work : (job : JobName) (told : Committing) (fault : Option ReadFault) (d : Doing) → work_in (commit_done job told fault d).doing ≡ work_in d
done_work job told None d = refl
done_work job told (Some fault) d = refl

commit_called : (job : JobName) (told : Committing) (c : Called ReadFault) (d : Doing) → work_in (commit_done job told c.fault (with_commit c d)).doing ≡ work_in d
commit_called job told c d = done_work job told c.fault (with_commit c d)

commit_work : (choice : Choice) (job : JobName) (told : Committing) (file : Option ℕ) (d : Doing) → work_in (commit_in choice job told file d).doing ≡ work_in d
commit_work choice job told None d = refl
commit_work choice job told (Some file) d = commit_called job told (commit_call choice d.used d.store file) d

may_work : (may : Bool) (choice : Choice) (job : JobName) (told : Committing) (d : Doing) → work_in (commit_if may choice job told d).doing ≡ work_in d
may_work false choice job told d = refl
may_work true choice job told d = commit_work choice job told (target_file d.store (named d.copier.copies.book.table job)) d

pub turn_work : (choice : Choice) (place : ℕ) (turn : Turn) (d : Doing) → Turned place (work_in d) (work_in (turn_made choice place turn d).doing)
turn_work choice place turns.Rest d = inl refl
turn_work choice place turns.Undrawn d = inl refl
turn_work choice place (turns.Sent call) d = inl refl
turn_work choice place (turns.Stops job cause told) d = inl refl
turn_work choice place (turns.Lands told) d = held_work choice place told (post_at d.copier.work.workers place) d refl
turn_work choice place (turns.Commits job told) d = inl (may_work (may_commit job d.copier) choice job told d)

pub turned_has : (P : ℕ → Post → Type 0) (idle : (p : ℕ) → P p Idle) (place : ℕ) (w v : Work) → Turned place w v → Has P idle w.workers → Has P idle v.workers
turned_has P idle place w v (inl same) has = subst (λ (x : Work). Has P idle x.workers) (sym same) has
turned_has P idle place w v (inr (inl gone)) has = subst (λ (x : Work). Has P idle x.workers) (sym gone) (put_has P idle place Idle w.workers has (idle place))
turned_has P idle place w v (inr (inr again)) has =
    let here = subst (P place) again.post (has place) in
    subst (λ (x : Work). Has P idle x.workers) (sym again.is)
    (put_has P idle place (Holds again.job again.chunk again.bytes) (put_at place Idle w.workers) (put_has P idle place Idle w.workers has (idle place)) here)

turned_mount : (place : ℕ) (w v : Work) → Turned place w v → v.mount ≡ w.mount
turned_mount place w v (inl same) = ap (λ (x : Work). x.mount) same
turned_mount place w v (inr (inl gone)) = ap (λ (x : Work). x.mount) gone
turned_mount place w v (inr (inr again)) = ap (λ (x : Work). x.mount) again.is

pub turned_posted : (t : JobTable) (place : ℕ) (w v : Work) → Turned place w v → ArePostedIn t w → ArePostedIn t v
turned_posted t place w v turned posted =
    subst (λ (m : Mounted). (p : ℕ) → IsPosted t (asked_at m p) (post_at v.workers p)) (sym (turned_mount place w v turned))
    (turned_has (λ p post. IsPosted t (asked_at w.mount p) post) (λ p. tt) place w v turned posted)

-- ---- what an answer does

-- what of a chunk that is brought holds, if it waits
abbrev pub IfWaits : Effect → Copier → (JobName → Chunk → List ℕ → Type 0) → Type 0
IfWaits (effects.Lands job chunk bytes told m) x P = table_landing x.copies.book.table (id_of job) chunk ≡ takes.Held → P job chunk bytes
IfWaits _ x P = Unit {0}

-- the mount afterwards
abbrev pub IfMounts : Effect → (Mounted → Type 0) → Type 0
IfMounts (effects.Drops why) P = Unit {0}
IfMounts (effects.Goes m) P = P m
IfMounts (effects.Denied job m) P = P m
IfMounts (effects.Stops job cause told m) P = P m
IfMounts (effects.Lands job chunk bytes told m) P = P m

waits_has : (P : ℕ → Post → Type 0) (idle : (p : ℕ) → P p Idle) (place : ℕ) (job : JobName) (chunk : Chunk) (bytes : List ℕ) (d : Doing) (v : Work)
    → Waits place job chunk bytes d v → (table_landing d.copier.copies.book.table (id_of job) chunk ≡ takes.Held → P place (Holds job chunk bytes))
    → Has P idle (work_in d).workers → Has P idle v.workers
waits_has P idle place job chunk bytes d v (inl same) holds has = subst (λ (x : Work). Has P idle x.workers) (sym same) has
waits_has P idle place job chunk bytes d v (inr waits) holds has =
    subst (λ (x : Work). Has P idle x.workers) (sym waits.1) (put_has P idle place (Holds job chunk bytes) (work_in d).workers has (holds waits.0))

pub effect_has : (P : ℕ → Post → Type 0) (idle : (p : ℕ) → P p Idle) (choice : Choice) (place : ℕ) (effect : Effect) (d : Doing)
    → IfWaits effect d.copier (λ job chunk bytes. P place (Holds job chunk bytes)) → Has P idle (work_in d).workers
    → Has P idle (work_in (effect_done choice place effect d).doing).workers
effect_has P idle choice place (effects.Drops why) d holds has = has
effect_has P idle choice place (effects.Goes m) d holds has = settled_has P idle (with_mount m d.copier.work) has
effect_has P idle choice place (effects.Denied job m) d holds has = settled_has P idle (with_mount m d.copier.work) has
effect_has P idle choice place (effects.Stops job cause told m) d holds has = settled_has P idle (with_mount m d.copier.work) has
effect_has P idle choice place (effects.Lands job chunk bytes told m) d holds has =
    let e : Doing = record d { copier = mounted m d.copier } in
    waits_has P idle place job chunk bytes e (work_in (landed choice place job chunk bytes told e).doing) (lands_work choice place job chunk bytes told e) holds
    (settled_has P idle (with_mount m d.copier.work) has)

waits_mount : (place : ℕ) (job : JobName) (chunk : Chunk) (bytes : List ℕ) (d : Doing) (v : Work) → Waits place job chunk bytes d v → v.mount ≡ (work_in d).mount
waits_mount place job chunk bytes d v (inl same) = ap (λ (x : Work). x.mount) same
waits_mount place job chunk bytes d v (inr waits) = ap (λ (x : Work). x.mount) waits.1

waits_posted : (t : JobTable) (place : ℕ) (job : JobName) (chunk : Chunk) (bytes : List ℕ) (d : Doing) (v : Work) → Waits place job chunk bytes d v
    → (table_landing d.copier.copies.book.table (id_of job) chunk ≡ takes.Held → length bytes ≡ chunk.len) → ArePostedIn t (work_in d) → ArePostedIn t v
waits_posted t place job chunk bytes d v waits whole posted =
    subst (λ (m : Mounted). (p : ℕ) → IsPosted t (asked_at m p) (post_at v.workers p)) (sym (waits_mount place job chunk bytes d v waits))
    (waits_has (λ p post. IsPosted t (asked_at (work_in d).mount p) post) (λ p. tt) place job chunk bytes d v waits whole posted)

pub effect_posted : (t : JobTable) (choice : Choice) (place : ℕ) (effect : Effect) (d : Doing) → IfMounts effect (Fewer d.copier.work.mount)
    → IfWaits effect d.copier (λ job chunk bytes. length bytes ≡ chunk.len) → ArePostedIn t (work_in d)
    → ArePostedIn t (work_in (effect_done choice place effect d).doing)
effect_posted t choice place (effects.Drops why) d less whole posted = posted
effect_posted t choice place (effects.Goes m) d less whole posted = work_settled t (with_mount m d.copier.work) (work_fewer t d.copier.work m less posted)
effect_posted t choice place (effects.Denied job m) d less whole posted = work_settled t (with_mount m d.copier.work) (work_fewer t d.copier.work m less posted)
effect_posted t choice place (effects.Stops job cause told m) d less whole posted = work_settled t (with_mount m d.copier.work) (work_fewer t d.copier.work m less posted)
effect_posted t choice place (effects.Lands job chunk bytes told m) d less whole posted =
    let e : Doing = record d { copier = mounted m d.copier } in
    waits_posted t place job chunk bytes e (work_in (landed choice place job chunk bytes told e).doing) (lands_work choice place job chunk bytes told e) whole
    (work_settled t (with_mount m d.copier.work) (work_fewer t d.copier.work m less posted))
