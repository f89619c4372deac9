-- The number of an opening of the destination's volume stays in each of its steps.
use Rattle.std.proofs.Common.{◌≡◌, ◌∙◌, ℕ, Bool, true, false, List, [], ◌∷◌, length, Option, Some, None, refl, ap}
use Rattle.std.specs.Prelude.{max}
use Rattle.block_file.specs.declared.faults.ReadFault.{ReadFault}
use Rattle.block_file.specs.declared.faults.WriteFault.{WriteFault}
use Rattle.copy_model.specs.Volume.{Volume, write}
use Rattle.dest_core.specs.Core.{dest_rules}
use Rattle.dest_core.specs.Stepping.{DestState, DestStep, IsRecord, IsRecordBy, IsReply, IsWork, doing_in, second_in, with_copier, without_lapsed}
use Rattle.dest_steps.specs.Copier.{Codes}
use Rattle.dest_steps.specs.Landing as landings
use Rattle.dest_steps.specs.Landing.{Doing, Done as DoneTo, landed}
use Rattle.dest_steps.specs.Replying.{effect_done, mounted}
use Rattle.dest_steps.specs.Working as workings
use Rattle.dest_steps.specs.declared.landing.Landing.{Landing}
use Rattle.dest_steps.specs.declared.replying.Effect.{Effect}
use Rattle.dest_steps.specs.declared.replying.Effect.TheVariants as effects
use Rattle.dest_steps.specs.declared.turning.Committing.{Committing}
use Rattle.dest_steps.specs.declared.turning.Turn.{Turn}
use Rattle.dest_steps.specs.declared.turning.Turn.TheVariants as turns
use Rattle.dest_tasks.specs.Posts.{post_at}
use Rattle.dest_tasks.specs.declared.post.Post.{Post}
use Rattle.dest_tasks.specs.declared.post.Post.TheVariants.{Awaits, Holds, Idle}
use Rattle.gss_mech.specs.declared.mechanism.Accepted.{Accepted}
use Rattle.job_book.specs.Book.{id_of, named}
use Rattle.job_log.specs.declared.chunk.Chunk.{Chunk}
use Rattle.job_log.specs.declared.chunk.Landing.{Landing as TakesIt}
use Rattle.job_log.specs.declared.chunk.Landing.TheVariants as takes
use Rattle.job_table.specs.Table.{table_landing}
use Rattle.nfs_base.specs.declared.job.JobName.{JobName}
use Rattle.rpc_calls.specs.Judging.{judged_of}
use Rattle.rpc_calls.specs.declared.call.Judged.{Judged}
use Rattle.rpc_calls.specs.declared.call.Judged.TheVariants as judged
use Rattle.rpc_calls.specs.declared.call.TheConstants.Program as programs
use Rattle.server_volume.specs.Calls.{Called, Commits, Writes, called, commit_call, write_call}
use Rattle.server_volume.specs.Choices.{Choice, Fate, Failed, Went, choice_of}
use Rattle.server_volume.specs.Store.{Store}
use Rattle.server_volume.specs.declared.used.Used.{Used}
use Rattle.session_server.specs.Host as hosts
use Rattle.session_server.specs.Steps.{IsJudgedTurn, IsTurn}
use Rattle.streams.specs.declared.draws.Drawn.{Drawn}

-- ---- calls on the volume

abbrev pub boot_in : Store → ℕ
boot_in s = s.volume.boot

write_boot : (v : Volume) (file off : ℕ) (bytes : List ℕ) → (write v file off bytes).boot ≡ v.boot
write_boot v file off [] = refl
write_boot v file off (b ∷ bs) = refl

write_called : (o : Option WriteFault) (fails : WriteFault) (fate : Fate) (file off : ℕ) (bytes : List ℕ) (used : List Used) (s : Store)
    → boot_in (called o fails fate (Writes file off bytes) used s).store ≡ boot_in s
write_called (Some fault) fails fate file off bytes used s = refl
write_called None fails Went file off bytes used s = write_boot s.volume file off bytes
write_called None fails Failed file off bytes used s = refl

commit_called : (o : Option ReadFault) (fails : ReadFault) (fate : Fate) (file : ℕ) (used : List Used) (s : Store)
    → boot_in (called o fails fate (Commits file) used s).store ≡ boot_in s
commit_called (Some fault) fails fate file used s = refl
commit_called None fails Went file used s = refl
commit_called None fails Failed file used s = refl

write_keeps : (choice : Choice) (used : List Used) (s : Store) (file off : ℕ) (bytes : List ℕ) → boot_in (write_call choice used s file off bytes).store ≡ boot_in s
unfolding write_call
write_keeps choice used s file off bytes = write_called _ _ _ file off bytes used s

commit_keeps : (choice : Choice) (used : List Used) (s : Store) (file : ℕ) → boot_in (commit_call choice used s file).store ≡ boot_in s
unfolding commit_call
commit_keeps choice used s file = commit_called _ _ _ file used s

-- ---- what is done

abbrev pub Stays : Doing → DoneTo → Type 0
Stays d done = boot_in done.doing.store ≡ boot_in d.store

written_stays : (job : JobName) (chunk : Chunk) (told : Landing) (d : Doing) (c : Called WriteFault) → boot_in c.store ≡ boot_in d.store → (o : Option WriteFault)
    → Stays d (landings.written job chunk told o (landings.with_write c d))
written_stays job chunk told d c boot None = boot
written_stays job chunk told d c boot (Some why) = boot

where_stays : (choice : Choice) (job : JobName) (chunk : Chunk) (bytes : List ℕ) (told : Landing) (d : Doing) (o : Option (ℕ × ℕ))
    → Stays d (landings.written_where choice job chunk bytes told o d)
where_stays choice job chunk bytes told d None = refl
where_stays choice job chunk bytes told d (Some place) =
    let c = write_call choice d.used d.store place.0 place.1 bytes in
    written_stays job chunk told d c (write_keeps choice d.used d.store place.0 place.1 bytes) c.fault

if_stays : (choice : Choice) (job : JobName) (chunk : Chunk) (bytes : List ℕ) (d : Doing) (told : Option Landing)
    → Stays d (landings.written_if choice job chunk bytes told d)
if_stays choice job chunk bytes d None = refl
if_stays choice job chunk bytes d (Some told) =
    where_stays choice job chunk bytes told d (landings.target d.store chunk (length bytes) (named d.copier.copies.book.table job))

landed_by_stays : (t : TakesIt) (choice : Choice) (place : ℕ) (job : JobName) (chunk : Chunk) (bytes : List ℕ) (told : Option Landing) (d : Doing)
    → Stays d (landings.landed_by t choice place job chunk bytes told d)
landed_by_stays takes.Late choice place job chunk bytes told d = refl
landed_by_stays takes.Held choice place job chunk bytes told d = refl
landed_by_stays takes.Landed choice place job chunk bytes told d = if_stays choice job chunk bytes d told

landed_stays : (choice : Choice) (place : ℕ) (job : JobName) (chunk : Chunk) (bytes : List ℕ) (told : Option Landing) (d : Doing)
    → Stays d (landed choice place job chunk bytes told d)
landed_stays choice place job chunk bytes told d =
    landed_by_stays (table_landing d.copier.copies.book.table (id_of job) chunk) choice place job chunk bytes told d

held_stays : (choice : Choice) (place : ℕ) (told : Option Landing) (d : Doing) (post : Post) → Stays d (workings.held_landed choice place told post d)
held_stays choice place told d Idle = refl
held_stays choice place told d (Awaits job errand) = refl
held_stays choice place told d (Holds job chunk bytes) = landed_stays choice place job chunk bytes told (workings.without_post place d)

commit_stays : (job : JobName) (told : Committing) (d : Doing) (c : Called ReadFault) → boot_in c.store ≡ boot_in d.store → (o : Option ReadFault)
    → Stays d (workings.commit_done job told o (workings.with_commit c d))
commit_stays job told d c boot None = boot
commit_stays job told d c boot (Some why) = boot

commit_in_stays : (choice : Choice) (job : JobName) (told : Committing) (d : Doing) (o : Option ℕ) → Stays d (workings.commit_in choice job told o d)
commit_in_stays choice job told d None = refl
commit_in_stays choice job told d (Some file) =
    let c = commit_call choice d.used d.store file in commit_stays job told d c (commit_keeps choice d.used d.store file) c.fault

committed_stays : (choice : Choice) (job : JobName) (told : Committing) (d : Doing) (may : Bool) → Stays d (workings.commit_if may choice job told d)
committed_stays choice job told d false = refl
committed_stays choice job told d true = commit_in_stays choice job told d (landings.target_file d.store (named d.copier.copies.book.table job))

pub made_stays : (choice : Choice) (place : ℕ) (turn : Turn) (d : Doing) → Stays d (workings.turn_made choice place turn d)
made_stays choice place turns.Rest d = refl
made_stays choice place turns.Undrawn d = refl
made_stays choice place (turns.Sent call) d = refl
made_stays choice place (turns.Stops job cause told) d = refl
made_stays choice place (turns.Lands told) d = held_stays choice place told d (post_at d.copier.work.workers place)
made_stays choice place (turns.Commits job told) d = committed_stays choice job told d (workings.may_commit job d.copier)

pub effect_stays : (choice : Choice) (place : ℕ) (effect : Effect) (d : Doing) → Stays d (effect_done choice place effect d)
effect_stays choice place (effects.Drops why) d = refl
effect_stays choice place (effects.Goes m) d = refl
effect_stays choice place (effects.Denied job m) d = refl
effect_stays choice place (effects.Stops job cause told m) d = refl
effect_stays choice place (effects.Lands job chunk bytes told m) d = landed_stays choice place job chunk bytes told (landings.with_copier (mounted m d.copier) d)

-- ---- steps

abbrev pub boot_of : {M : Type 0} → DestState M → ℕ
boot_of s = s.state.machine.store.volume.boot

abbrev pub left_boot_of : {M : Type 0} → DestStep M → ℕ
left_boot_of t = boot_of t.host

-- a record that is no reply to a callback is taken as at every server
abbrev pub TurnsKeep : (M : Type 0) → hosts.Codes → (List ℕ → List ℕ → Option Accepted) → (W : Type 0) → (W → Drawn → W → Type 0) → Type 0
TurnsKeep M codes accepted W gives =
    (conn : ℕ) (message : List ℕ) (now : ℕ) (s : DestState M) (before after : W) (t : DestStep M)
    → IsTurn dest_rules codes accepted gives conn message now s before after t → boot_of t.host ≡ boot_of s

module _ {M : Type 0} where
  pub work_boot : {W : Type 0} (gives : W → Drawn → W → Type 0) (started : List ℕ → List ℕ → Option (List ℕ)) (codes : Codes) (place now : ℕ) (s : DestState M)
      (before after : W) (t : DestStep M) → IsWork gives started codes place now s before after t → boot_of t.host ≡ boot_of s
  work_boot gives started codes place now s before after t d =
      ap left_boot_of (d.is (choice_of t.out.used) (λ n below. refl)) ∙ made_stays (choice_of t.out.used) place d.turn (doing_in (without_lapsed (second_in now (with_copier d.copier s))))

  pub reply_boot : (codes : Codes) (finish : List ℕ → List ℕ → Option (List ℕ)) (place : ℕ) (message : List ℕ) (now : ℕ) (s : DestState M) (t : DestStep M)
      → IsReply codes finish place message now s t → boot_of t.host ≡ boot_of s
  reply_boot codes finish place message now s t d =
      ap left_boot_of (d.is (choice_of t.out.used) (λ n below. refl)) ∙ effect_stays (choice_of t.out.used) place d.heard.effect (doing_in (second_in now (with_copier d.copier s)))

  module _ {W : Type 0} (codes : hosts.Codes) (accepted : List ℕ → List ℕ → Option Accepted) (gives : W → Drawn → W → Type 0)
      (keeps : TurnsKeep M codes accepted W gives) (conn : ℕ) (message : List ℕ) (now : ℕ) (s : DestState M) (before after : W) (t : DestStep M) where
    by_judged : (j : Judged) → (IsJudgedTurn j dest_rules codes accepted gives (max s.second now) conn s before after t → boot_of t.host ≡ boot_of s)
        → IsRecordBy j codes accepted gives conn message now s before after t → boot_of t.host ≡ boot_of s
    by_judged judged.Reply turned d = ap left_boot_of d.is
    by_judged judged.Unread turned d = turned d
    by_judged (judged.Call call) turned d = turned d

    pub record_boot : IsRecord codes accepted gives conn message now s before after t → boot_of t.host ≡ boot_of s
    record_boot d =
        by_judged (judged_of codes.mic (max s.second now) programs.NFS message s.contexts) (λ turn. keeps conn message now s before after t turn) d
