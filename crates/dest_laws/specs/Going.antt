-- What it wants that a call for a found task goes out.
use Rattle.std.specs.Prelude.{◌≡◌, ℕ, ◌+◌, ◌^◌, ◌<◌, ◌≤◌, Bool, true, false, length, IsSome, Option, Some, None}
use Rattle.copy_privs.specs.Forms.{privilege_spell}
use Rattle.dest_tasks.specs.Seats.{seat_of}
use Rattle.dest_work.specs.Sending.{privilege_of}
use Rattle.dest_work.specs.declared.work.Due.{Due}
use Rattle.dest_work.specs.declared.work.Due.TheVariants as dues
use Rattle.dest_work.specs.declared.work.Work.{Work}
use Rattle.gss_ctx.specs.Seals.{Mic}
use Rattle.job_book.specs.Book.{BookView, named}
use Rattle.job_book.specs.Working.{next_chunk}
use Rattle.job_log.specs.declared.chunk.Chunk.{Chunk}
use Rattle.job_table.specs.declared.job.Job.{Job}
use Rattle.mount.specs.State.{Mounted, child_name, context_of, root_context, root_name}
use Rattle.mount.specs.declared.state.Context.{Context}
use Rattle.nfs_base.specs.declared.job.JobName.{JobName}
use Rattle.nfs_base.specs.declared.limits.TheConstants.{NAME_LIMIT, PRIVILEGE_LIMIT}

abbrev pub is_rest : Due → Bool
is_rest dues.Rest = true
is_rest _ = false

-- a context that is there, whose numbers haven't run out
abbrev pub HasNext : Option Context → Type 0
HasNext None = ⊥
HasNext (Some c) = c.caller.next < 2 ^ 31

-- so is each that the mount has a name of
pub record CanCall (m : Mounted) : Type 0 where
  pub root : (name : ℕ) → root_name m.standing ≡ Some name → HasNext (context_of name m.contexts)
  pub children : (seat name : ℕ) → child_name m seat ≡ Some name → HasNext (context_of name m.contexts)

-- A job has a seat, its user's name and the privilege that confirms it aren't too long, and no chunk of it is behind the last
-- offset of the source's file.
pub record CanAsk (mic : Mic) (w : Work) (name : JobName) (job : Job) : Type 0 where
  pub seat : IsSome (seat_of name.number w.seats)
  pub user : length job.plan.user ≤ NAME_LIMIT
  pub privilege : (root : Context) → root_context w.mount ≡ Some root → length (privilege_spell (privilege_of mic root.key job.plan)) ≤ PRIVILEGE_LIMIT
  pub range : (chunk : Chunk) → next_chunk (Some job) ≡ Some chunk → job.plan.src_off + chunk.off < 2 ^ 64

abbrev pub CanAskAll : Mic → Work → BookView → Type 0
CanAskAll mic w b = (name : JobName) (job : Job) → named b.table name ≡ Some job → CanAsk mic w name job
