-- What a destination's workers ask: where a worker awaits a size or bytes for a job, what its mount awaits at the worker's place is
-- the answer to the call that asks for them by the job's plan. Own definitions.
use Rattle.std.specs.Prelude.{◌≡◌, ℕ, if◌then◌else◌, length, Option, Some, None, option_map}
use Rattle.dest_laws.specs.Histories.Seen.{IsGiven}
use Rattle.dest_steps.specs.declared.copier.Copier.{Copier}
use Rattle.dest_tasks.specs.Posts.{post_at}
use Rattle.dest_tasks.specs.declared.post.Errand.{Errand}
use Rattle.dest_tasks.specs.declared.post.Errand.TheVariants as errands
use Rattle.dest_tasks.specs.declared.post.Post.{Post}
use Rattle.dest_tasks.specs.declared.post.Post.TheVariants.{Awaits, Holds, Idle}
use Rattle.dest_work.specs.Sending.{read_call, size_call}
use Rattle.dest_work.specs.Work.{plan_in}
use Rattle.dest_work.specs.declared.work.Work.{Work}
use Rattle.job_book.specs.Book.{named}
use Rattle.job_table.specs.Table.{JobTable}
use Rattle.job_table.specs.declared.job.Plan.{Plan}
use Rattle.mount.specs.Falling.{stays_for}
use Rattle.mount.specs.State.{Mounted, pending_at}
use Rattle.mount.specs.declared.state.Pending.{Pending}
use Rattle.mount.specs.declared.state.Pending.TheVariants.{Init, Under}
use Rattle.nfs_base.specs.declared.job.JobName.{JobName}
use Rattle.nfs_compound.specs.Compounds.{CompoundFits, compound_bytes}
use Rattle.nfs_compound.specs.declared.compound.Compound.{Compound}
use Rattle.session_calls.specs.Calls.{slot_compound}
use Rattle.session_calls.specs.declared.slot_call.SlotCall.{SlotCall}
use Rattle.session_calls.specs.declared.slot_call.SlotCall.TheVariants.{OnFile}
use Rattle.session_calls.specs.declared.slot_call.SlotUse.{SlotUse}
use Rattle.session_client.specs.declared.asked.Asked.{Asked}
use Rattle.session_client.specs.declared.asked.Asked.TheVariants as asks
use Rattle.wire_xdr.specs.Cursor.{IsBytes}

-- ---- what is awaited at a place: what was asked in a slot, or another call

abbrev pub asked_in : Pending → Option Asked
asked_in (Init init) = None
asked_in (Under context aim call) = if stays_for aim then Some call.asked else None

abbrev pub asked_at : Mounted → ℕ → Option (Option Asked)
asked_at m place = option_map asked_in (pending_at m place)

-- if anything is awaited, it is the answer to this call in a slot
abbrev pub Asks : Option (Option Asked) → SlotCall → Type 0
Asks awaited call = (asked : Option Asked) → awaited ≡ Some asked → (slot : SlotUse) × (asked ≡ Some (asks.Compound (slot_compound slot call)))

-- ---- what a worker's post says of its place, as long as its job is there; a chunk that is held has all its bytes

pub record AsksBy (t : JobTable) (job : JobName) (awaited : Option (Option Asked)) (call : Plan → SlotCall) : Type 0 where
  pub given : IsGiven t job
  pub asks : (plan : Plan) → plan_in (named t job) ≡ Some plan → Asks awaited (call plan)

abbrev pub size_asked : Plan → SlotCall
size_asked plan = OnFile plan.source size_call

abbrev pub IsErrand : JobTable → JobName → Option (Option Asked) → Errand → Type 0
IsErrand t job awaited errands.Setup = Unit {0}
IsErrand t job awaited errands.Confirm = Unit {0}
IsErrand t job awaited errands.Size = AsksBy t job awaited size_asked
IsErrand t job awaited (errands.Bytes chunk) = AsksBy t job awaited (λ plan. OnFile plan.source (read_call plan chunk))

abbrev pub IsPosted : JobTable → Option (Option Asked) → Post → Type 0
IsPosted t awaited Idle = Unit {0}
IsPosted t awaited (Awaits job errand) = IsErrand t job awaited errand
IsPosted t awaited (Holds job chunk bytes) = length bytes ≡ chunk.len

abbrev pub ArePostedIn : JobTable → Work → Type 0
ArePostedIn t w = (place : ℕ) → IsPosted t (asked_at w.mount place) (post_at w.workers place)

abbrev pub ArePosted : Copier → Type 0
ArePosted x = ArePostedIn x.copies.book.table x.work

-- what is asked in slots has a spelling
pub record IsSpelled (c : Compound) : Type 0 where
  pub are_bytes : IsBytes (compound_bytes c)
  pub fits : CompoundFits c

abbrev pub AreSpelled : Mounted → Type 0
AreSpelled m = (place : ℕ) (c : Compound) → asked_at m place ≡ Some (Some (asks.Compound c)) → IsSpelled c
