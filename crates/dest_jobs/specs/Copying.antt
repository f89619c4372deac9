-- COPY between servers. RFC 7862 sections 15.2 and 4.10.1.2.
use Rattle.std.specs.Prelude.{ℕ, ◌+◌, ◌-◌, ◌^◌, ◌||◌, Bool, true, false, not, nat_lt, Option, Some, None, List, [], ◌∷◌, is_none, if◌then◌else◌}
use Rattle.std.specs.List.{list_any}
use Rattle.copy_ops.specs.declared.args.CopyArgs.{CopyArgs}
use Rattle.copy_ops.specs.declared.results.CopyAnswer.{CopyAnswer}
use Rattle.copy_ops.specs.declared.results.CopyAnswer.TheVariants.{Done, NoReqs, Refused}
use Rattle.copy_ops.specs.declared.results.CopyDone.{CopyDone}
use Rattle.job_table.specs.declared.job.Plan.{Plan}
use Rattle.nfs_base.specs.Locations.{same_location}
use Rattle.nfs_base.specs.declared.job.JobName.{JobName}
use Rattle.nfs_base.specs.declared.net_loc.NetLoc.{NetLoc}
use Rattle.nfs_base.specs.declared.net_loc.NetLoc.TheVariants.{Name, Url, Addr}
use Rattle.nfs_base.specs.declared.state_id.StateId.{StateId}
use Rattle.nfs_base.specs.declared.state_id.TheConstants.StateId.{COPY_OFFLOAD}
use Rattle.nfs_base.specs.declared.status.Status.{Status}
use Rattle.nfs_base.specs.declared.status.TheConstants.Status.{DELAY, FBIG, INVAL, NOTSUPP, OFFLOAD_DENIED, PARTNER_NOTSUPP, PARTNER_NO_AUTH, UNION_NOTSUPP}
use Rattle.nfs_base.specs.declared.written.Stability.TheVariants.{Unstable}
use Rattle.outbox.specs.declared.note.Note.{Note}
use Rattle.outbox.specs.declared.note.Note.TheVariants as notes
use Rattle.wire_xdr.specs.Words.{hyper_bytes}
use Rattle.job_book.specs.Book.{accept_answer, after_accept}
use Rattle.dest_jobs.specs.Ending.{noted}
use Rattle.job_book.specs.declared.acceptance.Acceptance.{Acceptance}
use Rattle.job_book.specs.declared.acceptance.Acceptance.TheVariants.{Accepted, Overlap, Full, TooFar}
use Rattle.dest_jobs.specs.declared.carried.Carried.{Carried}
use Rattle.dest_jobs.specs.declared.copying.Ends.{Ends}
use Rattle.dest_jobs.specs.declared.copies.Copies.{Copies}
use Rattle.dest_jobs.specs.declared.copying.CopyRoom.{CopyRoom}

-- ---- the table of refusals: the first row that holds

unfoldable pub first_of : List (Option CopyAnswer) → Option CopyAnswer
first_of [] = None
first_of (Some answer ∷ rows) = Some answer
first_of (None ∷ rows) = first_of rows

abbrev pub refused_if : Bool → Status → Option CopyAnswer
refused_if holds status = if holds then Some (Refused status) else None

-- a place that an address names
abbrev pub is_address : NetLoc → Bool
is_address (Name name) = false
is_address (Url url) = false
is_address (Addr netid addr) = true

abbrev pub is_empty : List NetLoc → Bool
is_empty [] = true
is_empty (place ∷ places) = false

abbrev pub is_among : List NetLoc → NetLoc → Bool
is_among places place = list_any (λ p. same_location p place) places

-- the privilege of the context lets copy from this place
abbrev pub allows : Option Carried → NetLoc → Bool
allows None place = false
allows (Some carried) place = is_among carried.sources place

-- a copy that ends before its answer isn't offered
abbrev pub not_synchronous : Bool → Option CopyAnswer
not_synchronous true = Some (NoReqs true false)
not_synchronous false = None

abbrev pub refused_for : Option Status → Option CopyAnswer
refused_for None = None
refused_for (Some status) = Some (Refused status)

-- an offset and the count pass 2^64 - 1
abbrev pub passes_end : CopyArgs → Bool
passes_end args = nat_lt (2 ^ 64 - 1) (args.src_off + args.count) || nat_lt (2 ^ 64 - 1) (args.dst_off + args.count)

-- by the source that this server copies from, what the context carries, and why the destination's stateid doesn't let write
abbrev pub refusal : NetLoc → Option Carried → CopyArgs → Option Status → Option CopyAnswer
refusal source carry args closed = first_of (
    refused_if (is_none carry) PARTNER_NO_AUTH
    ∷ refused_if (is_empty args.sources) NOTSUPP
    ∷ refused_if (not (list_any is_address args.sources)) UNION_NOTSUPP
    ∷ refused_if (not (is_among args.sources source)) PARTNER_NOTSUPP
    ∷ refused_if (not (allows carry source)) PARTNER_NO_AUTH
    ∷ not_synchronous args.synchronous
    ∷ refused_for closed
    ∷ refused_if (passes_end args) INVAL ∷ [])

-- ---- what is left: it is taken as a job

abbrev pub plan_of : (client : ℕ) → CopyArgs → Ends → CopyRoom → Plan
plan_of client args ends room = record {
  client = client;
  file = ends.file;
  src_off = args.src_off;
  dst_off = args.dst_off;
  count = args.count;
  consecutive = args.consecutive;
  source = ends.source;
  src_id = args.src_id;
  secret = room.secret;
  user = room.user;
}

-- the stateid of a job
abbrev pub offload_id : JobName → StateId
offload_id name = record { seqid = 1; kind = COPY_OFFLOAD; boot = name.boot; number = name.number }

-- nothing is written yet
abbrev pub copy_begun : JobName → (boot : ℕ) → (consecutive : Bool) → CopyDone
copy_begun name boot consecutive = record {
  response = record { callback_id = Some (offload_id name); count = 0; committed = Unstable; verifier = hyper_bytes boot };
  consecutive = consecutive;
  synchronous = false;
}

abbrev pub copy_told : Acceptance → (boot : ℕ) → (consecutive : Bool) → CopyAnswer
copy_told (Accepted name) boot consecutive = Done (copy_begun name boot consecutive)
copy_told (Overlap name) boot consecutive = Refused OFFLOAD_DENIED
copy_told Full boot consecutive = Refused DELAY
copy_told TooFar boot consecutive = Refused FBIG

abbrev pub copy_noted : Acceptance → (file to count : ℕ) → List Note → List Note
copy_noted (Accepted name) file to count told = noted (notes.Accepted name file to count) told
copy_noted (Overlap name) file to count told = noted (notes.Overlap name) told
copy_noted Full file to count told = told
copy_noted TooFar file to count told = told

abbrev pub after_copy : Acceptance → Plan → Copies → Copies
after_copy answer plan x = record x { book = after_accept answer plan x.book; told = copy_noted answer plan.file plan.dst_off plan.count x.told }

-- ---- all of it

-- what is left of the destination, and the answer
abbrev pub decided : Option CopyAnswer → Plan → (boot : ℕ) → Copies → Copies × CopyAnswer
decided (Some answer) plan boot x = (x, answer)
decided None plan boot x =
    let accepted = accept_answer x.book.table plan in (after_copy accepted plan x, copy_told accepted boot plan.consecutive)

-- COPY between these files by a client
abbrev pub copied : (client : ℕ) → Option Carried → CopyArgs → Ends → CopyRoom → Option Status → (boot : ℕ) → Copies → Copies × CopyAnswer
copied client carry args ends room closed boot x =
    decided (refusal x.source.loc carry args closed) (plan_of client args ends room) boot x
