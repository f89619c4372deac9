-- What the source's answer to a worker's call is for the job (RFC 7862 section 4.10.1.2, RFC 5531 section 9). The causes are
-- own.
use Rattle.std.specs.Prelude.{ℕ, ◌+◌, ◌-◌, ◌==◌, ◌&&◌, not, nat_lt, Bool, true, false, List, length, if◌then◌else◌, Option, Some, None, Result, Ok, Err}
use Rattle.call_results.specs.Results.{at, told_bytes, told_size}
use Rattle.job_table.specs.declared.job.Plan.{Plan}
use Rattle.mount.specs.declared.taking.Told.{Told}
use Rattle.mount.specs.declared.taking.Told.TheVariants as tells
use Rattle.nfs_base.specs.declared.job.Stop.{Stop}
use Rattle.nfs_base.specs.declared.job.Stop.TheVariants.{NoRoom, PastEnd, SourceFailed, SourceRefused}
use Rattle.nfs_base.specs.declared.status.Status.{Status}
use Rattle.nfs_base.specs.declared.status.TheConstants.Status.{PARTNER_NO_AUTH}
use Rattle.nfs_compound.specs.declared.reply.Reply.{Reply}
use Rattle.nfs_compound.specs.declared.res.Res.{Res}
use Rattle.rpc_msg.specs.Heads.{stat_case}
use Rattle.wire_xdr.specs.Arms.{number_of}
use Rattle.rpc_msg.specs.declared.reply.Denial.{Denial}
use Rattle.rpc_msg.specs.declared.reply.Denial.TheVariants as denials
use Rattle.rpc_msg.specs.declared.numbers.TheConstants.{RPCSEC_GSS_CREDPROBLEM, SUCCESS}
use Rattle.dest_work.specs.declared.finding.Finding.{Finding}
use Rattle.dest_work.specs.declared.finding.Finding.TheVariants as findings
use Rattle.dest_tasks.specs.declared.post.Errand.{Errand}
use Rattle.dest_tasks.specs.declared.post.Errand.TheVariants as errands
use Rattle.dest_tasks.specs.Posts.{is_confirm}

-- ---- an answer with status 0

-- a result that doesn't tell what was asked counts as a failed call
abbrev pub sized_by : Option ℕ → Finding
sized_by None = findings.Stops (SourceFailed SUCCESS)
sized_by (Some size) = findings.HasSize size

-- so do more bytes than were asked for; fewer are past the file's end
abbrev pub brought : (asked : ℕ) → List ℕ → Finding
brought asked bytes =
    if nat_lt asked (length bytes) then findings.Stops (SourceFailed SUCCESS)
    else (if nat_lt (length bytes) asked then findings.Stops PastEnd else findings.Brings bytes)

abbrev pub brought_by : (asked : ℕ) → Option (List ℕ) → Finding
brought_by asked None = findings.Stops (SourceFailed SUCCESS)
brought_by asked (Some bytes) = brought asked bytes

abbrev pub answered : Errand → List Res → Finding
answered errands.Setup results = findings.GoesOn
answered errands.Confirm results = findings.GoesOn
answered errands.Size results = sized_by (at 2 told_size results)
answered (errands.Bytes chunk) results = brought_by chunk.len (at 2 told_bytes results)

-- ---- another answer

-- the status is what the client is told
abbrev pub by_status : Errand → Reply → Finding
by_status errand reply = if reply.status.number == 0 then answered errand reply.results else findings.Stops (SourceRefused reply.status)

-- the first time that the source doesn't know the context of a job's CREATE stops nothing: it may have started anew
abbrev pub is_unknown : Denial → Bool
is_unknown (denials.Auth number) = number == RPCSEC_GSS_CREDPROBLEM
is_unknown (denials.Mismatch low high) = false

abbrev pub denied_by : (first : Bool) → Finding
denied_by true = findings.FirstDenial
denied_by false = findings.Stops (SourceRefused PARTNER_NO_AUTH)

-- a call of the setup that was answered with status 0, by a result that doesn't tell what was asked, counts as failed too
abbrev pub refused_by : Status → Finding
refused_by status = if status.number == 0 then findings.Stops (SourceFailed SUCCESS) else findings.Stops (SourceRefused status)

abbrev pub finding_of : Errand → (denied : Bool) → Told → Finding
finding_of errand denied tells.Unmatched = findings.Unmatched
finding_of errand denied tells.Rooted = findings.GoesOn
finding_of errand denied (tells.Child child) = findings.GoesOn
finding_of errand denied (tells.Refused major) = findings.Stops (SourceRefused PARTNER_NO_AUTH)
finding_of errand denied tells.Stepped = findings.GoesOn
finding_of errand denied (tells.Stopped status) = refused_by status
finding_of errand denied (tells.Answer reply) = by_status errand reply
finding_of errand denied tells.Misspelt = findings.Stops (SourceFailed SUCCESS)
finding_of errand denied (tells.Failed stat) = findings.Stops (SourceFailed (number_of stat_case stat))
finding_of errand denied (tells.Denied why) = denied_by (is_confirm errand && (is_unknown why && not denied))

-- ---- the length of the range, once the size of the source's file is known: a count of 0 goes to its end

abbrev pub range_len : Plan → (size : ℕ) → ℕ
range_len plan size = if plan.count == 0 then size - plan.src_off else plan.count

-- a range that passes the source's end comes before one that passes the capacity here
abbrev pub len_of : Plan → (capacity size : ℕ) → Result ℕ Stop
len_of plan capacity size =
    if nat_lt size (plan.src_off + plan.count) then Err PastEnd
    else (if nat_lt capacity (plan.dst_off + range_len plan size) then Err NoRoom else Ok (range_len plan size))
