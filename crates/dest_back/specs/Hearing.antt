-- What a record is to the calls that await their answers (RFC 5531 section 9, RFC 7862 section 16.1).
use Rattle.std.specs.Prelude.{ℕ, zero, suc, ◌+◌, Bool, true, false, List, slice_index_or, Option, Some, None}
use Rattle.gss_ctx.specs.Replies.{checked_of}
use Rattle.gss_ctx.specs.Seals.{Mic}
use Rattle.gss_ctx.specs.declared.caller.Checked.{Checked}
use Rattle.gss_ctx.specs.declared.caller.Checked.TheVariants as checked
use Rattle.nfs_base.specs.declared.seal.Seal.{Seal}
use Rattle.nfs_compound.specs.Callbacks.{cb_reply}
use Rattle.nfs_compound.specs.declared.cb_reply.CbReply.{CbReply}
use Rattle.wire_xdr.specs.All.{value_of}
use Rattle.dest_tasks.specs.declared.seats.TheConstants.{SEATS}
use Rattle.dest_back.specs.Callbacks.{CallbackTable}
use Rattle.dest_back.specs.Compounds.{is_done}
use Rattle.dest_back.specs.declared.callbacks.Awaiting.{Awaiting}
use Rattle.dest_back.specs.declared.callbacks.Post.{Post}
use Rattle.dest_back.specs.declared.hearing.Hearing.{Hearing}
use Rattle.dest_back.specs.declared.hearing.Hearing.TheVariants as hears

-- ---- one call: a result that doesn't say that it was done, a failed call and a denial change nothing

abbrev pub by_done : (done : Bool) → (job : ℕ) → Seal → Hearing
by_done true job seal = hears.Done job seal
by_done false job seal = hears.Passed job (Some seal)

abbrev pub by_reply : (job : ℕ) → Seal → Option CbReply → Hearing
by_reply job seal None = hears.Passed job (Some seal)
by_reply job seal (Some reply) = by_done (is_done reply) job seal

abbrev pub by_checked : (job : ℕ) → Seal → Checked → Hearing
by_checked job seal (checked.Result body) = by_reply job seal (value_of cb_reply body)
by_checked job seal (checked.Failed stat) = hears.Passed job None
by_checked job seal (checked.Denied why) = hears.Passed job None
by_checked job seal checked.Unmatched = hears.Unmatched

abbrev pub heard_for : Mic → (message : List ℕ) → (job : ℕ) → Option Awaiting → Hearing
heard_for mic message job None = hears.Unmatched
heard_for mic message job (Some a) = by_checked job a.seal (checked_of mic a.key a.awaited message)

abbrev pub heard_at : Mic → (message : List ℕ) → Option Post → Hearing
heard_at mic message None = hears.Unmatched
heard_at mic message (Some post) = heard_for mic message post.job post.awaiting

-- ---- the first of all whose reply it is

abbrev pub or_heard : Hearing → Hearing → Hearing
or_heard hears.Unmatched more = more
or_heard (hears.Passed job accepted) more = hears.Passed job accepted
or_heard (hears.Done job seal) more = hears.Done job seal

unfoldable pub heard_from : Mic → (message : List ℕ) → List (Option Post) → (left seat : ℕ) → Hearing
heard_from mic message posts zero seat = hears.Unmatched
heard_from mic message posts (suc left) seat =
    or_heard (heard_at mic message (slice_index_or posts seat None)) (heard_from mic message posts left (seat + 1))

abbrev pub heard : Mic → (message : List ℕ) → CallbackTable → Hearing
heard mic message c = heard_from mic message c.posts SEATS 0
