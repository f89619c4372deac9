-- What a caller takes for the answer to its call (RFC 5531 section 9, RFC 2203 section 5.3.3, RFC 8881 section 16.2).
use Rattle.std.specs.Prelude.{ℕ, ◌==◌, if◌then◌else◌, List, length, Option, Some, None}
use Rattle.wire_xdr.specs.All.{value_of}
use Rattle.nfs_compound.specs.declared.op.Op.{Op}
use Rattle.nfs_compound.specs.declared.reply.Reply.{Reply}
use Rattle.nfs_compound.specs.Results.{reply}
use Rattle.gss_ctx.specs.declared.caller.Awaited.{Awaited}
use Rattle.gss_ctx.specs.declared.caller.Checked.{Checked}
use Rattle.gss_ctx.specs.declared.caller.Checked.TheVariants as checked
use Rattle.gss_ctx.specs.declared.create.CreateResult.{CreateResult}
use Rattle.gss_ctx.specs.Forms.{create_result}
use Rattle.gss_ctx.specs.Replies.{checked_of}
use Rattle.gss_ctx.specs.Seals.{Mic}
use Rattle.session_calls.specs.Answers.{is_answer}
use Rattle.session_client.specs.declared.answers.Taken.{Taken}
use Rattle.session_client.specs.declared.answers.Taken.TheVariants as taken
use Rattle.session_client.specs.declared.answers.TakenChild.{TakenChild}
use Rattle.session_client.specs.declared.answers.TakenChild.TheVariants as children

-- ---- the answer to a compound: a result that isn't an answer to it counts as a failed call

abbrev pub answer_to : List Op → Option Reply → Taken
answer_to ops None = taken.Misspelt
answer_to ops (Some reply) = if is_answer ops reply then taken.Answer reply else taken.Misspelt

abbrev pub taken_by : List Op → Checked → Taken
taken_by ops (checked.Result body) = answer_to ops (value_of reply body)
taken_by ops (checked.Failed stat) = taken.Failed stat
taken_by ops (checked.Denied why) = taken.Denied why
taken_by ops checked.Unmatched = taken.Unmatched

unfoldable pub taken_of : Mic → List ℕ → Awaited → List Op → List ℕ → Taken
taken_of mic key awaited ops message = taken_by ops (checked_of mic key awaited message)

-- ---- the answer to CREATE: a child's handle has 8 bytes

abbrev pub child_in : Option CreateResult → TakenChild
child_in None = children.Misspelt
child_in (Some made) =
    if made.major == 0
    then (if length made.handle == 8 then children.Made made.handle else children.Misspelt)
    else children.Refused made.major

abbrev pub child_by : Checked → TakenChild
child_by (checked.Result body) = child_in (value_of create_result body)
child_by (checked.Failed stat) = children.Failed stat
child_by (checked.Denied why) = children.Denied why
child_by checked.Unmatched = children.Unmatched

unfoldable pub child_of : Mic → List ℕ → Awaited → List ℕ → TakenChild
child_of mic key awaited message = child_by (checked_of mic key awaited message)
