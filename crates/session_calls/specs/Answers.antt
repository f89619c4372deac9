-- Which replies answer a call (RFC 8881 section 16.2): the results are those of a front of its operations, each with
-- status 0 but the last; the reply's status is the last one's, and no operation is left out where that is 0. A reply
-- without results has another status than 0.
use Rattle.std.specs.Prelude.{ℕ, ◌==◌, ◌&&◌, not, Bool, true, false, List, [], ◌∷◌, length, if◌then◌else◌}
use Rattle.nfs_base.specs.declared.answer.Answer.{Answer}
use Rattle.nfs_base.specs.declared.answer.Answer.TheVariants.{Done, Refused}
use Rattle.file_ops.specs.declared.args.FileArg.{FileArg}
use Rattle.file_ops.specs.declared.args.FileArg.TheVariants as files
use Rattle.file_ops.specs.declared.files.Attributes.{Attributes}
use Rattle.file_ops.specs.declared.results.FileRes.{FileRes}
use Rattle.file_ops.specs.declared.results.FileRes.TheVariants as results
use Rattle.nfs_compound.specs.declared.op.Op.{Op}
use Rattle.nfs_compound.specs.declared.op.Op.TheVariants as called
use Rattle.nfs_compound.specs.declared.reply.Reply.{Reply}
use Rattle.nfs_compound.specs.declared.res.Res.{Res}
use Rattle.nfs_compound.specs.declared.res.Res.TheVariants as answers
use Rattle.nfs_compound.specs.Ops.{op_number}
use Rattle.nfs_compound.specs.Results.{res_number, res_status}
use Rattle.file_ops.specs.declared.files.TheConstants.{ATTR_CHANGE}
use Rattle.session_calls.specs.declared.answer.TheConstants.{ATTRS_CHANGE_AND_SIZE}

-- ---- a result of GETATTR (section 18.7): the attributes are those that were asked for, with their bytes

-- how many bytes the values have of what these ends ask for
abbrev pub values_size : ℕ → ℕ
values_size mask = if mask == ATTR_CHANGE then 8 else if mask == ATTRS_CHANGE_AND_SIZE then 16 else 0

abbrev pub are_told : List ℕ → List ℕ → List ℕ → Bool
are_told (asked ∷ []) (told ∷ []) values = (told == asked) && (length values == values_size asked)
are_told _ _ values = false

abbrev pub answer_tells : List ℕ → Answer Attributes → Bool
answer_tells asked (Done told) = are_told asked told.mask told.values
answer_tells asked (Refused refused) = true

abbrev pub file_tells : List ℕ → FileRes → Bool
file_tells asked (results.GetAttr answer) = answer_tells asked answer
file_tells asked _ = true

abbrev pub res_tells : List ℕ → Res → Bool
res_tells asked (answers.File res) = file_tells asked res
res_tells asked _ = true

abbrev pub file_has_attributes : FileArg → Res → Bool
file_has_attributes (files.GetAttr asked) res = res_tells asked res
file_has_attributes _ res = true

abbrev pub has_attributes : Op → Res → Bool
has_attributes (called.Copy arg) res = true
has_attributes (called.File arg) res = file_has_attributes arg res

-- ---- the results of a call

abbrev pub is_result : Op → Res → Bool
is_result op res = (res_number res == op_number op) && has_attributes op res

-- results behind those that were told with status 0
abbrev pub go_on : List Op → ℕ → List Res → Bool
go_on [] status [] = status == 0
go_on [] status (res ∷ more) = false
go_on (op ∷ ops) status [] = false
go_on (op ∷ ops) status (res ∷ more) =
    is_result op res
    && (if (res_status res).number == 0 then go_on ops status more else (length more == 0) && (status == (res_status res).number))

abbrev pub is_told : List Op → ℕ → List Res → Bool
is_told ops status [] = not (status == 0)
is_told ops status (res ∷ more) = go_on ops status (res ∷ more)

unfoldable pub is_answer : List Op → Reply → Bool
is_answer ops reply = is_told ops reply.status.number reply.results
