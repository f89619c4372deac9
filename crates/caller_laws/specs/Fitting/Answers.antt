-- Results whose numbers are below their bounds and whose handles, stateids and data are bytes within their limits: what a reply gives.
use Rattle.std.specs.Prelude.{◌<◌, ◌^◌, IfSome}
use Rattle.std.specs.List.{AllByRecursion}
use Rattle.caller_laws.specs.Fitting.Bounds.{FixedFits, NetLocFits}
use Rattle.copy_ops.specs.declared.res.CopyRes.{CopyRes}
use Rattle.copy_ops.specs.declared.res.CopyRes.TheVariants as copies
use Rattle.copy_ops.specs.declared.results.CopyAnswer.TheVariants as answers
use Rattle.file_ops.specs.declared.results.FileRes.{FileRes}
use Rattle.file_ops.specs.declared.results.FileRes.TheVariants as files
use Rattle.mount.specs.declared.taking.Told.TheVariants as tells
use Rattle.mount.specs.declared.taking.Told.{Told}
use Rattle.nfs_base.specs.Bounds.{HandleFits, StateIdFits}
use Rattle.nfs_base.specs.declared.answer.Answer.TheVariants.{Done}
use Rattle.nfs_compound.specs.declared.reply.Reply.{Reply}
use Rattle.nfs_compound.specs.declared.res.Res.{Res}
use Rattle.nfs_compound.specs.declared.res.Res.TheVariants.{Copy, File}
use Rattle.wire_xdr.specs.Cursor.{IsBytes}

abbrev pub FileResIsFit : FileRes → Type 0
FileResIsFit (files.Open (Done told)) = StateIdFits told.state_id
FileResIsFit (files.GetFh (Done handle)) = HandleFits handle
FileResIsFit (files.GetAttr (Done told)) = IsBytes told.values
FileResIsFit (files.Read (Done told)) = IsBytes told.bytes
FileResIsFit (files.ExchangeId (Done told)) = (told.client < 2 ^ 64) × (told.sequence < 2 ^ 32)
FileResIsFit (files.CreateSession (Done told)) = FixedFits 16 told.session
FileResIsFit _ = Unit {0}

abbrev pub CopyResIsFit : CopyRes → Type 0
CopyResIsFit (copies.Copy (answers.Done told)) = IfSome told.response.callback_id StateIdFits × (told.response.count < 2 ^ 64)
CopyResIsFit (copies.CopyNotify (Done told)) = StateIdFits told.id × AllByRecursion NetLocFits told.sources
CopyResIsFit (copies.OffloadStatus (Done told)) = told.count < 2 ^ 64
CopyResIsFit _ = Unit {0}

abbrev pub ResIsFit : Res → Type 0
ResIsFit (File res) = FileResIsFit res
ResIsFit (Copy res) = CopyResIsFit res
ResIsFit _ = Unit {0}

abbrev pub ReplyIsFit : Reply → Type 0
ReplyIsFit reply = AllByRecursion ResIsFit reply.results

-- what a record comes to
abbrev pub ToldIsFit : Told → Type 0
ToldIsFit (tells.Answer reply) = ReplyIsFit reply
ToldIsFit _ = Unit {0}
