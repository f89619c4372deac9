-- The results that tell of a volume have a spelling.
use Rattle.std.proofs.Common.{◌≡◌, ℕ, ◌<◌, ◌≤◌, ◌^◌, Bool, false, List, [], ◌∷◌, length, refl, ap, ne_eqb, arith}
use Rattle.std.specs.Prelude.{◌==◌, ◌||◌}
use Rattle.file_ops.specs.Args.{file_arg}
use Rattle.file_ops.specs.Files.{attributes, read_done}
use Rattle.file_ops.specs.Free.{zero_word}
use Rattle.file_ops.specs.Results.{file_res}
use Rattle.file_ops.specs.Sessions as forms
use Rattle.file_ops.specs.declared.args.FileArg.TheVariants as args
use Rattle.file_ops.specs.declared.files.ReadDone.{ReadDone}
use Rattle.file_ops.specs.declared.results.FileRes.TheVariants as files
use Rattle.file_ops.specs.declared.sessions.SequenceArgs.{SequenceArgs}
use Rattle.nfs_base.specs.Forms.{answer, status}
use Rattle.nfs_base.specs.declared.answer.Answer.TheVariants.{Done, Refused}
use Rattle.nfs_base.specs.declared.status.Status.{Status}
use Rattle.nfs_base.specs.declared.status.TheConstants.Status as statuses
use Rattle.nfs_compound.specs.Ops.{op_arg, operation}
use Rattle.nfs_compound.specs.Results.{outcome, res_body}
use Rattle.nfs_compound.specs.declared.op.Op.TheVariants as ops
use Rattle.nfs_compound.specs.declared.res.Res.TheVariants.{File}
use Rattle.slot_laws.specs.Fronts.{IsFailure}
use Rattle.compound_server.specs.Compounds.{sequence_done}

pub sequence_fits : (a : SequenceArgs) → operation.Fits (ops.File (args.Sequence a)) → outcome.Fits (sequence_done a)
unfolding operation op_arg file_arg forms.sequence_args outcome res_body file_res answer forms.sequence_done zero_word
sequence_fits a fits =
    let s = fits.1.2.1 in (
      omega arith,
      (refl, refl, (refl, (omega arith, refl, (s.0, (s.1.0, (s.1.1.0, (omega arith, (omega arith, (omega arith, tt))))))))),
    )

pub put_fits : outcome.Fits (File (files.PutFh statuses.OK))
unfolding outcome res_body file_res status
put_fits = (omega arith, (refl, refl, (refl, omega arith)))

-- another number than 0 is that of no listed arm
other_arm : (n : ℕ) → (n ≡ 0 → ⊥) → ((n == 0) || false) ≡ false
other_arm n other = ap (λ (b : Bool). b || false) (ne_eqb n 0 other)

pub read_refused_fits : (s : Status) → IsFailure s.number → outcome.Fits (File (files.Read (Refused s)))
unfolding outcome res_body file_res answer
read_refused_fits s fails = (omega arith, (refl, refl, (refl, (fails.0, other_arm s.number fails.1, tt))))

pub attributes_refused_fits : (s : Status) → IsFailure s.number → outcome.Fits (File (files.GetAttr (Refused s)))
unfolding outcome res_body file_res answer
attributes_refused_fits s fails = (omega arith, (refl, refl, (refl, (fails.0, other_arm s.number fails.1, tt))))

pub read_fits : (d : ReadDone) → length d.bytes ≤ 4294967295 → outcome.Fits (File (files.Read (Done d)))
unfolding outcome res_body file_res answer read_done
read_fits d few = (omega arith, (refl, refl, (refl, (omega arith, refl, (tt, few)))))

-- attributes of one word
pub attributes_fit : (word : ℕ) (values : List ℕ) → word < 2 ^ 32 → length values ≤ 4294967295
    → outcome.Fits (File (files.GetAttr (Done (record { mask = word ∷ []; values = values }))))
unfolding outcome res_body file_res answer attributes
attributes_fit word values small few =
    (omega arith, (refl, refl, (refl, (omega arith, refl, ((omega arith, (small, tt)), few)))))
