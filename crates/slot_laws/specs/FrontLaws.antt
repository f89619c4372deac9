-- The fronts of the replies that a server gives.
use Rattle.std.proofs.Common.{rules, ◌≡◌, inl, inr, ℕ, Bool, true, false, List, [], ◌∷◌, ◌++◌, length, refl, sym, ap, ◌∙◌, append_assoc, append-nil}
use Rattle.std.specs.Prelude.{◌==◌, if◌then◌else◌}
use Rattle.std.specs.List.{flat_map}
use Rattle.std.proofs.lemmas.Bool.{eqb-true}
use Rattle.copy_ops.specs.Forms.{copy_res, copy_answer}
use Rattle.file_ops.specs.declared.operation.TheConstants.{OP_CREATE_SESSION, OP_EXCHANGE_ID, OP_SEQUENCE}
use Rattle.file_ops.specs.declared.results.FileRes.TheVariants as results
use Rattle.file_ops.specs.declared.sessions.CreateSessionDone.{CreateSessionDone}
use Rattle.file_ops.specs.declared.sessions.ExchangeIdDone.{ExchangeIdDone}
use Rattle.file_ops.specs.declared.sessions.SequenceArgs.{SequenceArgs}
use Rattle.file_ops.specs.Results.{file_res}
use Rattle.file_ops.specs.Sessions as forms
use Rattle.nfs_base.specs.declared.answer.Answer.TheVariants.{Done}
use Rattle.nfs_base.specs.declared.status.Status.{Status}
use Rattle.nfs_base.specs.Forms.{status, answer}
use Rattle.nfs_compound.specs.declared.res.Res.{Res}
use Rattle.nfs_compound.specs.declared.res.Res.TheVariants.{File}
use Rattle.nfs_compound.specs.Results.{outcome, reply, res_body}
use Rattle.wire_xdr.specs.Parts.{list_spell}
use Rattle.wire_xdr.specs.Words.{word_bytes, opaque_bytes}
use Rattle.compound_server.specs.Compounds.{sequence_done}
use Rattle.compound_server.specs.Refusals.{Refusing, refusings, refused_among, refused}
use Rattle.slot_laws.specs.Fronts.{HasFront, HasNoResult, IsFailure, IsOther, SaysNotRun}

-- ---- a result stands behind the reply's status, the tag and the count

pub record IsSpelled (op number : ℕ) (res : Res) : Type 0 where
  pub rest : List ℕ
  pub is : outcome.spell res ≡ word_bytes op ++ (word_bytes number ++ rest)

reply_is : (s : Status) (tag : List ℕ) (rs : List Res)
    → reply.spell (record { status = s; tag = tag; results = rs }) ≡ word_bytes s.number ++ (opaque_bytes tag ++ (word_bytes (length rs) ++ flat_map outcome.spell rs))
unfolding reply list_spell status
reply_is s tag rs = refl

pub front_is : (op number : ℕ) (res : Res) → IsSpelled op number res → (s : Status) (tag : List ℕ) (rs : List Res)
    → HasFront tag op number (reply.spell (record { status = s; tag = tag; results = res ∷ rs }))
front_is op number res spelled s tag rs =
    let more = flat_map outcome.spell rs in
    let count = length (res ∷ rs) in
    record {
      last = s.number;
      count = count;
      rest = spelled.rest ++ more;
      is =
          reply_is s tag (res ∷ rs)
          ∙ ap (λ (bytes : List ℕ). word_bytes s.number ++ (opaque_bytes tag ++ (word_bytes count ++ bytes)))
          (ap (λ (bytes : List ℕ). bytes ++ more) spelled.is
          ∙ append_assoc (word_bytes op) (word_bytes number ++ spelled.rest) more
          ∙ ap (λ (bytes : List ℕ). word_bytes op ++ bytes) (append_assoc (word_bytes number) spelled.rest more));
    }

pub none_is : (s : Status) (tag : List ℕ) → HasNoResult tag (reply.spell (record { status = s; tag = tag; results = [] }))
none_is s tag = record {
  last = s.number;
  is = reply_is s tag [] ∙ ap (λ (bytes : List ℕ). word_bytes s.number ++ (opaque_bytes tag ++ bytes)) (append-nil (word_bytes 0));
}

-- ---- results of operations that were done

pub sequence_spelled : (a : SequenceArgs) → IsSpelled OP_SEQUENCE 0 (sequence_done a)
unfolding outcome res_body file_res answer word_bytes
sequence_spelled a = record { rest = _; is = refl }

pub exchange_spelled : (d : ExchangeIdDone) → IsSpelled OP_EXCHANGE_ID 0 (File (results.ExchangeId (Done d)))
unfolding outcome res_body file_res answer word_bytes
exchange_spelled d = record { rest = forms.exchange_id_done.spell d; is = refl }

pub create_spelled : (d : CreateSessionDone) → IsSpelled OP_CREATE_SESSION 0 (File (results.CreateSession (Done d)))
unfolding outcome res_body file_res answer word_bytes
create_spelled d = record { rest = forms.create_session_done.spell d; is = refl }

-- ---- results that are a status alone

ArePlain : List Refusing → Type 0
ArePlain [] = Unit {0}
ArePlain (r ∷ rs) = ((s : Status) → outcome.spell (r.res s) ≡ word_bytes r.op ++ word_bytes s.number) × ArePlain rs

all_plain : ArePlain refusings
unfolding ArePlain outcome res_body file_res copy_res copy_answer answer status word_bytes
all_plain = search rules

chosen_spelled : (test : Bool) (x y : Res) (text : List ℕ) → (test ≡ true → outcome.spell x ≡ text) → (test ≡ false → outcome.spell y ≡ text)
    → outcome.spell (if test then x else y) ≡ text
chosen_spelled true x y text first second = first refl
chosen_spelled false x y text first second = second refl

among_spelled : (rs : List Refusing) → ArePlain rs → (op : ℕ) (s : Status) → outcome.spell (refused_among rs op s) ≡ word_bytes op ++ word_bytes s.number
unfolding ArePlain outcome res_body status word_bytes
among_spelled [] plain op s = refl
among_spelled (r ∷ rs) plain op s =
    chosen_spelled (op == r.op) (r.res s) (refused_among rs op s) (word_bytes op ++ word_bytes s.number)
    (λ e. plain.0 s ∙ ap (λ (n : ℕ). word_bytes n ++ word_bytes s.number) (sym (eqb-true op r.op e)))
    (λ e. among_spelled rs plain.1 op s)

pub refused_spelled : (op : ℕ) (s : Status) → IsSpelled op s.number (refused op s)
unfolding refused
refused_spelled op s = record {
  rest = [];
  is =
      among_spelled refusings all_plain op s
      ∙ ap (λ (bytes : List ℕ). word_bytes op ++ bytes) (sym (append-nil (word_bytes s.number)));
}

-- ---- replies

-- one result, of another operation than SEQUENCE
pub other_told : (op number : ℕ) (res : Res) → IsSpelled op number res → IsOther op → (s : Status) (tag : List ℕ)
    → SaysNotRun tag (reply.spell (record { status = s; tag = tag; results = res ∷ [] }))
other_told op number res spelled other s tag =
    inr (record { op = op; status = number; front = front_is op number res spelled s tag []; cause = inl other })

-- one operation that is answered by a status other than 0
pub failure_told : (op : ℕ) (failed : Status) → IsFailure failed.number → (s : Status) (tag : List ℕ)
    → SaysNotRun tag (reply.spell (record { status = s; tag = tag; results = refused op failed ∷ [] }))
failure_told op failed fails s tag =
    inr (record { op = op; status = failed.number; front = front_is op failed.number (refused op failed) (refused_spelled op failed) s tag []; cause = inr fails })
