-- The evaluation of a compound: its operations in order, each with what those before it left, up to the first
-- whose status isn't 0 (RFC 8881 section 16.2.3).
use Rattle.std.specs.Prelude.{◌≡◌, ◌==◌, ◌⊎◌, ℕ, List, [], ◌∷◌, Option, Some, None, MatchBool}
use Rattle.nfs_base.specs.declared.status.Status.{Status}
use Rattle.nfs_base.specs.declared.status.TheConstants.Status as statuses
use Rattle.file_ops.specs.declared.operation.TheConstants.{OP_ILLEGAL}
use Rattle.nfs_compound.specs.declared.op.Op.{Op}
use Rattle.nfs_compound.specs.declared.res.Res.{Res}
use Rattle.nfs_compound.specs.declared.held.Held.{Held}
use Rattle.nfs_compound.specs.declared.tail.Tail.{Tail}
use Rattle.nfs_compound.specs.declared.tail.Tail.TheVariants.{Whole, Unreadable, Unsupported, Illegal}
use Rattle.nfs_compound.specs.Ops.{op_number}
use Rattle.nfs_compound.specs.Results.{res_number, res_status, IsRefusal}

-- nothing is held before the first operation
abbrev pub nothing_held : Held
nothing_held = record { current = None; saved = None; id = None; saved_id = None }

-- the number of the operation that stands first
abbrev pub next_number : List Op → Option ℕ
next_number [] = None
next_number (op ∷ ops) = Some (op_number op)

-- the status of the last result, and 0 where there is none
abbrev pub last_status : List Res → Status
last_status [] = statuses.OK
last_status (res ∷ []) = res_status res
last_status (res ∷ next ∷ results) = last_status (next ∷ results)

-- Where all operations that were read are answered with status 0, what answers the one behind them: BADXDR,
-- NOTSUPP, or OP_ILLEGAL under the number of ILLEGAL. Nothing stands behind those of a whole compound.
abbrev pub AnswersTail : Tail → List Res → Type 0
AnswersTail Whole results = results ≡ []
AnswersTail (Unreadable place op at) results = (res : Res) × (results ≡ res ∷ []) × IsRefusal op statuses.BADXDR.number res
AnswersTail (Unsupported place op) results = (res : Res) × (results ≡ res ∷ []) × IsRefusal op statuses.NOTSUPP.number res
AnswersTail (Illegal place op) results = (res : Res) × (results ≡ res ∷ []) × IsRefusal OP_ILLEGAL statuses.OP_ILLEGAL.number res

-- The operations are evaluated from a state of the actor, with what is held, to these results and to the actor's
-- last state. `acts` says how an actor may answer one. A result stands under its operation's number. Behind a
-- status other than 0 nothing is evaluated.
abbrev pub Walks : {S : Type 0} → (S → Op → Option ℕ → Held → Res → Held → S → Type 0) → Tail → S → Held → List Op → List Res → S → Type 0
Walks acts tail actor held [] results last = AnswersTail tail results × (last ≡ actor)
Walks acts tail actor held (op ∷ ops) [] last = ⊥
Walks {S} acts tail actor held (op ∷ ops) (res ∷ results) last =
    (after : S) × (left : Held) × acts actor op (next_number ops) held res left after × (res_number res ≡ op_number op)
    × MatchBool ((res_status res).number == 0) (Walks acts tail after left ops results last) ((results ≡ []) × (last ≡ after))

-- Operations at the front were answered with status 0 in the same way, and then memory ran out.
abbrev pub BreaksOff : {S : Type 0} → (S → Op → Option ℕ → Held → Res → Held → S → Type 0) → S → Held → List Op → S → Type 0
BreaksOff acts actor held [] last = last ≡ actor
BreaksOff {S} acts actor held (op ∷ ops) last = (last ≡ actor) ⊎ (
    (res : Res) × (after : S) × (left : Held) × acts actor op (next_number ops) held res left after
    × ((res_status res).number ≡ 0) × BreaksOff acts after left ops last
    )
