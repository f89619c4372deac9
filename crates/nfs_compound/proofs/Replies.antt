-- The reply to a compound that was read may be written.
use Rattle.std.proofs.Common.{◌≡◌, ℕ, zero, suc, ◌+◌, ◌≤◌, ◌<◌, ◌^◌, Bool, true, false, List, [], ◌∷◌, length, Result, sym, subst, arith}
use Rattle.std.specs.Prelude.{MatchBool, ◌==◌}
use Rattle.std.specs.List.{AllByRecursion}
use Rattle.nfs_base.specs.declared.limits.TheConstants.{TEXT_LIMIT}
use Rattle.nfs_base.specs.declared.status.Status.{Status}
use Rattle.nfs_base.specs.Forms.{status}
use Rattle.wire_xdr.specs.Cursor.{Cursor}
use Rattle.wire_xdr.specs.Form.{Form}
use Rattle.nfs_compound.specs.declared.tail.Tail.{Tail}
use Rattle.nfs_compound.specs.declared.tail.Tail.TheVariants.{Whole, Unreadable, Unsupported, Illegal}
use Rattle.nfs_compound.specs.declared.op.Op.{Op}
use Rattle.nfs_compound.specs.declared.res.Res.{Res}
use Rattle.nfs_compound.specs.declared.held.Held.{Held}
use Rattle.nfs_compound.specs.declared.compound.Compound.{Compound}
use Rattle.nfs_compound.specs.Body.{IsBody, one_at}
use Rattle.nfs_compound.specs.Ops.{op_class, op_arg, op_is_cut, operation}
use Rattle.nfs_compound.specs.Compounds.{IsCompound}
use Rattle.nfs_compound.specs.Results.{res_status, outcome, reply}
use Rattle.nfs_compound.specs.Walk.{AnswersTail, Walks}
use Rattle.nfs_compound.proofs.Walking.{Acts}

-- how many operations a tail stands for
abbrev unread : Tail → ℕ
unread Whole = 0
unread (Unreadable place op at) = 1
unread (Unsupported place op) = 1
unread (Illegal place op) = 1

one_at_most : (tail : Tail) → unread tail ≤ 1
one_at_most Whole = omega arith
one_at_most (Unreadable place op at) = omega arith
one_at_most (Unsupported place op) = omega arith
one_at_most (Illegal place op) = omega arith

by_test : {Ends More P : Type 0} (b : Bool) → MatchBool b Ends More → (Ends → P) → (More → P) → P
by_test true h ends more = ends h
by_test false h ends more = more h

-- so many operations are told, and the one behind them
body_length : {A : Type 0} (item : Form A) (one : ℕ → Cursor → Result (A × Cursor) Tail) (is_cut : A → Bool) (n place : ℕ) (c : Cursor) (vs : List A) (tail : Tail) → IsBody item one is_cut n place c vs tail → length vs + unread tail ≤ n
body_length item one is_cut zero place c [] tail h = subst (λ (t : Tail). 0 + unread t ≤ 0) (sym h.0) (omega arith)
body_length item one is_cut zero place c (v ∷ vs) tail h = absurd h
body_length item one is_cut (suc n) place c [] tail h = let most = one_at_most tail in omega arith
body_length {A} item one is_cut (suc n) place c (v ∷ vs) tail h =
    let none : (vs ≡ []) × (tail ≡ Whole) → length vs + unread tail ≤ n =
    λ ends. subst (λ (t : Tail). length vs + unread t ≤ n) (sym ends.1) (subst (λ (l : List A). length l + 0 ≤ n) (sym ends.0) (omega arith)) in
    let rest : length vs + unread tail ≤ n = by_test (is_cut v) h.3 none (body_length item one is_cut n (place + 1) h.0 vs tail) in
    omega arith

tail_length : (tail : Tail) (results : List Res) → AnswersTail tail results → length results ≤ unread tail
tail_length Whole results h = subst (λ (l : List Res). length l ≤ 0) (sym h) (omega arith)
tail_length (Unreadable place op at) results h = subst (λ (l : List Res). length l ≤ 1) (sym h.1) (omega arith)
tail_length (Unsupported place op) results h = subst (λ (l : List Res). length l ≤ 1) (sym h.1) (omega arith)
tail_length (Illegal place op) results h = subst (λ (l : List Res). length l ≤ 1) (sym h.1) (omega arith)

-- so many results there are at most
walks_length : {S : Type 0} (acts : Acts S) (tail : Tail) (actor : S) (held : Held) (ops : List Op) (results : List Res) (last : S) → Walks acts tail actor held ops results last → length results ≤ length ops + unread tail
walks_length acts tail actor held [] results last h = let few = tail_length tail results h.0 in omega (arith, few)
walks_length acts tail actor held (op ∷ ops) [] last h = absurd h
walks_length acts tail actor held (op ∷ ops) (res ∷ results) last h =
    let none : (results ≡ []) × (last ≡ h.0) → length results ≤ length ops + unread tail = λ ends. subst (λ (l : List Res). length l ≤ length ops + unread tail) (sym ends.0) (omega arith) in
    let rest : length results ≤ length ops + unread tail = by_test ((res_status res).number == 0) h.4 (walks_length acts tail h.0 h.1 ops results last) none in
    omega arith

pub walks_count : {S : Type 0} (acts : Acts S) (tail : Tail) (actor : S) (held : Held) (ops : List Op) (results : List Res) (last : S) → Walks acts tail actor held ops results last → length results ≤ length ops + 1
walks_count acts tail actor held ops results last h =
    let most = walks_length acts tail actor held ops results last h in
    let one = one_at_most tail in
    omega arith

pub reply_fits : {S : Type 0} (acts : Acts S) (actor : S) (held : Held) (c : Compound) (bytes tag : List ℕ) (of : Status) (results : List Res) (last : S) → Walks acts c.tail actor held c.ops results last
    → tag ≡ c.tag → of.number < 2 ^ 32 → AllByRecursion outcome.Fits results → IsCompound c bytes → reply.Fits (record { status = of; tag = tag; results = results })
unfolding reply status
reply_fits acts actor held c bytes tag of results last walks same number fits is =
    let most = walks_length acts c.tail actor held c.ops results last walks in
    let told = body_length operation (one_at op_class op_arg) op_is_cut c.count 0 is.behind c.ops c.tail is.body in
    let count = is.count in
    let few : length results ≤ 4294967295 = omega arith in
    (number, (subst (λ (t : List ℕ). length t ≤ TEXT_LIMIT) (sym same) is.fits.tag, (few, fits)))
