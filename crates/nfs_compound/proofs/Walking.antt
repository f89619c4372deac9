-- An evaluation that goes on from what was evaluated before.
use Rattle.std.proofs.Common.{◌≡◌, ℕ, Bool, true, false, eqb, List, [], ◌∷◌, ◌++◌, Option, refl, sym, ap, subst, append_assoc, inl, inr, ◌∙◌, drop, length, get_or, ◌+◌, ◌<◌, ◌≤◌, add-one}
use Rattle.std.proofs.Math.Seq.{drop-cons}
use Rattle.std.proofs.lemmas.List.{drop_all, append-nil}
use Rattle.std.proofs.lemmas.Bool.{eqb-true, eq-eqb, ne_eqb}
use Rattle.std.specs.Prelude.{MatchBool}
use Rattle.std.specs.List.{AllByRecursion}
use Rattle.nfs_compound.specs.declared.op.Op.{Op}
use Rattle.nfs_compound.specs.declared.res.Res.{Res}
use Rattle.nfs_compound.specs.declared.held.Held.{Held}
use Rattle.nfs_compound.specs.declared.tail.Tail.{Tail}
use Rattle.nfs_compound.specs.declared.tail.Tail.TheVariants.{Whole, Unreadable, Unsupported, Illegal}
use Rattle.nfs_compound.specs.Ops.{op_number}
use Rattle.nfs_compound.specs.Results.{res_number, res_status, outcome}
use Rattle.nfs_compound.specs.Walk.{next_number, last_status, AnswersTail, Walks, BreaksOff}

abbrev pub Acts : Type 0 → Type 1
Acts S = S → Op → Option ℕ → Held → Res → Held → S → Type 0

-- What follows these operations makes, with the results before, an evaluation of all.
pub record Continues {S : Type 0} (acts : Acts S) (tail : Tail) (first : S) (held : Held) (ops : List Op) (before : List Res) (actor : S) (now : Held) (left : List Op) : Type 0 where
  pub walks : (more : List Res) (last : S) → Walks acts tail actor now left more last → Walks acts tail first held ops (before ++ more) last
  pub breaks : (last : S) → BreaksOff acts actor now left last → BreaksOff acts first held ops last

pub begins : {S : Type 0} (acts : Acts S) (tail : Tail) (first : S) (held : Held) (ops : List Op) → Continues acts tail first held ops [] first held ops
begins acts tail first held ops = record { walks = λ more last w. w; breaks = λ last b. b }

-- one more was answered with status 0
pub goes_on : {S : Type 0} (acts : Acts S) (tail : Tail) (first : S) (held : Held) (ops : List Op) (before : List Res) (actor : S) (now : Held) (op : Op) (left : List Op) (res : Res) (after : S) (then_held : Held)
    → Continues acts tail first held ops before actor now (op ∷ left) → acts actor op (next_number left) now res then_held after → res_number res ≡ op_number op → eqb (res_status res).number 0 ≡ true
    → Continues acts tail first held ops (before ++ res ∷ []) after then_held left
goes_on acts tail first held ops before actor now op left res after then_held so_far acted number ok = record {
  walks = λ more last w.
      subst (λ (results : List Res). Walks acts tail first held ops results last) (sym (append_assoc before (res ∷ []) more))
      (so_far.walks (res ∷ more) last (after, then_held, acted, number, subst (λ (b : Bool). MatchBool b (Walks acts tail after then_held left more last) ((more ≡ []) × (last ≡ after))) (sym ok) w));
  breaks = λ last b. so_far.breaks last (inr (res, after, then_held, acted, eqb-true (res_status res).number 0 ok, b));
}

-- nothing stands behind a status other than 0
no_more : (P : Type 0) {S : Type 0} (b : Bool) (after : S) (none : List Res) → b ≡ false → none ≡ [] → MatchBool b P ((none ≡ []) × (after ≡ after))
no_more P true after none e is = absurd cc
no_more P false after none e is = (is, refl)

-- one more was answered with another status
pub stops : {S : Type 0} (acts : Acts S) (tail : Tail) (first : S) (held : Held) (ops : List Op) (before : List Res) (actor : S) (now : Held) (op : Op) (left : List Op) (res : Res) (after : S) (then_held : Held)
    → Continues acts tail first held ops before actor now (op ∷ left) → acts actor op (next_number left) now res then_held after → res_number res ≡ op_number op → eqb (res_status res).number 0 ≡ false
    → Walks acts tail first held ops (before ++ res ∷ []) after
stops acts tail first held ops before actor now op left res after then_held so_far acted number failed =
    so_far.walks (res ∷ []) after (after, then_held, acted, number, no_more (Walks acts tail after then_held left [] after) (eqb (res_status res).number 0) after [] failed refl)

-- memory ran out before the next
pub breaks_here : {S : Type 0} (acts : Acts S) (actor : S) (now : Held) (left : List Op) → BreaksOff acts actor now left actor
breaks_here acts actor now [] = refl
breaks_here acts actor now (op ∷ left) = inl refl

pub breaks : {S : Type 0} (acts : Acts S) (tail : Tail) (first : S) (held : Held) (ops : List Op) (before : List Res) (actor : S) (now : Held) (left : List Op)
    → Continues acts tail first held ops before actor now left → BreaksOff acts first held ops actor
breaks acts tail first held ops before actor now left so_far = so_far.breaks actor (breaks_here acts actor now left)

-- ---- by places

-- the operation at a place, and those behind it
step_at : (ops : List Op) (place : ℕ) (d : Op) → place < length ops → drop place ops ≡ get_or ops place d ∷ drop (place + 1) ops
step_at ops place d lt = rw add-one (drop-cons ops place d lt)

from_place : {S : Type 0} (acts : Acts S) (tail : Tail) (first : S) (held : Held) (ops slice : List Op) (before : List Res) (actor : S) (now : Held) (place : ℕ) (op : Op)
    → slice ≡ ops → op ≡ get_or slice place op → Continues acts tail first held ops before actor now (drop place ops) → place < length slice
    → Continues acts tail first held ops before actor now (op ∷ drop (place + 1) slice)
from_place acts tail first held ops slice before actor now place op is here so_far lt =
    let left : drop place ops ≡ op ∷ drop (place + 1) slice = ap (drop place) (sym is) ∙ step_at slice place op lt ∙ ap (λ (x : Op). x ∷ drop (place + 1) slice) (sym here) in
    subst (λ (left : List Op). Continues acts tail first held ops before actor now left) left so_far

pub goes_on_at : {S : Type 0} (acts : Acts S) (tail : Tail) (first : S) (held : Held) (ops slice : List Op) (before : List Res) (actor : S) (now : Held) (place : ℕ) (op : Op) (next : Option ℕ) (res : Res) (after : S) (then_held : Held)
    → slice ≡ ops → op ≡ get_or slice place op → Continues acts tail first held ops before actor now (drop place ops) → place < length slice → next ≡ next_number (drop (place + 1) slice)
    → acts actor op next now res then_held after → res_number res ≡ op_number op → (res_status res).number ≡ 0 → Continues acts tail first held ops (before ++ res ∷ []) after then_held (drop (place + 1) ops)
goes_on_at acts tail first held ops slice before actor now place op next res after then_held is here so_far lt next_is acted number ok =
    subst (λ (all : List Op). Continues acts tail first held ops (before ++ res ∷ []) after then_held (drop (place + 1) all)) is
    (goes_on acts tail first held ops before actor now op (drop (place + 1) slice) res after then_held
    (from_place acts tail first held ops slice before actor now place op is here so_far lt)
    (subst (λ (n : Option ℕ). acts actor op n now res then_held after) next_is acted) number (eq-eqb (res_status res).number 0 ok))

pub stops_at : {S : Type 0} (acts : Acts S) (tail : Tail) (first : S) (held : Held) (ops slice : List Op) (before : List Res) (actor : S) (now : Held) (place : ℕ) (op : Op) (next : Option ℕ) (res : Res) (after : S) (then_held : Held)
    → slice ≡ ops → op ≡ get_or slice place op → Continues acts tail first held ops before actor now (drop place ops) → place < length slice → next ≡ next_number (drop (place + 1) slice)
    → acts actor op next now res then_held after → res_number res ≡ op_number op → ((res_status res).number ≡ 0 → ⊥) → Walks acts tail first held ops (before ++ res ∷ []) after
stops_at acts tail first held ops slice before actor now place op next res after then_held is here so_far lt next_is acted number failed =
    stops acts tail first held ops before actor now op (drop (place + 1) slice) res after then_held (from_place acts tail first held ops slice before actor now place op is here so_far lt)
    (subst (λ (n : Option ℕ). acts actor op n now res then_held after) next_is acted) number (ne_eqb (res_status res).number 0 failed)

-- all were answered with status 0
pub ends : {S : Type 0} (acts : Acts S) (tail : Tail) (first : S) (held : Held) (ops : List Op) (before : List Res) (actor : S) (now : Held) (place : ℕ) (more : List Res)
    → Continues acts tail first held ops before actor now (drop place ops) → length ops ≤ place → AnswersTail tail more → Walks acts tail first held ops (before ++ more) actor
ends {S} acts tail first held ops before actor now place more so_far le answered =
    let none : drop place ops ≡ [] = drop_all place ops le in
    so_far.walks more actor (subst (λ (left : List Op). Walks acts tail actor now left more actor) (sym none) (answered, refl))

pub ends_whole : {S : Type 0} (acts : Acts S) (tail : Tail) (first : S) (held : Held) (ops : List Op) (before : List Res) (actor : S) (now : Held) (place : ℕ)
    → Continues acts tail first held ops before actor now (drop place ops) → length ops ≤ place → AnswersTail tail [] → Walks acts tail first held ops before actor
ends_whole acts tail first held ops before actor now place so_far le answered =
    subst (λ (results : List Res). Walks acts tail first held ops results actor) (append-nil before) (ends acts tail first held ops before actor now place [] so_far le answered)

-- the last result's status
pub last_is : (before : List Res) (res : Res) → last_status (before ++ res ∷ []) ≡ res_status res
last_is [] res = refl
last_is (one ∷ []) res = refl
last_is (one ∷ two ∷ before) res = last_is (two ∷ before) res

pub all_on : (P : Res → Type 0) (before : List Res) (res : Res) → AllByRecursion P before → P res → AllByRecursion P (before ++ res ∷ [])
all_on P [] res all fits = (fits, tt)
all_on P (one ∷ before) res all fits = (all.0, all_on P before res all.1 fits)

-- what answers a tail has a spelling
pub tail_fits : (tail : Tail) (res : Res) → AnswersTail tail (res ∷ []) → outcome.Fits res
tail_fits Whole res h = absurd cc
tail_fits (Unreadable place op at) res h = let same : h.0 ≡ res = cc in subst outcome.Fits same h.2.fits
tail_fits (Unsupported place op) res h = let same : h.0 ≡ res = cc in subst outcome.Fits same h.2.fits
tail_fits (Illegal place op) res h = let same : h.0 ≡ res = cc in subst outcome.Fits same h.2.fits
