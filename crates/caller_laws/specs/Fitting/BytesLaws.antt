-- What is spelled is bytes, and of bytes each part is.
use Rattle.std.proofs.Common.{◌≡◌, ℕ, ◌<◌, Bool, true, List, [], ◌∷◌, ◌++◌, length, replicate, refl, subst}
use Rattle.std.proofs.lemmas.Bool.{and_parts, ltb-true}
use Rattle.std.specs.Prelude.{◌&&◌, nat_lt}
use Rattle.std.specs.List.{AllByRecursion, flat_map}
use Rattle.std.proofs.lemmas.List.{drop_at, take_at}
use Rattle.gss_mech.specs.BytesLaws.{fixed_are, glued, high_first, no_bytes, one_more, opaque_are, word_are}
use Rattle.nfs_base.specs.Forms.{state_id}
use Rattle.nfs_base.specs.declared.state_id.StateId.{StateId}
use Rattle.wire_xdr.specs.Cursor.{IsBytes}
use Rattle.wire_xdr.specs.Form.{Form}
use Rattle.wire_xdr.specs.Parts.{list_spell}
use Rattle.wire_xdr.specs.StepLaws.{IsBytes-drop, IsBytes-take}
use Rattle.wire_xdr.specs.Words.{fixed_bytes, flag_bytes, hyper_bytes, opaque_bytes, padding, word_bytes}

-- a text that is there
unfoldable pub all_below : List ℕ → Bool
all_below [] = true
all_below (x ∷ xs) = nat_lt x 256 && all_below xs

pub below_are : (xs : List ℕ) → all_below xs ≡ true → IsBytes xs
unfolding all_below
below_are [] e = no_bytes
below_are (x ∷ xs) e =
    let parts = and_parts (nat_lt x 256) (all_below xs) e in
    one_more x xs (ltb-true x 256 parts.0) (below_are xs parts.1)

pub hyper_are : (n : ℕ) → IsBytes (hyper_bytes n)
unfolding hyper_bytes
hyper_are n = high_first 8 n

pub flag_are : (b : Bool) → IsBytes (flag_bytes b)
unfolding flag_bytes
flag_are b = word_are _

-- ---- lists

each_are : {A : Type 0} (form : Form A) (xs : List A) → AllByRecursion (λ x. IsBytes (form.spell x)) xs → IsBytes (flat_map form.spell xs)
each_are form [] h = no_bytes
each_are form (x ∷ xs) h = glued (form.spell x) (flat_map form.spell xs) h.0 (each_are form xs h.1)

pub list_are : {A : Type 0} (form : Form A) (xs : List A) → AllByRecursion (λ x. IsBytes (form.spell x)) xs → IsBytes (list_spell form xs)
unfolding list_spell
list_are form xs h = glued (word_bytes (length xs)) (flat_map form.spell xs) (word_are (length xs)) (each_are form xs h)

pub state_id_are : (id : StateId) → IsBytes (state_id.spell id)
unfolding state_id
state_id_are id =
    glued (word_bytes id.seqid) _ (word_are id.seqid)
    (glued (word_bytes id.kind) _ (word_are id.kind) (glued (word_bytes id.boot) (word_bytes id.number) (word_are id.boot) (word_are id.number)))

-- ---- of bytes each part is bytes

pub first_part : (xs ys : List ℕ) → IsBytes (xs ++ ys) → IsBytes xs
first_part xs ys h = subst IsBytes (take_at xs ys (length xs) refl) (IsBytes-take (length xs) (xs ++ ys) h)

pub second_part : (xs ys : List ℕ) → IsBytes (xs ++ ys) → IsBytes ys
second_part xs ys h = subst IsBytes (drop_at xs ys (length xs) refl) (IsBytes-drop (length xs) (xs ++ ys) h)

pub fixed_part : (bytes : List ℕ) → IsBytes (fixed_bytes bytes) → IsBytes bytes
unfolding fixed_bytes
fixed_part bytes h = first_part bytes (replicate (padding (length bytes)) 0) h

pub opaque_part : (bytes : List ℕ) → IsBytes (opaque_bytes bytes) → IsBytes bytes
unfolding opaque_bytes
opaque_part bytes h = fixed_part bytes (second_part (word_bytes (length bytes)) (fixed_bytes bytes) h)
