-- A body carries what is told of it exactly where it is that, spelled and sealed.
use Rattle.std.specs.Prelude.{◌≡◌, ◌↔◌, ℕ, ◌+◌, ◌<◌, ◌≤◌, Bool, true, false, if◌then◌else◌, List, ◌++◌, length, take, drop, bytes_eq, Option, None, Some, refl}
use Rattle.std.proofs.Common.{sym, ◌∙◌, ap, arith}
use Rattle.std.proofs.lemmas.List.{take-append-drop, length-append}
use Rattle.std.proofs.lemmas.Slice.Eq.{bytes_eq-Decides}
use Rattle.wire_xdr.specs.Cursor.{IsBytes}
use Rattle.wire_xdr.specs.Form.{Spells}
use Rattle.wire_xdr.specs.Words.{word_bytes, opaque_bytes}
use Rattle.wire_xdr.specs.All.{value_of}
use Rattle.std.specs.Result.{result_ok}
use Rattle.wire_xdr.specs.AllLaws.{value_spelled, spelled_all}
use Rattle.wire_xdr.specs.LengthLaws.{word_length}
use Rattle.gss_ctx.specs.Seals.{sealed_body, two_opaques, payload_of, unsealed}

pub word_front : (seq : ℕ) (bytes : List ℕ) → take 4 (word_bytes seq ++ bytes) ≡ word_bytes seq
unfolding word_bytes
word_front seq bytes = refl

pub word_behind : (seq : ℕ) (bytes : List ℕ) → drop 4 (word_bytes seq ++ bytes) ≡ bytes
unfolding word_bytes
word_behind seq bytes = refl

pub same_bytes : (xs : List ℕ) → bytes_eq xs xs ≡ true
same_bytes xs = (bytes_eq-Decides xs xs).1 refl

both_hold : (a b : Bool) (x y : List ℕ) → (if b then (if a then Some x else None) else None) ≡ Some y → (a ≡ true) × (b ≡ true) × (x ≡ y)
both_hold true true x y h = (refl, refl, cc)
both_hold false true x y h = let wrong : ⊥ = cc in absurd wrong
both_hold a false x y h = let wrong : ⊥ = cc in absurd wrong

from_parts : (code : List ℕ → List ℕ) (seq : ℕ) (parts : Option (List ℕ × List ℕ)) (carried : List ℕ) → payload_of code seq parts ≡ Some carried
    → (p : List ℕ × List ℕ) × (parts ≡ Some p) × (p.0 ≡ word_bytes seq ++ carried) × (p.1 ≡ code p.0)
from_parts code seq None carried h = let wrong : ⊥ = cc in absurd wrong
from_parts code seq (Some p) carried h =
    let t = both_hold (bytes_eq (take 4 p.0) (word_bytes seq)) (bytes_eq p.1 (code p.0)) (drop 4 p.0) carried h in
    let front : take 4 p.0 ≡ word_bytes seq = (bytes_eq-Decides (take 4 p.0) (word_bytes seq)).0 t.0 in
    let right : p.1 ≡ code p.0 = (bytes_eq-Decides p.1 (code p.0)).0 t.1 in
    (p, refl, sym (take-append-drop 4 p.0) ∙ ap (λ (f : List ℕ). f ++ drop 4 p.0) front ∙ ap (λ (b : List ℕ). word_bytes seq ++ b) t.2, right)

carries : (code : List ℕ → List ℕ) (seq : ℕ) (body carried : List ℕ) → IsBytes body → unsealed code seq body ≡ Some carried → body ≡ sealed_body code seq carried
unfolding unsealed two_opaques
carries code seq body carried fits h =
    let parts = from_parts code seq (value_of two_opaques body) carried h in
    let p = parts.0 in
    let spelled : Spells two_opaques p body = (value_spelled two_opaques p body fits).0 parts.1 in
    let code_is : p.1 ≡ code (word_bytes seq ++ carried) = parts.3 ∙ ap code parts.2 in
    spelled.1 ∙ ap (λ (b : List ℕ). opaque_bytes b ++ opaque_bytes p.1) parts.2 ∙ ap (λ (b : List ℕ). opaque_bytes (word_bytes seq ++ carried) ++ opaque_bytes b) code_is

told : (code : List ℕ → List ℕ) (seq : ℕ) (carried : List ℕ) → payload_of code seq (Some (word_bytes seq ++ carried, code (word_bytes seq ++ carried))) ≡ Some carried
told code seq carried =
    rw (same_bytes (code (word_bytes seq ++ carried)), word_front seq carried, same_bytes (word_bytes seq), word_behind seq carried) refl

pub carried_by : (code : List ℕ → List ℕ) (seq : ℕ) (body carried : List ℕ) → ((bytes : List ℕ) → length (code bytes) ≡ 32) → length carried + 4 < 4294967296
    → body ≡ sealed_body code seq carried → unsealed code seq body ≡ Some carried
unfolding unsealed two_opaques
carried_by code seq body carried sized small e =
    let text = word_bytes seq ++ carried in
    let p : List ℕ × List ℕ = (text, code text) in
    let short : length text ≤ 4294967295 = omega (arith, length-append (word_bytes seq) carried, word_length seq) in
    let whole : value_of two_opaques body ≡ Some p = ap result_ok (spelled_all two_opaques p body ((short, omega (arith, sized text)), e)) in
    ap (payload_of code seq) whole ∙ told code seq carried

pub sealed_is : (code : List ℕ → List ℕ) (seq : ℕ) (body carried : List ℕ) → ((bytes : List ℕ) → length (code bytes) ≡ 32) → IsBytes body → length carried + 4 < 4294967296
    → (unsealed code seq body ≡ Some carried) ↔ (body ≡ sealed_body code seq carried)
sealed_is code seq body carried sized fits small = (λ h. carries code seq body carried fits h, λ e. carried_by code seq body carried sized small e)
