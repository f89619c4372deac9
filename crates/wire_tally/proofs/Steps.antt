-- A text as it is walked over, byte by byte.
use Rattle.std.proofs.Common.{◌≡◌, ℕ, ◌+◌, ◌<◌, ◌≤◌, List, ◌∷◌, length, get_or, drop, slice_range, refl, sym, ap, ◌∙◌, add-one, drop-cons, ne_eqb}
use Rattle.std.proofs.Math.Nat.{sub_self}
use Rattle.std.proofs.lemmas.List.Edits.{between_more}
use Rattle.wire_tally.specs.Tally.{by_line, tally_from}
use Rattle.wire_tally.specs.declared.tally.Tally.{Tally}

next_byte : (text : List ℕ) (at : ℕ) → at < length text → drop at text ≡ get_or text at 0 ∷ drop (at + 1) text
next_byte text at inside = rw add-one (drop-cons text at 0 inside)

-- a line has begun behind its newline
pub line_ended : (text : List ℕ) (start at : ℕ) (t : Tally) → at < length text → get_or text at 0 ≡ 10
    → tally_from (slice_range text start at) (drop at text) t
    ≡ tally_from (slice_range text (at + 1) (at + 1)) (drop (at + 1) text) (by_line (slice_range text start at) t)
line_ended text start at t inside newline =
    ap (λ (rest : List ℕ). tally_from (slice_range text start at) rest t) (next_byte text at inside)
    ∙ rw (newline, sub_self (at + 1)) refl

-- a line goes on with another byte
pub line_goes_on : (text : List ℕ) (start at : ℕ) (t : Tally) → start ≤ at → at < length text → (get_or text at 0 ≡ 10 → ⊥)
    → tally_from (slice_range text start at) (drop at text) t ≡ tally_from (slice_range text start (at + 1)) (drop (at + 1) text) t
line_goes_on text start at t within inside other =
    ap (λ (rest : List ℕ). tally_from (slice_range text start at) rest t) (next_byte text at inside)
    ∙ rw (ne_eqb (get_or text at 0) 10 other)
    (ap (λ (line : List ℕ). tally_from line (drop (at + 1) text) t) (sym (between_more text start at 0 within inside)))
