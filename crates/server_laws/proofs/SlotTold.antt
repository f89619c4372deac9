-- What a reply to a COMPOUND says of whether its operations ran, as it is read back.
use Rattle.std.proofs.Common.{◌≡◌, ◌⊎◌, inl, inr, ℕ, ◌%◌, ◌^◌, ◌<◌, ◌≤◌, List, ◌++◌, length, false, sym, ap, ◌∙◌, arith}
use Rattle.std.specs.Prelude.{◌≢◌}
use Rattle.file_ops.specs.declared.operation.TheConstants.{OP_SEQUENCE}
use Rattle.nfs_base.specs.declared.limits.TheConstants.{TEXT_LIMIT}
use Rattle.slot_laws.specs.Fronts.{IsFailure, IsOther, SaysNotRun}
use Rattle.wire_spelling.specs.Replies.{has_run}
use Rattle.wire_spelling.specs.RunLaws.{begun_with, none_run, not_run_with}
use Rattle.wire_xdr.specs.Words.{opaque_bytes, word_bytes}

-- a number past all words is spelled as the word that is left of it
word_left : (n : ℕ) → word_bytes n ≡ word_bytes (n % 2 ^ 32)
unfolding word_bytes
word_left n = grind arith

front_left : (last : ℕ) (tag : List ℕ) (count op status : ℕ) (rest : List ℕ)
    → begun_with last tag count op status rest ≡ begun_with (last % 2 ^ 32) tag (count % 2 ^ 32) (op % 2 ^ 32) (status % 2 ^ 32) rest
front_left last tag count op status rest =
    ap (λ (w : List ℕ). w ++ (opaque_bytes tag ++ (word_bytes count ++ (word_bytes op ++ (word_bytes status ++ rest))))) (word_left last)
    ∙ ap (λ (w : List ℕ). word_bytes (last % 2 ^ 32) ++ (opaque_bytes tag ++ (w ++ (word_bytes op ++ (word_bytes status ++ rest))))) (word_left count)
    ∙ ap (λ (w : List ℕ). word_bytes (last % 2 ^ 32) ++ (opaque_bytes tag ++ (word_bytes (count % 2 ^ 32) ++ (w ++ (word_bytes status ++ rest))))) (word_left op)
    ∙ ap (λ (w : List ℕ). word_bytes (last % 2 ^ 32) ++ (opaque_bytes tag ++ (word_bytes (count % 2 ^ 32) ++ (word_bytes (op % 2 ^ 32) ++ (w ++ rest))))) (word_left status)

same_left : (n : ℕ) → n < 2 ^ 32 → n % 2 ^ 32 ≡ n
same_left n small = omega (arith, small)

cause_left : (op status : ℕ) → IsOther op ⊎ IsFailure status → ((op % 2 ^ 32) ≢ OP_SEQUENCE) ⊎ ((status % 2 ^ 32) ≢ 0)
cause_left op status (inl other) = inl (λ e. other.1 (sym (same_left op other.0) ∙ e))
cause_left op status (inr fails) = inr (λ e. fails.1 (sym (same_left status fails.0) ∙ e))

-- where a reply doesn't say that operations ran, nothing else is read from it
pub not_run : (tag body : List ℕ) → length tag ≤ TEXT_LIMIT → SaysNotRun tag body → has_run body ≡ false
not_run tag body short (inl none) =
    ap has_run (none.is ∙ ap (λ (w : List ℕ). w ++ (opaque_bytes tag ++ word_bytes 0)) (word_left none.last))
    ∙ none_run (none.last % 2 ^ 32) tag (omega arith) short
not_run tag body short (inr other) =
    let f = other.front in
    ap has_run (f.is ∙ front_left f.last tag f.count other.op other.status f.rest)
    ∙ not_run_with (f.last % 2 ^ 32) tag (f.count % 2 ^ 32) (other.op % 2 ^ 32) (other.status % 2 ^ 32) f.rest
    (record { status_small = omega arith; tag_short = short; count_small = omega arith; op_small = omega arith; first_small = omega arith })
    (cause_left other.op other.status other.cause)
