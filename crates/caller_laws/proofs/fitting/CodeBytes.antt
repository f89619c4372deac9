-- What is drawn by a counter is bytes.
use Rattle.std.proofs.Common.{◌≡◌, ℕ, zero, suc, ◌*◌, List, length, refl, arith}
use Rattle.std.proofs.lemmas.List.{length-append}
use Rattle.std.specs.Int.{to_be_bytes, w32}
use Rattle.std.specs.Prelude.{slice_index}
use Rattle.caller_laws.specs.Fitting.Bounds.{FixedFits}
use Rattle.gss_mech.specs.BytesLaws.{digest_are}
use Rattle.sha2.specs.Sha256.{digest_bytes, sha256}
use Rattle.streams.specs.Draws.{counted_draw}

digest_sized : (h : List ℕ) (n : ℕ) → length (digest_bytes h n) ≡ 4 * n
unfolding digest_bytes
digest_sized h zero = refl
digest_sized h (suc n) =
    let last : length (to_be_bytes w32 (slice_index h n)) ≡ 4 = refl in
    omega (arith, length-append (digest_bytes h n) (to_be_bytes w32 (slice_index h n)), digest_sized h n, last)

pub draws_are : (count : ℕ) → FixedFits 32 (counted_draw count)
unfolding sha256
draws_are count = record { size_is = digest_sized _ 8; are_bytes = digest_are _ 8 }
